-- Laws about the definitions of specs/. Assumes nothing.
-- digits and what they spell, byte by byte
pub mod Spelling
-- two texts of the same number are the same, if each is as a number is written
pub mod OneSpelling
-- a number in decimal: its digits, its length, that no other text is one, and that it is read back
pub mod Writing
-- a number put in decimal, four digits at a time, and its digits counted
pub mod Putting
-- the examples
pub mod ExamplesHold
