-- Laws about the definitions of specs/. Assumes nothing.
-- lines and refusals, number by number
pub mod LineText
-- no two plans have the same text
pub mod OneText
-- nor have two plans of surveyed trees
pub mod OneTreeText
-- the examples
pub mod ExamplesHold
-- the text of lines of any sort
pub mod Paging
