-- Laws about the definitions of specs/. Assumes nothing.
-- words: numbers and columns' names
pub mod Words
-- a column's name is read as its number
pub mod ColumnNames
-- bytes and length of a phrase that is filled
pub mod Printing
-- a part of a phrase is read from what stands for it
pub mod Gaps
-- a phrase is read from what fills it, and no other that is apart from it
pub mod PhrasesApart
-- what is read for a phrase is that phrase filled
pub mod PhraseFilled
-- a phrase that is put part by part
pub mod Putting
-- a line that is read for a phrase part by part
pub mod Following
-- each refusal is of one sort of the table
pub mod Sorts
-- the laws of specs/Laws
pub mod LawsHold
-- all that a line and its reading are computed with
pub mod Computing
-- the examples
pub mod ExamplesHold
-- the phrases and the columns' names, from tables of them
pub mod Tables
