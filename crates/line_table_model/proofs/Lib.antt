-- Laws about the definitions of specs/. Assumes nothing.
-- one line's numbers, put and read
pub mod Numbers
-- many lines, put and read back
pub mod RowLaws
-- of a row's lines
pub mod LineLaws
-- what is decided and printed
pub mod Decided
