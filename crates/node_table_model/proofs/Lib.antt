-- Laws about the definitions of specs/. Assumes nothing.
-- a tree's lines, put and read back
pub mod NodeLaws
