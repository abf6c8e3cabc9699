-- What the functions of rows presume of one another. Nobody has to believe this. Assumes nothing.
-- what the inner functions presume and answer
pub mod Inner
-- how they put lines into a table
pub mod Pages
