-- Laws behind the functions. Assumes nothing.
-- the text of a table's lines, one behind another
pub mod Paging
