-- Laws behind the functions. Assumes nothing.
-- the text of a table's first lines, with none and with one more
pub mod Paging
