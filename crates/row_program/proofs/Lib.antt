-- Laws behind the functions. Assumes nothing.
-- a text and its LF put at the front, and a reader's bytes
pub mod Putting
