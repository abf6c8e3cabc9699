-- Laws about what is read. Assumes nothing.
-- a number of any length, read to its end
pub mod Places
