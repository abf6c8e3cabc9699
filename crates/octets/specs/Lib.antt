-- What a reader must believe of bytes in memory. Assumes nothing.
-- where a byte stands
pub mod Bytes
