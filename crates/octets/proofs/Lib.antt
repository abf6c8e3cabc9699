-- Laws about bytes in memory. Assumes nothing.
-- where a byte stands, from a position on
pub mod Finding
