-- What a reader must believe of the measures. Assumes nothing.
-- the measures, what leads from one to another, and answers where a number passes 64 bits
pub mod Measures
