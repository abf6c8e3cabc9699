-- What a reader must believe of links, in reading order. Assumes nothing.
-- loads, reservations, the load after a link, buffer, delay
pub mod Link
-- what is answered for any arguments, and where every number fits 64 bits
pub mod Answers
