-- What a reader must believe of the calls that plan a row, in reading order. Assumes nothing.
-- from bytes to bytes
pub mod Entries
-- demand 3 of the text in the buffer
pub mod Promise
-- texts that break the promise: it is about something
pub mod Broken
-- what holds of these, for those who call
pub mod Laws
-- calls with buffers at the edges, computed in one table
pub mod Examples
