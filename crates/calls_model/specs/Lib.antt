-- What a reader must believe of calls from bytes, in reading order. Assumes nothing.
-- what a call that plans answers and leaves: the answer and the lent buffer, number 8
pub mod Calls
-- the same for the calls that speak English, and a line read again
pub mod Reasons
-- exchange times from the table
pub mod Exchanges
-- what holds of these, for those who call
pub mod Laws
-- calls with buffers at the edges, computed
pub mod Examples
-- the answer to a plan, as an inner function gives it
pub mod Inner
