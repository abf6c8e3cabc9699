-- What a reader must believe of the balanced tree's plan, in reading order. Assumes nothing.
-- BI, S, X and L of a row
pub mod Times
-- the loads: sensors, upward, downward, at the sink
pub mod Loads
-- numbers 5 to 7
pub mod Checks
-- the lines of the plan
pub mod Lines
-- a row's outcome: its plan, or the first refusal
pub mod Outcome
-- that every sum fits 64 bits
pub mod Bounds
-- trees within a row, and their network
pub mod Tree
-- demand 3
pub mod Promise
-- demands 2 and 3 as statements
pub mod Laws
-- hypotheses that are met, with traffic, a queue that is full, and slots and superframes that are all used
pub mod Witness
