-- What a reader must believe of refusals, in reading order. Assumes nothing.
-- the table: number, place and phrase of each sort of refusal
pub mod Table
-- the sort of each refusal, its place and the values concerned
pub mod Refusals
-- conditions checked in order
pub mod Conditions
-- a plan, or the first refusal
pub mod Outcome
-- small lists of conditions and what they answer, computed
pub mod Examples
