-- Laws about the definitions of specs/. Assumes nothing.
-- the first broken condition of lists that follow one another, and the verdict on a list
pub mod Answering
-- conditions of which none is broken
pub mod Unbroken
-- outcomes, whatever the sort of plan
pub mod Outcomes
-- the examples of specs/Examples
pub mod ExamplesHold
-- every refusal is of a sort of the table, and has a number
pub mod Sorts
-- one condition that a number passes a limit
pub mod Limits
-- all that number and place are computed with
pub mod Computing
-- the rows of the table as the code has them
pub mod Rows
