-- Definitions of printed plans. Assumes nothing.
-- what a reader must believe: the text of a plan and of a refusal
pub mod Text
-- the text of a surveyed tree's plan
pub mod TreeText
-- what holds of printed plans, for the layers above
pub mod Laws
-- a line, a text and refusals' lines, computed in one table
pub mod Examples
-- what the inner functions put
pub mod Inner
