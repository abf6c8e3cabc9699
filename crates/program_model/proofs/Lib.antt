-- Laws about the definitions of specs/. Assumes nothing.
-- what is printed, by the plan that was answered
pub mod PrintedAnswers
-- the examples, computed
pub mod ExamplesHold
-- what is written for an input that was read up to its limit
pub mod Reading
