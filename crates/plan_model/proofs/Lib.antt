-- Laws about the definitions of specs/. Assumes nothing.
-- the times of checked settings, in their bounds
pub mod TimeLaws
-- and as superframe's functions answer them
pub mod TimesMade
-- what is answered and put for an outcome, whatever the sort of plan
pub mod Answered
-- to unfold all that the figures of a link are computed with
pub mod Computing
