-- What a reader must believe of reasons, in reading order. Assumes nothing.
-- the line of a refusal: the table of phrases, the place and the values in their gaps
pub mod Reasons
-- number and place of a line
pub mod Reading
-- what holds of lines, for the layers above: number and place can be had again
pub mod Laws
-- a line for each number and each place of 4, and lines that are no reason, computed
pub mod Examples
-- what the inner functions answer: no contract of a public function cites it
pub mod Inner
