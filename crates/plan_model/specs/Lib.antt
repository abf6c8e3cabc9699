-- What a reader must believe of the words of every plan, in reading order. Assumes nothing.
-- BI, S and X of what is set on every radio, and how many superframes fit an interval
pub mod Times
-- KIND's letter, a line and its figures
pub mod Lines
-- the answer to an outcome, and what is put
pub mod Plans
