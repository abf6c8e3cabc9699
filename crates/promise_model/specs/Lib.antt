-- What a reader must believe of demand 3, in reading order. Assumes nothing.
-- the promise, over the figures that it reads
pub mod Promise
-- what makes a promise that is kept
pub mod Laws
-- a network of one link at its limits, and figures that are too low
pub mod Examples
