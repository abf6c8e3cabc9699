-- What a reader must believe of settings, in reading order. Assumes nothing.
-- the columns, their names and ranges
pub mod Columns
-- the values of settings, and the conditions of numbers 3 and 4
pub mod Checks
-- what holds of settings, for the layers above
pub mod Laws
-- settings at the edges of these conditions, computed
pub mod Examples
