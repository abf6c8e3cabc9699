-- What a reader must believe of lines and their values, in reading order. Assumes nothing.
-- lines of a text, values of a line, the line at a position
pub mod Text
-- what holds of lines, for the layers above
pub mod Laws
-- small texts, computed in one table
pub mod Examples
