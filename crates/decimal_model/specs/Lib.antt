-- What a reader must believe of numbers in ASCII, in reading order. Assumes nothing.
-- the bytes of a quoted text
pub mod Ascii
-- the number that bytes spell
pub mod Number
-- a number in decimal
pub mod Decimal
-- what holds of numbers in decimal, for the layers above
pub mod Laws
-- small texts and numbers, computed in one table
pub mod Examples
-- what the inner functions put: no contract of a public function cites it
pub mod Inner
