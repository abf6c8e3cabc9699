-- Laws about the definitions of specs/. Assumes nothing.
-- loads as the functions put them together
pub mod Made
-- tables of links by depth
pub mod Tables
-- from one depth to the next
pub mod Depths
-- numbers 5 to 7, one condition after another
pub mod Conditions
-- the slots used at a depth
pub mod SlotsMade
-- lines, put one behind another
pub mod PageLaws
-- lent memory with the text of lines
pub mod Whole
-- the lines of a sound row
pub mod PlanLines
-- the end nodes' line and line S
pub mod Ends
-- the answer as a whole, and demand 3 of it
pub mod Answers
