-- Laws about bytes put one behind another, and all at once. Assumes nothing.
pub mod Putting
-- texts put one behind another, and the position behind them
pub mod Behind
