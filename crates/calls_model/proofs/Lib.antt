-- Laws about the definitions of specs/. Assumes nothing.
-- outcomes with a lent buffer
pub mod Rooms
-- what a call leaves, by the plan that it was answered
pub mod Leaving
-- what the calls that speak English leave
pub mod ReasonLines
-- the laws of specs/Laws
pub mod LawsHold
-- the examples
pub mod ExamplesHold
-- exchange times from the table
pub mod ExchangesAsked
-- what is told of a decision and of the text alike
pub mod Telling
-- what a call leaves by a text that was put whole or not at all
pub mod Fitting
