-- Laws and proofs of surveyed trees. Assumes nothing.
-- the ways away from the sink end, and the loads' two equations
pub mod Steps
-- what all nodes make together bounds what enters one
pub mod Shares
-- E3's lists among trees with gaps and summaries
pub mod PlainLists
-- rates and bursts fit
pub mod LoadBounds
-- the way to the sink
pub mod WayLaws
-- routers and depths
pub mod Shapes
-- no condition broken exactly where a tree can be planned
pub mod Conditions
-- what enters a node
pub mod Entering
-- routes' delays
pub mod Delays
-- the printed lines, node by node
pub mod NodeLines
-- the tree's network has what network's theorem asks for
pub mod Provisions
-- demand 3
pub mod Promised
-- the laws
pub mod LawsHold
-- all that a surveyed tree's plan and its run are computed with
pub mod Computing
-- the examples, computed
pub mod ExamplesHold
-- hypotheses that are met, with traffic
pub mod Witnesses
-- a full queue
pub mod FullQueue
-- a frame that crosses two links
pub mod TwoHops
