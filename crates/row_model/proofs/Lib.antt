-- Laws about the definitions of specs/, and the proofs of demands 2 and 3. Assumes nothing.
-- ---- loads
-- each depth from its neighbours
pub mod LoadLaws
-- how rates and bursts grow towards the sink
pub mod Growth
-- the bound on every load
pub mod LoadBounds
-- ---- demand 2
-- no condition is broken exactly where a row can be planned
pub mod Conditions
-- ---- demand 3
-- the recurrences in a measure that adds up
pub mod Recurrences
-- what is read off the lines
pub mod ReadOff
-- the way to the sink
pub mod Ways
-- who sends to a node, and how many
pub mod Feeders
-- the load that enters each node
pub mod NodeLoads
-- what enters a node is at most what the plan counts with
pub mod Entering
-- the delays of a route
pub mod RouteDelays
-- the figures of a tree fulfil the network's hypotheses
pub mod Provisions
-- demand 3
pub mod Promised
-- windows exist
pub mod WindowsFit
-- ---- statements
-- the laws of specs/Laws
pub mod LawsHold
-- a router alone
pub mod LoneSinks
-- all that a plan is computed with
pub mod Computing
-- hypotheses that are met, with traffic, a full queue, and slots all used
pub mod Witnesses
