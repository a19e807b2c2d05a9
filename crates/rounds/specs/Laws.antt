-- Layers, Made and Close say what layers, single updates and closings do, Load what loading does, Order that the order of the rules does
-- not matter to what the diagrams say. Steps says how a run goes on, Each what updates of listed atoms do, Round what a round does; Stages
-- that a run is made of these; Budget what a larger budget does. Skip passes over layer numbers without atoms; Reached says what stands
-- after any calls (demand 2). Settling says when a layer's rounds settle it, Sums how sums compare; Bound how many updates a run can make.
pub mod Layers
pub mod Made
pub mod Close
pub mod Load
pub mod Order
pub mod Steps
pub mod Each
pub mod Round
pub mod Stages
pub mod Budget
pub mod Skip
pub mod Reached
pub mod Settling
pub mod Sums
pub mod Bound
