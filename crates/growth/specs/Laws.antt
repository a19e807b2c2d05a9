-- What updates reach: Update and Body are tools, State says what stands at one choice while a layer is in work, Present the same for all
-- choices at once, Rounds that full rounds settle a layer and how soon, and Order that the rules' order does not matter.
pub mod Update
pub mod Body
pub mod State
pub mod Present
pub mod Rounds
pub mod Order
