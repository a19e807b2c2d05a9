-- Ours proves the demands of the exported calls, Only that nothing else meets them, and StandIns that no stand-in does; Fixed is that
-- updates and closings fix a run's answer, Alike that calls with the same ones make the same runs. One has demand 1, Two demand 2, and
-- Listings is demand 3. Below them: Tables is how a call goes by its table of refusals; Holding says what memory holds which store, Ways
-- how each call can go, Keeping what stays fitting, Reached that what is in hand is reached in the sense of stores, and Ground what that
-- grants. FileS is file S by computation.
pub mod Ours
pub mod Only
pub mod StandIns
pub mod Fixed
pub mod Alike
pub mod One
pub mod Two
pub mod Listings
pub mod Ground
pub mod Reached
pub mod Keeping
pub mod Ways
pub mod Holding
pub mod Tables
pub mod FileS
