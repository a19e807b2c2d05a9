-- What the functions that work layers out ask and leave.
use Rattle.std.specs.Prelude.{◌≡◌, Bool, true, false, List, ℕ, ◌≤◌, ◌<◌, length, get_or}
use Rattle.format.specs.File.{F, D, decode}
use Rattle.format.specs.Passed.{Formed}
use Rattle.chains.specs.Layering.{Smallest}
use Rattle.chains.specs.Laws.Cut.{SomeChain}
use Rattle.layering.specs.Rising.{layer_in}

-- every derived atom starts at 1
pub record SettleAsked (s layers : List ℕ) : Type 0 where
  pub formed : Formed s
  pub size : length layers ≡ D s
  pub ones : (i : ℕ) → i < D s → get_or layers i 0 ≡ 1

-- the layers are the smallest, or there is a chain
pub record Settled (s layers : List ℕ) (still : Bool) : Type 0 where
  pub size : length layers ≡ D s
  pub smallest : still ≡ true → Smallest (decode s) (layer_in (F s) layers)
  pub chain : still ≡ false → SomeChain (decode s)

-- the smallest layers, to be written
pub record WriteAsked (s layers out : List ℕ) : Type 0 where
  pub formed : Formed s
  pub size : length layers ≡ D s
  pub smallest : Smallest (decode s) (layer_in (F s) layers)
  pub room : 2048 ≤ length out
