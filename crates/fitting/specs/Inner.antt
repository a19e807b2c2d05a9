-- What the test over the used parts of the lent memory asks.
use Rattle.std.specs.Prelude.{◌≡◌, List, ℕ, ◌≤◌, length}
use Rattle.format.specs.Passed.{Passed}

-- room for the facts' nodes and places
pub record LoadedAsked (nodes places : List ℕ) (facts : ℕ) : Type 0 where
  pub few : facts ≤ 32
  pub nodes_in : facts ≤ length nodes
  pub places_in : facts ≤ length places

-- a passed file, and the used parts of the lent memory
pub record FitAsked (s nodes places : List ℕ) : Type 0 where
  pub passed : Passed s
  pub room : length nodes ≤ 4096
  pub long : length places ≡ 544
