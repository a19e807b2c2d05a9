-- What stands in the output when text is written.
use Rattle.std.specs.Prelude.{◌≡◌, List, ◌++◌, ℕ, ◌+◌, ◌≤◌, length, take, drop}

-- the text stands in the output from `at` to r, and the rest is as it was
pub record Wrote (out out₁ : List ℕ) (at r : ℕ) (text : List ℕ) : Type 0 where
  pub bytes : out₁ ≡ take at out ++ text ++ drop r out
  pub end : r ≡ at + length text
  pub inside : r ≤ length out
