-- What the two functions inside settling ask and answer: a body's ask, and one pass over the rules.
use Rattle.std.specs.Prelude.{◌≡◌, Bool, true, false, List, ℕ, ◌+◌, ◌*◌, ◌/◌, ◌≤◌, ◌<◌, length, get_or}
use Rattle.meaning.specs.Lists.{upto}
use Rattle.meaning.specs.Meaning.{Literal}
use Rattle.format.specs.Bytes.{u16}
use Rattle.format.specs.File.{F, D, literal, decode}
use Rattle.format.specs.Passed.{Formed}
use Rattle.layering.specs.Rising.{pass}

-- the len literals from `at` on
abbrev pub body_at : List ℕ → ℕ → ℕ → List Literal
body_at s at len = upto len (λ i. literal (u16 s (at + 2 * i)))

-- the body lies in the file and its atoms are known; no layer is so high that one more does not fit in 32 bits
pub record BodyAsked (s layers : List ℕ) (facts at len : ℕ) : Type 0 where
  pub inside : at + 2 * len ≤ length s
  pub known : (i : ℕ) → i < len → u16 s (at + 2 * i) / 2 < facts + length layers
  pub low : (i : ℕ) → get_or layers i 0 < 4294967295

-- the layers after at most 512 passes over at most 2,048 rules: a rule raises the highest by one at most
pub record PassAsked (s layers : List ℕ) : Type 0 where
  pub formed : Formed s
  pub size : length layers ≡ D s
  pub low : (i : ℕ) → get_or layers i 0 ≤ 1 + 2048 * 512

-- the layers after one pass more, and whether one changed
pub record PassDone (s before after : List ℕ) (changed : Bool) : Type 0 where
  pub is : after ≡ pass (F s) (decode s).rules before
  pub same : changed ≡ false → after ≡ before
  pub moved : changed ≡ true → after ≡ before → ⊥
