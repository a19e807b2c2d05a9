-- A chain written into the output (document 02, L4).
use Rattle.std.specs.Prelude.{◌≡◌, ℕ, ◌+◌, ◌*◌, ◌≤◌, length, drop}
use mathlib.Core.List.{List, ◌∷◌, ◌++◌, map, flatten}
use Rattle.format.specs.Encode.{two}
use Rattle.format.specs.File.{decode}
use Rattle.chains.specs.Layering.{Chain, OnChain, rule_of}

-- "a count, then at most 1,023 rule numbers, 2 bytes each, the first rule's head the atom named, each body holding the next head, plain or
-- negated, the last the first"; "detail the lowest atom on any such chain"
pub record ChainDone (s out out₁ : List ℕ) (a n : ℕ) : Type 0 where
  pub first : ℕ
  pub others : List ℕ
  pub chain : Chain (decode s) (first ∷ others)
  pub head : (rule_of (decode s) first).head ≡ a
  pub lowest : (b : ℕ) → OnChain (decode s) b → a ≤ b
  pub count : n ≡ length (first ∷ others)
  pub few : n ≤ 1023
  pub bytes : out₁ ≡ two n ++ (flatten (map two (first ∷ others)) ++ drop (2 + 2 * n) out)
