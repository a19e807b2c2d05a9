-- What the parts of the check find.
use Rattle.std.specs.Prelude.{◌≡◌, Bool, List, ℕ, ◌+◌, ◌≤◌, ◌<◌, length, ⊤, Option, Some, None, Result, Ok, Err}
use Rattle.meaning.specs.Meaning.{total, layer_of}
use Rattle.format.specs.Bytes.{u16}
use Rattle.format.specs.File.{F, fact_at, after, literal, decode}
use Rattle.format.specs.Refusals.{Verdict, Test, first, largest, head_tests, literal_tests}
use Rattle.format.specs.declared.Refusal.{Refusal}
use Rattle.format.specs.declared.rules.Head.{Head}

-- refused with the fault that was found, or as the tests after it say
abbrev pub or_else : Result ⊤ Refusal → Verdict → Verdict
or_else (Err w) v = Err w
or_else (Ok u) v = v

-- r is the first fault of these tests
pub record Answers (ts : List Test) (r : Result ⊤ Refusal) : Type 0 where
  pub answer : (v : Verdict) → first ts v ≡ or_else r v

-- the file has passed 5: each fact has a weight
abbrev pub Weighted : List ℕ → Type 0
Weighted s = (i : ℕ) → i < F s → 0 < (fact_at s i).on + (fact_at s i).off

-- the total, or that it is too large
abbrev pub Totalled : List ℕ → Option ℕ → Type 0
Totalled s (Some t) = (t ≡ total (decode s).facts) × (t ≤ largest)
Totalled s None = largest < total (decode s).facts

-- the layer of an atom, which is a byte
pub record LayerOf (s : List ℕ) (atom r : ℕ) : Type 0 where
  pub value : r ≡ layer_of (decode s) atom
  pub small : r < 256

-- a rule's header: its fault, or its head's layer and its end
abbrev pub HeaderRead : List ℕ → ℕ → ℕ → Result Head Refusal → Type 0
HeaderRead s rule at (Ok h) =
    Answers (head_tests s rule at) (Ok tt) × (h.top ≡ layer_of (decode s) (u16 s at)) × (h.end ≡ after s at) × (h.end ≤ length s) ×
    (at + 4 ≤ h.end)
HeaderRead s rule at (Err w) = Answers (head_tests s rule at) (Err w)

-- the first fault of a literal, for each head of layer `top`; where not layered, breaking the layers is none
pub record LiteralRead (layered : Bool) (s : List ℕ) (rule top lit : ℕ) (r : Result ⊤ Refusal) : Type 0 where
  pub answers : (h : ℕ) → top ≡ layer_of (decode s) h → Answers (literal_tests layered (decode s) rule h (literal lit)) r
