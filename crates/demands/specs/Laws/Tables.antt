-- How a call goes by its table of refusals: the first row that is due stops it, or none is due and it answers.
use Rattle.std.specs.Prelude.{◌≡◌, Bool, ℕ}
use Rattle.std.proofs.Math.Path.{refl}
use Rattle.std.proofs.Common.{sym, ap, ◌∙◌}
use Rattle.std.proofs.Math.Bool.{true, false}
use mathlib.Core.List.{[], ◌∷◌}
use Rattle.calls.specs.Refusals.{Table, first_of, answering}

-- every row that is due has a number,
abbrev pub Numbered : Table → Type 0
Numbered [] = Unit {0}
Numbered (t ∷ ts) = (t.2 ≡ true → t.0 ≡ 0 → ⊥) × Numbered ts

-- and none is due
abbrev pub NoneDue : Table → Type 0
NoneDue [] = Unit {0}
NoneDue (t ∷ ts) = (t.2 ≡ false) × NoneDue ts

pub data Went {A : Type 0} (ts : Table) (refuse : ℕ → ℕ → A) (answer : A) : Type 0 where
  stopped : (n d : ℕ) → (n ≡ 0 → ⊥) → first_of ts ≡ (n, d) → answering ts refuse answer ≡ refuse n d → Went ts refuse answer
  passed : NoneDue ts → first_of ts ≡ (0, 0) → answering ts refuse answer ≡ answer → Went ts refuse answer

-- a row by its test
abbrev first : Bool → ℕ → ℕ → ℕ × ℕ → ℕ × ℕ
first b n d rest = elim b as (λ _. ℕ × ℕ) [ true ↦ (n, d) | false ↦ rest ]

module _ {A : Type 0} (refuse : ℕ → ℕ → A) (answer : A) where
  abbrev by : Bool → ℕ → ℕ → A → A
  by b n d rest = elim b as (λ _. A) [ true ↦ refuse n d | false ↦ rest ]

  pub went : (ts : Table) → Numbered ts → Went ts refuse answer
  unfolding first_of answering
  went [] some = passed tt refl refl
  went (t ∷ ts) some = go t.2 refl (went ts some.1)
    where
      go : (b : Bool) → t.2 ≡ b → Went ts refuse answer → Went (t ∷ ts) refuse answer
      go true e w =
          stopped t.0 t.1 (some.0 e) (λ i. first (e i) t.0 t.1 (first_of ts))
          (λ i. by (e i) t.0 t.1 (answering ts refuse answer))
      go false e (stopped n d z f a) =
          stopped n d z ((λ i. first (e i) t.0 t.1 (first_of ts)) ∙ f)
          ((λ i. by (e i) t.0 t.1 (answering ts refuse answer)) ∙ a)
      go false e (passed all f a) =
          passed (e, all) ((λ i. first (e i) t.0 t.1 (first_of ts)) ∙ f)
          ((λ i. by (e i) t.0 t.1 (answering ts refuse answer)) ∙ a)

-- a row that is not due counts for nothing, and one that is due comes first
pub first-no : (t : ℕ × ℕ × Bool) (ts : Table) → t.2 ≡ false → first_of (t ∷ ts) ≡ first_of ts
unfolding first_of
first-no t ts e = λ i. first (e i) t.0 t.1 (first_of ts)

pub first-yes : (t : ℕ × ℕ × Bool) (ts : Table) → t.2 ≡ true → first_of (t ∷ ts) ≡ (t.0, t.1)
unfolding first_of
first-yes t ts e = λ i. first (e i) t.0 t.1 (first_of ts)

-- where none is due, there is no refusal, and the other way round
pub none_first : (ts : Table) → Numbered ts → (first_of ts).0 ≡ 0 → NoneDue ts
none_first ts some e = go (went (λ n d. n) 0 ts some)
  where
    go : Went ts (λ n d. n) 0 → NoneDue ts
    go (stopped n d z f a) = absurd (z (sym (ap (λ x. x.0) f) ∙ e))
    go (passed all f a) = all
