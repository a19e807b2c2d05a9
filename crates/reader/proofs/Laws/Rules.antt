-- A reader of an accepted file (11 may be left out) gives its rules one after another, and then says that there is none left.
use Rattle.std.specs.Prelude.{◌≡◌, refl, Option, Some, None, slice_get}
use Rattle.std.proofs.Math.Path.{sym, ap}
use Rattle.std.proofs.Common.{◌∙◌, arith}
use mathlib.Core.List.{List}
use Prim.Native.Nat.{ℕ, zero, suc, ◌-◌, ◌≤◌, ◌<◌}
use Rattle.std.proofs.Math.Decide.{dec_lt}
use Rattle.meaning.specs.Lists.{upto}
use Rattle.meaning.specs.Meaning.{Literal}
use Rattle.format.specs.Bytes.{u16}
use Rattle.format.specs.File.{R, start_of, rule_at, decode}
use Rattle.format.specs.Walk.{step_at}
use Rattle.format.specs.Passed.{Formed}
use Rattle.format.specs.Laws.Walked.{first-start, step-rule, step_end, body-rule}
use Rattle.format.specs.declared.walk.Rule.{Rule as Step}
use Rattle.reader.specs.Read.{past, rule_of, onward, place_of}
use Rattle.reader.proofs.Laws.Places.{stays}

entry-upto : {A : Type 0} (n : ℕ) (f : ℕ → A) (j : ℕ) → j < n → slice_get (upto n f) j ≡ Some (f j)
unfolding upto
entry-upto zero f j h = absurd (omega arith)
entry-upto (suc n) f zero h = refl
entry-upto (suc n) f (suc j) h = entry-upto n (λ i. f (suc i)) j (omega arith)

none-upto : {A : Type 0} (n : ℕ) (f : ℕ → A) (j : ℕ) → n ≤ j → slice_get (upto n f) j ≡ None
unfolding upto
none-upto zero f j h = refl
none-upto (suc n) f zero h = absurd (omega arith)
none-upto (suc n) f (suc j) h = none-upto n (λ i. f (suc i)) j (omega arith)

module _ {s : List ℕ} (p : Formed s) where
  -- after j calls of `next` a reader stands where rule j starts,
  pub place-start : (j : ℕ) → j ≤ R s → place_of s j ≡ start_of s j
  unfolding place_of
  place-start zero h = first-start p
  place-start (suc j) h =
      ap (onward s) (place-start j (omega arith)) ∙ ap (λ (t : Option Step). past t (start_of s j)) (step-rule p j (omega arith))

  gives : (j : ℕ) → j < R s → rule_of s (step_at s (place_of s j)) ≡ Some (rule_at s (start_of s j))
  unfolding rule_of rule_at
  gives j h =
      ap (λ (at : ℕ). rule_of s (step_at s at)) (place-start j (omega arith)) ∙ ap (rule_of s) (step-rule p j h) ∙
      ap (λ (b : List Literal). Some (record { head = u16 s (start_of s j); body = b })) (body-rule p j h)

  ends : (j : ℕ) → R s ≤ j → rule_of s (step_at s (place_of s j)) ≡ None
  unfolding rule_of
  ends j h =
      let last : step_at s (place_of s (R s)) ≡ None = ap (step_at s) (place-start (R s) (omega arith)) ∙ step_end p in
      ap (λ (at : ℕ). rule_of s (step_at s at)) (stays s (R s) last (j - R s) j (omega arith)) ∙ ap (rule_of s) last

  -- and the next call gives rule j of the program, its body as a part of the file; from R on it says that there is none
  pub reader-rules : (j : ℕ) → rule_of s (step_at s (place_of s j)) ≡ slice_get (decode s).rules j
  unfolding decode
  reader-rules j =
      elim (dec_lt j (R s)) [
        | yes h ↦ gives j h ∙ sym (entry-upto (R s) (λ i. rule_at s (start_of s i)) j h)
        | no n ↦ ends j (omega arith) ∙ sym (none-upto (R s) (λ i. rule_at s (start_of s i)) j (omega arith))
      ]
