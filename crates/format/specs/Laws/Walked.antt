-- The walk over an accepted file meets its rules one after another, each with its body, and then the end.
-- Each rule leads to the place where the next one starts, and what follows the last is too short for one.
use Rattle.std.specs.Prelude.{Some, None, Ok, ◌≡◌, refl, List, ◌∷◌, ℕ, zero, suc, ◌+◌, ◌*◌, ◌-◌, ◌/◌, ◌≤◌, ◌<◌, length, take, drop}
use Rattle.std.proofs.Common.{ap, ap₂, ◌∙◌, arith}
use borrow.Author.Tests.{lt-ltb, le-ltb}
use Rattle.meaning.specs.Lists.{upto}
use Rattle.format.specs.Bytes.{u16}
use Rattle.format.specs.File.{R, rules_at, after, start_of, rule_at, decode}
use Rattle.format.specs.Refusals.{verdict}
use Rattle.format.specs.Walk.{first_at, step_at, part_of, entry_at, body_of, met_by, walk}
use Rattle.format.specs.Laws.RulesRead.{body-length, body-literal}
use Rattle.format.specs.Laws.Accepted.{passed, passed-formed}
use Rattle.format.specs.Passed.{Formed}
use Rattle.format.specs.declared.Accepted.{Accepted}

-- ---- what stands at a place of any bytes

module _ (s : List ℕ) where
  -- the rules start after the layers,
  pub first-at : 28 ≤ length s → first_at s ≡ rules_at s
  unfolding first_at
  first-at h = simp (le-ltb (length s) 28 h)

  module _ (at : ℕ) where
    -- a rule's header does not fit,
    pub step-short : length s < at + 4 → step_at s at ≡ None
    unfolding step_at
    step-short h = simp (lt-ltb (length s) (at + 4) h)

    -- or its body does not,
    pub step_cut : at + 4 ≤ length s → length s < after s at → step_at s at ≡ None
    unfolding step_at
    step_cut h k = simp (le-ltb (length s) (at + 4) h, lt-ltb (length s) (after s at) k)

    -- or a whole rule is there,
    pub step-whole : after s at ≤ length s → step_at s at ≡ Some (record { head = u16 s at; body = at + 4; next = after s at })
    unfolding step_at after
    step-whole h = simp (le-ltb (length s) (at + 4) (omega arith), le-ltb (length s) (after s at) h)

  -- the part between two places
  pub part-inside : (from to : ℕ) → from ≤ to → to ≤ length s → part_of s from to ≡ take (to - from) (drop from s)
  unfolding part_of
  part-inside from to h k = simp (le-ltb to from h, le-ltb (length s) to k)

-- literal i of a body,
pub entry-literal : (b : List ℕ) (i : ℕ) → i < length b / 2 → entry_at b i ≡ Some (u16 b (2 * i))
unfolding entry_at
entry-literal b i h = simp (lt-ltb i (length b / 2) h)

-- and nothing past the last
pub entry-end : (b : List ℕ) (i : ℕ) → length b / 2 ≤ i → entry_at b i ≡ None
unfolding entry_at
entry-end b i h = simp (le-ltb i (length b / 2) h)

upto-same : {A : Type 0} (n : ℕ) (f g : ℕ → A) → ((i : ℕ) → i < n → f i ≡ g i) → upto n f ≡ upto n g
unfolding upto
upto-same zero f g h = refl
upto-same (suc n) f g h = ap₂ ◌∷◌ (h 0 (omega arith)) (upto-same n (λ i. f (suc i)) (λ i. g (suc i)) (λ i q. h (suc i) (omega arith)))

-- the part after a rule's header holds the literals of its body
body-whole : (s : List ℕ) (at : ℕ) → after s at ≤ length s → body_of (part_of s (at + 4) (after s at)) ≡ (rule_at s at).body
unfolding body_of rule_at after
body-whole s at h =
    let size : length (take (after s at - (at + 4)) (drop (at + 4) s)) / 2 ≡ u16 s (at + 2) = omega (arith, body-length s at refl h) in
    rw (part-inside s (at + 4) (after s at) (omega arith) h, size) (upto-same _ _ _ (λ i q. body-literal s at refl h i q refl))

-- ---- the rules of a file that is accepted without 11 or with it

module _ {s : List ℕ} (p : Formed s) where
  -- the walk starts at the first rule,
  pub first-start : first_at s ≡ start_of s 0
  unfolding start_of
  first-start = first-at s p.long

  -- finds at each rule its head, its body's place and where the next rule starts,
  pub step-rule :
      (j : ℕ) → j < R s →
      step_at s (start_of s j) ≡ Some (record { head = u16 s (start_of s j); body = start_of s j + 4; next = start_of s (suc j) })
  unfolding start_of
  step-rule j q = step-whole s (start_of s j) (p.rule j q).inside

  -- where the body's part holds its literals,
  pub body-rule : (j : ℕ) → j < R s → body_of (part_of s (start_of s j + 4) (start_of s (suc j))) ≡ (rule_at s (start_of s j)).body
  unfolding start_of
  body-rule j q = body-whole s (start_of s j) (p.rule j q).inside

  -- and ends after the last
  pub step_end : step_at s (start_of s (R s)) ≡ None
  step_end = step-short s (start_of s (R s)) (omega arith)

-- the walk from the first of k places, of which each is a rule's and leads to the next, and the last leads to the end
walk-places : (s : List ℕ) (k n : ℕ) (place : ℕ → ℕ) → k ≤ n →
    ((i : ℕ) → i < k → step_at s (place i) ≡ Some (record { head = u16 s (place i); body = place i + 4; next = place (suc i) })) →
    ((i : ℕ) → i < k → body_of (part_of s (place i + 4) (place (suc i))) ≡ (rule_at s (place i)).body) →
    step_at s (place k) ≡ None → walk s (place 0) n ≡ upto k (λ i. rule_at s (place i))
unfolding walk upto rule_at
walk-places s zero zero place q r b e = refl
walk-places s zero (suc n) place q r b e = ap (met_by s (λ m. walk s m n)) e
walk-places s (suc k) zero place q r b e = absurd (omega arith)
walk-places s (suc k) (suc n) place q r b e =
    ap (met_by s (λ m. walk s m n)) (r 0 (omega arith)) ∙
    ap₂ (λ body rest. record { head = u16 s (place 0); body = body } ∷ rest) (b 0 (omega arith))
    (walk-places s k n (λ i. place (suc i)) (omega arith) (λ i h. r (suc i) (omega arith)) (λ i h. b (suc i) (omega arith)) e)

-- the walk over an accepted file gives the rules of its program, in order, and no more however long it goes on
pub walked : (s : List ℕ) {a : Accepted} → verdict s ≡ Ok a → (n : ℕ) → R s ≤ n → walk s (first_at s) n ≡ (decode s).rules
unfolding decode
walked s e n h =
    let p : Formed s = passed-formed (passed s e) in
    rw (first-start p) (walk-places s (R s) n (start_of s) h (step-rule p) (body-rule p) (step_end p))
