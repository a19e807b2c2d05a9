-- The way back from an entry of the queue falls, so that it has at most as many rules as the entry's number; and how they are counted.
use Rattle.std.specs.Prelude.{◌≡◌, refl, Bool, true, false, List, [], ◌∷◌, ◌++◌, ℕ, zero, suc, ◌+◌, ◌≤◌, ◌<◌, length, get_or}
use Rattle.std.proofs.Common.{sym, ap, ◌∙◌, arith, ne_eqb, length-append}
use Rattle.std.proofs.Math.Decide.{ℕ_discrete}
use Rattle.chains.specs.Calls.{way_to}
use Rattle.chains.specs.Searching.{Falls, Counted}

-- ---- its rules

-- none lead to the first entry,
pub way-none : (most : ℕ) (from by : List ℕ) → way_to most from by 0 ≡ []
unfolding way_to
way-none zero from by = refl
way-none (suc most) from by = refl

-- the body of `way_to` over its test's value
abbrev turn : Bool → List ℕ → List ℕ
turn b others = elim b [ true ↦ [] | false ↦ others ]

-- and to another those that lead to the one before, and its own
pub way-one : (most : ℕ) (from by : List ℕ) (i : ℕ) → 0 < i →
    way_to (suc most) from by i ≡ way_to most from by (get_or from i 0) ++ (get_or by i 0 ∷ [])
unfolding way_to
way-one most from by i h =
    ap (λ b. turn b (way_to most from by (get_or from i 0) ++ (get_or by i 0 ∷ []))) (ne_eqb i 0 (λ e. omega arith))

module _ {from : List ℕ} {k : ℕ} (f : Falls from k) (by : List ℕ) where
  -- how many at most plays no part, where they are enough
  way_same : (m n i : ℕ) → i ≤ m → i ≤ n → i ≤ k → way_to m from by i ≡ way_to n from by i
  way_same zero n i h l z = let e : i ≡ 0 = omega arith in rw e (way-none zero from by ∙ sym (way-none n from by))
  way_same (suc m) zero i h l z = let e : i ≡ 0 = omega arith in rw e (way-none (suc m) from by ∙ sym (way-none zero from by))
  way_same (suc m) (suc n) i h l z = elim (ℕ_discrete i 0) [
    | yes e ↦ rw e (way-none (suc m) from by ∙ sym (way-none (suc n) from by))
    | no o ↦
        let fall = f.back i (omega arith) z in
        way-one m from by i (omega arith) ∙
        ap (λ l. l ++ (get_or by i 0 ∷ [])) (way_same m n (get_or from i 0) (omega arith) (omega arith) (omega arith)) ∙
        sym (way-one n from by i (omega arith))
  ]

-- so the same bound does for each step
pub way_step : {from : List ℕ} {k : ℕ} → Falls from k → (by : List ℕ) (i : ℕ) → 0 < i → i ≤ k →
    way_to k from by i ≡ way_to k from by (get_or from i 0) ++ (get_or by i 0 ∷ [])
way_step {from} {k = zero} f by i h l = absurd (omega arith)
way_step {from} {k = suc k} f by i h l =
    let fall = f.back i h l in
    way-one k from by i h ∙
    ap (λ r. r ++ (get_or by i 0 ∷ [])) (way_same f by k (suc k) (get_or from i 0) (omega arith) (omega arith) (omega arith))

-- at most none are none
way-empty : (from by : List ℕ) (i : ℕ) → way_to 0 from by i ≡ []
unfolding way_to
way-empty from by i = refl

-- the way to entry i has at most i rules
pub way-short : {from : List ℕ} {k : ℕ} → Falls from k → (by : List ℕ) (m i : ℕ) → i ≤ k → length (way_to m from by i) ≤ i
way-short {from} f by zero i h = rw (way-empty from by i) (omega arith)
way-short {from} f by (suc m) i h = elim (ℕ_discrete i 0) [
  | yes e ↦ rw (e, way-none (suc m) from by) (omega arith)
  | no o ↦
      let fall = f.back i (omega arith) h in
      let ih = way-short f by m (get_or from i 0) (omega arith) in
      rw (way-one m from by i (omega arith)) (simp length-append (omega arith))
]

-- ---- counting them

-- n are counted, and those to entry i are left
pub record Counting (from : List ℕ) (k n i : ℕ) : Type 0 where
  pub within : i ≤ k
  pub count : (by : List ℕ) → n + length (way_to k from by i) ≡ length (way_to k from by k)

module _ {from : List ℕ} {k : ℕ} (f : Falls from k) where
  -- none is counted,
  pub count-start : Counting from k 0 k
  count-start = record { within = omega arith; count = λ by. omega arith }

  module _ {n i : ℕ} (v : Counting from k n i) where
    -- never more than the entry's number,
    pub count-few : n ≤ k
    count-few = omega (arith, v.count from, way-short f from k k (omega arith))

    -- one more at each step,
    pub count_next : 0 < i → {j : ℕ} → j ≡ get_or from i 0 → Counting from k (n + 1) j
    count_next h {j} e = record {
      within = omega (arith, f.back i h v.within, v.within);
      count = λ by.
          let step : length (way_to k from by i) ≡ length (way_to k from by j) + 1 =
          rw (way_step f by i h v.within, e) (simp length-append (omega arith)) in
          omega (arith, v.count by);
    }

    -- and in the end all
    pub count-end : i ≤ 0 → Counted from k n
    count-end h = record {
      count = λ by.
          let e : i ≡ 0 = omega arith in
          let none : length (way_to k from by i) ≡ 0 = rw (e, way-none k from by) in
          omega (arith, v.count by);
    }
