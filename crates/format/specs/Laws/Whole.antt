-- The whole check: at each point of the code, the tests that are left answer what all the tests answer.
use Rattle.std.specs.Prelude.{Ok, Err, Result, ⊤, Option, Some, None, ok_or, ◌≡◌, Bool, List, ◌++◌, ℕ, ◌≤◌, ◌<◌, length}
use Rattle.std.proofs.Math.Path.{refl, subst}
use Rattle.std.proofs.Common.{sym, ◌∙◌, arith, ltb-false, lt-ltb, le-ltb}
use Rattle.meaning.specs.Meaning.{total}
use Rattle.format.specs.File.{F, D, R, rules_at, decode}
use Rattle.format.specs.Refusals.{
  Verdict,
  Test,
  first,
  length_tests,
  contents_tests,
  counts_tests,
  offset_tests,
  fact_test,
  total_tests,
  layer_test,
  rules_tests,
  each,
  accepted_of,
  file_tests,
  verdict_by,
}
use Rattle.format.specs.Counted.{Framed}
use Rattle.format.specs.Checked.{Answers, Totalled}
use Rattle.format.specs.Laws.Compared.{at_most, more}
use Rattle.format.specs.Laws.First.{none, pass, fail, first-append, head-passes, alike-fails}
use Rattle.format.specs.declared.Refusal.{Refusal}
use Rattle.format.specs.declared.Refusal.TheVariants.{Length, Total}

-- ---- what is left after 1, 2, .. , 7

abbrev pub after7 : Bool → List ℕ → List Test
after7 layered s = rules_tests layered s

abbrev pub after6 : Bool → List ℕ → List Test
after6 layered s = each (D s) (layer_test s) ++ after7 layered s

abbrev pub after5 : Bool → List ℕ → List Test
after5 layered s = total_tests s ++ after6 layered s

abbrev pub after4 : Bool → List ℕ → List Test
after4 layered s = each (F s) (fact_test s) ++ after5 layered s

abbrev pub after3 : Bool → List ℕ → List Test
after3 layered s = offset_tests s ++ after4 layered s

abbrev pub after2 : Bool → List ℕ → List Test
after2 layered s = counts_tests s ++ after3 layered s

abbrev pub after1 : Bool → List ℕ → List Test
after1 layered s = contents_tests s ++ after2 layered s

-- ---- from test to test

-- v is what these tests say of the file s
pub record Left (v : Verdict) (s : List ℕ) (ts : List Test) : Type 0 where
  pub left : v ≡ first ts (Ok (accepted_of s))

-- the answer of the tests, known by an equation
pub answers-is : {ts : List Test} {r q : Result ⊤ Refusal} → Answers ts r → r ≡ q → Answers ts q
answers-is {ts} a e = subst (Answers ts) e a

-- a part of the tests has no fault, or the first
module _ {v : Verdict} {s : List ℕ} (k l : List Test) (before : Left v s (k ++ l)) where
  pub passes : Answers k (Ok tt) → Left v s l
  passes a = record { left = before.left ∙ first-append k l _ ∙ a.answer _ }

  pub refuses : {w : Refusal} → Answers k (Err w) → Err w ≡ v
  refuses a = sym (before.left ∙ first-append k l _ ∙ a.answer _)

-- ---- 1

module _ (layered : Bool) (s : List ℕ) where
  whole : Left (verdict_by layered s) s (length_tests s ++ after1 layered s)
  unfolding verdict_by file_tests
  whole = record { left = refl }

  -- too short,
  pub too_short : length s < 28 → Err Length ≡ verdict_by layered s
  unfolding length_tests
  too_short h = refuses (length_tests s) (after1 layered s) whole (fail (lt-ltb (length s) 28 h))

  -- too long,
  pub too_long : 28 ≤ length s → 65536 < length s → Err Length ≡ verdict_by layered s
  unfolding length_tests
  too_long h k = refuses (length_tests s) (after1 layered s) whole (pass (le-ltb (length s) 28 h) (fail (lt-ltb 65536 (length s) k)))

  -- either of the two,
  pub unfit : (28 ≤ length s → length s ≤ 65536 → ⊥) → Err Length ≡ verdict_by layered s
  unfolding length_tests
  unfit h =
      refuses (length_tests s) (after1 layered s) whole
      (alike-fails _ (refl, (refl, tt)) (λ c. h (ltb-false _ _ c.0) (ltb-false _ _ c.1.0)))

  -- or neither
  pub sized : 28 ≤ length s → length s ≤ 65536 → Left (verdict_by layered s) s (after1 layered s)
  unfolding length_tests
  sized h k = passes (length_tests s) (after1 layered s) whole (pass (at_most h) (pass (at_most k) none))

-- ---- the last tests

module _ {v : Verdict} (layered : Bool) (s : List ℕ) (before : Left v s (after7 layered s)) where
  pub refuses-last : {w : Refusal} → Answers (after7 layered s) (Err w) → Err w ≡ v
  refuses-last a = sym (before.left ∙ a.answer _)

  pub accepts :
      Answers (after7 layered s) (Ok tt) → {f d r t : ℕ} → f ≡ F s → d ≡ D s → r ≡ R s → t ≡ total (decode s).facts →
      Ok (record { facts = f; derived = d; rules = r; total = t }) ≡ v
  accepts a e g h k = let v = before.left ∙ a.answer _ in cc

-- ---- 6

module _ (s : List ℕ) where
  pub total-passes : {t : ℕ} → Totalled s (Some t) → Answers (total_tests s) (Ok tt)
  unfolding total_tests
  total-passes h = pass (at_most (omega (arith, h.0, h.1))) none

  pub total-is : {n : ℕ} → Totalled s (Some n) → n ≡ total (decode s).facts
  total-is t = t.0

  pub total-fails : (r : Option ℕ) → Totalled s r → {w : Refusal} → Err w ≡ ok_or r Total → Answers (total_tests s) (Err w)
  unfolding total_tests
  total-fails (Some t) h e = cc
  total-fails None h {w} e = let d : Total ≡ w = cc in rw (← d) (fail (more h))

-- ---- what the parts after 4 may take for granted

pub framed : (s : List ℕ) → length s ≤ 65536 → Answers (counts_tests s) (Ok tt) → Answers (offset_tests s) (Ok tt) → Framed s
unfolding counts_tests offset_tests
framed s h a b =
    let (p, a₂) = head-passes _ _ a in
    let (q, a₃) = head-passes _ _ a₂ in
    let (o, a₄) = head-passes _ _ a₃ in
    let (x, b₂) = head-passes _ _ b in
    let (y, b₃) = head-passes _ _ b₂ in
    let (z, b₄) = head-passes _ _ b₃ in
    let (room, b₅) = head-passes _ _ b₄ in
    record {
      size = h;
      fits = ltb-false (length s) (rules_at s) room;
      few_facts = ltb-false 32 (F s) p;
      few_derived = ltb-false 512 (D s) q;
      few_rules = ltb-false 2048 (R s) o;
    }
