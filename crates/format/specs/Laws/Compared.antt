-- Tests that compare two numbers; and tests of a list that compare a number v with n, answered by a code that has read v as x and
-- compared that. Of each pair of these the first lemma is for the branch where the test passes, the second for the one where it fails.
use Rattle.std.specs.Prelude.{Result, Err, ⊤, ◌≡◌, true, false, not, List, ◌∷◌, ℕ, ◌≤◌, ◌<◌, eqb, ltb, leb}
use Rattle.std.proofs.Common.{ap, ◌∙◌, sym, arith, eq-eqb, eqb-true, ne_eqb, lt-ltb, le-ltb, le-leb}
use Rattle.std.proofs.lemmas.Bool.{lt-leb}
use borrow.Author.Tests.{not-false}
use Rattle.format.specs.Refusals.{Test}
use Rattle.format.specs.Checked.{Answers}
use Rattle.format.specs.Laws.First.{pass, fail}
use Rattle.format.specs.declared.Refusal.{Refusal}

-- ---- tests that pass

pub alike : {m n : ℕ} → m ≡ n → not (eqb m n) ≡ false
alike {m} {n} e = ap not (eq-eqb m n e)

pub at_most : {m n : ℕ} → n ≤ m → ltb m n ≡ false
at_most {m} {n} h = le-ltb m n h

pub less : {m n : ℕ} → n < m → leb m n ≡ false
less {m} {n} h = lt-leb m n h

pub positive : {n : ℕ} → 0 < n → eqb n 0 ≡ false
positive {n} h = ne_eqb n 0 (λ e. omega arith)

pub equal : (m n : ℕ) → not (eqb m n) ≡ false → m ≡ n
equal m n e = eqb-true m n (not-false (eqb m n) e)

-- ---- tests that fail

pub more : {m n : ℕ} → m < n → ltb m n ≡ true
more {m} {n} h = lt-ltb m n h

pub no_less : {m n : ℕ} → m ≤ n → leb m n ≡ true
no_less {m} {n} h = le-leb m n h

-- ---- the first fault of a list that begins with such a test

module _ {v x : ℕ} (read : x ≡ v) {w : Refusal} where
  -- v is n, or differs
  pub same :
      {n : ℕ} {ts : List Test} {r : Result ⊤ Refusal} → x ≡ n → Answers ts r →
      Answers (record { fails = not (eqb v n); refusal = w } ∷ ts) r
  same {n} e = pass (ap not (eq-eqb v n (sym read ∙ e)))

  pub other : {n : ℕ} (ts : List Test) → (x ≡ n → ⊥) → Answers (record { fails = not (eqb v n); refusal = w } ∷ ts) (Err w)
  other {n} ts d = fail (ap not (ne_eqb v n (λ e. d (read ∙ e))))

  -- v is at most n, or above
  pub most :
      {n : ℕ} {ts : List Test} {r : Result ⊤ Refusal} → x ≤ n → Answers ts r →
      Answers (record { fails = ltb n v; refusal = w } ∷ ts) r
  most {n} h = pass (le-ltb n v (rw read at h))

  pub over : {n : ℕ} (ts : List Test) → n < x → Answers (record { fails = ltb n v; refusal = w } ∷ ts) (Err w)
  over {n} ts h = fail (lt-ltb n v (rw read at h))

  -- v is at least n, or under
  pub least :
      {n : ℕ} {ts : List Test} {r : Result ⊤ Refusal} → n ≤ x → Answers ts r →
      Answers (record { fails = ltb v n; refusal = w } ∷ ts) r
  least {n} h = pass (le-ltb v n (rw read at h))

  pub under : {n : ℕ} (ts : List Test) → x < n → Answers (record { fails = ltb v n; refusal = w } ∷ ts) (Err w)
  under {n} ts h = fail (lt-ltb v n (rw read at h))

  -- v is below n, or n or more
  pub below :
      {n : ℕ} {ts : List Test} {r : Result ⊤ Refusal} → x < n → Answers ts r →
      Answers (record { fails = leb n v; refusal = w } ∷ ts) r
  below {n} h = pass (lt-leb n v (rw read at h))

  pub beyond : {n : ℕ} (ts : List Test) → n ≤ x → Answers (record { fails = leb n v; refusal = w } ∷ ts) (Err w)
  beyond {n} ts h = fail (le-leb n v (rw read at h))
