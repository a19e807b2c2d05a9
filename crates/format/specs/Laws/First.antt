-- Laws of `first`: what the answers of parts of a list of tests say of the whole list.
-- The check of a file is put together from its parts by these, and an accepted file is taken apart by them.
use Rattle.std.specs.Prelude.{Result, Ok, Err, ⊤, ◌≡◌, refl, Bool, true, false, cond, ℕ, zero, suc, ◌<◌}
use Rattle.std.proofs.Common.{sym, ap, ◌∙◌, arith, subst}
use mathlib.Core.List.{List, [], ◌∷◌, ◌++◌, flatten}
use Rattle.meaning.specs.Lists.{upto}
use Rattle.format.specs.Refusals.{Verdict, Test, first, each}
use Rattle.format.specs.Checked.{Answers}
use Rattle.format.specs.declared.Refusal.{Refusal}
use Rattle.format.specs.declared.Accepted.{Accepted}

-- ---- putting together

-- no test, no fault
pub none : Answers [] (Ok tt)
unfolding first
none = record { answer = λ v. refl }

-- a test that fails is the fault,
pub fail : {b : Bool} {w : Refusal} {ts : List Test} → b ≡ true → Answers (record { fails = b; refusal = w } ∷ ts) (Err w)
unfolding first
fail {w} {ts} e = record { answer = λ v. ap (λ x. cond x (Err w) (first ts v)) e }

-- and one that passes leaves the answer to the others
pub pass :
    {b : Bool} {w : Refusal} {ts : List Test} {r : Result ⊤ Refusal} → b ≡ false → Answers ts r →
    Answers (record { fails = b; refusal = w } ∷ ts) r
unfolding first
pass {w} {ts} e a = record { answer = λ v. ap (λ x. cond x (Err w) (first ts v)) e ∙ a.answer v }

-- the tests of one list after those of another
pub first-append : (k l : List Test) (v : Verdict) → first (k ++ l) v ≡ first k (first l v)
unfolding first
first-append [] l v = refl
first-append (t ∷ k) l v = ap (cond t.fails (Err t.refusal)) (first-append k l v)

-- a fault of the first list is the fault of both,
pub stop : {k : List Test} (l : List Test) {w : Refusal} → Answers k (Err w) → Answers (k ++ l) (Err w)
stop {k} l a = record { answer = λ v. first-append k l v ∙ a.answer (first l v) }

-- and where it has none, the second list answers
pub go_on : {k l : List Test} {r : Result ⊤ Refusal} → Answers k (Ok tt) → Answers l r → Answers (k ++ l) r
go_on {k} {l} a b = record { answer = λ v. first-append k l v ∙ a.answer (first l v) ∙ b.answer v }

-- no group has a fault
pub each_none : (n : ℕ) (f : ℕ → List Test) → ((i : ℕ) → i < n → Answers (f i) (Ok tt)) → Answers (each n f) (Ok tt)
unfolding each upto flatten
each_none zero f h = none
each_none (suc n) f h = go_on (h 0 (omega arith)) (each_none n (λ i. f (suc i)) (λ i q. h (suc i) (omega arith)))

-- group i has the first
pub each-fault :
    (n : ℕ) (f : ℕ → List Test) {w : Refusal} (i : ℕ) → i < n → ((k : ℕ) → k < i → Answers (f k) (Ok tt)) → Answers (f i) (Err w) →
    Answers (each n f) (Err w)
unfolding each upto flatten
each-fault zero f i q h a = absurd (omega arith)
each-fault (suc n) f zero q h a = stop (each n (λ k. f (suc k))) a
each-fault (suc n) f (suc i) q h a =
    go_on (h 0 (omega arith)) (each-fault n (λ k. f (suc k)) i (omega arith) (λ k p. h (suc k) (omega arith)) a)

-- ---- tests of one refusal

-- none of these tests fails
abbrev pub Clear : List Test → Type 0
Clear [] = Unit
Clear (t ∷ ts) = (t.fails ≡ false) × Clear ts

-- each of these tests refuses with w
abbrev pub Alike : Refusal → List Test → Type 0
Alike w [] = Unit
Alike w (t ∷ ts) = (t.refusal ≡ w) × Alike w ts

-- where one of them does fail, what all of them say is the fault
pub alike-fails : {w : Refusal} (ts : List Test) → Alike w ts → (Clear ts → ⊥) → Answers ts (Err w)
alike-fails [] a h = absurd (h tt)
alike-fails {w} (t ∷ ts) a h = go t.fails refl (alike-fails ts a.1)
  where
    go : (x : Bool) → t.fails ≡ x → ((Clear ts → ⊥) → Answers ts (Err w)) → Answers (t ∷ ts) (Err w)
    go true p r = subst (λ u. Answers (t ∷ ts) (Err u)) a.0 (fail p)
    go false p r = pass p (r (λ c. h (p, c)))

-- ---- taking apart

-- a list of tests with no fault: its first test passes, and the others have none
pub head-passes : (t : Test) (ts : List Test) → Answers (t ∷ ts) (Ok tt) → (t.fails ≡ false) × Answers ts (Ok tt)
unfolding first
head-passes t ts a = go t.fails refl
  where
    go : (x : Bool) → t.fails ≡ x → (t.fails ≡ false) × Answers ts (Ok tt)
    go true p =
        let v : Verdict = Ok (record { facts = 0; derived = 0; rules = 0; total = 0 }) in
        let q : Err t.refusal ≡ v = sym (ap (λ x. cond x (Err t.refusal) (first ts v)) p) ∙ a.answer v in
        cc
    go false p = (p, record { answer = λ v. sym (ap (λ x. cond x (Err t.refusal) (first ts v)) p) ∙ a.answer v })

-- both parts of a list with no fault have none
pub append-passes : (k l : List Test) → Answers (k ++ l) (Ok tt) → Answers k (Ok tt) × Answers l (Ok tt)
append-passes [] l a = (none, a)
append-passes (t ∷ k) l a =
    let (p, b) = head-passes t (k ++ l) a in
    let (c, d) = append-passes k l b in
    (pass p c, d)

-- so has each group of a list with none
pub each-passes : (n : ℕ) (f : ℕ → List Test) → Answers (each n f) (Ok tt) → (i : ℕ) → i < n → Answers (f i) (Ok tt)
unfolding each upto flatten
each-passes zero f a i q = absurd (omega arith)
each-passes (suc n) f a zero q = (append-passes (f 0) (each n (λ k. f (suc k))) a).0
each-passes (suc n) f a (suc i) q =
    each-passes n (λ k. f (suc k)) (append-passes (f 0) (each n (λ k. f (suc k))) a).1 i (omega arith)

-- tests that end in acceptance have no fault
pub accepted : (ts : List Test) (v : Verdict) {a : Accepted} → first ts v ≡ Ok a → Answers ts (Ok tt)
unfolding first
accepted [] v q = none
accepted (t ∷ ts) v {a} q = go t.fails refl (accepted ts v)
  where
    go : (x : Bool) → t.fails ≡ x → (first ts v ≡ Ok a → Answers ts (Ok tt)) → Answers (t ∷ ts) (Ok tt)
    go true p r =
        let m : Err t.refusal ≡ Ok a = sym (ap (λ x. cond x (Err t.refusal) (first ts v)) p) ∙ q in
        cc
    go false p r = pass p (r (sym (ap (λ x. cond x (Err t.refusal) (first ts v)) p) ∙ q))
