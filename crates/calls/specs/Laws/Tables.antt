-- Tables of refusals, row by row: a way out of a call is a chain of rows that are not due, ended by one that is or by the answer.
use Rattle.std.specs.Prelude.{◌≡◌, refl, Bool, true, false, not, cond, ℕ, Result, Ok, Err}
use Rattle.std.proofs.Math.Path.{sym, ap}
use Rattle.std.proofs.Common.{◌∙◌}
use mathlib.Core.List.{List, [], ◌∷◌}
use Rattle.format.specs.File.{decode}
use Rattle.update.specs.Update.{Store, done, full, update_builds, is_full, after_update, update}
use Rattle.rounds.specs.Layers.{next_layer}
use Rattle.rounds.specs.Close.{changed, Closing, closed, unsettled, check_full, judged, check}
use Rattle.state.specs.Hand.{Hand, room, store}
use Rattle.calls.specs.Refusals.{Table, answering, check_tests}
use Rattle.calls.specs.declared.refusal.Refusal.{Refusal}

-- a call with this table gives u (a record, so that its arguments are found)
pub record Gives {A : Type 0} (ts : Table) (refuse : ℕ → ℕ → A) (answer u : A) : Type 0 where
  is : u ≡ answering ts refuse answer

module _ {A : Type 0} {refuse : ℕ → ℕ → A} {answer u : A} where
  -- ---- from a call's equation and to it

  pub gave : {ts : Table} → u ≡ answering ts refuse answer → Gives ts refuse answer u
  gave e = record { is = e }

  pub gives : {ts : Table} → Gives ts refuse answer u → u ≡ answering ts refuse answer
  gives g = g.is

  -- ---- rows

  -- no row is left
  pub answered : u ≡ answer → Gives [] refuse answer u
  unfolding answering
  answered q = record { is = q }

  module _ {ts : Table} {n d : ℕ} {b : Bool} where
    -- the first row is due,
    pub due : b ≡ true → u ≡ refuse n d → Gives ((n, d, b) ∷ ts) refuse answer u
    unfolding answering
    due e q = record { is = q ∙ sym (λ i. answering ((n, d, e i) ∷ ts) refuse answer) }

    -- or it is not, and the others count
    pub skip : b ≡ false → Gives ts refuse answer u → Gives ((n, d, b) ∷ ts) refuse answer u
    unfolding answering
    skip e g = record { is = g.is ∙ sym (λ i. answering ((n, d, e i) ∷ ts) refuse answer) }

  -- a last row tells between two results, which are shown as the refusal and the answer
  pub last : {B : Type 0} (show : B → A) {x y : B} {n d : ℕ} (b : Bool) → show x ≡ refuse n d → show y ≡ answer → u ≡ show (cond b x y) →
      Gives ((n, d, b) ∷ []) refuse answer u
  last show true p r q = due refl (q ∙ p)
  last show false p r q = skip refl (answered (q ∙ r))

  module _ {ts : Table} {fit : Bool} where
    -- "Every later call: 36 first.": what does not fit together is refused, where b tells whether it fits,
    pub misfit : {b : Bool} → b ≡ fit → not b ≡ true → u ≡ refuse 36 0 → Gives ((36, 0, not fit) ∷ ts) refuse answer u
    misfit t n q = due (ap not (sym t) ∙ n) q

    -- and what fits goes on
    pub fitting : fit ≡ true → Gives ts refuse answer u → Gives ((36, 0, not fit) ∷ ts) refuse answer u
    fitting e = skip (ap not e)

-- ---- what a crate below gives, with its reasons as the call's

abbrev pub turned : {T W : Type 0} → (W → Refusal) → Result T W → Result T Refusal
turned why (Ok x) = Ok x
turned why (Err w) = Err (why w)

-- ---- an answer that is carried along, refusals and all

module _ {A : Type 0} (carry : A → A) {refuse refuse₁ : ℕ → ℕ → A} {answer answer₁ u : A} where
  rows : ((n d : ℕ) → refuse n d ≡ carry (refuse₁ n d)) → answer ≡ carry answer₁ → (ts : Table) → u ≡ answering ts refuse₁ answer₁ →
      carry u ≡ answering ts refuse answer
  unfolding answering
  rows refuses ends [] q = ap carry q ∙ sym ends
  rows refuses ends ((n, d, true) ∷ ts) q = ap carry q ∙ sym (refuses n d)
  rows refuses ends ((n, d, false) ∷ ts) q = rows refuses ends ts q

  pub carried : {ts ts₁ : Table} → Gives ts₁ refuse₁ answer₁ u → ts ≡ ts₁ → ((n d : ℕ) → refuse n d ≡ carry (refuse₁ n d)) →
      answer ≡ carry answer₁ → Gives ts refuse answer (carry u)
  carried {ts₁ = ts₁} g same refuses ends = record {
    is = rows refuses ends ts₁ g.is ∙ sym (λ i. answering (same i) refuse answer);
  }

-- ---- the check of a layer

-- what a call makes of a check's result
abbrev pub told : {A : Type 0} → (ℕ → ℕ → A) → (ℕ → A) → Closing → A
told refuse next (closed j) = next j
told refuse next (unsettled a) = refuse 15 a
told refuse next check_full = refuse 12 0

module _ {A : Type 0} (refuse : ℕ → ℕ → A) (next : ℕ → A) {u : A} where
  module _ {answer : A} (st st₁ : Store) (a : ℕ) {ts : Table} (rest : Closing)
      (others : u ≡ told refuse next rest → Gives ts refuse answer u) where
    changed_row : (c : Bool) → u ≡ told refuse next (elim c [ true ↦ unsettled a | false ↦ rest ]) →
        Gives ((15, a, c) ∷ ts) refuse answer u
    changed_row true q = due refl q
    changed_row false q = skip refl (others q)

    full-row : (b : Bool) → u ≡ told refuse next (judged st a (cond b full (done st₁)) rest) →
        Gives ((12, 0, b) ∷ (15, a, changed st st₁ a) ∷ ts) refuse answer u
    full-row true q = due refl q
    full-row false q = skip refl (changed_row (changed st st₁ a) q)

  -- the rows of a check are its result: 12 or 15 at the atom that stops it, or else the next layer
  pub check-told : (s : List ℕ) (h : Hand) (k : ℕ) (l : List ℕ) → u ≡ told refuse next (check (decode s) (room h) k (store h) l) →
      Gives (check_tests s h l) refuse (next (next_layer (decode s) k)) u
  unfolding check_tests check update
  check-told s h k [] q = answered q
  check-told s h k (a ∷ l) q =
      full-row (store h) (after_update (decode s) (store h) a) a (check (decode s) (room h) k (store h) l) (check-told s h k l)
      (is_full (decode s) (room h) (store h) (update_builds (decode s) (store h) a)) q
