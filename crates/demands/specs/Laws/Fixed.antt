-- The update and close calls fix what a run may answer: "the count fixes the state".
-- Of two runs from one hand, `RunAs` makes the longer go along with the other to its end and make one update more; but at its end a run has
-- no update more to make. This holds from any hand for calls that meet demand 1, and from what they gave back for calls that meet demand 2.
use Rattle.std.specs.Prelude.{◌≡◌, refl, ◌⊎◌, true, cond, ℕ, suc, ◌+◌, ◌≤◌, ◌<◌, eqb, length}
use Rattle.std.proofs.Common.{sym, ap, subst, ◌∙◌, inl, inr, true≢false, arith, eqb-true, eq-eqb, ne_eqb}
use mathlib.Core.List.{List, [], ◌∷◌, ◌++◌, append-nil, Memᴰ}
use Rattle.std.proofs.lemmas.Bool.{not-false}
use Rattle.meaning.specs.Meaning.{layer_of}
use Rattle.format.specs.Bytes.{Bytes}
use Rattle.format.specs.File.{decode}
use Rattle.rounds.specs.Layers.{finished_layer, atoms_of}
use Rattle.rounds.specs.Laws.Layers.{atoms-all, has_some, finished-none}
use Rattle.state.specs.Hand.{Hand}
use Rattle.state.specs.Laws.Fits.{passed-layered}
use Rattle.fitting.specs.Fit.{fit_together}
use Rattle.calls.specs.Refusals.{later, update_tests, close_tests}
use Rattle.calls.specs.Calls.{Calls, Ranned}
use Rattle.demands.specs.Reached.{back, back_from, Reached, by_update, by_close}
use Rattle.demands.specs.Demands.{Answers, Exact, Each, in_work, Rounds, Ends, RunAs}
use Rattle.demands.specs.Laws.Holding.{in-hand}
use Rattle.demands.specs.Laws.Tables.{NoneDue, none_first}
use Rattle.demands.specs.Laws.Ways.{later-numbered, update-numbered, close-numbered}

-- ---- calls that are not refused

module _ (s : List ℕ) (bytes : Bytes s) (h : Hand) (fit : fit_together s h ≡ true) where
  -- no update is made at the finish: no atom of a file is of that layer,
  none-finished : (a : ℕ) → NoneDue (update_tests s h a) → h.state.layer ≡ finished_layer → ⊥
  none-finished a none f =
      let is : layer_of (decode s) a ≡ h.state.layer = eqb-true _ _ (not-false _ none.1.0) in
      let m : Memᴰ a (atoms_of (decode s) finished_layer) = atoms-all (decode s) finished_layer (omega arith) a (is ∙ f) in
      mathlib.Core.List.Memᴰ.not-nil (subst (Memᴰ a) (finished-none (passed-layered (in-hand {s = s} {h = h} fit).held.passed bytes)) m)

  -- and a layer that is closed has atoms
  some-closed : NoneDue (close_tests s h) → in_work s h ≡ [] → ⊥
  some-closed none empty = elim (in-hand {s = s} {h = h} fit).held.fit.at_work [
    | inl f ↦ true≢false (sym (eq-eqb _ _ f) ∙ none.0)
    | inr t ↦ has_some (decode s) h.state.layer t empty
  ]

-- what is known of the calls from these hands: they stay among them, no update is made at the finish, and a layer that is closed has atoms
pub record Sane (calls : Calls) (s : List ℕ) (From : Hand → Type 0) : Type 0 where
  pub by_update_on : {h : Hand} → From h → (a : ℕ) → From (back (calls.update s h a))
  pub by_close_on : {h : Hand} → From h → From (back (calls.close s h))
  pub not_finished : {h : Hand} → From h → (a : ℕ) → (calls.update s h a).answer.refusal ≡ 0 → h.state.layer ≡ finished_layer → ⊥
  pub closed_some : {h : Hand} → From h → (calls.close s h).answer.refusal ≡ 0 → in_work s h ≡ [] → ⊥

-- from any hand, of calls that meet demand 1
pub sane-answers : {calls : Calls} {s : List ℕ} → Answers calls → Bytes s → Sane calls s (λ h. Unit {0})
sane-answers {calls} {s} answers bytes = record {
  by_update_on = λ q a. tt;
  by_close_on = λ q. tt;
  not_finished = λ {h} q a e.
      let all = none_first (later s h (update_tests s h a)) (later-numbered s h (update_tests s h a) (update-numbered s h a))
      (sym (answers.update s h a).refuses.number ∙ e) in
      none-finished s bytes h (not-false _ all.0) a all.1;
  closed_some = λ {h} q e.
      let all = none_first (later s h (close_tests s h)) (later-numbered s h (close_tests s h) (close-numbered s h))
      (sym (answers.close s h).refuses.number ∙ e) in
      some-closed s bytes h (not-false _ all.0) all.1;
}

-- from what they gave back, of calls that meet demand 2
pub sane-exact : {calls : Calls} {s : List ℕ} → Exact calls → Bytes s → Sane calls s (Reached calls s)
sane-exact {calls} {s} exact bytes = record {
  by_update_on = by_update;
  by_close_on = by_close;
  not_finished = λ {h} r a e.
      none-finished s bytes h (exact.fits s bytes h r) a
      (none_first (update_tests s h a) (update-numbered s h a) (sym (exact.update_refused s bytes h r a) ∙ e));
  closed_some = λ {h} r e.
      some-closed s bytes h (exact.fits s bytes h r)
      (none_first (close_tests s h) (close-numbered s h) (sym (exact.close_refused s bytes h r) ∙ e));
}

-- ---- two ways from one hand

-- the next update, of the first atom that is left, is made
record Makes (calls : Calls) (s : List ℕ) (h : Hand) (rest : List ℕ) : Type 0 where
  atom : ℕ
  others : List ℕ
  is : rest ≡ atom ∷ others
  made : (calls.update s h atom).answer.refusal ≡ 0

-- two ways of m and n updates, with the atoms that each has left in its round: they are one, or one makes the other's next update
data Meet (calls : Calls) (s : List ℕ) (g : Hand) (m : ℕ) (rest : List ℕ) (k : Hand) (n : ℕ) (rest₁ : List ℕ) : Type 0 where
  same : g ≡ k → m ≡ n → rest ≡ rest₁ → Meet calls s g m rest k n rest₁
  ahead : Makes calls s g rest → m < n → Meet calls s g m rest k n rest₁
  behind : Makes calls s k rest₁ → n < m → Meet calls s g m rest k n rest₁

-- a further round, that changed a place or was followed by a closing
record Turn (calls : Calls) (s : List ℕ) (h : Hand) : Type 0 where
  to : Hand
  each : Each calls s h (in_work s h) to
  goes : (to.lent.places ≡ h.lent.places → ⊥) ⊎ ((calls.close s to).answer.refusal ≡ 0)

-- two ways of whole rounds: they are one, or one makes the other's next round
data MeetWhole (calls : Calls) (s : List ℕ) (g : Hand) (m : ℕ) (k : Hand) (n : ℕ) : Type 0 where
  same : g ≡ k → m ≡ n → MeetWhole calls s g m k n
  ahead : Turn calls s g → m + length (in_work s g) ≤ n → MeetWhole calls s g m k n
  behind : Turn calls s k → n + length (in_work s k) ≤ m → MeetWhole calls s g m k n

module _ {calls : Calls} {s : List ℕ} where
  -- updates of the same atoms leave the same in hand,
  each_same : {h g k : Hand} {l : List ℕ} → Each calls s h l g → Each calls s h l k → g ≡ k
  each_same Each.none Each.none = refl
  each_same (Each.next r e) (Each.next q f) = each_same e f

  meet-more : {g k : Hand} {m n : ℕ} {rest rest₁ : List ℕ} → Meet calls s g m rest k n rest₁ → Meet calls s g (suc m) rest k (suc n) rest₁
  meet-more (Meet.same e c r) = Meet.same e (omega arith) r
  meet-more (Meet.ahead a lt) = Meet.ahead a (omega arith)
  meet-more (Meet.behind a lt) = Meet.behind a (omega arith)

  -- those of two parts of one list meet,
  each-meet : {h g k : Hand} {l i : List ℕ} (rest rest₁ : List ℕ) → l ++ rest ≡ i ++ rest₁ → Each calls s h l g → Each calls s h i k →
      Meet calls s g (length l) rest k (length i) rest₁
  each-meet rest rest₁ o Each.none Each.none = Meet.same refl refl o
  each-meet rest rest₁ o Each.none (Each.next q f) = Meet.ahead (record { atom = _; others = _; is = o; made = q }) (omega arith)
  each-meet rest rest₁ o (Each.next r e) Each.none = Meet.behind (record { atom = _; others = _; is = sym o; made = r }) (omega arith)
  each-meet {h} {k = k} rest rest₁ o (Each.next {a = a} {l = l} r e) (Each.next {a = b} {l = i} q f) =
      let p : b ≡ a = cc in
      let t : l ++ rest ≡ i ++ rest₁ = cc in
      meet-more (each-meet rest rest₁ t e (subst (λ x. Each calls s (back (calls.update s h x)) i k) p f))

  whole-more : {g k : Hand} {m n : ℕ} (x : ℕ) → MeetWhole calls s g m k n → MeetWhole calls s g (x + m) k (x + n)
  whole-more x (MeetWhole.same e c) = MeetWhole.same e (omega arith)
  whole-more x (MeetWhole.ahead t le) = MeetWhole.ahead t (omega arith)
  whole-more x (MeetWhole.behind t le) = MeetWhole.behind t (omega arith)

  -- and so do whole rounds
  rounds-meet : {h g k : Hand} {m n : ℕ} → Rounds calls s h m g → Rounds calls s h n k → MeetWhole calls s g m k n
  rounds-meet Rounds.none Rounds.none = MeetWhole.same refl refl
  rounds-meet Rounds.none (Rounds.round f d q) = MeetWhole.ahead (record { to = _; each = f; goes = inl d }) (omega arith)
  rounds-meet Rounds.none (Rounds.closing f d c q) = MeetWhole.ahead (record { to = _; each = f; goes = inr c }) (omega arith)
  rounds-meet (Rounds.round e d r) Rounds.none = MeetWhole.behind (record { to = _; each = e; goes = inl d }) (omega arith)
  rounds-meet (Rounds.closing e d c r) Rounds.none = MeetWhole.behind (record { to = _; each = e; goes = inr c }) (omega arith)
  rounds-meet (Rounds.round e d r) (Rounds.closing f p c q) = absurd (d (ap (λ x. x.lent.places) (each_same e f) ∙ p))
  rounds-meet (Rounds.closing e p c r) (Rounds.round f d q) = absurd (d (ap (λ x. x.lent.places) (each_same f e) ∙ p))
  rounds-meet {h} {k = k} (Rounds.round e d r) (Rounds.round {n = n} f p q) =
      whole-more (length (in_work s h)) (rounds-meet r (subst (λ x. Rounds calls s x n k) (each_same f e) q))
  rounds-meet {h} {k = k} (Rounds.closing e d c r) (Rounds.closing {n = n} f p z q) =
      whole-more (length (in_work s h)) (rounds-meet r (subst (λ x. Rounds calls s (back (calls.close s x)) n k) (each_same f e) q))

module _ {calls : Calls} {s : List ℕ} {From : Hand → Type 0} (sane : Sane calls s From) where
  -- the calls stay among these hands
  each_from : {h g : Hand} {l : List ℕ} → From h → Each calls s h l g → From g
  each_from q Each.none = q
  each_from q (Each.next {a = a} r e) = each_from (sane.by_update_on q a) e

  rounds-from : {h g : Hand} {n : ℕ} → From h → Rounds calls s h n g → From g
  rounds-from q Rounds.none = q
  rounds-from q (Rounds.round e d r) = rounds-from (each_from q e) r
  rounds-from q (Rounds.closing e d c r) = rounds-from (sane.by_close_on (each_from q e)) r

  -- a further round has atoms
  turn-some : {h : Hand} → From h → Turn calls s h → in_work s h ≡ [] → ⊥
  turn-some {h} q t none =
      let e : h ≡ t.to = each_same Each.none (subst (λ l. Each calls s h l t.to) none t.each) in
      elim t.goes [
        | inl d ↦ d (ap (λ x. x.lent.places) (sym e))
        | inr c ↦ sane.closed_some q (subst (λ x. (calls.close s x).answer.refusal ≡ 0) (sym e) c) none
      ]

-- ---- two runs

-- how a run ends is told by its layer and its count
abbrev outcome_at : ℕ → ℕ → ℕ → ℕ
outcome_at budget layer count = cond (eqb layer finished_layer) 1 (cond (eqb count budget) 2 3)

module _ {calls : Calls} {s : List ℕ} {budget : ℕ} {u : Ranned} where
  ends_at : {rest : List ℕ} → Ends calls s budget rest u →
      u.answer.outcome ≡ outcome_at budget u.answer.state.layer u.answer.updates
  ends_at (Ends.finished o l) = rw (eq-eqb _ _ l) o
  ends_at (Ends.spent o l c) = rw (ne_eqb _ _ l, eq-eqb _ _ c) o
  ends_at (Ends.full o l c r f) = rw (ne_eqb _ _ l, ne_eqb u.answer.updates budget (λ z. omega arith)) o

  module _ {From : Hand → Type 0} (sane : Sane calls s From) where
    -- at its end a run has no update more to make,
    none_more : From (back_from u) → {rest : List ℕ} → Ends calls s budget rest u → Makes calls s (back_from u) rest →
        u.answer.updates < budget → ⊥
    none_more q (Ends.finished o l) m lt = sane.not_finished q m.atom m.made l
    none_more q (Ends.spent o l c) m lt = omega arith
    none_more q (Ends.full {a = a} o l c r f) m lt =
        let p : m.atom ≡ a = cc (m.is, r) in
        let made = m.made in
        let z : (calls.update s (back_from u) m.atom).answer.refusal ≡ 12 = rw p f in
        omega arith

    -- which a further round would make
    next-made : {h : Hand} → From h → (r : RunAs calls s budget h u) → Turn calls s r.between →
        Makes calls s (back_from u) r.rest × (length r.begun < length (in_work s r.between))
    next-made q r t = elim (each-meet r.rest [] (sym r.order ∙ sym (append-nil _)) r.part t.each) [
      | Meet.ahead m lt ↦ (m, lt)
      | Meet.behind m lt ↦ absurd (omega (arith, ap length m.is))
      | Meet.same e c z ↦ elim r.unfinished [
        | inl y ↦ absurd (turn-some sane (rounds-from sane q r.rounds) t (r.order ∙ (λ i. y i ++ z i)))
        | inr n ↦ absurd (n z)
      ]
    ]

-- where a run ends is one of these hands
end-from : {calls : Calls} {s : List ℕ} {budget : ℕ} {h : Hand} {u : Ranned} {From : Hand → Type 0} → Sane calls s From → From h →
    RunAs calls s budget h u → From (back_from u)
end-from sane from r = each_from sane (rounds-from sane from r.rounds) r.part

module _ {calls : Calls} {s : List ℕ} {budget : ℕ} {h : Hand} {u v : Ranned} {From : Hand → Type 0} (sane : Sane calls s From)
    (from : From h) where
  runs-meet : (p : RunAs calls s budget h u) (q : RunAs calls s budget h v) →
      Meet calls s (back_from u) u.answer.updates p.rest (back_from v) v.answer.updates q.rest
  runs-meet p q =
      let c = p.count in
      let d = q.count in
      elim (rounds-meet p.rounds q.rounds) [
        | MeetWhole.ahead t le ↦ let (m, lt) = next-made sane from p t in Meet.ahead m (omega arith)
        | MeetWhole.behind t le ↦ let (m, lt) = next-made sane from q t in Meet.behind m (omega arith)
        | MeetWhole.same e n ↦
            let o : p.begun ++ p.rest ≡ q.begun ++ q.rest = sym p.order ∙ ap (in_work s) e ∙ q.order in
            elim (each-meet p.rest q.rest o p.part (subst (λ x. Each calls s x q.begun (back_from v)) (sym e) q.part)) [
              | Meet.same e z r ↦ Meet.same e (omega arith) r
              | Meet.ahead m lt ↦ Meet.ahead m (omega arith)
              | Meet.behind m lt ↦ Meet.behind m (omega arith)
            ]
      ]

  pub run-fixed : RunAs calls s budget h u → RunAs calls s budget h v →
      (u.answer.updates ≡ v.answer.updates) × (back_from u ≡ back_from v) × (u.answer.outcome ≡ v.answer.outcome)
  run-fixed p q =
      let c = p.within in
      let d = q.within in
      elim (runs-meet p q) [
        | Meet.same e n r ↦ (n, e, ends_at p.ends ∙ (λ i. outcome_at budget (e i).state.layer (n i)) ∙ sym (ends_at q.ends))
        | Meet.ahead m lt ↦ absurd (none_more sane (end-from sane from p) p.ends m (omega arith))
        | Meet.behind m lt ↦ absurd (none_more sane (end-from sane from q) q.ends m (omega arith))
      ]
