-- Demand 2 of a run: it is made of updates and closings, one call after another.
-- Rounds' `run-as` says so of stores; memory that holds a store goes from call to call as the store does.
use Rattle.std.specs.Prelude.{◌≡◌, refl, ℕ, ◌+◌, ◌≤◌, drop}
use Rattle.std.proofs.Math.Path.{sym, ap, subst}
use Rattle.std.proofs.Common.{◌∙◌, arith}
use mathlib.Core.List.Memᴰ
use mathlib.Core.List.{List, [], ◌∷◌, ◌++◌, Memᴰ}
use Rattle.std.proofs.Math.Decide.{ℕ_discrete}
use Rattle.std.proofs.Math.ListN.{length}
use Rattle.format.specs.Bytes.{Bytes}
use Rattle.format.specs.File.{decode}
use Rattle.update.specs.Update.{Store, Updated, done, full, update}
use Rattle.rounds.specs.Layers.{finished_layer, next_layer, atoms_of}
use Rattle.rounds.specs.Close.{closed, close}
use Rattle.rounds.specs.Run.{How, Finished, Spent, Full, Ran, run}
use Rattle.rounds.specs.Stages.{update_each}
use Rattle.rounds.specs.Stages as stores
use Rattle.rounds.specs.Laws.Layers.{atoms-layer, atoms-derived, finished-none}
use Rattle.rounds.specs.Laws.Close.{close-only}
use Rattle.rounds.specs.Laws.Each.{each_first}
use Rattle.rounds.specs.Laws.Budget.{run-within}
use Rattle.rounds.specs.Laws.Skip.{next-finished}
use Rattle.state.specs.Laws.Fits.{passed-layered}
use Rattle.state.specs.Hand.{Hand, room, store, places_in}
use Rattle.calls.specs.Calls.{Stepped, Layering, outcome, update_host, close_host, run_done, run_host, ours}
use Rattle.demands.specs.Reached.{back}
use Rattle.demands.specs.Demands.{Each, none, next, Rounds, round, closing, Ends, finished, spent, RunAs}
use Rattle.demands.specs.Demands as hands
use Rattle.demands.specs.Laws.Holding.{holding, Held, Holds, holding-holds, holding-filled, in-hand}
use Rattle.demands.specs.Laws.Keeping.{held_update, held-each, held-closed, held-as, held-rounds, held-run}
use Rattle.demands.specs.Laws.Ways.{updated, update_here, close-here, run_fits, run-answer}

-- ---- one call

-- an answer that is no refusal, and what it leaves in hand
record Goes (u : Stepped) (h : Hand) : Type 0 where
  answers : u.answer.refusal ≡ 0
  leaves : back u ≡ h

module _ (s : List ℕ) (h : Hand) (long : 544 ≤ length h.lent.places) {k : ℕ} {st : Store} (held : Held s (room h) k st) where
  abbrev x : Hand
  x = holding h k st

  holds : Holds s h k st
  holds = holding-holds long held

  -- the answer of an update of an atom of the layer,
  update-is : (a : ℕ) → Memᴰ a (atoms_of (decode s) k) → {u : Updated} → update (decode s) (room h) st a ≡ u →
      update_host s x a ≡ updated s x u
  update-is a m e =
      update_here s x a holds.fits (atoms-derived (decode s) k a m).1 (atoms-layer (decode s) k a m)
      ((λ i. update (decode s) (holds.room_is i) (holds.store_is i) a) ∙ e)

  -- which goes on,
  update-goes : (a : ℕ) → Memᴰ a (atoms_of (decode s) k) → {st₁ : Store} → update (decode s) (room h) st a ≡ done st₁ →
      Goes (update_host s x a) (holding h k st₁)
  update-goes a m {st₁} e =
      let is = update-is a m e in
      record { answers = ap (λ u. u.answer.refusal) is; leaves = ap back is ∙ holds.again k st₁ }

  -- or is full
  update-stops : (a : ℕ) → Memᴰ a (atoms_of (decode s) k) → update (decode s) (room h) st a ≡ full →
      (update_host s x a).answer.refusal ≡ 12
  update-stops a m e = ap (λ u. u.answer.refusal) (update-is a m e)

  -- a closing of a layer in work goes on
  close-goes : {j : ℕ} → (k ≡ finished_layer → ⊥) → close (decode s) (room h) k st ≡ closed j → Goes (close_host s x) (holding h j st)
  close-goes {j} n e =
      let is = close-here s x holds.fits n ((λ i. close (decode s) (holds.room_is i) k (holds.store_is i)) ∙ e) in
      record { answers = ap (λ u. u.answer.refusal) is; leaves = ap back is }

  -- stores with other places are held in other places
  places-differ : {st₁ : Store} → Held s (room h) k st₁ → (st₁.places ≡ st.places → ⊥) →
      (holding h k st₁).lent.places ≡ x.lent.places → ⊥
  places-differ {st₁} held₁ n e =
      let f = holding-filled {h = h} {k = k} {st = st} long held.used held.fit.long in
      let g = holding-filled {h = h} {k = k} {st = st₁} long held₁.used held₁.fit.long in
      n (sym g.places_are ∙ ap places_in e ∙ f.places_are)

-- ---- one call after another

module _ {layers : List ℕ → List ℕ → Layering} (s : List ℕ) (h : Hand) (long : 544 ≤ length h.lent.places) where
  -- updates of atoms of the layer,
  each_goes : {k : ℕ} {st st₁ : Store} → Held s (room h) k st → (l : List ℕ) →
      ((a : ℕ) → Memᴰ a l → Memᴰ a (atoms_of (decode s) k)) → update_each (decode s) (room h) st l ≡ done st₁ →
      Each (ours layers) s (holding h k st) l (holding h k st₁)
  unfolding update_each
  each_goes {k} {st} {st₁} held [] o e =
      let same : st ≡ st₁ = cc in
      subst (λ y. Each (ours layers) s (holding h k st) [] (holding h k y)) same none
  each_goes {k} {st} {st₁} held (a ∷ l) o e =
      let f = each_first (decode s) (room h) st a l e in
      let m = o a (Memᴰ.head refl) in
      let g = update-goes s h long held a m f.first in
      next g.answers (subst (λ y. Each (ours layers) s y l (holding h k st₁)) (sym g.leaves)
      (each_goes {st = f.next} (held_update held m f.first) l (λ b i. o b (Memᴰ.tail i)) f.rest))

  -- rounds past the finish are none,
  past-finish : Bytes s → {k m i : ℕ} {st st₁ : Store} {g : Hand} → Held s (room h) k st → k ≡ finished_layer →
      update_each (decode s) (room h) st (atoms_of (decode s) k) ≡ done st₁ → close (decode s) (room h) k st₁ ≡ closed i →
      Rounds (ours layers) s (holding h i st₁) m g → Rounds (ours layers) s (holding h k st) (length (atoms_of (decode s) k) + m) g
  unfolding update_each
  past-finish b {k} {m} {i} {st} {st₁} {g} held f e c r =
      let w = passed-layered held.passed b in
      let empty : atoms_of (decode s) k ≡ [] = ap (atoms_of (decode s)) f ∙ finished-none w in
      let alone : done st ≡ done st₁ = subst (λ l. update_each (decode s) (room h) st l ≡ done st₁) empty e in
      let same : st₁ ≡ st = cc in
      let layer : i ≡ k = (close-only (decode s) (room h) k st₁ c).next ∙ ap (next_layer (decode s)) f ∙ next-finished w ∙ sym f in
      let size : length (atoms_of (decode s) k) ≡ 0 = ap length empty in
      subst (λ z. Rounds (ours layers) s (holding h k st) z g) (omega arith)
      (subst (λ y. Rounds (ours layers) s y m g) (λ j. holding h (layer j) (same j)) r)

  -- and whole rounds
  rounds-goes : Bytes s → {k m j : ℕ} {st st₁ : Store} → Held s (room h) k st → stores.Rounds (decode s) (room h) k st m j st₁ →
      Rounds (ours layers) s (holding h k st) m (holding h j st₁)
  rounds-goes b held stores.none = none
  rounds-goes b {k} held (stores.round e d r) =
      let g = held-each held (atoms_of (decode s) k) (λ a m. m) e in
      round (each_goes held (atoms_of (decode s) k) (λ a m. m) e) (places-differ s h long held g d) (rounds-goes b g r)
  rounds-goes b {k} {j = j} {st₁ = st₂} held (stores.closing {i = i} {m} {st₁ = st₁} e d c r) =
      let g = held-each held (atoms_of (decode s) k) (λ a m. m) e in
      let on = rounds-goes b (held-closed b g c) r in
      elim (ℕ_discrete k finished_layer) [
        | yes f ↦ past-finish b held f e c on
        | no n ↦
            let q = close-goes s h long g n c in
            closing (each_goes held (atoms_of (decode s) k) (λ a m. m) e) (λ i. d i ++ drop 544 h.lent.places) q.answers
            (subst (λ y. Rounds (ours layers) s y m (holding h j st₂)) (sym q.leaves) on)
      ]

-- ---- a run

module _ {layers : List ℕ → List ℕ → Layering} where
  -- how it ends
  ends_so : (s : List ℕ) (h : Hand) → 544 ≤ length h.lent.places → (budget : ℕ) (r : Ran) → Held s (room h) r.layer r.store →
      (begun rest : List ℕ) → atoms_of (decode s) r.layer ≡ begun ++ rest → (how : How) → r.how ≡ how →
      stores.Ends (decode s) (room h) budget r rest how → Ends (ours layers) s budget rest (run_done h.lent r)
  ends_so s h long budget r held begun rest o Finished q e = finished (ap outcome q) e
  ends_so s h long budget r held begun rest o Spent q e = spent (ap outcome q) e.0 e.1
  ends_so s h long budget r held begun [] o Full q e = absurd e
  ends_so s h long budget r held begun (a ∷ l) o Full q e =
      hands.full (ap outcome q) e.0 e.1 refl
      (update-stops s h long held a (rw o (Memᴰ.append_right begun (Memᴰ.head refl))) e.2)

  pub ours-run : (s : List ℕ) → Bytes s → (h : Hand) (budget : ℕ) → (run_host s h budget).answer.refusal ≡ 0 →
      RunAs (ours layers) s budget h (run_host s h budget)
  ours-run s b h budget e =
      let fit = run_fits s h budget e in
      let m = in-hand fit in
      let r = held-as b m.held budget in
      let g : Ran = run (decode s) (room h) budget h.state.layer (store h) in
      let between : Hand = holding h g.layer r.between in
      subst (RunAs (ours layers) s budget h) (sym (run-answer s h budget fit)) (record {
        whole = r.whole;
        between = between;
        rounds =
            subst (λ y. Rounds (ours layers) s y r.whole between) (sym m.is)
            (rounds-goes s h m.long b m.held r.rounds);
        begun = r.begun;
        rest = r.rest;
        order = r.order;
        part =
            each_goes s h m.long (held-rounds b m.held r.rounds) r.begun
            (λ a i. rw r.order (Memᴰ.append_left r.rest i)) r.part;
        unfinished = r.unfinished;
        count = r.count;
        within = run-within (decode s) (room h) budget h.state.layer (store h);
        ends = ends_so s h m.long budget g (held-run b m.held budget) r.begun r.rest r.order g.how refl r.ends;
      })
