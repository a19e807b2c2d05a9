-- Demand 2 of the count: from what the calls gave back, the updates that a run makes in a layer of n atoms are at most n × (n + 1).
-- Updates that are calls are updates of the store that memory holds; n rounds settle the layer (rounds' `standing-settles`), so that no
-- more than n change an atom.
use Rattle.std.specs.Prelude.{◌≡◌, ℕ, zero, suc, ◌+◌, ◌*◌, ◌≤◌, length, drop}
use Rattle.std.proofs.Math.Path.{refl}
use Rattle.std.proofs.Common.{sym, ap, subst, ◌∙◌, inl, inr, arith, suc-mul, length-append}
use mathlib.Core.List.{List, [], ◌∷◌, ◌++◌, Memᴰ}
use Rattle.meaning.specs.Meaning.{Layered, atoms}
use Rattle.format.specs.Bytes.{Bytes}
use Rattle.format.specs.File.{decode}
use Rattle.update.specs.Update.{Store, Updated, done, full, after_update, update}
use Rattle.update.specs.Laws.Held.{present}
use Rattle.rounds.specs.Layers.{atoms_of}
use Rattle.rounds.specs.Budget.{layer_cost}
use Rattle.rounds.specs.Stages.{update_each}
use Rattle.rounds.specs.Laws.Layers.{atoms-layer}
use Rattle.rounds.specs.Laws.Reached.{Standing, standing-each, reached-standing}
use Rattle.rounds.specs.Laws.Settling.{Settles, standing-settles, settles-less, settled-round}
use Rattle.state.specs.Hand.{Hand, room, store}
use Rattle.calls.specs.Calls.{Layering, update_host, ours}
use Rattle.demands.specs.Reached.{back, Reached}
use Rattle.demands.specs.Demands.{Each, none, next, InLayer, part, round}
use Rattle.demands.specs.Laws.Ground.{Ground, ground}
use Rattle.demands.specs.Laws.Holding.{holding, Held, Holds, holding-holds, in-hand}
use Rattle.demands.specs.Laws.Keeping.{held_update, held-each}
use Rattle.demands.specs.Laws.Ways.{update-ways}

-- updates of the store that memory holds, which then holds the store after them
record Made (s : List ℕ) (h : Hand) (k : ℕ) (st : Store) (l : List ℕ) (g : Hand) : Type 0 where
  after_it : Store
  step : update_each (decode s) (room h) st l ≡ done after_it
  leaves : g ≡ holding h k after_it

module _ (s : List ℕ) (h : Hand) (long : 544 ≤ length h.lent.places) where
  -- one update
  one : {k : ℕ} {st : Store} → Held s (room h) k st → (a : ℕ) → (update_host s (holding h k st) a).answer.refusal ≡ 0 →
      (update (decode s) (room h) st a ≡ done (after_update (decode s) st a)) ×
      (back (update_host s (holding h k st) a) ≡ holding h k (after_update (decode s) st a))
  one {k} {st} held a e =
      let m : Holds s h k st = holding-holds long held in
      let after_is : after_update (decode s) (store (holding h k st)) a ≡ after_update (decode s) st a =
      ap (λ y. after_update (decode s) y a) m.store_is in
      elim (update-ways s (holding h k st) a) [
        | inl r ↦ absurd (r.some_number (sym (ap (λ u. u.answer.refusal) r.is) ∙ e))
        | inr u ↦ (
          (λ i. update (decode s) (sym m.room_is i) (sym m.store_is i) a) ∙ u.step ∙ ap done after_is,
          ap back u.is ∙ m.again k (after_update (decode s) (store (holding h k st)) a) ∙ ap (holding h k) after_is,
        )
      ]

module _ {layers : List ℕ → List ℕ → Layering} (s : List ℕ) (h : Hand) (long : 544 ≤ length h.lent.places) where
  -- one after another
  each_back : {k : ℕ} {st : Store} {g : Hand} (l : List ℕ) → Held s (room h) k st →
      ((a : ℕ) → Memᴰ a l → Memᴰ a (atoms_of (decode s) k)) → Each (ours layers) s (holding h k st) l g → Made s h k st l g
  unfolding update_each
  each_back {st = st} [] held o none = record { after_it = st; step = refl; leaves = refl }
  each_back {k} {st} {g} (a ∷ l) held o (next e r) =
      let (step, leaves) = one s h long held a e in
      let m : Made s h k (after_update (decode s) st a) l g =
      each_back {st = after_update (decode s) st a} l (held_update held (o a (Memᴰ.head refl)) step) (λ b i. o b (Memᴰ.tail i))
      (subst (λ y. Each (ours layers) s y l g) leaves r) in
      record {
        after_it = m.after_it;
        step = (λ i. elim (step i) as (λ _. Updated)
            [ full ↦ full | done st₁ ↦ update_each (decode s) (room h) st₁ l ]) ∙ m.step;
        leaves = m.leaves;
      }

  module _ (w : Layered (decode s)) (few : atoms (decode s) ≤ 544) where
    -- where r more rounds settle the layer, at most r change it, and one more may follow
    in-layer-most : (r : ℕ) {k : ℕ} {st : Store} {n : ℕ} → Held s (room h) k st → Standing (decode s) k st →
        Settles (decode s) k (present st) r → InLayer (ours layers) s (holding h k st) n →
        n ≤ r * length (atoms_of (decode s) k) + length (atoms_of (decode s) k)
    in-layer-most zero held stands settles (part {begun = begun} rest o e) =
        omega (arith, ap length o, length-append begun rest)
    in-layer-most (suc r) held stands settles (part {begun = begun} rest o e) =
        omega (arith, ap length o, length-append begun rest)
    in-layer-most zero {k} {st} held stands settles (round e changes rest) =
        let m = each_back (atoms_of (decode s) k) held (λ a i. i) e in
        let same : m.after_it.places ≡ st.places = settled-round w few (room h) stands settles m.step in
        absurd (changes (ap (λ x. x.lent.places) m.leaves ∙ ap (λ l. l ++ drop 544 h.lent.places) same))
    in-layer-most (suc r) {k} {st} held stands settles (round {n = n} e changes rest) =
        let m = each_back (atoms_of (decode s) k) held (λ a i. i) e in
        let held₁ = held-each held (atoms_of (decode s) k) (λ a i. i) m.step in
        let stands₁ = standing-each w few stands (room h) (atoms_of (decode s) k) (atoms-layer (decode s) k) m.step in
        let most =
        in-layer-most r held₁ stands₁ (settles-less w few (room h) stands settles m.step)
        (subst (λ y. InLayer (ours layers) s y n) m.leaves rest) in
        omega (arith, suc-mul r (length (atoms_of (decode s) k)), most)

-- the field `bound` of Exact
pub ours-bound : {layers : List ℕ → List ℕ → Layering} (s : List ℕ) → Bytes s → (h : Hand) → Reached (ours layers) s h → (n : ℕ) →
    InLayer (ours layers) s h n → n ≤ layer_cost (decode s) h.state.layer
ours-bound {layers} s b h r n i =
    let g : Ground s h = ground b r in
    let m = in-hand g.fit in
    let stands = reached-standing g.layered g.few g.reached in
    omega (
      arith,
      in-layer-most s h m.long g.layered g.few _ m.held stands (standing-settles g.layered stands)
          (subst (λ y. InLayer (ours layers) s y n) m.is i),
    )
