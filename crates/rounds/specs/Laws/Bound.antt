-- From a store that the calls gave back a layer of n atoms takes at most n × (n + 1) updates: at each choice n rounds settle it
-- (`rounds-settle` of growth), and one more finds that. So a budget of the sum over the remaining layers gives finished or full.
use Rattle.std.specs.Prelude.{
  ◌≡◌,
  refl,
  ◌⊎◌,
  Bool,
  true,
  false,
  cond,
  List,
  [],
  ◌∷◌,
  ◌++◌,
  ℕ,
  zero,
  suc,
  ◌+◌,
  ◌*◌,
  ◌≤◌,
  ◌<◌,
  T,
  eqb,
  leb,
  length,
}
use Rattle.std.proofs.Common.{ap, subst, ◌∙◌, inl, inr, append-nil, arith, suc-mul, mul-le-mul, length-append, leb-true, le-leb, ne_eqb}
use Rattle.std.proofs.lemmas.Bool.{lt-leb}
use Rattle.meaning.specs.Lists.{upto, sum}
use Rattle.meaning.specs.Meaning.{Program, atoms, Layered}
use Rattle.meaning.proofs.Laws.Settle.{bit_le}
use Rattle.update.specs.Update.{Store}
use Rattle.update.specs.Laws.Held.{present}
use Rattle.rounds.specs.Layers.{finished_layer, next_layer, has_atoms, atoms_from, atoms_of}
use Rattle.rounds.specs.Budget.{layer_cost, cost}
use Rattle.rounds.specs.Run.{How, Finished, Spent, Full, Ran, run}
use Rattle.rounds.specs.Stages.{Rounds, none, round, closing, Ends, RunAs}
use Rattle.rounds.specs.Laws.Sums.{sum_mono, sum_more, sum-none, sum_one, sum-add, sum-square}
use Rattle.rounds.specs.Laws.Skip.{next-finished}
use Rattle.rounds.specs.Laws.Layers.{atoms-layer, has_some, next-has, next-above, has-between, finished-none}
use Rattle.rounds.specs.Laws.Close.{close-only}
use Rattle.rounds.specs.Laws.Stages.{run-as}
use Rattle.rounds.specs.Laws.Reached.{Standing, standing-each, standing-closed, standing-rounds}
use Rattle.rounds.specs.Laws.Settling.{Settles, standing-settles, settles-less, settled-round}

-- ---- the cost of the layers from k on

-- what layer j adds to it
abbrev share : Program → ℕ → ℕ → ℕ
share P k j = cond (leb k j) (layer_cost P j) 0

share-mono : (P : Program) (k i j : ℕ) → k ≤ i → share P i j ≤ share P k j
share-mono P k i j h = go (leb i j) refl
  where
    go : (b : Bool) → leb i j ≡ b → cond b (layer_cost P j) 0 ≤ share P k j
    go true e = rw (le-leb k j (omega (arith, leb-true i j e))) (omega arith)
    go false e = omega arith

-- fewer layers cost no more
pub cost-mono : (P : Program) (k i : ℕ) → k ≤ i → cost P i ≤ cost P k
unfolding cost
cost-mono P k i h = sum_mono 256 (share P i) (share P k) (λ j. share-mono P k i j h)

cost-split : (P : Program) (k : ℕ) → k < 256 → layer_cost P k + cost P (suc k) ≤ cost P k
unfolding cost
cost-split P k h =
    sum_more 256 (share P (suc k)) (share P k) k (layer_cost P k) h (λ j. share-mono P k (suc k) j (omega arith))
    (rw (lt-leb (suc k) k (omega arith), le-leb k k (omega arith)) (omega arith))

module _ {P : Program} (w : Layered P) where
  -- a layer in work and those above it cost no more than all from it on,
  pub cost-layer : (k : ℕ) → (k ≡ finished_layer) ⊎ T (has_atoms P k) → layer_cost P k + cost P (suc k) ≤ cost P k
  cost-layer k (inl e) =
      let z : length (atoms_of P k) ≡ 0 = rw e (ap length (finished-none w)) in
      rw z (omega (arith, cost-mono P k (suc k) (omega arith)))
  cost-layer k (inr t) = cost-split P k (omega (arith, (has-between w k t).1))

  -- and so the next layer and those above it no more than all above
  cost-next : (k : ℕ) → (k ≡ finished_layer) ⊎ T (has_atoms P k) →
      layer_cost P (next_layer P k) + cost P (suc (next_layer P k)) ≤ cost P (suc k)
  cost-next k (inl e) =
      let z : length (atoms_of P finished_layer) ≡ 0 = ap length (finished-none w) in
      rw (e, next-finished w, z) (omega arith)
  cost-next k (inr t) =
      let above = next-above w k (omega (arith, (has-between w k t).1)) in
      omega (arith, cost-layer (next_layer P k) (next-has w k), cost-mono P (suc k) (next_layer P k) above)

  -- ---- rounds

  module _ (room : atoms P ≤ 544) where
    -- where r rounds settle the layer, at most r change it and one more closes it; so what is left at the end is that much less
    rounds-most : {N k m j : ℕ} {st st₁ : Store} → Standing P k st → (r : ℕ) → Settles P k (present st) r → Rounds P N k st m j st₁ →
        m + (length (atoms_of P j) + cost P (suc j)) ≤ r * length (atoms_of P k) + (length (atoms_of P k) + cost P (suc k))
    rounds-most s r h none = omega arith
    rounds-most {N} s zero h (round u n t) = absurd (n (settled-round w room N s h u))
    rounds-most {N} {k} s (suc r) h (round u n t) =
        let s₁ = standing-each w room s N (atoms_of P k) (atoms-layer P k) u in
        omega (arith, suc-mul r (length (atoms_of P k)), rounds-most s₁ r (settles-less w room N s h u) t)
    rounds-most {N} {k} s r h (closing {i = i} {st₁ = st₁} u n e t) =
        let s₁ = standing-closed w room (standing-each w room s N (atoms_of P k) (atoms-layer P k) u) N e in
        let next : i ≡ next_layer P k = (close-only P N k st₁ e).next in
        let c : layer_cost P i + cost P (suc i) ≤ cost P (suc k) = rw next (cost-next k s.fit.at_work) in
        omega (arith, rounds-most s₁ (length (atoms_of P i)) (standing-settles w s₁) t)

    -- ---- runs

    -- so a run's updates, with those that its last round has left and all of the layers above, are at most what was to come
    run-most : {k budget : ℕ} {st : Store} {N : ℕ} {r : Ran} → Standing P k st → (t : RunAs P N budget k st r) →
        r.updates + (length t.rest + cost P (suc r.layer)) ≤ layer_cost P k + cost P (suc k)
    run-most {k} s t =
        omega (
          arith,
          t.count,
          ap length t.order ∙ length-append t.begun t.rest,
          rounds-most s (length (atoms_of P k)) (standing-settles w s) t.rounds,
        )

    -- and unless the run is finished its last round has some left
    run-left : {k budget : ℕ} {st : Store} {N : ℕ} {r : Ran} → Standing P k st → (t : RunAs P N budget k st r) →
        (r.layer ≡ finished_layer → ⊥) → 0 < length t.rest
    run-left {r = r} s t f = go t.rest t.order t.unfinished
      where
        go : (l : List ℕ) → atoms_of P r.layer ≡ t.begun ++ l → (t.begun ≡ []) ⊎ (l ≡ [] → ⊥) → 0 < length l
        go (a ∷ l) e u = omega arith
        go [] e (inr n) = absurd (n refl)
        go [] e (inl b) = elim (standing-rounds w room s t.rounds).fit.at_work [
          | inl i ↦ absurd (f i)
          | inr i ↦ absurd (has_some P r.layer i (e ∙ append-nil t.begun ∙ b))
        ]

module _ {P : Program} (w : Layered P) (room : atoms P ≤ 544) where
  module _ {k : ℕ} {st : Store} (s : Standing P k st) (N budget : ℕ) (fits : length st.nodes ≤ N) where
    -- n × (n + 1) updates are enough for a layer of n atoms: it is closed, or the store is full
    pub layer-enough : (k ≡ finished_layer → ⊥) → layer_cost P k ≤ budget → ((run P N budget k st).how ≡ Full → ⊥) →
        (run P N budget k st).layer ≡ k → ⊥
    layer-enough f h n e =
        let t = run-as w N budget s.fit fits in
        let g : (run P N budget k st).layer ≡ finished_layer → ⊥ = λ i. f (omega arith) in
        let most : (run P N budget k st).updates + (length t.rest + cost P (suc k)) ≤ layer_cost P k + cost P (suc k) =
        subst (λ j. (run P N budget k st).updates + (length t.rest + cost P (suc j)) ≤ layer_cost P k + cost P (suc k)) e
        (run-most w room s t) in
        go (run P N budget k st).how refl t.rest t.ends g (omega (arith, run-left w room s t g))
      where
        go :
            (x : How) → (run P N budget k st).how ≡ x → (rest : List ℕ) → Ends P N budget (run P N budget k st) rest x →
            ((run P N budget k st).layer ≡ finished_layer → ⊥) → (run P N budget k st).updates < budget → ⊥
        go Finished i rest q g l = g q
        go Spent i rest q g l = omega (arith, q.1)
        go Full i rest q g l = n i

    -- a run makes no more updates than the sum over the remaining layers,
    pub run-count : (run P N budget k st).updates ≤ cost P k
    run-count = omega (arith, run-most w room s (run-as w N budget s.fit fits), cost-layer w k s.fit.at_work)

    -- and with that budget it is finished or full
    pub run-enough : cost P k ≤ budget → (run P N budget k st).how ≡ Spent → ⊥
    run-enough h e =
        let t = run-as w N budget s.fit fits in
        let q : Ends P N budget (run P N budget k st) t.rest Spent =
        subst (Ends P N budget (run P N budget k st) t.rest) e t.ends in
        omega (arith, q.1, run-left w room s t q.0, run-most w room s t, cost-layer w k s.fit.at_work)

-- ---- the most that all layers cost

-- the layers' lists together are no longer than the list of derived atoms: each atom is in one of them at most
atoms-most : (n a : ℕ) (ls : List ℕ) → sum (upto n (λ j. length (atoms_from j a ls))) ≤ length ls
unfolding atoms_from
atoms-most n a [] = omega (arith, sum-none n (λ j. 0) (λ j. refl))
atoms-most n a (l ∷ ls) =
    let own : ℕ → ℕ = λ j. cond (eqb l j) 1 0 in
    let rest : ℕ → ℕ = λ j. length (atoms_from j (suc a) ls) in
    omega (
      arith,
      sum_mono n (λ j. length (atoms_from j a (l ∷ ls))) (λ j. own j + rest j) (λ j. go (eqb l j) (atoms_from j (suc a) ls)),
      sum-add n own rest,
      sum_one n own l (λ j e. rw (ne_eqb l j e) refl),
      bit_le (eqb l l),
      atoms-most n (suc a) ls,
    )
  where
    go : (b : Bool) (l : List ℕ) → length (cond b (a ∷ l) l) ≤ cond b 1 0 + length l
    go true l = omega arith
    go false l = omega arith

cost-all : (P : Program) (k : ℕ) → cost P k ≤ sum (upto 256 (layer_cost P))
unfolding cost
cost-all P k = sum_mono 256 (share P k) (layer_cost P) (λ j. go (leb k j) (layer_cost P j))
  where
    go : (b : Bool) (x : ℕ) → cond b x 0 ≤ x
    go true x = omega arith
    go false x = omega arith

-- the sum is at most that of one layer with all derived atoms
pub cost-most : (P : Program) (k : ℕ) → cost P k ≤ length P.layers * (length P.layers + 1)
cost-most P k =
    let n : ℕ → ℕ = λ j. length (atoms_of P j) in
    let d : sum (upto 256 n) ≤ length P.layers = atoms-most 256 (length P.facts) P.layers in
    let e : sum (upto 256 n) + 1 ≤ length P.layers + 1 = omega arith in
    omega (arith, cost-all P k, sum-square 256 n, mul-le-mul d e)
