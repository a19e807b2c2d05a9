-- What the functions of src/lib.rt find, as values of the parts of the test: a part that fails answers no, and where all pass it is yes.
use Rattle.std.specs.Prelude.{◌≡◌, Bool, true, false, not, ◌&&◌, ◌||◌, List, [], ◌∷◌, map, ℕ, ◌+◌, ◌-◌, ◌*◌, ◌≤◌, ◌<◌, min, T, eqb, get_or}
use Rattle.std.specs.Prelude.{take, drop, Ok, Err}
use Rattle.std.specs.List.{list_any}
use Rattle.std.specs.Result.{is_err}
use Rattle.std.proofs.Math.Path.{refl}
use Rattle.std.proofs.Common.{sym, ap, ◌∙◌, eqb→eq, ne_eqb, length-take, length-take-le, take_all}
use Rattle.std.proofs.Math.Dec.{T_not}
use Rattle.std.proofs.Math.Logic.{inl, inr}
use native.Mathlib.Omega.{arith}
use Rattle.std.proofs.Math.Decide.{dec_lt}
use Rattle.std.proofs.Math.ListN.{length, get_or-map}
use borrow.Author.Count.{below_more}
use borrow.Author.Tests.{le-leb, not-true, not-false}
use Rattle.meaning.specs.Lists.{any, all}
use Rattle.meaning.specs.Meaning.{Program, atoms, layer_of}
use Rattle.meaning.proofs.Laws.Tests.{T-or-left, T-or-right, T-or-cases, T_true, T_false, eqb_of, any_is}
use Rattle.format.specs.Counted.{CountsOf}
use Rattle.format.specs.File.{decode}
use Rattle.format.specs.Passed.{Passed}
use Rattle.format.specs.Refusals.{Verdict, verdict, passes}
use Rattle.format.specs.declared.Accepted.{Accepted}
use Rattle.format.specs.Laws.Accepted.{passed}
use Rattle.format.specs.Laws.Passing.{passed-accepted}
use Rattle.format.specs.Laws.Decoded.{decode-facts, decode-layers, decode-atoms}
use Rattle.store.specs.Store.{pack, unpack, nodes_in, Sound}
use Rattle.store.specs.Calls.{Tells}
use Rattle.store.specs.Laws.Nodes.{pack-unpack, unpack-pack, nodes_in-at}
use Rattle.rounds.specs.Layers.{finished_layer, has_atoms}
use Rattle.rounds.specs.Load.{fact_node}
use Rattle.rounds.specs.Laws.Layers.{layer-listed}
use Rattle.state.specs.Hand.{Hand, handing}
use Rattle.fitting.specs.Fit.{as_loaded, names_in_use, store_fits, fit_together}
use Rattle.fitting.specs.Inner.{FitAsked}
use Rattle.fitting.specs.Laws.FitParts.{
  any_at,
  any_place,
  zeros-all,
  zeros-each,
  used_all,
  used-each,
  loaded-all,
  loaded-each,
  row,
  row-all,
  row-each,
}
use Rattle.fitting.specs.Laws.Fit.{Parts, parts_all, parts-each, fits-long}

-- a test that passes, and one that cannot
yes-is : {b : Bool} → T b → true ≡ b
yes-is {b} t = sym (T_true b t)

no-is : {b : Bool} → (T b → ⊥) → false ≡ b
no-is {b} n = sym (T_false b n)

-- ---- unused entries and places

module _ (l : List ℕ) (from : ℕ) where
  -- every entry from `from` on is 0,
  pub unused-yes : ((i : ℕ) → i < length l → from ≤ i → get_or l i 0 ≡ 0) → true ≡ all (eqb 0) (drop from l)
  unused-yes h = yes-is (zeros-all l from (λ i le lt. h i lt le))

  -- or one is not
  pub unused-no : (i : ℕ) → from ≤ i → 0 < get_or l i 0 → false ≡ all (eqb 0) (drop from l)
  unused-no i le pos = no-is (λ t. omega (arith, zeros-each l from t i le))

-- ---- places in use

module _ (count : ℕ) (l : List ℕ) (to : ℕ) where
  -- every place before `to` names a node in use,
  pub used-yes : ((i : ℕ) → i < to → get_or l i 0 < count + 2) → true ≡ names_in_use count (take to l)
  used-yes h = yes-is (used_all count l to h)

  -- or one does not
  pub used-no : (i : ℕ) → i < to → count + 2 ≤ get_or l i 0 → false ≡ names_in_use count (take to l)
  used-no i lt le = no-is (λ t. omega (arith, used-each count l to t i lt))

-- ---- facts as loaded

module _ (nodes places : List ℕ) (facts count : ℕ) (le : facts ≤ count) where
  -- the words and places of the facts are as loaded,
  pub loaded-yes :
      ((i : ℕ) → i < facts → get_or nodes i 0 ≡ i * 67108864 + 1) → ((a : ℕ) → a < facts → get_or places a 0 ≡ a + 2) →
      true ≡ as_loaded facts (nodes_in nodes count) places
  loaded-yes h k = yes-is (loaded-all facts (nodes_in nodes count) places (record {
    nodes = λ i lt.
        let word = h i lt in
        let e : get_or nodes i 0 ≡ pack (fact_node i) = omega arith in
        nodes_in-at nodes count i (omega arith) ∙ ap unpack e ∙ unpack-pack (fact_node i) (omega arith) (omega arith);
    places_are = k;
  }))

  -- or a word is not,
  pub loaded-no-node : (i : ℕ) → i < facts → (get_or nodes i 0 ≡ i * 67108864 + 1 → ⊥) →
      false ≡ as_loaded facts (nodes_in nodes count) places
  loaded-no-node i lt n = no-is (λ t.
      let q = (loaded-each facts (nodes_in nodes count) places t).nodes i lt in
      let e : get_or nodes i 0 ≡ pack (fact_node i) =
      sym (pack-unpack (get_or nodes i 0)) ∙ ap pack (sym (nodes_in-at nodes count i (omega arith)) ∙ q) in
      n (omega arith))

  -- or a place is not
  pub loaded-no-place : (a : ℕ) → a < facts → (get_or places a 0 ≡ a + 2 → ⊥) → false ≡ as_loaded facts (nodes_in nodes count) places
  loaded-no-place a lt n = no-is (λ t. n ((loaded-each facts (nodes_in nodes count) places t).places_are a lt))

-- the words and the places of the facts below i are as loaded
pub record LoadedTo (nodes places : List ℕ) (i : ℕ) : Type 0 where
  pub words : (k : ℕ) → k < i → get_or nodes k 0 ≡ pack (fact_node k)
  pub places_are : (k : ℕ) → k < i → get_or places k 0 ≡ k + 2

module _ (nodes places : List ℕ) where
  -- at the start none is asked,
  pub loaded-none : LoadedTo nodes places 0
  loaded-none = record { words = λ k lt. absurd (omega arith); places_are = λ k lt. absurd (omega arith) }

  -- then one more,
  pub loaded-more : {i : ℕ} → LoadedTo nodes places i → get_or nodes i 0 ≡ pack (fact_node i) → get_or places i 0 ≡ i + 2 →
      LoadedTo nodes places (i + 1)
  loaded-more g w p = record { words = below_more _ _ g.words w; places_are = below_more _ _ g.places_are p }

  module _ (facts : ℕ) (few : facts ≤ 32) where
    -- and in the end all,
    pub words-yes : {i : ℕ} → facts ≤ i → LoadedTo nodes places i → true ≡ as_loaded facts (map unpack nodes) places
    words-yes le g = yes-is (loaded-all facts (map unpack nodes) places (record {
      nodes = λ k lt.
          get_or-map unpack nodes k 0 ∙ ap unpack (g.words k (omega arith)) ∙
          unpack-pack (fact_node k) (omega arith) (omega arith);
      places_are = λ k lt. g.places_are k (omega arith);
    }))

    -- or a word is not,
    pub words-no-node : (i : ℕ) → i < facts → (get_or nodes i 0 ≡ pack (fact_node i) → ⊥) →
        false ≡ as_loaded facts (map unpack nodes) places
    words-no-node i lt n = no-is (λ t.
        let node = sym (get_or-map unpack nodes i 0) ∙ (loaded-each facts (map unpack nodes) places t).nodes i lt in
        n (sym (pack-unpack (get_or nodes i 0)) ∙ ap pack node))

    -- or a place is not
    pub words-no-place : (i : ℕ) → i < facts → (get_or places i 0 ≡ i + 2 → ⊥) → false ≡ as_loaded facts (map unpack nodes) places
    words-no-place i lt n = no-is (λ t. n ((loaded-each facts (map unpack nodes) places t).places_are i lt))

-- ---- the layer in work

module _ {s : List ℕ} {facts derived rules : ℕ} (n : CountsOf s facts derived rules) (layer : ℕ) where
  abbrev work : Bool
  work = eqb layer finished_layer || has_atoms (decode s) layer

  -- a derived atom's layer stands at its place in the list
  listed : (a : ℕ) → facts ≤ a → layer_of (decode s) a ≡ get_or (decode s).layers (a - facts) 0
  listed a h =
      let e : length (decode s).facts ≡ facts = decode-facts s ∙ sym n.facts_are in
      rw e at (layer-listed (decode s) a (omega arith))

  -- the run is finished,
  pub work-finished : layer ≡ 65535 → true ≡ work
  work-finished e = yes-is (T-or-left (eqb layer finished_layer) (has_atoms (decode s) layer) (eqb_of e))

  -- or an atom is of the layer,
  pub work-found : (a : ℕ) {l : ℕ} → facts ≤ a → a < facts + derived → l ≡ layer_of (decode s) a → l ≡ layer → true ≡ work
  unfolding has_atoms
  work-found a le lt e q =
      let inside : a - facts < length (decode s).layers = omega (arith, decode-layers s, n.derived_are) in
      yes-is (T-or-right (eqb layer finished_layer) (has_atoms (decode s) layer)
      (any_at (eqb layer) 0 (decode s).layers (a - facts) inside (eqb_of (sym q ∙ e ∙ listed a le))))

  -- or none is
  pub work_none :
      (layer ≡ 65535 → ⊥) → ((a : ℕ) → a < facts + derived → facts ≤ a → layer_of (decode s) a ≡ layer → ⊥) → false ≡ work
  unfolding has_atoms
  work_none m h = no-is (λ t. elim (T-or-cases (eqb layer finished_layer) (has_atoms (decode s) layer) t) [
    | inl q ↦ m (eqb→eq _ _ q)
    | inr q ↦
        let (i, lt, e) = any_place (eqb layer) 0 (decode s).layers q in
        let back : facts + i - facts ≡ i = omega arith in
        h (facts + i) (omega (arith, decode-layers s, n.derived_are)) (omega arith)
        (listed (facts + i) (omega arith) ∙ rw back (sym (eqb→eq layer _ e)))
  ])

-- the layer is one of the layers, where the run is not finished
pub work-is : (P : Program) (layer : ℕ) {ls : List ℕ} {r : Bool} → ls ≡ P.layers → (layer ≡ 65535 → ⊥) →
    r ≡ list_any (eqb layer) ls → r ≡ (eqb layer finished_layer || has_atoms P layer)
unfolding has_atoms
work-is P layer {ls} same n e = e ∙ any_is (eqb layer) ls ∙ ap (any (eqb layer)) same ∙ sym (rw (ne_eqb layer 65535 n) refl)

-- ---- the store

-- a test joined to those before it
pub and-then : {a b r v : Bool} → a ≡ true → v ≡ r → r ≡ b → v ≡ (a && b)
and-then {a} {b} t e f = rw t (e ∙ f)

pub and-else : {a : Bool} (b : Bool) {v : Bool} → a ≡ false → v ≡ a → v ≡ (a && b)
and-else b t e = rw t at e ∙ sym (rw t refl)

module _ {s nodes places : List ℕ} {facts derived rules : ℕ} (q : FitAsked s nodes places) (n : CountsOf s facts derived rules)
    (layer count : ℕ) where
  abbrev fit : Bool
  fit = store_fits (decode s) nodes places layer count

  facts-of : length (decode s).facts ≡ facts
  facts-of = decode-facts s ∙ sym n.facts_are

  atoms-of : atoms (decode s) ≡ facts + derived
  atoms-of = omega (arith, decode-atoms s, n.facts_are, n.derived_are)

  refuted : (Parts (decode s) nodes places layer count → ⊥) → false ≡ fit
  refuted n = no-is (λ t. n (parts-each (decode s) nodes places layer count t))

  -- too few nodes refute the test,
  pub no-count : count < facts → false ≡ fit
  no-count h = refuted (λ p. omega (arith, p.from, facts-of))

  -- and so do too many;
  pub no_room : length nodes < count → false ≡ fit
  no_room h = refuted (λ p. omega (arith, p.used))

  module _ {r : Bool} (fails : not r ≡ true) where
    failed : {b : Bool} → r ≡ b → T b → ⊥
    failed {b} e t = let f : b ≡ false = sym e ∙ not-true r fails in rw f at t

    -- facts that are not as loaded,
    pub no-loaded : r ≡ as_loaded facts (nodes_in nodes count) places → false ≡ fit
    no-loaded e = refuted (λ p. failed e (rw facts-of at p.loaded))

    -- entries that should be 0,
    pub no-zeros : r ≡ all (eqb 0) (drop count nodes) → false ≡ fit
    no-zeros e = refuted (λ p. failed e p.unused_nodes)

    -- places that should be 0,
    pub no-places : r ≡ all (eqb 0) (drop (facts + derived) places) → false ≡ fit
    no-places e = refuted (λ p. failed e (rw atoms-of at p.unused_places))

    -- places that name no node in use,
    pub no-used : r ≡ names_in_use count (take (facts + derived) places) → false ≡ fit
    no-used e = refuted (λ p. failed e (rw atoms-of at p.used_places))

    -- or a layer without atoms;
    pub no-work : r ≡ (eqb layer finished_layer || has_atoms (decode s) layer) → false ≡ fit
    no-work e = refuted (λ p. failed e p.at_work)

  passed_is : {r b : Bool} → not r ≡ false → r ≡ b → T b
  passed_is {r} {b} n e = let f : b ≡ true = sym e ∙ not-false r n in rw f tt

  -- and where all others pass, the test is as the rules for nodes say
  pub by-rules :
      {a b c d e : Bool} → facts ≤ count → count ≤ length nodes →
      not a ≡ false → a ≡ as_loaded facts (nodes_in nodes count) places →
      not b ≡ false → b ≡ all (eqb 0) (drop count nodes) →
      not c ≡ false → c ≡ all (eqb 0) (drop (facts + derived) places) →
      not d ≡ false → d ≡ names_in_use count (take (facts + derived) places) →
      not e ≡ false → e ≡ (eqb layer finished_layer || has_atoms (decode s) layer) →
      (r : Bool) → Tells r (Sound facts (nodes_in nodes count)) → r ≡ fit
  by-rules h k a₀ a₁ b₀ b₁ c₀ c₁ d₀ d₁ e₀ e₁ = go
    where
      go : (r : Bool) → Tells r (Sound facts (nodes_in nodes count)) → r ≡ fit
      go true g = yes-is (parts_all (decode s) nodes places layer count (record {
        from = omega (arith, facts-of);
        used = k;
        loaded = rw facts-of (passed_is a₀ a₁);
        sound = rw facts-of g;
        unused_nodes = passed_is b₀ b₁;
        unused_places = rw atoms-of (passed_is c₀ c₁);
        used_places = rw atoms-of (passed_is d₀ d₁);
        at_work = passed_is e₀ e₁;
      }))
      go false g = refuted (λ p. g (rw facts-of at p.sound))

  -- these are the tests before the rules for nodes:
  abbrev loaded : Bool
  loaded = as_loaded facts (nodes_in nodes count) places

  abbrev pub others : List Bool
  others =
      all (eqb 0) (drop count nodes) ∷ all (eqb 0) (drop (facts + derived) places) ∷ names_in_use count (take (facts + derived) places) ∷
      (eqb layer finished_layer || has_atoms (decode s) layer) ∷ []

  -- the code makes them over the parts of the nodes and of the places
  pub tests-are : {used unused atoms rest : List ℕ} {m : ℕ} → used ≡ take count nodes → unused ≡ drop count nodes →
      m ≡ facts + derived → atoms ≡ take m places → rest ≡ drop m places →
      {a w r : Bool} → a ≡ as_loaded facts (map unpack used) places → w ≡ (eqb layer finished_layer || has_atoms (decode s) layer) →
      r ≡ row a (all (eqb 0) unused ∷ all (eqb 0) rest ∷ names_in_use count atoms ∷ w ∷ []) → r ≡ row loaded others
  tests-are u v m t d a w e =
      let first = a ∙ ap (λ ws. as_loaded facts (map unpack ws) places) u in
      let front = t ∙ ap (λ k. take k places) m in
      let back = d ∙ ap (λ k. drop k places) m in
      e ∙ (λ i. row (first i) (all (eqb 0) (v i) ∷ all (eqb 0) (back i) ∷ names_in_use count (front i) ∷ w i ∷ []))

  -- one that does not pass refutes the test,
  pub no-tests : {r : Bool} → r ≡ row loaded others → r ≡ false → false ≡ fit
  no-tests e f = refuted (λ p.
      T_not (row loaded others) (rw (sym e ∙ f) tt)
      (row-all loaded others (
        rw facts-of at p.loaded,
        (
          p.unused_nodes,
          (
            rw atoms-of at p.unused_places,
            (
              rw atoms-of at p.used_places,
              (p.at_work, tt),
            ),
          ),
        ),
      )))

  -- and where all pass, the test is as the rules for nodes say
  pub by-row : {r : Bool} → r ≡ row loaded others → r ≡ true → facts ≤ count → count ≤ length nodes →
      (sound : Bool) → Tells sound (Sound facts (nodes_in nodes count)) → sound ≡ fit
  by-row {r} e f h k = go
    where
      go : (sound : Bool) → Tells sound (Sound facts (nodes_in nodes count)) → sound ≡ fit
      go true g =
          let (a, (b, (c, (d, (w, _))))) = row-each loaded others (rw (sym e ∙ f) tt) in
          yes-is (parts_all (decode s) nodes places layer count (record {
            from = omega (arith, facts-of);
            used = k;
            loaded = rw facts-of a;
            sound = rw facts-of g;
            unused_nodes = b;
            unused_places = rw atoms-of c;
            used_places = rw atoms-of d;
            at_work = w;
          }))
      go false g = refuted (λ p. g (rw facts-of at p.sound))

-- ---- the whole test

-- the words in use: as many as there are, at most 4096
pub words_are : (nodes : List ℕ) {n : ℕ} → n ≡ min (length nodes) 4096 → take n nodes ≡ take 4096 nodes
words_are nodes {n} m = elim (dec_lt (length nodes) 4096) [
  | yes lt ↦ take_all n nodes (omega arith) ∙ sym (take_all 4096 nodes (omega arith))
  | no g ↦ let e : n ≡ 4096 = omega arith in rw e refl
]

-- a file passes where its check is no error
passes_is : (v : Verdict) → passes v ≡ not (is_err v)
passes_is (Ok a) = refl
passes_is (Err w) = refl

module _ (s nodes places : List ℕ) (layer count : ℕ) where
  abbrev hand : Hand
  hand = handing nodes places (record { layer = layer; nodes = count })

  -- a refused file does not fit,
  pub no-file : {v : Verdict} {b : Bool} → v ≡ verdict s → b ≡ is_err v → b ≡ true → false ≡ fit_together s hand
  unfolding fit_together
  no-file {v} e q t = let r = sym (ap passes e) ∙ passes_is v ∙ ap not (sym q ∙ t) in rw r refl

  -- too few places do not,
  pub no-long : length places < 544 → false ≡ fit_together s hand
  no-long h = no-is (λ t. omega (arith, fits-long s hand (T_true _ t)))

  -- and else the store tells
  pub by-store : {b : Bool} {n : ℕ} → Passed s → 544 ≤ length places → n ≡ min (length nodes) 4096 →
      b ≡ store_fits (decode s) (take n nodes) (take 544 places) layer count → b ≡ fit_together s hand
  unfolding fit_together
  by-store p long m h =
      h ∙ rw (passed-accepted p, le-leb 544 (length places) long, words_are nodes m) refl

-- a file that is not refused has passed
taken : (v : Verdict) → is_err v ≡ false → (a : Accepted) × (v ≡ Ok a)
taken (Ok a) e = (a, refl)
taken (Err w) e = let z : ◌≡◌ {A = ℕ} 0 1 = cc in absurd (omega arith)

pub accepted : (s : List ℕ) {v : Verdict} {b : Bool} → v ≡ verdict s → b ≡ is_err v → b ≡ false → Passed s
accepted s {v} e q t = passed s (sym e ∙ (taken v (sym q ∙ t)).1)

-- what the store's test asks
pub fit-asked : (s nodes places : List ℕ) {n : ℕ} → Passed s → 544 ≤ length places → n ≡ min (length nodes) 4096 →
    FitAsked s (take n nodes) (take 544 places)
fit-asked s nodes places {n} p long m = record {
  passed = p;
  room = omega (arith, length-take n nodes);
  long = length-take-le 544 places long;
}
