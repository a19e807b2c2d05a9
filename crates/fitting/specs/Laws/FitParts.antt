-- The parts of the test of "fit together", read as statements about each place, both ways.
-- A test of all entries of a list is a test of every place; the rules for nodes are those of a sound store.
use Rattle.std.specs.Prelude.{◌≡◌, refl, ◌⊎◌, Bool, not, ◌&&◌, ltb, get_or, take, drop}
use Rattle.std.proofs.Common.{sym, subst, ◌∙◌, inl, inr, length-take, length-drop, get_or-take, get_or-drop}
use mathlib.Core.List.{List, [], ◌∷◌}
use Prim.Native.Nat.{ℕ, zero, suc, ◌+◌, ◌-◌, ◌≤◌, ◌<◌}
use native.Mathlib.Omega.{arith}
use Rattle.std.proofs.Math.Decide.{dec_lt}
use Rattle.std.proofs.Math.Dec.{T, eqb, T_not, not_T, ltb→lt, lt→ltb, eqb→eq}
use Rattle.std.proofs.Math.ListN.{length, get_or-eq_default}
use Rattle.meaning.specs.Lists.{any, all, upto}
use Rattle.meaning.proofs.Laws.Tests.{
  T_and,
  T-and-left,
  T-and-right,
  T-or-left,
  T-or-right,
  T-or-cases,
  T_true,
  eqb_of,
  any-intro,
  any-elim,
  all-intro,
  all-elim,
  mem-upto,
  mem-of-upto,
}
use Rattle.diagram.specs.Listing.{same_node}
use Rattle.diagram.specs.declared.Node.{Node}
use Rattle.store.specs.Store.{nowhere, fact_at, Sound}
use Rattle.store.specs.Laws.Nodes.{same_node-refl, same_node-true}
use Rattle.rounds.specs.Load.{fact_node}
use Rattle.fitting.specs.Fit.{as_loaded, obeys, names_in_use}

-- ---- every place

module _ {A : Type 0} (f : A → Bool) (d : A) where
  -- `all` passes where every place does,
  pub all-at : (l : List A) → ((i : ℕ) → i < length l → T (f (get_or l i d))) → T (all f l)
  unfolding all
  all-at [] h = tt
  all-at (x ∷ l) h = T_and (f x) (all f l) (h 0 (omega arith)) (all-at l (λ i lt. h (suc i) (omega arith)))

  -- and then each place does;
  pub all-each : (l : List A) → T (all f l) → (i : ℕ) → i < length l → T (f (get_or l i d))
  unfolding all
  all-each [] t i h = absurd (omega arith)
  all-each (x ∷ l) t zero h = T-and-left (f x) (all f l) t
  all-each (x ∷ l) t (suc i) h = all-each l (T-and-right (f x) (all f l) t) i (omega arith)

  -- `any` passes where a place does,
  pub any_at : (l : List A) (i : ℕ) → i < length l → T (f (get_or l i d)) → T (any f l)
  unfolding any
  any_at [] i h t = absurd (omega arith)
  any_at (x ∷ l) zero h t = T-or-left (f x) (any f l) t
  any_at (x ∷ l) (suc i) h t = T-or-right (f x) (any f l) (any_at l i (omega arith) t)

  -- and then there is such a place
  pub any_place : (l : List A) → T (any f l) → (i : ℕ) × (i < length l) × T (f (get_or l i d))
  unfolding any
  any_place [] t = absurd t
  any_place (x ∷ l) t = go (T-or-cases (f x) (any f l) t) (any_place l)
    where
      go :
          T (f x) ⊎ T (any f l) → (T (any f l) → (i : ℕ) × (i < length l) × T (f (get_or l i d))) →
          (i : ℕ) × (i < length (x ∷ l)) × T (f (get_or (x ∷ l) i d))
      go (inl h) r = (0, omega arith, h)
      go (inr h) r = let (i, lt, q) = r h in (suc i, omega arith, q)

module _ (n : ℕ) (f : ℕ → Bool) where
  -- the test of every number below n passes where each does,
  pub below_all : ((i : ℕ) → i < n → T (f i)) → T (all f (upto n (λ i. i)))
  below_all h = all-intro f (upto n (λ i. i)) (λ x m. let (i, lt, e) = mem-of-upto n (λ i. i) m in subst (λ y. T (f y)) (sym e) (h i lt))

  -- and nowhere else
  pub below_each : T (all f (upto n (λ i. i))) → (i : ℕ) → i < n → T (f i)
  below_each t i lt = all-elim f (upto n (λ i. i)) t (mem-upto n (λ i. i) i lt)

-- ---- "unused entries and places are 0"

module _ (l : List ℕ) (from : ℕ) where
  -- the entries from `from` on pass where each is 0,
  pub zeros-all : ((i : ℕ) → from ≤ i → i < length l → get_or l i 0 ≡ 0) → T (all (eqb 0) (drop from l))
  zeros-all h = all-at (eqb 0) 0 (drop from l) (λ i lt.
      let in-l : from + i < length l = omega (arith, length-drop from l) in
      eqb_of (sym (get_or-drop from l i 0 ∙ h (from + i) (omega arith) in-l)))

  -- and then each is, past the end too
  pub zeros-each : T (all (eqb 0) (drop from l)) → (i : ℕ) → from ≤ i → get_or l i 0 ≡ 0
  zeros-each t i le = elim (dec_lt i (length l)) [
    | yes lt ↦
        let e : from + (i - from) ≡ i = omega arith in
        let q : 0 ≡ get_or (drop from l) (i - from) 0 =
        eqb→eq 0 _ (all-each (eqb 0) 0 (drop from l) t (i - from) (omega (arith, length-drop from l))) in
        sym (q ∙ get_or-drop from l (i - from) 0 ∙ rw e refl)
    | no n ↦ get_or-eq_default l 0 {n = i} (omega arith)
  ]

-- ---- "the other places name nodes in use"

module _ (count : ℕ) (l : List ℕ) (to : ℕ) where
  -- the places before `to` pass where each is below count + 2,
  pub used_all : ((i : ℕ) → i < to → get_or l i 0 < count + 2) → T (names_in_use count (take to l))
  used_all h = all-at (λ p. ltb p (count + 2)) 0 (take to l) (λ i lt.
      let near : i < to = omega (arith, length-take to l) in
      rw (get_or-take to l i 0 near) (lt→ltb (get_or l i 0) (count + 2) (h i near)))

  -- and then each is, past the end too
  pub used-each : T (names_in_use count (take to l)) → (i : ℕ) → i < to → get_or l i 0 < count + 2
  used-each t i near = elim (dec_lt i (length l)) [
    | yes lt ↦
        let q : T (ltb (get_or (take to l) i 0) (count + 2)) =
        all-each (λ p. ltb p (count + 2)) 0 (take to l) t i (omega (arith, length-take to l)) in
        rw (get_or-take to l i 0 near) at (ltb→lt (get_or (take to l) i 0) (count + 2) q)
    | no n ↦ omega (arith, get_or-eq_default l 0 {n = i} (omega arith))
  ]

-- ---- a row of tests

-- a && b && c .. , from its first test and the others
abbrev pub row : Bool → List Bool → Bool
row a [] = a
row a (b ∷ l) = row (a && b) l

-- each of these tests passes
abbrev pub Pass : List Bool → Type 0
Pass [] = Unit
Pass (a ∷ l) = T a × Pass l

-- a row passes where all of its tests do,
pub row-all : (a : Bool) (l : List Bool) → Pass (a ∷ l) → T (row a l)
row-all a [] h = h.0
row-all a (b ∷ l) h = row-all (a && b) l (T_and a b h.0 h.1.0, h.1.1)

-- and nowhere else
pub row-each : (a : Bool) (l : List Bool) → T (row a l) → Pass (a ∷ l)
row-each a [] h = (h, tt)
row-each a (b ∷ l) h = let (t, r) = row-each (a && b) l h in (T-and-left a b t, (T-and-right a b t, r))

-- ---- "facts' nodes and places are as loaded"

-- what loading leaves of F facts
pub record Loaded (F : ℕ) (ns : List Node) (places : List ℕ) : Type 0 where
  pub nodes : (i : ℕ) → i < F → get_or ns i nowhere ≡ fact_node i
  pub places_are : (a : ℕ) → a < F → get_or places a 0 ≡ a + 2

module _ (F : ℕ) (ns : List Node) (places : List ℕ) where
  abbrev node-tests : Bool
  node-tests = all (λ i. same_node (get_or ns i nowhere) (fact_node i)) (upto F (λ i. i))

  abbrev place-tests : Bool
  place-tests = all (λ a. eqb (get_or places a 0) (a + 2)) (upto F (λ i. i))

  -- the test passes for facts as loaded,
  pub loaded-all : Loaded F ns places → T (as_loaded F ns places)
  unfolding as_loaded
  loaded-all h =
      T_and node-tests place-tests
      (below_all F (λ i. same_node (get_or ns i nowhere) (fact_node i)) (λ i lt. rw (h.nodes i lt, same_node-refl (fact_node i)) tt))
      (below_all F (λ a. eqb (get_or places a 0) (a + 2)) (λ a lt. eqb_of (h.places_are a lt)))

  -- and for no others
  pub loaded-each : T (as_loaded F ns places) → Loaded F ns places
  unfolding as_loaded
  loaded-each t = record {
    nodes = λ i lt.
        same_node-true (get_or ns i nowhere) (fact_node i) (T_true _
        (below_each F (λ i. same_node (get_or ns i nowhere) (fact_node i)) (T-and-left node-tests place-tests t) i lt));
    places_are = λ a lt.
        eqb→eq (get_or places a 0) (a + 2)
        (below_each F (λ a. eqb (get_or places a 0) (a + 2)) (T-and-right node-tests place-tests t) a lt);
  }

-- ---- "every node obeys the rules above"

module _ (F : ℕ) (ns : List Node) where
  abbrev node : ℕ → Node
  node i = get_or ns i nowhere

  -- node i obeys the rules, and none before it is the same
  record Obeys (i : ℕ) : Type 0 where
    fact_below : (node i).fact < F
    low_below : (node i).low < i + 2
    high_below : (node i).high < i + 2
    low_rises : (node i).fact < fact_at F ns (node i).low
    high_rises : (node i).fact < fact_at F ns (node i).high
    sides_differ : (node i).low ≡ (node i).high → ⊥
    first : (j : ℕ) → j < i → node j ≡ node i → ⊥

  -- some node before i is the same
  abbrev before : ℕ → Bool
  before i = any (λ j. same_node (get_or ns j nowhere) (get_or ns i nowhere)) (upto i (λ j. j))

  -- the tests of node i after the first
  abbrev others : ℕ → List Bool
  others i =
      ltb (node i).low (i + 2) ∷ ltb (node i).high (i + 2) ∷ ltb (node i).fact (fact_at F ns (node i).low) ∷
      ltb (node i).fact (fact_at F ns (node i).high) ∷ not (eqb (node i).low (node i).high) ∷ not (before i) ∷ []

  obeys-each : (i : ℕ) → T (obeys F ns i) → Obeys i
  unfolding obeys
  obeys-each i t =
      let (a, (b, (c, (d, (e, (f, (g, _))))))) = row-each (ltb (node i).fact F) (others i) t in
      record {
        fact_below = ltb→lt _ _ a;
        low_below = ltb→lt _ _ b;
        high_below = ltb→lt _ _ c;
        low_rises = ltb→lt _ _ d;
        high_rises = ltb→lt _ _ e;
        sides_differ = λ q. T_not (eqb (node i).low (node i).high) f (eqb_of q);
        first = λ j lt q. T_not (before i) g
            (any-intro (λ j. same_node (get_or ns j nowhere) (get_or ns i nowhere)) (upto i (λ j. j)) (mem-upto i (λ j. j) j lt)
            (rw (q, same_node-refl (node i)) tt));
      }

  obeys-all : (i : ℕ) → Obeys i → T (obeys F ns i)
  unfolding obeys
  obeys-all i o =
      row-all (ltb (node i).fact F) (others i) (
        lt→ltb _ _ o.fact_below,
        (
          lt→ltb _ _ o.low_below,
          (
            lt→ltb _ _ o.high_below,
            (
              lt→ltb _ _ o.low_rises,
              (
                lt→ltb _ _ o.high_rises,
                (
                  not_T (eqb (node i).low (node i).high) (λ t. o.sides_differ (eqb→eq _ _ t)),
                  (
                    not_T (before i) (λ t.
                        let (x, m, q) = any-elim (λ j. same_node (get_or ns j nowhere) (get_or ns i nowhere)) (upto i (λ j. j)) t in
                        let (j, lt, e) = mem-of-upto i (λ j. j) m in
                        o.first j lt (same_node-true (node j) (node i) (T_true _ (subst (λ y. T (same_node (node y) (node i))) e q)))),
                    tt,
                  ),
                ),
              ),
            ),
          ),
        ),
      )

  -- where every node obeys, the store is sound,
  pub rules-each : T (all (obeys F ns) (upto (length ns) (λ i. i))) → Sound F ns
  rules-each t =
      let o : (i : ℕ) → i < length ns → Obeys i = λ i lt. obeys-each i (below_each (length ns) (obeys F ns) t i lt) in
      record {
        fact_below = λ i h. (o i h).fact_below;
        low_below = λ i h. (o i h).low_below;
        high_below = λ i h. (o i h).high_below;
        low_rises = λ i h. (o i h).low_rises;
        high_rises = λ i h. (o i h).high_rises;
        sides_differ = λ i h. (o i h).sides_differ;
        once = λ i j hi hj e. elim (dec_lt i j) [
          | yes lt ↦ absurd ((o j hj).first i lt e)
          | no ge ↦ elim (dec_lt j i) [ yes lt ↦ absurd ((o i hi).first j lt (sym e)) | no le ↦ omega arith ]
        ];
      }

  -- and in a sound store every node obeys
  pub rules-all : Sound F ns → T (all (obeys F ns) (upto (length ns) (λ i. i)))
  rules-all s = below_all (length ns) (obeys F ns) (λ i h. obeys-all i (record {
    fact_below = s.fact_below i h;
    low_below = s.low_below i h;
    high_below = s.high_below i h;
    low_rises = s.low_rises i h;
    high_rises = s.high_rises i h;
    sides_differ = s.sides_differ i h;
    first = λ j lt e. let same = s.once j i (omega arith) h e in omega arith;
  }))
