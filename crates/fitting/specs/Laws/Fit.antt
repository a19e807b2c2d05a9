-- The test of "fit together" says exactly what it should: what passes fits, as the engine asks it, and what fits passes.
-- Each part of the test is read as a statement by the lemmas for tests; the parts are then put together.
use Rattle.std.specs.Prelude.{
  Ok,
  Err,
  ◌≡◌,
  refl,
  Bool,
  true,
  ◌||◌,
  List,
  [],
  ◌∷◌,
  ℕ,
  ◌+◌,
  ◌-◌,
  ◌≤◌,
  ◌<◌,
  eqb,
  leb,
  get_or,
  take,
  drop,
  replicate,
}
use Rattle.std.proofs.Common.{
  sym,
  ap,
  ◌∙◌,
  inl,
  inr,
  arith,
  eqb→eq,
  length-take,
  length-drop,
  length-take-le,
  take_all,
  get_or-take,
  get_or-drop,
  ext_get_or,
  le-leb,
}
use Rattle.std.proofs.Math.Dec.{T, leb→le, le→leb}
use Rattle.std.proofs.Math.ListN.{length}
use Rattle.std.proofs.lemmas.List.{length-replicate, get_or-replicate}
use Rattle.meaning.specs.Lists.{all, upto}
use Rattle.meaning.specs.Meaning.{Program, atoms}
use Rattle.meaning.proofs.Laws.Tests.{T-or-left, T-or-right, T-or-cases, T_true, eqb_of, get_or-upto, length-upto}
use Rattle.format.specs.File.{decode}
use Rattle.format.specs.Refusals.{Verdict, verdict, passes}
use Rattle.format.specs.Laws.Accepted.{passed}
use Rattle.format.specs.Passed.{Passed}
use Rattle.format.specs.Laws.Passing.{passed-accepted}
use Rattle.store.specs.Store.{nodes_in, nowhere, Sound}
use Rattle.store.specs.Laws.Nodes.{nodes_in-length}
use Rattle.rounds.specs.Layers.{finished_layer, has_atoms}
use Rattle.rounds.specs.Load.{fact_node}
use Rattle.rounds.specs.Fit.{Fit}
use Rattle.update.specs.Words.{store_in}
use Rattle.state.specs.Answers.{Fits}
use Rattle.fitting.specs.Fit.{as_loaded, obeys, names_in_use, store_fits, fit_together}
use Rattle.state.specs.Hand.{Hand, handing, words_in, places_in}
use Rattle.state.specs.declared.State.{State}
use Rattle.fitting.specs.Laws.FitParts.{
  Loaded,
  zeros-all,
  zeros-each,
  used_all,
  used-each,
  loaded-all,
  loaded-each,
  rules-all,
  rules-each,
  row-all,
  row-each,
}

-- words and places fit the program, in document 01's words
pub record StoreFits (P : Program) (nodes places : List ℕ) (layer count : ℕ) : Type 0 where
  pub used : count ≤ length nodes
  pub unused : drop count nodes ≡ replicate (length nodes - count) 0
  pub fit : Fit P layer (store_in nodes places count)

-- the parts of the test
pub record Parts (P : Program) (nodes places : List ℕ) (layer count : ℕ) : Type 0 where
  pub from : length P.facts ≤ count
  pub used : count ≤ length nodes
  pub loaded : T (as_loaded (length P.facts) (nodes_in nodes count) places)
  pub sound : Sound (length P.facts) (nodes_in nodes count)
  pub unused_nodes : T (all (eqb 0) (drop count nodes))
  pub unused_places : T (all (eqb 0) (drop (atoms P) places))
  pub used_places : T (names_in_use count (take (atoms P) places))
  pub at_work : T (eqb layer finished_layer || has_atoms P layer)

module _ (P : Program) (nodes places : List ℕ) (layer count : ℕ) where
  abbrev F : ℕ
  F = length P.facts

  abbrev rules : Bool
  rules = all (obeys F (nodes_in nodes count)) (upto count (λ i. i))

  abbrev tests : List Bool
  tests =
      leb count (length nodes) ∷ as_loaded F (nodes_in nodes count) places ∷ rules ∷ all (eqb 0) (drop count nodes) ∷
      all (eqb 0) (drop (atoms P) places) ∷ names_in_use count (take (atoms P) places) ∷ (eqb layer finished_layer || has_atoms P layer) ∷
      []

  -- the test passes where its parts do,
  pub parts_all : Parts P nodes places layer count → T (store_fits P nodes places layer count)
  unfolding store_fits
  parts_all p =
      let r : T rules = rw (nodes_in-length nodes count p.used) at (rules-all F (nodes_in nodes count) p.sound) in
      row-all (leb F count) tests (
        le→leb _ _ p.from,
        (
          le→leb _ _ p.used,
          (
            p.loaded,
            (
              r,
              (
                p.unused_nodes,
                (
                  p.unused_places,
                  (
                    p.used_places,
                    (p.at_work, tt),
                  ),
                ),
              ),
            ),
          ),
        ),
      )

  -- and nowhere else
  pub parts-each : T (store_fits P nodes places layer count) → Parts P nodes places layer count
  unfolding store_fits
  parts-each t =
      let (a, (b, (c, (d, (e, (f, (g, (h, _)))))))) = row-each (leb F count) tests t in
      let size : length (nodes_in nodes count) ≡ count = nodes_in-length nodes count (leb→le _ _ b) in
      record {
        from = leb→le _ _ a;
        used = leb→le _ _ b;
        loaded = c;
        sound = rules-each F (nodes_in nodes count) (rw size d);
        unused_nodes = e;
        unused_places = f;
        used_places = g;
        at_work = h;
      }

  -- zeros are a list of zeros,
  zeros-are : T (all (eqb 0) (drop count nodes)) → drop count nodes ≡ replicate (length nodes - count) 0
  zeros-are t =
      let len : length (replicate {A = ℕ} (length nodes - count) 0) ≡ length nodes - count = length-replicate (length nodes - count) 0 in
      ext_get_or 0 (drop count nodes) (replicate (length nodes - count) 0) (omega (arith, length-drop count nodes)) (λ i lt.
      get_or-drop count nodes i 0 ∙ zeros-each nodes count t (count + i) (omega arith) ∙
      sym (get_or-replicate (length nodes - count) i 0 0 (omega (arith, length-drop count nodes))))

  -- and the facts' nodes are those of loading
  nodes-are : F ≤ length (nodes_in nodes count) → Loaded F (nodes_in nodes count) places → take F (nodes_in nodes count) ≡ upto F fact_node
  nodes-are le l =
      let len : length (take F (nodes_in nodes count)) ≡ F = length-take-le F (nodes_in nodes count) le in
      ext_get_or nowhere (take F (nodes_in nodes count)) (upto F fact_node) (len ∙ sym (length-upto F fact_node)) (λ i lt.
      let near : i < F = omega arith in
      get_or-take F (nodes_in nodes count) i nowhere near ∙ l.nodes i near ∙ sym (get_or-upto F fact_node nowhere i near))

  -- a store that passes fits the program,
  pub store-fits : length places ≡ 544 → store_fits P nodes places layer count ≡ true → StoreFits P nodes places layer count
  store-fits long e =
      let p : Parts P nodes places layer count = parts-each (rw e tt) in
      let size : length (nodes_in nodes count) ≡ count = nodes_in-length nodes count p.used in
      let l : Loaded F (nodes_in nodes count) places = loaded-each F (nodes_in nodes count) places p.loaded in
      let from = p.from in
      record {
        used = p.used;
        unused = zeros-are p.unused_nodes;
        fit = record {
          count = omega arith;
          fact_nodes = nodes-are (omega arith) l;
          fact_places_are = l.places_are;
          sound = p.sound;
          long = long;
          unused_places = λ a h. zeros-each places (atoms P) p.unused_places a h;
          other_places = λ a h. rw size (used-each count places (atoms P) p.used_places a h);
          at_work = elim (T-or-cases (eqb layer finished_layer) (has_atoms P layer) p.at_work) [
            | inl q ↦ inl (eqb→eq _ _ q)
            | inr q ↦ inr q
          ];
        };
      }

  -- and one that fits passes: the test is exactly 01's "fit together"
  pub fits-store : length places ≡ 544 → StoreFits P nodes places layer count → store_fits P nodes places layer count ≡ true
  fits-store long g =
      let f = g.fit in
      let size : length (nodes_in nodes count) ≡ count = nodes_in-length nodes count g.used in
      let some = f.count in
      T_true _ (parts_all (record {
        from = omega arith;
        used = g.used;
        loaded = loaded-all F (nodes_in nodes count) places (record {
          nodes = λ i lt.
              sym (get_or-take F (nodes_in nodes count) i nowhere lt) ∙ ap (λ l. get_or l i nowhere) f.fact_nodes ∙
              get_or-upto F fact_node nowhere i lt;
          places_are = f.fact_places_are;
        });
        sound = f.sound;
        unused_nodes = zeros-all nodes count (λ i le lt.
            let e : count + (i - count) ≡ i = omega arith in
            sym (get_or-drop count nodes (i - count) 0 ∙ rw e refl) ∙ ap (λ l. get_or l (i - count) 0) g.unused ∙
            get_or-replicate (length nodes - count) (i - count) 0 0 (omega arith));
        unused_places = zeros-all places (atoms P) (λ a le lt. f.unused_places a le);
        used_places = used_all count places (atoms P) (λ a lt. rw size at (f.other_places a lt));
        at_work = elim f.at_work [
          | inl q ↦ T-or-left (eqb layer finished_layer) (has_atoms P layer) (eqb_of q)
          | inr q ↦ T-or-right (eqb layer finished_layer) (has_atoms P layer) q
        ];
      }))

-- ---- the whole test

-- an accepted file has passed
passes-passed : (s : List ℕ) (v : Verdict) → verdict s ≡ v → T (passes v) → Passed s
passes-passed s (Ok a) e h = passed s e
passes-passed s (Err w) e h = absurd h

record Whole (s : List ℕ) (h : Hand) : Type 0 where
  file : Passed s
  long : 544 ≤ length h.lent.places
  store : store_fits (decode s) (words_in h.lent.nodes) (places_in h.lent.places) h.state.layer h.state.nodes ≡ true

whole : (s : List ℕ) (h : Hand) → fit_together s h ≡ true → Whole s h
unfolding fit_together
whole s h e =
    let st : Bool = store_fits (decode s) (words_in h.lent.nodes) (places_in h.lent.places) h.state.layer h.state.nodes in
    let (a, (b, (c, _))) = row-each (passes (verdict s)) (leb 544 (length h.lent.places) ∷ st ∷ []) (rw e tt) in
    record { file = passes-passed s (verdict s) refl a; long = leb→le _ _ b; store = T_true st c }

-- a file and what is in hand that pass the test fit together, as the engine asks it,
pub fits-inner : (s : List ℕ) (h : Hand) → fit_together s h ≡ true →
    Fits s (words_in h.lent.nodes) (places_in h.lent.places) h.state
fits-inner s h e =
    let w : Whole s h = whole s h e in
    let f =
    store-fits (decode s) (words_in h.lent.nodes) (places_in h.lent.places) h.state.layer h.state.nodes
    (length-take-le 544 h.lent.places w.long) w.store in
    record {
      passed = w.file;
      room = omega (arith, length-take 4096 h.lent.nodes);
      used = f.used;
      unused = f.unused;
      fit = f.fit;
    }

-- and there are 544 places
pub fits-long : (s : List ℕ) (h : Hand) → fit_together s h ≡ true → 544 ≤ length h.lent.places
fits-long s h e = (whole s h e).long

-- and what fits passes: memory of which all is used is its own used part
pub inner-fits : {s nodes places : List ℕ} {state : State} → Fits s nodes places state → fit_together s (handing nodes places state) ≡ true
unfolding fit_together
inner-fits {s} {nodes} {places} {state} f =
    let long : length places ≡ 544 = f.fit.long in
    let fits : store_fits (decode s) nodes places state.layer state.nodes ≡ true =
    fits-store (decode s) nodes places state.layer state.nodes long (record { used = f.used; unused = f.unused; fit = f.fit }) in
    rw (
      passed-accepted f.passed,
      le-leb 544 (length places) (omega arith),
      take_all 4096 nodes f.room,
      take_all 544 places (omega arith),
      fits,
    ) refl
