-- The demands leave nothing free: two sets of calls that meet them give the same answers, every number and every lent entry, for every
-- file, memory and number; but for reach_layers, where 02 leaves the chain open (crate layering, `told_fixed`).
use Rattle.std.specs.Prelude.{◌≡◌, List, ◌++◌, map, ℕ, zero, suc, ◌+◌, ◌-◌, ◌≤◌, ◌<◌, min, length, get_or, take, drop, replicate}
use Rattle.std.proofs.Common.{sym, ap, subst, ◌∙◌, inl, inr, arith, take-append-drop, ext_get_or, get_or-take, leb-false}
use Rattle.std.proofs.Math.Decide.{ℕ_discrete, dec_lt}
use Rattle.std.proofs.Math.ListN.{get_or-eq_default}
use Rattle.std.proofs.lemmas.Bool.{not-false}
use Rattle.meaning.specs.Meaning.{atoms}
use Rattle.format.specs.Bytes.{Bytes}
use Rattle.format.specs.File.{decode}
use Rattle.format.specs.Laws.Decoded.{decode-atoms}
use Rattle.diagram.specs.Diagram.{Diagram, Good}
use Rattle.diagram.specs.declared.Node.{Node}
use Rattle.store.specs.Store.{pack, Sound, tree_at, tree_of, nowhere}
use Rattle.store.specs.Laws.Nodes.{pack-unpack-all}
use Rattle.store.specs.Laws.Tree.{tree-inj}
use Rattle.update.specs.Update.{new_diagram, after_update}
use Rattle.update.specs.Laws.Held as nodes
use Rattle.rounds.specs.Laws.Made.{fit-held}
use Rattle.questions.specs.Questions.{listed}
use Rattle.state.specs.Hand.{Lent, Hand, words_in, places_in, store}
use Rattle.calls.specs.Refusals.{Table, later, update_tests}
use Rattle.calls.specs.Calls.{Calls, Stepped, Weighing, Sharing, Listing}
use Rattle.calls.specs.declared.Counts.{Counts}
use Rattle.demands.specs.Reached.{back, back_from}
use Rattle.demands.specs.Demands.{Refuses, Reads, Steps, Weighs, Shares, Lists, Tidy, Updated, Demands}
use Rattle.demands.specs.Laws.Alike.{run-alike}
use Rattle.demands.specs.Laws.Fixed.{sane-answers, run-fixed}
use Rattle.demands.specs.Laws.Holding.{InHand, in-hand}
use Rattle.demands.specs.Laws.Tables.{none_first}
use Rattle.demands.specs.Laws.Ways.{later-numbered, update-numbered}

pub record Same (c d : Calls) : Type 0 where
  pub read : (s : List ℕ) → c.read s ≡ d.read s
  pub load : (s : List ℕ) (l : Lent) → c.load s l ≡ d.load s l
  pub update : (s : List ℕ) (h : Hand) (a : ℕ) → c.update s h a ≡ d.update s h a
  pub close : (s : List ℕ) (h : Hand) → c.close s h ≡ d.close s h
  pub run : (s : List ℕ) → Bytes s → (h : Hand) (budget : ℕ) → c.run s h budget ≡ d.run s h budget
  pub weight : (s : List ℕ) (h : Hand) (a : ℕ) (numbers : List ℕ) → c.weight s h a numbers ≡ d.weight s h a numbers
  pub given : (s : List ℕ) (h : Hand) (a : ℕ) (evidence numbers : List ℕ) →
      c.given s h a evidence numbers ≡ d.given s h a evidence numbers
  pub listing : (s : List ℕ) (h : Hand) (a : ℕ) (out : List ℕ) → c.listing s h a out ≡ d.listing s h a out

-- ---- reading

reads_same : {s : List ℕ} {r q : Counts} → Reads s r → Reads s q → r ≡ q
reads_same {s} {r} {q} a b =
    let n : r.refusal ≡ q.refusal = a.refusal ∙ sym b.refusal in
    let m : r.detail ≡ q.detail = a.detail_is ∙ sym b.detail_is in
    elim (ℕ_discrete r.refusal 0) [
      | yes z ↦
          let x = a.counted z in
          let y = b.counted (sym n ∙ z) in
          λ i. record {
            refusal = n i;
            detail = m i;
            facts = (x.0 ∙ sym y.0) i;
            derived = (x.1 ∙ sym y.1) i;
            total = (x.2 ∙ sym y.2) i;
          }
      | no z ↦
          let x = a.refused z in
          let y = b.refused (λ e. z (n ∙ e)) in
          λ i. record {
            refusal = n i;
            detail = m i;
            facts = (x.0 ∙ sym y.0) i;
            derived = (x.1 ∙ sym y.1) i;
            total = (x.2 ∙ sym y.2) i;
          }
    ]

-- ---- one refusal for both

module _ {ts : Table} {n d m e : ℕ} (a : Refuses ts n d) (b : Refuses ts m e) where
  number_same : n ≡ m
  number_same = a.number ∙ sym b.number

  detail-same : d ≡ e
  detail-same = a.detail_is ∙ sym b.detail_is

steps-same : {ts : Table} {h : Hand} {u v : Stepped} → Steps ts h u → Steps ts h v →
    (u.answer.refusal ≡ 0 → v.answer.refusal ≡ 0 → back u ≡ back v) → u ≡ v
steps-same {u = u} {v} a b done =
    let n : u.answer.refusal ≡ v.answer.refusal = number_same a.refuses b.refuses in
    let d : u.answer.detail ≡ v.answer.detail = detail-same a.refuses b.refuses in
    let hand : back u ≡ back v = elim (ℕ_discrete u.answer.refusal 0) [
      | yes z ↦ done z (sym n ∙ z)
      | no z ↦ a.kept z ∙ sym (b.kept (λ e. z (n ∙ e)))
    ] in
    λ i. record { answer = record { refusal = n i; detail = d i; state = (hand i).state }; lent = (hand i).lent }

-- ---- memory that holds the same store is the same

tidy-same : {l : Lent} {h g : Hand} → Tidy l h → Tidy l g → store h ≡ store g → h.state.layer ≡ g.state.layer → h ≡ g
tidy-same {l} {h} {g} a b same layer =
    let n : h.state.nodes ≡ g.state.nodes = a.count ∙ ap (λ st. length st.nodes) same ∙ sym b.count in
    let long : length h.lent.nodes ≡ length g.lent.nodes = a.nodes_long ∙ sym b.nodes_long in
    let front : take h.state.nodes (words_in h.lent.nodes) ≡ take g.state.nodes (words_in g.lent.nodes) =
    sym (pack-unpack-all (take h.state.nodes (words_in h.lent.nodes))) ∙ ap (λ st. map pack st.nodes) same ∙
    pack-unpack-all (take g.state.nodes (words_in g.lent.nodes)) in
    let rest : drop h.state.nodes (words_in h.lent.nodes) ≡ drop g.state.nodes (words_in g.lent.nodes) =
    a.unused ∙ (λ i. replicate (min (long i) 4096 - n i) 0) ∙ sym b.unused in
    let words : words_in h.lent.nodes ≡ words_in g.lent.nodes =
    sym (take-append-drop h.state.nodes (words_in h.lent.nodes)) ∙ (λ i. front i ++ rest i) ∙
    take-append-drop g.state.nodes (words_in g.lent.nodes) in
    let nodes : h.lent.nodes ≡ g.lent.nodes =
    sym (take-append-drop 4096 h.lent.nodes) ∙ (λ i. words i ++ (a.nodes_beyond ∙ sym b.nodes_beyond) i) ∙
    take-append-drop 4096 g.lent.nodes in
    let places : h.lent.places ≡ g.lent.places =
    sym (take-append-drop 544 h.lent.places) ∙ (λ i. (same i).places ++ (a.places_beyond ∙ sym b.places_beyond) i) ∙
    take-append-drop 544 g.lent.places in
    λ i. record { lent = record { nodes = nodes i; places = places i }; state = record { layer = layer i; nodes = n i } }

-- ---- an update

-- a number that no node has stands for no good diagram
beyond-bad : (F : ℕ) (ns : List Node) (i : ℕ) → length ns ≤ i → Good F 0 (tree_of ns (suc (suc i))) → ⊥
unfolding tree_of tree_at
beyond-bad F ns i le g =
    let e : get_or ns i nowhere ≡ nowhere = get_or-eq_default ns nowhere le in
    g.4 (ap (λ x. tree_at (suc (suc i)) ns x.low) e ∙ sym (ap (λ x. tree_at (suc (suc i)) ns x.high) e))

-- so a good diagram's number is that of a node
named : (F : ℕ) (ns : List Node) (d : Diagram) (p : ℕ) → Good F 0 d → tree_of ns p ≡ d → p < length ns + 2
named F ns d zero g e = omega arith
named F ns d (suc zero) g e = omega arith
named F ns d (suc (suc i)) g e = elim (dec_lt i (length ns)) [
  | yes lt ↦ omega arith
  | no n ↦ absurd (beyond-bad F ns i (omega arith) (subst (Good F 0) (sym e) g))
]

module _ {s : List ℕ} {h : Hand} (m : InHand s h) (a : ℕ) (small : a < 544) where
  abbrev new : Diagram
  new = new_diagram (decode s) (store h) a

  -- the new diagram is good, since it is that of an atom after the update
  new-good : Good (length (decode s).facts) 0 new
  new-good =
      let held = fit-held m.held.fit in
      subst (Good (length (decode s).facts) 0) (nodes.after_same held (decode s) a (omega (arith, m.held.fit.long)))
      (nodes.held-good (nodes.after-held held (decode s) a) a)

  -- the nodes after it are sound
  after-nodes : {g : Hand} → Updated (decode s) h a g → Sound (length (decode s).facts) (store g).nodes
  unfolding after_update
  after-nodes u = rw u.numbered (nodes.after-sound (fit-held m.held.fit) (decode s) a)

  -- and the atom's place names the new diagram's node
  place_is : {g : Hand} → Updated (decode s) h a g → tree_of (store g).nodes (get_or g.lent.places a 0) ≡ new
  place_is {g} u = ap (tree_of (store g).nodes) (sym (get_or-take 544 g.lent.places a 0 small)) ∙ u.gets

  -- so two hands after it are one
  updated-same : {g k : Hand} → Updated (decode s) h a g → Updated (decode s) h a k → g ≡ k
  updated-same {g} {k} u v =
      let F : ℕ = length (decode s).facts in
      let ns : (store g).nodes ≡ (store k).nodes = u.numbered ∙ sym v.numbered in
      let p : ℕ = get_or g.lent.places a 0 in
      let q : ℕ = get_or k.lent.places a 0 in
      let at-k : tree_of (store g).nodes q ≡ new = ap (λ l. tree_of l q) ns ∙ place_is v in
      let node : p ≡ q =
      tree-inj (after-nodes u) p q (named F (store g).nodes new p new-good (place_is u)) (named F (store g).nodes new q new-good at-k)
      (place_is u ∙ sym at-k) in
      let places : g.lent.places ≡ k.lent.places =
      ext_get_or 0 g.lent.places k.lent.places (u.tidy.places_long ∙ sym v.tidy.places_long) (λ b lt.
      elim (ℕ_discrete b a) [
        | yes e ↦ subst (λ x. get_or g.lent.places x 0 ≡ get_or k.lent.places x 0) (sym e) node
        | no n ↦ u.others b n ∙ sym (v.others b n)
      ]) in
      tidy-same u.tidy v.tidy (λ i. record { nodes = ns i; places = places_in (places i) }) (u.layer ∙ sym v.layer)

-- ---- questions

weighs-same : {s : List ℕ} {h : Hand} {a : ℕ} {numbers : List ℕ} {u v : Weighing} → Weighs s h a numbers u → Weighs s h a numbers v → u ≡ v
weighs-same {u = u} {v} a b =
    let n : u.answer.refusal ≡ v.answer.refusal = number_same a.refuses b.refuses in
    let d : u.answer.detail ≡ v.answer.detail = detail-same a.refuses b.refuses in
    let both : (u.answer.weight ≡ v.answer.weight) × (u.numbers ≡ v.numbers) = elim (ℕ_discrete u.answer.refusal 0) [
      | yes z ↦
          let x = a.answered z in
          let y = b.answered (sym n ∙ z) in
          (x.0 ∙ sym y.0, x.1 ∙ sym y.1)
      | no z ↦
          let x = a.kept z in
          let y = b.kept (λ e. z (n ∙ e)) in
          (x.0 ∙ sym y.0, x.1 ∙ sym y.1)
    ] in
    λ i. record {
      answer = record { refusal = n i; detail = d i; weight = both.0 i };
      lent = (a.store_kept ∙ sym b.store_kept) i;
      numbers = both.1 i;
    }

shares-same : {s : List ℕ} {h : Hand} {a : ℕ} {evidence numbers : List ℕ} {u v : Sharing} → Shares s h a evidence numbers u →
    Shares s h a evidence numbers v → u ≡ v
shares-same {u = u} {v} a b =
    let n : u.answer.refusal ≡ v.answer.refusal = number_same a.refuses b.refuses in
    let d : u.answer.detail ≡ v.answer.detail = detail-same a.refuses b.refuses in
    let two : (u.answer.both ≡ v.answer.both) × (u.answer.evidence ≡ v.answer.evidence) =
    elim (ℕ_discrete u.answer.refusal 0) [
      | yes z ↦
          let x = a.answered z in
          let y = b.answered (sym n ∙ z) in
          (x.0 ∙ sym y.0, x.1 ∙ sym y.1)
      | no z ↦
          let x = a.refused z in
          let y = b.refused (λ e. z (n ∙ e)) in
          (x.0 ∙ sym y.0, x.1 ∙ sym y.1)
    ] in
    let numbers : u.numbers ≡ v.numbers = elim (ℕ_discrete u.answer.refusal 0) [
      | yes z ↦ a.numbers_cleared (inl z) ∙ sym (b.numbers_cleared (inl (sym n ∙ z)))
      | no z ↦ elim (ℕ_discrete u.answer.refusal 20) [
        | yes w ↦ a.numbers_cleared (inr w) ∙ sym (b.numbers_cleared (inr (sym n ∙ w)))
        | no w ↦ a.numbers_kept z w ∙ sym (b.numbers_kept (λ e. z (n ∙ e)) (λ e. w (n ∙ e)))
      ]
    ] in
    λ i. record {
      answer = record { refusal = n i; detail = d i; both = two.0 i; evidence = two.1 i };
      lent = (a.store_kept ∙ sym b.store_kept) i;
      numbers = numbers i;
    }

lists-same : {s : List ℕ} {h : Hand} {a : ℕ} {out : List ℕ} {u v : Listing} → Lists s h a out u → Lists s h a out v → u ≡ v
lists-same {s} {h} {a = x} {out} {u} {v} a b =
    let n : u.answer.refusal ≡ v.answer.refusal = number_same a.refuses b.refuses in
    let d : u.answer.detail ≡ v.answer.detail = detail-same a.refuses b.refuses in
    let both : (u.answer.length ≡ v.answer.length) × (u.out ≡ v.out) = elim (ℕ_discrete u.answer.refusal 0) [
      | yes z ↦
          let p = a.answered z in
          let q = b.answered (sym n ∙ z) in
          let long = p.0 ∙ sym q.0 in
          (long, p.1 ∙ ap (λ k. listed (decode s) (store h) x ++ drop k out) long ∙ sym q.1)
      | no z ↦
          let p = a.kept z in
          let q = b.kept (λ e. z (n ∙ e)) in
          (p.0 ∙ sym q.0, p.1 ∙ sym q.1)
    ] in
    λ i. record {
      answer = record { refusal = n i; detail = d i; length = both.0 i };
      lent = (a.store_kept ∙ sym b.store_kept) i;
      out = both.1 i;
    }

-- ---- all calls

module _ {c d : Calls} (one : Demands c) (two : Demands d) where
  update_same : (s : List ℕ) (h : Hand) (a : ℕ) → c.update s h a ≡ d.update s h a
  update_same s h a = steps-same (one.one.update s h a) (two.one.update s h a) (λ z y.
      let all = none_first (later s h (update_tests s h a)) (later-numbered s h (update_tests s h a) (update-numbered s h a))
      (sym (one.one.update s h a).refuses.number ∙ z) in
      let m : InHand s h = in-hand (not-false _ all.0) in
      let small : a < 544 =
      omega (arith, leb-false (atoms (decode s)) a all.1.0, decode-atoms s, m.held.passed.facts, m.held.passed.derived) in
      updated-same m a small (one.two.update s h a z) (two.two.update s h a y))

  close-same : (s : List ℕ) (h : Hand) → c.close s h ≡ d.close s h
  close-same s h =
      steps-same (one.one.close s h) (two.one.close s h) (λ z y. one.two.close s h z ∙ sym (two.two.close s h y))

  -- runs are made of the same updates and closings, which fix them
  run-same : (s : List ℕ) → Bytes s → (h : Hand) (budget : ℕ) → c.run s h budget ≡ d.run s h budget
  run-same s bytes h budget =
      let a = one.one.run s h budget in
      let b = two.one.run s h budget in
      let n = number_same a.refuses b.refuses in
      let m = detail-same a.refuses b.refuses in
      let all : ((c.run s h budget).answer.updates ≡ (d.run s h budget).answer.updates) ×
      (back_from (c.run s h budget) ≡ back_from (d.run s h budget)) ×
      ((c.run s h budget).answer.outcome ≡ (d.run s h budget).answer.outcome) =
      elim (ℕ_discrete (c.run s h budget).answer.refusal 0) [
        | yes z ↦
            run-fixed (sane-answers two.one bytes) tt
            (run-alike (update_same s) (close-same s) (one.two.run s bytes h budget z))
            (two.two.run s bytes h budget (sym n ∙ z))
        | no z ↦
            let x = a.kept z in
            let y = b.kept (λ e. z (n ∙ e)) in
            (x.2 ∙ sym y.2, x.0 ∙ sym y.0, x.1 ∙ sym y.1)
      ] in
      λ i. record {
        answer = record { refusal = n i; detail = m i; state = (all.1 i).state; outcome = all.2 i; updates = all.0 i };
        lent = (all.1 i).lent;
      }

  pub demands-same : Same c d
  demands-same = record {
    read = λ s. reads_same (one.one.read s) (two.one.read s);
    load = λ s l. steps-same (one.one.load s l) (two.one.load s l) (λ z y.
        let u = one.two.load s l z in
        let v = two.two.load s l y in
        tidy-same u.tidy v.tidy (u.holds_it ∙ sym v.holds_it) (u.layer ∙ sym v.layer));
    update = update_same;
    close = close-same;
    run = run-same;
    weight = λ s h a numbers. weighs-same (one.one.weight s h a numbers) (two.one.weight s h a numbers);
    given = λ s h a evidence numbers. shares-same (one.one.given s h a evidence numbers) (two.one.given s h a evidence numbers);
    listing = λ s h a out. lists-same (one.one.listing s h a out) (two.one.listing s h a out);
  }
