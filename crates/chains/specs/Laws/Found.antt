-- The chain that is found: the rules on the way to where an atom was reached again past a negated link are one, the first of them the
-- atom's, and there are at most 1,023.
use Rattle.std.specs.Prelude.{
  ◌≡◌,
  refl,
  Bool,
  true,
  false,
  ◌||◌,
  cond,
  List,
  [],
  ◌∷◌,
  ◌++◌,
  ℕ,
  zero,
  suc,
  ◌+◌,
  ◌*◌,
  ◌-◌,
  ◌/◌,
  ◌%◌,
  ◌≤◌,
  ◌<◌,
  length,
  get_or,
}
use Rattle.std.proofs.Common.{sym, ap, subst, ◌∙◌, arith}
use Rattle.std.proofs.Math.Decide.{ℕ_discrete}
use Rattle.format.specs.File.{F, R, decode}
use Rattle.format.specs.Laws.Decoded.{decode-rules}
use Rattle.index.specs.Index.{Index}
use Rattle.chains.specs.Layering.{rule_of, Link, Links, Chain}
use Rattle.chains.specs.Calls.{Step, Trail, way_to, FindAsked}
use Rattle.chains.specs.Written.{ChainDone}
use Rattle.index.specs.declared.Rules.{Rules}
use Rattle.chains.specs.declared.search.Search.{Search}
use Rattle.chains.specs.Searching.{Falls, RulesAsked, RulesDone, LowestAsked, LowestDone}
use Rattle.chains.specs.Laws.Around.{links-both, flag-both}
use Rattle.chains.specs.Laws.Places.{trail-few}
use Rattle.chains.specs.Laws.Way.{way-none, way-one, way-short}

-- rules that lead from atom x to place p, and so on to any rule of its atom
record Way (s : List ℕ) (x : ℕ) (way : List ℕ) (p : ℕ) : Type 0 where
  first : ℕ
  others : List ℕ
  is : way ≡ first ∷ others
  is_rule : first < R s
  head : (rule_of (decode s) first).head ≡ x
  denied : Bool
  denied_is : p % 2 ≡ cond denied 1 0
  links : (r : ℕ) → r < R s → (rule_of (decode s) r).head ≡ F s + p / 2 → Links (decode s) r way denied

-- a step is a link to any rule of the atom that it leads to
step-link : {s : List ℕ} {j p q : ℕ} (t : Step s j p q) (r : ℕ) → r < R s → (rule_of (decode s) r).head ≡ F s + q / 2 →
    Link (decode s) j r t.literal.negated
step-link {s} t r h e = record {
  from = omega (arith, t.is_rule, decode-rules s);
  to = omega (arith, decode-rules s);
  literal = t.literal;
  held = t.held;
  atom_is = t.atom_is ∙ sym e;
  negated_is = refl;
}

-- one step from the atom itself,
way-start : {s : List ℕ} {x j p q : ℕ} → F s ≤ x → p ≡ 2 * (x - F s) → Step s j p q → Way s x (j ∷ []) q
way-start {s} {j = j} low e t = record {
  first = j;
  others = [];
  is = refl;
  is_rule = t.is_rule;
  head = t.head ∙ rw e (omega arith);
  denied = t.literal.negated;
  denied_is = t.flag ∙ flag-both false t.literal.negated _ (rw e (omega arith));
  links = λ r h d. Links.last (step-link t r h d);
}

-- and one step further
way-further : {s : List ℕ} {x : ℕ} {way : List ℕ} {j p q : ℕ} → Way s x way p → Step s j p q → Way s x (way ++ (j ∷ [])) q
way-further {j = j} w t = record {
  first = w.first;
  others = w.others ++ (j ∷ []);
  is = ap (λ l. l ++ (j ∷ [])) w.is;
  is_rule = w.is_rule;
  head = w.head;
  denied = w.denied || t.literal.negated;
  denied_is = t.flag ∙ flag-both w.denied t.literal.negated _ w.denied_is;
  links = λ r h d. links-both (w.links j t.is_rule t.head) (Links.last (step-link t r h d));
}

module _ {s : List ℕ} {x : ℕ} {found : Search} (t : Trail s x found) (low : F s ≤ x) where
  -- so the way to an entry goes by the one before it,
  way_next : (most k : ℕ) → 0 < k → k < found.count →
      (0 < get_or found.from k 0 → Way s x (way_to most found.from found.by (get_or found.from k 0)) (get_or found.queue
      (get_or found.from k 0) 0)) →
      Way s x (way_to most found.from found.by (get_or found.from k 0) ++ (get_or found.by k 0 ∷ [])) (get_or found.queue k 0)
  way_next most k h l before =
      let step = (t.back k h l).1 in
      elim (ℕ_discrete (get_or found.from k 0) 0) [
        | yes e ↦ rw (e, way-none most found.from found.by) (way-start low t.first (rw e at step))
        | no o ↦ way-further (before (omega arith)) step
      ]

  -- whichever entry but the first
  way_of : (most k : ℕ) → 0 < k → k < found.count → k ≤ most → Way s x (way_to most found.from found.by k) (get_or found.queue k 0)
  way_of zero k h l z = absurd (omega arith)
  way_of (suc most) k h l z =
      let fall = (t.back k h l).0 in
      subst (λ way. Way s x way (get_or found.queue k 0)) (sym (way-one most found.from found.by k h))
      (way_next most k h l (λ p. way_of most (get_or found.from k 0) p (omega arith) (omega arith)))

-- the way that leads back to x with a negated link is a chain
way-chain : {s : List ℕ} {x : ℕ} {way : List ℕ} → F s ≤ x → (w : Way s x way (2 * (x - F s) + 1)) → Chain (decode s) (w.first ∷ w.others)
way-chain {s} {x} {way} low w =
    let round = w.links w.first w.is_rule (w.head ∙ omega arith) in
    let denied : w.denied ≡ true = yes-one w.denied (sym w.denied_is ∙ omega arith) in
    rw (w.is, denied) at round
  where
    yes-one : (b : Bool) → ◌≡◌ {A = ℕ} (cond b 1 0) 1 → b ≡ true
    yes-one true e = refl
    yes-one false e = let z : ◌≡◌ {A = ℕ} 0 1 = e in absurd (omega arith)

module _ {s out : List ℕ} (q : FindAsked s out) where
  pub lowest-asked : {rules : Rules} → Index s rules.starts rules.later rules.first → LowestAsked s rules
  lowest-asked i = record { indexed = record { formed = q.formed; index = i }; some = q.some }

  module _ {facts : ℕ} (f : facts ≡ F s) {found : Search} {a : ℕ} (d : LowestDone s found a) where
    pub atom-from : facts ≤ a
    atom-from = omega (arith, d.low)

    pub atom-small : a < 544
    atom-small = omega (arith, d.high, q.formed.facts, q.formed.derived)

    pub last-place : 2 * (a - facts) + 1 < 1024
    last-place = omega (arith, d.low, d.high, q.formed.derived)

    abbrev last : ℕ
    last = get_or found.entry (2 * (a - facts) + 1) 0

    last-is : last ≡ get_or found.entry (2 * (a - F s) + 1) 0
    last-is = ap (λ n. get_or found.entry (2 * (a - n) + 1) 0) f

    -- it was reached
    pub last-reached : 0 < last
    last-reached = omega (arith, last-is, d.reached)

    at_last : (last ≤ found.count) × (get_or found.queue (last - 1) 0 ≡ 2 * (a - F s) + 1)
    at_last = rw (← last-is) at (d.tables.trail.reached (2 * (a - F s) + 1) (omega (arith, d.low, d.high)) d.reached)

    -- by another entry than the first
    not_first : 0 < last - 1
    not_first = elim (ℕ_discrete (last - 1) 0) [
      | yes z ↦ absurd (omega (arith, rw z at at_last.1, d.tables.trail.first))
      | no o ↦ omega arith
    ]

    last-few : last ≤ 1024
    last-few = omega (arith, at_last.0, trail-few d.tables.trail, q.formed.derived)

    last-falls : Falls found.from (last - 1)
    last-falls = record {
      few = omega (arith, last-few, last-reached);
      back = λ i h l. (d.tables.trail.back i h (omega (arith, last-reached, at_last.0))).0;
    }

    pub rules-asked : RulesAsked found out (last - 1)
    rules-asked = record { falls = last-falls; room = q.room }

    module _ {out₁ : List ℕ} {n : ℕ} (w : RulesDone found out out₁ (last - 1) n) where
      pub chain-few : n ≤ 1023
      chain-few = omega (arith, w.count, way-short last-falls found.by (last - 1) (last - 1) (omega arith), last-few)

      pub chain-done : ChainDone s out out₁ a n
      chain-done =
          let below : last - 1 < found.count = omega (arith, last-reached, at_last.0) in
          let way = way_of d.tables.trail d.low (last - 1) (last - 1) not_first below (omega arith) in
          let there = rw at_last.1 at way in
          record {
            first = there.first;
            others = there.others;
            chain = way-chain d.low there;
            head = there.head;
            lowest = d.lowest;
            count = w.count ∙ ap length there.is;
            few = chain-few;
            bytes = rw there.is at w.bytes;
          }
