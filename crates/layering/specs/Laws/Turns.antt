-- A pass worked out rule after rule of a file.
use Rattle.std.specs.Prelude.{◌≡◌, Bool, true, false, List, ℕ, ◌+◌, ◌*◌, ◌-◌, ◌≤◌, ◌<◌, max, length, set, drop}
use Rattle.std.proofs.Math.Path.{refl}
use Rattle.std.proofs.Common.{sym, ap, ◌∙◌, arith, add-one, length-set, drop_of_length-le, get_or-set_same}
use Rattle.std.proofs.Math.ListN.{get_or}
use Rattle.std.proofs.lemmas.List.{set-get_or}
use Rattle.std.proofs.Math.Seq.{drop-cons}
use Rattle.format.specs.Bytes.{u16}
use Rattle.format.specs.File.{F, D, R, start_of, literal_at, rule_at, decode}
use Rattle.format.specs.Walk.{first_at}
use Rattle.format.specs.Laws.Decoded.{decode-rules}
use Rattle.format.specs.Laws.Walked.{first-start}
use Rattle.chains.specs.Laws.Lead.{rule_is}
use Rattle.layering.specs.Rising.{asks, pass}
use Rattle.layering.specs.Inner.{body_at, BodyAsked, PassAsked, PassDone}
use Rattle.layering.specs.Laws.Pass.{Below, raised, raised_below}
use Rattle.layering.specs.Laws.Low.{Low, raised-low}

-- Of a pass from the layers `before`, the rules below j had their turns: the layers now are `now`, and the rules from `at` on are left.
pub record Turned (s before now : List ℕ) (changed : Bool) (at j : ℕ) : Type 0 where
  pub here : at ≡ start_of s j
  pub within : j ≤ R s
  pub size : length now ≡ D s
  pub low : Low now (1 + 2048 * 512 + j)
  pub left : pass (F s) (drop j (decode s).rules) now ≡ pass (F s) (decode s).rules before
  pub below : Below before now
  pub same : changed ≡ false → now ≡ before
  pub moved : changed ≡ true → (i : ℕ) × (get_or before i 0 < get_or now i 0)

module _ {s before : List ℕ} {facts rules : ℕ} (q : PassAsked s before) (facts_are : facts ≡ F s) (rules_are : rules ≡ R s) where
  -- none has had its turn,
  pub turned-start : {at : ℕ} → at ≡ first_at s → Turned s before before false at 0
  turned-start e = record {
    here = e ∙ first-start q.formed;
    within = omega arith;
    size = q.size;
    low = λ i. omega (arith, q.low i);
    left = refl;
    below = λ i. omega arith;
    same = λ _. refl;
    moved = λ d. let z : ◌≡◌ {A = ℕ} 0 1 = cc in absurd (omega arith);
  }

  module _ {now : List ℕ} {changed : Bool} {at j : ℕ} (g : Turned s before now changed at j) (more : j < rules) where
    in-rules : j < R s
    in-rules = omega (arith, rules_are)

    -- the next rule's header lies in the file,
    pub turned-room : at + 4 ≤ length s
    turned-room = rw g.here (q.formed.rule j in-rules).header

    -- its head is a derived atom,
    pub turned-head : {h : ℕ} → h ≡ u16 s at → (facts ≤ h) × (h - facts < length now)
    turned-head {h} e =
        let r = q.formed.rule j in-rules in
        let d : h ≡ u16 s (start_of s j) = cc g.here in
        (omega (arith, facts_are, r.derived), omega (arith, facts_are, r.derived, r.below, g.size))

    module _ {len : ℕ} (e : len ≡ u16 s (at + 2)) where
      -- its body lies there too, with known atoms,
      pub turned-body : BodyAsked s now facts (at + 4) len
      unfolding start_of literal_at
      turned-body =
          let r = q.formed.rule j in-rules in
          record {
            inside = omega (arith, rw (← g.here, ← e) at r.inside);
            known = λ i h. rw (facts_are, g.size, g.here) (r.known i (rw (e, g.here) at h));
            low = λ i. omega (arith, g.low i, q.formed.rules);
          }

      step_left : pass (F s) (drop (j + 1) (decode s).rules) (raised (F s) (rule_at s at) now) ≡ pass (F s) (drop j (decode s).rules) now
      unfolding pass
      step_left =
          let split = drop-cons (decode s).rules j _ (rw (decode-rules s) in-rules) in
          rw (add-one j, g.here, ← rule_is s j in-rules) (ap (λ rs. pass (F s) rs now) (sym split))

      -- and after its turn the rules behind it are left
      turned-next :
          {ms : List ℕ} {c : Bool} → ms ≡ raised (F s) (rule_at s at) now → (c ≡ false → ms ≡ before) →
          (c ≡ true → (i : ℕ) × (get_or before i 0 < get_or ms i 0)) → Turned s before ms c (at + 4 + 2 * len) (j + 1)
      unfolding start_of
      turned-next d same moved = record {
        here = rw (add-one j, e, g.here);
        within = omega arith;
        size = rw (d, length-set) g.size;
        low = λ i. rw d (omega (arith, raised-low (F s) (rule_at s at) now (1 + 2048 * 512 + j) g.low i));
        left = rw d (step_left ∙ g.left);
        below = λ i. rw d (omega (arith, g.below i, raised_below (F s) (rule_at s at) now i));
        same = same;
        moved = moved;
      }

      module _ {h most : ℕ} (d : h ≡ u16 s at) (m : most ≡ asks facts now (body_at s (at + 4) len)) where
        raised_is : set now (h - facts) (max (get_or now (h - facts) 0) most) ≡ raised (F s) (rule_at s at) now
        unfolding rule_at
        raised_is = rw (m, e, d, facts_are) refl

        -- either its head is raised,
        pub turned-raise : get_or now (h - facts) 0 < most → Turned s before (set now (h - facts) most) true (at + 4 + 2 * len) (j + 1)
        turned-raise lt =
            let top : max (get_or now (h - facts) 0) most ≡ most = omega arith in
            let there = get_or-set_same now (h - facts) most 0 (turned-head d).1 in
            turned-next (rw top at raised_is) (λ f. let z : ◌≡◌ {A = ℕ} 0 1 = cc in absurd (omega arith))
            (λ _. (h - facts, omega (arith, there, g.below (h - facts))))

        -- or it is high enough
        pub turned-keep : most ≤ get_or now (h - facts) 0 → Turned s before now changed (at + 4 + 2 * len) (j + 1)
        turned-keep le =
            let top : max (get_or now (h - facts) 0) most ≡ get_or now (h - facts) 0 = omega arith in
            turned-next (sym (set-get_or now (h - facts) 0) ∙ (rw top at raised_is)) g.same g.moved

  -- with all rules passed the pass is done
  pub turned-end :
      {now : List ℕ} {changed : Bool} {at j : ℕ} → Turned s before now changed at j → rules ≤ j → PassDone s before now changed
  unfolding pass
  turned-end {now} {j = j} g le = record {
    is = rw (drop_of_length-le (decode s).rules {i = j} (omega (arith, decode-rules s, rules_are))) at g.left;
    same = g.same;
    moved = λ c e. let (i, lt) = g.moved c in let z : get_or now i 0 ≡ get_or before i 0 = rw e refl in absurd (omega arith);
  }
