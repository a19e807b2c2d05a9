-- An atom that its own search does not reach past a negated link is on no chain, where no lower atom is: a chain from it would stay among
-- the places reached, and the last link would lead back to it. So the lowest atom on a chain is found.
use Rattle.std.specs.Prelude.{◌≡◌, refl, Bool, true, false, ◌||◌, cond, List, [], ◌∷◌, ◌++◌, ℕ, ◌+◌, ◌*◌, ◌-◌, ◌/◌, ◌%◌, ◌≤◌, ◌<◌, get_or}
use Rattle.std.proofs.Common.{sym, ap, subst, ◌∙◌, arith}
use Rattle.std.proofs.Math.Decide.{dec_lt, ℕ_discrete}
use Rattle.format.specs.File.{F, D, R, decode}
use Rattle.format.specs.Passed.{Formed}
use Rattle.format.specs.Laws.Decoded.{decode-rules}
use Rattle.chains.specs.Layering.{rule_of, Link, Links, Chain, OnChain}
use Rattle.chains.specs.Searching.{leads, SearchAsked, SearchDone, LowestAsked, LowestDone}
use Rattle.chains.specs.declared.search.Search.{Search}
use Rattle.index.specs.declared.Rules.{Rules}
use Rattle.chains.specs.Laws.Around.{links-both, flag-both}
use Rattle.chains.specs.Laws.Lead.{head-is, leads-atom, leads-flag, leads-below}

-- of three flags the last may come first
or_turn : (a b c : Bool) → a || (b || c) ≡ true → c || (a || b) ≡ true
or_turn true b true e = refl
or_turn true b false e = refl
or_turn false true true e = refl
or_turn false true false e = refl
or_turn false false true e = refl
or_turn false false false e = e

-- atom a is reached, past a negated link or not
record At (s : List ℕ) (found : Search) (a : ℕ) (flag : Bool) : Type 0 where
  place : ℕ
  low : place < 2 * D s
  reached : 0 < get_or found.entry place 0
  atom_is : a ≡ F s + place / 2
  flag_is : place % 2 ≡ cond flag 1 0

-- heads are derived atoms
head-derived : {s : List ℕ} → Formed s → (j : ℕ) → j < R s → (F s ≤ (rule_of (decode s) j).head) × ((rule_of (decode s) j).head < F s + D s)
head-derived {s} f j h = rw (head-is s j h) ((f.rule j h).derived, (f.rule j h).below)

-- links start at a rule of the program
links-rule : (s : List ℕ) {k j : ℕ} {js : List ℕ} {b : Bool} → Links (decode s) k (j ∷ js) b → j < R s
links-rule s (Links.last t) = omega (arith, t.from, decode-rules s)
links-rule s (Links.next t ts) = omega (arith, t.from, decode-rules s)

-- so every atom on a chain is derived
on-derived : {s : List ℕ} {b : ℕ} → Formed s → OnChain (decode s) b → (F s ≤ b) × (b < F s + D s)
on-derived {s} f o = rw o.head at (head-derived f o.first (links-rule s o.chain))

module _ {s : List ℕ} (f : Formed s) {x : ℕ} {found : Search} (d : SearchDone s x found) where
  -- a link leads from a place reached to another, where the next head is not below x
  link_at : {j k : ℕ} {a b : Bool} → Link (decode s) j k b → x ≤ (rule_of (decode s) k).head →
      At s found (rule_of (decode s) j).head a → At s found (rule_of (decode s) k).head (a || b)
  link_at {j} {k} {a} {b} t h p =
      let l = t.literal in
      let jr : j < R s = omega (arith, t.from, decode-rules s) in
      let kr : k < R s = omega (arith, t.to, decode-rules s) in
      let low : F s ≤ l.atom = rw t.atom_is (head-derived f k kr).0 in
      let high : l.atom < F s + D s = rw t.atom_is (head-derived f k kr).1 in
      record {
        place = leads s p.place l;
        low = leads-below s p.place l low high;
        reached = ((d.closed p.place p.low p.reached).led j jr p.atom_is).each l t.held (rw t.atom_is h);
        atom_is = sym (leads-atom s p.place l low ∙ t.atom_is);
        flag_is = leads-flag s p.place l low ∙ ap (λ c. cond c 1 (p.place % 2)) t.negated_is ∙ flag-both a b p.place p.flag_is;
      }

  module _ (free : (b : ℕ) → b < x → OnChain (decode s) b → ⊥) where
    -- a head on a chain is not below x
    on-high : {b : ℕ} → OnChain (decode s) b → x ≤ b
    on-high {b} o = elim (dec_lt b x) [ yes h ↦ absurd (free b h o) | no h ↦ omega arith ]

    -- along a chain from rule i, from its rule j on to the end
    along : {i : ℕ} {is : List ℕ} {a : Bool} {j : ℕ} {js : List ℕ} {b : Bool} →
        x ≤ (rule_of (decode s) i).head → Links (decode s) j (i ∷ is) a → Links (decode s) i (j ∷ js) b → a || b ≡ true →
        At s found (rule_of (decode s) j).head a → At s found (rule_of (decode s) i).head true
    along {i} h before (Links.last t) e p = subst (At s found (rule_of (decode s) i).head) e (link_at t h p)
    along {i} {is} {a} {j} h before (Links.next {i = k} {js = js} {b = b} {c = c} t ts) e p =
        let far = links-both before (Links.last t) in
        let round : OnChain (decode s) (rule_of (decode s) k).head = record {
          first = k;
          others = js ++ (i ∷ is ++ (j ∷ []));
          chain = subst (Links (decode s) k (k ∷ js ++ (i ∷ is ++ (j ∷ [])))) (or_turn a b c e) (links-both ts far);
          head = refl;
        } in
        along h far ts (or_left a b c ∙ e) (link_at t (on-high round) p)
      where
        or_left : (a b c : Bool) → (a || b) || c ≡ a || (b || c)
        or_left true b c = refl
        or_left false b c = refl

    -- so from its first rule on it comes back to that one's head past a negated link
    round : {i : ℕ} {is : List ℕ} {b : Bool} → x ≤ (rule_of (decode s) i).head → Links (decode s) i (i ∷ is) b → b ≡ true →
        At s found (rule_of (decode s) i).head false → At s found (rule_of (decode s) i).head true
    round {i} h (Links.last t) e p = subst (At s found (rule_of (decode s) i).head) e (link_at t h p)
    round {i} h (Links.next {i = k} {js = js} {b = b} {c = c} t ts) e p =
        let far : Links (decode s) k (i ∷ []) b = Links.last t in
        let on : OnChain (decode s) (rule_of (decode s) k).head = record {
          first = k;
          others = js ++ (i ∷ []);
          chain = subst (Links (decode s) k (k ∷ js ++ (i ∷ []))) (or_turn false b c e) (links-both ts far);
          head = refl;
        } in
        along h far ts e (link_at t (on-high on) p)

    -- where x was not reached so, it is on no chain
    not_on : F s ≤ x → x < F s + D s → get_or found.entry (2 * (x - F s) + 1) 0 ≤ 0 → OnChain (decode s) x → ⊥
    not_on low high none o =
        let t = d.tables.trail in
        let place : 2 * (x - F s) < 2 * D s = omega arith in
        let begin : get_or found.entry (2 * (x - F s)) 0 ≡ 1 = rw t.first at (t.entries 0 t.some) in
        let here : At s found (rule_of (decode s) o.first).head false = record {
          place = 2 * (x - F s);
          low = place;
          reached = omega (arith, begin);
          atom_is = o.head ∙ (omega arith);
          flag_is = omega arith;
        } in
        let back = round (omega (arith, o.head)) o.chain refl here in
        let there : back.place ≡ 2 * (x - F s) + 1 = omega (arith, back.atom_is, back.flag_is, o.head) in
        omega (arith, rw there at back.reached)

    -- and no lower atom is
    free-next : F s ≤ x → x < F s + D s → get_or found.entry (2 * (x - F s) + 1) 0 ≤ 0 → (b : ℕ) → b < x + 1 → OnChain (decode s) b → ⊥
    free-next low high none b h o = elim (ℕ_discrete b x) [
      | yes e ↦ not_on low high none (rw e at o)
      | no c ↦ free b (omega arith) o
    ]

-- ---- the atoms, one after another

-- no atom below x is on a chain
pub record Seeking (s : List ℕ) (x : ℕ) : Type 0 where
  pub low : F s ≤ x
  pub free : (b : ℕ) → b < x → OnChain (decode s) b → ⊥

module _ {s : List ℕ} {rules : Rules} (q : LowestAsked s rules) where
  -- no fact is on a chain
  pub lowest_start : Seeking s (F s)
  lowest_start = record {
    low = omega arith;
    free = λ b h o. omega (arith, (on-derived q.indexed.formed o).0);
  }

  module _ {x : ℕ} (v : Seeking s x) where
    -- the loop does not run off the end: some atom is on a chain
    pub lowest-ends : F s + D s ≤ x → ⊥
    lowest-ends h = past q.some.0 q.some.1
      where
        past : (js : List ℕ) → Chain (decode s) js → ⊥
        past [] c = elim c [ ]
        past (j ∷ js) c =
            let o : OnChain (decode s) (rule_of (decode s) j).head = record { first = j; others = js; chain = c; head = refl } in
            v.free (rule_of (decode s) j).head (omega (arith, (on-derived q.indexed.formed o).1)) o

    module _ (high : x < F s + D s) where
      pub lowest-asked : SearchAsked s rules x
      lowest-asked = record { indexed = q.indexed; low = v.low; high = high }

      -- its place is one of the table's
      pub lowest-place : {facts : ℕ} → facts ≡ F s → 2 * (x - facts) + 1 < 1024
      lowest-place f = omega (arith, v.low, q.indexed.formed.derived)

      module _ {facts : ℕ} (f : facts ≡ F s) {found : Search} (d : SearchDone s x found) where
        -- x was reached past a negated link,
        pub lowest-found : 0 < get_or found.entry (2 * (x - facts) + 1) 0 → LowestDone s found x
        lowest-found h = record {
          low = v.low;
          high = high;
          tables = d.tables;
          reached = rw f at h;
          lowest = λ b o. on-high q.indexed.formed d v.free o;
        }

        -- or it is on no chain
        pub lowest-next : get_or found.entry (2 * (x - facts) + 1) 0 ≤ 0 → Seeking s (x + 1)
        lowest-next h = record {
          low = omega (arith, v.low);
          free = free-next q.indexed.formed d v.free v.low high (rw f at h);
        }
