-- Where a literal leads: to a place that is left out, as its atom is below the first, or known, or put behind those known.
use Rattle.std.specs.Prelude.{◌≡◌, Bool, true, false, cond, List, ℕ, ◌+◌, ◌*◌, ◌-◌, ◌/◌, ◌%◌, ◌≤◌, ◌<◌, eqb, length, get_or}
use Rattle.std.proofs.Common.{refl, sym, arith}
use Rattle.std.proofs.Math.Path.{ap}
use Rattle.meaning.specs.Lists.{upto}
use Rattle.meaning.proofs.Laws.Tests.{get_or-upto}
use Rattle.meaning.specs.Meaning.{Literal}
use Rattle.format.specs.Bytes.{u16}
use Rattle.format.specs.File.{F, D, R, start_of, literal, literal_at, rule_at, decode}
use Rattle.format.specs.Passed.{Formed}
use Rattle.index.specs.Index.{head_at}
use Rattle.chains.specs.Layering.{rule_of}
use Rattle.chains.specs.Calls.{Step}
use Rattle.chains.specs.declared.search.Search.{Search}
use Rattle.chains.specs.Searching.{Grown, with_place, AddAsked, leads, Led, LeadAsked, LeadDone}
use Rattle.chains.specs.Laws.Places.{trail-few, trail-less, grown-none, new-tables, new-grown, new-reached}

-- ---- what stands in the file

-- the counts do,
pub counts-inside : {s : List ℕ} → Formed s → 28 ≤ length s
counts-inside f = omega (arith, f.fits)

module _ (s : List ℕ) where
  -- and the rules
  pub rule_is : (j : ℕ) → j < R s → rule_of (decode s) j ≡ rule_at s (start_of s j)
  unfolding decode
  rule_is j h = get_or-upto (R s) (λ i. rule_at s (start_of s i)) _ j h

  pub head-is : (j : ℕ) → j < R s → (rule_of (decode s) j).head ≡ head_at s j
  unfolding rule_at
  head-is j h = ap (λ r. r.head) (rule_is j h)

  pub body_is : (j : ℕ) → j < R s → (rule_of (decode s) j).body ≡ upto (u16 s (start_of s j + 2)) (literal_at s (start_of s j))
  unfolding rule_at
  body_is j h = ap (λ r. r.body) (rule_is j h)

-- ---- where a literal leads

-- the flag is 0 or 1,
bit : (b : Bool) (p : ℕ) → cond b 1 (p % 2) ≤ 1
bit true p = omega arith
bit false p = omega arith

module _ (s : List ℕ) (p : ℕ) (l : Literal) (low : F s ≤ l.atom) where
  -- so the place tells the atom,
  pub leads-atom : F s + leads s p l / 2 ≡ l.atom
  leads-atom = omega (arith, bit l.negated p)

  -- and the flag,
  pub leads-flag : leads s p l % 2 ≡ cond l.negated 1 (p % 2)
  leads-flag = omega (arith, bit l.negated p)

  -- and is one of a derived atom
  pub leads-below : l.atom < F s + D s → leads s p l < 2 * D s
  leads-below h = omega (arith, bit l.negated p)

-- what is led to stays so
pub led-grown : {s : List ℕ} {x p j : ℕ} {found found₁ : Search} → Grown found found₁ → Led s x found p j → Led s x found₁ p j
led-grown g d = record { each = λ l m h. g.still _ (d.each l m h) }

-- ---- a literal

module _ {s : List ℕ} {lit x rule k : ℕ} {found : Search} (q : LeadAsked s lit x rule k found) where
  -- the entry that it leads from is one of the tables',
  pub lead-entry : k < 1024
  lead-entry = omega (arith, q.going.known, q.going.formed.derived, trail-few q.going.tables.trail)

  -- and its atom is below x,
  pub lead_low : lit / 2 < x → LeadDone s lit x k found found
  unfolding literal
  lead_low h = record {
    tables = q.going.tables;
    grown = grown-none;
    led = λ l. absurd (omega arith);
  }

  module _
      {facts p f : ℕ} (facts_are : facts ≡ F s) (cell : p ≡ get_or found.queue k 0)
      (flag : f ≡ cond (eqb (lit % 2) 1) 1 (p % 2)) (high : x ≤ lit / 2)
    where
      atom-low : F s ≤ (literal lit).atom
      unfolding literal
      atom-low = omega (arith, q.going.low)

      place_is : 2 * (lit / 2 - facts) + f ≡ leads s (get_or found.queue k 0) (literal lit)
      unfolding literal
      place_is = rw (flag, cell, facts_are) refl

      -- or else the place is one of a derived atom,
      pub place-low : 2 * (lit / 2 - facts) + f < 2 * D s
      place-low = rw place_is (leads-below s (get_or found.queue k 0) (literal lit) atom-low q.known_atom)

      -- which is reached already,
      pub lead-known : 0 < get_or found.entry (2 * (lit / 2 - facts) + f) 0 → LeadDone s lit x k found found
      lead-known h = record { tables = q.going.tables; grown = grown-none; led = λ l. rw place_is at h }

      module _ (new : get_or found.entry (2 * (lit / 2 - facts) + f) 0 ≤ 0) where
        -- or is put behind those known, for which there is room
        pub lead-room : found.count < 1024
        lead-room =
            let less = trail-less q.going.tables.trail (2 * (lit / 2 - facts) + f) place-low (omega arith) in
            omega (arith, q.going.formed.derived)

        pub lead-asked : AddAsked (2 * (lit / 2 - facts) + f) k rule found
        lead-asked =
            let f = q.going.formed in
            record {
              room = lead-room;
              place_low = omega (arith, place-low, f.derived);
              entry_low = lead-entry;
              rule_low = omega (arith, q.going.is_rule, f.rules);
            }

        lead-step : Step s rule (get_or found.queue k 0) (2 * (lit / 2 - facts) + f)
        lead-step = record {
          is_rule = q.going.is_rule;
          head = q.going.head;
          literal = literal lit;
          held = q.held;
          atom_is = rw place_is (sym (leads-atom s (get_or found.queue k 0) (literal lit) atom-low));
          flag = rw place_is (leads-flag s (get_or found.queue k 0) (literal lit) atom-low);
        }

        pub lead-new : LeadDone s lit x k found (with_place found (2 * (lit / 2 - facts) + f) k rule)
        lead-new =
            let t = q.going.tables in
            let few = q.going.formed.derived in
            let known = q.going.known in
            let none : get_or found.entry (2 * (lit / 2 - facts) + f) 0 ≡ 0 = omega arith in
            record {
              tables = new-tables t few known lead-step place-low none;
              grown = new-grown t few known lead-step place-low none;
              led = λ l. rw (← place_is) (new-reached t few known lead-step place-low none);
            }
