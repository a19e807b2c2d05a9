-- What a legal layering grants: a head is as high as each literal of its body asks, so along links the layer never falls, and where one of
-- them is negated it rises.
use Rattle.std.specs.Prelude.{◌≡◌, refl, Bool, true, false, ◌||◌, cond, ℕ, zero, suc, ◌+◌, ◌≤◌, ◌<◌, length, get_or}
use mathlib.Core.List.{List, [], ◌∷◌, Memᴰ}
use Rattle.std.proofs.Common.{arith}
use Rattle.meaning.specs.Meaning.{Literal, Rule, Program}
use Rattle.chains.specs.Layering.{Legal, rule_of, Link, Links}

-- the entry at a place below the end is a member
entry_in : {A : Type 0} (l : List A) (i : ℕ) (d : A) → i < length l → Memᴰ (get_or l i d) l
entry_in [] i d h = absurd (omega arith)
entry_in (x ∷ l) zero d h = Memᴰ.head refl
entry_in (x ∷ l) (suc i) d h = Memᴰ.tail (entry_in l i d (omega arith))

-- rules below the end are the program's
pub rule-in : (P : Program) (j : ℕ) → j < length P.rules → Memᴰ (rule_of P j) P.rules
rule-in P j h = entry_in P.rules j _ h

or-bit : (b c : Bool) → cond (b || c) 1 0 ≤ cond b 1 0 + cond c 1 0
or-bit true c = omega arith
or-bit false c = omega arith

module _ {P : Program} {layer : ℕ → ℕ} (w : Legal P layer) where
  -- a head is at least as high as a plain atom of its body, and one higher than a negated one
  pub legal-asks : {r : Rule} → Memᴰ r P.rules → {l : Literal} → Memᴰ l r.body →
      layer l.atom + cond l.negated 1 0 ≤ layer r.head
  legal-asks {r} m {l} i = go l.negated refl
    where
      go : (b : Bool) → l.negated ≡ b → layer l.atom + cond b 1 0 ≤ layer r.head
      go true e = omega (arith, w.negated r m l i e)
      go false e = omega (arith, w.plain r m l i e)

  link-rises : {j k : ℕ} {b : Bool} → Link P j k b → layer (rule_of P k).head + cond b 1 0 ≤ layer (rule_of P j).head
  link-rises {j} t = rw (← t.atom_is, ← t.negated_is) (legal-asks (rule-in P j t.from) t.held)

  -- the head that links start from is as high as the one that they end at, and higher where one of them is negated
  pub links-rise : {k : ℕ} {js : List ℕ} {b : Bool} → Links P k js b →
      layer (rule_of P k).head + cond b 1 0 ≤ layer (rule_of P (get_or js 0 0)).head
  links-rise (Links.last t) = link-rises t
  links-rise (Links.next {b = b} {c = c} t ts) = omega (arith, or-bit b c, link-rises t, links-rise ts)
