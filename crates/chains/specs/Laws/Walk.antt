-- Walks over the rules from a derived atom: from a head on to an atom of a body, again and again. A walk weighs 1 for the derived atom at
-- its end and 1 for each negated literal on the way, and no legal layering gives the atom less.
use Rattle.std.specs.Prelude.{◌≡◌, cond, ℕ, ◌+◌, ◌≤◌, ◌<◌, length}
use mathlib.Core.List.{List, [], ◌∷◌, Memᴰ}
use Rattle.std.proofs.Common.{arith}
use Rattle.meaning.specs.Meaning.{Literal, Program, atoms}
use Rattle.chains.specs.Layering.{Legal, rule_of}
use Rattle.chains.specs.Laws.Legal.{rule-in, legal-asks}

-- a walk from an atom, with the atoms that it steps from and its weight
pub data Walk (P : Program) : ℕ → List ℕ → ℕ → Type 0 where
  stay : {a : ℕ} → length P.facts ≤ a → a < atoms P → Walk P a [] 1
  step :
      {a : ℕ} {on : List ℕ} {w : ℕ} (j : ℕ) → j < length P.rules → (rule_of P j).head ≡ a →
      (l : Literal) → Memᴰ l (rule_of P j).body → Walk P l.atom on w → Walk P a (a ∷ on) (w + cond l.negated 1 0)

-- a legal layering lies above every walk
pub walk-legal : {P : Program} {layer : ℕ → ℕ} → Legal P layer → {a : ℕ} {on : List ℕ} {w : ℕ} → Walk P a on w → w ≤ layer a
walk-legal t {a} (Walk.stay h k) = t.derived a h k
walk-legal {P} t (Walk.step j h e l i s) = rw (← e) (omega (arith, legal-asks t (rule-in P j h) i, walk-legal t s))
