-- What the search for a chain is asked and what it answers, and the places that it reaches.
use Rattle.std.specs.Prelude.{◌≡◌, true, false, cond, ℕ, zero, suc, ◌+◌, ◌*◌, ◌-◌, ◌/◌, ◌%◌, ◌≤◌, ◌<◌, eqb, length, get_or}
use mathlib.Core.List.{List, [], ◌∷◌, ◌++◌, Memᴰ}
use Rattle.meaning.specs.Meaning.{Literal}
use Rattle.format.specs.File.{F, D, R, decode}
use Rattle.format.specs.Passed.{Formed}
use Rattle.chains.specs.Layering.{rule_of}
use Rattle.chains.specs.declared.search.Search.{Search}
use Rattle.chains.specs.Laws.Cut.{SomeChain}

-- a file that has passed its check but for 11 and has a chain
pub record FindAsked (s out : List ℕ) : Type 0 where
  pub formed : Formed s
  pub some : SomeChain (decode s)
  pub room : 2048 ≤ length out

-- ---- the search for a chain through an atom
-- A place of the search is twice a derived atom's number among the derived ones, plus 1 once a negated link has been passed. `queue` holds
-- the places reached, so many as `count` says; at each of its entries `from` has the entry from which and `by` the rule by which it was
-- reached; `entry` has at each
-- place 1 more than its entry, or 0 where it was not reached.

-- rule j leads from one place to another: its head is the first one's atom, and its body holds the second one's
pub record Step (s : List ℕ) (j p q : ℕ) : Type 0 where
  pub is_rule : j < R s
  pub head : (rule_of (decode s) j).head ≡ F s + p / 2
  pub literal : Literal
  pub held : Memᴰ literal (rule_of (decode s) j).body
  pub atom_is : literal.atom ≡ F s + q / 2
  pub flag : q % 2 ≡ cond literal.negated 1 (p % 2)

-- the places reached from atom x
pub record Trail (s : List ℕ) (x : ℕ) (found : Search) : Type 0 where
  pub some : 0 < found.count
  pub first : get_or found.queue 0 0 ≡ 2 * (x - F s)
  pub inside : (k : ℕ) → k < found.count → get_or found.queue k 0 < 2 * D s
  pub back :
      (k : ℕ) → 0 < k → k < found.count →
      (get_or found.from k 0 < k) × Step s (get_or found.by k 0) (get_or found.queue (get_or found.from k 0) 0) (get_or found.queue k 0)
  pub entries : (k : ℕ) → k < found.count → get_or found.entry (get_or found.queue k 0) 0 ≡ k + 1
  pub reached :
      (p : ℕ) → p < 2 * D s → 0 < get_or found.entry p 0 →
      (get_or found.entry p 0 ≤ found.count) × (get_or found.queue (get_or found.entry p 0 - 1) 0 ≡ p)

-- the rules on the way to entry k of the queue, at most so many
unfoldable pub way_to : ℕ → List ℕ → List ℕ → ℕ → List ℕ
way_to zero from by k = []
way_to (suc most) from by k = elim (eqb k 0) [ true ↦ [] | false ↦ way_to most from by (get_or from k 0) ++ (get_or by k 0 ∷ []) ]
