-- The facts' places are nodes of the store, and all others are never.
use Rattle.std.specs.Prelude.{◌≡◌, List, ℕ, ◌<◌, length, get_or, set, replicate}
use Rattle.std.proofs.Common.{arith, get_or-set_same, get_or-set_other}
use Rattle.std.proofs.Math.Decide.{ℕ_discrete, dec_lt}
use Rattle.std.proofs.Math.ListN.{length-set}
use Rattle.std.proofs.lemmas.List.{length-replicate, get_or-replicate, get_or_past}
use Rattle.building.proofs.tests.place.Goals as goal

-- a place more that is a node below n
inside : (l : List ℕ) (i v n : ℕ) → i < length l → v < n → ((a : ℕ) → get_or l a 0 < n) → (a : ℕ) → get_or (set l i v) a 0 < n
inside l i v n h k p a = elim (ℕ_discrete a i) [
  | yes e ↦ rw (e, get_or-set_same l i v 0 h) k
  | no o ↦ rw (get_or-set_other l i a v 0 o) (p a)
]

-- zeros are 0 wherever they are read
zero : (n a : ℕ) → get_or {A = ℕ} (replicate n 0) a 0 ≡ 0
zero n a = elim (dec_lt a n) [
  | yes h ↦ get_or-replicate n a 0 0 h
  | no h ↦ get_or_past (replicate n 0) a 0 (rw length-replicate (omega arith))
]

pub returns : goal.returns
returns c = record {
  long = rw (length-set, length-set) c.told-places;
  inside =
      inside (set c.args.places.now 0 2) 1 3 4 (rw length-set (omega (arith, c.told-places))) (omega arith)
      (inside c.args.places.now 0 2 4 (omega (arith, c.told-places)) (omega arith) (λ a. rw (c.requires, zero 544 a) (omega arith)));
}
