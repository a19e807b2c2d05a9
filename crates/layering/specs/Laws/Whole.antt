-- The whole call: what its parts ask for stands once the parts before them have answered.
use Rattle.std.specs.Prelude.{◌≡◌, Bool, true, false, List, ◌++◌, ℕ, ◌≤◌, length, take, replicate}
use Rattle.std.proofs.Common.{sym, ap, ◌∙◌, arith, length-append, length-take-le, get_or-take, take_at}
use Rattle.std.proofs.lemmas.List.{length-replicate, get_or-replicate}
use Rattle.format.specs.File.{D}
use Rattle.format.specs.Passed.{Formed}
use Rattle.chains.specs.Calls.{FindAsked}
use Rattle.layering.specs.Calls.{SettleAsked, Settled, WriteAsked}

-- room for every derived atom, and 1 in each place
abbrev pub ones : List ℕ
ones = replicate 512 1

module _ {s : List ℕ} (formed : Formed s) {derived : ℕ} (derived_are : derived ≡ D s) where
  pub ones-room : derived ≤ length ones
  ones-room = omega (arith, formed.derived, length-replicate {A = ℕ} 512 1)

  -- the derived atoms' places make the part that is lent,
  pub ones-size : derived ≡ length (take derived ones)
  ones-size = sym (length-take-le derived ones ones-room)

  -- and settling can start with it
  pub settle-asked : SettleAsked s (take derived ones)
  settle-asked = record {
    formed = formed;
    size = sym ones-size ∙ derived_are;
    ones = λ i h.
        get_or-take derived ones i 0 (omega arith) ∙
        get_or-replicate {A = ℕ} 512 i 1 0 (omega (arith, formed.derived));
  }

-- after settling the derived atoms' places make that part again
module _
    {s layers : List ℕ} {still : Bool} {derived : ℕ} (derived_are : derived ≡ D s) (g : Settled s layers still) (rest : List ℕ)
  where
    front : take derived (layers ++ rest) ≡ layers
    front = take_at layers rest derived (g.size ∙ sym derived_are)

    pub front-room : derived ≤ length (layers ++ rest)
    front-room = omega (arith, length-append layers rest, g.size, derived_are)

    pub front-size : derived ≡ length (take derived (layers ++ rest))
    front-size = derived_are ∙ sym (ap length front ∙ g.size)

-- after settling,
module _ {s layers out : List ℕ} {still : Bool} (formed : Formed s) (g : Settled s layers still) (room : 2048 ≤ length out) where
  -- a chain is searched for,
  pub find-asked : still ≡ false → FindAsked s out
  find-asked e = record { formed = formed; some = g.chain e; room = room }

  -- or the layers are written
  pub write-asked : still ≡ true → WriteAsked s layers out
  write-asked e = record { formed = formed; size = g.size; smallest = g.smallest e; room = room }
