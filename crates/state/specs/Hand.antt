-- What the host lends to a call, and what it has in hand between calls (include/reach.h).
use Rattle.std.specs.Prelude.{List, ◌++◌, ℕ, min, length, take, drop}
use Rattle.update.specs.Update.{Store}
use Rattle.update.specs.Words.{store_in, words_of}
use Rattle.state.specs.declared.State.{State}

-- the lent arrays: the node store, and the atom places
pub record Lent : Type 0 where
  pub nodes : List ℕ
  pub places : List ℕ

-- "The layer in work and the count of nodes go along with each call and come back from it."
pub record Hand : Type 0 where
  pub lent : Lent
  pub state : State

abbrev pub lending : List ℕ → List ℕ → Lent
lending nodes places = record { nodes = nodes; places = places }

abbrev pub handing : List ℕ → List ℕ → State → Hand
handing nodes places state = record { lent = lending nodes places; state = state }

-- a state of zeros, which a refused loading gives: it fits nothing
abbrev pub zeros : State
zeros = record { layer = 0; nodes = 0 }

-- ---- "a longer lent store is used only that far; entries beyond, like atom places beyond 544, keep their values"

-- N
abbrev pub room_in : List ℕ → ℕ
room_in nodes = min (length nodes) 4096

abbrev pub words_in : List ℕ → List ℕ
words_in nodes = take 4096 nodes

abbrev pub places_in : List ℕ → List ℕ
places_in places = take 544 places

-- N of what is in hand, and the store in hand
abbrev pub room : Hand → ℕ
room h = room_in h.lent.nodes

abbrev pub store : Hand → Store
store h = store_in (words_in h.lent.nodes) (places_in h.lent.places) h.state.nodes

-- the lent memory once it holds a store
abbrev pub holding : Lent → Store → Lent
holding l st = record {
  nodes = words_of (room_in l.nodes) st ++ drop 4096 l.nodes;
  places = st.places ++ drop 544 l.places;
}
