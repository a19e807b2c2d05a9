-- What the functions that write ask.
use Rattle.std.specs.Prelude.{◌≡◌, List, map, ℕ, ◌+◌, ◌≤◌, ◌<◌, length, get_or}
use Rattle.meaning.specs.Meaning.{total}
use Rattle.format.specs.File.{F, decode}
use Rattle.format.specs.Passed.{Passed}
use Rattle.rounds.specs.Laws.Reached.{Standing}
use Rattle.building.specs.Calls.{Placed}
use Rattle.update.specs.Words.{store_in}
use Rattle.update.specs.Update.{Store}
use Rattle.state.specs.Answers.{Fits}
use Rattle.state.specs.declared.State.{State}
use Rattle.questions.specs.Weights.{FillAsked, node_weight}
use Rattle.store.specs.Store.{unpack, Sound}

-- a file that has passed its check, and its total
pub record Accepts (s : List ℕ) (whole : ℕ) : Type 0 where
  pub passed : Passed s
  pub whole_is : whole ≡ total (decode s).facts

-- the store of words that are all used
abbrev pub used_store : List ℕ → List ℕ → Store
used_store nodes places = record { nodes = map unpack nodes; places = places }

-- words, all used, and places that hold a store for the file's facts
pub record StoreAsked (s nodes places : List ℕ) : Type 0 where
  pub few : length nodes ≤ 4096
  pub sound : Sound (F s) (map unpack nodes)
  pub placed : Placed places (length nodes)

-- such a store, and numbers that are its nodes' weights
pub record IsWeighed (s nodes places numbers : List ℕ) : Type 0 where
  pub filled : FillAsked s nodes numbers
  pub weights : (n : ℕ) → n < length nodes + 2 → get_or numbers n 0 ≡ node_weight (decode s).facts (map unpack nodes) n
  pub placed : Placed places (length nodes)

-- a store of 4,096 nodes that a run can begin from
pub record RunAsked (s nodes places : List ℕ) (state : State) : Type 0 where
  pub fits : Fits s nodes places state
  pub stands : Standing (decode s) state.layer (store_in nodes places state.nodes)
  pub size : length nodes ≡ 4096

-- 4,096 words and 544 places to load into
pub record StartAsked (nodes places : List ℕ) : Type 0 where
  pub size : length nodes ≡ 4096
  pub long : length places ≡ 544
