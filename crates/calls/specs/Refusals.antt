-- The refusals of every call (document 01, "Refusal numbers"): for each call a table in 01's order, of which the first row that is due
-- counts. A row has the refusal's number, its detail ("0 where none is named"), and whether it is due.
use Rattle.std.specs.Prelude.{Ok, Err, Bool, true, false, not, ◌&&◌, ℕ, ◌+◌, ◌/◌, eqb, ltb, leb, length}
use mathlib.Core.List.{List, [], ◌∷◌, map}
use Rattle.meaning.specs.Lists.{all}
use Rattle.meaning.specs.Meaning.{Program, atoms, layer_of}
use Rattle.format.specs.File.{literal, decode}
use Rattle.format.specs.Refusals.{Verdict, verdict, passes, number, detail}
use Rattle.diagram.specs.Diagram.{leaf}
use Rattle.update.specs.Update.{diagram_at, body_builds, update_builds, is_full, after_update}
use Rattle.rounds.specs.Layers.{finished_layer, atoms_of}
use Rattle.rounds.specs.Load.{load_builds}
use Rattle.rounds.specs.Close.{changed}
use Rattle.state.specs.Hand.{Lent, Hand, room_in, room, store}
use Rattle.questions.specs.Questions.{asked}
use Rattle.fitting.specs.Fit.{fit_together}

-- ---- tables

abbrev pub Table : Type 0
Table = List (ℕ × ℕ × Bool)

-- the first row that is due: its number and its detail; or 0 and 0
unfoldable pub first_of : Table → ℕ × ℕ
first_of [] = (0, 0)
first_of (t ∷ ts) = elim t.2 [ true ↦ (t.0, t.1) | false ↦ first_of ts ]

-- what a call gives: the refusal that is due, or else its answer
unfoldable pub answering : {A : Type 0} → Table → (ℕ → ℕ → A) → A → A
answering [] refuse answer = answer
answering (t ∷ ts) refuse answer = elim t.2 [ true ↦ refuse t.0 t.1 | false ↦ answering ts refuse answer ]

-- ---- loading

-- refusals 1 to 11 of a file, or 0, and their details
abbrev pub file_refusal : Verdict → ℕ
file_refusal (Ok a) = 0
file_refusal (Err w) = number w

-- and its detail
abbrev pub file_detail : Verdict → ℕ
file_detail (Ok a) = 0
file_detail (Err w) = detail w

-- "Loading: 1 to 7 in order; then rules ..; leftover (8); 36; 12." "36 | fewer than 544 atom places"
abbrev pub load_tests : List ℕ → Lent → Table
load_tests s l =
    (file_refusal (verdict s), file_detail (verdict s), not (passes (verdict s))) ∷ (36, 0, ltb (length l.places) 544) ∷
    (12, 0, is_full (decode s) (room_in l.nodes) (record { nodes = []; places = [] }) (load_builds (decode s))) ∷ []

-- ---- the later calls

-- "13 | no such atom": the query's, or that of an evidence literal
abbrev pub knows : Program → ℕ → List ℕ → Bool
knows P a evidence = ltb a (atoms P) && all (λ n. ltb (n / 2) (atoms P)) evidence

module _ (s : List ℕ) (h : Hand) where
  abbrev P : Program
  P = decode s

  -- "Every later call: 36 first." "36 | .. anything that doesn't fit together"
  abbrev pub later : Table → Table
  later ts = (36, 0, not (fit_together s h)) ∷ ts

  -- "13 | no such atom"
  abbrev unknown : ℕ → Bool
  unknown a = leb (atoms P) a

  -- "16 | closing a finished run", "17 | not finished"
  abbrev finished : Bool
  finished = eqb h.state.layer finished_layer

  -- "19 | fewer than N + 2 working numbers"
  abbrev short : List ℕ → Bool
  short numbers = ltb (length numbers) (room h + 2)

  -- "12 | full": an update of the atom is
  abbrev full_at : ℕ → Bool
  full_at a = is_full P (room h) (store h) (update_builds P (store h) a)

  -- "Update: 13, 14, 12." "14 | atom not of the layer in work"
  abbrev pub update_tests : ℕ → Table
  update_tests a = (13, 0, unknown a) ∷ (14, 0, not (eqb (layer_of P a) h.state.layer)) ∷ (12, 0, full_at a) ∷ []

  -- the check of these atoms: "the first atom, in ascending order, whose rules would change it or whose check is full", "12 first"
  unfoldable pub check_tests : List ℕ → Table
  unfolding is_full after_update
  check_tests [] = []
  check_tests (a ∷ l) = (12, 0, full_at a) ∷ (15, a, changed (store h) (after_update P (store h) a) a) ∷ check_tests l

  -- "Close: 16, then 12 or 15 at the atom that stops the check"
  abbrev pub close_tests : Table
  close_tests = (16, 0, finished) ∷ check_tests (atoms_of P h.state.layer)

  -- "Run: no other."
  abbrev pub run_tests : Table
  run_tests = []

  -- "Weight so far: 13, 19."
  abbrev pub weight_tests : ℕ → List ℕ → Table
  weight_tests a numbers = (13, 0, unknown a) ∷ (19, 0, short numbers) ∷ []

  -- "Given evidence: 17, 18, 13, 19, 12, 20.", where the evidence weighs so much
  abbrev pub given_tests : ℕ → List ℕ → List ℕ → ℕ → Table
  given_tests a evidence numbers weight =
      (17, 0, not finished) ∷ (18, 0, ltb 64 (length evidence)) ∷ (13, 0, not (knows P a evidence)) ∷ (19, 0, short numbers) ∷
      (12, 0, is_full P (room h) (store h) (body_builds (diagram_at (store h)) (leaf true) (asked (map literal evidence) a))) ∷
      (20, 0, eqb weight 0) ∷ []

  -- "Listing: 17, 13, 21.", where these are the listing's bytes
  abbrev pub listing_tests : ℕ → List ℕ → List ℕ → Table
  listing_tests a out bytes = (17, 0, not finished) ∷ (13, 0, unknown a) ∷ (21, 0, ltb (length out) (length bytes)) ∷ []
