-- P1 to P12 (document 01, "Worked files, and the edges"): one table, one statement, by computation.
-- A row is a file, a question about it, and the answer that 01 gives.
use Rattle.std.specs.Prelude.{Ok, Err, ◌≡◌, refl, cond, List, [], ◌∷◌, map, ℕ, eqb, length}
use Rattle.meaning.specs.Meaning.{Literal, Program, Share, total, holds, weight_of, given}
use Rattle.format.specs.Bytes.{u16, u32}
use Rattle.format.specs.File.{decode}
use Rattle.format.specs.Refusals.{Verdict, verdict, number}
use Rattle.diagram.specs.Diagram.{eval, combine, negate, diagram_of}
use Rattle.diagram.specs.Listing.{listing}
use Rattle.rounds.specs.Layers.{lowest_above, atoms_from}
use Rattle.rounds.specs.Load.{loaded, load_full, load}
use Rattle.rounds.specs.Run.{How, Finished, Spent, Full, Ran, runs, run}
use Rattle.update.specs.Update.{Updated, done, full as updateFull, update}
use Rattle.worked.specs.Files.{file_s, file_wet, file_graph, plain, not}

-- ---- questions about the program that a file holds, and their answers

pub data Question : Type 0 where
  weight : ℕ → Question  -- the weight of an atom
  share : ℕ → List Literal → Question  -- the weight of an atom given evidence
  list : ℕ → Question  -- the listing of an atom
  finish : ℕ → Question  -- a run to its end in N places
  room : ℕ → ℕ → ℕ → Question  -- an update of an atom after a run in N places with a budget

pub data Answer : Type 0 where
  weights : ℕ → ℕ → Answer  -- a weight and the total, or those of query and evidence and of the evidence
  nodes : ℕ → Answer  -- the nodes in use
  full : ℕ → Answer  -- a run that met full, after so many updates
  refused : ℕ → Answer  -- refused with
  bytes : List ℕ → Answer

-- "Given evidence: .. 20", "evidence of weight 0"
unfoldable pub shared : Share → Answer
shared r = cond (eqb r.evidence 0) (refused 20) (weights r.both r.evidence)

-- a run from loading in N places with a budget; loading alone may be full
unfoldable pub run_in : Program → ℕ → ℕ → (Ran → Answer) → Answer
unfolding load runs atoms_from lowest_above combine negate eval
run_in P N budget then = elim (load P N) [ load_full ↦ refused 12 | loaded st k ↦ then (run P N budget k st) ]

-- "S needs 6 nodes"; the budget is the reading program's, which no run spends
unfoldable pub finished : Program → ℕ → Answer
unfolding run_in
finished P N = run_in P N 262656 (λ r. ended r.how r)
  where
    ended : How → Ran → Answer
    ended Finished r = nodes (length r.store.nodes)
    ended Full r = full r.updates
    ended Spent r = full r.updates

-- "With N = 5 the first update of atom 5 is refused with 12."
unfoldable pub room_for : Program → ℕ → ℕ → ℕ → Answer
unfolding run_in update
room_for P N budget a = run_in P N budget (λ r. used (update P N r.store a))
  where
    used : Updated → Answer
    used (done st) = nodes (length st.nodes)
    used updateFull = refused 12

unfoldable pub ask : Program → Question → Answer
unfolding weight_of total given shared listing diagram_of holds finished room_for
ask P (weight a) = weights (weight_of P a) (total P.facts)
ask P (share q e) = shared (given P q e)
ask P (list a) = bytes (listing (length P.facts) (diagram_of (length P.facts) 0 (holds P a)))
ask P (finish N) = finished P N
ask P (room N budget a) = room_for P N budget a

-- the answer for a file: its refusal, or what its program means
unfoldable pub answer : List ℕ → Question → Answer
unfolding ask decode verdict
answer s q = go (verdict s)
  where
    go : Verdict → Answer
    go (Ok a) = ask (decode s) q
    go (Err w) = refused (number w)

-- ---- the table

pub record Row : Type 0 where
  pub file : List ℕ
  pub question : Question
  pub expected : Answer

abbrev row : List ℕ → Question → Answer → Row
row s q e = record { file = s; question = q; expected = e }

abbrev pub table : List Row
table =
    row file_s (weight 2) (weights 5 20) ∷  -- P1
    row file_s (weight 3) (weights 2 20) ∷  -- P2
    row file_s (weight 4) (weights 2 20) ∷  -- P3
    row file_s (weight 5) (weights 3 20) ∷  -- P4
    row file_s (share 2 (not 3 ∷ [])) (weights 3 18) ∷  -- P5
    row file_s (share 2 (plain 3 ∷ not 3 ∷ [])) (refused 20) ∷  -- P6
    row file_s (list 3) (bytes (2 ∷ 0 ∷ 2 ∷ 0 ∷ 3 ∷ 0 ∷ 1 ∷ 0 ∷ 0 ∷ 0 ∷ 1 ∷ 0 ∷ 0 ∷ 0 ∷ 0 ∷ 0 ∷ 2 ∷ 0 ∷ [])) ∷  -- P7
    row file_s (finish 4096) (nodes 6) ∷  -- P8: "S needs 6 nodes."
    row file_s (finish 6) (nodes 6) ∷  -- so it finishes with N = 6,
    row file_s (finish 5) (full 6) ∷  -- and not with 5:
    row file_s (room 5 6 5) (refused 12) ∷  -- "With N = 5 the first update of atom 5 is refused with 12."
    row file_wet (weight 2) (weights 44 100) ∷  -- P9
    row file_wet (share 0 (not 2 ∷ [])) (weights 0 56) ∷  -- P10
    row file_graph (weight 9) (weights 10 16) ∷  -- P11
    row file_graph (weight 12) (weights 4 16) ∷ []  -- P12

-- every row's answer is 01's
pub worked : map (λ r. answer r.file r.question) table ≡ map (λ r. r.expected) table
unfolding answer file_wet file_graph u16 u32
worked = refl
