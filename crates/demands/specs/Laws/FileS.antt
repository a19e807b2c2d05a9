-- File S in hand, by computation: loaded into six words, and at the finish of a run.
use Rattle.std.specs.Prelude.{◌≡◌, refl, List, [], ◌∷◌, ℕ, zero, suc, T, ltb, replicate}
use Rattle.std.proofs.Common.{subst, ◌∙◌, arith, ltb→lt}
use Rattle.meaning.specs.Lists.{all}
use Rattle.meaning.specs.Meaning.{total, layer_of}
use Rattle.meaning.proofs.Laws.Tests.{T-and-left, T-and-right}
use Rattle.format.specs.Bytes.{Bytes, u16, u32}
use Rattle.format.specs.File.{decode}
use Rattle.format.specs.Refusals.{verdict}
use Rattle.diagram.specs.Diagram.{eval, combine, negate}
use Rattle.update.specs.Update.{is_full}
use Rattle.rounds.specs.Layers.{lowest_above, atoms_from}
use Rattle.rounds.specs.Load.{loaded_store}
use Rattle.rounds.specs.Run.{runs as running}
use Rattle.fitting.specs.Fit.{fit_together}
use Rattle.calls.specs.Refusals.{answering}
use Rattle.calls.specs.Calls.{Calls, step_refused, load_host, update_host, run_host}
use Rattle.state.specs.Hand.{Lent, Hand}
use Rattle.worked.specs.Files.{file_s}
use Rattle.demands.specs.Reached.{back, back_from, Reached, by_load, by_run}

-- a list whose entries pass the test holds bytes
all-bytes : (s : List ℕ) → T (all (λ b. ltb b 256) s) → Bytes s
unfolding all
all-bytes (b ∷ s) t zero h = ltb→lt b 256 (T-and-left (ltb b 256) (all (λ b. ltb b 256) s) t)
all-bytes (b ∷ s) t (suc i) h = all-bytes s (T-and-right (ltb b 256) (all (λ b. ltb b 256) s) t) i (omega arith)
all-bytes [] t i h = absurd (omega arith)

pub bytes-S : Bytes file_s
unfolding all
bytes-S = all-bytes file_s tt

-- what is lent to loading: six words, as many as S needs, and 544 places
abbrev pub lent_s : Lent
lent_s = record { nodes = replicate 6 0; places = replicate 544 0 }

-- S loaded: its fact nodes, and layer 1 in work
abbrev pub loaded_s : Hand
loaded_s = record {
  lent = record { nodes = 1 ∷ 67108865 ∷ replicate 4 0; places = 2 ∷ 3 ∷ replicate 542 0 };
  state = record { layer = 1; nodes = 2 };
}

pub load-S : load_host file_s lent_s ≡ record { answer = record { refusal = 0; detail = 0; state = loaded_s.state }; lent = loaded_s.lent }
unfolding answering verdict decode u16 u32 total layer_of is_full loaded_store lowest_above eval
load-S = refl

-- layer 1 is in work, so that an update of atom 5 is refused ("Four ways to get it wrong", the second; worked/specs/Wrong)
pub too-early : update_host file_s loaded_s 5 ≡ step_refused loaded_s 14 0
unfolding answering fit_together decode u16 u32 total layer_of
too-early = refl

-- S at the finish: "updates 8"
abbrev pub finished_s : Hand
finished_s = record {
  lent = record {
    nodes = 1 ∷ 67108865 ∷ 3 ∷ 67117056 ∷ 8197 ∷ 5 ∷ [];
    places = 2 ∷ 3 ∷ 2 ∷ 4 ∷ 4 ∷ 7 ∷ replicate 538 0;
  };
  state = record { layer = 65535; nodes = 6 };
}

pub run-S : run_host file_s loaded_s 100 ≡ record {
  answer = record { refusal = 0; detail = 0; state = finished_s.state; outcome = 1; updates = 8 };
  lent = finished_s.lent;
}
unfolding answering fit_together decode u16 u32 total layer_of running atoms_from lowest_above combine negate eval
run-S = refl

-- whatever else they do, calls that load and run S as ours do reach both
module _ {calls : Calls} where
  pub reached-loaded : calls.load file_s lent_s ≡ load_host file_s lent_s → Reached calls file_s loaded_s
  reached-loaded l =
      let e : calls.load file_s lent_s ≡ _ = l ∙ load-S in
      subst (λ u. Reached calls file_s (back u)) e (by_load lent_s (λ i. (e i).answer.refusal))

  pub reached-finished : calls.load file_s lent_s ≡ load_host file_s lent_s → calls.run file_s loaded_s 100 ≡ run_host file_s loaded_s 100 →
      Reached calls file_s finished_s
  reached-finished l r =
      let e : calls.run file_s loaded_s 100 ≡ _ = r ∙ run-S in
      subst (λ u. Reached calls file_s (back_from u)) e (by_run (reached-loaded l) 100)
