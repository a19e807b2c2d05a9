-- A store that fits the file and N places still does after updates of a layer's atoms, closings and runs.
use Rattle.std.specs.Prelude.{◌≡◌, ℕ}
use Rattle.std.proofs.Common.{sym, subst}
use mathlib.Core.List.{List, Memᴰ}
use Rattle.format.specs.Bytes.{Bytes}
use Rattle.format.specs.File.{decode}
use Rattle.update.specs.Update.{Store, done, update}
use Rattle.rounds.specs.Layers.{atoms_of}
use Rattle.rounds.specs.Close.{closed, close}
use Rattle.rounds.specs.Run.{run}
use Rattle.rounds.specs.Fit.{Fit}
use Rattle.rounds.specs.Stages.{update_each, RunAs, Rounds}
use Rattle.rounds.specs.Laws.Layers.{atoms-derived}
use Rattle.rounds.specs.Laws.Made.{fit-held, fit-update, fit_next}
use Rattle.rounds.specs.Laws.Close.{close-only}
use Rattle.rounds.specs.Laws.Each.{made-room, each-fit}
use Rattle.rounds.specs.Laws.Stages.{run-as, rounds-fit, run-fit}
use Rattle.state.specs.Laws.Fits.{passed-layered}
use Rattle.demands.specs.Laws.Holding.{Held}

-- an update of an atom of the layer,
pub held_update : {s : List ℕ} {N k : ℕ} {st st₁ : Store} {a : ℕ} → Held s N k st → Memᴰ a (atoms_of (decode s) k) →
    update (decode s) N st a ≡ done st₁ → Held s N k st₁
held_update {s} {N} {k} {st} {a = a} h m e =
    let d = atoms-derived (decode s) k a m in
    record {
      passed = h.passed;
      fit = fit-update h.fit N a d.0 d.1 e;
      used = made-room (decode s) N st a e (fit-held h.fit);
    }

-- updates of several,
pub held-each : {s : List ℕ} {N k : ℕ} {st st₁ : Store} → Held s N k st → (l : List ℕ) →
    ((a : ℕ) → Memᴰ a l → Memᴰ a (atoms_of (decode s) k)) → update_each (decode s) N st l ≡ done st₁ → Held s N k st₁
held-each {s} {N} {k} {st} h l o e =
    let g = each-fit (decode s) N st l h.fit h.used (λ a m. atoms-derived (decode s) k a (o a m)) e in
    record { passed = h.passed; fit = g.0; used = g.1 }

module _ {s : List ℕ} (b : Bytes s) {N : ℕ} where
  -- a closing,
  pub held-closed : {k j : ℕ} {st : Store} → Held s N k st → close (decode s) N k st ≡ closed j → Held s N j st
  held-closed {k} {st = st} h e = record {
    passed = h.passed;
    fit = subst (λ i. Fit (decode s) i st) (sym (close-only (decode s) N k st e).next) (fit_next h.fit (passed-layered h.passed b));
    used = h.used;
  }

  -- whole rounds,
  pub held-rounds : {k m j : ℕ} {st st₁ : Store} → Held s N k st → Rounds (decode s) N k st m j st₁ → Held s N j st₁
  held-rounds h r =
      let g = rounds-fit (passed-layered h.passed b) r h.fit h.used in
      record { passed = h.passed; fit = g.0; used = g.1 }

  -- a run as it is made of them,
  pub held-as : {k : ℕ} {st : Store} → Held s N k st → (budget : ℕ) → RunAs (decode s) N budget k st (run (decode s) N budget k st)
  held-as h budget = run-as (passed-layered h.passed b) N budget h.fit h.used

  -- and a run
  pub held-run : {k : ℕ} {st : Store} → Held s N k st → (budget : ℕ) →
      Held s N (run (decode s) N budget k st).layer (run (decode s) N budget k st).store
  held-run h budget =
      let g = run-fit (passed-layered h.passed b) N budget h.fit h.used in
      record { passed = h.passed; fit = g.0; used = g.1 }
