-- What the questions stand on: over what the calls gave back there is no refusal 36, the program is layered and has at most 544 atoms, and
-- the store in hand is a reached one.
use Rattle.std.specs.Prelude.{◌≡◌, true, List, ℕ, ◌≤◌}
use Rattle.std.proofs.Common.{subst, arith}
use Rattle.meaning.specs.Meaning.{Layered, atoms}
use Rattle.format.specs.Bytes.{Bytes}
use Rattle.format.specs.File.{decode}
use Rattle.format.specs.Passed.{Passed}
use Rattle.format.specs.Laws.Decoded.{decode-atoms}
use Rattle.rounds.specs.Layers.{finished_layer}
use Rattle.rounds.specs.Reached as stores
use Rattle.state.specs.Hand.{Hand, store}
use Rattle.state.specs.Laws.Fits.{passed-layered}
use Rattle.fitting.specs.Fit.{fit_together}
use Rattle.fitting.specs.Laws.Fit.{fits-inner}
use Rattle.calls.specs.Calls.{Layering, ours}
use Rattle.demands.specs.Reached.{Reached}
use Rattle.demands.specs.Laws.Reached.{Stood, reached-stood}

pub record Ground (s : List ℕ) (h : Hand) : Type 0 where
  pub fit : fit_together s h ≡ true
  pub layered : Layered (decode s)
  pub few : atoms (decode s) ≤ 544
  pub reached : stores.Reached (decode s) h.state.layer (store h)

pub ground : {layers : List ℕ → List ℕ → Layering} {s : List ℕ} → Bytes s → {h : Hand} → Reached (ours layers) s h → Ground s h
ground {s = s} bytes {h} r =
    let g : Stood s h = reached-stood bytes r in
    let p : Passed s = (fits-inner s h g.fits_together).passed in
    record {
      fit = g.fits_together;
      layered = passed-layered p bytes;
      few = omega (arith, decode-atoms s, p.facts, p.derived);
      reached = g.reached;
    }

-- a finished run's store
pub finished : {s : List ℕ} {h : Hand} → Ground s h → h.state.layer ≡ finished_layer → stores.Reached (decode s) finished_layer (store h)
finished {s} {h} g e = subst (λ k. stores.Reached (decode s) k (store h)) e g.reached
