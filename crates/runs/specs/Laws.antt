-- From call to call: what loading, a run, an update and a closing leave is ready for the next call.
-- Each is a law of the engine on `Fits`; the program, and so its layers, is the same.
use Rattle.std.specs.Prelude.{◌≡◌, List, ℕ, Result, Ok, Err}
use Rattle.format.specs.Bytes.{Bytes}
use Rattle.store.specs.declared.Full.{Full}
use Rattle.state.specs.Answers.{AtomAsked, LoadAsked, LoadDone, UpdateDone, CloseDone, RunDone}
use Rattle.state.specs.Laws.Fits.{passed-layered, fits-loaded, fits-updated, fits-full, fits-words, fits-closed, fits-ran}
use Rattle.state.specs.declared.State.{State}
use Rattle.state.specs.declared.Unclosed.{Unclosed}
use Rattle.state.specs.declared.Ran as declared-ran
use Rattle.runs.specs.Ready.{Ready}
use Rattle.runs.specs.declared.Session.{Session}

-- a session with these words, places and state
abbrev with : Session → List ℕ → List ℕ → State → Session
with x nodes places state =
    record x { nodes = record x.nodes { now = nodes }; places = record x.places { now = places }; state = state }

-- its file
abbrev file : Session → List ℕ
file x = x.program.file.now

-- after loading, since a file that has passed its check is layered
pub ready-loaded : (x : Session) {nodes nodes₁ places places₁ : List ℕ} {state : State} {r : Result State Full} →
    LoadAsked (file x) nodes places → Bytes (file x) → LoadDone (file x) nodes nodes₁ places places₁ r → r ≡ Ok state →
    Ready (with x nodes₁ places₁ state)
ready-loaded x q b d e =
    let w = passed-layered q.passed b in
    record { fits = fits-loaded q (rw e at d) w; layered = w }

module _ {x : Session} (q : Ready x) where
  -- after a run
  pub ready-ran : {nodes₁ places₁ : List ℕ} {budget : ℕ} {r : declared-ran.Ran} →
      RunDone (file x) x.nodes.now nodes₁ x.places.now places₁ x.state budget r → Ready (with x nodes₁ places₁ r.state)
  ready-ran d = record { fits = fits-ran q.layered q.fits d; layered = q.layered }

  -- after an update that is done,
  pub ready-updated : {nodes₁ places₁ : List ℕ} {state₁ : State} {atom : ℕ} {r : Result State Full} → AtomAsked (file x) atom →
      UpdateDone (file x) x.nodes.now nodes₁ x.places.now places₁ x.state atom r → r ≡ Ok state₁ → Ready (with x nodes₁ places₁ state₁)
  ready-updated a d e = record { fits = fits-updated q.fits a (rw e at d); layered = q.layered }

  -- and after one that is full
  pub ready-full : {nodes₁ places₁ : List ℕ} (atom : ℕ) {r : Result State Full} →
      UpdateDone (file x) x.nodes.now nodes₁ x.places.now places₁ x.state atom r → r ≡ Err (record {}) →
      Ready (with x nodes₁ places₁ x.state)
  ready-full atom d e = record { fits = fits-full atom q.fits (rw e at d); layered = q.layered }

  -- after a closing that is done,
  pub ready-closed : {nodes₁ : List ℕ} {state₁ : State} {r : Result State Unclosed} →
      CloseDone (file x) x.nodes.now nodes₁ x.places.now x.state r → r ≡ Ok state₁ → Ready (with x nodes₁ x.places.now state₁)
  ready-closed d e = record { fits = fits-closed q.layered q.fits (rw e at d); layered = q.layered }

  -- and after one that is not
  pub ready-kept : {nodes₁ : List ℕ} {r : Result State Unclosed} → CloseDone (file x) x.nodes.now nodes₁ x.places.now x.state r →
      Ready (with x nodes₁ x.places.now x.state)
  ready-kept d = record { fits = fits-words q.fits d.words; layered = q.layered }
