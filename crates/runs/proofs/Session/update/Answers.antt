-- `runs::Session::update` meets its contract: what an update leaves is ready for the next call. Assumes nothing.
use native.Mathlib.Omega.{arith}
use Rattle.state.specs.Answers.{AtomAsked}
use Rattle.state.specs.Laws.Fits.{fits-updated}
use Rattle.runs.proofs.Session.update.Goals as goal

pub returns-in-Ok-clause-ready : goal.returns-in-Ok-clause-ready
returns-in-Ok-clause-ready c =
    let done = rw c.in-Ok.is at c.update.ensures in
    let atom : AtomAsked c.args.self.now.program.file.now c.args.atom = record { from = omega arith; below = omega arith } in
    record { fits = rw c.told-self.ensures (fits-updated c.requires.fits atom done); layered = c.requires.layered }
