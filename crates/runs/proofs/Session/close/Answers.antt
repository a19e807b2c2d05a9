-- `runs::Session::close` meets its contract: what a closing leaves, done or not, is ready for the next call. Assumes nothing.
use Rattle.state.specs.Laws.Fits.{fits-closed}
use Rattle.runs.proofs.Session.close.Goals as goal

pub returns-in-Ok-clause-ready : goal.returns-in-Ok-clause-ready
returns-in-Ok-clause-ready c =
    let done = rw c.in-Ok.is at c.close.ensures in
    record { fits = rw c.told-self.ensures (fits-closed c.requires.layered c.requires.fits done); layered = c.requires.layered }
