-- `runs::Session::run` meets its contract: what a run leaves is ready for the next call. Assumes nothing.
use Rattle.state.specs.Laws.Fits.{fits-ran}
use Rattle.runs.proofs.Session.run.Goals as goal

pub returns-clause-ready : goal.returns-clause-ready
returns-clause-ready c = record {
  fits = rw c.told-self.ensures (fits-ran c.requires.layered c.requires.fits c.run-ran.ensures);
  layered = c.requires.layered;
}
