-- `runs::run_in` meets its contract: after each call the session is ready for the next. Assumes nothing.
use Rattle.runs.specs.Ready.{Ready}
use Rattle.runs.proofs.run_in.Given as goal

abbrev pub invariant-loop-call : goal.invariant-loop-call
invariant-loop-call l = Ready l.session
