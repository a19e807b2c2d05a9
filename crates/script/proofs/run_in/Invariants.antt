-- `script::run_in` meets its contract. The loop's invariant: what stands between two instructions (Laws/Run).
use Rattle.script.specs.Laws.Run.{Standing}
use Rattle.script.proofs.run_in.Given as goal

abbrev pub invariant-loop-made : goal.invariant-loop-made
invariant-loop-made l = Standing l.fn.b l.script l.fn.results l.b l.results l.made
