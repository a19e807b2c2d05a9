-- `format::tables::Tables::misruled` meets its contract: the rules before j, and the literals of rule j before i, have no fault.
use Rattle.std.proofs.Common.{ℕ, ◌<◌, Ok}
use Rattle.format.specs.Bytes.{u16}
use Rattle.format.specs.File.{literal_at, decode}
use Rattle.format.specs.Refusals.{literal_tests}
use Rattle.format.specs.Checked.{Answers}
use Rattle.format.specs.Laws.RulesRead.{Reached}
use Rattle.format.proofs.tables.Tables.misruled.Given as goal

abbrev pub invariant-loop-i : goal.invariant-loop-i
invariant-loop-i l =
    let s = l.self.program.file.now in
    (k : ℕ) → k < l.i → Answers (literal_tests l.layered (decode s) l.j (u16 s l.at) (literal_at s l.at k)) (Ok tt)

abbrev pub invariant-loop-j : goal.invariant-loop-j
invariant-loop-j l = Reached l.layered l.self.program.file.now l.j l.at
