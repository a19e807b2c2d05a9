-- `reader::rule` meets its contract: a reader that is at the end stays there (Laws/Places).
use Rattle.std.proofs.Common.{◌≡◌, ◌-◌, add-one, arith, rules, None}
use Rattle.format.specs.Walk.{step_at}
use Rattle.reader.specs.Read.{place_of}
use Rattle.reader.proofs.Laws.Places.{stays}
use Rattle.reader.proofs.rule.Goals as goal

pub loop-init : goal.loop-init
unfolding place_of
loop-init c = search rules

pub returns-in_err-next : goal.returns-in_err-next
returns-in_err-next c =
    let s = c.args.file.now in
    let i = c.loop.counter in
    let e = c.in_err-next.ensures in
    let last : step_at s (place_of s i) ≡ None = cc in
    let here = stays s i last (c.args.j - i) c.args.j (omega arith) in
    cc

pub loop-preserved : goal.loop-preserved
unfolding place_of
loop-preserved c =
    let h = c.in_ok-next.ensures in
    rw add-one (search rules)
