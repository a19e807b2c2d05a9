-- `reader::rule` meets its contract: the reader reads this file, and has passed by as many rules as turns have gone by.
use Rattle.std.proofs.Common.{◌≡◌}
use Rattle.reader.specs.Read.{place_of}
use Rattle.reader.proofs.rule.Given as goal

abbrev pub invariant-loop : goal.invariant-loop
invariant-loop l = (l.reader.file.now ≡ l.file) × (l.reader.at ≡ place_of l.file l.counter)
