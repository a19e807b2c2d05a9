-- What `sum` asks of the two facts' nodes, and of a file that is accepted, which has passed its check.
use Rattle.std.proofs.Common.{sym, ◌∙◌}
use Rattle.format.specs.Laws.Accepted.{passed, passed-formed}
use Rattle.building.proofs.tests.Facts.{live-facts}
use Rattle.building.proofs.tests.summed.Goals as goal

pub of-program-requires : goal.of-program-requires
of-program-requires c = (passed _ (sym c.check.ensures ∙ c.in-Ok.is)).long

pub of-rules-requires : goal.of-rules-requires
of-rules-requires c = rw c.of-program.ensures (passed-formed (passed _ (sym c.check.ensures ∙ c.in-Ok.is)))

pub sum-requires : goal.sum-requires
sum-requires c = record {
  ruled = record {
    passed = rw c.of-program.ensures (passed _ (sym c.check.ensures ∙ c.in-Ok.is));
    index = c.of-rules.ensures;
    all = c.of-program.result.counted.rules_are;
  };
  live = live-facts c.told-words c.requires.sound;
  placed = c.place.ensures;
  small = c.requires.small;
}
