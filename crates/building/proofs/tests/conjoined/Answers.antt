-- What `conjoin_all` asks of the two facts' nodes and the literals.
use Rattle.building.proofs.tests.Facts.{live-facts}
use Rattle.building.proofs.tests.conjoined.Goals as goal

pub conjoin_all-requires : goal.conjoin_all-requires
conjoin_all-requires c = record {
  live = live-facts c.told-words c.requires.sound;
  placed = c.place.ensures;
  known = λ i h. c.requires.known i;
}
