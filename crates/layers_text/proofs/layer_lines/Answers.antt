-- `layers_text::layer_lines` meets its contract: the lines of the first atoms are written. Assumes nothing.
use native.Mathlib.Omega.{arith}
use Rattle.text.specs.Laws.Lines.{listed-none}
use Rattle.layers_text.specs.Laws.Lines.{layer_of, layers-more}
use Rattle.layers_text.proofs.layer_lines.Goals as goal

pub loop-i-init : goal.loop-i-init
loop-i-init c =
    listed-none 8 (layer_of c.args.facts c.args.layers.now) (omega (arith, c.requires.room))

pub pair-requires : goal.pair-requires
pair-requires c = omega (arith, c.requires.room, c.requires.some)

pub loop-i-preserved : goal.loop-i-preserved
loop-i-preserved c =
    layers-more c.requires c.loop-i.invariant c.loop-i-test.true c.from.ensures
    (omega (arith, c.from.ensures, c.type_inv.layers c.loop-i.i)) c.pair.ensures
