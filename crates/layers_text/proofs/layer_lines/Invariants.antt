-- `layers_text::layer_lines` meets its contract: the lines of the first atoms are written. Assumes nothing.
use Rattle.text.specs.Laws.Lines.{Listed}
use Rattle.layers_text.specs.Laws.Lines.{layer_of}
use Rattle.layers_text.proofs.layer_lines.Given as goal

abbrev pub invariant-loop-i : goal.invariant-loop-i
invariant-loop-i l = Listed l.initial.writer l.writer l.i 8 (layer_of l.facts l.layers)
