-- `layers_text::rule_lines` meets its contract: the lines of the chain's first rules are written. Assumes nothing.
use Rattle.text.specs.Laws.Lines.{Listed}
use Rattle.layers_text.specs.LayersText.{chain_in}
use Rattle.layers_text.specs.Laws.Lines.{rule_of}
use Rattle.layers_text.proofs.rule_lines.Given as goal

abbrev pub invariant-loop-i : goal.invariant-loop-i
invariant-loop-i l = Listed l.initial.writer l.writer l.i 6 (rule_of (chain_in l.chain))
