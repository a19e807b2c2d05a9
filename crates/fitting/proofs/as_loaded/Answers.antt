-- `as_loaded` meets its contract: the loop ends at a word or a place that is not as loaded, or past the last fact.
use Rattle.std.proofs.Common.{◌∙◌, sym}
use Rattle.fitting.specs.Laws.FitCode as laws
use Rattle.fitting.proofs.as_loaded.Goals as goal
use Rattle.fitting.proofs.as_loaded.Goals.{then-nodes-i-via-then-nodes-i, then-nodes-i-via-else-nodes-i+then-from-i}

pub loop-i-init : goal.loop-i-init
loop-i-init c = laws.loaded-none c.args.nodes.now c.args.places.now

pub returns-then-nodes-i : goal.returns-then-nodes-i
returns-then-nodes-i c =
    let nodes = c.args.nodes.now in
    let places = c.args.places.now in
    elim c.then-nodes-i.branch [
      | then-nodes-i-via-then-nodes-i w ↦
          laws.words-no-node nodes places c.args.facts c.requires.few c.loop-i.i c.loop-i-test.true
          (λ e. w.if-nodes-i.true (e ∙ sym c.pack.ensures))
      | then-nodes-i-via-else-nodes-i+then-from-i w ↦
          laws.words-no-place nodes places c.args.facts c.requires.few c.loop-i.i c.loop-i-test.true
          (λ e. w.if-from-i.true (w.from.ensures ∙ e))
    ]

pub loop-i-preserved : goal.loop-i-preserved
loop-i-preserved c =
    laws.loaded-more c.args.nodes.now c.args.places.now c.loop-i.invariant (c.if-nodes-i.false ∙ c.pack.ensures)
    (sym c.from.ensures ∙ c.if-from-i.false)

pub returns : goal.returns
returns c = laws.words-yes c.args.nodes.now c.args.places.now c.args.facts c.requires.few c.loop-i-test.false c.loop-i.invariant
