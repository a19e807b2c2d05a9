-- `script::run` meets its contract: its builder has no node, all its words are zeros, and its tables are cleared.
use Rattle.std.proofs.Common.{rules, ◌≡◌, refl, arith, length, replicate}
use Rattle.std.proofs.lemmas.Grind.{common_steps}
use Rattle.combine.specs.Laws.Live.{live-none}
use Rattle.script.specs.Laws.Run.{ran-again}
use Rattle.script.proofs.run.Goals as goal

pub run_in-requires : goal.run_in-requires
run_in-requires c =
    let zeros : c.fill.new.self ≡ replicate (length c.args.nodes.now) 0 = grind (arith, common_steps) in
    let size : length c.fill.new.self ≡ length c.args.nodes.now = c.fill.ensures.len in
    record {
      live = live-none c.fill.new.self 4096 (omega (arith, c.requires.0)) (omega arith) (omega arith);
      none = refl;
      zeros = rw size zeros;
      few = c.requires.1;
    }

pub returns : goal.returns
returns c = ran-again c.fill.ensures.len (search rules) c.run_in.ensures.ran
