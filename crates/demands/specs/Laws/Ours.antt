-- The exported calls meet the three demands, whatever chain reach_layers writes.
use Rattle.std.specs.Prelude.{List, ℕ}
use Rattle.format.specs.Bytes.{Bytes}
use Rattle.calls.specs.Calls.{Layering, LayersAnswer, ours}
use Rattle.demands.specs.Demands.{Answers, Demands}
use Rattle.demands.specs.Laws.Ground.{ground}
use Rattle.demands.specs.Laws.One.{ours-answers}
use Rattle.demands.specs.Laws.Two.Refused.{update_refused, close_refused, run_refused}
use Rattle.demands.specs.Laws.Two.Steps.{ours-load, ours-update, ours-close}
use Rattle.demands.specs.Laws.Two.Runs.{ours-run}
use Rattle.demands.specs.Laws.Two.Bound.{ours-bound}
use Rattle.demands.specs.Laws.Two.Enough.{ours-enough}
use Rattle.demands.specs.Laws.Two.Weights.{ours-weighed}
use Rattle.demands.specs.Laws.Two.Shares.{ours-shared}
use Rattle.demands.specs.Laws.Listings.{ours-canonical}

pub demands-ours : (layers : List ℕ → List ℕ → Layering) → ((s out : List ℕ) → Bytes s → LayersAnswer s out (layers s out)) →
    Demands (ours layers)
demands-ours layers told =
    let answers : Answers (ours layers) = ours-answers layers told in
    record {
      one = answers;
      two = record {
        load_refused = λ s l. (answers.load s l).refuses.number;
        update_refused = λ s b h r a. update_refused answers s b h r a;
        close_refused = λ s b h r. close_refused answers s b h r;
        run_refused = λ s b h r budget. run_refused answers s b h r budget;
        fits = λ s b h r. (ground b r).fit;
        load = ours-load;
        update = ours-update;
        close = ours-close;
        run = ours-run;
        bound = ours-bound;
        enough = ours-enough;
        weight = ours-weighed;
        given = ours-shared;
      };
      three = ours-canonical;
    }
