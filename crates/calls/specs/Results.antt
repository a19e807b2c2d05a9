-- Results in C's structs: number and detail beside what was answered; in a refusal the state is the one that came, and all else is 0.
use Rattle.std.specs.Prelude.{ℕ, Result, Ok, Err}
use Rattle.std.specs.Result.{result_unwrap_or}
use Rattle.state.specs.declared.State.{State}
use Rattle.state.specs.declared.Ran as engine-ran
use Rattle.calls.specs.Numbers.{number_of, detail_of, number_in, detail_in}
use Rattle.calls.specs.Outcomes.{outcome_of}
use Rattle.calls.specs.declared.refusal.Refusal.{Refusal}
use Rattle.calls.specs.declared.Step.{Step}
use Rattle.calls.specs.declared.Ran.{Ran}
use Rattle.calls.specs.declared.Weighed.{Weighed}
use Rattle.calls.specs.declared.Shared.{Shared}
use Rattle.calls.specs.declared.Listed.{Listed}

-- reach_step
abbrev pub step_of : State → Result State Refusal → Step
step_of state r = record { refusal = number_in r; detail = detail_in r; state = result_unwrap_or r state }

-- reach_ran
abbrev pub run_answer : State → Result engine-ran.Ran Refusal → Ran
run_answer state (Ok g) = record { refusal = 0; detail = 0; state = g.state; outcome = outcome_of g.how; updates = g.updates }
run_answer state (Err w) = record { refusal = number_of w; detail = detail_of w; state = state; outcome = 0; updates = 0 }

-- reach_weighed
abbrev pub weighed_of : Result ℕ Refusal → Weighed
weighed_of r = record { refusal = number_in r; detail = detail_in r; weight = result_unwrap_or r 0 }

-- reach_shared
abbrev pub shared_of : Result (ℕ × ℕ) Refusal → Shared
shared_of (Ok p) = record { refusal = 0; detail = 0; both = p.0; evidence = p.1 }
shared_of (Err w) = record { refusal = number_of w; detail = detail_of w; both = 0; evidence = 0 }

-- reach_listed
abbrev pub listed_of : Result ℕ Refusal → Listed
listed_of r = record { refusal = number_in r; detail = detail_in r; length = result_unwrap_or r 0 }
