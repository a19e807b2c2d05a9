-- What each call of include/reach.h answers, and what the lent memory then holds: for any file, any memory and any numbers, by the tables
-- of refusals (Refusals.antt).
use Rattle.std.specs.Prelude.{Ok, Err, cond, List, ◌++◌, map, ℕ, ◌+◌, eqb, length, drop}
use Rattle.meaning.specs.Lists.{zeroed}
use Rattle.meaning.specs.Meaning.{weigh}
use Rattle.format.specs.File.{literal, decode}
use Rattle.format.specs.Refusals.{Verdict, verdict, number, detail}
use Rattle.diagram.specs.Diagram.{says}
use Rattle.layering.specs.Told.{LayersIs}
use Rattle.update.specs.Update.{Store, after_update}
use Rattle.rounds.specs.Layers.{first_layer, next_layer}
use Rattle.rounds.specs.Load.{loaded_store}
use Rattle.rounds.specs.Run.{How, Finished, Spent, Full, Ran as RunTo, run}
use Rattle.state.specs.Hand.{Lent, Hand, lending, room, store, holding, zeros}
use Rattle.questions.specs.Questions.{weight_so_far, asked, conjunction, listed}
use Rattle.calls.specs.Refusals.{
  answering,
  load_tests,
  later,
  update_tests,
  close_tests,
  run_tests,
  weight_tests,
  given_tests,
  listing_tests,
}
use Rattle.calls.specs.declared.Counts.{Counts}
use Rattle.calls.specs.declared.Step.{Step}
use Rattle.calls.specs.declared.Ran.{Ran}
use Rattle.calls.specs.declared.Weighed.{Weighed}
use Rattle.calls.specs.declared.Shared.{Shared}
use Rattle.calls.specs.declared.Listed.{Listed}

-- ---- reading

-- a verdict in C's numbers: F, D and the total, or the refusal's number and detail and 0 for every other number
abbrev pub counts : Verdict → Counts
counts (Ok a) = record { refusal = 0; detail = 0; facts = a.facts; derived = a.derived; total = a.total }
counts (Err w) = record { refusal = number w; detail = detail w; facts = 0; derived = 0; total = 0 }

-- reach_read: "refusals 1 to 11 as at loading"
abbrev pub read_host : List ℕ → Counts
read_host s = counts (verdict s)

-- ---- loading, update, close

-- an answer, and what is lent after the call
pub record Stepped : Type 0 where
  pub answer : Step
  pub lent : Lent

-- C's answer beside the lent arrays at exit
abbrev pub stepped : Step → List ℕ → List ℕ → Stepped
stepped r nodes places = record { answer = r; lent = lending nodes places }

-- "Each returns its number and a detail .. and leaves all lent memory as it was"; the state comes back as it was too
abbrev pub step_refused : Hand → ℕ → ℕ → Stepped
step_refused h n d = record { answer = record { refusal = n; detail = d; state = h.state }; lent = h.lent }

-- the lent memory holds this store, with this layer in work
abbrev pub step_done : Lent → Store → ℕ → Stepped
step_done l st k = record {
  answer = record { refusal = 0; detail = 0; state = record { layer = k; nodes = length st.nodes } };
  lent = holding l st;
}

-- reach_load: "Loading builds the F fact nodes"; a refused loading gives a state of zeros
abbrev pub load_host : List ℕ → Lent → Stepped
load_host s l =
    answering (load_tests s l) (step_refused (record { lent = l; state = zeros }))
    (step_done l (loaded_store (decode s)) (first_layer (decode s)))

-- reach_update: "The atom then gets that sum; no other atom changes."
abbrev pub update_host : List ℕ → Hand → ℕ → Stepped
update_host s h a =
    answering (later s h (update_tests s h a)) (step_refused h) (step_done h.lent (after_update (decode s) (store h) a) h.state.layer)

-- reach_close: "the next layer that has atoms is in work, or the run is finished"; nodes and places stay
abbrev pub close_host : List ℕ → Hand → Stepped
close_host s h = answering (later s h (close_tests s h)) (step_refused h) (record {
  answer = record {
    refusal = 0;
    detail = 0;
    state = record { layer = next_layer (decode s) h.state.layer; nodes = h.state.nodes };
  };
  lent = h.lent;
})

-- ---- run

pub record Ranned : Type 0 where
  pub answer : Ran
  pub lent : Lent

abbrev pub ran : Ran → List ℕ → List ℕ → Ranned
ran r nodes places = record { answer = r; lent = lending nodes places }

-- "0 refused; 1 finished, 2 spent, 3 full" (include/reach.h)
abbrev pub outcome : How → ℕ
outcome Finished = 1
outcome Spent = 2
outcome Full = 3

-- a run's state is that after exactly its updates
abbrev pub run_done : Lent → RunTo → Ranned
run_done l g = record {
  answer = record {
    refusal = 0;
    detail = 0;
    state = record { layer = g.layer; nodes = length g.store.nodes };
    outcome = outcome g.how;
    updates = g.updates;
  };
  lent = holding l g.store;
}

-- reach_run
abbrev pub run_host : List ℕ → Hand → ℕ → Ranned
run_host s h budget =
    answering (later s h (run_tests s h))
    (λ n d. record { answer = record { refusal = n; detail = d; state = h.state; outcome = 0; updates = 0 }; lent = h.lent })
    (run_done h.lent (run (decode s) (room h) budget h.state.layer (store h)))

-- ---- questions

pub record Weighing : Type 0 where
  pub answer : Weighed
  pub lent : Lent
  pub numbers : List ℕ

abbrev pub weighing : Weighed → List ℕ → List ℕ → List ℕ → Weighing
weighing r nodes places numbers = record { answer = r; lent = lending nodes places; numbers = numbers }

-- the working numbers "are 0 after an answer or refusal 20; numbers beyond keep their values"
abbrev pub cleared : Hand → List ℕ → List ℕ
cleared h numbers = zeroed numbers 0 (room h + 2)

-- reach_weight: "Weight so far of any atom comes from its present diagram."
abbrev pub weight_host : List ℕ → Hand → ℕ → List ℕ → Weighing
weight_host s h a numbers =
    answering (later s h (weight_tests s h a numbers))
    (λ n d. record { answer = record { refusal = n; detail = d; weight = 0 }; lent = h.lent; numbers = numbers })
    (record {
      answer = record { refusal = 0; detail = 0; weight = weight_so_far (decode s) (store h) a };
      lent = h.lent;
      numbers = cleared h numbers;
    })

pub record Sharing : Type 0 where
  pub answer : Shared
  pub lent : Lent
  pub numbers : List ℕ

abbrev pub sharing : Shared → List ℕ → List ℕ → List ℕ → Sharing
sharing r nodes places numbers = record { answer = r; lent = lending nodes places; numbers = numbers }

-- the weights of the evidence's conjunction, and of that with the query
abbrev pub evidence_weight : List ℕ → Hand → List ℕ → ℕ
evidence_weight s h evidence = weigh (decode s).facts (says (conjunction (store h) (map literal evidence)))

abbrev pub both_weight : List ℕ → Hand → ℕ → List ℕ → ℕ
both_weight s h a evidence = weigh (decode s).facts (says (conjunction (store h) (asked (map literal evidence) a)))

-- reach_given, which "takes those nodes back"; 20 "leaves the working numbers 0"
abbrev pub given_host : List ℕ → Hand → ℕ → List ℕ → List ℕ → Sharing
given_host s h a evidence numbers =
    answering (later s h (given_tests s h a evidence numbers (evidence_weight s h evidence)))
    (λ n d. record {
      answer = record { refusal = n; detail = d; both = 0; evidence = 0 };
      lent = h.lent;
      numbers = cond (eqb n 20) (cleared h numbers) numbers;
    })
    (record {
      answer = record { refusal = 0; detail = 0; both = both_weight s h a evidence; evidence = evidence_weight s h evidence };
      lent = h.lent;
      numbers = cleared h numbers;
    })

pub record Listing : Type 0 where
  pub answer : Listed
  pub lent : Lent
  pub out : List ℕ

abbrev pub listing : Listed → List ℕ → List ℕ → List ℕ → Listing
listing r nodes places out = record { answer = r; lent = lending nodes places; out = out }

-- reach_listing: the bytes of the present diagram; "Bytes beyond are kept."
abbrev pub listing_host : List ℕ → Hand → ℕ → List ℕ → Listing
listing_host s h a out =
    let bytes : List ℕ = listed (decode s) (store h) a in
    answering (later s h (listing_tests s h a out bytes))
    (λ n d. record { answer = record { refusal = n; detail = d; length = 0 }; lent = h.lent; out = out })
    (record {
      answer = record { refusal = 0; detail = 0; length = length bytes };
      lent = h.lent;
      out = bytes ++ drop (length bytes) out;
    })

-- ---- layers (document 02, L4)

pub record Layering : Type 0 where
  pub answer : Listed
  pub out : List ℕ

abbrev pub layering : Listed → List ℕ → Layering
layering r out = record { answer = r; out = out }

-- what reach_layers may answer: all but the chain is fixed, of which "any such chain will do" (crate layering)
abbrev pub LayersAnswer : List ℕ → List ℕ → Layering → Type 0
LayersAnswer s out u =
    LayersIs s out u.out (record { refusal = u.answer.refusal; detail = u.answer.detail; length = u.answer.length })

-- ---- all calls

pub record Calls : Type 0 where
  pub read : List ℕ → Counts
  pub load : List ℕ → Lent → Stepped
  pub update : List ℕ → Hand → ℕ → Stepped
  pub close : List ℕ → Hand → Stepped
  pub run : List ℕ → Hand → ℕ → Ranned
  pub weight : List ℕ → Hand → ℕ → List ℕ → Weighing
  pub given : List ℕ → Hand → ℕ → List ℕ → List ℕ → Sharing
  pub listing : List ℕ → Hand → ℕ → List ℕ → Listing
  pub layers : List ℕ → List ℕ → Layering

-- what the exported functions do, whatever chain reach_layers writes: `layers` is what it does
abbrev pub ours : (List ℕ → List ℕ → Layering) → Calls
ours layers = record {
  read = read_host;
  load = load_host;
  update = update_host;
  close = close_host;
  run = run_host;
  weight = weight_host;
  given = given_host;
  listing = listing_host;
  layers = layers;
}
