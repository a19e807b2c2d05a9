-- Calls that look like ours and are not: the stand-ins of document 01 ("How far the contracts must reach") and more. Each is a set of
-- calls, ours but for what the stand-in does instead; Laws/StandIns refutes them.
use Rattle.std.specs.Prelude.{true, false, cond, List, [], ◌∷◌, ◌++◌, ℕ, zero, suc, eqb, length, drop, set}
use Rattle.format.specs.File.{decode}
use Rattle.rounds.specs.Layers.{finished_layer, atoms_of}
use Rattle.state.specs.Hand.{Hand, zeros}
use Rattle.calls.specs.Calls.{
  Calls,
  Stepped,
  Ranned,
  Weighing,
  Sharing,
  Listing,
  Layering,
  step_refused,
  read_host,
  load_host,
  update_host,
  close_host,
  run_host,
  weight_host,
  given_host,
  listing_host,
}
use Rattle.demands.specs.Reached.{back}
use Rattle.demands.specs.Demands.{closed_hand}

-- "One refusing everything": every call answers refusal n and leaves what was lent
abbrev pub refusing : ℕ → Calls
refusing n = record {
  read = λ s. record { refusal = n; detail = 0; facts = 0; derived = 0; total = 0 };
  load = λ s l. step_refused (record { lent = l; state = zeros }) n 0;
  update = λ s h a. step_refused h n 0;
  close = λ s h. step_refused h n 0;
  run = λ s h budget. record {
    answer = record { refusal = n; detail = 0; state = h.state; outcome = 0; updates = 0 };
    lent = h.lent;
  };
  weight = λ s h a numbers. record { answer = record { refusal = n; detail = 0; weight = 0 }; lent = h.lent; numbers = numbers };
  given = λ s h a evidence numbers. record {
    answer = record { refusal = n; detail = 0; both = 0; evidence = 0 };
    lent = h.lent;
    numbers = numbers;
  };
  listing = λ s h a out. record { answer = record { refusal = n; detail = 0; length = 0 }; lent = h.lent; out = out };
  layers = λ s out. record { answer = record { refusal = n; detail = 0; length = 0 }; out = out };
}

module _ (layers : List ℕ → List ℕ → Layering) where
  -- ours with another update and closing, another run,
  abbrev stepping : (List ℕ → Hand → ℕ → Stepped) → (List ℕ → Hand → Stepped) → (List ℕ → Hand → ℕ → Ranned) → Calls
  stepping u c r = record {
    read = read_host;
    load = load_host;
    update = u;
    close = c;
    run = r;
    weight = weight_host;
    given = given_host;
    listing = listing_host;
    layers = layers;
  }

  -- or with another weight, another weight given evidence, another listing
  abbrev asking : (List ℕ → Hand → ℕ → List ℕ → Weighing) → (List ℕ → Hand → ℕ → List ℕ → List ℕ → Sharing) →
      (List ℕ → Hand → ℕ → List ℕ → Listing) → Calls
  asking w g l = record {
    read = read_host;
    load = load_host;
    update = update_host;
    close = close_host;
    run = run_host;
    weight = w;
    given = g;
    listing = l;
    layers = layers;
  }

  -- updates that always answer 12
  abbrev pub stuck : Calls
  stuck = stepping (λ s h a. step_refused h 12 0) close_host run_host

  -- "One giving a fixed weight": where ours answers, this weight
  abbrev pub fixed_weight : ℕ → Calls
  fixed_weight w = asking (λ s h a numbers. put (weight_host s h a numbers)) given_host listing_host
    where
      put : Weighing → Weighing
      put u = record {
        answer = record { refusal = u.answer.refusal; detail = u.answer.detail; weight = cond (eqb u.answer.refusal 0) w 0 };
        lent = u.lent;
        numbers = u.numbers;
      }

  -- a fixed pair given evidence
  abbrev pub fixed_share : ℕ → ℕ → Calls
  fixed_share b e = asking weight_host (λ s h a evidence numbers. put (given_host s h a evidence numbers)) listing_host
    where
      put : Sharing → Sharing
      put u = record {
        answer = record {
          refusal = u.answer.refusal;
          detail = u.answer.detail;
          both = cond (eqb u.answer.refusal 0) b 0;
          evidence = cond (eqb u.answer.refusal 0) e 0;
        };
        lent = u.lent;
        numbers = u.numbers;
      }

  -- ".. or listing": where ours answers, these bytes
  abbrev pub fixed_listing : List ℕ → Calls
  fixed_listing bytes = asking weight_host given_host (λ s h a out. put out (listing_host s h a out))
    where
      put : List ℕ → Listing → Listing
      put out u = elim (eqb u.answer.refusal 0) [
        | true ↦ record {
          answer = record { refusal = 0; detail = 0; length = length bytes };
          lent = u.lent;
          out = bytes ++ drop (length bytes) out;
        }
        | false ↦ u
      ]

  -- a weight of 0 until the finish: never above, and exact there
  abbrev pub quiet : Calls
  quiet = asking (λ s h a numbers. hush h (weight_host s h a numbers)) given_host listing_host
    where
      hush : Hand → Weighing → Weighing
      hush h u = record {
        answer = record {
          refusal = u.answer.refusal;
          detail = u.answer.detail;
          weight = cond (eqb h.state.layer finished_layer) u.answer.weight 0;
        };
        lent = u.lent;
        numbers = u.numbers;
      }

  -- a question with evidence that leaves a node behind, in the first unused entry
  abbrev pub littering : Calls
  littering = asking weight_host (λ s h a evidence numbers. leave h (given_host s h a evidence numbers)) listing_host
    where
      leave : Hand → Sharing → Sharing
      leave h u = record {
        answer = u.answer;
        lent = elim (eqb u.answer.refusal 0) [
          | true ↦ record { nodes = set h.lent.nodes h.state.nodes 1; places = h.lent.places }
          | false ↦ u.lent
        ];
        numbers = u.numbers;
      }

  -- "An update that does nothing, with a close that agrees": refusals are ours but for 15; no update changes anything, and every
  -- closing goes on
  abbrev pub idle : Calls
  idle = stepping (λ s h a. stay h (update_host s h a)) (λ s h. shut s h (close_host s h)) run_host
    where
      stay : Hand → Stepped → Stepped
      stay h u = step_refused h u.answer.refusal u.answer.detail

      shut : List ℕ → Hand → Stepped → Stepped
      shut s h u = elim (eqb u.answer.refusal 15) [ false ↦ u | true ↦ step_refused (closed_hand s h) 0 0 ]

  -- "One that solves the layer in its first update and feigns the rest"
  abbrev pub hasty : Calls
  hasty = stepping (λ s h a. first s h (update_host s h a)) close_host run_host
    where
      -- updates of these atoms, and n rounds of them
      update_all : List ℕ → List ℕ → Hand → Hand
      update_all s [] h = h
      update_all s (a ∷ l) h = update_all s l (back (update_host s h a))

      solve : List ℕ → List ℕ → ℕ → Hand → Hand
      solve s l zero h = h
      solve s l (suc n) h = solve s l n (update_all s l h)

      first : List ℕ → Hand → Stepped → Stepped
      first s h u = elim (eqb u.answer.refusal 0) [
        | false ↦ u
        | true ↦
            let l : List ℕ = atoms_of (decode s) h.state.layer in
            step_refused (solve s l (suc (length l)) h) 0 0
      ]

  -- "An invented update count": where ours runs, a count of one's own, made of all that the call was given
  abbrev pub inventing : (List ℕ → Hand → ℕ → ℕ) → Calls
  inventing count = stepping update_host close_host (λ s h budget. put (count s h budget) (run_host s h budget))
    where
      put : ℕ → Ranned → Ranned
      put n u = record {
        answer = record {
          refusal = u.answer.refusal;
          detail = u.answer.detail;
          state = u.answer.state;
          outcome = u.answer.outcome;
          updates = cond (eqb u.answer.refusal 0) n 0;
        };
        lent = u.lent;
      }
