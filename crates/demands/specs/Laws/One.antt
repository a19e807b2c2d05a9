-- Demand 1 of the exported calls: each goes by its table of refusals, a refusal leaves what was lent, and an answer is what is in hand's.
use Rattle.std.specs.Prelude.{Ok, Err, ◌≡◌, refl, cond, List, [], ◌++◌, ℕ, eqb, length, drop}
use Rattle.std.proofs.Common.{sym, ap, subst, ◌∙◌, inl, inr, arith, eq-eqb, ne_eqb}
use Rattle.format.specs.Bytes.{Bytes}
use Rattle.format.specs.Refusals.{Verdict, verdict}
use Rattle.format.specs.Laws.Accepted.{accepted-counts}
use Rattle.format.specs.Laws.Numbers.{number-range}
use Rattle.format.specs.Laws.Decoded.{decode-facts, decode-layers}
use Rattle.format.specs.File.{decode}
use Rattle.rounds.specs.Run.{run}
use Rattle.state.specs.Hand.{Hand, room, store}
use Rattle.questions.specs.Questions.{weight_so_far, listed}
use Rattle.calls.specs.Refusals.{
  Table,
  first_of,
  file_refusal,
  file_detail,
  answering,
  later,
  update_tests,
  close_tests,
  weight_tests,
  given_tests,
  listing_tests,
  load_tests,
}
use Rattle.calls.specs.Calls.{
  Stepped,
  Ranned,
  Weighing,
  Sharing,
  Listing,
  Layering,
  LayersAnswer,
  step_refused,
  run_done,
  counts,
  cleared,
  evidence_weight,
  both_weight,
  read_host,
  run_host,
  weight_host,
  given_host,
  listing_host,
  ours,
}
use Rattle.demands.specs.Demands.{Refuses, Reads, Steps, Runs, Weighs, Shares, Lists, Answers}
use Rattle.demands.specs.Laws.Tables.{Numbered, Went, stopped, passed, went}
use Rattle.demands.specs.Laws.Ways.{
  some,
  load-numbered,
  later-numbered,
  update-numbered,
  close-numbered,
}

-- a table's refusal, and none
refuses-so : {ts : Table} {n d : ℕ} → first_of ts ≡ (n, d) → Refuses ts n d
refuses-so f = record { number = sym (ap (λ x. x.0) f); detail_is = sym (ap (λ x. x.1) f) }

-- ---- reading

pub ours-read : (s : List ℕ) → Reads s (read_host s)
ours-read s = go (verdict s) refl
  where
    go : (v : Verdict) → verdict s ≡ v → Reads s (counts v)
    go (Ok a) e = record {
      refusal = ap file_refusal (sym e);
      detail_is = ap file_detail (sym e);
      counted = λ z.
          let (facts, layers, rules, weight) = accepted-counts s e in
          (facts ∙ sym (decode-facts s), layers ∙ sym (decode-layers s), weight);
      refused = λ n. absurd (n refl);
    }
    go (Err w) e = record {
      refusal = ap file_refusal (sym e);
      detail_is = ap file_detail (sym e);
      counted = λ z. absurd (omega (arith, number-range w));
      refused = λ n. (refl, refl, refl);
    }

-- ---- loading, update, close

steps : (ts : Table) → Numbered ts → (h : Hand) (u : Stepped) → u.answer.refusal ≡ 0 → u.answer.detail ≡ 0 →
    Steps ts h (answering ts (step_refused h) u)
steps ts some h u z y = go (went (step_refused h) u ts some)
  where
    go : Went ts (step_refused h) u → Steps ts h (answering ts (step_refused h) u)
    go (stopped n d nz f is) = subst (Steps ts h) (sym is) (record { refuses = refuses-so f; kept = λ _. refl })
    go (passed all f is) =
        subst (Steps ts h) (sym is)
        (record { refuses = subst (Refuses ts _) (sym y) (subst (λ n. Refuses ts n 0) (sym z) (refuses-so f)); kept = λ n. absurd (n z) })

-- ---- run and the questions, by what their definitions refuse and answer

module _ (s : List ℕ) (h : Hand) where
  abbrev refuse_run : ℕ → ℕ → Ranned
  refuse_run n d = record { answer = record { refusal = n; detail = d; state = h.state; outcome = 0; updates = 0 }; lent = h.lent }

  pub ours-run : (budget : ℕ) → Runs (later s h []) h (run_host s h budget)
  ours-run budget = go (went refuse_run ran (later s h []) (later-numbered s h [] tt))
    where
      ran : Ranned
      ran = run_done h.lent (run (decode s) (room h) budget h.state.layer (store h))

      go : Went (later s h []) refuse_run ran → Runs (later s h []) h (run_host s h budget)
      go (stopped n d nz f is) =
          subst (Runs (later s h []) h) (sym is) (record { refuses = refuses-so f; kept = λ _. (refl, refl, refl) })
      go (passed all f is) = subst (Runs (later s h []) h) (sym is) (record { refuses = refuses-so f; kept = λ n. absurd (n refl) })

  module _ (a : ℕ) (numbers : List ℕ) where
    abbrev weight_table : Table
    weight_table = later s h (weight_tests s h a numbers)

    abbrev weight_refused : ℕ → ℕ → Weighing
    weight_refused n d = record { answer = record { refusal = n; detail = d; weight = 0 }; lent = h.lent; numbers = numbers }

    abbrev weighed : Weighing
    weighed = record {
      answer = record { refusal = 0; detail = 0; weight = weight_so_far (decode s) (store h) a };
      lent = h.lent;
      numbers = cleared h numbers;
    }

    pub ours-weight : Weighs s h a numbers (weight_host s h a numbers)
    ours-weight = go (went weight_refused weighed weight_table (some (omega arith), (some (omega arith), (some (omega arith), tt))))
      where
        go : Went weight_table weight_refused weighed → Weighs s h a numbers (weight_host s h a numbers)
        go (stopped n d nz f is) =
            subst (Weighs s h a numbers) (sym is)
            (record { refuses = refuses-so f; answered = λ z. absurd (nz z); kept = λ _. (refl, refl); store_kept = refl })
        go (passed all f is) =
            subst (Weighs s h a numbers) (sym is)
            (record { refuses = refuses-so f; answered = λ _. (refl, refl); kept = λ n. absurd (n refl); store_kept = refl })

  module _ (a : ℕ) (evidence numbers : List ℕ) where
    abbrev given_table : Table
    given_table = later s h (given_tests s h a evidence numbers (evidence_weight s h evidence))

    abbrev given_refused : ℕ → ℕ → Sharing
    given_refused n d = record {
      answer = record { refusal = n; detail = d; both = 0; evidence = 0 };
      lent = h.lent;
      numbers = cond (eqb n 20) (cleared h numbers) numbers;
    }

    abbrev shared : Sharing
    shared = record {
      answer = record { refusal = 0; detail = 0; both = both_weight s h a evidence; evidence = evidence_weight s h evidence };
      lent = h.lent;
      numbers = cleared h numbers;
    }

    pub ours-given : Shares s h a evidence numbers (given_host s h a evidence numbers)
    ours-given = go (went given_refused shared given_table (
      some (omega arith),
      (
        some (omega arith),
        (
          some (omega arith),
          (
            some (omega arith),
            (some (omega arith), (some (omega arith), (some (omega arith), tt))),
          ),
        ),
      ),
    ))
      where
        go : Went given_table given_refused shared → Shares s h a evidence numbers (given_host s h a evidence numbers)
        go (stopped n d nz f is) = subst (Shares s h a evidence numbers) (sym is) (record {
          refuses = refuses-so f;
          answered = λ z. absurd (nz z);
          numbers_cleared = λ z. elim z [ inl q ↦ absurd (nz q) | inr q ↦ rw (eq-eqb n 20 q) refl ];
          numbers_kept = λ _ q. rw (ne_eqb n 20 q) refl;
          refused = λ _. (refl, refl);
          store_kept = refl;
        })
        go (passed all f is) = subst (Shares s h a evidence numbers) (sym is) (record {
          refuses = refuses-so f;
          answered = λ _. (refl, refl);
          numbers_cleared = λ _. refl;
          numbers_kept = λ n _. absurd (n refl);
          refused = λ n. absurd (n refl);
          store_kept = refl;
        })

  module _ (a : ℕ) (out : List ℕ) where
    abbrev bytes : List ℕ
    bytes = listed (decode s) (store h) a

    abbrev listing_table : Table
    listing_table = later s h (listing_tests s h a out bytes)

    abbrev listing_refused : ℕ → ℕ → Listing
    listing_refused n d = record { answer = record { refusal = n; detail = d; length = 0 }; lent = h.lent; out = out }

    abbrev listed_it : Listing
    listed_it = record {
      answer = record { refusal = 0; detail = 0; length = length bytes };
      lent = h.lent;
      out = bytes ++ drop (length bytes) out;
    }

    pub ours-listing : Lists s h a out (listing_host s h a out)
    ours-listing =
        go (went listing_refused listed_it listing_table
        (some (omega arith), (some (omega arith), (some (omega arith), (some (omega arith), tt)))))
      where
        go : Went listing_table listing_refused listed_it → Lists s h a out (listing_host s h a out)
        go (stopped n d nz f is) =
            subst (Lists s h a out) (sym is)
            (record { refuses = refuses-so f; answered = λ z. absurd (nz z); kept = λ _. (refl, refl); store_kept = refl })
        go (passed all f is) =
            subst (Lists s h a out) (sym is)
            (record { refuses = refuses-so f; answered = λ _. (refl, refl); kept = λ n. absurd (n refl); store_kept = refl })

-- ---- all calls

pub ours-answers : (layers : List ℕ → List ℕ → Layering) → ((s out : List ℕ) → Bytes s → LayersAnswer s out (layers s out)) →
    Answers (ours layers)
ours-answers layers told = record {
  read = ours-read;
  load = λ s l. steps (load_tests s l) (load-numbered s l) _ _ refl refl;
  update = λ s h a. steps (later s h (update_tests s h a)) (later-numbered s h (update_tests s h a) (update-numbered s h a)) h _ refl refl;
  close = λ s h. steps (later s h (close_tests s h)) (later-numbered s h (close_tests s h) (close-numbered s h)) h _ refl refl;
  run = ours-run;
  weight = ours-weight;
  given = ours-given;
  listing = ours-listing;
  layers = told;
}
