-- The ways that loading, an update, a closing and a run can go: each is refused, or answers with the store after it. The tables of refusals
-- are tied here to what update, close and run make of a store.
use Rattle.std.proofs.Math.Path.{◌≡◌, refl}
use Rattle.std.proofs.Common.{sym, ap, ◌∙◌, inl, inr, arith}
use Rattle.std.specs.Prelude.{Ok, Err, ◌⊎◌, Bool, not, ℕ, ◌≤◌, ◌<◌}
use Rattle.std.proofs.Math.Bool.{true, false, cond}
use mathlib.Core.List.{List, [], ◌∷◌}
use Rattle.std.proofs.Math.Dec.{ltb}
use Rattle.std.proofs.Math.ListN.{length}
use borrow.Author.Tests.{not-false, lt-leb, leb-false, ltb-false, eq-eqb, ne_eqb, eqb-true, eqb-false}
use Rattle.meaning.specs.Meaning.{Program, atoms, layer_of}
use Rattle.meaning.proofs.Laws.Tests.{length-upto}
use Rattle.format.specs.File.{decode}
use Rattle.format.specs.Refusals.{Verdict, verdict, passes}
use Rattle.format.specs.Passed.{Passed}
use Rattle.format.specs.Laws.Accepted.{passed as accepted-passed}
use Rattle.format.specs.Laws.Numbers.{number-range}
use Rattle.update.specs.Update.{Updated, done, full, update_builds, is_full, after_update, update}
use Rattle.rounds.specs.Layers.{finished_layer, next_layer, atoms_of, first_layer}
use Rattle.rounds.specs.Load.{fact_node, loaded_store, load_builds, loaded, load_full, load}
use Rattle.rounds.specs.Close.{Closing, closed, unsettled, check_full, close}
use Rattle.rounds.specs.Run.{run}
use Rattle.rounds.specs.Laws.Load.{load_full_lem}
use Rattle.rounds.specs.Laws.Close.{close-only}
use Rattle.state.specs.Hand.{Lent, Hand, room_in, room, store, zeros}
use Rattle.fitting.specs.Fit.{fit_together}
use Rattle.calls.specs.Refusals.{Table, file_refusal, load_tests, later, update_tests, check_tests, close_tests}
use Rattle.calls.specs.Calls.{Stepped, Ranned, step_refused, step_done, load_host, update_host, close_host, run_done, run_host}
use Rattle.calls.specs.Laws.Tables.{gives, answered, due, skip, last, fitting, told, check-told}
use Rattle.demands.specs.Laws.Tables.{Numbered, Went, stopped, passed, went}

-- ---- every row has a number

file-some : (v : Verdict) → not (passes v) ≡ true → file_refusal v ≡ 0 → ⊥
file-some (Err w) e z = omega (arith, number-range w)
file-some (Ok a) e z = cc

-- rows with other numbers than 0
pub some : {n : ℕ} → 0 < n → {b : Bool} → b ≡ true → n ≡ 0 → ⊥
some lt e z = omega arith

pub load-numbered : (s : List ℕ) (l : Lent) → Numbered (load_tests s l)
load-numbered s l = (file-some (verdict s), (some (omega arith), (some (omega arith), tt)))

module _ (s : List ℕ) (h : Hand) where
  pub later-numbered : (ts : Table) → Numbered ts → Numbered (later s h ts)
  later-numbered ts q = (some (omega arith), q)

  pub update-numbered : (a : ℕ) → Numbered (update_tests s h a)
  update-numbered a = (some (omega arith), (some (omega arith), (some (omega arith), tt)))

  check-numbered : (l : List ℕ) → Numbered (check_tests s h l)
  unfolding check_tests
  check-numbered [] = tt
  check-numbered (a ∷ l) = (some (omega arith), (some (omega arith), check-numbered l))

  pub close-numbered : Numbered (close_tests s h)
  close-numbered = (some (omega arith), check-numbered (atoms_of (decode s) h.state.layer))

-- ---- an answer

-- the answer is a refusal
pub record Refusing (h : Hand) (u : Stepped) : Type 0 where
  pub number : ℕ
  pub detail : ℕ
  pub is : u ≡ step_refused h number detail
  pub some_number : number ≡ 0 → ⊥

-- ---- loading

-- the file has passed, and loading is done
pub record Loading (s : List ℕ) (l : Lent) : Type 0 where
  pub passed_it : Passed s
  pub long : 544 ≤ length l.places
  pub used : length (loaded_store (decode s)).nodes ≤ room_in l.nodes
  pub step : load (decode s) (room_in l.nodes) ≡ loaded (loaded_store (decode s)) (first_layer (decode s))
  pub is : load_host s l ≡ step_done l (loaded_store (decode s)) (first_layer (decode s))

-- a file that passes has passed
passes-passed : (s : List ℕ) (v : Verdict) → verdict s ≡ v → not (passes v) ≡ false → Passed s
passes-passed s (Ok a) e q = accepted-passed s e
passes-passed s (Err w) e q = cc

module _ (s : List ℕ) (l : Lent) where
  abbrev unloaded : Hand
  unloaded = record { lent = l; state = zeros }

  abbrev load_done : Stepped
  load_done = step_done l (loaded_store (decode s)) (first_layer (decode s))

  -- loading is not full where the facts have room
  load_step : is_full (decode s) (room_in l.nodes) (record { nodes = []; places = [] }) (load_builds (decode s)) ≡ false →
      load (decode s) (room_in l.nodes) ≡ loaded (loaded_store (decode s)) (first_layer (decode s))
  unfolding load
  load_step e = rw e refl

  load-room : load (decode s) (room_in l.nodes) ≡ loaded (loaded_store (decode s)) (first_layer (decode s)) →
      length (loaded_store (decode s)).nodes ≤ room_in l.nodes
  unfolding loaded_store
  load-room e = go (ltb (room_in l.nodes) (length (decode s).facts)) refl (sym (load_full_lem (decode s) (room_in l.nodes)) ∙ e)
    where
      go : (b : Bool) → ltb (room_in l.nodes) (length (decode s).facts) ≡ b →
          cond b load_full (loaded (loaded_store (decode s)) (first_layer (decode s))) ≡
          loaded (loaded_store (decode s)) (first_layer (decode s)) →
          length (loaded_store (decode s)).nodes ≤ room_in l.nodes
      go true q i = let z : ◌≡◌ {A = ℕ} 0 1 = cc in absurd (omega arith)
      go false q i = omega (arith, ltb-false, length-upto (length (decode s).facts) fact_node)

  -- loading is refused, or done
  pub load-ways : Refusing unloaded (load_host s l) ⊎ Loading s l
  load-ways = go (went (step_refused unloaded) load_done (load_tests s l) (load-numbered s l))
    where
      go : Went (load_tests s l) (step_refused unloaded) load_done → Refusing unloaded (load_host s l) ⊎ Loading s l
      go (stopped n d z f a) = inl (record { number = n; detail = d; is = a; some_number = z })
      go (passed all f a) =
          let e = load_step all.1.1.0 in
          inr (record {
            passed_it = passes-passed s (verdict s) refl all.0;
            long = ltb-false _ _ all.1.0;
            used = load-room e;
            step = e;
            is = a;
          })

-- ---- an update

module _ (s : List ℕ) (h : Hand) where
  abbrev P : Program
  P = decode s

  abbrev k : ℕ
  k = h.state.layer

  abbrev N : ℕ
  N = room h

  -- what update answers, as the call says it
  abbrev pub updated : Updated → Stepped
  updated (done st) = step_done h.lent st k
  updated full = step_refused h 12 0

  module _ (a : ℕ) where
    abbrev no_room : Bool
    no_room = is_full P N (store h) (update_builds P (store h) a)

    -- an update is full, or done
    update-is : update P N (store h) a ≡ cond no_room full (done (after_update P (store h) a))
    unfolding update
    update-is = refl

    update-step : no_room ≡ false → update P N (store h) a ≡ done (after_update P (store h) a)
    update-step e = rw (update-is, e) refl

    -- the atom is of the layer in work, and its update is done
    pub record Updating : Type 0 where
      pub fits : fit_together s h ≡ true
      pub known : a < atoms P
      pub layer_is : layer_of P a ≡ k
      pub step : update P N (store h) a ≡ done (after_update P (store h) a)
      pub is : update_host s h a ≡ step_done h.lent (after_update P (store h) a) k

    -- it is refused, or done
    pub update-ways : Refusing h (update_host s h a) ⊎ Updating
    update-ways =
        go (went (step_refused h) (step_done h.lent (after_update P (store h) a) k) (later s h (update_tests s h a))
        (later-numbered s h (update_tests s h a) (update-numbered s h a)))
      where
        go : Went (later s h (update_tests s h a)) (step_refused h) (step_done h.lent (after_update P (store h) a) k) →
            Refusing h (update_host s h a) ⊎ Updating
        go (stopped n d z f u) = inl (record { number = n; detail = d; is = u; some_number = z })
        go (passed all f u) = inr (record {
          fits = not-false _ all.0;
          known = leb-false _ _ all.1.0;
          layer_is = eqb-true _ _ (not-false _ all.1.1.0);
          step = update-step all.1.1.1.0;
          is = u;
        })

    -- the update of an atom of the layer in work, where all fits together
    pub update_here : fit_together s h ≡ true → a < atoms P → layer_of P a ≡ k → {u : Updated} → update P N (store h) a ≡ u →
        update_host s h a ≡ updated u
    update_here f m e r =
        sym (gives (fitting f (skip (lt-leb (atoms P) a m) (skip (ap not (eq-eqb (layer_of P a) k e))
        (last updated no_room refl refl (ap updated (sym r ∙ update-is)))))))

  -- ---- a closing

  -- the answer with this layer in work, and what the check of the layer answers, as the call says it
  abbrev pub going : ℕ → Stepped
  going j = record {
    answer = record { refusal = 0; detail = 0; state = record { layer = j; nodes = h.state.nodes } };
    lent = h.lent;
  }

  abbrev pub shut : Closing → Stepped
  shut = told (step_refused h) going

  -- the closing of a layer in work, where all fits together
  pub close-here : fit_together s h ≡ true → (k ≡ finished_layer → ⊥) → {c : Closing} → close P N k (store h) ≡ c → close_host s h ≡ shut c
  close-here f n e =
      sym (gives (fitting f (skip (ne_eqb k finished_layer n) (check-told (step_refused h) going s h k (atoms_of P k) (ap shut (sym e))))))

  -- the layer is closed
  pub record Shutting : Type 0 where
    pub fits : fit_together s h ≡ true
    pub at_work : k ≡ finished_layer → ⊥
    pub step : close P N k (store h) ≡ closed (next_layer P k)
    pub is : close_host s h ≡ going (next_layer P k)

  -- it is refused, or done
  pub close-ways : Refusing h (close_host s h) ⊎ Shutting
  close-ways =
      go (went (step_refused h) (going (next_layer P k)) (later s h (close_tests s h))
      (later-numbered s h (close_tests s h) (close-numbered s h)))
    where
      told : fit_together s h ≡ true → (k ≡ finished_layer → ⊥) → close_host s h ≡ going (next_layer P k) → (c : Closing) →
          close P N k (store h) ≡ c →
          Shutting
      told f n u (closed j) e =
          record { fits = f; at_work = n; step = e ∙ ap closed (close-only P N k (store h) e).next; is = u }
      told f n u (unsettled a) e =
          let z : ◌≡◌ {A = ℕ} 15 0 = ap (λ x. x.answer.refusal) (sym (close-here f n e) ∙ u) in absurd (omega arith)
      told f n u check_full e =
          let z : ◌≡◌ {A = ℕ} 12 0 = ap (λ x. x.answer.refusal) (sym (close-here f n e) ∙ u) in absurd (omega arith)

      go : Went (later s h (close_tests s h)) (step_refused h) (going (next_layer P k)) → Refusing h (close_host s h) ⊎ Shutting
      go (stopped n d z f u) = inl (record { number = n; detail = d; is = u; some_number = z })
      go (passed all f u) =
          inr (told (not-false _ all.0) (eqb-false _ _ all.1.0) u (close P N k (store h)) refl)

  -- ---- a run

  abbrev refuse_run : ℕ → ℕ → Ranned
  refuse_run n d = record { answer = record { refusal = n; detail = d; state = h.state; outcome = 0; updates = 0 }; lent = h.lent }

  module _ (budget : ℕ) where
    abbrev done-run : Ranned
    done-run = run_done h.lent (run P N budget k (store h))

    -- where all fits together the run answers,
    pub run-answer : fit_together s h ≡ true → run_host s h budget ≡ done-run
    run-answer f = sym (gives (fitting f (answered refl)))

    -- and what is not refused fits together
    pub run_fits : (run_host s h budget).answer.refusal ≡ 0 → fit_together s h ≡ true
    run_fits = go (fit_together s h) refl
      where
        go : (b : Bool) → fit_together s h ≡ b → (run_host s h budget).answer.refusal ≡ 0 → fit_together s h ≡ true
        go true e z = e
        go false e z =
            let x : ◌≡◌ {A = ℕ} 36 0 = ap (λ u. u.answer.refusal) (gives {refuse = refuse_run} {answer = done-run} (due (ap not e) refl))
            ∙ z in
            absurd (omega arith)
