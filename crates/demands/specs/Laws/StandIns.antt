-- No stand-in meets the demands ("Try these stand-ins against demands 2 and 3 together"): those of document 01 fall to demands 2 and 3,
-- each on file S but for the invented count, which falls on every run where it is not ours; calls that are quiet until the finish fall to
-- demand 1.
use Rattle.std.proofs.Math.Path.{◌≡◌, refl, subst}
use Rattle.std.proofs.Common.{sym, ◌∙◌, eq-eqb}
use Rattle.std.specs.Prelude.{true, cond, eqb}
use Rattle.std.proofs.Math.Bool.{false, true≢false}
use mathlib.Core.List.{List, [], ◌∷◌, ◌++◌}
use Prim.Native.Nat.{ℕ}
use native.Mathlib.Omega.{arith}
use Rattle.std.proofs.Math.ListN.{replicate}
use Rattle.meaning.specs.Meaning.{total, layer_of, holds, weigh, weight_of, given}
use Rattle.format.specs.Bytes.{Bytes, u16, u32}
use Rattle.format.specs.File.{decode}
use Rattle.format.specs.Refusals.{verdict}
use Rattle.diagram.specs.Diagram.{eval, combine, negate}
use Rattle.diagram.specs.Listing.{listing}
use Rattle.store.specs.Store.{tree_of}
use Rattle.update.specs.Update.{is_full, body_builds, body_of, sum_builds, after_update}
use Rattle.rounds.specs.Layers.{lowest_above, atoms_from}
use Rattle.state.specs.Hand.{Lent, Hand}
use Rattle.fitting.specs.Fit.{fit_together}
use Rattle.calls.specs.Refusals.{first_of, answering, check_tests}
use Rattle.calls.specs.Calls.{Layering, Ranned, run_host, ours}
use Rattle.worked.specs.Files.{file_s}
use Rattle.demands.specs.Reached.{back, still, Reached, by_close, by_given, by_moving}
use Rattle.demands.specs.Demands.{Exact, Canonical, RunAs, Demands}
use Rattle.demands.specs.StandIns.{
  refusing,
  stuck,
  fixed_weight,
  fixed_share,
  fixed_listing,
  quiet,
  littering,
  idle,
  hasty,
  inventing,
}
use Rattle.demands.specs.Laws.Alike.{run-alike}
use Rattle.demands.specs.Laws.Fixed.{Sane, sane-answers, sane-exact, run-fixed}
use Rattle.demands.specs.Laws.Two.Runs.{ours-run}
use Rattle.demands.specs.Laws.FileS.{bytes-S, lent_s, loaded_s, finished_s, reached-loaded, reached-finished}

-- "One refusing everything": the loading of S passes every test, and if it is not refused, layer 1 is then in work
pub not-refusing : (n : ℕ) → Exact (refusing n) → Canonical (refusing n) → ⊥
unfolding first_of verdict decode u16 u32 total layer_of is_full eval lowest_above
not-refusing n e c =
    let z : n ≡ 0 = e.load_refused file_s lent_s in
    let q : ◌≡◌ {A = ℕ} 0 1 = (e.load file_s lent_s z).layer in
    omega arith

module _ (layers : List ℕ → List ℕ → Layering) where
  -- updates that always answer 12: the update of atom 2 in S is not refused
  pub not_stuck : Exact (stuck layers) → Canonical (stuck layers) → ⊥
  unfolding first_of decode u16 u32 total layer_of is_full sum_builds combine negate eval
  not_stuck e c =
      let q : ◌≡◌ {A = ℕ} 12 0 = e.update_refused file_s bytes-S loaded_s (reached-loaded refl) 2 in
      omega arith

  -- "One giving a fixed weight": at the finish atoms 2 and 3 weigh 5 and 2
  pub not-fixed-weight : (w : ℕ) → Exact (fixed_weight layers w) → Canonical (fixed_weight layers w) → ⊥
  unfolding answering fit_together decode u16 u32 total layer_of weight_of
  not-fixed-weight w e c =
      let r : Reached (fixed_weight layers w) file_s finished_s = reached-finished refl refl in
      let x : w ≡ 5 = (e.weight file_s bytes-S finished_s r 2 (replicate 8 0)).exact refl refl in
      let y : w ≡ 2 = (e.weight file_s bytes-S finished_s r 3 (replicate 8 0)).exact refl refl in
      omega arith

  -- ".. or listing": where fact 0 alone is on, atom 2 holds and atom 3 does not
  pub not-fixed-listing : (bytes : List ℕ) → Exact (fixed_listing layers bytes) → Canonical (fixed_listing layers bytes) → ⊥
  unfolding answering fit_together decode u16 u32 total layer_of listing tree_of holds
  not-fixed-listing bytes e c =
      let r : Reached (fixed_listing layers bytes) file_s finished_s = reached-finished refl refl in
      let out : List ℕ = replicate 18 0 in
      let same : _ = c.same file_s file_s bytes-S bytes-S finished_s finished_s r r refl 2 3 out out refl refl in
      true≢false (same.0 refl (true ∷ false ∷ []) refl)

  -- a fixed pair given evidence: at the finish atom 2 given not 3 has 3 of 18, and atom 3 has 0
  pub not-fixed-share : (x y : ℕ) → Exact (fixed_share layers x y) → Canonical (fixed_share layers x y) → ⊥
  unfolding answering fit_together decode u16 u32 total layer_of is_full body_builds body_of tree_of combine negate eval given
  not-fixed-share x y e c =
      let r : Reached (fixed_share layers x y) file_s finished_s = reached-finished refl refl in
      let p : x ≡ 3 = ((e.given file_s bytes-S finished_s r 2 (7 ∷ []) (replicate 8 0)).exact refl).0 in
      let q : x ≡ 0 = ((e.given file_s bytes-S finished_s r 3 (7 ∷ []) (replicate 8 0)).exact refl).0 in
      omega arith

  -- ---- "An update that does nothing, with a close that agrees"

  -- S loaded, with this layer in work
  abbrev untouched : ℕ → Hand
  untouched k = record { lent = loaded_s.lent; state = record { layer = k; nodes = 2 } }

  -- two closings finish the run,
  shut-1 : back ((idle layers).close file_s loaded_s) ≡ untouched 2
  unfolding answering check_tests fit_together decode u16 u32 total layer_of is_full sum_builds after_update atoms_from lowest_above
      combine negate eval
  shut-1 = refl

  shut-2 : back ((idle layers).close file_s (untouched 2)) ≡ untouched 65535
  unfolding answering check_tests fit_together decode u16 u32 total layer_of is_full sum_builds after_update atoms_from lowest_above
      combine negate eval
  shut-2 = refl

  -- and atom 2 weighs 0 and not 5
  pub not-idle : Exact (idle layers) → Canonical (idle layers) → ⊥
  unfolding answering fit_together decode u16 u32 total layer_of weight_of tree_of eval
  not-idle e c =
      let r : Reached (idle layers) file_s (untouched 2) = subst (Reached (idle layers) file_s) shut-1 (by_close (reached-loaded refl)) in
      let q : Reached (idle layers) file_s (untouched 65535) = subst (Reached (idle layers) file_s) shut-2 (by_close r) in
      let z : ◌≡◌ {A = ℕ} 0 5 = (e.weight file_s bytes-S (untouched 65535) q 2 (replicate 8 0)).exact refl refl in
      omega arith

  -- "One that solves the layer in its first update and feigns the rest": the update of atom 2 gives atom 3 node 4
  pub not-hasty : Exact (hasty layers) → Canonical (hasty layers) → ⊥
  unfolding answering fit_together decode u16 u32 total layer_of is_full sum_builds after_update atoms_from combine negate eval
  not-hasty e c =
      let z : ◌≡◌ {A = ℕ} 4 0 = (e.update file_s loaded_s 2 refl).others 3 (λ z. omega arith) in
      omega arith

  -- ---- a question that leaves a node behind

  -- S at the finish, in seven words
  abbrev roomy_s : Hand
  roomy_s = record {
    lent = record { nodes = finished_s.lent.nodes ++ (0 ∷ []); places = finished_s.lent.places };
    state = finished_s.state;
  }

  -- and with a word behind its six nodes, which does not fit together
  abbrev littered_s : Lent
  littered_s = record { nodes = finished_s.lent.nodes ++ (1 ∷ []); places = finished_s.lent.places }

  litters : ((littering layers).given file_s roomy_s 2 (7 ∷ []) (replicate 9 0)).lent ≡ littered_s
  unfolding answering fit_together decode u16 u32 total layer_of is_full body_builds body_of tree_of combine negate eval weigh
  litters = refl

  misfit : fit_together file_s (still roomy_s littered_s) ≡ false
  unfolding fit_together decode u16 u32 total layer_of
  misfit = refl

  pub not-littering : Exact (littering layers) → Canonical (littering layers) → ⊥
  not-littering e c =
      let r : Reached (littering layers) file_s roomy_s =
      by_moving {h₁ = roomy_s} (reached-finished refl refl)
      (record { state = refl; fits_in = omega arith; used = refl; unused = refl; places = refl }) in
      let q : Reached (littering layers) file_s (still roomy_s littered_s) =
      subst (λ l. Reached (littering layers) file_s (still roomy_s l)) litters (by_given r 2 (7 ∷ []) (replicate 9 0)) in
      true≢false (sym (e.fits file_s bytes-S (still roomy_s littered_s) q) ∙ misfit)

  -- ---- a weight of 0 until the finish

  -- fact 0 weighs 5 in S, from its loading on
  pub not-quiet : Demands (quiet layers) → ⊥
  unfolding answering fit_together decode u16 u32 total layer_of weigh tree_of eval
  not-quiet d =
      let z : ◌≡◌ {A = ℕ} 0 5 = ((d.one.weight file_s loaded_s 0 (replicate 8 0)).answered refl).0 in
      omega arith

  -- ---- "An invented update count"

  module _ (count : List ℕ → Hand → ℕ → ℕ) (s : List ℕ) (bytes : Bytes s) (h : Hand) (budget : ℕ)
      (ran : (run_host s h budget).answer.refusal ≡ 0) (other : count s h budget ≡ (run_host s h budget).answer.updates → ⊥) where
    -- "the count fixes the state": another count than ours, in a single run, is no count of a run
    not-counted : {From : Hand → Type 0} → Sane (inventing layers count) s From → From h →
        RunAs (inventing layers count) s budget h ((inventing layers count).run s h budget) → ⊥
    not-counted sane from r =
        let u : Ranned = run_host s h budget in
        let mine : RunAs (inventing layers count) s budget h u =
        run-alike {c = ours layers} {d = inventing layers count} (λ g a. refl) (λ g. refl) (ours-run s bytes h budget ran) in
        let same : cond (eqb u.answer.refusal 0) (count s h budget) 0 ≡ u.answer.updates = (run-fixed sane from r mine).0 in
        other (rw (eq-eqb u.answer.refusal 0 ran) at same)

    -- from any hand that is not refused it falls to demands 1 and 2,
    pub not-inventing-any : Demands (inventing layers count) → ⊥
    not-inventing-any d = not-counted (sane-answers d.one bytes) tt (d.two.run s bytes h budget ran)

    -- and from what the calls gave back to demand 2 alone
    pub not-inventing : Reached (inventing layers count) s h → Exact (inventing layers count) → Canonical (inventing layers count) → ⊥
    not-inventing from e c = not-counted (sane-exact e bytes) from (e.run s bytes h budget ran)
