-- What the calls gave back is a store that loading, updates, closings and runs reach (rounds' Reached), and it fits together with the file.
use Rattle.std.specs.Prelude.{◌≡◌, true, List, ◌++◌, map, ℕ, ◌-◌, ◌≤◌, length, take, drop, replicate}
use Rattle.std.proofs.Common.{sym, ap, subst, ◌∙◌, inl, inr, arith, length-take, take-append-drop, take-take}
use Rattle.meaning.specs.Meaning.{atoms}
use Rattle.format.specs.Bytes.{Bytes}
use Rattle.format.specs.File.{decode}
use Rattle.format.specs.Passed.{Passed}
use Rattle.format.specs.Laws.Decoded.{decode-atoms}
use Rattle.store.specs.Store.{pack}
use Rattle.store.specs.Laws.Nodes.{pack-unpack-all}
use Rattle.update.specs.Update.{Store}
use Rattle.update.specs.Words.{words_of}
use Rattle.rounds.specs.Layers.{next_layer}
use Rattle.rounds.specs.Reached as stores
use Rattle.rounds.specs.Laws.Made.{fit-held}
use Rattle.rounds.specs.Laws.Each.{made-room}
use Rattle.rounds.specs.Laws.Reached.{reached-standing}
use Rattle.state.specs.Hand.{Lent, Hand, room_in, room, store, words_in, places_in, zeros}
use Rattle.state.specs.Laws.Fits.{passed-layered}
use Rattle.fitting.specs.Fit.{fit_together}
use Rattle.calls.specs.Calls.{Layering, Stepped, load_host, update_host, close_host, run_host, ours}
use Rattle.demands.specs.Reached.{
  back,
  back_from,
  still,
  Moved,
  Reached,
  by_load,
  by_refused_load,
  by_update,
  by_close,
  by_run,
  by_weight,
  by_given,
  by_listing,
  by_moving,
}
use Rattle.demands.specs.Laws.Holding.{holding, InHand, in-hand, holding-holds, closed-holding}
use Rattle.demands.specs.Laws.Keeping.{held-run}
use Rattle.demands.specs.Laws.One.{ours-weight, ours-given, ours-listing}
use Rattle.demands.specs.Laws.Ways.{Refusing, load-ways, update-ways, close-ways, run-answer}

pub record Stood (s : List ℕ) (h : Hand) : Type 0 where
  pub fits_together : fit_together s h ≡ true
  pub reached : stores.Reached (decode s) h.state.layer (store h)

-- ---- memory that holds a reached store

module _ {s : List ℕ} (b : Bytes s) where
  stood-holding : (h : Hand) {k : ℕ} {st : Store} → Passed s → 544 ≤ length h.lent.places → length st.nodes ≤ room h →
      stores.Reached (decode s) k st → Stood s (holding h k st)
  stood-holding h {k} {st} p long used r =
      let few : atoms (decode s) ≤ 544 = omega (arith, decode-atoms s, p.facts, p.derived) in
      let fit = (reached-standing (passed-layered p b) few r).fit in
      let g = holding-holds {s = s} {h = h} long (record { passed = p; fit = fit; used = used }) in
      record { fits_together = g.fits; reached = subst (stores.Reached (decode s) k) (sym g.store_is) r }

  -- a refusal leaves all as it was
  stood-refused : {h : Hand} {u : Stepped} → Stood s h → Refusing h u → Stood s (back u)
  stood-refused t r = subst (λ u. Stood s (back u)) (sym r.is) t

  -- ---- the calls

  stood-load : (l : Lent) → (load_host s l).answer.refusal ≡ 0 → Stood s (back (load_host s l))
  stood-load l e = elim (load-ways s l) [
    | inl r ↦ absurd (r.some_number (sym (ap (λ u. u.answer.refusal) r.is) ∙ e))
    | inr g ↦
        subst (λ u. Stood s (back u)) (sym g.is)
        (stood-holding (record { lent = l; state = zeros }) g.passed_it g.long g.used (stores.by_loading (room_in l.nodes) g.step))
  ]

  stood-refused-load : {h : Hand} → Stood s h → (other : List ℕ) → ((load_host other h.lent).answer.refusal ≡ 0 → ⊥) →
      Stood s (still h (load_host other h.lent).lent)
  stood-refused-load {h} t other n = elim (load-ways other h.lent) [
    | inl r ↦ subst (λ u. Stood s (still h u.lent)) (sym r.is) t
    | inr g ↦ absurd (n (ap (λ u. u.answer.refusal) g.is))
  ]

  module _ {h : Hand} (t : Stood s h) where
    mine : InHand s h
    mine = in-hand t.fits_together

    stood-update : (a : ℕ) → Stood s (back (update_host s h a))
    stood-update a = elim (update-ways s h a) [
      | inl r ↦ stood-refused t r
      | inr g ↦
          subst (λ u. Stood s (back u)) (sym g.is)
          (stood-holding h mine.held.passed mine.long
          (made-room (decode s) (room h) (store h) a g.step (fit-held mine.held.fit))
          (stores.by_update t.reached (room h) a mine.held.used g.layer_is g.step))
    ]

    stood-close : Stood s (back (close_host s h))
    stood-close = elim (close-ways s h) [
      | inl r ↦ stood-refused t r
      | inr g ↦
          subst (Stood s) (sym (ap back g.is ∙ closed-holding mine (next_layer (decode s) h.state.layer)))
          (stood-holding h mine.held.passed mine.long mine.held.used
          (stores.by_closing t.reached g.at_work (room h) mine.held.used g.step))
    ]

    stood-run : (budget : ℕ) → Stood s (back_from (run_host s h budget))
    stood-run budget =
        subst (λ u. Stood s (back_from u)) (sym (run-answer s h budget t.fits_together))
        (stood-holding h mine.held.passed mine.long (held-run b mine.held budget).used
        (stores.by_run t.reached (room h) budget mine.held.used))

    -- a question leaves the store as it was
    stood-still : {l : Lent} → l ≡ h.lent → Stood s (still h l)
    stood-still e = subst (λ l. Stood s (still h l)) (sym e) t

    -- other memory with the same store holds it
    moved-is : {h₁ : Hand} → Moved h h₁ → h₁ ≡ holding h₁ h.state.layer (store h)
    moved-is {h₁} m =
        let n : ℕ = h.state.nodes in
        let ws : List ℕ = words_in h₁.lent.nodes in
        let size : n ≡ length (store h).nodes = ap (λ x. x.state.nodes) mine.is in
        let near : n ≤ 4096 = omega (arith, mine.held.used) in
        let front : take n ws ≡ map pack (store h).nodes =
        take-take n 4096 h₁.lent.nodes near ∙ m.used ∙ sym (take-take n 4096 h.lent.nodes near) ∙
        sym (pack-unpack-all (take n (words_in h.lent.nodes))) in
        let unused : drop n ws ≡ replicate (room h₁ - length (store h).nodes) 0 = m.unused ∙ ap (λ x. replicate (room h₁ - x) 0) size in
        let words : ws ≡ words_of (room h₁) (store h) = sym (take-append-drop n ws) ∙ (λ i. front i ++ unused i) in
        let nodes : h₁.lent.nodes ≡ words_of (room h₁) (store h) ++ drop 4096 h₁.lent.nodes =
        sym (take-append-drop 4096 h₁.lent.nodes) ∙ ap (λ l. l ++ drop 4096 h₁.lent.nodes) words in
        let places : h₁.lent.places ≡ places_in h.lent.places ++ drop 544 h₁.lent.places =
        sym (take-append-drop 544 h₁.lent.places) ∙ ap (λ l. l ++ drop 544 h₁.lent.places) m.places in
        let count : h₁.state.nodes ≡ length (store h).nodes = ap (λ x. x.nodes) m.state ∙ size in
        λ i. record {
          lent = record { nodes = nodes i; places = places i };
          state = record { layer = (m.state i).layer; nodes = count i };
        }

    stood-moved : {h₁ : Hand} → Moved h h₁ → Stood s h₁
    stood-moved {h₁} m =
        let size : h.state.nodes ≡ length (store h).nodes = ap (λ x. x.state.nodes) mine.is in
        let long : 544 ≤ length h₁.lent.places =
        omega (arith, ap length m.places, length-take 544 h.lent.places, length-take 544 h₁.lent.places, mine.long) in
        subst (Stood s) (sym (moved-is m))
        (stood-holding h₁ mine.held.passed long (omega (arith, m.fits_in)) t.reached)

module _ {layers : List ℕ → List ℕ → Layering} {s : List ℕ} (b : Bytes s) where
  pub reached-stood : {h : Hand} → Reached (ours layers) s h → Stood s h
  reached-stood (by_load l e) = stood-load b l e
  reached-stood (by_refused_load r other n) = stood-refused-load b (reached-stood r) other n
  reached-stood (by_update r a) = stood-update b (reached-stood r) a
  reached-stood (by_close r) = stood-close b (reached-stood r)
  reached-stood (by_run r budget) = stood-run b (reached-stood r) budget
  reached-stood (by_weight {h = h} r a numbers) = stood-still b (reached-stood r) (ours-weight s h a numbers).store_kept
  reached-stood (by_given {h = h} r a evidence numbers) =
      stood-still b (reached-stood r) (ours-given s h a evidence numbers).store_kept
  reached-stood (by_listing {h = h} r a out) = stood-still b (reached-stood r) (ours-listing s h a out).store_kept
  reached-stood (by_moving r m) = stood-moved b (reached-stood r) m
