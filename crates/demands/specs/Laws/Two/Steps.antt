-- Demand 2 of loading, updates and closings: when they are refused, and that what they leave in hand is what document 01 says.
use Rattle.std.specs.Prelude.{◌≡◌, refl, cond, List, map, ℕ, ◌+◌, ◌-◌, ◌≤◌, ◌<◌, min, ltb, length, get_or, drop, replicate}
use Rattle.std.proofs.Common.{sym, subst, ◌∙◌, inl, inr, arith, length-set, drop_at, get_or-take, get_or-drop}
use Rattle.std.proofs.Math.Path.{ap}
use Rattle.std.proofs.Math.Decide.{dec_lt}
use Rattle.std.proofs.lemmas.List.{length-map}
use Rattle.meaning.specs.Meaning.{Program}
use Rattle.meaning.proofs.Laws.Tests.{length-upto}
use Rattle.format.specs.File.{decode}
use Rattle.format.specs.Laws.Decoded.{decode-atoms}
use Rattle.store.specs.Store.{pack, Sound}
use Rattle.update.specs.Update.{Store, diagram_at, after_update}
use Rattle.update.specs.Laws.Held as nodes
use Rattle.rounds.specs.Layers.{first_layer}
use Rattle.rounds.specs.Load.{loaded_store}
use Rattle.rounds.specs.Laws.Made.{fit-held, load-sound}
use Rattle.rounds.specs.Laws.Each.{made-room, made_other}
use Rattle.state.specs.Hand.{Lent, Hand, room, store, zeros}
use Rattle.calls.specs.Calls.{load_host, update_host, close_host}
use Rattle.demands.specs.Demands.{Tidy, Loaded, Updated, closed_hand}
use Rattle.demands.specs.Reached.{back}
use Rattle.demands.specs.Laws.Holding.{holding, Filled, InHand, holding-filled, holding-store, in-hand}
use Rattle.demands.specs.Laws.Ways.{load-ways, Updating, update-ways, close-ways}

-- memory that holds a store is tidy
holding-tidy : {F : ℕ} {h : Hand} {k : ℕ} {st : Store} → Filled h k st → Sound F st.nodes → length st.nodes ≤ room h →
    Tidy h.lent (holding h k st)
holding-tidy {h = h} {k} {st} f sound used = record {
  count = ap (λ x. length x.nodes) (sym (holding-store f sound used));
  unused =
      ap (drop (length st.nodes)) f.words ∙
      drop_at (map pack st.nodes) (replicate (room h - length st.nodes) 0) (length st.nodes) (length-map st.nodes pack) ∙
      ap (λ n. replicate (min n 4096 - length st.nodes) 0) (sym f.nodes_long);
  nodes_beyond = f.nodes_beyond;
  places_beyond = f.places_beyond;
  nodes_long = f.nodes_long;
  places_long = f.places_long;
}

-- ---- loading

loaded-sound : (P : Program) → Sound (length P.facts) (loaded_store P).nodes
unfolding loaded_store
loaded-sound P = load-sound (length P.facts)

loaded-long : (P : Program) → length (loaded_store P).places ≡ 544
unfolding loaded_store
loaded-long P = length-upto 544 (λ a. cond (ltb a (length P.facts)) (a + 2) 0)

pub ours-load : (s : List ℕ) (l : Lent) → (load_host s l).answer.refusal ≡ 0 → Loaded (decode s) l (back (load_host s l))
ours-load s l e = elim (load-ways s l) [
  | inl r ↦ absurd (r.some_number (sym (ap (λ u. u.answer.refusal) r.is) ∙ e))
  | inr g ↦
      let h : Hand = record { lent = l; state = zeros } in
      let P : Program = decode s in
      let f : Filled h (first_layer P) (loaded_store P) = holding-filled g.long g.used (loaded-long P) in
      subst (λ u. Loaded P l (back u)) (sym g.is) (record {
        holds_it = holding-store f (loaded-sound P) g.used;
        layer = refl;
        tidy = holding-tidy f (loaded-sound P) g.used;
      })
]

-- ---- an update

module _ {s : List ℕ} {h : Hand} (m : InHand s h) (a : ℕ) (u : Updating s h a) where
  abbrev st₁ : Store
  st₁ = after_update (decode s) (store h) a

  abbrev held : nodes.Held (length (decode s).facts) (store h)
  held = fit-held m.held.fit

  small : a < length (store h).places
  small =
      omega (arith, u.known, decode-atoms s, m.held.passed.facts, m.held.passed.derived, m.held.fit.long)

  used : length st₁.nodes ≤ room h
  used = made-room (decode s) (room h) (store h) a u.step held

  filled : Filled h h.state.layer st₁
  unfolding after_update
  filled = holding-filled m.long used (length-set (store h).places a _ ∙ m.held.fit.long)

  sound : Sound (length (decode s).facts) st₁.nodes
  sound = nodes.after-sound held (decode s) a

  holds_it : store (holding h h.state.layer st₁) ≡ st₁
  holds_it = holding-store filled sound used

  -- the places within 544 are the store's, and those beyond are as they were
  others : (b : ℕ) → (b ≡ a → ⊥) → get_or (holding h h.state.layer st₁).lent.places b 0 ≡ get_or h.lent.places b 0
  others b n = elim (dec_lt b 544) [
    | yes lt ↦
        sym (get_or-take 544 (holding h h.state.layer st₁).lent.places b 0 lt) ∙ ap (λ l. get_or l b 0) filled.places_are ∙
        made_other (decode s) (room h) (store h) a u.step b n ∙ get_or-take 544 h.lent.places b 0 lt
    | no g ↦
        let e : 544 + (b - 544) ≡ b = omega arith in
        subst (λ x. get_or (holding h h.state.layer st₁).lent.places x 0 ≡ get_or h.lent.places x 0) e
        (sym (get_or-drop 544 (holding h h.state.layer st₁).lent.places (b - 544) 0) ∙
        ap (λ l. get_or l (b - 544) 0) filled.places_beyond ∙ get_or-drop 544 h.lent.places (b - 544) 0)
  ]

  updated : Updated (decode s) h a (holding h h.state.layer st₁)
  unfolding after_update
  updated = record {
    gets = ap (λ st. diagram_at st a) holds_it ∙ nodes.after_same held (decode s) a small;
    others = others;
    numbered = ap (λ st. st.nodes) holds_it;
    layer = refl;
    tidy = holding-tidy filled sound used;
  }

pub ours-update : (s : List ℕ) (h : Hand) (a : ℕ) → (update_host s h a).answer.refusal ≡ 0 →
    Updated (decode s) h a (back (update_host s h a))
ours-update s h a e = elim (update-ways s h a) [
  | inl r ↦ absurd (r.some_number (sym (ap (λ u. u.answer.refusal) r.is) ∙ e))
  | inr u ↦ subst (λ x. Updated (decode s) h a (back x)) (sym u.is) (updated (in-hand u.fits) a u)
]

-- ---- a closing

pub ours-close : (s : List ℕ) (h : Hand) → (close_host s h).answer.refusal ≡ 0 → back (close_host s h) ≡ closed_hand s h
ours-close s h e = elim (close-ways s h) [
  | inl r ↦ absurd (r.some_number (sym (ap (λ u. u.answer.refusal) r.is) ∙ e))
  | inr g ↦ ap back g.is
]
