-- Rounds of a layer in a standing store, read as rounds of growth: a layer of n atoms is settled after n rounds, and a round over settled
-- atoms changes no place (canonicity, `settled_same` of Close).
use Rattle.std.specs.Prelude.{◌≡◌, refl, ℕ, zero, suc, ◌≤◌, ◌<◌, length}
use Rattle.std.proofs.Math.Path.{sym, ap, fun_ext}
use Rattle.std.proofs.Common.{subst, ◌∙◌, arith, eqb-true}
use mathlib.Core.List.{List, [], ◌∷◌, Memᴰ}
use Rattle.std.proofs.lemmas.Bool.{not-false}
use Rattle.meaning.specs.Meaning.{Program, atoms, layer_of, Layered}
use Rattle.meaning.proofs.Laws.Settle.{times}
use Rattle.growth.specs.Growth.{Present, updated, updated_all, Settled}
use Rattle.growth.specs.Laws.Present.{StateOf, settled-still, settled_same as settled-alike}
use Rattle.growth.specs.Laws.Rounds.{OfLayer, rounds-settle}
use Rattle.update.specs.Update.{Store, done, update}
use Rattle.update.specs.Laws.Held.{present, after-present}
use Rattle.rounds.specs.Layers.{atoms_of}
use Rattle.rounds.specs.Stages.{update_each}
use Rattle.rounds.specs.Laws.Each.{made-back, each_first}
use Rattle.rounds.specs.Laws.Layers.{atoms-layer}
use Rattle.rounds.specs.Laws.Made.{made, fit-held}
use Rattle.rounds.specs.Laws.Close.{settled_same}
use Rattle.rounds.specs.Laws.Reached.{Standing, standing-above, standing-known, standing-update}

-- n rounds and one more are one round and n more
times-shift : {A : Type 0} (G : A → A) (x : A) (n : ℕ) → times G x (suc n) ≡ times G (G x) n
unfolding times
times-shift G x zero = refl
times-shift G x (suc n) = ap G (times-shift G x n)

-- r more rounds leave every atom of the layer settled
pub record Settles (P : Program) (k : ℕ) (p : Present) (r : ℕ) : Type 0 where
  pub settled : (a : ℕ) → Memᴰ a (atoms_of P k) → Settled P (times (updated_all P (atoms_of P k)) p r) a

module _ {P : Program} (w : Layered P) where
  settles-all : {k : ℕ} {p : Present} → 0 < k → StateOf P k p → Settles P k p (length (atoms_of P k))
  settles-all {k = zero} h s = absurd (omega arith)
  settles-all {k = suc k} h s =
      record { settled = rounds-settle w (atoms_of P (suc k)) (atoms-layer P (suc k)) s (length (atoms_of P (suc k))) (omega arith) }

  -- as many rounds as there are atoms do
  pub standing-settles : {k : ℕ} {st : Store} → Standing P k st → Settles P k (present st) (length (atoms_of P k))
  standing-settles s = settles-all (standing-above w s) s.state

module _ {P : Program} (w : Layered P) (room : atoms P ≤ 544) where
  -- an update is growth's, at every choice
  update-present : {k : ℕ} {st st₁ : Store} → Standing P k st → (N a : ℕ) → layer_of P a ≡ k → update P N st a ≡ done st₁ →
      present st₁ ≡ updated P (present st) a
  update-present {st = st} s N a e u =
      ap present (made P N st a u).is ∙
      fun_ext (λ b. fun_ext (after-present (fit-held s.fit) P a (standing-known w room s a e) b))

  -- so updates of several are,
  each-present : {k : ℕ} {st st₁ : Store} → Standing P k st → (N : ℕ) (l : List ℕ) → OfLayer P k l →
      update_each P N st l ≡ done st₁ → present st₁ ≡ updated_all P l (present st)
  unfolding update_each updated_all
  each-present {st = st} {st₁} s N [] o u = let same : st₁ ≡ st = cc in ap present same
  each-present {st = st} s N (a ∷ l) o u =
      let v = each_first P N st a l u in
      let e = o a (Memᴰ.head refl) in
      each-present {st = v.next} (standing-update w room s N a e v.first) N l (λ b m. o b (Memᴰ.tail m)) v.rest ∙
      ap (updated_all P l) (update-present s N a e v.first)

  -- and a round takes one of the rounds that settle the layer
  pub settles-less : {k r : ℕ} {st st₁ : Store} (N : ℕ) → Standing P k st → Settles P k (present st) (suc r) →
      update_each P N st (atoms_of P k) ≡ done st₁ → Settles P k (present st₁) r
  settles-less {k} {r} {st} {st₁} N s h u =
      let G : Present → Present = updated_all P (atoms_of P k) in
      let e : present st₁ ≡ G (present st) = each-present s N (atoms_of P k) (atoms-layer P k) u in
      let same : times G (present st) (suc r) ≡ times G (present st₁) r = times-shift G (present st) r ∙ ap (λ p. times G p r) (sym e) in
      record { settled = λ a m. subst (λ p. Settled P p a) same (h.settled a m) }

  -- updates of settled atoms change no place
  each-places : {k : ℕ} {st st₁ : Store} → Standing P k st → (N : ℕ) (l : List ℕ) → OfLayer P k l →
      ((a : ℕ) → Memᴰ a l → Settled P (present st) a) → update_each P N st l ≡ done st₁ → st₁.places ≡ st.places
  unfolding update_each
  each-places {st = st} {st₁} s N [] o f u = let same : st₁ ≡ st = cc in ap (λ x. x.places) same
  each-places {st = st} s N (a ∷ l) o f u =
      let v = each_first P N st a l u in
      let e = o a (Memᴰ.head refl) in
      let i = f a (Memᴰ.head refl) in
      let known = standing-known w room s a e in
      each-places {st = v.next} (standing-update w room s N a e v.first) N l (λ b m. o b (Memᴰ.tail m))
      (λ b m. settled-alike P (present st) (present v.next)
      (λ x c z. sym (ap (λ (p : Present). p x c) (update-present s N a e v.first) ∙ settled-still P (present st) a i x c z))
      b (f b (Memᴰ.tail m))) v.rest ∙
      made-back P N st a v.first (eqb-true _ _ (not-false _ (settled_same P (fit-held s.fit) N a known v.first i)))

  -- so a round of a settled layer changes none
  pub settled-round : {k : ℕ} {st st₁ : Store} (N : ℕ) → Standing P k st → Settles P k (present st) 0 →
      update_each P N st (atoms_of P k) ≡ done st₁ → st₁.places ≡ st.places
  unfolding times
  settled-round {k} N s h u = each-places s N (atoms_of P k) (atoms-layer P k) h.settled u
