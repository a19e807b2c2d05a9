-- Memory that holds a store: what a call leaves in hand, and that what fits together is such memory.
use Rattle.std.specs.Prelude.{◌≡◌, refl, true, List, [], ◌∷◌, ◌++◌, map, ℕ, ◌-◌, ◌≤◌, min, T, leb, length, take, drop, replicate}
use Rattle.std.proofs.Common.{
  sym,
  ap,
  subst,
  ◌∙◌,
  append-nil,
  arith,
  le→leb,
  length-append,
  length-drop,
  length-take,
  drop_of_length-le,
  take-append-drop,
  take_all,
  take_at,
  drop_at,
}
use Rattle.std.proofs.Math.Decide.{dec_lt}
use Rattle.std.proofs.lemmas.List.{length-map, length-replicate}
use Rattle.meaning.proofs.Laws.Tests.{T_true}
use Rattle.format.specs.File.{decode}
use Rattle.format.specs.Refusals.{verdict, passes}
use Rattle.format.specs.Passed.{Passed}
use Rattle.format.specs.Laws.Passing.{passed-accepted}
use Rattle.store.specs.Store.{pack, Sound}
use Rattle.store.specs.Laws.Nodes.{nodes_in-length}
use Rattle.update.specs.Update.{Store}
use Rattle.rounds.specs.Fit.{Fit}
use Rattle.update.specs.Words.{words_of}
use Rattle.state.specs.Laws.Fits.{fits-lent, lent-holds, holds-store}
use Rattle.fitting.specs.Fit.{store_fits, fit_together}
use Rattle.state.specs.Hand.{Hand, room, store, words_in, places_in, holding as memory}
use Rattle.fitting.specs.Laws.Fit.{fits-store, fits-inner, fits-long}
use Rattle.fitting.specs.Laws.FitParts.{row-all}

-- the memory of h with this store in it, and its layer in work
abbrev pub holding : Hand → ℕ → Store → Hand
holding h k st = record { lent = memory h.lent st; state = record { layer = k; nodes = length st.nodes } }

-- a store that fits the file and N places
pub record Held (s : List ℕ) (N k : ℕ) (st : Store) : Type 0 where
  pub passed : Passed s
  pub fit : Fit (decode s) k st
  pub used : length st.nodes ≤ N

-- ---- the parts of the memory

-- the memory holds the store in front, and beyond it what it held
pub record Filled (h : Hand) (k : ℕ) (st : Store) : Type 0 where
  pub words : words_in (holding h k st).lent.nodes ≡ words_of (room h) st
  pub nodes_beyond : drop 4096 (holding h k st).lent.nodes ≡ drop 4096 h.lent.nodes
  pub nodes_long : length (holding h k st).lent.nodes ≡ length h.lent.nodes
  pub places_are : places_in (holding h k st).lent.places ≡ st.places
  pub places_beyond : drop 544 (holding h k st).lent.places ≡ drop 544 h.lent.places
  pub places_long : length (holding h k st).lent.places ≡ length h.lent.places

-- a front of a list's first n entries, with the rest of the list
record Front (n : ℕ) (xs ys : List ℕ) : Type 0 where
  front : take n (xs ++ drop n ys) ≡ xs
  beyond : drop n (xs ++ drop n ys) ≡ drop n ys
  long : length (xs ++ drop n ys) ≡ length ys

front_of : (n : ℕ) (xs ys : List ℕ) → length xs ≡ min (length ys) n → Front n xs ys
front_of n xs ys e =
    let sum : length (xs ++ drop n ys) ≡ length ys = omega (arith, length-append xs (drop n ys), length-drop n ys) in
    elim (dec_lt (length ys) n) [
      | yes lt ↦
          let near : length ys ≤ n = omega arith in
          let few : length xs ≤ n = omega arith in
          let past : drop n ys ≡ [] = drop_of_length-le ys near in
          let whole : xs ++ drop n ys ≡ xs = ap (λ l. xs ++ l) past ∙ append-nil xs in
          record {
            front = ap (take n) whole ∙ take_all n xs few;
            beyond = ap (drop n) whole ∙ drop_of_length-le xs few ∙ sym past;
            long = sum;
          }
      | no g ↦
          let full : length xs ≡ n = omega arith in
          record { front = take_at xs (drop n ys) n full; beyond = drop_at xs (drop n ys) n full; long = sum }
    ]

words_size : (N : ℕ) (st : Store) → length st.nodes ≤ N → length (words_of N st) ≡ N
words_size N st used =
    omega (
      arith,
      length-append (map pack st.nodes) (replicate (N - length st.nodes) 0),
      length-map st.nodes pack,
      length-replicate {A = ℕ} (N - length st.nodes) 0,
    )

pub holding-filled : {h : Hand} {k : ℕ} {st : Store} → 544 ≤ length h.lent.places → length st.nodes ≤ room h → length st.places ≡ 544 →
    Filled h k st
holding-filled {h} {k} {st} long used all =
    let w = front_of 4096 (words_of (room h) st) h.lent.nodes (words_size (room h) st used) in
    let p = front_of 544 st.places h.lent.places (omega arith) in
    record {
      words = w.front;
      nodes_beyond = w.beyond;
      nodes_long = w.long;
      places_are = p.front;
      places_beyond = p.beyond;
      places_long = p.long;
    }

-- ---- the store in it

-- the store in hand is the one that was put there
pub holding-store : {F : ℕ} {h : Hand} {k : ℕ} {st : Store} → Filled h k st → Sound F st.nodes → length st.nodes ≤ room h →
    store (holding h k st) ≡ st
holding-store f sound used = holds-store (record { words = f.words; places_are = f.places_are }) sound (omega arith)

-- ---- it fits together

-- it is the store in hand, and fits together with the file
pub record Holds (s : List ℕ) (h : Hand) (k : ℕ) (st : Store) : Type 0 where
  pub store_is : store (holding h k st) ≡ st
  pub room_is : room (holding h k st) ≡ room h
  pub fits : fit_together s (holding h k st) ≡ true
  pub again : (j : ℕ) (st₁ : Store) → holding (holding h k st) j st₁ ≡ holding h j st₁

-- the test passes, since its parts do
filled-fits : {s : List ℕ} {h : Hand} {k : ℕ} {st : Store} → Filled h k st → store (holding h k st) ≡ st → 544 ≤ length h.lent.places →
    Held s (room h) k st → fit_together s (holding h k st) ≡ true
unfolding fit_together
filled-fits {s} {h} {k} {st} f is long held =
    let n : ℕ = length st.nodes in
    let ws : List ℕ = words_in (holding h k st).lent.nodes in
    let ps : List ℕ = places_in (holding h k st).lent.places in
    let size : length ws ≡ room h = ap length f.words ∙ words_size (room h) st held.used in
    let used : n ≤ length ws = omega (arith, held.used) in
    let unused : drop n ws ≡ replicate (length ws - n) 0 =
    ap (drop n) f.words ∙ drop_at (map pack st.nodes) (replicate (room h - n) 0) n (length-map st.nodes pack) ∙ rw size refl in
    let many : 544 ≤ length (holding h k st).lent.places = omega (arith, f.places_long) in
    let stored : store_fits (decode s) ws ps k n ≡ true =
    fits-store (decode s) ws ps k n (ap length f.places_are ∙ held.fit.long)
    (record { used = used; unused = unused; fit = subst (λ x. Fit (decode s) k x) (sym is) held.fit }) in
    let passing : T (passes (verdict s)) = rw (passed-accepted held.passed) tt in
    T_true _ (row-all (passes (verdict s)) (leb 544 (length (holding h k st).lent.places) ∷ store_fits (decode s) ws ps k n ∷ [])
    (passing, (le→leb _ _ many, (rw stored tt, tt))))

pub holding-holds : {s : List ℕ} {h : Hand} {k : ℕ} {st : Store} → 544 ≤ length h.lent.places → Held s (room h) k st → Holds s h k st
holding-holds {s} {h} {k} {st} long held =
    let f : Filled h k st = holding-filled long held.used held.fit.long in
    let is : store (holding h k st) ≡ st = holding-store f held.fit.sound held.used in
    let same : room (holding h k st) ≡ room h = ap (λ n. min n 4096) f.nodes_long in
    record {
      store_is = is;
      room_is = same;
      fits = filled-fits f is long held;
      again = λ j st₁ i. record {
        lent = record { nodes = words_of (same i) st₁ ++ f.nodes_beyond i; places = st₁.places ++ f.places_beyond i };
        state = record { layer = j; nodes = length st₁.nodes };
      };
    }

-- what fits together holds a store that fits
pub record InHand (s : List ℕ) (h : Hand) : Type 0 where
  pub held : Held s (room h) h.state.layer (store h)
  pub is : h ≡ holding h h.state.layer (store h)
  pub long : 544 ≤ length h.lent.places

pub in-hand : {s : List ℕ} {h : Hand} → fit_together s h ≡ true → InHand s h
in-hand {s} {h} fit =
    let f = fits-inner s h fit in
    let w = lent-holds (fits-lent f) in
    let size : length (store h).nodes ≡ h.state.nodes = nodes_in-length (words_in h.lent.nodes) h.state.nodes f.used in
    let words : length (words_in h.lent.nodes) ≡ room h = omega (arith, length-take 4096 h.lent.nodes) in
    let nodes : h.lent.nodes ≡ words_of (room h) (store h) ++ drop 4096 h.lent.nodes =
    sym (take-append-drop 4096 h.lent.nodes) ∙
    ap (λ l. l ++ drop 4096 h.lent.nodes) (w.words ∙ ap (λ N. words_of N (store h)) words) in
    let places : h.lent.places ≡ (store h).places ++ drop 544 h.lent.places = sym (take-append-drop 544 h.lent.places) in
    record {
      held = record { passed = f.passed; fit = f.fit; used = omega (arith, f.used) };
      is = λ i. record {
        lent = record { nodes = nodes i; places = places i };
        state = record { layer = h.state.layer; nodes = sym size i };
      };
      long = fits-long s h fit;
    }

-- and with another layer in work it holds the same store
pub closed-holding : {s : List ℕ} {h : Hand} → InHand s h → (j : ℕ) →
    record { lent = h.lent; state = record { layer = j; nodes = h.state.nodes } } ≡ holding h j (store h)
closed-holding m j = λ i. record { lent = (m.is i).lent; state = record { layer = j; nodes = (m.is i).state.nodes } }
