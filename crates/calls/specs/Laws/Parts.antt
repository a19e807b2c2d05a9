-- The used parts of the lent memory, and what lies beyond them: what a call answers over the parts, put together with what lies beyond, is
-- what it answers over all.
use Rattle.std.specs.Prelude.{◌≡◌, refl, Bool, true, false, not, List, [], ◌++◌, ℕ, ◌≤◌, length, take, drop}
use Rattle.std.proofs.Common.{sym, ◌∙◌, append-nil, arith, length-take, drop_of_length-le, take-append-drop, take_all, length-take-le}
use Rattle.std.proofs.Math.Decide.{dec_lt}
use Rattle.std.proofs.lemmas.Bool.{not-false}
use Rattle.update.specs.Update.{Store}
use Rattle.update.specs.Words.{store_in, words_of}
use Rattle.state.specs.Answers.{Fits, Holds}
use Rattle.state.specs.Hand.{Lent, Hand, lending, handing, room_in, words_in, places_in, holding}
use Rattle.state.specs.declared.State.{State}
use Rattle.fitting.specs.Fit.{fit_together}
use Rattle.fitting.specs.Laws.Fit.{fits-inner, fits-long, inner-fits}
use Rattle.fitting.specs.Laws.FitCode.{words_are}

-- ---- memory of which all is used

pub room-all : (nodes : List ℕ) → length nodes ≤ 4096 → room_in nodes ≡ length nodes
room-all nodes small = omega arith

module _ (nodes places : List ℕ) (small : length nodes ≤ 4096) (long : length places ≡ 544) where
  pub store-all : (count : ℕ) → store_in (words_in nodes) (places_in places) count ≡ store_in nodes places count
  store-all count =
      let p : places_in places ≡ places = take_all 544 places (omega arith) in
      λ i. store_in (take_all 4096 nodes small i) (p i) count

  -- words and places that hold a store are the memory once it holds it
  pub holds-all : {nodes₁ places₁ : List ℕ} (st : Store) → Holds (length nodes) nodes₁ places₁ st →
      lending nodes₁ places₁ ≡ holding (lending nodes places) st
  holds-all {nodes₁} {places₁} st g =
      let le : length places ≤ 544 = omega arith in
      let w : nodes₁ ≡ words_of (room_in nodes) st ++ drop 4096 nodes =
      rw (room-all nodes small, drop_of_length-le nodes small, append-nil (words_of (length nodes) st)) g.words in
      let p : places₁ ≡ st.places ++ drop 544 places = rw (drop_of_length-le places le, append-nil st.places) g.places_are in
      λ i. lending (w i) (p i)

-- ---- the front that is lent on: as many words as there are, at most 4096

module _ (nodes : List ℕ) {N : ℕ} (m : N ≡ room_in nodes) where
  -- it holds that many words,
  pub room-size : N ≡ length (take N nodes)
  room-size = let l = length-take N nodes in omega arith

  pub room-part : room_in (take N nodes) ≡ room_in nodes
  room-part = let l = length-take N nodes in omega arith

  -- which are those that are used,
  pub words-part : words_in (take N nodes) ≡ words_in nodes
  words-part = let l = length-take N nodes in take_all 4096 (take N nodes) (omega arith) ∙ words_are nodes m

  -- and beyond it lies what is beyond 4096
  drop-room : drop N nodes ≡ drop 4096 nodes
  drop-room = elim (dec_lt (length nodes) 4096) [
    | yes lt ↦
        let le : length nodes ≤ N = omega arith in
        let m : length nodes ≤ 4096 = omega arith in
        drop_of_length-le nodes le ∙ sym (drop_of_length-le nodes m)
    | no n ↦ let a : N ≡ 4096 = omega arith in rw a refl
  ]

  words-beyond : drop 4096 (take N nodes) ≡ []
  words-beyond =
      let l = length-take N nodes in
      let le : length (take N nodes) ≤ 4096 = omega arith in
      drop_of_length-le (take N nodes) le

pub places-part : (places : List ℕ) → places_in (places_in places) ≡ places_in places
places-part places = let l = length-take 544 places in take_all 544 (places_in places) (omega arith)

-- the store in the parts is that of the whole
pub store-part : (nodes places : List ℕ) (count : ℕ) {N : ℕ} → N ≡ room_in nodes →
    store_in (words_in nodes) (places_in places) count ≡ store_in (words_in (take N nodes)) (places_in (places_in places)) count
store-part nodes places count m = λ i. store_in (sym (words-part nodes m) i) (sym (places-part places) i) count

places_beyond : (places : List ℕ) → drop 544 (places_in places) ≡ []
places_beyond places =
    let l = length-take 544 places in
    let le : length (places_in places) ≤ 544 = omega arith in
    drop_of_length-le (places_in places) le

-- there are 544 places in front
pub places-size : (places : List ℕ) → 544 ≤ length places → 544 ≡ length (places_in places)
places-size places h = sym (length-take-le 544 places h)

-- ---- parts and whole

-- what is lent on of what is lent
abbrev part : ℕ → Lent → Lent
part N l = lending (take N l.nodes) (places_in l.places)

-- the parts at exit, before what lies beyond
abbrev pub beyond : ℕ → Lent → Lent → Lent
beyond N l l₁ = lending (l₁.nodes ++ drop N l.nodes) (l₁.places ++ drop 544 l.places)

-- parts that are as they were make up what was lent,
pub kept_whole : (N : ℕ) (l : Lent) → l ≡ beyond N l (part N l)
kept_whole N l = λ i. lending (sym (take-append-drop N l.nodes) i) (sym (take-append-drop 544 l.places) i)

-- and parts that hold a store make memory that holds it
pub holds-whole : {N : ℕ} (l : Lent) → N ≡ room_in l.nodes → (st : Store) → holding l st ≡ beyond N l (holding (part N l) st)
holds-whole {N} l m st =
    let w : words_of (room_in l.nodes) st ++ drop 4096 l.nodes ≡
    (words_of (room_in (take N l.nodes)) st ++ drop 4096 (take N l.nodes)) ++ drop N l.nodes =
    rw (room-part l.nodes m, words-beyond l.nodes m, drop-room l.nodes m, append-nil (words_of (room_in l.nodes) st)) refl in
    let p : st.places ++ drop 544 l.places ≡ (st.places ++ drop 544 (places_in l.places)) ++ drop 544 l.places =
    rw (places_beyond l.places, append-nil st.places) refl in
    λ i. lending (w i) (p i)

-- what fits together, by the test's answer b, has parts to lend on
module _ (s nodes places : List ℕ) (state : State) {b : Bool} (t : b ≡ fit_together s (handing nodes places state)) (n : not b ≡ false)
  where
    abbrev h : Hand
    h = handing nodes places state

    fits_whole : fit_together s h ≡ true
    fits_whole = sym t ∙ not-false b n

    -- there are 544 places,
    pub long-enough : 544 ≤ length places
    long-enough = fits-long s h fits_whole

    pub places-fit : 544 ≡ length (places_in places)
    places-fit = places-size places long-enough

    module _ {N : ℕ} (m : N ≡ room_in nodes) where
      -- the parts fit together,
      pub parts-fit : Fits s (take N nodes) (places_in places) state
      parts-fit = rw (words_are nodes m) (fits-inner s h fits_whole)

      -- as the whole does
      pub fit-part : fit_together s (handing (take N nodes) (places_in places) state) ≡ fit_together s h
      fit-part = inner-fits parts-fit ∙ sym fits_whole
