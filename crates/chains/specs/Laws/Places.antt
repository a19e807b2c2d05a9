-- The places of a search: each is reached once, so that there are never more of them than twice the derived atoms, and one more is put
-- behind them.
use Rattle.std.specs.Prelude.{◌≡◌, refl, ℕ, zero, suc, ◌+◌, ◌*◌, ◌-◌, ◌≤◌, ◌<◌, set}
use Rattle.std.proofs.Common.{ap, ◌∙◌, inl, inr}
use mathlib.Core.List.Memᴰ
use mathlib.Core.List.{List, ◌∷◌, Memᴰ}
use native.Mathlib.Omega.{arith}
use Rattle.std.proofs.Math.Decide.{ℕ_discrete}
use Rattle.std.proofs.Math.ListN.{get_or, length-set}
use Rattle.std.proofs.Math.Seq.{get_or-set_same, get_or-set_other}
use Rattle.meaning.specs.Lists.{upto}
use Rattle.meaning.proofs.Laws.Tests.{length-upto, mem-upto, mem-of-upto}
use Rattle.format.specs.File.{D}
use Rattle.chains.specs.Calls.{Step, Trail}
use Rattle.chains.specs.Searching.{Tables, Grown, with_place}
use Rattle.chains.specs.declared.search.Search.{Search}
use Rattle.chains.specs.Laws.Apart.{Apart, apart-length}

-- ---- how many there are

-- a list of different numbers
apart-upto : (n : ℕ) (f : ℕ → ℕ) → ((i j : ℕ) → i < n → j < n → f i ≡ f j → i ≡ j) → Apart (upto n f)
unfolding upto
apart-upto zero f d = Apart.none
apart-upto (suc n) f d =
    Apart.more
    (λ m.
    let (i, h, e) = mem-of-upto n (λ k. f (suc k)) m in
    let z : 0 ≡ suc i = d 0 (suc i) (omega arith) (omega arith) e in
    omega arith)
    (apart-upto n (λ k. f (suc k)) (λ i j h k e. let z = d (suc i) (suc j) (omega arith) (omega arith) e in omega arith))

-- a number below n is one of the first n
below_in : (n a : ℕ) → a < n → Memᴰ a (upto n (λ i. i))
below_in n a h = mem-upto n (λ i. i) a h

module _ {s : List ℕ} {x : ℕ} {found : Search} (t : Trail s x found) where
  -- the places reached are different,
  places-apart : Apart (upto found.count (λ i. get_or found.queue i 0))
  places-apart = apart-upto found.count (λ i. get_or found.queue i 0) (λ i j h k e.
      let z : get_or found.entry (get_or found.queue i 0) 0 ≡ get_or found.entry (get_or found.queue j 0) 0 =
      ap (λ p. get_or found.entry p 0) e in
      omega (arith, t.entries i h, t.entries j k))

  -- and each is the place of a derived atom, plain or negated,
  place_below : (a : ℕ) → Memᴰ a (upto found.count (λ i. get_or found.queue i 0)) → a < 2 * D s
  place_below a m = let (i, h, e) = mem-of-upto found.count (λ i. get_or found.queue i 0) m in rw e (t.inside i h)

  -- so there are no more than twice the derived atoms,
  pub trail-few : found.count ≤ 2 * D s
  trail-few =
      omega (
        arith,
        length-upto found.count (λ i. get_or found.queue i 0),
        length-upto (2 * D s) (λ i. i),
        apart-length places-apart (upto (2 * D s) (λ i. i)) (λ a m. below_in (2 * D s) a (place_below a m)),
      )

  -- and fewer where one is not reached
  pub trail-less : (p : ℕ) → p < 2 * D s → get_or found.entry p 0 ≡ 0 → found.count < 2 * D s
  trail-less p h e =
      omega (
        arith,
        length-upto found.count (λ i. get_or found.queue i 0),
        length-upto (2 * D s) (λ i. i),
        apart-length (Apart.more new places-apart) (upto (2 * D s) (λ i. i)) (λ a m. below_in (2 * D s) a (within a m)),
      )
    where
      new : Memᴰ p (upto found.count (λ i. get_or found.queue i 0)) → ⊥
      new m =
          let (i, k, q) = mem-of-upto found.count (λ i. get_or found.queue i 0) m in
          let z : get_or found.entry p 0 ≡ get_or found.entry (get_or found.queue i 0) 0 = ap (λ a. get_or found.entry a 0) q in
          omega (arith, t.entries i k)

      within : (a : ℕ) → Memᴰ a (p ∷ upto found.count (λ i. get_or found.queue i 0)) → a < 2 * D s
      within a m = elim (Memᴰ.cases_cons m) [ inl q ↦ rw q h | inr i ↦ place_below a i ]

-- ---- what stays

-- where nothing is reached, all does,
pub grown-none : {found : Search} → Grown found found
grown-none = record { more = omega arith; kept = λ i h. refl; still = λ p h. h }

-- and so it does over two steps
pub grown-both : {found found₁ found₂ : Search} → Grown found found₁ → Grown found₁ found₂ → Grown found found₂
grown-both g h = record {
  more = omega (arith, g.more, h.more);
  kept = λ i k. h.kept i (omega (arith, g.more)) ∙ g.kept i k;
  still = λ p k. h.still p (g.still p k);
}

-- ---- one place more

module _
    {s : List ℕ} {x : ℕ} {found : Search} (t : Tables s x found) (few : D s ≤ 512)
    {k rule place : ℕ} (known : k < found.count) (step : Step s rule (get_or found.queue k 0) place) (low : place < 2 * D s)
    (new : get_or found.entry place 0 ≡ 0)
  where
    -- there is room for one more
    less : found.count < 2 * D s
    less = trail-less t.trail place low new

    old-queue : (i : ℕ) → i < found.count → get_or (set found.queue found.count place) i 0 ≡ get_or found.queue i 0
    old-queue i h = get_or-set_other found.queue found.count i place 0 (λ e. omega arith)

    new-queue : get_or (set found.queue found.count place) found.count 0 ≡ place
    new-queue = get_or-set_same found.queue found.count place 0 (omega (arith, less, t.room.queue_long))

    entry_new : get_or (set found.entry place (found.count + 1)) place 0 ≡ found.count + 1
    entry_new = get_or-set_same found.entry place (found.count + 1) 0 (omega (arith, t.room.entry_long))

    -- a place reached before is another
    old-entry : (i : ℕ) → i < found.count → get_or (set found.entry place (found.count + 1)) (get_or found.queue i 0) 0 ≡ i + 1
    old-entry i h =
        get_or-set_other found.entry place (get_or found.queue i 0) (found.count + 1) 0
        (λ e. omega (arith, ap (λ p. get_or found.entry p 0) e, t.trail.entries i h)) ∙
        t.trail.entries i h

    -- an entry was reached from an earlier one by a rule
    Back : ℕ → Type 0
    Back i =
        (get_or (set found.from found.count k) i 0 < i) ×
        Step s (get_or (set found.by found.count rule) i 0) (get_or (set found.queue found.count place) (get_or
        (set found.from found.count k) i 0) 0)
        (get_or (set found.queue found.count place) i 0)

    back-new : Back found.count
    unfolding Back
    back-new =
        rw (
          get_or-set_same found.from found.count k 0 (omega (arith, less, t.room.from_long)),
          get_or-set_same found.by found.count rule 0 (omega (arith, less, t.room.by_long)),
          new-queue,
          old-queue k known,
        )
        (known, step)

    back-old : (i : ℕ) → 0 < i → i < found.count → Back i
    unfolding Back
    back-old i h l =
        let (f, b) = t.trail.back i h l in
        rw (
          get_or-set_other found.from found.count i k 0 (λ e. omega arith),
          get_or-set_other found.by found.count i rule 0 (λ e. omega arith),
          old-queue i l,
          old-queue (get_or found.from i 0) (omega (arith, f)),
        )
        (f, b)

    -- what holds of the new entry and of those before, holds of all
    at_last : (P : ℕ → Type 0) (i : ℕ) → i < found.count + 1 → P found.count → (i < found.count → P i) → P i
    at_last P i h last other = elim (ℕ_discrete i found.count) [ yes e ↦ rw e last | no o ↦ other (omega arith) ]

    -- a place that has an entry stands there
    Reached : ℕ → Type 0
    Reached p =
        (get_or (set found.entry place (found.count + 1)) p 0 ≤ found.count + 1) ×
        (get_or (set found.queue found.count place) (get_or (set found.entry place (found.count + 1)) p 0 - 1) 0 ≡ p)

    reached-new : Reached place
    unfolding Reached
    reached-new =
        let e : found.count + 1 - 1 ≡ found.count = omega arith in
        rw (entry_new, e, new-queue) (omega arith, refl)

    reached-old : (p : ℕ) → (p ≡ place → ⊥) → p < 2 * D s → 0 < get_or (set found.entry place (found.count + 1)) p 0 → Reached p
    unfolding Reached
    reached-old p o h l =
        let same : get_or (set found.entry place (found.count + 1)) p 0 ≡ get_or found.entry p 0 =
        get_or-set_other found.entry place p (found.count + 1) 0 o in
        let (m, q) = t.trail.reached p h (omega (arith, same)) in
        rw (same, old-queue (get_or found.entry p 0 - 1) (omega (arith, m, same)))
        (omega (arith, m), q)

    -- the place is put behind those known
    pub new-tables : Tables s x (with_place found place k rule)
    unfolding Back Reached
    new-tables = record {
      trail = record {
        some = omega arith;
        first = old-queue 0 t.trail.some ∙ t.trail.first;
        inside = λ i h. at_last (λ j. get_or (set found.queue found.count place) j 0 < 2 * D s) i h (rw new-queue low)
            (λ l. rw (old-queue i l) (t.trail.inside i l));
        back = λ i h l. at_last Back i l back-new (λ m. back-old i h m);
        entries = λ i h. at_last (λ j. get_or (set found.entry place (found.count + 1)) (get_or
            (set found.queue found.count place) j 0) 0 ≡ j + 1) i h
            (rw new-queue entry_new) (λ l. rw (old-queue i l) (old-entry i l));
        reached = λ p h l. elim (ℕ_discrete p place) [ yes e ↦ rw e reached-new | no o ↦ reached-old p o h l ];
      };
      room = record {
        queue_long = rw length-set t.room.queue_long;
        from_long = rw length-set t.room.from_long;
        by_long = rw length-set t.room.by_long;
        entry_long = rw length-set t.room.entry_long;
      };
    }

    -- where they stay,
    pub new-grown : Grown found (with_place found place k rule)
    new-grown = record {
      more = omega arith;
      kept = old-queue;
      still = λ p h. elim (ℕ_discrete p place) [
        | yes e ↦ rw (e, entry_new) (omega arith)
        | no o ↦ rw (get_or-set_other found.entry place p (found.count + 1) 0 o) h
      ];
    }

    -- and is reached
    pub new-reached : 0 < get_or (set found.entry place (found.count + 1)) place 0
    new-reached = rw entry_new (omega arith)
