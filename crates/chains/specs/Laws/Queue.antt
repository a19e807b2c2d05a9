-- The entries of the queue, one after another: once every one has had its turn, places reached lead to places reached only.
use Rattle.std.specs.Prelude.{◌≡◌, List, ℕ, ◌+◌, ◌*◌, ◌-◌, ◌≤◌, ◌<◌, get_or, set, take, drop, replicate, length, ◌++◌}
use Rattle.std.proofs.Common.{ap, ◌∙◌, length-append, length-take-le, length-drop, arith, length-set, get_or-set_same, get_or-set_other}
use Rattle.std.proofs.Math.ListN.{get_or-append}
use Rattle.std.proofs.Math.Decide.{ℕ_discrete}
use Rattle.std.proofs.lemmas.List.{length-replicate, get_or-replicate}
use Rattle.format.specs.File.{F, D}
use Rattle.index.specs.declared.Rules.{Rules}
use Rattle.chains.specs.declared.search.Search.{Search}
use Rattle.chains.specs.Searching.{Room, Tables, Grown, AllLed, ExpandAsked, ExpandDone, SearchAsked, SearchDone}
use Rattle.chains.specs.Laws.Places.{trail-few}
use Rattle.chains.specs.Laws.Lead.{led-grown}

-- what all rules lead to stays so
all_grown : {s : List ℕ} {x p : ℕ} {found found₁ : Search} →
    Grown found found₁ → AllLed s x found p → AllLed s x found₁ p
all_grown g d = record { led = λ j h e. led-grown g (d.led j h e) }

-- the first k have had their turn
pub record Queued (s : List ℕ) (x : ℕ) (found : Search) (k : ℕ) : Type 0 where
  pub tables : Tables s x found
  pub within : k ≤ found.count
  pub all : (i : ℕ) → i < k → AllLed s x found (get_or found.queue i 0)

module _ {s : List ℕ} {rules : Rules} {x : ℕ} (q : SearchAsked s rules x) where
  -- every place has room in the tables,
  pub clear-asked : {derived : ℕ} → derived ≡ D s → 2 * derived ≤ 1024
  clear-asked e = omega (arith, q.indexed.formed.derived)

  -- that of x too,
  start-low : {facts : ℕ} → facts ≡ F s → 2 * (x - facts) < 2 * D s
  start-low e = omega (arith, q.low, q.high)

  pub start-few : {facts : ℕ} → facts ≡ F s → 2 * (x - facts) < 1024
  start-few e = omega (arith, start-low e, q.indexed.formed.derived)

  -- and at first it alone is reached
  pub search-start : {facts derived : ℕ} {found : Search} {clear : List ℕ} → facts ≡ F s → derived ≡ D s → Room found →
      clear ≡ replicate (length (take (2 * derived) found.entry)) 0 →
      Queued s x (record found {
        queue = set found.queue 0 (2 * (x - facts));
        entry = set (clear ++ drop (2 * derived) found.entry) (2 * (x - facts)) 1;
        count = 1;
      }) 0
  search-start {facts} {derived} {found} {clear} f c room none = record {
    tables = record {
      trail = record {
        some = omega arith;
        first = first-is ∙ ap (λ a. 2 * (x - a)) f;
        inside = λ k h. rw (only k h, first-is) (start-low f);
        back = λ k h l. absurd (omega arith);
        entries = λ k h. rw (only k h, first-is, first_entry);
        reached = λ p h l. elim (ℕ_discrete p start) [
          | yes e ↦ rw (e, first_entry) (omega arith, first-is)
          | no o ↦
              let z : get_or (set entry start 1) p 0 ≡ 0 = get_or-set_other entry start p 1 0 o ∙ cleared p (omega arith) in
              absurd (omega arith)
        ];
      };
      room = record {
        queue_long = rw length-set room.queue_long;
        from_long = room.from_long;
        by_long = room.by_long;
        entry_long = rw length-set long;
      };
    };
    within = omega arith;
    all = λ i h. absurd (omega arith);
  }
    where
      start : ℕ
      start = 2 * (x - facts)

      entry : List ℕ
      entry = clear ++ drop (2 * derived) found.entry

      part : length (take (2 * derived) found.entry) ≡ 2 * derived
      part = length-take-le (2 * derived) found.entry (omega (arith, room.entry_long, clear-asked c))

      size : length clear ≡ 2 * derived
      size = rw (none, length-replicate {A = ℕ} (length (take (2 * derived) found.entry)) 0) part

      long : 1024 ≤ length entry
      long =
          omega (
            arith,
            length-append clear (drop (2 * derived) found.entry),
            length-drop (2 * derived) found.entry,
            size,
            room.entry_long,
            clear-asked c,
          )

      first-is : get_or (set found.queue 0 (2 * (x - facts))) 0 0 ≡ 2 * (x - facts)
      first-is = get_or-set_same found.queue 0 _ 0 (omega (arith, room.queue_long))

      first_entry : get_or (set entry (2 * (x - facts)) 1) (2 * (x - facts)) 0 ≡ 1
      first_entry = get_or-set_same entry _ 1 0 (omega (arith, long, start-few f))

      only : (k : ℕ) → k < 1 → k ≡ 0
      only k h = omega arith

      cleared : (p : ℕ) → p < 2 * derived → get_or entry p 0 ≡ 0
      cleared p h =
          get_or-append clear _ 0 p (omega (arith, size)) ∙
          rw none (get_or-replicate {A = ℕ} (length (take (2 * derived) found.entry)) p 0 0 (omega (arith, part)))

  module _ {found : Search} {k : ℕ} (v : Queued s x found k) where
    -- there are never more entries than the tables have room for
    pub search-few : found.count ≤ 1024
    search-few = omega (arith, q.indexed.formed.derived, trail-few v.tables.trail)

    pub search-asked : k < found.count → ExpandAsked s rules x k found
    search-asked h = record {
      indexed = q.indexed;
      low = q.low;
      known = h;
      tables = v.tables;
    }

    -- a turn more,
    pub search-next : {found₁ : Search} → k < found.count → ExpandDone s x k found found₁ → Queued s x found₁ (k + 1)
    search-next h d = record {
      tables = d.tables;
      within = omega (arith, d.grown.more);
      all = λ i l. elim (ℕ_discrete i k) [
        | yes e ↦ rw (e, d.grown.kept k h) d.all
        | no o ↦ rw (d.grown.kept i (omega arith)) (all_grown d.grown (v.all i (omega arith)))
      ];
    }

    -- and in the end every place reached has had its own
    pub search-end : found.count ≤ k → SearchDone s x found
    search-end h = record {
      tables = v.tables;
      closed = λ p l m.
          let (a, e) = v.tables.trail.reached p l m in
          rw e at (v.all (get_or found.entry p 0 - 1) (omega (arith, a)));
    }
