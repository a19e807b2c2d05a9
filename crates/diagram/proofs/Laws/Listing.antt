-- Listings: they are bytes; reading one says what the diagram says; two are equal exactly when the two diagrams say the same.
-- Each number is read where it stands; from a node that has the diagram, each step leads to a lower node, which has the side.
use Rattle.std.specs.Prelude.{◌≡◌, ◌↔◌, Bool, true, false, cond, length}
use Rattle.std.proofs.Math.Path.{refl}
use Rattle.std.proofs.Common.{sym, ap, ◌∙◌, arith}
use mathlib.Core.List.{List, [], ◌∷◌, ◌++◌, map, flatten}
use Prim.Native.Nat.{ℕ, zero, suc, ◌+◌, ◌*◌, ◌≤◌, ◌<◌}
use Rattle.std.proofs.Math.Numerals.{add-two}
use Rattle.meaning.specs.Meaning.{Choice, has}
use Rattle.format.specs.Bytes.{Bytes, u16}
use Rattle.format.specs.Encode.{two}
use Rattle.format.specs.Laws.Reading.{Stands, stands-whole, stands-left, stands-right, stands_at, u16-two}
use Rattle.diagram.specs.Diagram.{Diagram, eval, says, Good}
use Rattle.diagram.specs.Listing.{Numbered, number, node_bytes, listing, follow, reads}
use Rattle.diagram.specs.declared.Node.{Node}
use Rattle.diagram.proofs.Laws.Canon.{canonical}
use Rattle.diagram.proofs.Laws.Number.{
  At,
  here,
  after,
  at-inside,
  Each,
  each_none,
  Has,
  never,
  always,
  inner,
  has-inside,
  number-has,
  Below,
  number-below,
  FactBelow,
  number-facts,
}

-- ---- reading

module _ (s : List ℕ) where
  stands-node : {ns : List Node} {i : ℕ} {n : Node} (at : ℕ) →
      At ns i n → Stands s at (flatten (map node_bytes ns)) → Stands s (at + 6 * i) (node_bytes n)
  unfolding flatten node_bytes two
  stands-node at (here {n} {ns}) h = stands_at (omega arith) (stands-left (node_bytes n) (flatten (map node_bytes ns)) h)
  stands-node at (after {m} {ns = ns} a) h =
      stands_at (omega arith) (stands-node (at + 6) a (stands-right (node_bytes m) (flatten (map node_bytes ns)) h))

  -- the node n is read at place i
  record Reads (i : ℕ) (n : Node) : Type 0 where
    fact : u16 s (6 + 6 * i) ≡ n.fact
    low : u16 s (8 + 6 * i) ≡ n.low
    high : u16 s (10 + 6 * i) ≡ n.high

  node-read : (i : ℕ) (n : Node) → Stands s (6 + 6 * i) (node_bytes n) → Reads i n
  unfolding node_bytes two
  node-read i n h =
      let sides = stands-right (two n.fact) (two n.low ++ two n.high) h in
      record {
        fact = u16-two n.fact (stands-left (two n.fact) _ h);
        low = u16-two n.low (stands_at (omega arith) (stands-left (two n.low) (two n.high) sides));
        high = u16-two n.high (stands_at (omega arith) (stands-right (two n.low) (two n.high) sides));
      }

by_side : (f : ℕ → Bool) (t : Bool) {a b : ℕ} {x y : Bool} → f a ≡ x → f b ≡ y → f (cond t b a) ≡ cond t y x
by_side f true low high = high
by_side f false low high = low

module _ (s : List ℕ) (c : Choice) (ns : List Node) (stand : Stands s 6 (flatten (map node_bytes ns))) (below : Each Below ns) where
  -- from a node that has a diagram, reading says what the diagram says
  follow-has : (k : ℕ) {n : ℕ} {d : Diagram} → Has ns n d → n ≤ suc k → follow s c k n ≡ says d c
  unfolding follow eval
  follow-has zero never le = refl
  follow-has (suc k) never le = refl
  follow-has zero always le = refl
  follow-has (suc k) always le = refl
  follow-has zero (inner a l h) le = absurd (omega arith)
  follow-has (suc k) (inner {i} {n} a l h) le =
      let r = node-read s i n (stands-node s 6 a stand) in
      let b = below.at i n a in
      let low = follow-has k l (omega arith) in
      let high = follow-has k h (omega arith) in
      rw (add-two i) (rw (r.fact, r.low, r.high) (by_side (follow s c k) (has c n.fact) low high))

-- wherever the listing begins a list, the reading says what the diagram says
pub stands_read : (s : List ℕ) (F : ℕ) (d : Diagram) (c : Choice) → Stands s 0 (listing F d) → reads s c ≡ says d c
unfolding reads listing two
stands_read s F d c h =
    let all : Numbered = number [] d in
    let ns : List Node = all.nodes in
    let h2 : Stands s 2 (two (length ns) ++ (two all.node ++ flatten (map node_bytes ns))) = stands-right (two F) _ h in
    let h4 : Stands s 4 (two all.node ++ flatten (map node_bytes ns)) = stands-right (two (length ns)) _ h2 in
    let h6 : Stands s 6 (flatten (map node_bytes ns)) = stands-right (two all.node) _ h4 in
    rw (u16-two (length ns) (stands-left (two (length ns)) _ h2), u16-two all.node (stands-left (two all.node) _ h4))
    (follow-has s c ns h6 (number-below [] d (each_none Below)) (length ns) (number-has [] d) (omega (arith, has-inside (number-has [] d))))

-- the reading says yes exactly where the diagram holds
pub listing-read : (F : ℕ) (d : Diagram) (c : Choice) → reads (listing F d) c ≡ says d c
listing-read F d c = stands_read (listing F d) F d c (stands-whole (listing F d))

-- the same bytes exactly when the same function
pub listing-same : (F : ℕ) (a b : Diagram) → Good F 0 a → Good F 0 b →
    (listing F a ≡ listing F b) ↔ ((c : Choice) → length c ≡ F → says a c ≡ says b c)
listing-same F a b ga gb = (
  λ e c q. sym (listing-read F a c) ∙ ap (λ s. reads s c) e ∙ listing-read F b c,
  λ e. ap (listing F) (canonical F 0 0 a b ga gb e),
)

-- ---- bytes

-- `Bytes` as a record, which shows its list
record Small (x : List ℕ) : Type 0 where
  bytes : Bytes x

small-two : {x : List ℕ} (n : ℕ) → n < 65536 → Small x → Small (two n ++ x)
unfolding two
small-two {x} n h rest = record { bytes = go }
  where
    go : Bytes (two n ++ x)
    go zero q = omega arith
    go (suc zero) q = omega arith
    go (suc (suc i)) q = rest.bytes i (omega arith)

small-nodes :
    (ns : List Node) → ((i : ℕ) (n : Node) → At ns i n → (n.fact < 65536) × (n.low < 65536) × (n.high < 65536)) →
    Small (flatten (map node_bytes ns))
unfolding flatten node_bytes two
small-nodes [] h = record { bytes = λ i q. absurd (omega arith) }
small-nodes (n ∷ ns) h =
    let p = h 0 n here in
    small-two n.fact p.0 (small-two n.low p.1 (small-two n.high p.2 (small-nodes ns (λ i m a. h (suc i) m (after a)))))

-- a listing of at most 4,096 nodes over at most 32 facts is a list of bytes
pub listing-bytes : (F : ℕ) (d : Diagram) → F ≤ 32 → Good F 0 d → length (number [] d).nodes ≤ 4096 → Bytes (listing F d)
unfolding listing
listing-bytes F d few g size = all.bytes
  where
    fits : (i : ℕ) (n : Node) → At (number [] d).nodes i n → (n.fact < 65536) × (n.low < 65536) × (n.high < 65536)
    fits i n a =
        let inside = at-inside a in
        let below = (number-below [] d (each_none Below)).at i n a in
        let fact = (number-facts F 0 [] d g (each_none (FactBelow F))).at i n a in
        omega arith

    all : Small (listing F d)
    all =
        let root = has-inside (number-has [] d) in
        small-two F (omega arith) (small-two (length (number [] d).nodes) (omega arith)
        (small-two (number [] d).node (omega arith) (small-nodes (number [] d).nodes fits)))
