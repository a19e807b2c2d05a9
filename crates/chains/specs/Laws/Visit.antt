-- The literals of a rule lead to their places, one after another, and so do the rules of an entry's atom.
use Rattle.std.specs.Prelude.{◌≡◌, List, ℕ, ◌+◌, ◌*◌, ◌/◌, ◌≤◌, ◌<◌, length, get_or}
use Rattle.std.proofs.Common.{sym, ◌∙◌, arith}
use Rattle.std.proofs.Math.Path.{ap}
use Rattle.std.proofs.Math.Decide.{dec_lt, ℕ_discrete}
use Rattle.meaning.proofs.Laws.Tests.{mem-upto, mem-of-upto}
use Rattle.format.specs.Bytes.{u16}
use Rattle.format.specs.File.{F, R, start_of, literal, literal_at}
use Rattle.index.specs.Index.{head_at, Next}
use Rattle.index.specs.declared.Rules.{Rules}
use Rattle.chains.specs.declared.search.Search.{Search}
use Rattle.chains.specs.Searching.{Tables, Grown, leads, Led, LeadAsked, LeadDone, VisitAsked, VisitDone, ExpandAsked, ExpandDone}
use Rattle.chains.specs.Laws.Places.{trail-few, grown-none, grown-both}
use Rattle.chains.specs.Laws.Lead.{head-is, body_is, led-grown}

-- ---- the literals of a rule

-- the first i have led to their places
pub record Visiting
    (s : List ℕ) (x rule k : ℕ) (found found₁ : Search) (i : ℕ) : Type 0 where
  pub tables : Tables s x found₁
  pub grown : Grown found found₁
  pub led :
      (m : ℕ) → m < i → x ≤ (literal_at s (start_of s rule) m).atom →
      0 < get_or found₁.entry (leads s (get_or found.queue k 0) (literal_at s (start_of s rule) m)) 0

module _
    {s : List ℕ} {at x rule k : ℕ} {found : Search}
    (q : VisitAsked s at x rule k found)
  where
    -- the rule's header lies in the file,
    pub visit-header : at + 4 ≤ length s
    visit-header = rw q.start (q.going.formed.rule rule q.going.is_rule).header

    -- and at first no literal has had its turn;
    pub visit-start : Visiting s x rule k found found 0
    visit-start = record { tables = q.going.tables; grown = grown-none; led = λ m h. absurd (omega arith) }

    module _ {len : ℕ} (size : len ≡ u16 s (at + 2)) {i : ℕ} (more : i < len) where
      size_is : len ≡ u16 s (start_of s rule + 2)
      size_is = size ∙ ap (λ a. u16 s (a + 2)) q.start

      -- the next literal lies in the file,
      pub visit-room : at + 6 + 2 * i ≤ length s
      unfolding start_of
      visit-room = rw q.start (omega (arith, size_is, (q.going.formed.rule rule q.going.is_rule).inside))

      module _ {found₁ : Search} (v : Visiting s x rule k found found₁ i) where
        literal-here : literal (u16 s (at + 4 + 2 * i)) ≡ literal_at s (start_of s rule) i
        unfolding literal_at
        literal-here = ap (λ a. literal (u16 s (a + 4 + 2 * i))) q.start

        pub visit-asked : LeadAsked s (u16 s (at + 4 + 2 * i)) x rule k found₁
        visit-asked =
            let g = q.going in
            let h : i < u16 s (start_of s rule + 2) = omega (arith, size_is) in
            record {
              going = record {
                formed = g.formed;
                low = g.low;
                is_rule = g.is_rule;
                known = omega (arith, g.known, v.grown.more);
                head = rw (v.grown.kept k g.known) g.head;
                tables = v.tables;
              };
              held = rw (literal-here, body_is s rule g.is_rule) (mem-upto _ (literal_at s (start_of s rule)) i h);
              known_atom = rw literal-here ((g.formed.rule rule g.is_rule).known i h);
            }

        -- leads to its place,
        pub visit-next : {found₂ : Search} → LeadDone s (u16 s (at + 4 + 2 * i)) x k found₁ found₂ →
            Visiting s x rule k found found₂ (i + 1)
        visit-next d = record {
          tables = d.tables;
          grown = grown-both v.grown d.grown;
          led = λ m h l. elim (ℕ_discrete m i) [
            | yes e ↦
                rw (e, ← literal-here, ← v.grown.kept k q.going.known)
                (d.led (rw (e, ← literal-here) at l))
            | no o ↦ d.grown.still _ (v.led m (omega arith) l)
          ];
        }

    -- and in the end each has
    pub visit-end : {len : ℕ} → len ≡ u16 s (at + 2) → {found₁ : Search} {i : ℕ} →
        Visiting s x rule k found found₁ i → len ≤ i → VisitDone s x rule k found found₁
    visit-end {len} size {i = i} v h = record {
      tables = v.tables;
      grown = v.grown;
      led = record {
        each = λ l m b.
            let (j, low, e) = mem-of-upto _ (literal_at s (start_of s rule)) (rw (body_is s rule q.going.is_rule) at m) in
            let z : len ≡ u16 s (start_of s rule + 2) = size ∙ ap (λ a. u16 s (a + 2)) q.start in
            rw e (v.led j (omega arith) (rw e at b));
      };
    }

-- ---- the rules of an atom

-- those before rule j have led to their places, and it is one of them
pub record Expanding
    (s : List ℕ) (x k : ℕ) (found found₁ : Search) (j : ℕ) : Type 0 where
  pub tables : Tables s x found₁
  pub grown : Grown found found₁
  pub within : j ≤ R s
  pub here : j < R s → head_at s j ≡ F s + get_or found.queue k 0 / 2
  pub led : (i : ℕ) → i < j → head_at s i ≡ F s + get_or found.queue k 0 / 2 → Led s x found₁ (get_or found.queue k 0) i

module _
    {s : List ℕ} {rules : Rules} {x k : ℕ} {found : Search} (q : ExpandAsked s rules x k found)
  where
    -- the entry is one of the tables',
    pub expand-entry : k < 1024
    expand-entry = omega (arith, q.known, q.indexed.formed.derived, trail-few q.tables.trail)

    -- its atom has a place in the index,
    pub expand-atom : {facts p : ℕ} → facts ≡ F s → p ≡ get_or found.queue k 0 → facts + p / 2 < 544
    expand-atom f e = omega (arith, q.indexed.formed.facts, q.indexed.formed.derived, q.tables.trail.inside k q.known)

    -- and its first rule is the first to have its turn
    pub expand-start : {facts p j : ℕ} → facts ≡ F s → p ≡ get_or found.queue k 0 → j ≡ get_or rules.first (facts + p / 2) 0 →
        Expanding s x k found found j
    expand-start {facts} {p} {j} f e g =
        let n : Next s (facts + p / 2) 0 j = rw g (q.indexed.index.head (facts + p / 2) (expand-atom f e)) in
        let same : facts + p / 2 ≡ F s + get_or found.queue k 0 / 2 = rw (e, f) in
        record {
          tables = q.tables;
          grown = grown-none;
          within = n.within;
          here = λ h. n.here h ∙ same;
          led = λ i h l. absurd (n.none i (omega arith) h (l ∙ sym same));
        }

    module _
        {found₁ : Search} {j count : ℕ} (v : Expanding s x k found found₁ j)
        (all : count ≡ R s) (more : j < count)
      where
        below : j < R s
        below = omega arith

        -- the rule has a place in the index,
        pub expand-short : j < 2048
        expand-short = omega (arith, below, q.indexed.formed.rules)

        -- may be visited,
        pub expand-asked : {at : ℕ} → at ≡ get_or rules.starts j 0 → VisitAsked s at x j k found₁
        expand-asked e = record {
          going = record {
            formed = q.indexed.formed;
            low = q.low;
            is_rule = below;
            known = omega (arith, q.known, v.grown.more);
            head = rw (v.grown.kept k q.known) (head-is s j below ∙ v.here below);
            tables = v.tables;
          };
          start = e ∙ q.indexed.index.starts_are.start j below;
        }

        after : {i : ℕ} → i ≡ get_or rules.later j 0 → Next s (head_at s j) (j + 1) i
        after e = rw e (q.indexed.index.next j below)

        -- and comes before the next one,
        pub expand-later : {i : ℕ} → i ≡ get_or rules.later j 0 → j < i
        expand-later e = omega (arith, (after e).from)

        -- which is then the first to have its turn;
        pub expand-next : {found₂ : Search} {i : ℕ} → i ≡ get_or rules.later j 0 →
            VisitDone s x j k found₁ found₂ → Expanding s x k found found₂ i
        expand-next {i = i} e d =
            let a = after e in
            let p = v.grown.kept k q.known in
            record {
              tables = d.tables;
              grown = grown-both v.grown d.grown;
              within = a.within;
              here = λ h. a.here h ∙ v.here below;
              led = λ m h l. elim (ℕ_discrete m j) [
                | yes z ↦ rw (z, ← p) d.led
                | no o ↦ early a d m h l (λ u. o u)
              ];
            }
          where
            early : {found₂ : Search} {i : ℕ} → Next s (head_at s j) (j + 1) i →
                VisitDone s x j k found₁ found₂ →
                (m : ℕ) → m < i → head_at s m ≡ F s + get_or found.queue k 0 / 2 → (m ≡ j → ⊥) → Led s x found₂ (get_or found.queue k 0) m
            early a d m h l o = elim (dec_lt m j) [
              | yes z ↦ led-grown d.grown (v.led m z l)
              | no z ↦ absurd (a.none m (omega arith) h (l ∙ sym (v.here below)))
            ]

    -- in the end all have had theirs
    pub expand-end : {found₁ : Search} {j count : ℕ} →
        Expanding s x k found found₁ j → count ≡ R s → count ≤ j → ExpandDone s x k found found₁
    expand-end v e h = record {
      tables = v.tables;
      grown = v.grown;
      all = record { led = λ i l d. v.led i (omega arith) (sym (head-is s i l) ∙ d) };
    }
