-- Lines written one behind the other, in a loop.
use Rattle.std.specs.Prelude.{◌≡◌, refl, List, ◌++◌, ℕ, zero, suc, ◌+◌, ◌*◌, ◌≤◌, ◌<◌, length}
use Rattle.std.proofs.Common.{ap₂, ◌∙◌, arith, add-one, length-append}
use Rattle.text.specs.Text.{lines}
use Rattle.text.specs.Writes.{Writes}
use Rattle.text.specs.declared.Writer.{Writer}
use Rattle.text.specs.Laws.Wrote.{wrote-length}
use Rattle.text.specs.Laws.Writes.{writes_then, writes_nothing, writes-is}

-- the same lines make the same text,
pub lines_same : (n : ℕ) (f g : ℕ → List ℕ) → ((i : ℕ) → i < n → f i ≡ g i) → lines n f ≡ lines n g
unfolding lines
lines_same zero f g e = refl
lines_same (suc i) f g e = ap₂ ◌++◌ (lines_same i f g (λ k h. e k (omega arith))) (e i (omega arith))

-- and lines of at most so many bytes a text of at most so many for each
pub lines-most : (n : ℕ) (f : ℕ → List ℕ) (most : ℕ) → ((i : ℕ) → i < n → length (f i) ≤ most) → length (lines n f) ≤ n * most
unfolding lines
lines-most zero f most h = omega arith
lines-most (suc i) f most h =
    omega (arith, length-append (lines i f) (f i), lines-most i f most (λ k l. h k (omega arith)), h i (omega arith))

-- the first n lines are written, with at most so many bytes for each
pub record Listed (w w₁ : Writer) (n most : ℕ) (line : ℕ → List ℕ) : Type 0 where
  pub writes : Writes w w₁ (lines n line)
  pub near : w₁.at ≤ w.at + n * most
  pub size : length w₁.out.now ≡ length w.out.now

-- none yet,
pub listed-none : {w : Writer} (most : ℕ) (line : ℕ → List ℕ) → w.at ≤ length w.out.now → Listed w w 0 most line
unfolding lines
listed-none {w} most line h = record { writes = writes_nothing w h; near = omega arith; size = refl }

module _ {w w₁ : Writer} {n most : ℕ} {line : ℕ → List ℕ} (l : Listed w w₁ n most line) where
  -- one more,
  pub listed_more : {w₂ : Writer} {text : List ℕ} → Writes w₁ w₂ text → text ≡ line n → length text ≤ most →
      Listed w w₂ (n + 1) most line
  unfolding lines
  listed_more v e h =
      rw (add-one n) (record {
        writes = writes_then l.writes (writes-is v e);
        near = omega (arith, l.near, v.wrote.end);
        size = wrote-length v.wrote ∙ l.size;
      })

  -- all of them
  pub listed-all : {all : ℕ} → n ≤ all → all ≤ n → Writes w w₁ (lines all line)
  listed-all {all} le ge = let same : n ≡ all = omega arith in rw (← same) l.writes
