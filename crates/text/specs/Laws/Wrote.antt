-- Text written in parts: what is written behind a text continues it, and the output's length stays.
use Rattle.std.specs.Prelude.{◌≡◌, refl, List, [], ◌++◌, ℕ, ◌+◌, ◌≤◌, ◌<◌, length, get_or, set, take, drop}
use Rattle.std.proofs.Common.{
  sym,
  ap,
  ◌∙◌,
  append_assoc,
  append-nil,
  arith,
  zero-add,
  add-one,
  length-append,
  length-drop,
  take-append-drop,
  length-take-le,
  take_at,
  drop-drop,
}
use Rattle.std.proofs.Math.Seq.{drop-append-add, paste, paste-zero, paste-suc, take-length}
use Rattle.text.specs.Wrote.{Wrote}
use Rattle.text.specs.Text.{decimal, Printed}

module _ {out out₁ : List ℕ} {at r : ℕ} {text : List ℕ} (w : Wrote out out₁ at r text) where
  -- what stands before the text, with it, ends at r
  wrote-front : length (take at out ++ text) ≡ r
  wrote-front =
      omega (arith, length-append (take at out) text, length-take-le at out (omega (arith, w.end, w.inside)), w.end)

  -- the length is as it was
  pub wrote-length : length out₁ ≡ length out
  wrote-length =
      ap length w.bytes ∙
      omega (arith, length-append (take at out ++ text) (drop r out), wrote-front, length-drop r out, w.inside)

  -- another text behind it continues it
  pub wrote_then : {out₂ : List ℕ} {e : ℕ} {more : List ℕ} → Wrote out₁ out₂ r e more → Wrote out out₂ at e (text ++ more)
  wrote_then {out₂} {e} {more} v =
      let front : List ℕ = take at out ++ text in
      let before : take r out₁ ≡ front = ap (take r) w.bytes ∙ take_at front (drop r out) r wrote-front in
      let end : e ≡ length front + length more = omega (arith, v.end, wrote-front) in
      let far : r + length more ≡ e = omega (arith, v.end) in
      let behind : drop e out₁ ≡ drop e out =
      ap (drop e) w.bytes ∙ ap (λ n. drop n (front ++ drop r out)) end ∙ drop-append-add front (drop r out) (length more) ∙
      drop-drop (length more) r out ∙ ap (λ n. drop n out) far in
      record {
        bytes = v.bytes ∙ rw (before, behind) (ap (λ l. l ++ drop e out) (append_assoc (take at out) text more));
        end = omega (arith, v.end, w.end, length-append text more);
        inside = omega (arith, v.inside, wrote-length);
      }

  -- a text is known by an equation
  pub wrote-is : {more : List ℕ} → text ≡ more → Wrote out out₁ at r more
  wrote-is e = rw (← e) w

-- nothing is written at first
pub wrote_nothing : (out : List ℕ) (at : ℕ) → at ≤ length out → Wrote out out at at []
wrote_nothing out at h = record {
  bytes = sym (rw append-nil (take-append-drop at out));
  end = omega arith;
  inside = h;
}

-- a word and a number behind it, which ends at most 20 digits behind the word
pub record Named (out out₁ : List ℕ) (at r : ℕ) (word : List ℕ) (n : ℕ) : Type 0 where
  pub wrote : Wrote out out₁ at r (word ++ decimal n)
  pub near : r ≤ at + length word + 20

-- ---- a copy, byte by byte

module _ (out : List ℕ) (at : ℕ) (text : List ℕ) where
  -- no byte has been copied yet,
  pub copy-none : out ≡ paste out at text 0
  copy-none = paste-zero out at text

  -- one more
  pub copy_more : (i : ℕ) {b : List ℕ} → at + length text ≤ length out → i < length text → b ≡ paste out at text i →
      set b (at + i) (get_or text i 0) ≡ paste out at text (i + 1)
  copy_more i room lt e = rw (e, add-one i) (paste-suc out at text i 0 (omega arith) lt)

  -- all of them
  pub copy-all : (i : ℕ) {b : List ℕ} → at + length text ≤ length out → i ≤ length text → length text ≤ i → b ≡ paste out at text i →
      Wrote out b at (at + length text) text
  copy-all i room le ge e =
      let same : i ≡ length text = omega arith in
      record { bytes = e ∙ rw (same, take-length) refl; end = refl; inside = room }

-- a text written from the output's start
pub wrote-printed : {text out out₁ : List ℕ} {r : ℕ} → Wrote out out₁ 0 r text → Printed text out out₁ r
wrote-printed {text} {out} {out₁} {r} w =
    let inside : r ≤ length out₁ = omega (arith, w.inside, wrote-length w) in
    record {
      bytes = w.bytes ∙ ap (λ n. text ++ drop n out) (w.end ∙ zero-add (length text));
      count = w.end ∙ zero-add (length text);
      counts = (inside, sym (length-take-le r out₁ inside));
    }
