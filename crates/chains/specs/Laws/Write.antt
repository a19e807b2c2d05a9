-- Writing the rules on the way to an entry, the last one first: what is written grows towards the front, and in the end their number
-- stands before them.
use Rattle.std.specs.Prelude.{◌≡◌, refl, ℕ, suc, ◌+◌, ◌*◌, ◌-◌, ◌/◌, ◌%◌, ◌≤◌, ◌<◌, length, get_or, set}
use Rattle.std.proofs.Math.Path.{sym}
use Rattle.std.proofs.Common.{ap, ◌∙◌, length-append, take-append-drop, drop-cons}
use mathlib.Core.List.{List, [], ◌∷◌, ◌++◌, map, flatten, append_assoc, append-nil}
use Rattle.std.proofs.Math.Decide.{ℕ_discrete}
use native.Mathlib.Omega.{arith}
use Rattle.std.proofs.Math.Numerals.{add-two}
use Rattle.std.proofs.Math.ListN.{take, drop}
use Rattle.std.proofs.Math.Seq.{length-take-le, take-take, drop-append_seam}
use Rattle.std.proofs.lemmas.List.{take-append-le, set_at, set_split}
use Rattle.format.specs.Encode.{two}
use Rattle.chains.specs.Calls.{way_to}
use Rattle.chains.specs.declared.search.Search.{Search}
use Rattle.chains.specs.Searching.{Counted, RulesAsked, RulesDone}
use Rattle.chains.specs.Laws.Way.{way-none, way_step, way-short}

-- two entries stored one behind the other
pub put_two : (out : List ℕ) (at n : ℕ) → at + 2 ≤ length out →
    set (set out at (n % 256)) (at + 1) (n / 256) ≡ take at out ++ (two n ++ drop (at + 2) out)
unfolding two
put_two out at n h =
    let first : set out at (n % 256) ≡ (take at out ++ (n % 256 ∷ [])) ++ drop (suc at) out =
    set_split out at (n % 256) (omega arith) ∙ sym (append_assoc (take at out) (n % 256 ∷ []) _) in
    let size : length (take at out ++ (n % 256 ∷ [])) ≡ at + 1 = simp length-append (omega (arith, length-take-le at out (omega arith))) in
    let second = set_at (take at out ++ (n % 256 ∷ [])) (get_or out (suc at) 0) (drop (suc (suc at)) out) (n / 256) (at + 1) size in
    rw (first, drop-cons out (suc at) 0 (omega arith), second, add-two)
    (append_assoc (take at out) (n % 256 ∷ []) _)

-- those past entry i are written, behind a front that is as it was
pub record Writing (from by out : List ℕ) (k n : ℕ) (out₁ : List ℕ) (i at : ℕ) : Type 0 where
  pub within : i ≤ k
  pub left : at ≡ length (way_to k from by i)
  pub long : length out₁ ≡ length out
  pub rest : List ℕ
  pub way : way_to k from by k ≡ way_to k from by i ++ rest
  pub bytes : out₁ ≡ take (2 + 2 * at) out ++ (flatten (map two rest) ++ drop (2 + 2 * n) out)

module _ (out out₁ : List ℕ) (n : ℕ) (rest : List ℕ) where
  -- behind the front stands what is written,
  behind : (at : ℕ) → 2 + 2 * at ≤ length out → out₁ ≡ take (2 + 2 * at) out ++ (flatten (map two rest) ++ drop (2 + 2 * n) out) →
      drop (2 * at + 2) out₁ ≡ flatten (map two rest) ++ drop (2 + 2 * n) out
  behind at h e =
      let tail = flatten (map two rest) ++ drop (2 + 2 * n) out in
      let size : 2 * at + 2 ≡ length (take (2 + 2 * at) out) = omega (arith, length-take-le (2 + 2 * at) out h) in
      rw (e, size) (drop-append_seam (take (2 + 2 * at) out) tail)

  -- and the front gives two of its bytes
  moved : (w at : ℕ) → 0 < at → 2 + 2 * at ≤ length out →
      out₁ ≡ take (2 + 2 * at) out ++ (flatten (map two rest) ++ drop (2 + 2 * n) out) →
      take (2 * at) out₁ ++ (two w ++ drop (2 * at + 2) out₁) ≡
      take (2 + 2 * (at - 1)) out ++ (flatten (map two (w ∷ rest)) ++ drop (2 + 2 * n) out)
  unfolding flatten
  moved w at p h e =
      let tail = flatten (map two rest) ++ drop (2 + 2 * n) out in
      let front : take (2 * at) out₁ ≡ take (2 * at) out =
      rw e (take-append-le (2 * at) (take (2 + 2 * at) out) tail (omega (arith, length-take-le (2 + 2 * at) out h)) ∙
      take-take (2 * at) (2 + 2 * at) out (omega arith)) in
      let back : 2 + 2 * (at - 1) ≡ 2 * at = omega arith in
      rw (front, behind at h e, back, append_assoc (two w) (flatten (map two rest)) (drop (2 + 2 * n) out))

module _ {found : Search} {out : List ℕ} {k : ℕ} (q : RulesAsked found out k) {n : ℕ} (c : Counted found.from k n) where
  abbrev way : ℕ → List ℕ
  way i = way_to k found.from found.by i

  -- the output has room for them
  pub write-few : n ≤ 1023
  write-few = omega (arith, c.count found.by, way-short q.falls found.by k k (omega arith), q.falls.few)

  -- none is written,
  pub write-start : Writing found.from found.by out k n out k n
  unfolding flatten
  write-start = record {
    within = omega arith;
    left = c.count found.by;
    long = refl;
    rest = [];
    way = sym (append-nil (way k));
    bytes = sym (take-append-drop (2 + 2 * n) out);
  }

  module _ {out₁ : List ℕ} {i at : ℕ} (v : Writing found.from found.by out k n out₁ i at) where
    -- then the last of those that are left
    last-is : 0 < i → way i ≡ way (get_or found.from i 0) ++ (get_or found.by i 0 ∷ [])
    last-is h = way_step q.falls found.by i h v.within

    -- (there is one where the entry is not the first),
    one_left : 0 < i → at ≡ length (way (get_or found.from i 0)) + 1
    one_left h = v.left ∙ rw (last-is h) (simp length-append (omega arith))

    at-few : at ≤ n
    at-few =
        let sum : length (way k) ≡ length (way i) + length v.rest = rw v.way (simp length-append) in
        omega (arith, v.left, c.count found.by)

    pub write-positive : 0 < i → 0 < at
    write-positive h = omega (arith, one_left h)

    module _ (more : 0 < at) where
      -- (where there is one, the entry is not the first),
      pub write-later : 0 < i
      write-later = elim (ℕ_discrete i 0) [
        | yes e ↦ let z : length (way i) ≡ 0 = rw (e, way-none k found.from found.by) refl in absurd (omega (arith, v.left))
        | no o ↦ omega arith
      ]

      -- for which there is room,
      pub write-room : 2 + 2 * (at - 1) + 2 ≤ length out₁
      write-room = omega (arith, at-few, write-few, v.long, q.room)

      -- one after another,
      pub write-next : {out₂ : List ℕ} → length out₂ ≡ length out₁ →
          out₂ ≡ take (2 + 2 * (at - 1)) out₁ ++ (two (get_or found.by i 0) ++ drop (2 + 2 * (at - 1) + 2) out₁) →
          Writing found.from found.by out k n out₂ (get_or found.from i 0) (at - 1)
      write-next same put =
          let front : 2 + 2 * (at - 1) ≡ 2 * at = omega arith in
          let w = get_or found.by i 0 in
          record {
            within = omega (arith, q.falls.back i write-later v.within, v.within);
            left = omega (arith, one_left write-later);
            long = same ∙ v.long;
            rest = w ∷ v.rest;
            way =
                v.way ∙ ap (λ l. l ++ v.rest) (last-is write-later) ∙
                append_assoc (way (get_or found.from i 0)) (w ∷ []) v.rest;
            bytes = rw front at put ∙ moved out out₁ n v.rest w at more (omega (arith, at-few, write-few, q.room)) v.bytes;
          }

    -- and in the end their number before them
    pub write-last : 2 ≤ length out₁
    write-last = omega (arith, v.long, q.room)

    pub write-end : at ≤ 0 → {out₂ : List ℕ} → out₂ ≡ take 0 out₁ ++ (two n ++ drop 2 out₁) → RulesDone found out out₂ k n
    write-end h {out₂} put = record { count = c.count found.by; bytes = put ∙ done }
      where
        first : i ≡ 0
        first = elim (ℕ_discrete i 0) [ yes e ↦ e | no o ↦ absurd (omega (arith, one_left (omega arith))) ]

        done : two n ++ drop 2 out₁ ≡ two n ++ (flatten (map two (way k)) ++ drop (2 + 2 * n) out)
        done =
            let none : at ≡ 0 = omega arith in
            let all : way k ≡ v.rest = v.way ∙ rw (first, way-none k found.from found.by) refl in
            let e = v.bytes in
            ap (λ l. two n ++ l) (rw none at (behind out out₁ n v.rest at (omega (arith, q.room)) e)) ∙ rw all refl
