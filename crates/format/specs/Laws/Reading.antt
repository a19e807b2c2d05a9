-- Reading back what was written: where a list stands within a file, the file's numbers there are the list's.
-- `Stands s at x` goes through `++` to the parts, and so through entry after entry of a list that was encoded.
use Rattle.std.specs.Prelude.{◌≡◌, refl, length}
use Rattle.std.proofs.Common.{sym, ap₂, ◌∙◌, zero-add, add_assoc, get_or-append-add, ext_get_or}
use mathlib.Core.List.{List, [], ◌∷◌, ◌++◌, map, flatten, Memᴰ}
use Prim.Native.Nat.{ℕ, suc, ◌+◌, ◌/◌, ◌%◌, ◌<◌}
use native.Mathlib.Omega.{arith}
use Rattle.std.proofs.Math.Nat.{add-zero}
use Rattle.std.proofs.Math.ListN.{length-append, get_or-append}
use Rattle.meaning.specs.Lists.{upto}
use Rattle.meaning.proofs.Laws.Tests.{length-upto, get_or-upto}
use Rattle.format.specs.Bytes.{byte, u16}
use Rattle.format.specs.Encode.{two}

-- the list x stands in s from `at` on
pub record Stands (s : List ℕ) (at : ℕ) (x : List ℕ) : Type 0 where
  pub bytes : (i : ℕ) → i < length x → byte s (at + i) ≡ byte x i

-- a list stands in itself from 0 on
pub stands-whole : (s : List ℕ) → Stands s 0 s
stands-whole s = record { bytes = λ i q. rw zero-add }

module _ {s : List ℕ} {at : ℕ} where
  -- the first part of what stands at `at` stands there,
  pub stands-left : (x y : List ℕ) → Stands s at (x ++ y) → Stands s at x
  stands-left x y h = record {
    bytes = λ i q. h.bytes i (omega (arith, length-append x y)) ∙ get_or-append x y 0 i q;
  }

  -- and the second part after the first
  pub stands-right : (x y : List ℕ) → Stands s at (x ++ y) → Stands s (at + length x) y
  stands-right x y h = record {
    bytes = λ i q. rw add_assoc (h.bytes (length x + i) (omega (arith, length-append x y)) ∙ get_or-append-add x y i 0);
  }

  -- the same place, otherwise written
  pub stands_at : {b : ℕ} {x : List ℕ} → at ≡ b → Stands s at x → Stands s b x
  stands_at e h = rw e at h

  -- two bytes read back
  pub u16-two : (n : ℕ) → Stands s at (two n) → u16 s at ≡ n
  unfolding two u16
  u16-two n h =
      let low : byte s at ≡ n % 256 = rw add-zero at (h.bytes 0 (omega arith)) in
      let high : byte s (at + 1) ≡ n / 256 = h.bytes 1 (omega arith) in
      omega arith

  -- a list of bytes read back
  pub upto-bytes : (x : List ℕ) → Stands s at x → upto (length x) (λ i. byte s (at + i)) ≡ x
  upto-bytes x h = ext_get_or 0 _ _ size (λ i q. let p : i < length x = omega (arith, size) in get_or-upto _ _ 0 i p ∙ h.bytes i p)
    where
      size : length (upto (length x) (λ i. byte s (at + i))) ≡ length x
      size = length-upto (length x) (λ i. byte s (at + i))

module _ {A : Type 0} (s : List ℕ) (encode : A → List ℕ) where
  -- entries read back one after another: f reads the entry that stands at each place, and the next place is right after it
  pub each_read :
      (l : List A) (f : ℕ → A) (place : ℕ → ℕ) → Stands s (place 0) (flatten (map encode l)) →
      ((i : ℕ) (x : A) → Memᴰ x l → Stands s (place i) (encode x) → (f i ≡ x) × (place (suc i) ≡ place i + length (encode x))) →
      (upto (length l) f ≡ l) × (place (length l) ≡ place 0 + length (flatten (map encode l)))
  unfolding upto flatten
  each_read [] f place h r = (refl, omega arith)
  each_read (x ∷ l) f place h r =
      let rest : List ℕ = flatten (map encode l) in
      let (e, n) = r 0 x (Memᴰ.head refl) (stands-left (encode x) rest h) in
      let next : Stands s (place 1) rest = stands_at (sym n) (stands-right (encode x) rest h) in
      let (es, ends) = each_read l (λ i. f (suc i)) (λ i. place (suc i)) next (λ i y m. r (suc i) y (Memᴰ.tail m)) in
      (ap₂ ◌∷◌ e es, omega (arith, length-append (encode x) rest))
