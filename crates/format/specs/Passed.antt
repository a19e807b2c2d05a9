-- What a file that has passed its check is known to hold: what every test asks for, as orders of numbers (Laws/Accepted).
use Rattle.std.specs.Prelude.{◌≡◌, Bool, true, false, ◌&&◌, List, ℕ, suc, ◌+◌, ◌≤◌, ◌<◌, length}
use Rattle.meaning.specs.Meaning.{total}
use Rattle.format.specs.Bytes.{byte, u16, u32}
use Rattle.format.specs.File.{F, D, R, fact_at, layers_at, rules_at, start_of, literal_at, decode}
use Rattle.format.specs.Refusals.{largest, breaks}

-- the contents have the layout, the kinds and the offsets of the table
pub record RightContents (s : List ℕ) : Type 0 where
  pub layout : u16 s 0 ≡ 1
  pub entries : u16 s 2 ≡ 3
  pub kind_1 : u16 s 4 ≡ 1
  pub kind_2 : u16 s 12 ≡ 2
  pub kind_3 : u16 s 20 ≡ 3
  pub offset_1 : u32 s 8 ≡ 28
  pub offset_2 : u32 s 16 ≡ layers_at s
  pub offset_3 : u32 s 24 ≡ rules_at s

-- rule j has passed 8 to 10: it lies within the file, its head is a derived atom, its literals' atoms are known
pub record PassedRule (s : List ℕ) (j : ℕ) : Type 0 where
  pub header : start_of s j + 4 ≤ length s
  pub body : u16 s (start_of s j + 2) ≤ 16
  pub inside : start_of s (suc j) ≤ length s
  pub derived : F s ≤ u16 s (start_of s j)
  pub below : u16 s (start_of s j) < F s + D s
  pub known : (i : ℕ) → i < u16 s (start_of s j + 2) → (literal_at s (start_of s j) i).atom < F s + D s

-- the file has passed every test but 11, and where layered 11 too
pub record PassedBy (layered : Bool) (s : List ℕ) : Type 0 where
  pub long : 28 ≤ length s
  pub short : length s ≤ 65536
  pub contents : RightContents s
  pub facts : F s ≤ 32
  pub derived : D s ≤ 512
  pub rules : R s ≤ 2048
  pub fits : rules_at s ≤ length s
  pub weights : (i : ℕ) → i < F s → 0 < (fact_at s i).on + (fact_at s i).off
  pub whole : total (decode s).facts ≤ largest
  pub layers : (i : ℕ) → i < D s → 0 < byte s (layers_at s + i)
  pub rule : (j : ℕ) → j < R s → PassedRule s j
  pub ends : start_of s (R s) ≡ length s
  pub keeps :
      (j : ℕ) → j < R s → (i : ℕ) → i < u16 s (start_of s j + 2) →
      (layered && breaks (decode s) (u16 s (start_of s j)) (literal_at s (start_of s j) i)) ≡ false

-- the file has passed every test,
abbrev pub Passed : List ℕ → Type 0
Passed s = PassedBy true s

-- or every test but 11: its literals may break the given layers
abbrev pub Formed : List ℕ → Type 0
Formed s = PassedBy false s
