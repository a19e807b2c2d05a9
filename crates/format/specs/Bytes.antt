-- Numbers in a list of bytes: "Little-endian".
use Rattle.std.specs.Prelude.{◌≡◌, List, ℕ, ◌+◌, ◌*◌, ◌<◌, get_or, length}

-- byte i; 0 past the end
abbrev pub byte : List ℕ → ℕ → ℕ
byte s i = get_or s i 0

-- the two bytes from i on
unfoldable pub u16 : List ℕ → ℕ → ℕ
u16 s i = byte s i + 256 * byte s (i + 1)

-- the four bytes from i on
unfoldable pub u32 : List ℕ → ℕ → ℕ
u32 s i = u16 s i + 65536 * u16 s (i + 2)

-- each entry is a byte
abbrev pub Bytes : List ℕ → Type 0
Bytes s = (i : ℕ) → i < length s → byte s i < 256

-- what reading one, two or four bytes gives
pub record Read8 (s : List ℕ) (at r : ℕ) : Type 0 where
  pub value : r ≡ byte s at
  pub small : r < 256

pub record Read16 (s : List ℕ) (at r : ℕ) : Type 0 where
  pub value : r ≡ u16 s at
  pub small : r < 65536

pub record Read32 (s : List ℕ) (at r : ℕ) : Type 0 where
  pub value : r ≡ u32 s at
  pub small : r < 4294967296
