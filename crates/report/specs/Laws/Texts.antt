-- Each text that only the reading program prints, written part by part, and how long it can be.
use Rattle.std.specs.Prelude.{◌≡◌, List, ◌++◌, ℕ, ◌+◌, ◌≤◌, ◌<◌, length}
use Rattle.std.proofs.Common.{append_assoc, arith, length-append}
use Rattle.text.specs.Text.{ascii, decimal}
use Rattle.text.specs.Wrote.{Wrote}
use Rattle.text.specs.Writes.{Writes, WritesNamed}
use Rattle.text.specs.declared.Writer.{Writer}
use Rattle.text.specs.Laws.Decimal.{decimal-most, decimal-short}
use Rattle.text.specs.Laws.Parts.{pair-most}
use Rattle.text.specs.Laws.Wrote.{Named, wrote_then, wrote-is}
use Rattle.text.specs.Laws.Writes.{writes_then, writes-is}
use Rattle.report.specs.Report.{full_text, header, weight_line}

-- ---- parts that make a text, in the output and of a writer

pub full-wrote : {out out₁ out₂ : List ℕ} {a r u : ℕ} → Named out out₁ 0 a (ascii "full ") u → Wrote out₁ out₂ a r (ascii "\n") →
    Wrote out out₂ 0 r (full_text u)
unfolding full_text
full-wrote v w = wrote_then v.wrote w

pub full-writes : {w w₁ w₂ : Writer} {u : ℕ} → WritesNamed w w₁ (ascii "full ") u → Writes w₁ w₂ (ascii "\n") → Writes w w₂ (full_text u)
unfolding full_text
full-writes v t = writes_then v.writes t

-- four pairs and a last part, one after another
regroup : (a b c d e f g h i : List ℕ) →
    (((a ++ b) ++ (c ++ d)) ++ (e ++ f)) ++ (g ++ h) ++ i ≡ a ++ b ++ c ++ d ++ e ++ f ++ g ++ h ++ i
regroup a b c d e f g h i = simp append_assoc

pub header-wrote : {out out₁ out₂ out₃ out₄ out₅ : List ℕ} {a b c e r f : ℕ} (d : ℕ) {t u : ℕ} →
    Named out out₁ 0 a (ascii "atoms ") (f + d) → Named out₁ out₂ a b (ascii " facts ") f → Named out₂ out₃ b c (ascii " total ") t →
    Named out₃ out₄ c e (ascii " updates ") u → Wrote out₄ out₅ e r (ascii "\n") → Wrote out out₅ 0 r (header f d t u)
unfolding header
header-wrote {f = f} d {t} {u} p q v w x =
    wrote-is (wrote_then (wrote_then (wrote_then (wrote_then p.wrote q.wrote) v.wrote) w.wrote) x)
    (regroup (ascii "atoms ") (decimal (f + d)) (ascii " facts ") (decimal f) (ascii " total ") (decimal t) (ascii " updates ") (decimal u)
    (ascii "\n"))

pub header-writes : {w w₁ w₂ w₃ w₄ w₅ : Writer} {f : ℕ} (d : ℕ) {t u : ℕ} →
    WritesNamed w w₁ (ascii "atoms ") (f + d) → WritesNamed w₁ w₂ (ascii " facts ") f → WritesNamed w₂ w₃ (ascii " total ") t →
    WritesNamed w₃ w₄ (ascii " updates ") u → Writes w₄ w₅ (ascii "\n") → Writes w w₅ (header f d t u)
unfolding header
header-writes {f = f} d {t} {u} p q v r x =
    writes-is (writes_then (writes_then (writes_then (writes_then p.writes q.writes) v.writes) r.writes) x)
    (regroup (ascii "atoms ") (decimal (f + d)) (ascii " facts ") (decimal f) (ascii " total ") (decimal t) (ascii " updates ") (decimal u)
    (ascii "\n"))

-- ---- lengths

-- a header, with 20 digits for each number,
pub header-most : (f d t u : ℕ) → length (header f d t u) ≤ 128
unfolding header
header-most f d t u =
    simp length-append (omega (arith, decimal-most (f + d), decimal-most f, decimal-most t, decimal-most u))

-- and a line of an atom, with 3 for the atom and 20 for the weight
pub line-most : (a w : ℕ) → a < 1000 → length (weight_line a w) ≤ 25
line-most a w h = pair-most a w (decimal-short 2 a h) (decimal-most w)
