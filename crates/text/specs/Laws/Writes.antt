-- A writer's text, part by part: what is written behind a text continues it.
use Rattle.std.specs.Prelude.{◌≡◌, refl, List, [], ◌++◌, ℕ, ◌≤◌, length}
use Rattle.std.proofs.Common.{◌∙◌}
use Rattle.text.specs.Writes.{Writes}
use Rattle.text.specs.declared.Writer.{Writer}
use Rattle.text.specs.Laws.Wrote.{wrote_then, wrote-is, wrote_nothing}

-- nothing is written at first
pub writes_nothing : (w : Writer) → w.at ≤ length w.out.now → Writes w w []
writes_nothing w h = record { wrote = wrote_nothing w.out.now w.at h; lent = refl }

module _ {w w₁ : Writer} {text : List ℕ} (v : Writes w w₁ text) where
  -- another text behind it continues it,
  pub writes_then : {w₂ : Writer} {more : List ℕ} → Writes w₁ w₂ more → Writes w w₂ (text ++ more)
  writes_then u = record { wrote = wrote_then v.wrote u.wrote; lent = u.lent ∙ v.lent }

  -- and a text is known by an equation
  pub writes-is : {more : List ℕ} → text ≡ more → Writes w w₁ more
  writes-is e = record { wrote = wrote-is v.wrote e; lent = v.lent }
