-- The text by the verdict of the check.
use Rattle.std.specs.Prelude.{Ok, Err, ◌≡◌, List, ℕ}
use Rattle.std.proofs.Common.{sym, ◌∙◌}
use Rattle.std.proofs.Math.Path.{ap, ap₂}
use Rattle.format.specs.File.{decode}
use Rattle.format.specs.Refusals.{Verdict, verdict, number, detail}
use Rattle.format.specs.Laws.Accepted.{passed, accepted-counts}
use Rattle.format.specs.declared.Refusal.{Refusal}
use Rattle.format.specs.declared.Accepted.{Accepted}
use Rattle.rounds.specs.Load.{load}
use Rattle.text.specs.Text.{refused_text}
use Rattle.report.specs.Report.{loaded_text, verdict_text, said}
use Rattle.report.specs.Asked.{Accepts}

module _ (s : List ℕ) {v : Verdict} (e : v ≡ verdict s) where
  module _ {a : Accepted} (is : v ≡ Ok a) where
    -- an accepted file has passed its check, and its total is the verdict's
    pub accepts : Accepts s a.total
    accepts = record { passed = passed s (sym e ∙ is); whole_is = (accepted-counts s (sym e ∙ is)).3 }

    -- its text is that of loading
    pub accepted-said : loaded_text (decode s) (load (decode s) 4096) ≡ said s
    unfolding said
    accepted-said = ap (verdict_text s) (sym is ∙ e)

  -- a refused one's text tells its number and detail
  pub refused-said : {w : Refusal} {n d : ℕ} → v ≡ Err w → n ≡ number w → d ≡ detail w → refused_text n d ≡ said s
  unfolding said
  refused-said is p q = ap₂ refused_text p q ∙ ap (verdict_text s) (sym is ∙ e)
