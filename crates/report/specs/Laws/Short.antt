-- No text is longer than the output that `report` asks for.
use Rattle.std.specs.Prelude.{Ok, Err, ◌≡◌, refl, List, ℕ, ◌≤◌, length}
use native.Mathlib.Omega.{arith}
use Rattle.std.proofs.Math.ListN.{length-append}
use Rattle.meaning.specs.Meaning.{Program, atoms, total}
use Rattle.format.specs.File.{decode}
use Rattle.format.specs.Refusals.{Verdict, verdict, number, detail}
use Rattle.format.specs.Laws.Accepted.{passed}
use Rattle.update.specs.Update.{Store}
use Rattle.rounds.specs.Load.{Loaded, loaded, load_full, load}
use Rattle.rounds.specs.Run.{How, Finished, Spent, Full, run}
use Rattle.questions.specs.Questions.{weight_so_far}
use Rattle.text.specs.Laws.Decimal.{decimal-most}
use Rattle.text.specs.Laws.Lines.{lines-most}
use Rattle.text.specs.Laws.Parts.{refused-most}
use Rattle.report.specs.Report.{full_text, header, weight_line, weight_lines, finished_text, end_text, loaded_text, verdict_text, said}
use Rattle.report.specs.Laws.Answer.{accepted-few}
use Rattle.report.specs.Laws.Texts.{header-most, line-most}

full-short : (u : ℕ) → length (full_text u) ≤ 64
unfolding full_text
full-short u = simp length-append (omega (arith, decimal-most u))

module _ (P : Program) (few : atoms P ≤ 544) where
  finished-short : (updates : ℕ) (weight : ℕ → ℕ) → length (finished_text P updates weight) ≤ 16384
  unfolding finished_text
  finished-short updates weight =
      let first = header (length P.facts) (length P.layers) (total P.facts) updates in
      omega (
        arith,
        length-append first (weight_lines (atoms P) weight),
        header-most (length P.facts) (length P.layers) (total P.facts) updates,
        lines-most (atoms P) (λ a. weight_line a (weight a)) 25 (λ a h. line-most a (weight a) (omega arith)),
      )

  end_short : (h : How) (updates : ℕ) (st : Store) → length (end_text P h updates st) ≤ 16384
  end_short Finished updates st = finished-short updates (weight_so_far P st)
  end_short Spent updates st = omega (arith, full-short updates)
  end_short Full updates st = omega (arith, full-short updates)

  loaded-short : (l : Loaded) → length (loaded_text P l) ≤ 16384
  loaded-short (loaded st k) = let g = run P 4096 262656 k st in end_short g.how g.updates g.store
  loaded-short load_full = omega (arith, full-short 0)

verdict-short : (s : List ℕ) (v : Verdict) → verdict s ≡ v → length (verdict_text s v) ≤ 16384
verdict-short s (Err w) e = omega (arith, refused-most (number w) (detail w))
verdict-short s (Ok a) e = loaded-short (decode s) (accepted-few (passed s e)) (load (decode s) 4096)

-- every text has room
pub said-length : (s : List ℕ) → length (said s) ≤ 16384
unfolding said
said-length s = verdict-short s (verdict s) refl
