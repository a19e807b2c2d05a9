-- C's numbers of a refusal and of a result (document 01, "Refusal numbers").
use Rattle.std.specs.Prelude.{ℕ, Result, Ok, Err}
use Rattle.format.specs.Refusals.{number, detail}
use Rattle.calls.specs.declared.refusal.Refusal.{Refusal}
use Rattle.calls.specs.declared.refusal.Refusal.TheVariants.{
  File,
  Full,
  NoAtom,
  NotInWork,
  Unsettled,
  Finished,
  Unfinished,
  Evidence,
  Numbers,
  NoWeight,
  Output,
  Unfit,
}

-- each refusal's number, with the words of its row
abbrev pub number_of : Refusal → ℕ
number_of (File w) = number w  -- 1 to 11
number_of Full = 12  -- "full"
number_of NoAtom = 13  -- "no such atom"
number_of NotInWork = 14  -- "atom not of the layer in work"
number_of (Unsettled a) = 15  -- "closing: the layer isn't settled"
number_of Finished = 16  -- "closing a finished run"
number_of Unfinished = 17  -- "not finished"
number_of Evidence = 18  -- "over 64 evidence literals"
number_of Numbers = 19  -- "fewer than N + 2 working numbers"
number_of NoWeight = 20  -- "evidence of weight 0"
number_of Output = 21  -- "listing longer than the output"
number_of Unfit = 36  -- "fewer than 544 atom places; in later calls, anything that doesn't fit together"

-- "a detail (0 where none is named)"; of 15 "first atom"
abbrev pub detail_of : Refusal → ℕ
detail_of (File w) = detail w
detail_of Full = 0
detail_of NoAtom = 0
detail_of NotInWork = 0
detail_of (Unsettled a) = a
detail_of Finished = 0
detail_of Unfinished = 0
detail_of Evidence = 0
detail_of Numbers = 0
detail_of NoWeight = 0
detail_of Output = 0
detail_of Unfit = 0

-- the number that C gets with a result, 0 where it is no refusal,
abbrev pub number_in : {T : Type 0} → Result T Refusal → ℕ
number_in (Ok x) = 0
number_in (Err w) = number_of w

-- and the detail
abbrev pub detail_in : {T : Type 0} → Result T Refusal → ℕ
detail_in (Ok x) = 0
detail_in (Err w) = detail_of w
