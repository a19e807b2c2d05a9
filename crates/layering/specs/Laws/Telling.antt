-- The call's answer in numbers: each way out of it is one way of `LayersIs`.
use Rattle.std.specs.Prelude.{◌≡◌, refl, false, List, ℕ, ◌+◌, ◌*◌, ◌≤◌, length, Result, Ok, Err, ⊤}
use Rattle.std.proofs.Common.{sym, ap, ◌∙◌}
use Rattle.format.specs.Refusals.{Verdict, verdict_by, passes}
use Rattle.format.specs.Laws.Accepted.{formed, formed-counts}
use Rattle.format.specs.Passed.{Formed}
use Rattle.format.specs.declared.Refusal.{Refusal}
use Rattle.format.specs.declared.Accepted.{Accepted}
use Rattle.layering.specs.Told.{Done, Told, found_told, told_of, LayersIs, refused, found}
use Rattle.layering.specs.declared.Unlayered.{Unlayered}
use Rattle.layering.specs.declared.Unlayered.TheVariants.{High, Chain}
use Rattle.layering.specs.declared.Untold.TheVariants as untold

module _ (s out : List ℕ) (room : 2048 ≤ length out) {v : Verdict} (c : v ≡ verdict_by false s) where
  -- the check refuses,
  pub tell-refused : {w : Refusal} → v ≡ Err w → LayersIs s out out (told_of (Err (untold.Refused w)))
  tell-refused e = refused room (sym c ∙ e) refl refl

  -- or the layers are worked out,
  module _ {x : Accepted} (e : v ≡ Ok x) where
    pub tell-formed : Formed s
    tell-formed = formed s (sym c ∙ e)

    -- and told as they were found
    module _ {g : Result ⊤ Unlayered} {out₁ : List ℕ} (a : Done s out out₁ g) where
      pub tell-layers : {u : ⊤} → g ≡ Ok u → LayersIs s out out₁ (told_of (Ok x.derived))
      tell-layers is =
          found g room (ap passes (sym c ∙ e)) a
          ((λ i. record { refusal = 0; detail = 0; length = (formed-counts s (sym c ∙ e)).1 i }) ∙ ap (found_told s) (sym is))

      pub tell-high : {b : ℕ} → g ≡ Err (High b) → {r : Told} → r ≡ record { refusal = 37; detail = b; length = 0 } → LayersIs s out out₁ r
      tell-high is q = found g room (ap passes (sym c ∙ e)) a (q ∙ ap (found_told s) (sym is))

      pub tell-chain : {b n : ℕ} → g ≡ Err (Chain (record { atom = b; count = n })) →
          LayersIs s out out₁ (record { refusal = 24; detail = b; length = 2 + 2 * n })
      tell-chain is = found g room (ap passes (sym c ∙ e)) a (ap (found_told s) (sym is))

      pub tell-unlayered : {u : Unlayered} → g ≡ Err u → LayersIs s out out₁ (told_of (Err (untold.Unlayered u)))
      tell-unlayered is = found g room (ap passes (sym c ∙ e)) a (ap (found_told s) (sym is))
