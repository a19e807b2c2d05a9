-- `format::validate::check_by` meets its contract: after each part, the tests that are left answer what the whole check answers.
use Rattle.std.proofs.Common.{◌≡◌, Bool, List, ℕ, sym, subst, arith, Some}
use Rattle.std.proofs.lemmas.Result.{err_from_is_err_and}
use Rattle.format.specs.Refusals.{Test, verdict_by}
use Rattle.format.specs.Checked.{Totalled}
use Rattle.format.specs.Laws.FactsRead.{weighted}
use Rattle.format.specs.Laws.Whole.{
  after1,
  after2,
  after3,
  after4,
  after5,
  after6,
  after7,
  Left,
  unfit,
  sized,
  passes,
  refuses,
  refuses-last,
  accepts,
  total-passes,
  total-fails,
  framed,
}
use Rattle.format.proofs.validate.check_by.Goals as goal
use Rattle.format.proofs.validate.check_by.Goals.{
  Start,
  Else-file-gt65536,
  After-of-program,
  In_ok-counts,
  In_ok-offsets,
  In_ok-weightless,
  In_ok-total,
  In_ok-layerless,
}

abbrev LeftAt : (c : Start) → List ℕ → (Bool → List ℕ → List Test) → Type 0
LeftAt c s after = Left (verdict_by c.args.layered c.args.file.now) s (after c.args.layered s)

left1 : (c : Else-file-gt65536) → LeftAt (goal.at.Else-file-gt65536 c).Start c.args.file.now after1
left1 c = sized c.args.layered c.args.file.now c.if-file-lt28.false c.if-file-gt65536.false

left2 : (c : After-of-program) → LeftAt (goal.at.After-of-program c).Start c.of-program.result.file.now after2
left2 c =
    subst (λ f. LeftAt (goal.at.After-of-program c).Start f.now after2) (sym c.of-program.ensures)
    (passes _ _ (left1 (goal.at.After-of-program c).Else-file-gt65536) c.in_ok-contents.ensures)

left3 : (c : In_ok-counts) → LeftAt (goal.at.In_ok-counts c).Start c.of-program.result.file.now after3
left3 c = passes _ _ (left2 (goal.at.In_ok-counts c).After-of-program) c.in_ok-counts.ensures

left4 : (c : In_ok-offsets) → LeftAt (goal.at.In_ok-offsets c).Start c.of-program.result.file.now after4
left4 c = passes _ _ (left3 (goal.at.In_ok-offsets c).In_ok-counts) c.in_ok-offsets.ensures

left5 : (c : In_ok-weightless) → LeftAt (goal.at.In_ok-weightless c).Start c.of-program.result.file.now after5
left5 c = passes _ _ (left4 (goal.at.In_ok-weightless c).In_ok-offsets) c.in_ok-weightless.ensures

totalled : (c : In_ok-total) → Totalled c.of-program.result.file.now (Some c.in_ok-total.total)
totalled c = let e : c.product.result ≡ Some c.in_ok-total.total = grind arith in rw e at c.product.ensures

left6 : (c : In_ok-total) → LeftAt (goal.at.In_ok-total c).Start c.of-program.result.file.now after6
left6 c = passes _ _ (left5 (goal.at.In_ok-total c).In_ok-weightless) (total-passes c.of-program.result.file.now (totalled c))

left7 : (c : In_ok-layerless) → LeftAt (goal.at.In_ok-layerless c).Start c.of-program.result.file.now after7
left7 c = passes _ _ (left6 (goal.at.In_ok-layerless c).In_ok-total) c.in_ok-layerless.ensures

pub returns-then-file-lt28 : goal.returns-then-file-lt28
returns-then-file-lt28 c = unfit c.args.layered c.args.file.now (λ h k. omega arith)

pub returns-in_err-contents : goal.returns-in_err-contents
returns-in_err-contents c =
    let p = err_from_is_err_and c.from_residual.result c.from_residual.ensures.1 in
    rw (p.1, p.2) (refuses _ _ (left1 (goal.at.returns-in_err-contents c).Else-file-gt65536) c.in_err-contents.ensures)

pub returns-in_err-counts : goal.returns-in_err-counts
returns-in_err-counts c =
    let p = err_from_is_err_and c.from_residual-in_err-counts.result c.from_residual-in_err-counts.ensures.1 in
    rw (p.1, p.2) (refuses _ _ (left2 (goal.at.returns-in_err-counts c).After-of-program) c.in_err-counts.ensures)

pub returns-in_err-offsets : goal.returns-in_err-offsets
returns-in_err-offsets c =
    let p = err_from_is_err_and c.from_residual-in_err-offsets.result c.from_residual-in_err-offsets.ensures.1 in
    rw (p.1, p.2) (refuses _ _ (left3 (goal.at.returns-in_err-offsets c).In_ok-counts) c.in_err-offsets.ensures)

pub invariant_of-tables : goal.invariant_of-tables
invariant_of-tables c = record {
  framed =
      framed c.of-program.result.file.now (rw c.of-program.ensures c.if-file-gt65536.false) c.in_ok-counts.ensures c.in_ok-offsets.ensures;
}

pub returns-in_err-weightless : goal.returns-in_err-weightless
returns-in_err-weightless c =
    let p = err_from_is_err_and c.from_residual-in_err-weightless.result c.from_residual-in_err-weightless.ensures.1 in
    rw (p.1, p.2) (refuses _ _ (left4 (goal.at.returns-in_err-weightless c).In_ok-offsets) c.in_err-weightless.ensures)

pub product-requires : goal.product-requires
product-requires c = weighted c.of-program.result.file.now c.in_ok-weightless.ensures

pub returns-in_err-total : goal.returns-in_err-total
returns-in_err-total c =
    let p = err_from_is_err_and c.from_residual-in_err-total.result c.from_residual-in_err-total.ensures.1 in
    rw (p.1, p.2)
    (refuses _ _ (left5 (goal.at.returns-in_err-total c).In_ok-weightless)
    (total-fails c.of-program.result.file.now c.product.result c.product.ensures c.in_err-total.ensures.value))

pub returns-in_err-layerless : goal.returns-in_err-layerless
returns-in_err-layerless c =
    let p = err_from_is_err_and c.from_residual-in_err-layerless.result c.from_residual-in_err-layerless.ensures.1 in
    rw (p.1, p.2) (refuses _ _ (left6 (goal.at.returns-in_err-layerless c).In_ok-total) c.in_err-layerless.ensures)

pub returns-in_err-misruled : goal.returns-in_err-misruled
returns-in_err-misruled c =
    let p = err_from_is_err_and c.from_residual-in_err-misruled.result c.from_residual-in_err-misruled.ensures.1 in
    rw (p.1, p.2)
    (refuses-last c.args.layered c.of-program.result.file.now (left7 (goal.at.returns-in_err-misruled c).In_ok-layerless)
    c.in_err-misruled.ensures)

pub returns : goal.returns
returns c =
    let p = c.of-program.result.counted in
    accepts c.args.layered c.of-program.result.file.now (left7 (goal.at.returns c).In_ok-layerless) c.in_ok-misruled.ensures
    p.facts_are p.derived_are p.rules_are
    (totalled (goal.at.returns c).In_ok-total).0
