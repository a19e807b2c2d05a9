-- The diagram of a function: it is reduced and ordered, it says what the function says, and it is the only such diagram.
-- Fact by fact: with the first fact off the function is the low side's, with it on the high side's.
use Rattle.std.specs.Prelude.{◌≡◌, refl, Bool, true, false, cond, [], ◌∷◌, ℕ, zero, suc, ◌+◌, ◌-◌, length}
use Rattle.std.proofs.Common.{sym, ◌∙◌, arith, zero-add}
use Rattle.std.proofs.Math.Nat.{sub_self, sub-zero}
use Rattle.meaning.specs.Meaning.{Choice, has}
use Rattle.diagram.specs.Diagram.{Diagram, eval, says, Good, diagram_of}
use Rattle.diagram.proofs.Laws.Combine.{mk-good}
use Rattle.diagram.proofs.Laws.Means.{eval-mk, eval-below}
use Rattle.diagram.proofs.Laws.Canon.{canonical}
use Rattle.diagram.proofs.Laws.Weight.{says_from}

-- it is reduced and ordered,
pub of-good : (F n i : ℕ) (f : Choice → Bool) → i + n ≡ F → Good F i (diagram_of n i f)
unfolding diagram_of
of-good F zero i f e = tt
of-good F (suc n) i f e =
    mk-good F i i (diagram_of n (suc i) (λ c. f (false ∷ c))) (diagram_of n (suc i) (λ c. f (true ∷ c))) (omega arith) (omega arith)
    (of-good F n (suc i) (λ c. f (false ∷ c)) (omega arith)) (of-good F n (suc i) (λ c. f (true ∷ c)) (omega arith))

-- a diagram over later facts does not look at the first
later : (F i : ℕ) (d : Diagram) → Good F (suc i) d → (b : Bool) (c : Choice) → eval d (λ x. has (b ∷ c) (x - i)) ≡ says_from (suc i) d c
later F i d g b c = eval-below F (suc i) d g _ _ (λ x le lt. let e : x - i ≡ suc (x - suc i) = omega arith in rw e)

side : (f : Choice → Bool) (c : Choice) (b : Bool) {x y : Bool} → x ≡ f (true ∷ c) → y ≡ f (false ∷ c) → cond b x y ≡ f (b ∷ c)
side f c true p q = p
side f c false p q = q

of-from : (F n i : ℕ) (f : Choice → Bool) → i + n ≡ F → (c : Choice) → length c ≡ n → says_from i (diagram_of n i f) c ≡ f c
unfolding diagram_of eval
of-from F zero i f e [] z = refl
of-from F zero i f e (b ∷ c) z = absurd (omega arith)
of-from F (suc n) i f e [] z = absurd (omega arith)
of-from F (suc n) i f e (b ∷ c) z =
    let l : Choice → Bool = λ d. f (false ∷ d) in
    let h : Choice → Bool = λ d. f (true ∷ d) in
    let k : suc i + n ≡ F = omega arith in
    let low = later F i (diagram_of n (suc i) l) (of-good F n (suc i) l k) b c ∙ of-from F n (suc i) l k c (omega arith) in
    let high = later F i (diagram_of n (suc i) h) (of-good F n (suc i) h k) b c ∙ of-from F n (suc i) h k c (omega arith) in
    eval-mk i (diagram_of n (suc i) l) (diagram_of n (suc i) h) (λ x. has (b ∷ c) (x - i)) ∙ rw (sub_self i) (side f c b high low)

-- it says of every choice what the function says,
pub of-says : (F : ℕ) (f : Choice → Bool) (c : Choice) → length c ≡ F → says (diagram_of F 0 f) c ≡ f c
of-says F f c z =
    eval-below F 0 (diagram_of F 0 f) (of-good F F 0 f (zero-add F)) _ _ (λ x le lt. rw (sub-zero x)) ∙ of-from F F 0 f (zero-add F) c z

-- and no other diagram does
pub of-only : (F : ℕ) (f : Choice → Bool) (d : Diagram) → Good F 0 d → ((c : Choice) → length c ≡ F → says d c ≡ f c) → d ≡ diagram_of F 0 f
of-only F f d g h = canonical F 0 0 d (diagram_of F 0 f) g (of-good F F 0 f (zero-add F)) (λ c z. h c z ∙ sym (of-says F f c z))
