-- Links one behind the other, and so round a chain: every head on it is on a chain too.
use Rattle.std.specs.Prelude.{◌≡◌, refl, Bool, true, false, ◌||◌, cond, List, ◌∷◌, ◌++◌, ℕ, ◌%◌}
use Rattle.std.proofs.Common.{subst}
use Rattle.meaning.specs.Meaning.{Program}
use Rattle.chains.specs.Layering.{Links}

or_assoc : (a b c : Bool) → a || (b || c) ≡ (a || b) || c
or_assoc true b c = refl
or_assoc false b c = refl

-- links up to a rule, and from it on
pub links-both : {P : Program} {k m : ℕ} {js ks : List ℕ} {b c : Bool} →
    Links P k js b → Links P m (k ∷ ks) c → Links P m (js ++ (k ∷ ks)) (b || c)
links-both (Links.last t) s = Links.next t s
links-both {P} {m = m} {ks = ks} {c = c} (Links.next {j = j} {i = i} {js = js} {b = a} {c = b} t ts) s =
    subst (Links P m (j ∷ i ∷ js ++ _)) (or_assoc a b c) (Links.next t (links-both ts s))

-- a link's flag after those before it
pub flag-both : (a b : Bool) (p : ℕ) → p % 2 ≡ cond a 1 0 → cond b 1 (p % 2) ≡ cond (a || b) 1 0
flag-both true true p e = refl
flag-both true false p e = e
flag-both false true p e = refl
flag-both false false p e = e
