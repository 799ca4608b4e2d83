-- Laws of tests: two tests in one, and tests turned into facts.
use mathlib.Core.Path.{◌≡◌, refl, sym}
use mathlib.Core.Bool.{Bool, true, false, not, ◌&&◌, ◌||◌, false≢true}
use Rattle.rules.specs.Setups.{◌also◌}

pub both : {a b : Bool} → a also b ≡ true → (a ≡ true) × (b ≡ true)
unfolding ◌also◌
both {a} {b} e = go a b e
  where
    go : (a b : Bool) → a && b ≡ true → (a ≡ true) × (b ≡ true)
    go true b e = (refl, e)
    go false b e = absurd (false≢true e)

-- the other way round
infixl 35 ◌and◌
pub ◌and◌ : {a b : Bool} → a ≡ true → b ≡ true → a also b ≡ true
unfolding ◌also◌
p and q = rw (p, q)

-- three tests are one, whichever two come together first
pub also_assoc : (a b c : Bool) → (a also b) also c ≡ a also (b also c)
unfolding ◌also◌
also_assoc true b c = refl
also_assoc false b c = refl

pub true_also : (c : Bool) → true also c ≡ c
unfolding ◌also◌
true_also c = refl

pub also_true : (c : Bool) → c also true ≡ c
unfolding ◌also◌
also_true true = refl
also_true false = refl

pub or_case : {C : Type 0} (a b : Bool) → (a ≡ true → C) → (b ≡ true → C) → a || b ≡ true → C
or_case true b f g e = f refl
or_case false b f g e = g e

-- what is not malformed passes the test
pub passes : (b : Bool) → not b ≡ false → b ≡ true
passes true e = refl
passes false e = sym e
