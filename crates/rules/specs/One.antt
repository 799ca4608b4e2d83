-- A contract that is an equation, `r ≡ z`, allows one result: any two that it allows are equal.
use Rattle.std.specs.Prelude.{◌≡◌}
use Rattle.std.proofs.Common.{sym, ◌∙◌}

abbrev pub OnlyOne : {X : Type 0} → X → Type 0
OnlyOne {X} z = (x y : X) → x ≡ z → y ≡ z → x ≡ y

pub only_one : {X : Type 0} {x y z : X} → x ≡ z → y ≡ z → x ≡ y
only_one p q = p ∙ sym q
