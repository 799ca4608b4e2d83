-- Any two results that the contract of `checked` or of `unchecked` allows are equal: the two runs give one number.
use Rattle.std.specs.Prelude.{ℕ}
use Rattle.rules.specs.One.{OnlyOne, only_one}
use Rattle.soak.specs.Run.{soaked}

pub one_soaked : (seed events : ℕ) → OnlyOne (soaked seed events)
one_soaked seed events x y = only_one
