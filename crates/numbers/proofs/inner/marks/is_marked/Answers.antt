-- `is_marked` meets its contract: the last digit of the shifted word.
use Rattle.std.proofs.Common.{ℕ, ◌/◌, ◌^◌, ap}
use Rattle.std.specs.Prelude.{nat_eq}
use Rattle.std.proofs.lemmas.Nat.{and_mask}
use Rattle.rules.specs.Marks.{marked}
use Rattle.numbers.proofs.inner.marks.is_marked.Goals as goal

pub returns : goal.returns
unfolding marked
returns c = ap (λ (x : ℕ). nat_eq x 1) (and_mask (c.args.m / 2 ^ c.args.i) 1)
