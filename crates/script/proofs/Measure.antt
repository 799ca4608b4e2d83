-- A measure that is one more than what is left where there is more, and 0 where there is not: it falls where what is left does.
use Rattle.std.proofs.Common.{◌≡◌, ℕ, suc, ◌<◌, Bool, true, cond, arith}

pub less : (q : Bool) {a b : ℕ} → (q ≡ true → a < b) → cond q (suc a) 0 < suc b
less q h = grind arith
