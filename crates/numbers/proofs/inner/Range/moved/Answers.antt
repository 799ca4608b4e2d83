-- `moved` meets its contract: 32 bits are a whole number of turns of the range, so the remainder forgets the wrap.
use Rattle.std.proofs.Common.{◌≡◌, ℕ, suc, ◌+◌, ◌-◌, ◌%◌, ◌^◌, ap, ◌∙◌, mod-lt, pow_pos}
use Rattle.std.proofs.Math.Nat.{mod-mod_of_dvd, dvd-mul_left}
use Rattle.numbers.proofs.Laws.{divides}
use Rattle.numbers.proofs.inner.Range.moved.Goals as goal

pub returns : goal.returns
returns c =
    let s = c.args in let n = 2 ^ s.self.bits in let d = s.a + s.k in
    let e : d % 2 ^ 32 % n ≡ d % n = ap (λ (m : ℕ). d % m % n) (divides s.self.bits s.self.fits)
    ∙ mod-mod_of_dvd n d (dvd-mul_left n (suc (2 ^ (32 - s.self.bits) - 1))) in
    rw c.size.ensures.0 (e, mod-lt _ (pow_pos s.self.bits))
