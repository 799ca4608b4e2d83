-- `apart` meets its contract: 32 bits are a whole number of turns of the range, so the remainder forgets the wrap.
use Rattle.std.proofs.Common.{ℕ, ◌+◌, ◌-◌, ◌%◌, ◌^◌, ap, ◌∙◌, arith}
use Rattle.numbers.proofs.Laws.{wrap_apart, divides}
use Rattle.numbers.proofs.inner.Range.apart.Goals as goal

pub returns : goal.returns
returns c =
    let s = c.args in let n = 2 ^ s.self.bits in
    rw c.size.ensures.0
    (ap (λ (m : ℕ). (s.a + (m - s.b)) % m % n) (divides s.self.bits s.self.fits)
    ∙ wrap_apart n (2 ^ (32 - s.self.bits) - 1) s.a s.b (omega arith))
