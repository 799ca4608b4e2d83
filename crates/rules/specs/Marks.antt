-- The mark word of the receiver: the mark of slot i is the digit of 2 to the power i.
use Rattle.std.specs.Prelude.{ℕ, ◌-◌, ◌/◌, ◌%◌, ◌^◌, Bool, eqb}
use Rattle.std.specs.Int.Bits.{bit_and, bit_or}

unfoldable pub marked : ℕ → ℕ → Bool
marked w i = eqb (w / 2 ^ i % 2) 1

unfoldable pub mark : ℕ → ℕ → ℕ
mark w i = bit_or w (2 ^ i)

unfoldable pub unmark : ℕ → ℕ → ℕ
unmark w i = bit_and w (2 ^ 64 - 1 - 2 ^ i)
