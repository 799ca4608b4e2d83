-- A number in decimal, without leading zeros.
use Rattle.std.specs.Prelude.{ℕ, suc, zero, ◌+◌, ◌/◌, ◌%◌, List, [], ◌∷◌, ◌++◌, nat_lt, if◌then◌else◌}

-- the digits of n; `most` bounds how many there are besides the first
unfoldable pub decimal_on : ℕ → ℕ → List ℕ
decimal_on zero n = (48 + n) ∷ []
decimal_on (suc most) n = if nat_lt n 10 then (48 + n) ∷ [] else (decimal_on most (n / 10) ++ ((48 + n % 10) ∷ []))

unfoldable pub decimal : ℕ → List ℕ
decimal n = decimal_on n n
