-- Values: 1 to 20 decimal digits, below 2^64; leading zeros are allowed.
use Rattle.std.specs.Prelude.{ℕ, ◌+◌, ◌-◌, ◌*◌, ◌^◌, cond, List, [], ◌∷◌, length, ◌==◌, nat_lt, Option, Some, None}
use Rattle.std.specs.Option.{option_map_or}

-- v is the number of the digits passed; those that are left follow
unfoldable pub value_on : ℕ → List ℕ → Option ℕ
value_on v [] = cond (nat_lt v (2 ^ 64)) (Some v) None
value_on v (b ∷ t) = cond (nat_lt b 48) None (cond (nat_lt 57 b) None (value_on (v * 10 + (b - 48)) t))

unfoldable pub value_of : List ℕ → Option ℕ
value_of d = cond (length d == 0) None (cond (nat_lt 20 (length d)) None (value_on 0 d))

-- what `good` makes of the value in a Some, or else bad
abbrev pub on_value : {B A : Type 0} → Option B → A → (B → A) → A
on_value o bad good = option_map_or good o bad
