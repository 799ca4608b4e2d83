-- The wrapped comparison, over the range's size: for sequence numbers N is NS and K is RW, or RW + 1 for acknowledgements; for clocks
-- N is NC and K is NC / 2.
use Rattle.std.specs.Prelude.{◌≡◌, ℕ, ◌+◌, ◌%◌, ◌<◌, ◌≤◌, leb, ltb, pos}
use Rattle.std.proofs.Math.IntN.{sub_ℕ}
use Rattle.rules.specs.Numbers.{dist, place}

-- a − b taken round the range, against the true one
pub record SameRound (N K a b : ℕ) : Type 0 where
  -- it is below K exactly if a is not below b
  pub below : ltb (dist N (a % N) (b % N)) K ≡ leb b a
  -- and a rule sees the same of it: behind, or ahead by the same o
  pub seen : place K (pos (dist N (a % N) (b % N))) ≡ place K (sub_ℕ a b)

-- where the true difference lies from −(N − K) to K − 1
abbrev pub Comparison : Type 0
Comparison = (N K a b : ℕ) → K ≤ N → a < b + K → b + K ≤ a + N → SameRound N K a b
