-- Sequence numbers and clock values: how they move, differ and are compared.
-- The arithmetic is a parameter of every rule. `wrapped` is what the code does, round the range of a setup; `whole` never
-- wraps and compares truly. The same text of the rules, read at one and at the other, is what the theorem of agreement joins.
use Rattle.std.specs.Prelude.{Bool, true, cond, ℕ, ◌+◌, ◌-◌, ◌/◌, ◌%◌, ◌^◌, leb, ltb, ℤ, pos, negsuc}
use Rattle.std.proofs.Math.IntN.{sub_ℕ}
use Rattle.rules.specs.declared.Setup.{Setup}

-- how many sequence numbers there are, and how many clock values
abbrev pub NS : Setup → ℕ
NS S = 2 ^ S.seqbits

abbrev pub NC : Setup → ℕ
NC S = 2 ^ S.clockbits

-- a − b round a range of N values, for b in the range
unfoldable pub dist : ℕ → ℕ → ℕ → ℕ
dist N a b = (a + (N - b)) % N

-- what a rule sees of a difference: behind, or ahead by less than K
pub data Place : Type 0 where
  behind : Place
  ahead : ℕ → Place

abbrev pub place : ℕ → ℤ → Place
place K (pos o) = cond (ltb o K) (ahead o) behind
place K (negsuc n) = behind

-- seq, clk: where a number or a clock that has moved comes to stand; off: a difference of numbers;
-- fresh: the timestamp, tested against recent, is not stale; seq_in, clk_in: a number or a clock value is in its range
pub record Arith : Type 0 where
  pub seq : ℕ → ℕ
  pub clk : ℕ → ℕ
  pub off : ℕ → ℕ → ℤ
  pub fresh : ℕ → ℕ → Bool
  pub seq_in : ℕ → Bool
  pub clk_in : ℕ → Bool

-- round the range; a timestamp is fresh if it is less than half the range ahead of recent
abbrev pub wrapped : Setup → Arith
wrapped S = record {
  seq = λ x. x % NS S;
  clk = λ x. x % NC S;
  off = λ x y. pos (dist (NS S) x y);
  fresh = λ t r. ltb (dist (NC S) t r) (NC S / 2);
  seq_in = λ x. ltb x (NS S);
  clk_in = λ x. ltb x (NC S);
}

-- whole numbers, whatever the setup: differences may be negative, and a timestamp is fresh if it is not below recent
abbrev pub whole : Setup → Arith
whole S = record {
  seq = λ x. x;
  clk = λ x. x;
  off = sub_ℕ;
  fresh = λ t r. leb r t;
  seq_in = λ x. true;
  clk_in = λ x. true;
}
