-- The thirteen marked examples, (a) to (m), as one table: the rules give each row its answer.
use Rattle.std.specs.Prelude.{ℕ, ◌≡◌, refl, Bool, true, false, List, [], ◌∷◌}
use Rattle.std.specs.Bool.{beq}
use Rattle.rules.specs.declared.Setup.{Setup}
use Rattle.rules.specs.Numbers.{dist, wrapped}
use Rattle.rules.specs.Setups.{◌also◌, is_window, in_limits, in_ranges, admitted}
use Rattle.rules.specs.Parts.{since}
use Rattle.rules.specs.Events.{passed}
use Rattle.rules.specs.Malformed.{every}

-- a setup by RW, seqbits, B, clockbits and L, and whether it is admitted;
-- or a timestamp against a recent at some clockbits, and whether it passes
pub data Example : Type 0 where
  setup : ℕ → ℕ → ℕ → ℕ → ℕ → Bool → Example
  test : ℕ → ℕ → ℕ → Bool → Example

-- a setup with starting values 0
abbrev of : ℕ → ℕ → ℕ → ℕ → ℕ → Setup
of w s b c l = record { window = w; seqbits = s; clockbits = c; life = l; rate = b; seq = 0; sclock = 0; rclock = 0 }

-- the rules give the row's answer
unfoldable pub holds : Example → Bool
holds (setup w s b c l answer) = beq (admitted (of w s b c l)) answer
holds (test c r t answer) = beq (passed (wrapped (of 1 3 1 c 1)) (since r 0) t) answer

abbrev pub table : List Example
table =
    setup 2 3 2 3 1 true
    ∷ setup 2 3 3 3 1 false
    ∷ setup 64 8 64 3 1 true
    ∷ setup 64 8 65 3 1 false
    ∷ setup 1 3 1 3 1 true
    ∷ setup 1 3 1 3 2 false
    ∷ setup 1 3 1 32 1073741823 true
    ∷ setup 1 3 1 32 1073741824 false
    ∷ test 3 7 7 true
    ∷ test 3 7 0 true
    ∷ test 3 7 2 true
    ∷ test 3 7 3 false
    ∷ test 3 7 6 false
    ∷ []

pub examples : every holds table ≡ true
unfolding every holds admitted in_limits in_ranges is_window dist ◌also◌
examples = refl
