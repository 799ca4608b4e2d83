-- Setup numbers: when a setup is admitted.
use Rattle.std.specs.Prelude.{ℕ, ◌+◌, ◌*◌, Bool, ◌&&◌, ◌||◌, leb, ltb, eqb}
use Rattle.rules.specs.declared.Setup.{Setup}
use Rattle.rules.specs.Numbers.{NS, NC}

-- both of two tests; it stays shut, so that a law finds its arguments where it is cited
infixl 35 ◌also◌
unfoldable pub ◌also◌ : Bool → Bool → Bool
a also b = a && b

-- the largest window is 1, 2, 4, 8, 16, 32 or 64
unfoldable pub is_window : ℕ → Bool
is_window w = eqb w 1 || eqb w 2 || eqb w 4 || eqb w 8 || eqb w 16 || eqb w 32 || eqb w 64

-- the limits that need neither range: seqbits 2 to 32, clockbits 3 to 32, life and rate at least 1
unfoldable pub in_limits : Setup → Bool
in_limits S =
    is_window S.window
    also (leb 2 S.seqbits also leb S.seqbits 32)
    also (leb 3 S.clockbits also leb S.clockbits 32)
    also (leb 1 S.life also leb 1 S.rate)

-- the starting values are in their ranges, NS ≥ 3 RW + B and NC ≥ 4 L + 1
unfoldable pub in_ranges : Setup → Bool
in_ranges S =
    ltb S.seq (NS S)
    also ltb S.sclock (NC S)
    also ltb S.rclock (NC S)
    also leb (3 * S.window + S.rate) (NS S)
    also leb (4 * S.life + 1) (NC S)

unfoldable pub admitted : Setup → Bool
admitted S = in_limits S also in_ranges S

-- the same eight numbers
unfoldable pub same_setup : Setup → Setup → Bool
same_setup S T =
    eqb S.window T.window
    also eqb S.seqbits T.seqbits
    also eqb S.clockbits T.clockbits
    also eqb S.life T.life
    also eqb S.rate T.rate
    also eqb S.seq T.seq
    also eqb S.sclock T.sclock
    also eqb S.rclock T.rclock

-- all eight numbers 0: what a refused setup leaves
abbrev pub zero_setup : Setup
zero_setup = record { window = 0; seqbits = 0; clockbits = 0; life = 0; rate = 0; seq = 0; sclock = 0; rclock = 0 }
