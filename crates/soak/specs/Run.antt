-- A long run: the rules' steps, one for each number of the stream, from the fresh bench of one setup.
use Rattle.std.specs.Prelude.{ℕ, zero, suc}
use Rattle.rules.specs.declared.Setup.{Setup}
use Rattle.rules.specs.declared.Bench.{Bench}
use Rattle.rules.specs.Numbers.{wrapped}
use Rattle.rules.specs.Parts.{fresh_bench}
use Rattle.rules.specs.Operations.{step}
use Rattle.soak.specs.Draw.{first_draw, next_draw, chosen}
use Rattle.soak.specs.Tally.{tallied}

abbrev pub soak_setup : Setup
soak_setup = record { window = 8; seqbits = 6; clockbits = 5; life = 3; rate = 4; seq = 60; sclock = 30; rclock = 7 }

-- the checksum after n more events; x is the next draw
unfoldable pub soaked_from : ℕ → ℕ → ℕ → Bench → ℕ
soaked_from zero x sum b = sum
soaked_from (suc n) x sum b =
    let o = step wrapped (chosen x) b in
    soaked_from n (next_draw x) (tallied sum o) o.state

unfoldable pub soaked : ℕ → ℕ → ℕ
soaked seed events = soaked_from events (first_draw seed) 0 (fresh_bench soak_setup)
