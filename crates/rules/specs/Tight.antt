-- The two bounds of an admitted setup are needed: with either missed by one, the wrapped bench and the whole one come apart. Each
-- setup here is refused, and admitted with its rate or life one less; the runs set aside the tests for admission and for malformed
-- states, and are computed.
use Rattle.std.specs.Prelude.{◌≡◌, true, false, ℕ, List, [], ◌∷◌}
use Rattle.rules.specs.declared.Setup.{Setup}
use Rattle.rules.specs.declared.Bench.{Bench}
use Rattle.rules.specs.Numbers.{Arith, wrapped, whole}
use Rattle.rules.specs.Setups.{admitted}
use Rattle.rules.specs.Parts.{fresh_bench}
use Rattle.rules.specs.Events.{Event, accept, send, arrive, room, acknowledge, hear, tick, act}

-- the answers of a run of events by their rules alone, whatever the setup
unfoldable pub answers : (Setup → Arith) → Setup → List Event → Bench → List ℕ
answers A S [] b = []
answers A S (e ∷ es) b = (act (A S) S e b).answer ∷ answers A S es (act (A S) S e b).state

-- `near` is admitted, and S is not: under S the events are answered otherwise on wrapped numbers than on whole ones
pub record Needed (near S : Setup) (es : List Event) (on_wrapped on_whole : List ℕ) : Type 0 where
  pub inside : admitted near ≡ true
  pub outside : admitted S ≡ false
  pub at_wrapped : answers wrapped S es (fresh_bench S) ≡ on_wrapped
  pub at_whole : answers whole S es (fresh_bench S) ≡ on_whole
  pub apart : ¬ (on_wrapped ≡ on_whole)

-- ---- the sequence numbers: RW 1, NS 4, and B units a tick
abbrev pub few_numbers : ℕ → Setup
few_numbers B = record { window = 1; seqbits = 2; clockbits = 3; life = 1; rate = B; seq = 0; sclock = 0; rclock = 0 }

-- in one tick three units go through, two of them accepted in it, while an acknowledgement of the tick's start waits: its number is
-- 3 behind una, which is 1 ahead round 4
abbrev pub three_through : List Event
three_through =
    room ∷ acknowledge ∷ hear 0 ∷ accept 10 ∷ send 0 ∷ tick
    ∷ acknowledge ∷ arrive 0 1 ∷ room ∷ acknowledge ∷ hear 1
    ∷ accept 11 ∷ send 0 ∷ arrive 0 1 ∷ room ∷ acknowledge ∷ hear 1
    ∷ accept 12 ∷ send 0 ∷ arrive 0 1 ∷ acknowledge ∷ hear 1
    ∷ hear 0 ∷ []

abbrev pub NumbersNeeded : Type 0
NumbersNeeded =
    Needed (few_numbers 1) (few_numbers 2) three_through
    (0 ∷ 0 ∷ 0 ∷ 0 ∷ 0 ∷ 0 ∷ 0 ∷ 0 ∷ 0 ∷ 0 ∷ 0 ∷ 0 ∷ 0 ∷ 0 ∷ 0 ∷ 0 ∷ 0 ∷ 0 ∷ 0 ∷ 0 ∷ 0 ∷ 0 ∷ 11 ∷ [])
    (0 ∷ 0 ∷ 0 ∷ 0 ∷ 0 ∷ 0 ∷ 0 ∷ 0 ∷ 0 ∷ 0 ∷ 0 ∷ 0 ∷ 0 ∷ 0 ∷ 0 ∷ 0 ∷ 0 ∷ 0 ∷ 0 ∷ 0 ∷ 0 ∷ 0 ∷ 10 ∷ [])

-- ---- the clocks: NC 8, and a life of L ticks
abbrev pub short_clock : ℕ → Setup
short_clock L = record { window = 1; seqbits = 2; clockbits = 3; life = L; rate = 1; seq = 0; sclock = 0; rclock = 0 }

-- recent is set by a packet 2 ticks old and kept for 2 more: a packet sent then is 4 ahead, which is half of 8
abbrev pub four_later : List Event
four_later = acknowledge ∷ tick ∷ tick ∷ hear 0 ∷ tick ∷ tick ∷ acknowledge ∷ hear 0 ∷ []

abbrev pub ClocksNeeded : Type 0
ClocksNeeded =
    Needed (short_clock 1) (short_clock 2) four_later
    (0 ∷ 0 ∷ 0 ∷ 0 ∷ 0 ∷ 0 ∷ 0 ∷ 9 ∷ [])
    (0 ∷ 0 ∷ 0 ∷ 0 ∷ 0 ∷ 0 ∷ 0 ∷ 0 ∷ [])
