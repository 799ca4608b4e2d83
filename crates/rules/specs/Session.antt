-- A session: sixteen events on a small bench whose numbers go round at once, and what the rules answer. crates/script runs the same one.
use Rattle.std.specs.Prelude.{◌≡◌, refl, ℕ, List, [], ◌∷◌}
use Rattle.rules.specs.declared.Setup.{Setup}
use Rattle.rules.specs.Numbers.{dist, wrapped}
use Rattle.rules.specs.Setups.{◌also◌, is_window, in_limits, in_ranges, admitted, same_setup}
use Rattle.rules.specs.Marks.{marked, mark, unmark}
use Rattle.rules.specs.Rows.{row}
use Rattle.rules.specs.Parts.{is_no_data, is_no_ack, fresh_bench}
use Rattle.rules.specs.Malformed.{all_from, every, formed_recent, formed_sender, formed_receiver, right_data, right_ack, formed_aged, formed_channel, formed_bench, malformed_bench}
use Rattle.rules.specs.Events.{Event, accept, send, arrive, room, acknowledge, hear, dupd, act}
use Rattle.rules.specs.Operations.{step}
use Rattle.rules.specs.Runs.{Said, run}

abbrev pub S : Setup
S = record { window = 2; seqbits = 3; clockbits = 3; life = 1; rate = 2; seq = 7; sclock = 7; rclock = 2 }

abbrev pub events : List Event
events =
    accept 500 ∷ room ∷ room ∷ room ∷ acknowledge ∷ hear 0 ∷ accept 500 ∷ accept 740 ∷ accept 760 ∷ send 1 ∷ send 0 ∷ dupd 1
    ∷ arrive 0 64 ∷ arrive 0 64 ∷ arrive 0 64 ∷ arrive 0 64 ∷ []

-- an answer without units
abbrev pub only : ℕ → Said
only n = record { answer = n; units = [] }

pub session :
    run wrapped events (fresh_bench S)
    ≡ only 6 ∷ only 0 ∷ only 0 ∷ only 13 ∷ only 0 ∷ only 0 ∷ only 0 ∷ only 0 ∷ only 6 ∷ only 0 ∷ only 0 ∷ only 0
    ∷ only 0 ∷ record { answer = 0; units = 500 ∷ 740 ∷ [] } ∷ only 10 ∷ only 4 ∷ []
unfolding run step act dist marked mark unmark row malformed_bench formed_bench formed_sender formed_receiver formed_channel formed_aged right_data right_ack formed_recent is_no_data is_no_ack same_setup every all_from admitted in_limits in_ranges is_window ◌also◌
session = refl
