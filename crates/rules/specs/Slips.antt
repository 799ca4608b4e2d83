-- Short runs on the session's setup, one for each slip that looks right: what the rules answer where the slip would answer otherwise.
-- (The comparison of timestamps as plain numbers is refused by row (j) of the marked examples.)
use Rattle.std.specs.Prelude.{◌≡◌, refl, ℕ, List, [], ◌∷◌, ◌++◌, replicate}
use Rattle.rules.specs.Numbers.{dist, wrapped}
use Rattle.rules.specs.Setups.{◌also◌, is_window, in_limits, in_ranges, admitted, same_setup}
use Rattle.rules.specs.Marks.{marked, mark, unmark}
use Rattle.rules.specs.Rows.{row}
use Rattle.rules.specs.Parts.{is_no_data, is_no_ack, fresh_bench}
use Rattle.rules.specs.Malformed.{all_from, every, formed_recent, formed_sender, formed_receiver, right_data, right_ack, formed_aged, formed_channel, formed_bench, malformed_bench}
use Rattle.rules.specs.Events.{Event, accept, send, arrive, room, acknowledge, hear, dropd, dupd, tick, act}
use Rattle.rules.specs.Operations.{step}
use Rattle.rules.specs.Runs.{Said, run}
use Rattle.rules.specs.Session.{S, only}

-- a unit is lost and sent again; a later one, sent a tick after that, arrives first and is stored ahead, which leaves recent as it
-- was; so the retransmission is taken, and both are delivered
abbrev pub sent_again : List Event
sent_again =
    room ∷ room ∷ acknowledge ∷ hear 0 ∷ accept 500 ∷ accept 740 ∷ send 0 ∷ dropd 0 ∷ send 0 ∷ tick ∷ send 1
    ∷ arrive 1 64 ∷ arrive 0 64 ∷ []

-- after a long idle spell a fresh acknowledgement is heard: recent is gone
abbrev pub idle : List Event
idle = acknowledge ∷ hear 0 ∷ tick ∷ tick ∷ tick ∷ tick ∷ acknowledge ∷ hear 0 ∷ []

-- a copy of a packet that is one tick old is gone with the packet
abbrev pub copied : List Event
copied = room ∷ acknowledge ∷ hear 0 ∷ accept 500 ∷ send 0 ∷ tick ∷ dupd 0 ∷ tick ∷ arrive 0 64 ∷ []

-- an acknowledgement of the same number and a smaller window leaves the window granted
abbrev pub smaller : List Event
smaller = acknowledge ∷ room ∷ acknowledge ∷ hear 1 ∷ hear 0 ∷ accept 500 ∷ []

-- a tick's share is spent after two units, and the next tick has a share of its own
abbrev pub share : List Event
share =
    room ∷ room ∷ acknowledge ∷ hear 0 ∷ accept 500 ∷ accept 740 ∷ send 0 ∷ arrive 0 64 ∷ room ∷ acknowledge ∷ hear 0
    ∷ accept 760 ∷ tick ∷ accept 760 ∷ []

-- n events, each done
abbrev pub all_done : ℕ → List Said
all_done n = replicate n (only 0)

abbrev pub answers : List Event → List Said
answers es = run wrapped es (fresh_bench S)

pub slips :
    (answers sent_again ≡ all_done 12 ++ record { answer = 0; units = 500 ∷ 740 ∷ [] } ∷ [])
    × (answers idle ≡ all_done 8)
    × (answers copied ≡ all_done 8 ++ only 4 ∷ [])
    × (answers smaller ≡ all_done 6)
    × (answers share ≡ all_done 7 ++ record { answer = 0; units = 500 ∷ [] } ∷ all_done 3 ++ only 7 ∷ all_done 2)
unfolding run step act dist marked mark unmark row malformed_bench formed_bench formed_sender formed_receiver formed_channel formed_aged right_data right_ack formed_recent is_no_data is_no_ack same_setup every all_from admitted in_limits in_ranges is_window ◌also◌
slips = (refl, refl, refl, refl, refl)
