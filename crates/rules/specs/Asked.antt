-- The event that a caller asks for, as the rules have it: an arrival brings the length of the lent row.
use Rattle.std.specs.Prelude.{ℕ}
use Rattle.rules.specs.declared.Event as asked
use Rattle.rules.specs.declared.Event.TheVariants.{Accept, Send, Data, Hear, DropD, DropA, DupD, DupA, Room, Ack, Tick}
use Rattle.rules.specs.Events.{Event, accept, send, arrive, room, acknowledge, hear, dropd, dropa, dupd, dupa, tick}

abbrev pub event_of : asked.Event → ℕ → Event
event_of (Accept u) n = accept u
event_of (Send k) n = send k
event_of (Data j) n = arrive j n
event_of (Hear j) n = hear j
event_of (DropD j) n = dropd j
event_of (DropA j) n = dropa j
event_of (DupD j) n = dupd j
event_of (DupA j) n = dupa j
event_of Room n = room
event_of Ack n = acknowledge
event_of Tick n = tick
