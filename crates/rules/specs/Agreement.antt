-- The statement of agreement. A bench that counts round its ranges and one whose numbers never wrap, both fresh under an admitted
-- setup, answer every list of events alike, and the state of the one is the state of the other shown round the ranges. A list is
-- every list, so what is said of the state that it leaves holds after every event.
use Rattle.std.specs.Prelude.{◌≡◌, Bool, true, not, List, map, ◌+◌, ◌%◌, ◌≤◌, eqb, length, take}
use Rattle.rules.specs.declared.Setup.{Setup}
use Rattle.rules.specs.declared.Recent.{Recent}
use Rattle.rules.specs.declared.Sender.{Sender}
use Rattle.rules.specs.declared.Receiver.{Receiver}
use Rattle.rules.specs.Parts.{DataPacket}
use Rattle.rules.specs.Parts.{AckPacket}
use Rattle.rules.specs.Parts.{DataChannel}
use Rattle.rules.specs.Parts.{AckChannel}
use Rattle.rules.specs.declared.Bench.{Bench}
use Rattle.rules.specs.Numbers.{NS, NC, wrapped, whole}
use Rattle.rules.specs.Setups.{◌also◌, admitted}
use Rattle.rules.specs.Parts.{fresh_bench}
use Rattle.rules.specs.Malformed.{every}
use Rattle.rules.specs.Events.{Event}
use Rattle.rules.specs.Runs.{Said, run, final, accepted, delivered}

-- ---- a state of whole numbers, shown: each number mod NS, each clock value and timestamp mod NC, and all else as it is
module _ (S : Setup) where
  abbrev pub wrap_recent : Recent → Recent
  wrap_recent r = record { held = r.held; stamp = r.stamp % NC S; age = r.age }

  abbrev pub wrap_sender : Sender → Sender
  wrap_sender s = record {
    setup = s.setup;
    una = s.una % NS S;
    outstanding = s.outstanding;
    granted = s.granted;
    accepted = s.accepted;
    clock = s.clock % NC S;
    recent = wrap_recent s.recent;
    slots = s.slots;
  }

  abbrev pub wrap_receiver : Receiver → Receiver
  wrap_receiver r = record {
    setup = r.setup;
    nxt = r.nxt % NS S;
    window = r.window;
    clock = r.clock % NC S;
    recent = wrap_recent r.recent;
    slots = r.slots;
    marks = r.marks;
  }

  abbrev pub wrap_data : DataPacket → DataPacket
  wrap_data p = record {
    packet = record { seq = p.packet.seq % NS S; stamp = p.packet.stamp % NC S; unit = p.packet.unit };
    age = p.age;
  }

  abbrev pub wrap_ack : AckPacket → AckPacket
  wrap_ack p = record {
    packet = record { ack = p.packet.ack % NS S; window = p.packet.window; stamp = p.packet.stamp % NC S };
    age = p.age;
  }

  abbrev pub wrap_datas : DataChannel → DataChannel
  wrap_datas c = record { setup = c.setup; packets = map wrap_data c.packets; count = c.count }

  abbrev pub wrap_acks : AckChannel → AckChannel
  wrap_acks c = record { setup = c.setup; packets = map wrap_ack c.packets; count = c.count }

  abbrev pub wrap : Bench → Bench
  wrap b = record {
    sender = wrap_sender b.sender;
    receiver = wrap_receiver b.receiver;
    datas = wrap_datas b.datas;
    acks = wrap_acks b.acks;
  }

-- ---- what holds of the state of whole numbers
-- una ≤ nxt ≤ una + outstanding ≤ una + granted
pub record Ordered (b : Bench) : Type 0 where
  pub una_nxt : b.sender.una ≤ b.receiver.nxt
  pub nxt_end : b.receiver.nxt ≤ b.sender.una + b.sender.outstanding
  pub end_edge : b.sender.una + b.sender.outstanding ≤ b.sender.una + b.sender.granted

-- neither 2, malformed, nor 11, beyond
unfoldable pub proper : Said → Bool
proper a = not (eqb a.answer 2) also not (eqb a.answer 11)

-- ---- the statement, of a setup and a list of events
pub record Agree (S : Setup) (es : List Event) : Type 0 where
  pub answers : run wrapped es (fresh_bench S) ≡ run whole es (fresh_bench S)
  pub state : final wrapped es (fresh_bench S) ≡ wrap S (final whole es (fresh_bench S))
  -- the delivered units, joined, are the first so many of the accepted ones, in order
  pub prefix : delivered (run wrapped es (fresh_bench S))
      ≡ take (length (delivered (run wrapped es (fresh_bench S)))) (accepted es (run wrapped es (fresh_bench S)))
  pub order : Ordered (final whole es (fresh_bench S))
  pub never : every proper (run wrapped es (fresh_bench S)) ≡ true

-- agreement: of every admitted setup and every list of events
abbrev pub Agreement : Type 0
Agreement = (S : Setup) → admitted S ≡ true → (es : List Event) → Agree S es
