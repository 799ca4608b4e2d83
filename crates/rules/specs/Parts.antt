-- What the parts hold: nothing, fresh, and a channel seen as a list.
use Rattle.std.specs.Prelude.{Bool, true, false, List, [], ℕ, suc, eqb, length, take, replicate}
use Rattle.rules.specs.declared.Setup.{Setup}
use Rattle.rules.specs.declared.Recent.{Recent}
use Rattle.rules.specs.declared.Sender.{Sender}
use Rattle.rules.specs.declared.Receiver.{Receiver}
use Rattle.rules.specs.declared.BareData.{BareData}
use Rattle.rules.specs.declared.BareAck.{BareAck}
use Rattle.rules.specs.declared.Aged.{Aged}
use Rattle.rules.specs.declared.Channel.{Channel}
use Rattle.rules.specs.declared.Bench.{Bench}
use Rattle.rules.specs.Setups.{◌also◌}
use Rattle.rules.specs.Rows.{row}

-- ---- recent: none, or a timestamp with its age
abbrev pub none : Recent
none = record { held = false; stamp = 0; age = 0 }

abbrev pub since : ℕ → ℕ → Recent
since t a = record { held = true; stamp = t; age = a }

-- ---- packets: those that are handed over, and those that a channel holds, with an age
abbrev pub DataPacket : Type 0
DataPacket = Aged BareData

abbrev pub AckPacket : Type 0
AckPacket = Aged BareAck

abbrev pub DataChannel : Type 0
DataChannel = Channel BareData

abbrev pub AckChannel : Type 0
AckChannel = Channel BareAck

-- with age 0
abbrev pub new : {P : Type 0} → P → Aged P
new p = record { packet = p; age = 0 }

abbrev pub no_data : BareData
no_data = record { seq = 0; stamp = 0; unit = 0 }

abbrev pub no_ack : BareAck
no_ack = record { ack = 0; window = 0; stamp = 0 }

unfoldable pub is_no_data : BareData → Bool
is_no_data p = eqb p.seq 0 also eqb p.stamp 0 also eqb p.unit 0

unfoldable pub is_no_ack : BareAck → Bool
is_no_ack p = eqb p.ack 0 also eqb p.window 0 also eqb p.stamp 0

-- ---- a channel C of packets P, handed over as H: what the rules on channels need to know of it
pub record Kind (H P C : Type 0) : Type 0 where
  pub packets : C → List P
  pub count : C → ℕ
  pub fill : C → List P → C
  pub nothing : H
  pub is_nothing : P → Bool
  pub new : H → P
  pub bare : P → H
  pub age : P → ℕ
  pub older : P → P

-- the packets in it, in order
abbrev pub live : {H P C : Type 0} → Kind H P C → C → List P
live K c = take (K.count c) (K.packets c)

-- channels of one kind of packet, of which `none` is all 0 and `is_none` is its test
abbrev pub kind : {P : Type 0} → P → (P → Bool) → Kind P (Aged P) (Channel P)
kind none is_none = record {
  packets = λ c. c.packets;
  count = λ c. c.count;
  fill = λ c l. record { setup = c.setup; packets = row (new none) l; count = length l };
  nothing = none;
  is_nothing = λ p. is_none p.packet also eqb p.age 0;
  new = new;
  bare = λ p. p.packet;
  age = λ p. p.age;
  older = λ p. record { packet = p.packet; age = suc p.age };
}

abbrev pub data_channel : Kind BareData DataPacket DataChannel
data_channel = kind no_data is_no_data

abbrev pub ack_channel : Kind BareAck AckPacket AckChannel
ack_channel = kind no_ack is_no_ack

-- ---- fresh: both numbers are the starting number, each clock its starting clock, and everything else is 0
abbrev pub fresh_sender : Setup → Sender
fresh_sender S = record
    { setup = S; una = S.seq; outstanding = 0; granted = 0; accepted = 0; clock = S.sclock; recent = none; slots = replicate 64 0 }

abbrev pub fresh_receiver : Setup → Receiver
fresh_receiver S = record
    { setup = S; nxt = S.seq; window = 0; clock = S.rclock; recent = none; slots = replicate 64 0; marks = 0 }

abbrev pub fresh_channel : {P : Type 0} → P → Setup → Channel P
fresh_channel none S = record { setup = S; packets = row (new none) []; count = 0 }

abbrev pub fresh_data_channel : Setup → DataChannel
fresh_data_channel = fresh_channel no_data

abbrev pub fresh_ack_channel : Setup → AckChannel
fresh_ack_channel = fresh_channel no_ack

abbrev pub fresh_bench : Setup → Bench
fresh_bench S = record
    { sender = fresh_sender S; receiver = fresh_receiver S; datas = fresh_data_channel S; acks = fresh_ack_channel S }
