-- When a state is malformed. Slots are named by their distance ahead of una or nxt, so that the test reads as the rules do.
use Rattle.std.specs.Prelude.{Bool, true, cond, not, List, [], ◌∷◌, ℕ, zero, suc, ◌+◌, ◌-◌, ◌%◌, leb, ltb, eqb, get_or, drop}
use Rattle.rules.specs.declared.Setup.{Setup}
use Rattle.rules.specs.declared.Recent.{Recent}
use Rattle.rules.specs.declared.Sender.{Sender}
use Rattle.rules.specs.declared.Receiver.{Receiver}
use Rattle.rules.specs.declared.BareData.{BareData}
use Rattle.rules.specs.declared.BareAck.{BareAck}
use Rattle.rules.specs.declared.Aged.{Aged}
use Rattle.rules.specs.declared.Channel.{Channel}
use Rattle.rules.specs.declared.Bench.{Bench}
use Rattle.rules.specs.Numbers.{Arith}
use Rattle.rules.specs.Setups.{◌also◌, admitted, same_setup}
use Rattle.rules.specs.Marks.{marked}
use Rattle.rules.specs.Parts.{DataPacket, AckPacket, DataChannel, AckChannel, Kind, live, data_channel, ack_channel}

-- f holds at i and at the k - 1 numbers after it
unfoldable pub all_from : (ℕ → Bool) → ℕ → ℕ → Bool
all_from f i zero = true
all_from f i (suc k) = f i also all_from f (suc i) k

-- f holds of each element
unfoldable pub every : {A : Type 0} → (A → Bool) → List A → Bool
every f [] = true
every f (x ∷ l) = f x also every f l

-- slot i holds 0
abbrev pub empty_slot : List ℕ → ℕ → Bool
empty_slot sl i = eqb (get_or sl i 0) 0

-- the slot d ahead of q, round R, holds 0
abbrev pub empty_ahead : ℕ → List ℕ → ℕ → ℕ → Bool
empty_ahead R sl q d = empty_slot sl ((q + d) % R)

-- the slot d ahead of nxt: marked, and d from 1 to window − 1; or not marked, and it holds nothing
abbrev pub right_ahead : ℕ → List ℕ → ℕ → ℕ → ℕ → ℕ → Bool
right_ahead R sl mk q w d = cond (marked mk ((q + d) % R)) (leb 1 d also ltb d w) (empty_ahead R sl q d)

-- slot i, from RW up: neither marked nor in use
abbrev pub unused : List ℕ → ℕ → ℕ → Bool
unused sl mk i = empty_slot sl i also not (marked mk i)

-- a packet that a channel holds: its fields are right, and its age is at most L
unfoldable pub formed_aged : {P : Type 0} → (P → Bool) → ℕ → Aged P → Bool
formed_aged right L p = right p.packet also leb p.age L

module _ (A : Arith) (S : Setup) where
  -- recent: the timestamp in its range and the age at most L; or none, with both 0
  unfoldable pub formed_recent : Recent → Bool
  formed_recent r = cond r.held (A.clk_in r.stamp also leb r.age S.life) (eqb r.stamp 0 also eqb r.age 0)

  unfoldable pub formed_sender : Sender → Bool
  formed_sender s =
      A.seq_in s.una
      also leb s.outstanding S.window
      also leb s.granted S.window
      also leb s.accepted S.rate
      also A.clk_in s.clock
      also formed_recent s.recent
      also all_from (empty_ahead S.window s.slots s.una) s.outstanding (S.window - s.outstanding)
      also all_from (empty_slot s.slots) S.window (64 - S.window)

  unfoldable pub formed_receiver : Receiver → Bool
  formed_receiver r =
      A.seq_in r.nxt
      also leb r.window S.window
      also A.clk_in r.clock
      also formed_recent r.recent
      also all_from (right_ahead S.window r.slots r.marks r.nxt r.window) 0 S.window
      also all_from (unused r.slots r.marks) S.window (64 - S.window)

  -- the fields of a packet that is handed over are in their ranges
  unfoldable pub right_data : BareData → Bool
  right_data p = A.seq_in p.seq also A.clk_in p.stamp

  unfoldable pub right_ack : BareAck → Bool
  right_ack p = A.seq_in p.ack also leb p.window S.window also A.clk_in p.stamp

  -- and so is the age of one that a channel holds
  abbrev pub formed_data : DataPacket → Bool
  formed_data = formed_aged right_data S.life

  abbrev pub formed_ack : AckPacket → Bool
  formed_ack = formed_aged right_ack S.life

-- a channel: at most 32 packets, each as it should be, and nothing in the places past them
unfoldable pub formed_channel : {H P C : Type 0} → Kind H P C → (P → Bool) → C → Bool
formed_channel K right c =
    leb (K.count c) 32 also every right (live K c) also every K.is_nothing (drop (K.count c) (K.packets c))

-- the three parts beside the sender have the setup S
abbrev pub same_setups : Setup → Bench → Bool
same_setups S b = same_setup S b.receiver.setup also same_setup S b.datas.setup also same_setup S b.acks.setup

-- ---- malformed: each part by its own setup; the bench by the one setup of all four
unfoldable pub malformed_channel : {P : Type 0} → Kind P (Aged P) (Channel P) → (Setup → P → Bool) → Channel P → Bool
malformed_channel K right c =
    not (admitted c.setup also formed_channel K (formed_aged (right c.setup) c.setup.life) c)

module _ (A : Setup → Arith) where
  unfoldable pub malformed_sender : Sender → Bool
  malformed_sender s = not (admitted s.setup also formed_sender (A s.setup) s.setup s)

  unfoldable pub malformed_receiver : Receiver → Bool
  malformed_receiver r = not (admitted r.setup also formed_receiver (A r.setup) r.setup r)

  abbrev pub malformed_data_channel : DataChannel → Bool
  malformed_data_channel = malformed_channel data_channel (λ S. right_data (A S) S)

  abbrev pub malformed_ack_channel : AckChannel → Bool
  malformed_ack_channel = malformed_channel ack_channel (λ S. right_ack (A S) S)

  unfoldable pub formed_bench : Setup → Bench → Bool
  formed_bench S b =
      same_setups S b
      also formed_sender (A S) S b.sender
      also formed_receiver (A S) S b.receiver
      also formed_channel data_channel (formed_data (A S) S) b.datas
      also formed_channel ack_channel (formed_ack (A S) S) b.acks

  unfoldable pub malformed_bench : Bench → Bool
  malformed_bench b = not (admitted b.sender.setup also formed_bench b.sender.setup b)
