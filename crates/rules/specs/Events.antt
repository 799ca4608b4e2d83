-- The events, in the order of docs/RULES.md. A test `may_…` goes through an event's refusals in their order; it is handed what to make
-- of a refusal's number (`refuse`) and of an event that goes on (`go`). The event itself, as `accepting`, is its test and its
-- effect on the end or the channel that it concerns; the bench applies it to that part.
use Rattle.std.specs.Prelude.{Bool, true, cond, List, [], ◌∷◌, ◌++◌, ℕ, zero, suc, ◌+◌, ◌-◌, ◌%◌, max, leb, ltb, eqb, length, get_or, set}
use Rattle.rules.specs.declared.Setup.{Setup}
use Rattle.rules.specs.declared.Recent.{Recent}
use Rattle.rules.specs.declared.Sender.{Sender}
use Rattle.rules.specs.declared.Receiver.{Receiver}
use Rattle.rules.specs.declared.BareData.{BareData}
use Rattle.rules.specs.declared.BareAck.{BareAck}
use Rattle.rules.specs.Parts.{DataChannel}
use Rattle.rules.specs.Parts.{AckChannel}
use Rattle.rules.specs.declared.Bench.{Bench}
use Rattle.rules.specs.Numbers.{Arith, Place, behind, ahead, place}
use Rattle.rules.specs.Marks.{marked, mark, unmark}
use Rattle.rules.specs.Rows.{remove, aged}
use Rattle.rules.specs.Parts.{none, since, no_data, Kind, live, data_channel, ack_channel}

-- ---- what an event gives: the number, the units delivered, and the state that it leaves
pub record Out (X : Type 0) : Type 0 where
  pub answer : ℕ
  pub units : List ℕ
  pub state : X

-- refused with a number, and everything stays
abbrev pub refused : {X : Type 0} → X → ℕ → Out X
refused x n = record { answer = n; units = []; state = x }

abbrev pub done : {X : Type 0} → X → Out X
done x = refused x 0

-- and where an event gives a packet: in a refusal it is all 0
pub record Made (H X : Type 0) : Type 0 where
  pub answer : ℕ
  pub packet : H
  pub state : X

abbrev pub gives : {H X : Type 0} → ℕ → H → X → Made H X
gives n p x = record { answer = n; packet = p; state = x }

-- ---- the timestamp test
-- passed if there is no recent, or if the packet's timestamp is fresh against it
abbrev pub passed : Arith → Recent → ℕ → Bool
passed A r t = cond r.held (A.fresh t r.stamp) true

-- a tick makes recent one older; one whose age is now above L is gone
abbrev pub older : ℕ → Recent → Recent
older L r = cond r.held (cond (leb (suc r.age) L) (since r.stamp (suc r.age)) none) none

-- ---- accept a unit
-- 6 if outstanding ≥ granted, else 7 if B units were accepted in this tick
abbrev pub may_accept : {X : Type 0} → Setup → Sender → (ℕ → X) → X → X
may_accept S s refuse go = cond (leb s.granted s.outstanding) (refuse 6) (cond (leb S.rate s.accepted) (refuse 7) go)

module _ (A : Arith) (S : Setup) where
  -- stored at una + outstanding
  abbrev pub with_unit : ℕ → Sender → Sender
  with_unit u s = record {
    setup = s.setup;
    una = s.una;
    outstanding = suc s.outstanding;
    granted = s.granted;
    accepted = suc s.accepted;
    clock = s.clock;
    recent = s.recent;
    slots = set s.slots (A.seq (s.una + s.outstanding) % S.window) u;
  }

  abbrev pub accepting : ℕ → Sender → Out Sender
  accepting u s = may_accept S s (refused s) (done (with_unit u s))

-- ---- send k
-- 4 if k ≥ outstanding
abbrev pub may_send : {X : Type 0} → ℕ → Sender → (ℕ → X) → X → X
may_send k s refuse go = cond (leb s.outstanding k) (refuse 4) go

module _ (A : Arith) (S : Setup) where
  -- a packet with number una + k and the sender's clock
  abbrev pub packet_of : ℕ → Sender → BareData
  packet_of k s = record
      { seq = A.seq (s.una + k); stamp = s.clock; unit = get_or s.slots (A.seq (s.una + k) % S.window) 0 }

  abbrev pub sending : ℕ → Sender → Made BareData Sender
  sending k s = may_send k s (λ n. gives n no_data s) (gives 0 (packet_of k s) s)

-- ---- data arriving
-- a delivery: the units that came out, and what it leaves
pub record Delivery : Type 0 where
  pub units : List ℕ
  pub nxt : ℕ
  pub slots : List ℕ
  pub marks : ℕ

abbrev pub and_first : ℕ → Delivery → Delivery
and_first u d = record { units = u ∷ d.units; nxt = d.nxt; slots = d.slots; marks = d.marks }

module _ (seq : ℕ → ℕ) (R : ℕ) where
  -- units from nxt on, up to the first slot that is not marked; each turn clears one of R marks, so R turns are enough
  abbrev pub deliver : ℕ → ℕ → List ℕ → ℕ → Delivery
  deliver zero q sl mk = record { units = []; nxt = q; slots = sl; marks = mk }
  deliver (suc turns) q sl mk =
      cond (marked mk (q % R))
      (and_first (get_or sl (q % R) 0) (deliver turns (seq (suc q)) (set sl (q % R) 0) (unmark mk (q % R))))
      (record { units = []; nxt = q; slots = sl; marks = mk })

  -- the slots of o units from una on, cleared
  abbrev pub freed : ℕ → ℕ → List ℕ → List ℕ
  freed zero q sl = sl
  freed (suc o) q sl = freed o (seq (suc q)) (set sl (q % R) 0)

-- 8 if the lent row is shorter than RW; n is its length
abbrev pub may_lend : {X : Type 0} → Setup → ℕ → (ℕ → X) → X → X
may_lend S n refuse go = cond (ltb n S.window) (refuse 8) go

module _ (A : Arith) (S : Setup) where
  -- 10 if o ≥ RW (on whole numbers also if it is negative), else 11 if o ≥ window, else 12 if the slot is marked
  abbrev pub may_store : {X : Type 0} → BareData → Receiver → (ℕ → X) → (ℕ → X) → Place → X
  may_store p r refuse go behind = refuse 10
  may_store p r refuse go (ahead o) =
      cond (leb r.window o) (refuse 11) (cond (marked r.marks (p.seq % S.window)) (refuse 12) (go o))

  -- 9 if the test is not passed; then by o, the packet's number − nxt
  abbrev pub may_arrive : {X : Type 0} → BareData → Receiver → (ℕ → X) → (ℕ → X) → X
  may_arrive p r refuse go =
      cond (passed A r.recent p.stamp) (may_store p r refuse go (place S.window (A.off p.seq r.nxt))) (refuse 9)

  -- o = 0: recent becomes the packet's timestamp, and the window falls by the count delivered
  abbrev pub advanced : ℕ → Receiver → Delivery → Out Receiver
  advanced t r d = record {
    answer = 0;
    units = d.units;
    state = record {
      setup = r.setup;
      nxt = d.nxt;
      window = r.window - length d.units;
      clock = r.clock;
      recent = since t 0;
      slots = d.slots;
      marks = d.marks;
    };
  }

  -- stored and marked; delivered from nxt on if o = 0
  abbrev pub stored : BareData → Receiver → ℕ → Out Receiver
  stored p r o =
      let sl = set r.slots (p.seq % S.window) p.unit in
      let mk = mark r.marks (p.seq % S.window) in
      cond (eqb o 0)
      (advanced p.stamp r (deliver A.seq S.window S.window r.nxt sl mk))
      (done (record
      { setup = r.setup; nxt = r.nxt; window = r.window; clock = r.clock; recent = r.recent; slots = sl; marks = mk }))

  abbrev pub arriving : BareData → Receiver → Out Receiver
  arriving p r = may_arrive p r (refused r) (stored p r)

-- ---- room
-- 13 if the window is RW
abbrev pub may_open : {X : Type 0} → Setup → Receiver → (ℕ → X) → X → X
may_open S r refuse go = cond (leb S.window r.window) (refuse 13) go

-- the window grows by 1
abbrev pub opened : Receiver → Receiver
opened r = record
    { setup = r.setup; nxt = r.nxt; window = suc r.window; clock = r.clock; recent = r.recent; slots = r.slots; marks = r.marks }

abbrev pub opening : Setup → Receiver → Out Receiver
opening S r = may_open S r (refused r) (done (opened r))

-- ---- ack
-- a packet with nxt, the window and the receiver's clock
abbrev pub ack_of : Receiver → BareAck
ack_of r = record { ack = r.nxt; window = r.window; stamp = r.clock }

-- ---- hear
module _ (A : Arith) (S : Setup) where
  -- 10 if o > RW (on whole numbers also if it is negative), else 11 if o > outstanding
  abbrev pub may_free : {X : Type 0} → Sender → (ℕ → X) → (ℕ → X) → Place → X
  may_free s refuse go behind = refuse 10
  may_free s refuse go (ahead o) = cond (leb o s.outstanding) (go o) (refuse 11)

  -- 9 if the test is not passed; then by o, the acknowledgement number − una
  abbrev pub may_hear : {X : Type 0} → BareAck → Sender → (ℕ → X) → (ℕ → X) → X
  may_hear p s refuse go =
      cond (passed A s.recent p.stamp) (may_free s refuse go (place (suc S.window) (A.off p.ack s.una))) (refuse 9)

  -- o = 0: the granted window becomes the larger of the two; else o units are freed and the window becomes the packet's.
  -- recent becomes the packet's timestamp
  abbrev pub heard : BareAck → Sender → ℕ → Sender
  heard p s o =
      cond (eqb o 0)
      (record {
        setup = s.setup;
        una = s.una;
        outstanding = s.outstanding;
        granted = max s.granted p.window;
        accepted = s.accepted;
        clock = s.clock;
        recent = since p.stamp 0;
        slots = s.slots;
      })
      (record {
        setup = s.setup;
        una = A.seq (s.una + o);
        outstanding = s.outstanding - o;
        granted = p.window;
        accepted = s.accepted;
        clock = s.clock;
        recent = since p.stamp 0;
        slots = freed A.seq S.window o s.una s.slots;
      })

  abbrev pub hearing : BareAck → Sender → Out Sender
  hearing p s = may_hear p s (refused s) (λ o. done (heard p s o))

-- ---- a channel: add, take, drop, duplicate
-- 4 if there is no place j
abbrev pub may_find : {X : Type 0} → ℕ → ℕ → (ℕ → X) → X → X
may_find count j refuse go = cond (leb count j) (refuse 4) go

-- 5 if the channel is full
abbrev pub may_add : {X : Type 0} → ℕ → (ℕ → X) → X → X
may_add count refuse go = cond (leb 32 count) (refuse 5) go

module _ {H P C : Type 0} (K : Kind H P C) where
  abbrev pub packet_at : ℕ → C → P
  packet_at j c = get_or (live K c) j (K.new K.nothing)

  -- a packet goes to the end
  abbrev pub pushing : P → C → Out C
  pushing p c = may_add (K.count c) (refused c) (done (K.fill c (live K c ++ p ∷ [])))

  -- with age 0
  abbrev pub adding : H → C → Out C
  adding p c = pushing (K.new p) c

  abbrev pub removed : ℕ → C → C
  removed j c = K.fill c (remove j (live K c))

  -- the packet at place j, without its age
  abbrev pub taking : ℕ → C → Made H C
  taking j c =
      may_find (K.count c) j (λ n. gives n K.nothing c) (gives 0 (K.bare (packet_at j c)) (removed j c))

  abbrev pub dropping : ℕ → C → Out C
  dropping j c = may_find (K.count c) j (refused c) (done (removed j c))

  -- a copy keeps the age
  abbrev pub copying : ℕ → C → Out C
  copying j c = may_find (K.count c) j (refused c) (pushing (packet_at j c) c)

  abbrev pub ticked_channel : ℕ → C → C
  ticked_channel L c = K.fill c (aged K.age K.older L (live K c))

-- ---- tick
module _ (A : Arith) (S : Setup) where
  abbrev pub ticked_sender : Sender → Sender
  ticked_sender s = record {
    setup = s.setup;
    una = s.una;
    outstanding = s.outstanding;
    granted = s.granted;
    accepted = 0;
    clock = A.clk (suc s.clock);
    recent = older S.life s.recent;
    slots = s.slots;
  }

  abbrev pub ticked_receiver : Receiver → Receiver
  ticked_receiver r = record {
    setup = r.setup;
    nxt = r.nxt;
    window = r.window;
    clock = A.clk (suc r.clock);
    recent = older S.life r.recent;
    slots = r.slots;
    marks = r.marks;
  }

-- ---- the bench: an event of one part. Only the receiver delivers units
abbrev pub on_sender : Bench → Out Sender → Out Bench
on_sender b o = record {
  answer = o.answer;
  units = [];
  state = record { sender = o.state; receiver = b.receiver; datas = b.datas; acks = b.acks };
}

abbrev pub on_receiver : Bench → Out Receiver → Out Bench
on_receiver b o = record {
  answer = o.answer;
  units = o.units;
  state = record { sender = b.sender; receiver = o.state; datas = b.datas; acks = b.acks };
}

abbrev pub on_datas : Bench → Out DataChannel → Out Bench
on_datas b o = record {
  answer = o.answer;
  units = [];
  state = record { sender = b.sender; receiver = b.receiver; datas = o.state; acks = b.acks };
}

abbrev pub on_acks : Bench → Out AckChannel → Out Bench
on_acks b o = record {
  answer = o.answer;
  units = [];
  state = record { sender = b.sender; receiver = b.receiver; datas = b.datas; acks = o.state };
}

-- the bench without the packet at place j of a channel: whatever an end answers to it, the packet is gone
abbrev pub without_data : ℕ → Bench → Bench
without_data j b = record
    { sender = b.sender; receiver = b.receiver; datas = removed data_channel j b.datas; acks = b.acks }

abbrev pub without_ack : ℕ → Bench → Bench
without_ack j b = record
    { sender = b.sender; receiver = b.receiver; datas = b.datas; acks = removed ack_channel j b.acks }

-- ---- the events of the bench
-- a data event brings the place and the length of the lent row
pub data Event : Type 0 where
  accept : ℕ → Event
  send : ℕ → Event
  arrive : ℕ → ℕ → Event
  room : Event
  acknowledge : Event
  hear : ℕ → Event
  dropd dropa dupd dupa : ℕ → Event
  tick : Event

module _ (A : Arith) (S : Setup) where
  -- 4 comes from the sender and 5 from the channel
  abbrev pub bench_send : ℕ → Bench → Out Bench
  bench_send k b =
      may_send k b.sender (refused b) (on_datas b (adding data_channel (packet_of A S k b.sender) b.datas))

  abbrev pub bench_data : ℕ → ℕ → Bench → Out Bench
  bench_data j n b =
      may_lend S n (refused b)
      (may_find b.datas.count j (refused b)
      (on_receiver (without_data j b) (arriving A S (packet_at data_channel j b.datas).packet b.receiver)))

  abbrev pub bench_hear : ℕ → Bench → Out Bench
  bench_hear j b =
      may_find b.acks.count j (refused b)
      (on_sender (without_ack j b) (hearing A S (packet_at ack_channel j b.acks).packet b.sender))

  abbrev pub bench_tick : Bench → Out Bench
  bench_tick b = done (record {
    sender = ticked_sender A S b.sender;
    receiver = ticked_receiver A S b.receiver;
    datas = ticked_channel data_channel S.life b.datas;
    acks = ticked_channel ack_channel S.life b.acks;
  })

  -- an event on a bench that is not malformed
  unfoldable pub act : Event → Bench → Out Bench
  act (accept u) b = on_sender b (accepting A S u b.sender)
  act (send k) b = bench_send k b
  act (arrive j n) b = bench_data j n b
  act room b = on_receiver b (opening S b.receiver)
  act acknowledge b = on_acks b (adding ack_channel (ack_of b.receiver) b.acks)
  act (hear j) b = bench_hear j b
  act (dropd j) b = on_datas b (dropping data_channel j b.datas)
  act (dropa j) b = on_acks b (dropping ack_channel j b.acks)
  act (dupd j) b = on_datas b (copying data_channel j b.datas)
  act (dupa j) b = on_acks b (copying ack_channel j b.acks)
  act tick b = bench_tick b
