-- The public operations: what each gives back on every input. An operation refuses a malformed state with 2, a short row with 8
-- and a packet out of range with 3, in this order, and then does what the event's rule says. The contracts cite these.
use Rattle.std.specs.Prelude.{◌≡◌, Bool, cond, List, ℕ, eqb, length, Result, Ok, Err}
use Rattle.rules.specs.declared.Setup.{Setup}
use Rattle.rules.specs.declared.Sender.{Sender}
use Rattle.rules.specs.declared.Receiver.{Receiver}
use Rattle.rules.specs.declared.BareData.{BareData}
use Rattle.rules.specs.declared.BareAck.{BareAck}
use Rattle.rules.specs.declared.Bench.{Bench}
use Rattle.rules.specs.declared.Refusal.{Refusal}
use Rattle.rules.specs.declared.Refused.{Refused}
use Rattle.rules.specs.Numbers.{Arith, wrapped}
use Rattle.rules.specs.Refusals.{refusal, left, left_with}
use Rattle.rules.specs.Setups.{admitted, zero_setup}
use Rattle.rules.specs.Rows.{laid}
use Rattle.rules.specs.Parts.{Kind, no_data, no_ack}
use Rattle.rules.specs.Malformed.{right_data, right_ack, malformed_sender, malformed_receiver, malformed_bench}
use Rattle.rules.specs.Events.{Out, refused, done, Made, gives, accepting, sending, may_lend, arriving, opening, ack_of, hearing, adding, taking, dropping, copying, ticked_channel, ticked_sender, ticked_receiver, Event, act}

-- ---- the refusals that come first
-- 1 if the setup is not admitted: the all-zero state
abbrev pub begun : {X : Type 0} → (Setup → X) → Setup → Out X
begun fresh S = cond (admitted S) (done (fresh S)) (refused (fresh zero_setup) 1)

-- 2 if the state is malformed
abbrev pub may_work : {X : Type 0} → Bool → (ℕ → X) → X → X
may_work malformed refuse go = cond malformed (refuse 2) go

-- 3 if the packet handed over has a field out of range
abbrev pub may_hand : {X : Type 0} → Bool → (ℕ → X) → X → X
may_hand right refuse go = cond right go (refuse 3)

-- ---- sender
module _ (s : Sender) where
  abbrev pub sender_accept : ℕ → Out Sender
  sender_accept u = may_work (malformed_sender wrapped s) (refused s) (accepting (wrapped s.setup) s.setup u s)

  abbrev pub sender_send : ℕ → Made BareData Sender
  sender_send k = may_work (malformed_sender wrapped s) (λ n. gives n no_data s) (sending (wrapped s.setup) s.setup k s)

  abbrev pub sender_hear : BareAck → Out Sender
  sender_hear p =
      may_work (malformed_sender wrapped s) (refused s)
      (may_hand (right_ack (wrapped s.setup) s.setup p) (refused s) (hearing (wrapped s.setup) s.setup p s))

  abbrev pub sender_tick : Out Sender
  sender_tick = may_work (malformed_sender wrapped s) (refused s) (done (ticked_sender (wrapped s.setup) s.setup s))

-- ---- receiver
module _ (r : Receiver) where
  -- n is the length of the lent row
  abbrev pub receiver_data : BareData → ℕ → Out Receiver
  receiver_data p n =
      may_work (malformed_receiver wrapped r) (refused r)
      (may_lend r.setup n (refused r)
      (may_hand (right_data (wrapped r.setup) r.setup p) (refused r) (arriving (wrapped r.setup) r.setup p r)))

  abbrev pub receiver_room : Out Receiver
  receiver_room = may_work (malformed_receiver wrapped r) (refused r) (opening r.setup r)

  abbrev pub receiver_ack : Made BareAck Receiver
  receiver_ack = may_work (malformed_receiver wrapped r) (λ n. gives n no_ack r) (gives 0 (ack_of r) r)

  abbrev pub receiver_tick : Out Receiver
  receiver_tick = may_work (malformed_receiver wrapped r) (refused r) (done (ticked_receiver (wrapped r.setup) r.setup r))

-- ---- either channel: `malformed` is its test, `right` the test of a packet handed over
module _ {H P C : Type 0} (K : Kind H P C) (malformed : C → Bool) (c : C) where
  abbrev pub channel_add : (H → Bool) → H → Out C
  channel_add right p = may_work (malformed c) (refused c) (may_hand (right p) (refused c) (adding K p c))

  -- the packet is given without its age
  abbrev pub channel_take : ℕ → Made H C
  channel_take j = may_work (malformed c) (λ n. gives n K.nothing c) (taking K j c)

  abbrev pub channel_drop : ℕ → Out C
  channel_drop j = may_work (malformed c) (refused c) (dropping K j c)

  abbrev pub channel_duplicate : ℕ → Out C
  channel_duplicate j = may_work (malformed c) (refused c) (copying K j c)

  abbrev pub channel_tick : ℕ → Out C
  channel_tick L = may_work (malformed c) (refused c) (done (ticked_channel K L c))

-- ---- the bench, at any arithmetic: one event
module _ (A : Setup → Arith) where
  unfoldable pub step : Event → Bench → Out Bench
  step e b = may_work (malformed_bench A b) (refused b) (act (A b.sender.setup) b.sender.setup e b)

-- ---- as the code gives it back: Ok, or Err with the refusal of the answer's number; and the state
abbrev pub answered : {T : Type 0} → ℕ → T → Result T Refusal
answered n t = cond (eqb n 0) (Ok t) (Err (refusal n))

module _ {X : Type 0} where
  abbrev pub returned : Out X → Result X (Refused X)
  returned o = left (answered o.answer tt) o.state

  -- with the count of the delivered units; the lent row then holds `laid o.units row`
  abbrev pub counted : Out X → Result (ℕ × X) (Refused X)
  counted o = left_with (answered o.answer (length o.units)) o.state

  -- with the packet
  abbrev pub made : {H : Type 0} → Made H X → Result (H × X) (Refused X)
  made m = left_with (answered m.answer m.packet) m.state

  -- ---- and of the work on a state in place
  pub record Does (o : Out X) (r : Result (Unit {0}) Refusal) (x : X) : Type 0 where
    pub gives : r ≡ answered o.answer tt
    pub leaves : x ≡ o.state

  pub record Counts (o : Out X) (r : Result ℕ Refusal) (x : X) (row₀ row : List ℕ) : Type 0 where
    pub gives : r ≡ answered o.answer (length o.units)
    pub leaves : x ≡ o.state
    pub lent : row ≡ laid o.units row₀

  pub record Makes {H : Type 0} (m : Made H X) (r : Result H Refusal) (x : X) : Type 0 where
    pub gives : r ≡ answered m.answer m.packet
    pub leaves : x ≡ m.state
