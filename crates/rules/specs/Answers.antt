-- What a caller reads off a result is the rule's answer: each operation answers 0 or the number of one of the thirteen refusals, and no
-- number is lost on the way to a refusal and back.
use Rattle.std.specs.Prelude.{◌≡◌, Bool, ℕ, ◌≤◌}
use Rattle.rules.specs.declared.Setup.{Setup}
use Rattle.rules.specs.declared.Sender.{Sender}
use Rattle.rules.specs.declared.Receiver.{Receiver}
use Rattle.rules.specs.declared.BareData.{BareData}
use Rattle.rules.specs.declared.BareAck.{BareAck}
use Rattle.rules.specs.declared.Bench.{Bench}
use Rattle.rules.specs.Numbers.{Arith}
use Rattle.rules.specs.Refusals.{number, refusal, answer_of}
use Rattle.rules.specs.Parts.{Kind}
use Rattle.rules.specs.Events.{Out, Made, Event}
use Rattle.rules.specs.Operations.{begun, sender_accept, sender_send, sender_hear, sender_tick, receiver_data, receiver_room, receiver_ack, receiver_tick, channel_add, channel_take, channel_drop, channel_duplicate, channel_tick, step, returned, counted, made}

pub record Read {X : Type 0} (o : Out X) : Type 0 where
  pub known : o.answer ≤ 13
  pub of_returned : answer_of (returned o) ≡ o.answer
  pub of_counted : answer_of (counted o) ≡ o.answer

pub record ReadMade {H X : Type 0} (m : Made H X) : Type 0 where
  pub known : m.answer ≤ 13
  pub of_made : answer_of (made m) ≡ m.answer

pub record SenderRead (s : Sender) : Type 0 where
  pub accept : (u : ℕ) → Read (sender_accept s u)
  pub send : (k : ℕ) → ReadMade (sender_send s k)
  pub hear : (p : BareAck) → Read (sender_hear s p)
  pub tick : Read (sender_tick s)

pub record ReceiverRead (r : Receiver) : Type 0 where
  pub arrive : (p : BareData) (n : ℕ) → Read (receiver_data r p n)
  pub room : Read (receiver_room r)
  pub ack : ReadMade (receiver_ack r)
  pub tick : Read (receiver_tick r)

pub record ChannelRead {H P C : Type 0} (K : Kind H P C) (malformed : C → Bool) (c : C) : Type 0 where
  pub add : (right : H → Bool) (p : H) → Read (channel_add K malformed c right p)
  pub take : (j : ℕ) → ReadMade (channel_take K malformed c j)
  pub drop : (j : ℕ) → Read (channel_drop K malformed c j)
  pub duplicate : (j : ℕ) → Read (channel_duplicate K malformed c j)
  pub tick : (L : ℕ) → Read (channel_tick K malformed c L)

pub record Answers : Type 1 where
  pub refusals : (n : ℕ) → 1 ≤ n → n ≤ 13 → number (refusal n) ≡ n
  pub fresh : {X : Type 0} (fresh : Setup → X) (S : Setup) → Read (begun fresh S)
  pub sender : (s : Sender) → SenderRead s
  pub receiver : (r : Receiver) → ReceiverRead r
  pub channel : {H P C : Type 0} (K : Kind H P C) (malformed : C → Bool) (c : C) → ChannelRead K malformed c
  pub bench : (A : Setup → Arith) (e : Event) (b : Bench) → Read (step A e b)
