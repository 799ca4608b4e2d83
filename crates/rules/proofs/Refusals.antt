-- The numbers of the refusals: each number from 1 to 13 is its refusal's, and no operation answers by another. So what a caller reads
-- off a result is the rule's answer, as specs/Answers.antt states.
use Rattle.std.specs.Prelude.{◌≡◌, Bool, true, false, cond, ℕ, ◌≤◌}
use native.Mathlib.Omega.{arith}
use Rattle.rules.specs.declared.Setup.{Setup}
use Rattle.rules.specs.declared.Bench.{Bench}
use Rattle.rules.specs.declared.Sender.{Sender}
use Rattle.rules.specs.declared.Receiver.{Receiver}
use Rattle.rules.specs.Numbers.{Arith}
use Rattle.rules.specs.Refusals.{number, refusal, answer_of}
use Rattle.rules.specs.Malformed.{malformed_bench}
use Rattle.rules.specs.Events.{Out, Made, refused, Event, accept, send, arrive, room, acknowledge, hear, dropd, dropa, dupd, dupa, tick, act}
use Rattle.rules.specs.Parts.{Kind}
use Rattle.rules.specs.Operations.{returned, counted, begun, sender_accept, sender_send, sender_hear, sender_tick, receiver_data, receiver_room, receiver_ack, receiver_tick, channel_add, channel_take, channel_drop, channel_duplicate, channel_tick, step}
use Rattle.rules.specs.Answers.{Read, ReadMade, SenderRead, ReceiverRead, ChannelRead, Answers}

pub number_refusal : (n : ℕ) → 1 ≤ n → n ≤ 13 → number (refusal n) ≡ n
number_refusal n lo hi = grind arith

-- ---- an event is answered by 0 or by one of the thirteen
module _ {X : Type 0} where
  abbrev Known : Out X → Type 0
  Known o = o.answer ≤ 13

act_known : (A : Arith) (S : Setup) (e : Event) (b : Bench) → Known (act A S e b)
unfolding act
act_known A S (accept u) b = grind arith
act_known A S (send k) b = grind arith
act_known A S (arrive j n) b = grind arith
act_known A S room b = grind arith
act_known A S acknowledge b = grind arith
act_known A S (hear j) b = grind arith
act_known A S (dropd j) b = grind arith
act_known A S (dropa j) b = grind arith
act_known A S (dupd j) b = grind arith
act_known A S (dupa j) b = grind arith
act_known A S tick b = grind arith

pub step_known : (A : Setup → Arith) (e : Event) (b : Bench) → Known (step A e b)
unfolding step
step_known A e b = go (malformed_bench A b)
  where
    go : (t : Bool) → Known (cond t (refused b 2) (act (A b.sender.setup) b.sender.setup e b))
    go true = omega arith
    go false = act_known _ _ e b

-- ---- what a caller reads off a result
module _ {X : Type 0} (o : Out X) (k : Known o) where
  pub answer_returned : answer_of (returned o) ≡ o.answer
  answer_returned = grind (arith, number_refusal)

  pub answer_counted : answer_of (counted o) ≡ o.answer
  answer_counted = grind (arith, number_refusal)

read : {X : Type 0} (o : Out X) → Known o → Read o
read o k = record { known = k; of_returned = answer_returned o k; of_counted = answer_counted o k }

read_made : {H X : Type 0} (m : Made H X) → m.answer ≤ 13 → ReadMade m
read_made m k = record { known = k; of_made = grind (arith, number_refusal) }

-- ---- each operation
sender_read : (s : Sender) → SenderRead s
sender_read s = record {
  accept = λ u. read (sender_accept s u) (grind arith);
  send = λ k. read_made (sender_send s k) (grind arith);
  hear = λ p. read (sender_hear s p) (grind arith);
  tick = read (sender_tick s) (grind arith);
}

receiver_read : (r : Receiver) → ReceiverRead r
receiver_read r = record {
  arrive = λ p n. read (receiver_data r p n) (grind arith);
  room = read (receiver_room r) (grind arith);
  ack = read_made (receiver_ack r) (grind arith);
  tick = read (receiver_tick r) (grind arith);
}

channel_read : {H P C : Type 0} (K : Kind H P C) (malformed : C → Bool) (c : C) → ChannelRead K malformed c
channel_read K malformed c = record {
  add = λ right p. read (channel_add K malformed c right p) (grind arith);
  take = λ j. read_made (channel_take K malformed c j) (grind arith);
  drop = λ j. read (channel_drop K malformed c j) (grind arith);
  duplicate = λ j. read (channel_duplicate K malformed c j) (grind arith);
  tick = λ L. read (channel_tick K malformed c L) (grind arith);
}

fresh_read : {X : Type 0} (fresh : Setup → X) (S : Setup) → Read (begun fresh S)
fresh_read fresh S = read (begun fresh S) (grind arith)

pub answers : Answers
answers = record {
  refusals = number_refusal;
  fresh = fresh_read;
  sender = sender_read;
  receiver = receiver_read;
  channel = channel_read;
  bench = λ A e b. read (step A e b) (step_known A e b);
}
