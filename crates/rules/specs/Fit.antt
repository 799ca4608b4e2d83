-- What a state that is not malformed has, as facts: the functions that do the work ask for these of their caller.
use Rattle.std.specs.Prelude.{◌≡◌, true, ℕ, ◌+◌, ◌%◌, ◌≤◌, ◌<◌}
use Rattle.std.specs.Int.{◌∣◌}
use Rattle.rules.specs.declared.Setup.{Setup}
use Rattle.rules.specs.declared.Recent.{Recent}
use Rattle.rules.specs.declared.Sender.{Sender}
use Rattle.rules.specs.declared.Receiver.{Receiver}
use Rattle.rules.specs.declared.BareData.{BareData}
use Rattle.rules.specs.declared.BareAck.{BareAck}
use Rattle.rules.specs.Numbers.{NS, NC, wrapped}
use Rattle.rules.specs.Marks.{marked}
use Rattle.rules.specs.Rows.{row}
use Rattle.rules.specs.declared.Bench.{Bench}
use Rattle.rules.specs.Parts.{Kind, live, data_channel, ack_channel}
use Rattle.rules.specs.Malformed.{every, right_data, right_ack}

pub record FitSetup (S : Setup) : Type 0 where
  pub some : 1 ≤ S.window
  pub most : S.window ≤ 64
  pub seqbits : S.seqbits ≤ 32
  pub clockbits : S.clockbits ≤ 32
  pub even : S.window ∣ NS S

pub record FitRecent (S : Setup) (r : Recent) : Type 0 where
  pub stamp : r.stamp < NC S
  pub age : r.age ≤ S.life

pub record FitSender (s : Sender) : Type 0 where
  pub setup : FitSetup s.setup
  pub una : s.una < NS s.setup
  pub outstanding : s.outstanding ≤ s.setup.window
  pub granted : s.granted ≤ s.setup.window
  pub accepted : s.accepted ≤ s.setup.rate
  pub clock : s.clock < NC s.setup
  pub recent : FitRecent s.setup s.recent

-- each marked slot, named by its distance ahead of q round R, lies within w
pub record Within (R q w mk : ℕ) : Type 0 where
  pub near : (d : ℕ) → d < R → marked mk ((q + d) % R) ≡ true → d < w

pub record FitReceiver (r : Receiver) : Type 0 where
  pub setup : FitSetup r.setup
  pub nxt : r.nxt < NS r.setup
  pub window : r.window ≤ r.setup.window
  pub clock : r.clock < NC r.setup
  pub recent : FitRecent r.setup r.recent
  pub marks : Within r.setup.window r.nxt r.window r.marks

-- a packet handed over with its fields in their ranges
pub record FitData (S : Setup) (p : BareData) : Type 0 where
  pub seq : p.seq < NS S
  pub stamp : p.stamp < NC S

pub record FitAck (S : Setup) (p : BareAck) : Type 0 where
  pub ack : p.ack < NS S
  pub window : p.window ≤ S.window
  pub stamp : p.stamp < NC S

-- a channel's array is the list of its packets and empty places
pub record FitChannel {H P C : Type 0} (K : Kind H P C) (c : C) : Type 0 where
  pub few : K.count c ≤ 32
  pub rest : K.packets c ≡ row (K.new K.nothing) (live K c)

-- the four parts, with one setup, and packets in their ranges
pub record FitBench (b : Bench) : Type 0 where
  pub sender : FitSender b.sender
  pub receiver : FitReceiver b.receiver
  pub datas : FitChannel data_channel b.datas
  pub acks : FitChannel ack_channel b.acks
  pub same_receiver : b.receiver.setup ≡ b.sender.setup
  pub same_datas : b.datas.setup ≡ b.sender.setup
  pub same_acks : b.acks.setup ≡ b.sender.setup
  pub right_datas : every (λ p. right_data (wrapped b.sender.setup) b.sender.setup (data_channel.bare p)) (live data_channel b.datas) ≡ true
  pub right_acks : every (λ p. right_ack (wrapped b.sender.setup) b.sender.setup (ack_channel.bare p)) (live ack_channel b.acks) ≡ true
