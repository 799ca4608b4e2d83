-- The invariant of the bench on whole numbers, and what one event on both machines has to keep. The invariant has data of its own:
-- the past of both ends, tick by tick, which no part of the bench remembers. A packet's facts are told against that past, so they
-- outlive the tick.
use mathlib.Core.Path.{◌≡◌}
use mathlib.Core.Bool.{false}
use mathlib.Core.List.{List, [], ◌∷◌}
use Prim.Native.Nat.{ℕ, zero, suc, ◌+◌, ◌*◌, ◌/◌, ◌%◌, ◌^◌, ◌≤◌, ◌<◌}
use native.Mathlib.Omega.{arith}
use lib.ListN.{length}
use Rattle.rules.specs.declared.Setup.{Setup}
use Rattle.rules.specs.declared.Sender.{Sender}
use Rattle.rules.specs.declared.Receiver.{Receiver}
use Rattle.rules.specs.Parts.{DataPacket}
use Rattle.rules.specs.Parts.{AckPacket}
use Rattle.rules.specs.Parts.{DataChannel}
use Rattle.rules.specs.Parts.{AckChannel}
use Rattle.rules.specs.declared.Bench.{Bench}
use Rattle.rules.specs.Numbers.{NS, NC}
use Rattle.rules.specs.Marks.{marked}
use Rattle.rules.specs.Parts.{data_channel, ack_channel}
use Rattle.rules.specs.Fit.{FitSetup}
use Rattle.rules.specs.Events.{Out, on_sender, on_receiver}
use Rattle.rules.specs.Agreement.{wrap}
use Rattle.rules.proofs.Fits.{Limits, fit_setup}
use Rattle.rules.proofs.Agreement.Way.{Falls, Sent, Kept}
use Rattle.rules.proofs.Agreement.Ring.{Marks, Stored}
use Rattle.rules.proofs.Agreement.Channels.{Proper, shown, of_datas, of_acks, Holds}

-- ---- what an admitted setup gives
pub record Wide (S : Setup) : Type 0 where
  pub fit : FitSetup S
  pub seqs : 3 * S.window + S.rate ≤ NS S
  pub clocks : S.life + S.life < NC S / 2

half : (L k : ℕ) → 3 ≤ k → 4 * L + 1 ≤ 2 ^ k → L + L < 2 ^ k / 2
half L zero h le = absurd (omega arith)
half L (suc k) h le = omega arith

pub wide : {S : Setup} → Limits S → Wide S
wide {S} a = record {
  fit = fit_setup a;
  seqs = a.room_seq;
  clocks = half S.life S.clockbits a.clock_low a.room_clock;
}

-- ---- the past
-- h: the end of the units accepted; g: where nxt stood; each now, and at the start of each tick.
-- E: the receiver's right edge, nxt + window, when nxt left a number; m: where nxt stood when recent was last set
pub record Past : Type 0 where
  pub h : ℕ → ℕ
  pub g : ℕ → ℕ
  pub E : ℕ → ℕ
  pub m : ℕ

-- the two ends keep step, at most a window apart; the sender goes on by at most `rate` in a tick
pub record Line (S : Setup) (h g : ℕ → ℕ) : Type 0 where
  pub fall : Falls S.rate h
  pub down : (k : ℕ) → g (suc k) ≤ g k
  pub under : (k : ℕ) → g k ≤ h k
  pub over : (k : ℕ) → h k ≤ g k + S.window

-- so the receiver goes on by at most `window + rate`
pub line_g : {S : Setup} {h g : ℕ → ℕ} → Line S h g → Falls (S.window + S.rate) g
line_g l = record { down = l.down; near = λ k. omega (arith, l.under k, l.over (suc k), l.fall.near k) }

-- the numbers now; every field is linear
pub record Nums (S : Setup) (q : Past) (una out granted taken nxt window : ℕ) : Type 0 where
  pub now_h : q.h 0 ≡ una + out
  pub now_g : q.g 0 ≡ nxt
  pub spent : q.h 0 ≤ q.h 1 + taken
  pub share : taken ≤ S.rate
  pub una_nxt : una ≤ nxt
  pub nxt_end : nxt ≤ una + out
  pub end_edge : out ≤ granted
  pub most : granted ≤ S.window
  pub edge : una + granted ≤ q.E una
  pub room : window ≤ S.window
  pub ran : nxt ≤ q.m + S.window

-- the right edge never falls, and from nxt on it is the one now
pub record Edges (E : ℕ → ℕ) (nxt window : ℕ) : Type 0 where
  pub top : (k : ℕ) → E k ≤ nxt + window
  pub now : (k : ℕ) → nxt ≤ k → E k ≡ nxt + window

-- ---- the packets; T is the writer's clock
-- a data packet: the unit of its number; the number had been accepted, and was not a window behind
pub record DataFacts (S : Setup) (log : ℕ → ℕ) (h : ℕ → ℕ) (T : ℕ) (p : DataPacket) : Type 0 where
  pub unit : p.packet.unit ≡ log p.packet.seq
  pub sent : Sent S.life S.window T h p.packet.seq (suc p.packet.seq) p.packet.stamp p.age

-- an acknowledgement: nxt of its tick, with the right edge that the receiver then had
pub record AckFacts (S : Setup) (g E : ℕ → ℕ) (T : ℕ) (p : AckPacket) : Type 0 where
  pub sent : Sent S.life 0 T g p.packet.ack p.packet.ack p.packet.stamp p.age
  pub most : p.packet.window ≤ S.window
  pub edge : p.packet.ack + p.packet.window ≤ E p.packet.ack
  pub past : (k : ℕ) → k < p.packet.ack → E k ≤ p.packet.ack + p.packet.window

-- the channels, full of such packets
abbrev pub DatasHold : Setup → (ℕ → ℕ) → (ℕ → ℕ) → ℕ → DataChannel → Type 0
DatasHold S log h T = Holds data_channel of_datas S (DataFacts S log h T)

abbrev pub AcksHold : Setup → (ℕ → ℕ) → (ℕ → ℕ) → ℕ → AckChannel → Type 0
AcksHold S g E T = Holds ack_channel of_acks S (AckFacts S g E T)

-- ---- the invariant
pub record Setups (S s r : Setup) : Type 0 where
  pub sender : s ≡ S
  pub receiver : r ≡ S

-- the end of the units accepted
abbrev pub end : Bench → ℕ
end b = b.sender.una + b.sender.outstanding

-- log: the unit of each number
pub record Inv (S : Setup) (log : ℕ → ℕ) (b : Bench) : Type 0 where
  pub past : Past
  pub setups : Setups S b.sender.setup b.receiver.setup
  pub line : Line S past.h past.g
  pub nums : Nums S past b.sender.una b.sender.outstanding b.sender.granted b.sender.accepted
      b.receiver.nxt b.receiver.window
  pub edges : Edges past.E b.receiver.nxt b.receiver.window
  pub datas : DatasHold S log past.h b.sender.clock b.datas
  pub acks : AcksHold S past.g past.E b.receiver.clock b.acks
  pub r_recent : Kept S.life b.sender.clock past.h past.m b.receiver.recent
  pub s_recent : Kept S.life b.receiver.clock past.g b.sender.una b.sender.recent
  pub marks : Marks S.window log b.receiver.nxt (end b) b.receiver.window b.receiver.slots b.receiver.marks
  pub head : marked b.receiver.marks (b.receiver.nxt % S.window) ≡ false
  pub stored : Stored S.window log b.sender.una b.sender.outstanding b.sender.slots

-- ---- one event, on both machines
-- n units of the log from q on
abbrev pub stretch : (ℕ → ℕ) → ℕ → ℕ → List ℕ
stretch log q zero = []
stretch log q (suc n) = log q ∷ stretch log (suc q) n

-- us are the units of the log between two numbers
pub record Gave (log : ℕ → ℕ) (from to : ℕ) (us : List ℕ) : Type 0 where
  pub list : us ≡ stretch log from (length us)
  pub moved : to ≡ from + length us

-- nxt and the end before it, and the units that it accepts by its answer; w on wrapped and z on whole numbers
pub record Good (S : Setup) (log : ℕ → ℕ) (nxt fin : ℕ) (took : ℕ → List ℕ) (w z : Out Bench) : Type 0 where
  pub same : w ≡ shown (wrap S) z
  pub kept : Inv S log z.state
  pub gave : Gave log nxt z.state.receiver.nxt z.units
  pub grew : end z.state ≡ fin + length (took z.answer)
  pub proper : Proper z.answer

-- from b on
abbrev pub Goods : (S : Setup) → (ℕ → ℕ) → Bench → (ℕ → List ℕ) → Out Bench → Out Bench → Type 0
Goods S log b = Good S log b.receiver.nxt (end b)

-- an event that accepts nothing
abbrev pub nothing : ℕ → List ℕ
nothing n = []

-- an event of one end
abbrev pub GoodSender : (S : Setup) → (ℕ → ℕ) → Bench → (ℕ → List ℕ) → Out Sender → Out Sender → Type 0
GoodSender S log b took w z = Goods S log b took (on_sender (wrap S b) w) (on_sender b z)

abbrev pub GoodReceiver : (S : Setup) → (ℕ → ℕ) → Bench → Out Receiver → Out Receiver → Type 0
GoodReceiver S log b w z = Goods S log b nothing (on_receiver (wrap S b) w) (on_receiver b z)
