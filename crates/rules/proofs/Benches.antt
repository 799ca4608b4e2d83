-- The bench over its parts: a packet that it takes out of a channel is in range, what a part's answer says, and which events deliver
-- nothing.
use mathlib.Core.Path.{◌≡◌, refl, sym, subst}
use mathlib.Core.Bool.{Bool, true, false, cond}
use mathlib.Core.List.{List, [], ◌∷◌}
use Prim.Native.Nat.{ℕ, zero, suc, ◌<◌}
use native.Mathlib.Omega.{arith}
use lib.Dec.{leb}
use lib.ListN.{length, get_or}
use borrow.Author.Tests.{leb-false}
use Rattle.std.specs.Prelude.{Ok}
use Rattle.rules.specs.declared.Setup.{Setup}
use Rattle.rules.specs.declared.Sender.{Sender}
use Rattle.rules.specs.declared.Receiver.{Receiver}
use Rattle.rules.specs.declared.BareData.{BareData}
use Rattle.rules.specs.declared.BareAck.{BareAck}
use Rattle.rules.specs.declared.Bench.{Bench}
use Rattle.rules.specs.Parts.{no_data, no_ack, new, DataChannel, AckChannel, Kind, live, data_channel, ack_channel}
use Rattle.rules.specs.Malformed.{every, malformed_bench}
use Rattle.rules.specs.Fit.{FitData, FitAck, FitBench}
use Rattle.rules.specs.Numbers.{Arith}
use Rattle.rules.specs.Events.{Out, refused, done, gives, sending, opened, opening, packet_at, removed, taking, Event, accept, send, arrive, room, acknowledge, hear, dropd, dropa, dupd, dupa, tick, act}
use Rattle.rules.specs.Operations.{answered, step, Makes}
use Rattle.rules.proofs.Tests.{both}
use Rattle.rules.proofs.Fits.{fit_data, fit_ack}
use Rattle.rules.proofs.Channels.{length_live}

-- ---- each packet that a channel holds is in range
every_at : {A : Type 0} (f : A → Bool) (z : A) (l : List A) (j : ℕ) → every f l ≡ true → j < length l → f (get_or l j z) ≡ true
unfolding every
every_at f z [] j e lt = absurd (omega arith)
every_at f z (x ∷ l) zero e lt = (both e).0
every_at f z (x ∷ l) (suc j) e lt = every_at f z l j (both e).1 (omega arith)

pub data_at : {b : Bench} → FitBench b → (j : ℕ) → j < b.datas.count → FitData b.sender.setup (packet_at data_channel j b.datas).packet
data_at {b} f j lt =
    fit_data b.sender.setup _
    (every_at _ (new no_data) (live data_channel b.datas) j f.right_datas (omega (arith, length_live data_channel b.datas f.datas)))

pub ack_at : {b : Bench} → FitBench b → (j : ℕ) → j < b.acks.count → FitAck b.sender.setup (packet_at ack_channel j b.acks).packet
ack_at {b} f j lt =
    fit_ack b.sender.setup _
    (every_at _ (new no_ack) (live ack_channel b.acks) j f.right_acks (omega (arith, length_live ack_channel b.acks f.acks)))

-- a packet that was taken is the one at its place, so it is in range
module _ {H P C : Type 0} (K : Kind H P C) {j : ℕ} {c x : C} {p : H} where
  taken : Makes (taking K j c) (Ok p) x → (j < K.count c) × (p ≡ K.bare (packet_at K j c))
  taken m = go (leb (K.count c) j) refl m.gives
    where
      go :
          (t : Bool) → leb (K.count c) j ≡ t
          → Ok p ≡ (let m = cond t (gives 4 K.nothing c) (gives 0 (K.bare (packet_at K j c)) (removed K j c)) in answered m.answer m.packet)
          → (j < K.count c) × (p ≡ K.bare (packet_at K j c))
      go true h e = absurd (cc)
      go false h e = (leb-false _ _ h, cc)

module _ {b : Bench} (f : FitBench b) (j : ℕ) where
  pub taken_data : {p : BareData} {x : DataChannel} → Makes (taking data_channel j b.datas) (Ok p) x → FitData b.sender.setup p
  taken_data m = let t = taken data_channel m in subst (FitData b.sender.setup) (sym t.1) (data_at f j t.0)

  pub taken_ack : {p : BareAck} {x : AckChannel} → Makes (taking ack_channel j b.acks) (Ok p) x → FitAck b.sender.setup p
  taken_ack m = let t = taken ack_channel m in subst (FitAck b.sender.setup) (sym t.1) (ack_at f j t.0)

-- ---- a part that gives a packet, or refuses: what its answer says of the test
module _ (A : Arith) (S : Setup) (k : ℕ) (s : Sender) {a : ℕ} (e : a ≡ (sending A S k s).answer) where
  -- refused: there is no unit k, and the number is 4
  pub sending_refused : (a ≡ 0 → ⊥) → (leb s.outstanding k ≡ true) × (a ≡ 4)
  sending_refused n = grind arith

  -- not refused: there is one
  pub sending_done : a ≡ 0 → leb s.outstanding k ≡ false
  sending_done z = grind arith

module _ {H P C : Type 0} (K : Kind H P C) (j : ℕ) (c : C) {a : ℕ} (e : a ≡ (taking K j c).answer) where
  -- refused: there is no place j, and the number is 4
  pub taking_refused : (a ≡ 0 → ⊥) → (leb (K.count c) j ≡ true) × (a ≡ 4)
  taking_refused n = grind arith

  -- not refused: there is one
  pub taking_done : a ≡ 0 → leb (K.count c) j ≡ false
  taking_done z = grind arith

-- ---- room delivers nothing
pub opening_quiet : (S : Setup) (r : Receiver) → (opening S r).units ≡ []
opening_quiet S r = go (leb S.window r.window)
  where
    go : (t : Bool) → (cond t (refused r 13) (done (opened r))).units ≡ []
    go true = refl
    go false = refl

-- ---- and nor does any event but an arrival
pub act_quiet : (A : Arith) (S : Setup) (e : Event) (b : Bench) → ((j n : ℕ) → e ≡ arrive j n → ⊥) → (act A S e b).units ≡ []
unfolding act
act_quiet A S (accept u) b q = refl
act_quiet A S (send k) b q = grind arith
act_quiet A S (arrive j n) b q = absurd (q j n refl)
act_quiet A S room b q = opening_quiet S b.receiver
act_quiet A S acknowledge b q = refl
act_quiet A S (hear j) b q = grind arith
act_quiet A S (dropd j) b q = refl
act_quiet A S (dropa j) b q = refl
act_quiet A S (dupd j) b q = refl
act_quiet A S (dupa j) b q = refl
act_quiet A S tick b q = refl

-- a step is refused at once, or it is the event's act
stepped : {X : Type 0} (P : X → Type 0) (t : Bool) {x y : X} → P x → P y → P (cond t x y)
stepped P true p q = p
stepped P false p q = q

pub step_quiet : (A : Setup → Arith) (e : Event) (b : Bench) → ((j n : ℕ) → e ≡ arrive j n → ⊥) → (step A e b).units ≡ []
unfolding step
step_quiet A e b q = stepped (λ (o : Out Bench). o.units ≡ []) (malformed_bench A b) refl (act_quiet _ _ e b q)

-- ---- a refusal delivers nothing
act_refused : (A : Arith) (S : Setup) (e : Event) (b : Bench) → ((act A S e b).answer ≡ 0 → ⊥) → (act A S e b).units ≡ []
unfolding act
act_refused A S (accept u) b n = refl
act_refused A S (send k) b n = grind arith
act_refused A S (arrive j m) b n = grind arith
act_refused A S room b n = grind arith
act_refused A S acknowledge b n = refl
act_refused A S (hear j) b n = grind arith
act_refused A S (dropd j) b n = refl
act_refused A S (dropa j) b n = refl
act_refused A S (dupd j) b n = refl
act_refused A S (dupa j) b n = refl
act_refused A S tick b n = refl

pub step_refused : (A : Setup → Arith) (e : Event) (b : Bench) → ((step A e b).answer ≡ 0 → ⊥) → (step A e b).units ≡ []
unfolding step
step_refused A e b =
    stepped (λ (o : Out Bench). (o.answer ≡ 0 → ⊥) → o.units ≡ []) (malformed_bench A b) (λ n. refl) (act_refused _ _ e b)
