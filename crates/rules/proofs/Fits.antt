-- From a test that was passed to the facts that the work needs: an admitted setup, and a state that is not malformed.
use mathlib.Core.Path.{◌≡◌, refl, sym, ◌∙◌, ap, ap₂, subst}
use mathlib.Core.Bool.{Bool, true, false, cond}
use mathlib.Core.List.{List, [], ◌∷◌, ◌++◌}
use Prim.Native.Nat.{ℕ, ◌+◌, ◌-◌, ◌*◌, ◌%◌, ◌^◌, ◌≤◌, ◌<◌, ◌∣◌}
use native.Mathlib.Nat.{dvd-mul_right}
use native.Mathlib.Decide.{dec_le}
use native.Mathlib.Omega.{arith}
use lib.Dec.{eqb}
use lib.ListN.{length, drop, replicate, length-take, length-drop, take-append-drop}
use lib.Pow.{pow_pos, pow-add, pow_mono}
use borrow.Author.Tests.{leb-true, ltb-true, eqb-true}
use Rattle.rules.specs.declared.Setup.{Setup}
use Rattle.rules.specs.declared.Aged.{Aged}
use Rattle.rules.specs.declared.Channel.{Channel}
use Rattle.rules.specs.declared.Recent.{Recent}
use Rattle.rules.specs.declared.Sender.{Sender}
use Rattle.rules.specs.declared.Receiver.{Receiver}
use Rattle.rules.specs.declared.BareData.{BareData}
use Rattle.rules.specs.declared.BareAck.{BareAck}
use Rattle.rules.specs.declared.Bench.{Bench}
use Rattle.rules.specs.Numbers.{NS, NC, wrapped}
use Rattle.rules.specs.Setups.{is_window, in_limits, in_ranges, admitted, same_setup}
use Rattle.rules.specs.Rows.{row}
use Rattle.rules.specs.Parts.{no_data, no_ack, new, is_no_data, is_no_ack, Kind, live, data_channel, ack_channel, kind}
use Rattle.rules.specs.Malformed.{every, formed_recent, formed_sender, formed_receiver, right_data, right_ack, formed_aged, formed_channel, malformed_sender, malformed_receiver, formed_bench, malformed_bench}
use Rattle.rules.specs.Fit.{FitSetup, FitRecent, FitSender, FitReceiver, FitData, FitAck, FitChannel, FitBench}
use Rattle.rules.proofs.Tests.{both, ◌and◌, or_case, passes}
use Rattle.rules.proofs.Loops.{all_at}
use Rattle.rules.proofs.Deliveries.{same_slots}

-- ---- an admitted setup
-- a window is a power of two, of at most 64
pub record Power (w : ℕ) : Type 0 where
  pub bits : ℕ
  pub is : w ≡ 2 ^ bits
  pub most : w ≤ 64

is : (w k n : ℕ) → n ≡ 2 ^ k → n ≤ 64 → eqb w n ≡ true → Power w
is w k n p le e = let q : w ≡ n = eqb-true w n e in record { bits = k; is = q ∙ p; most = omega arith }

power : (w : ℕ) → is_window w ≡ true → Power w
unfolding is_window
power w =
    or_case _ _ (or_case _ _ (or_case _ _ (or_case _ _ (or_case _ _ (or_case _ _
    (is w 0 1 refl (omega arith)) (is w 1 2 refl (omega arith))) (is w 2 4 refl (omega arith))) (is w 3 8 refl (omega arith)))
    (is w 4 16 refl (omega arith))) (is w 5 32 refl (omega arith))) (is w 6 64 refl (omega arith))

pub record Limits (S : Setup) : Type 0 where
  pub pow : Power S.window
  pub seqbits : S.seqbits ≤ 32
  pub clock_low : 3 ≤ S.clockbits
  pub clockbits : S.clockbits ≤ 32
  pub life : 1 ≤ S.life
  pub rate : 1 ≤ S.rate
  pub seq_in : S.seq < NS S
  pub sclock_in : S.sclock < NC S
  pub rclock_in : S.rclock < NC S
  pub room_seq : 3 * S.window + S.rate ≤ NS S
  pub room_clock : 4 * S.life + 1 ≤ NC S

pub bits_fit : (S : Setup) → in_limits S ≡ true → (S.seqbits ≤ 32) × (S.clockbits ≤ 32)
unfolding in_limits
bits_fit S e =
    let b = both (both e).0 in
    (leb-true _ _ (both (both b.0).1).1, leb-true _ _ (both b.1).1)

pub limits : (S : Setup) → admitted S ≡ true → Limits S
unfolding admitted in_limits in_ranges
limits S e =
    let low = (both e).0 in let high = (both e).1 in
    let a = both low in let b = both a.0 in let c = both b.0 in let d = both b.1 in let l = both a.1 in
    let f = both high in let g = both f.0 in let h = both g.0 in let k = both h.0 in
    record {
      pow = power S.window c.0;
      seqbits = leb-true _ _ (both c.1).1;
      clock_low = leb-true _ _ d.0;
      clockbits = leb-true _ _ d.1;
      life = leb-true _ _ l.0;
      rate = leb-true _ _ l.1;
      seq_in = ltb-true _ _ k.0;
      sclock_in = ltb-true _ _ k.1;
      rclock_in = ltb-true _ _ h.1;
      room_seq = omega (arith, leb-true, g.1);
      room_clock = omega (arith, leb-true, f.1);
    }

pow_divides : {i j : ℕ} → i ≤ j → 2 ^ i ∣ 2 ^ j
pow_divides {i} {j} le =
    let e : 2 ^ j ≡ 2 ^ i * 2 ^ (j - i) = ap (2 ^◌) (omega arith) ∙ pow-add 2 i (j - i) in
    rw e (dvd-mul_right (2 ^ i) (2 ^ (j - i)))

-- the window's power is at most the range's, since the range is three windows and more
even : {S : Setup} → Limits S → S.window ∣ NS S
even {S} a = rw a.pow.is (by (dec_le a.pow.bits S.seqbits))
  where
    by : Dec (a.pow.bits ≤ S.seqbits) → 2 ^ a.pow.bits ∣ 2 ^ S.seqbits
    by (yes h) = pow_divides h
    by (no h) = absurd (omega (arith, a.room_seq, a.pow.is, a.rate, pow_mono {i = S.seqbits} {j = a.pow.bits} (omega arith), pow_pos a.pow.bits))

pub fit_setup : {S : Setup} → Limits S → FitSetup S
fit_setup {S} a = record
    { some = omega (arith, a.pow.is, pow_pos a.pow.bits); most = a.pow.most; seqbits = a.seqbits; clockbits = a.clockbits; even = even a }

-- a number and the same number round NS have the same slots ahead
pub turn : {S : Setup} → FitSetup S → (x d : ℕ) → (x % NS S + d) % S.window ≡ (x + d) % S.window
turn {S} f = same_slots S.window (NS S) f.even

-- the same eight numbers are the same setup
pub same_is : (S T : Setup) → same_setup S T ≡ true → S ≡ T
unfolding same_setup
same_is S T e =
    let a = both e in let b = both a.0 in let c = both b.0 in let d = both c.0 in let f = both d.0 in let g = both f.0 in let h = both g.0 in
    let p = eqb-true _ _ h.0 in let q = eqb-true _ _ h.1 in let r = eqb-true _ _ g.1 in let s = eqb-true _ _ f.1 in
    let t = eqb-true _ _ d.1 in let u = eqb-true _ _ c.1 in let v = eqb-true _ _ b.1 in let w = eqb-true _ _ a.1 in
    λ i. record { window = p i; seqbits = q i; clockbits = r i; life = s i; rate = t i; seq = u i; sclock = v i; rclock = w i }

-- ---- an end that is not malformed
module _ (S : Setup) where
  on_held : (h : Bool) {x y : Bool} {C : Type 0} → (x ≡ true → C) → (y ≡ true → C) → cond h x y ≡ true → C
  on_held true f g e = f e
  on_held false f g e = g e

  pub fit_recent : (r : Recent) → formed_recent (wrapped S) S r ≡ true → FitRecent S r
  unfolding formed_recent
  fit_recent r =
      on_held r.held
      (λ e. let a = both e in record { stamp = ltb-true _ _ a.0; age = leb-true _ _ a.1 })
      (λ e. let a = both e in
      let t : r.stamp ≡ 0 = eqb-true _ _ a.0 in let n : r.age ≡ 0 = eqb-true _ _ a.1 in
      record { stamp = omega (arith, pow_pos S.clockbits); age = omega arith })

  pub fit_data : (p : BareData) → right_data (wrapped S) S p ≡ true → FitData S p
  unfolding right_data
  fit_data p e = let a = both e in record { seq = ltb-true _ _ a.0; stamp = ltb-true _ _ a.1 }

  pub fit_ack : (p : BareAck) → right_ack (wrapped S) S p ≡ true → FitAck S p
  unfolding right_ack
  fit_ack p e =
      let a = both e in let b = both a.0 in
      record { ack = ltb-true _ _ b.0; window = leb-true _ _ b.1; stamp = ltb-true _ _ a.1 }

pub formed_is_fit_sender : (s : Sender) → FitSetup s.setup → formed_sender (wrapped s.setup) s.setup s ≡ true → FitSender s
unfolding formed_sender
formed_is_fit_sender s f e =
    let a = both (both e).0 in let b = both a.0 in let c = both b.0 in let d = both c.0 in let g = both d.0 in let h = both g.0 in
    record {
      setup = f;
      una = ltb-true _ _ h.0;
      outstanding = leb-true _ _ h.1;
      granted = leb-true _ _ g.1;
      accepted = leb-true _ _ d.1;
      clock = ltb-true _ _ c.1;
      recent = fit_recent s.setup s.recent b.1;
    }

pub fit_sender : (s : Sender) → malformed_sender wrapped s ≡ false → FitSender s
unfolding malformed_sender
fit_sender s e =
    let a = both (passes _ e) in formed_is_fit_sender s (fit_setup (limits s.setup a.0)) a.1

pub formed_is_fit_receiver : (r : Receiver) → FitSetup r.setup → formed_receiver (wrapped r.setup) r.setup r ≡ true → FitReceiver r
unfolding formed_receiver
formed_is_fit_receiver r f e =
    let a = both (both e).0 in let b = both a.0 in let c = both b.0 in let d = both c.0 in
    record {
      setup = f;
      nxt = ltb-true _ _ d.0;
      window = leb-true _ _ d.1;
      clock = ltb-true _ _ c.1;
      recent = fit_recent r.setup r.recent b.1;
      marks = record { near = λ k lt on. leb-true _ _ (both (rw on at (all_at _ 0 r.setup.window a.1 k (omega arith) (omega arith)))).1 };
    }

pub fit_receiver : (r : Receiver) → malformed_receiver wrapped r ≡ false → FitReceiver r
unfolding malformed_receiver
fit_receiver r e =
    let a = both (passes _ e) in formed_is_fit_receiver r (fit_setup (limits r.setup a.0)) a.1

-- ---- a channel that is not malformed
pub no_data_is : (p : BareData) → is_no_data p ≡ true → p ≡ no_data
unfolding is_no_data
no_data_is p e =
    let a = both e in let b = both a.0 in
    let q = eqb-true _ _ b.0 in let r = eqb-true _ _ b.1 in let s = eqb-true _ _ a.1 in
    λ i. record { seq = q i; stamp = r i; unit = s i }

pub no_ack_is : (p : BareAck) → is_no_ack p ≡ true → p ≡ no_ack
unfolding is_no_ack
no_ack_is p e =
    let a = both e in let b = both a.0 in
    let q = eqb-true _ _ b.0 in let r = eqb-true _ _ b.1 in let s = eqb-true _ _ a.1 in
    λ i. record { ack = q i; window = r i; stamp = s i }

all_empty : {A : Type 0} (f : A → Bool) (z : A) → ((x : A) → f x ≡ true → x ≡ z) → (l : List A) → every f l ≡ true → l ≡ replicate (length l) z
unfolding every
all_empty f z h [] e = refl
all_empty f z h (x ∷ l) e = let a = both e in ap₂ ◌∷◌ (h x a.0) (all_empty f z h l a.1)

fit_channel : {H P C : Type 0} (K : Kind H P C) → ((x : P) → K.is_nothing x ≡ true → x ≡ K.new K.nothing)
    → (right : P → Bool) (c : C) → length (K.packets c) ≡ 32 → formed_channel K right c ≡ true → FitChannel K c
unfolding formed_channel row
fit_channel K is right c n e =
    let a = both e in let b = both a.0 in
    let few : K.count c ≤ 32 = leb-true _ _ b.0 in
    let k : length (drop (K.count c) (K.packets c)) ≡ 32 - length (live K c)
    = omega (arith, length-drop (K.count c) (K.packets c), length-take (K.count c) (K.packets c)) in
    record {
      few = few;
      rest = sym (take-append-drop (K.count c) (K.packets c))
          ∙ ap (live K c ++◌) (all_empty K.is_nothing (K.new K.nothing) is _ a.1 ∙ ap (λ (x : ℕ). replicate x (K.new K.nothing)) k);
    }

-- an empty place, of a kind of packet whose test finds the packet that is all 0 and no other
module _ {P : Type 0} (none : P) (is_none : P → Bool) (only : (p : P) → is_none p ≡ true → p ≡ none) where
  empty_is : (x : Aged P) → (kind none is_none).is_nothing x ≡ true → x ≡ new none
  empty_is x e =
      let a = both e in let p = only x.packet a.0 in let g = eqb-true _ _ a.1 in
      λ i. record { packet = p i; age = g i }

  pub fit_kind : (right : Aged P → Bool) (c : Channel P) → length c.packets ≡ 32 → formed_channel (kind none is_none) right c ≡ true
      → FitChannel (kind none is_none) c
  fit_kind = fit_channel (kind none is_none) empty_is

-- ---- a bench that is not malformed
every_so : {A : Type 0} (f g : A → Bool) → ((x : A) → f x ≡ true → g x ≡ true) → (l : List A) → every f l ≡ true → every g l ≡ true
unfolding every
every_so f g h [] e = refl
every_so f g h (x ∷ l) e = let a = both e in h x a.0 and every_so f g h l a.1

channel_right : {H P C : Type 0} (K : Kind H P C) (right : P → Bool) (c : C) → formed_channel K right c ≡ true → every right (live K c) ≡ true
unfolding formed_channel
channel_right K right c e = (both (both e).0).1

pub fit_bench : (b : Bench) → length b.datas.packets ≡ 32 → length b.acks.packets ≡ 32 → malformed_bench wrapped b ≡ false → FitBench b
unfolding malformed_bench formed_bench formed_aged
fit_bench b nd na e =
    let S = b.sender.setup in
    let a = both (passes _ e) in
    let f = fit_setup (limits S a.0) in
    let acks = both a.1 in let datas = both acks.0 in let rcv = both datas.0 in let snd = both rcv.0 in
    let sa = both snd.0 in let sd = both sa.0 in
    let er = same_is S b.receiver.setup sd.0 in
    record {
      sender = formed_is_fit_sender b.sender f snd.1;
      receiver = formed_is_fit_receiver b.receiver (subst FitSetup er f)
          (subst (λ (T : Setup). formed_receiver (wrapped T) T b.receiver ≡ true) er rcv.1);
      datas = fit_kind no_data is_no_data no_data_is _ b.datas nd datas.1;
      acks = fit_kind no_ack is_no_ack no_ack_is _ b.acks na acks.1;
      same_receiver = sym er;
      same_datas = sym (same_is S b.datas.setup sd.1);
      same_acks = sym (same_is S b.acks.setup sa.1);
      right_datas = every_so _ _ (λ p h. (both h).0) _ (channel_right data_channel _ b.datas datas.1);
      right_acks = every_so _ _ (λ p h. (both h).0) _ (channel_right ack_channel _ b.acks acks.1);
    }
