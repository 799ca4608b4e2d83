-- No state of the invariant is malformed, on wrapped numbers or on whole ones: refusal 2 never comes up, and an event is its rule.
use mathlib.Core.Path.{◌≡◌, refl, ◌∙◌, ap}
use mathlib.Core.Bool.{Bool, true, false, not}
use Prim.Native.Nat.{ℕ, zero, suc, ◌+◌, ◌-◌, ◌%◌, ◌≤◌, ◌<◌}
use native.Mathlib.Nat.{mod-lt, zero-mod, add-zero}
use native.Mathlib.Omega.{arith}
use lib.Pow.{pow_pos}
use lib.Dec.{ltb}
use lib.ListN.{get_or}
use borrow.Author.Tests.{le-leb, lt-ltb, eq-eqb}
use Rattle.rules.specs.declared.Setup.{Setup}
use Rattle.rules.specs.declared.Recent.{Recent}
use Rattle.rules.specs.declared.Sender.{Sender}
use Rattle.rules.specs.declared.Receiver.{Receiver}
use Rattle.rules.specs.Parts.{DataPacket}
use Rattle.rules.specs.Parts.{AckPacket}
use Rattle.rules.specs.declared.Bench.{Bench}
use Rattle.rules.specs.Numbers.{NS, NC, Arith, wrapped, whole}
use Rattle.rules.specs.Setups.{◌also◌, admitted, same_setup}
use Rattle.rules.specs.Marks.{marked}
use Rattle.rules.specs.Parts.{is_no_data, is_no_ack, live, data_channel, ack_channel}
use Rattle.rules.specs.Malformed.{all_from, formed_recent, formed_sender, formed_receiver, right_data, right_ack, formed_aged, formed_data, formed_ack, formed_bench, malformed_bench}
use Rattle.rules.specs.Events.{Event, act}
use Rattle.rules.specs.Operations.{step}
use Rattle.rules.specs.Agreement.{wrap_recent, wrap_data, wrap_ack, wrap_sender, wrap_receiver, wrap_datas, wrap_acks, wrap}
use Rattle.rules.proofs.Tests.{◌and◌}
use Rattle.rules.proofs.Fits.{turn}
use Rattle.rules.proofs.Agreement.Cases.{either}
use Rattle.rules.proofs.Agreement.Lists.{All, all_imply, all_map}
use Rattle.rules.proofs.Agreement.Way.{Kept, gone, held}
use Rattle.rules.proofs.Agreement.Ring.{Marks, Stored}
use Rattle.rules.proofs.Agreement.Channels.{shows_datas, shows_acks, live_shown, fit_shown, formed_of_fit}
use Rattle.rules.proofs.Agreement.State.{Wide, Inv}

-- ---- tests that hold
all_is : (f : ℕ → Bool) (i k : ℕ) → ((x : ℕ) → i ≤ x → x < i + k → f x ≡ true) → all_from f i k ≡ true
unfolding all_from
all_is f i zero h = refl
all_is f i (suc k) h = h i (omega arith) (omega arith) and all_is f (suc i) k (λ x le lt. h x (omega arith) (omega arith))

setup_is : (S T : Setup) → T ≡ S → same_setup S T ≡ true
unfolding same_setup
setup_is S T e =
    rw e
    (eq-eqb S.window _ refl and eq-eqb S.seqbits _ refl and eq-eqb S.clockbits _ refl and eq-eqb S.life _ refl
    and eq-eqb S.rate _ refl and eq-eqb S.seq _ refl and eq-eqb S.sclock _ refl and eq-eqb S.rclock _ refl)

-- ---- the parts, on any arithmetic A; q is the true number, which has the same slots ahead as the one shown
module _ (S : Setup) (v : Wide S) (log : ℕ → ℕ) (A : Arith) where
  sender_is : (s : Sender) (q : ℕ) → A.seq_in s.una ≡ true → A.clk_in s.clock ≡ true → formed_recent A S s.recent ≡ true
      → ((d : ℕ) → (s.una + d) % S.window ≡ (q + d) % S.window)
      → s.outstanding ≤ S.window → s.granted ≤ S.window → s.accepted ≤ S.rate
      → Stored S.window log q s.outstanding s.slots → formed_sender A S s ≡ true
  unfolding formed_sender
  sender_is s q a b c e o g t k =
      a and le-leb _ _ o and le-leb _ _ g and le-leb _ _ t and b and c
      and all_is _ s.outstanding (S.window - s.outstanding)
      (λ d le lt. eq-eqb _ 0 (ap (λ (x : ℕ). get_or s.slots x 0) (e d) ∙ k.empty d le (omega arith)))
      and all_is _ S.window (64 - S.window) (λ i le lt. eq-eqb _ 0 (k.idle.rest i le (omega (arith, v.fit.most))))

  receiver_is : (r : Receiver) (q fin : ℕ) → A.seq_in r.nxt ≡ true → A.clk_in r.clock ≡ true
      → formed_recent A S r.recent ≡ true → ((d : ℕ) → (r.nxt + d) % S.window ≡ (q + d) % S.window)
      → r.window ≤ S.window → Marks S.window log q fin r.window r.slots r.marks
      → marked r.marks (q % S.window) ≡ false → formed_receiver A S r ≡ true
  unfolding formed_receiver
  receiver_is r q fin a b c e w k head =
      a and le-leb _ _ w and b and c
      and all_is _ 0 S.window (λ d le lt. rw (e d) (either (λ (x : Bool). x ≡ true) (marked r.marks ((q + d) % S.window))
      (λ t. le-leb 1 d (first d t) and lt-ltb d _ (k.within.near d (omega arith) t))
      (λ t. eq-eqb _ 0 (k.empty d (omega arith) t))))
      and all_is _ S.window (64 - S.window) (λ i le lt.
      eq-eqb _ 0 (k.idle.rest i le (omega (arith, v.fit.most))) and ap not (k.unmarked i le (omega (arith, v.fit.most))))
    where
      first : (d : ℕ) → marked r.marks ((q + d) % S.window) ≡ true → 1 ≤ d
      first zero t =
          let z : ◌≡◌ {A = ℕ} 0 1 = cc (ap (λ (x : ℕ). marked r.marks (x % S.window)) (add-zero q)) in
          omega arith
      first (suc d) t = omega arith

module _ (S : Setup) (adm : admitted S ≡ true) (v : Wide S) where
  in_seq : (x : ℕ) → ltb (x % NS S) (NS S) ≡ true
  in_seq x = lt-ltb _ _ (mod-lt x (pow_pos S.seqbits))

  in_clk : (x : ℕ) → ltb (x % NC S) (NC S) ≡ true
  in_clk x = lt-ltb _ _ (mod-lt x (pow_pos S.clockbits))

  recent_whole : {T m : ℕ} {f : ℕ → ℕ} {r : Recent} → Kept S.life T f m r → formed_recent (whole S) S r ≡ true
  unfolding formed_recent
  recent_whole (gone h) = refl and refl
  recent_whole (held h) = refl and le-leb _ _ h.young

  recent_wrapped : {T m : ℕ} {f : ℕ → ℕ} {r : Recent} → Kept S.life T f m r
      → formed_recent (wrapped S) S (wrap_recent S r) ≡ true
  unfolding formed_recent
  recent_wrapped (gone h) = eq-eqb _ 0 (zero-mod (NC S)) and refl
  recent_wrapped (held {t = t} h) = in_clk t and le-leb _ _ h.young

  module _ {log : ℕ → ℕ} {b : Bench} (i : Inv S log b) where
    datas_whole : All (λ (p : DataPacket). formed_data (whole S) S p ≡ true) (live data_channel b.datas)
    unfolding formed_aged right_data
    datas_whole = all_imply (λ p o. refl and refl and le-leb _ _ o.sent.young) i.datas.all

    acks_whole : All (λ (p : AckPacket). formed_ack (whole S) S p ≡ true) (live ack_channel b.acks)
    unfolding formed_aged right_ack
    acks_whole = all_imply (λ p o. refl and le-leb _ _ o.most and refl and le-leb _ _ o.sent.young) i.acks.all

    datas_wrapped : All (λ (p : DataPacket). formed_data (wrapped S) S p ≡ true) (live data_channel (wrap_datas S b.datas))
    unfolding formed_aged right_data
    datas_wrapped =
        rw (live_shown (shows_datas S) b.datas)
        (all_map (wrap_data S) (λ p o. in_seq p.packet.seq and in_clk p.packet.stamp and le-leb _ _ o.sent.young) i.datas.all)

    acks_wrapped : All (λ (p : AckPacket). formed_ack (wrapped S) S p ≡ true) (live ack_channel (wrap_acks S b.acks))
    unfolding formed_aged right_ack
    acks_wrapped =
        rw (live_shown (shows_acks S) b.acks)
        (all_map (wrap_ack S)
        (λ p o. in_seq p.packet.ack and le-leb _ _ o.most and in_clk p.packet.stamp and le-leb _ _ o.sent.young) i.acks.all)

    bench_whole : formed_bench whole S b ≡ true
    unfolding formed_bench is_no_data is_no_ack ◌also◌
    bench_whole =
        setup_is S _ i.setups.receiver and setup_is S _ i.datas.setup and setup_is S _ i.acks.setup
        and sender_is S v log (whole S) b.sender b.sender.una refl refl (recent_whole i.s_recent) (λ d. refl)
        (omega (arith, i.nums)) (omega (arith, i.nums)) (omega (arith, i.nums)) i.stored
        and receiver_is S v log (whole S) b.receiver b.receiver.nxt _ refl refl (recent_whole i.r_recent) (λ d. refl)
        (omega (arith, i.nums)) i.marks i.head
        and formed_of_fit data_channel refl (formed_data (whole S) S) i.datas.fit datas_whole
        and formed_of_fit ack_channel refl (formed_ack (whole S) S) i.acks.fit acks_whole

    bench_wrapped : formed_bench wrapped S (wrap S b) ≡ true
    unfolding formed_bench is_no_data is_no_ack ◌also◌
    bench_wrapped =
        setup_is S _ i.setups.receiver and setup_is S _ i.datas.setup and setup_is S _ i.acks.setup
        and sender_is S v log (wrapped S) (wrap_sender S b.sender) b.sender.una
        (in_seq b.sender.una) (in_clk b.sender.clock) (recent_wrapped i.s_recent) (turn v.fit b.sender.una)
        (omega (arith, i.nums)) (omega (arith, i.nums)) (omega (arith, i.nums)) i.stored
        and receiver_is S v log (wrapped S) (wrap_receiver S b.receiver) b.receiver.nxt _
        (in_seq b.receiver.nxt) (in_clk b.receiver.clock) (recent_wrapped i.r_recent) (turn v.fit b.receiver.nxt)
        (omega (arith, i.nums)) i.marks i.head
        and formed_of_fit data_channel refl (formed_data (wrapped S) S) (fit_shown (shows_datas S) i.datas.fit) datas_wrapped
        and formed_of_fit ack_channel refl (formed_ack (wrapped S) S) (fit_shown (shows_acks S) i.acks.fit) acks_wrapped

    -- ---- so an event is its rule
    formed_whole : malformed_bench whole b ≡ false
    unfolding malformed_bench
    formed_whole = ap not (ap (λ (x : Setup). admitted x also formed_bench whole x b) i.setups.sender ∙ (adm and bench_whole))

    pub formed_wrapped : malformed_bench wrapped (wrap S b) ≡ false
    unfolding malformed_bench
    formed_wrapped =
        ap not (ap (λ (x : Setup). admitted x also formed_bench wrapped x (wrap S b)) i.setups.sender ∙ (adm and bench_wrapped))

    pub step_whole : (e : Event) → step whole e b ≡ act (whole S) S e b
    unfolding step
    step_whole e = rw formed_whole (ap (λ (x : Setup). act (whole x) x e b) i.setups.sender)

    pub step_wrapped : (e : Event) → step wrapped e (wrap S b) ≡ act (wrapped S) S e (wrap S b)
    unfolding step
    step_wrapped e = rw formed_wrapped (ap (λ (x : Setup). act (wrapped x) x e (wrap S b)) i.setups.sender)
