-- An acknowledgement heard: the test and the place come out alike on both machines, and what is granted and freed keeps the
-- invariant.
use mathlib.Core.Path.{◌≡◌, refl, ap}
use mathlib.Core.List.{List}
use Prim.Native.Nat.{ℕ, zero, suc, ◌+◌, ◌-◌, ◌%◌, ◌≤◌}
use native.Mathlib.Nat.{add-zero, zero-add, add-suc, suc-add, suc-mod, mod-add-mod}
use native.Mathlib.Omega.{arith}
use lib.ListN.{set}
use Rattle.rules.specs.declared.Setup.{Setup}
use Rattle.rules.specs.declared.Sender.{Sender}
use Rattle.rules.specs.declared.BareAck.{BareAck}
use Rattle.rules.specs.Parts.{AckPacket}
use Rattle.rules.specs.declared.Bench.{Bench}
use Rattle.rules.specs.Numbers.{wrapped, whole, NS, Place}
use Rattle.rules.specs.Parts.{ack_channel}
use Rattle.rules.specs.Events.{Out, refused, done, freed, may_free, heard, hearing, packet_at, without_ack, bench_hear}
use Rattle.rules.specs.Agreement.{wrap_sender, wrap_ack, wrap}
use Rattle.rules.proofs.Wrap.{place_agree, View, back, fore, view}
use Rattle.rules.proofs.Agreement.Cases.{on_bool, on_le, on_eq}
use Rattle.rules.proofs.Agreement.Way.{distance, sent_high, kept_set, passed_agree}
use Rattle.rules.proofs.Agreement.Ring.{Stored, stored_free}
use Rattle.rules.proofs.Agreement.Channels.{shows_acks, packet_at_shown, packet_at_holds, removed_shown, removed_holds}
use Rattle.rules.proofs.Agreement.State.{Wide, line_g, AckFacts, Inv, end, Goods, GoodSender, nothing}
use Rattle.rules.proofs.Agreement.Steps.{slot_round, stays, quiet, with_acks}

module _ (S : Setup) (v : Wide S) (log : ℕ → ℕ) where
  -- ---- the slots freed
  freed_same : (o n : ℕ) (sl : List ℕ)
      → freed (wrapped S).seq S.window o (n % NS S) sl ≡ freed (whole S).seq S.window o n sl
  freed_same zero n sl = refl
  freed_same (suc o) n sl = rw (slot_round v n, ← suc-mod n (NS S)) (freed_same o (suc n) (set sl (n % S.window) 0))

  stored_freed : (o n : ℕ) {r : ℕ} {sl : List ℕ} → o + r ≤ S.window → Stored S.window log n (o + r) sl
      → Stored S.window log (n + o) r (freed (whole S).seq S.window o n sl)
  stored_freed zero n {r} le k = rw (add-zero n) (rw (zero-add r) at k)
  stored_freed (suc o) n {r} le k =
      rw (add-suc n o, ← suc-add n o) (stored_freed o (suc n) (omega arith) (stored_free (omega arith) (rw (suc-add o r) at k)))

  -- ---- a packet p of the acknowledgement channel, taken out of it
  module _ (p : AckPacket) (b : Bench) (i : Inv S log b) (f : AckFacts S i.past.g i.past.E b.receiver.clock p) where
    -- the sender and the packet as the wrapped bench has them
    abbrev s' : Sender
    s' = wrap_sender S b.sender

    abbrev q' : BareAck
    q' = (wrap_ack S p).packet

    abbrev G : Out Sender → Out Sender → Type 0
    G = GoodSender S log b nothing

    up_to_nxt : p.packet.ack ≤ b.receiver.nxt
    up_to_nxt = omega (arith, sent_high (line_g i.line) f.sent)

    good_heard : (o : ℕ) → p.packet.ack ≡ b.sender.una + o → o ≤ b.sender.outstanding
        → G (done (heard (wrapped S) S q' s' o)) (done (heard (whole S) S p.packet b.sender o))
    good_heard o e le =
        on_eq (λ (w z : Sender). G (done w) (done z)) o 0
        (λ z. quiet S v log b _ refl refl refl (record {
          past = i.past;
          setups = i.setups;
          line = i.line;
          nums = let here : p.packet.ack ≡ b.sender.una = omega arith in omega (arith, f.most, f.edge, ap i.past.E here);
          edges = i.edges;
          datas = i.datas;
          acks = i.acks;
          r_recent = i.r_recent;
          s_recent = kept_set f.sent (omega arith);
          marks = i.marks;
          head = i.head;
          stored = i.stored;
        }))
        (λ nz.
        let rest : b.sender.outstanding ≡ o + (b.sender.outstanding - o) = omega arith in
        let same_end : b.sender.una + o + (b.sender.outstanding - o) ≡ end b = omega arith in
        quiet S v log b _ refl same_end
        (rw (mod-add-mod b.sender.una (NS S) o, freed_same o b.sender.una b.sender.slots))
        (record {
          past = i.past;
          setups = i.setups;
          line = i.line;
          nums = omega (arith, f.most, f.edge, ap i.past.E e, up_to_nxt, f.past b.sender.una (omega arith));
          edges = i.edges;
          datas = i.datas;
          acks = i.acks;
          r_recent = i.r_recent;
          s_recent = kept_set f.sent (omega arith);
          marks = rw same_end i.marks;
          head = i.head;
          stored = stored_freed o b.sender.una (omega arith) (rw rest at i.stored);
        }))

    good_free : {l : Place} → View (suc S.window) p.packet.ack b.sender.una l
        → G (may_free (wrapped S) S s' (refused s') (λ o. done (heard (wrapped S) S q' s' o)) l)
        (may_free (whole S) S b.sender (refused b.sender) (λ o. done (heard (whole S) S p.packet b.sender o)) l)
    good_free back = stays S v log i 10 (omega arith)
    good_free (fore o e lt) =
        on_le G o b.sender.outstanding refl (λ le. good_heard o e le) (λ beyond. absurd (omega (arith, up_to_nxt)))

    good_hearing : G (hearing (wrapped S) S q' s') (hearing (whole S) S p.packet b.sender)
    good_hearing =
        on_bool G (passed_agree S v.clocks f.sent i.s_recent)
        (λ pass. rw (place_agree (NS S) (suc S.window) p.packet.ack b.sender.una (omega (arith, v.seqs, v.fit.some))
        (omega (arith, up_to_nxt))
        (omega (arith, v.seqs, v.fit.some, distance (line_g i.line) S f.sent i.s_recent pass)))
        (good_free (view (suc S.window) p.packet.ack b.sender.una)))
        (λ _. stays S v log i 9 (omega arith))

  pub good_hear : (j : ℕ) (b : Bench) → Inv S log b
      → Goods S log b nothing (bench_hear (wrapped S) S j (wrap S b)) (bench_hear (whole S) S j b)
  good_hear j b i =
      on_le (Goods S log b nothing) b.acks.count j refl
      (λ _. stays S v log i 4 (omega arith))
      (λ lt. rw (packet_at_shown (shows_acks S) i.acks j lt, removed_shown (shows_acks S) i.acks j)
      (good_hearing (packet_at ack_channel j b.acks) (without_ack j b)
      (with_acks S v log i (removed_holds (shows_acks S) i.acks j)) (packet_at_holds (shows_acks S) i.acks j lt)))
