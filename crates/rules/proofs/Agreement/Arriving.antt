-- Data arriving: the test and the place come out alike on both machines, and what is stored or delivered keeps the invariant. Here
-- the distance of a packet that passes meets the range of the numbers.
use mathlib.Core.Path.{◌≡◌, refl, ◌∙◌, ap}
use mathlib.Core.Bool.{Bool, true, false}
use mathlib.Core.List.{List, [], ◌∷◌}
use Prim.Native.Nat.{ℕ, zero, suc, ◌+◌, ◌-◌, ◌%◌, ◌≤◌, ◌<◌}
use native.Mathlib.Nat.{add-zero, sub-zero, suc-mod}
use native.Mathlib.Omega.{arith}
use lib.Dec.{ltb}
use lib.ListN.{length, get_or, set}
use Rattle.rules.specs.declared.Setup.{Setup}
use Rattle.rules.specs.declared.Receiver.{Receiver}
use Rattle.rules.specs.declared.BareData.{BareData}
use Rattle.rules.specs.Parts.{DataPacket}
use Rattle.rules.specs.declared.Bench.{Bench}
use Rattle.rules.specs.Numbers.{wrapped, whole, NS, NC, Place}
use Rattle.rules.specs.Marks.{marked, mark}
use Rattle.rules.specs.Parts.{data_channel}
use Rattle.rules.specs.Events.{Out, refused, Delivery, and_first, deliver, may_store, advanced, stored, arriving, packet_at, without_data, bench_data}
use Rattle.rules.specs.Agreement.{wrap_receiver, wrap_data, wrap}
use Rattle.rules.proofs.Wrap.{place_agree, View, back, fore, view}
use Rattle.rules.proofs.Deliveries.{within_some}
use Rattle.rules.proofs.Agreement.Cases.{on_bool, on_le, on_eq}
use Rattle.rules.proofs.Agreement.Way.{now, distance, sent_high, sent_now, kept_now, kept_set, passed_agree}
use Rattle.rules.proofs.Agreement.Ring.{Marks, marks_store, marks_next, head_stays}
use Rattle.rules.proofs.Agreement.Channels.{shows_datas, holds_imply, packet_at_shown, packet_at_holds, removed_shown, removed_holds}
use Rattle.rules.proofs.Agreement.State.{Wide, DataFacts, Inv, end, Gave, Goods, GoodReceiver, nothing}
use Rattle.rules.proofs.Agreement.Steps.{slot_round, stays, quiet, with_datas}

-- ---- a delivery, on both machines
abbrev wrap_delivery : Setup → Delivery → Delivery
wrap_delivery S d = record { units = d.units; nxt = d.nxt % NS S; slots = d.slots; marks = d.marks }

-- from n on, with w left in the window; the units accepted end at `fin`
record GoodRun (S : Setup) (log : ℕ → ℕ) (fin n w : ℕ) (x y : Delivery) : Type 0 where
  pub same : x ≡ wrap_delivery S y
  pub gave : Gave log n y.nxt y.units
  pub upto : y.nxt ≤ fin
  pub edge : y.nxt + (w - length y.units) ≡ n + w
  pub marks : Marks S.window log y.nxt fin (w - length y.units) y.slots y.marks
  pub head : marked y.marks (y.nxt % S.window) ≡ false

none_left : (c : Bool) → (c ≡ true → ⊥) → c ≡ false
none_left true f = absurd (f refl)
none_left false f = refl

module _ (S : Setup) (v : Wide S) (log : ℕ → ℕ) where
  -- a marked slot at n: n's unit is in it, and the window has room for it
  at_head : {n fin w : ℕ} {sl : List ℕ} {mk : ℕ} → Marks S.window log n fin w sl mk → marked mk (n % S.window) ≡ true
      → (n < fin) × (0 < w) × (get_or sl (n % S.window) 0 ≡ log n)
  at_head {n} {mk = mk} k t =
      let some = v.fit.some in
      let t' : marked mk ((n + 0) % S.window) ≡ true = rw (add-zero n) t in
      (omega (arith, k.known 0 some t'), within_some some k.within t, rw (add-zero n) at (k.value 0 some t'))

  -- nothing is delivered any more
  run_stop : {fin n w : ℕ} {sl : List ℕ} {mk : ℕ} → n ≤ fin → Marks S.window log n fin w sl mk
      → marked mk (n % S.window) ≡ false
      → GoodRun S log fin n w (record { units = []; nxt = n % NS S; slots = sl; marks = mk })
      (record { units = []; nxt = n; slots = sl; marks = mk })
  run_stop le k e = record {
    same = refl;
    gave = record { list = refl; moved = omega arith };
    upto = le;
    edge = omega arith;
    marks = rw sub-zero k;
    head = e;
  }

  -- one unit, and the rest from its next number on
  run_first : {fin n w u : ℕ} {x y : Delivery} → 0 < w → u ≡ log n → GoodRun S log fin (suc n) (w - 1) x y
      → GoodRun S log fin n w (and_first u x) (and_first u y)
  run_first {n = n} {w} {u} {y = y} some e r =
      let rest : w - suc (length y.units) ≡ w - 1 - length y.units = omega arith in
      record {
        same = ap (and_first u) r.same;
        gave = record { list = rw e (ap (log n ∷◌) r.gave.list); moved = omega (arith, r.gave.moved) };
        upto = r.upto;
        edge = rw rest (omega (arith, r.edge));
        marks = rw rest r.marks;
        head = r.head;
      }

  good_run : {fin : ℕ} (turns w n : ℕ) (sl : List ℕ) (mk : ℕ) → n ≤ fin → w ≤ turns → Marks S.window log n fin w sl mk
      → GoodRun S log fin n w (deliver (wrapped S).seq S.window turns (n % NS S) sl mk)
      (deliver (whole S).seq S.window turns n sl mk)
  good_run zero w n sl mk le few k = run_stop le k (none_left _ (λ t. omega (arith, (at_head k t).1)))
  good_run {fin} (suc turns) w n sl mk le few k =
      on_bool (GoodRun S log fin n w) (ap (marked mk) (slot_round v n))
      (λ t.
      let h = at_head k t in
      let below = h.0 in
      let some = h.1 in
      let one : w ≡ suc (w - 1) = omega arith in
      let next = marks_next (rw one at k) v.fit.some v.fit.most in
      rw (slot_round v n, ← suc-mod n (NS S))
      (run_first some h.2 (good_run turns (w - 1) (suc n) _ _ (omega arith) (omega arith) next)))
      (λ off. run_stop le k off)

  -- ---- a packet p of the data channel, taken out of it
  module _ (p : DataPacket) (b : Bench) (i : Inv S log b) (o : DataFacts S log i.past.h b.sender.clock p) where
    -- the receiver and the packet as the wrapped bench has them
    abbrev r' : Receiver
    r' = wrap_receiver S b.receiver

    abbrev q' : BareData
    q' = (wrap_data S p).packet

    abbrev G : Out Receiver → Out Receiver → Type 0
    G = GoodReceiver S log b

    accepted_before : p.packet.seq < end b
    accepted_before = omega (arith, sent_high i.line.fall o.sent)

    -- o = 0
    good_advance : {w z : Delivery} → p.packet.seq ≡ b.receiver.nxt
        → GoodRun S log (end b) b.receiver.nxt b.receiver.window w z
        → G (advanced (wrapped S) S (p.packet.stamp % NC S) r' w) (advanced (whole S) S p.packet.stamp b.receiver z)
    good_advance {w} {z} e r =
        let moved = r.gave.moved in
        let up : i.past.g 0 ≤ z.nxt = omega arith in
        record {
          same = rw r.same;
          kept = record {
            past = record { h = i.past.h; g = now z.nxt i.past.g; E = i.past.E; m = p.packet.seq };
            setups = i.setups;
            line = record {
              fall = i.line.fall;
              down = λ k. elim k as (λ k. now z.nxt i.past.g (suc k) ≤ now z.nxt i.past.g k) [ zero ↦ omega (arith, i.line.down 0) | suc k ↦ i.line.down (suc k) ];
              under = λ k. elim k as (λ k. now z.nxt i.past.g k ≤ i.past.h k) [ zero ↦ omega (arith, r.upto) | suc k ↦ i.line.under (suc k) ];
              over = λ k. elim k as (λ k. i.past.h k ≤ now z.nxt i.past.g k + S.window) [ zero ↦ omega (arith, i.line.over 0) | suc k ↦ i.line.over (suc k) ];
            };
            nums = omega (arith, r.edge, r.upto);
            edges = record {
              top = λ k. omega (arith, i.edges.top k, r.edge);
              now = λ k le. omega (arith, i.edges.now k (omega arith), r.edge);
            };
            datas = i.datas;
            acks = holds_imply (λ q f. record {
              sent = sent_now z.nxt up f.sent;
              most = f.most;
              edge = f.edge;
              past = f.past;
            }) i.acks;
            r_recent = kept_set o.sent (omega arith);
            s_recent = kept_now z.nxt up i.s_recent;
            marks = r.marks;
            head = r.head;
            stored = i.stored;
          };
          gave = r.gave;
          grew = omega arith;
          proper = omega arith;
        }

    -- stored d ahead of nxt
    good_stored : (d : ℕ) → p.packet.seq ≡ b.receiver.nxt + d → d < S.window → d < b.receiver.window
        → G (stored (wrapped S) S q' r' d) (stored (whole S) S p.packet b.receiver d)
    good_stored d e lt win =
        let sl = set b.receiver.slots (p.packet.seq % S.window) p.packet.unit in
        let mk = mark b.receiver.marks (p.packet.seq % S.window) in
        let marks : Marks S.window log b.receiver.nxt (end b) b.receiver.window sl mk
        = rw e (marks_store i.marks d p.packet.unit lt win (omega (arith, accepted_before)) (o.unit ∙ ap log e)) in
        on_eq G d 0
        (λ z. rw (slot_round v p.packet.seq) (good_advance (omega arith)
        (good_run S.window b.receiver.window b.receiver.nxt sl mk (omega arith) (omega arith) marks)))
        (λ nz. quiet S v log b _ refl refl (rw (slot_round v p.packet.seq)) (record {
          past = i.past;
          setups = i.setups;
          line = i.line;
          nums = i.nums;
          edges = i.edges;
          datas = i.datas;
          acks = i.acks;
          r_recent = i.r_recent;
          s_recent = i.s_recent;
          marks = marks;
          head = rw e (head_stays S.window b.receiver.nxt d b.receiver.marks v.fit.some lt nz i.head);
          stored = i.stored;
        }))

    good_store : {l : Place} → View S.window p.packet.seq b.receiver.nxt l
        → G (may_store (wrapped S) S q' r' (refused r') (stored (wrapped S) S q' r') l)
        (may_store (whole S) S p.packet b.receiver (refused b.receiver) (stored (whole S) S p.packet b.receiver) l)
    good_store back = stays S v log i 10 (omega arith)
    good_store (fore d e lt) =
        on_le G b.receiver.window d refl
        (λ beyond. absurd (omega (arith, accepted_before, i.edges.top b.sender.una)))
        (λ win. on_bool G (ap (marked b.receiver.marks) (slot_round v p.packet.seq))
        (λ _. stays S v log i 12 (omega arith))
        (λ _. good_stored d e lt win))

    good_arriving : G (arriving (wrapped S) S q' r') (arriving (whole S) S p.packet b.receiver)
    good_arriving =
        on_bool G (passed_agree S v.clocks o.sent i.r_recent)
        (λ pass. rw (place_agree (NS S) S.window p.packet.seq b.receiver.nxt (omega (arith, v.seqs))
        (omega (arith, accepted_before, i.edges.top b.sender.una))
        (omega (arith, v.seqs, distance i.line.fall S o.sent i.r_recent pass)))
        (good_store (view S.window p.packet.seq b.receiver.nxt)))
        (λ _. stays S v log i 9 (omega arith))

  pub good_data : (j n : ℕ) (b : Bench) → Inv S log b
      → Goods S log b nothing (bench_data (wrapped S) S j n (wrap S b)) (bench_data (whole S) S j n b)
  good_data j n b i =
      on_bool (Goods S log b nothing) {c = ltb n S.window} refl
      (λ _. stays S v log i 8 (omega arith))
      (λ _. on_le (Goods S log b nothing) b.datas.count j refl
      (λ _. stays S v log i 4 (omega arith))
      (λ lt. rw (packet_at_shown (shows_datas S) i.datas j lt, removed_shown (shows_datas S) i.datas j)
      (good_arriving (packet_at data_channel j b.datas) (without_data j b)
      (with_datas S v log i (removed_holds (shows_datas S) i.datas j)) (packet_at_holds (shows_datas S) i.datas j lt))))
