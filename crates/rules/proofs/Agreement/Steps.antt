-- Each event but the two arrivals: both machines do the same, and the invariant is kept.
use mathlib.Core.Path.{◌≡◌, refl, ap}
use mathlib.Core.Bool.{cond}
use mathlib.Core.List.{List, []}
use Prim.Native.Nat.{ℕ, zero, suc, ◌+◌, ◌%◌, ◌≤◌, ◌<◌}
use native.Mathlib.Nat.{zero-mod, mod-mod_of_dvd, mod-add-mod, suc-mod}
use native.Mathlib.Omega.{arith}
use lib.Dec.{leb}
use borrow.Author.Tests.{le-leb, lt-leb}
use Rattle.rules.specs.declared.Setup.{Setup}
use Rattle.rules.specs.declared.Recent.{Recent}
use Rattle.rules.specs.declared.Sender.{Sender}
use Rattle.rules.specs.Parts.{DataChannel}
use Rattle.rules.specs.Parts.{AckChannel}
use Rattle.rules.specs.declared.Bench.{Bench}
use Rattle.rules.specs.Numbers.{wrapped, whole, NS, NC}
use Rattle.rules.specs.Parts.{ack_channel}
use Rattle.rules.specs.Events.{Out, refused, done, older, with_unit, accepting, packet_of, bench_send, adding, ack_of, opening, bench_tick, on_sender, on_datas, on_acks, accept}
use Rattle.rules.specs.Runs.{took}
use Rattle.rules.specs.Agreement.{wrap_recent, wrap_sender, wrap_receiver, wrap_datas, wrap_acks, wrap}
use Rattle.rules.proofs.Agreement.Cases.{on_le, on_bool, either}
use Rattle.rules.proofs.Agreement.Way.{push, now, sent_high, falls_push, kept_push, sent_push, falls_now, sent_now, kept_now}
use Rattle.rules.proofs.Agreement.Ring.{marks_grow, stored_accept}
use Rattle.rules.proofs.Agreement.Channels.{Proper, shown, Alike, shows_datas, shows_acks, holds_imply, adding_alike, ticked_shown, ticked_holds}
use Rattle.rules.proofs.Agreement.State.{Wide, line_g, DatasHold, AcksHold, Inv, end, Goods, GoodSender, GoodReceiver, nothing}

-- a number and the same number round NS have the same slot
pub slot_round : {S : Setup} → Wide S → (x : ℕ) → x % NS S % S.window ≡ x % S.window
slot_round {S} v x = mod-mod_of_dvd S.window x v.fit.even

module _ (S : Setup) (v : Wide S) (log : ℕ → ℕ) where
  -- ---- what an event leaves
  -- a refusal leaves everything
  pub left : {b : Bench} → Inv S log b → (n : ℕ) → Proper n → (t : ℕ → List ℕ) → t n ≡ []
      → Goods S log b t (refused (wrap S b) n) (refused b n)
  left i n q t e = record {
    same = refl;
    kept = i;
    gave = record { list = refl; moved = omega arith };
    grew = rw e (omega arith);
    proper = q;
  }

  pub stays : {b : Bench} → Inv S log b → (n : ℕ) → Proper n → Goods S log b nothing (refused (wrap S b) n) (refused b n)
  stays i n q = left i n q nothing refl

  -- done, and nothing is accepted or delivered
  pub quiet : (b : Bench) {w : Out Bench} (b' : Bench) → b'.receiver.nxt ≡ b.receiver.nxt → end b' ≡ end b
      → w ≡ shown (wrap S) (done b') → Inv S log b' → Goods S log b nothing w (done b')
  quiet b b' n q e i = record {
    same = e;
    kept = i;
    gave = record { list = refl; moved = omega arith };
    grew = omega arith;
    proper = omega arith;
  }

  -- ---- accept
  -- the log says beforehand what an accepted unit is
  pub good_accept : (u : ℕ) (b : Bench) → Inv S log b
      → ((accepting (whole S) S u b.sender).answer ≡ 0 → u ≡ log (end b))
      → GoodSender S log b (took (accept u)) (accepting (wrapped S) S u (wrap_sender S b.sender))
      (accepting (whole S) S u b.sender)
  good_accept u b i =
      on_le P b.sender.granted b.sender.outstanding refl
      (λ _ _. left i 6 (omega arith) (took (accept u)) refl)
      (λ room. on_le P S.rate b.sender.accepted refl
      (λ _ _. left i 7 (omega arith) (took (accept u)) refl)
      (λ share eu. record {
        same = rw (mod-add-mod b.sender.una (NS S) b.sender.outstanding, slot_round v (end b));
        kept = kept room share (eu refl);
        gave = record { list = refl; moved = omega arith };
        grew = omega arith;
        proper = omega arith;
      }))
    where
      P : Out Sender → Out Sender → Type 0
      P w z = (z.answer ≡ 0 → u ≡ log (end b)) → GoodSender S log b (took (accept u)) w z

      kept : b.sender.outstanding < b.sender.granted → b.sender.accepted < S.rate → u ≡ log (end b)
          → Inv S log (on_sender b (done (with_unit (whole S) S u b.sender))).state
      kept room share eu =
          let e : ℕ = suc (end b) in
          let up : i.past.h 0 ≤ e = omega arith in
          record {
            past = record { h = now e i.past.h; g = i.past.g; E = i.past.E; m = i.past.m };
            setups = i.setups;
            line = record {
              fall = falls_now e up (omega arith) i.line.fall;
              down = i.line.down;
              under = λ k. elim k as (λ k. i.past.g k ≤ now e i.past.h k) [ zero ↦ omega (arith, i.line.under 0) | suc k ↦ i.line.under (suc k) ];
              over = λ k. elim k as (λ k. now e i.past.h k ≤ i.past.g k + S.window) [ zero ↦ omega arith | suc k ↦ i.line.over (suc k) ];
            };
            nums = omega arith;
            edges = i.edges;
            datas = holds_imply (λ p o. record { unit = o.unit; sent = sent_now e up o.sent }) i.datas;
            acks = i.acks;
            r_recent = kept_now e up i.r_recent;
            s_recent = i.s_recent;
            marks = marks_grow (omega arith) (omega arith) i.marks;
            head = i.head;
            stored = stored_accept i.stored u (omega arith) eu;
          }

  -- ---- an event of a channel
  module _ {b : Bench} (i : Inv S log b) where
    abbrev pub with_datas : {c : DataChannel} → DatasHold S log i.past.h b.sender.clock c
        → Inv S log (record { sender = b.sender; receiver = b.receiver; datas = c; acks = b.acks })
    with_datas h = record {
      past = i.past;
      setups = i.setups;
      line = i.line;
      nums = i.nums;
      edges = i.edges;
      datas = h;
      acks = i.acks;
      r_recent = i.r_recent;
      s_recent = i.s_recent;
      marks = i.marks;
      head = i.head;
      stored = i.stored;
    }

    abbrev pub with_acks : {c : AckChannel} → AcksHold S i.past.g i.past.E b.receiver.clock c
        → Inv S log (record { sender = b.sender; receiver = b.receiver; datas = b.datas; acks = c })
    with_acks h = record {
      past = i.past;
      setups = i.setups;
      line = i.line;
      nums = i.nums;
      edges = i.edges;
      datas = i.datas;
      acks = h;
      r_recent = i.r_recent;
      s_recent = i.s_recent;
      marks = i.marks;
      head = i.head;
      stored = i.stored;
    }

    pub good_datas : {w z : Out DataChannel}
        → Alike (wrap_datas S) (DatasHold S log i.past.h b.sender.clock) w z
        → Goods S log b nothing (on_datas (wrap S b) w) (on_datas b z)
    good_datas a = record {
      same = ap (on_datas (wrap S b)) a.same;
      kept = with_datas a.kept;
      gave = record { list = refl; moved = omega arith };
      grew = omega arith;
      proper = a.proper;
    }

    pub good_acks : {w z : Out AckChannel}
        → Alike (wrap_acks S) (AcksHold S i.past.g i.past.E b.receiver.clock) w z
        → Goods S log b nothing (on_acks (wrap S b) w) (on_acks b z)
    good_acks a = record {
      same = ap (on_acks (wrap S b)) a.same;
      kept = with_acks a.kept;
      gave = record { list = refl; moved = omega arith };
      grew = omega arith;
      proper = a.proper;
    }

  -- ---- send
  pub good_send : (k : ℕ) (b : Bench) → Inv S log b
      → Goods S log b nothing (bench_send (wrapped S) S k (wrap S b)) (bench_send (whole S) S k b)
  good_send k b i =
      on_le (Goods S log b nothing) b.sender.outstanding k refl
      (λ _. stays i 4 (omega arith))
      (λ lt. good_datas i (adding_alike (shows_datas S) i.datas
      (packet_of (wrapped S) S k (wrap_sender S b.sender)) (packet_of (whole S) S k b.sender)
      (rw (mod-add-mod b.sender.una (NS S) k, slot_round v (b.sender.una + k)))
      (record {
        unit = i.stored.value k lt;
        sent = record { young = omega arith; dated = omega arith; low = omega (arith, i.line.fall.down 0); high = omega arith };
      })))

  -- ---- ack
  pub good_ack : (b : Bench) → Inv S log b
      → Goods S log b nothing
      (on_acks (wrap S b) (adding ack_channel (ack_of (wrap_receiver S b.receiver)) (wrap_acks S b.acks)))
      (on_acks b (adding ack_channel (ack_of b.receiver) b.acks))
  good_ack b i =
      good_acks i (adding_alike (shows_acks S) i.acks (ack_of (wrap_receiver S b.receiver)) (ack_of b.receiver) refl
      (record {
        sent = record { young = omega arith; dated = omega arith; low = omega (arith, i.line.down 0); high = omega arith };
        most = omega arith;
        edge = omega (arith, i.edges.now b.receiver.nxt (omega arith));
        past = λ k lt. i.edges.top k;
      }))

  -- ---- room: the edge now is one further
  abbrev further : (ℕ → ℕ) → ℕ → ℕ → ℕ → ℕ
  further E nxt e k = cond (leb nxt k) e (E k)

  further_now : (E : ℕ → ℕ) (nxt e k : ℕ) → nxt ≤ k → further E nxt e k ≡ e
  further_now E nxt e k le = rw (le-leb nxt k le)

  further_past : (E : ℕ → ℕ) (nxt e k : ℕ) → k < nxt → further E nxt e k ≡ E k
  further_past E nxt e k lt = rw (lt-leb nxt k lt)

  further_up : (E : ℕ → ℕ) (nxt e k : ℕ) → E k ≤ e → E k ≤ further E nxt e k
  further_up E nxt e k le = either (λ (x : ℕ). E k ≤ x) (leb nxt k) (λ _. le) (λ _. omega arith)

  further_top : (E : ℕ → ℕ) (nxt e k : ℕ) → E k ≤ e → further E nxt e k ≤ e
  further_top E nxt e k le = either (λ (x : ℕ). x ≤ e) (leb nxt k) (λ _. omega arith) (λ _. le)

  pub good_room : (b : Bench) → Inv S log b
      → GoodReceiver S log b (opening S (wrap_receiver S b.receiver)) (opening S b.receiver)
  good_room b i =
      on_le (GoodReceiver S log b) S.window b.receiver.window refl
      (λ _. stays i 13 (omega arith))
      (λ lt.
      let n : ℕ = b.receiver.nxt in
      let e : ℕ = n + suc b.receiver.window in
      let F : ℕ → ℕ = further i.past.E n e in
      let up : (k : ℕ) → i.past.E k ≤ F k = λ k. further_up i.past.E n e k (omega (arith, i.edges.top k)) in
      quiet b _ refl refl refl (record {
        past = record { h = i.past.h; g = i.past.g; E = F; m = i.past.m };
        setups = i.setups;
        line = i.line;
        nums = omega (arith, up b.sender.una);
        edges = record {
          top = λ k. further_top i.past.E n e k (omega (arith, i.edges.top k));
          now = further_now i.past.E n e;
        };
        datas = i.datas;
        acks = holds_imply (λ p o. record {
          sent = o.sent;
          most = o.most;
          edge = omega (arith, o.edge, up p.packet.ack);
          past = λ k lt.
              let before : k < n = omega (arith, sent_high (line_g i.line) o.sent) in
              omega (arith, o.past k lt, further_past i.past.E n e k before);
        }) i.acks;
        r_recent = i.r_recent;
        s_recent = i.s_recent;
        marks = marks_grow (omega arith) (omega arith) i.marks;
        head = i.head;
        stored = i.stored;
      }))

  -- ---- tick
  older_wrap : (r : Recent) → older S.life (wrap_recent S r) ≡ wrap_recent S (older S.life r)
  older_wrap r =
      on_bool P {c = r.held} refl
      (λ _. on_bool P {c = leb (suc r.age) S.life} refl (λ _. refl) (λ _. rw (zero-mod (NC S))))
      (λ _. rw (zero-mod (NC S)))
    where
      P : Recent → Recent → Type 0
      P x y = x ≡ wrap_recent S y

  pub good_tick : (b : Bench) → Inv S log b → Goods S log b nothing (bench_tick (wrapped S) S (wrap S b)) (bench_tick (whole S) S b)
  good_tick b i =
      quiet b _ refl refl
      (rw (
        older_wrap b.sender.recent,
        older_wrap b.receiver.recent,
        ← suc-mod b.sender.clock (NC S),
        ← suc-mod b.receiver.clock (NC S),
        ticked_shown (shows_datas S) i.datas S.life,
        ticked_shown (shows_acks S) i.acks S.life,
      ))
      (record {
        past = record { h = push i.past.h; g = push i.past.g; E = i.past.E; m = i.past.m };
        setups = i.setups;
        line = record {
          fall = falls_push i.line.fall;
          down = λ k. elim k as (λ k. push i.past.g (suc k) ≤ push i.past.g k) [ zero ↦ omega arith | suc k ↦ i.line.down k ];
          under = λ k. elim k as (λ k. push i.past.g k ≤ push i.past.h k) [ zero ↦ i.line.under 0 | suc k ↦ i.line.under k ];
          over = λ k. elim k as (λ k. push i.past.h k ≤ push i.past.g k + S.window) [ zero ↦ i.line.over 0 | suc k ↦ i.line.over k ];
        };
        nums = omega arith;
        edges = i.edges;
        datas = ticked_holds (shows_datas S) i.datas S.life
            (λ p le o. record { unit = o.unit; sent = sent_push le o.sent });
        acks = ticked_holds (shows_acks S) i.acks S.life
            (λ p le o. record { sent = sent_push le o.sent; most = o.most; edge = o.edge; past = o.past });
        r_recent = kept_push i.line.fall i.r_recent;
        s_recent = kept_push (line_g i.line) i.s_recent;
        marks = i.marks;
        head = i.head;
        stored = i.stored;
      })
