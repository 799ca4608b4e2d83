-- The theorem of agreement: the invariant holds of the fresh bench, so every run from it is as the statement says.
use mathlib.Core.Path.{◌≡◌, refl, sym, ◌∙◌, ap, subst}
use mathlib.Core.Bool.{true, false, not}
use mathlib.Core.List.{List, []}
use Prim.Native.Nat.{ℕ, zero, suc, ◌+◌, ◌%◌}
use native.Mathlib.Nat.{zero-mod, mod-eq_of_lt, add-zero}
use native.Mathlib.Omega.{arith}
use lib.ListN.{length, get_or, take, replicate}
use borrow.Author.Tests.{ne_eqb}
use Rattle.rules.specs.declared.Setup.{Setup}
use Rattle.rules.specs.Numbers.{wrapped, whole, NC}
use Rattle.rules.specs.Setups.{admitted}
use Rattle.rules.specs.Parts.{data_channel, ack_channel, fresh_bench, fresh_data_channel, fresh_ack_channel}
use Rattle.rules.specs.Malformed.{malformed_bench}
use Rattle.rules.specs.Fit.{FitBench}
use Rattle.rules.specs.Events.{Event}
use Rattle.rules.specs.Runs.{Said, run, final, accepted, delivered}
use Rattle.rules.specs.Agreement.{wrap, proper, Agreement}
use Rattle.rules.proofs.Tests.{◌and◌}
use Rattle.rules.proofs.Marks.{unmarked_zero, clash}
use Rattle.rules.proofs.Fits.{Limits, limits, fit_bench}
use Rattle.rules.proofs.Channels.{length_packets}
use Rattle.rules.proofs.Agreement.Lists.{done, all_imply, every_is}
use Rattle.rules.proofs.Agreement.Way.{gone}
use Rattle.rules.proofs.Agreement.Ring.{Idle}
use Rattle.rules.proofs.Agreement.Channels.{Proper, shows_datas, shows_acks, holds_fill, fit_shown}
use Rattle.rules.proofs.Agreement.State.{Wide, wide, Inv, stretch}
use Rattle.rules.proofs.Agreement.Formed.{formed_wrapped}
use Rattle.rules.proofs.Agreement.Runs.{take_stretch, log_of, log_of_stretch, Ran, ran}

-- ---- fresh
zeros : (n i : ℕ) → ◌≡◌ {A = ℕ} (get_or (replicate n 0) i 0) 0
zeros zero i = refl
zeros (suc n) zero = refl
zeros (suc n) (suc i) = zeros n i

fresh_inv : (S : Setup) → Wide S → (log : ℕ → ℕ) → Inv S log (fresh_bench S)
fresh_inv S v log = record {
  past = record { h = λ _. S.seq; g = λ _. S.seq; E = λ _. S.seq; m = S.seq };
  setups = record { sender = refl; receiver = refl };
  line = omega arith;
  nums = omega arith;
  edges = omega arith;
  datas = holds_fill (shows_datas S) (fresh_data_channel S) refl (omega arith) done;
  acks = holds_fill (shows_acks S) (fresh_ack_channel S) refl (omega arith) done;
  r_recent = gone (omega arith);
  s_recent = gone (omega arith);
  marks = record {
    idle = idle;
    within = record { near = λ d lt e. absurd (clash (unmarked_zero _) e) };
    known = λ d lt e. absurd (clash (unmarked_zero _) e);
    value = λ d lt e. absurd (clash (unmarked_zero _) e);
    empty = λ d lt e. zeros 64 ((S.seq + d) % S.window);
    unmarked = λ i le lt. unmarked_zero i;
  };
  head = unmarked_zero (S.seq % S.window);
  stored = record { idle = idle; value = λ d lt. absurd (omega arith); empty = λ d le lt. zeros 64 ((S.seq + d) % S.window) };
}
  where
    idle : Idle S.window (replicate 64 0)
    idle = record { size = v.fit.most; rest = λ i le lt. zeros 64 i }

-- a fresh bench is shown as it is
fresh_wrap : (S : Setup) → Limits S → wrap S (fresh_bench S) ≡ fresh_bench S
fresh_wrap S a =
    rw (
      mod-eq_of_lt a.seq_in,
      mod-eq_of_lt a.sclock_in,
      mod-eq_of_lt a.rclock_in,
      zero-mod (NC S),
      ← (shows_datas S).fill (fresh_data_channel S) [],
      ← (shows_acks S).fill (fresh_ack_channel S) [],
    )

-- ---- a run from fresh
-- the units that it accepts, by their numbers, from the starting number on
units_of : Setup → List Event → List ℕ
units_of S es = accepted es (run whole es (fresh_bench S))

log_from : Setup → List Event → ℕ → ℕ
log_from S es = log_of (units_of S es) S.seq

units_stretch : (S : Setup) (es : List Event) → units_of S es ≡ stretch (log_from S es) S.seq (length (units_of S es))
unfolding log_from
units_stretch S es = log_of_stretch (units_of S es) S.seq

abbrev FreshRan : (S : Setup) → admitted S ≡ true → List Event → Type 0
FreshRan S adm es = Ran S adm (wide (limits S adm)) (log_from S es) es (fresh_bench S)

fresh_ran : (S : Setup) (adm : admitted S ≡ true) (es : List Event) → FreshRan S adm es
unfolding units_of
fresh_ran S adm es =
    let v = wide (limits S adm) in
    ran S adm v (log_from S es) es (fresh_bench S) (fresh_inv S v (log_from S es)) (rw (add-zero S.seq) (units_stretch S es))

fresh_last : (S : Setup) (adm : admitted S ≡ true) (es : List Event) → final wrapped es (fresh_bench S) ≡ wrap S (final whole es (fresh_bench S))
fresh_last S adm es = sym (ap (final wrapped es) (fresh_wrap S (limits S adm))) ∙ (fresh_ran S adm es).last

-- no state of it is malformed, and its channels are as they should be
pub fresh_formed : (S : Setup) → admitted S ≡ true → (es : List Event) → malformed_bench wrapped (final wrapped es (fresh_bench S)) ≡ false
fresh_formed S adm es = rw (fresh_last S adm es) (formed_wrapped S adm (wide (limits S adm)) (fresh_ran S adm es).kept)

pub fresh_fit : (S : Setup) → admitted S ≡ true → (es : List Event) → FitBench (final wrapped es (fresh_bench S))
fresh_fit S adm es =
    let i = (fresh_ran S adm es).kept in
    let b = final whole es (fresh_bench S) in
    subst FitBench (sym (fresh_last S adm es))
    (fit_bench (wrap S b)
    (length_packets data_channel _ (fit_shown (shows_datas S) i.datas.fit))
    (length_packets ack_channel _ (fit_shown (shows_acks S) i.acks.fit))
    (formed_wrapped S adm (wide (limits S adm)) i))

-- ---- the theorem
is_proper : (a : Said) → Proper a.answer → proper a ≡ true
unfolding proper
is_proper a q = ap not (ne_eqb _ 2 q.formed) and ap not (ne_eqb _ 11 q.near)

pub agreement : Agreement
unfolding units_of
agreement S adm es = record {
  answers = same;
  state = fresh_last S adm es;
  prefix = rw same (r.gave.list ∙ sym (ap (take n) (units_stretch S es) ∙ take_stretch (log_from S es) S.seq n (length (units_of S es))
      (omega (arith, r.gave.moved, r.grew, r.kept.nums.nxt_end))));
  order = omega (arith, r.kept.nums);
  never = rw same (every_is proper (all_imply is_proper r.proper));
}
  where
    r : FreshRan S adm es
    r = fresh_ran S adm es

    n : ℕ
    n = length (delivered (run whole es (fresh_bench S)))

    same : run wrapped es (fresh_bench S) ≡ run whole es (fresh_bench S)
    same = sym (ap (run wrapped es) (fresh_wrap S (limits S adm))) ∙ r.same
