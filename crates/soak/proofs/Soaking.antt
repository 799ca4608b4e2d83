-- A run, an event at a time.
use Rattle.std.proofs.Common.{◌≡◌, ℕ, zero, suc, ◌-◌, ◌<◌, ◌≤◌, true, List, [], ◌++◌, length, drop, refl, arith}
use Rattle.std.specs.Prelude.{Result}
use Rattle.std.proofs.Math.Dec.{eqb-suc-zero}
use Rattle.std.proofs.Math.Seq.{take-append_seam}
use Rattle.rules.specs.declared.Bench.{Bench}
use Rattle.rules.specs.declared.Refusal.{Refusal}
use Rattle.rules.specs.Numbers.{wrapped}
use Rattle.rules.specs.Events.{Event}
use Rattle.rules.specs.Operations.{step, answered, Counts}
use Rattle.rules.specs.Setups.{◌also◌, is_window, in_limits, in_ranges, admitted}
use Rattle.rules.proofs.Benches.{step_refused}
use Rattle.rules.proofs.Refusals.{number_refusal, step_known}
use Rattle.soak.specs.Draw.{next_draw, chosen}
use Rattle.soak.specs.Tally.{mixed, all_mixed, tallied, tally_of}
use Rattle.soak.specs.Run.{soak_setup, soaked_from}

pub soak_admitted : admitted soak_setup ≡ true
unfolding admitted in_limits in_ranges is_window ◌also◌
soak_admitted = refl

-- what the code gives of an event and of the row is what the rule says, in the checksum
pub tally_is : (e : Event) (b : Bench) {r : Result ℕ Refusal} {x : Bench} {old row : List ℕ} (sum : ℕ)
    → Counts (step wrapped e b) r x old row → tally_of sum r row ≡ tallied sum (step wrapped e b)
tally_is e b {old = old} sum h = rw (h.gives, h.lent) (go (step wrapped e b).answer refl)
  where
    go : (n : ℕ) → (step wrapped e b).answer ≡ n
        → (let us = (step wrapped e b).units in
        tally_of sum (answered n (length us)) (us ++ drop (length us) old) ≡ all_mixed (mixed (mixed sum n) (length us)) us)
    go zero z = let us = (step wrapped e b).units in rw (take-append_seam us (drop (length us) old)) refl
    go (suc n) z =
        let none : (step wrapped e b).units ≡ [] = step_refused wrapped e b (omega arith) in
        let known : suc n ≤ 13 = omega (arith, step_known wrapped e b) in
        rw (none, eqb-suc-zero n, number_refusal (suc n) (omega arith) known) refl

-- what is left of a run after an event
pub soaked_more : (n x sum : ℕ) (b : Bench) → 0 < n
    → soaked_from n x sum b ≡ soaked_from (n - 1) (next_draw x) (tallied sum (step wrapped (chosen x) b)) (step wrapped (chosen x) b).state
unfolding soaked_from
soaked_more zero x sum b h = absurd (omega arith)
soaked_more (suc n) x sum b h = let e : suc n - 1 ≡ n = omega arith in rw e refl

pub soaked_none : (n x sum : ℕ) (b : Bench) → n ≡ 0 → soaked_from n x sum b ≡ sum
unfolding soaked_from
soaked_none n x sum b e = rw e refl
