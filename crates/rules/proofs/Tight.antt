-- That the two bounds are needed: the runs are computed, and differ in their last answer.
use mathlib.Core.Path.{◌≡◌, refl, ap}
use mathlib.Core.List.{List}
use Prim.Native.Nat.{ℕ}
use native.Mathlib.Omega.{arith}
use lib.ListN.{get_or}
use Rattle.rules.specs.Numbers.{dist}
use Rattle.rules.specs.Setups.{◌also◌, is_window, in_limits, in_ranges, admitted}
use Rattle.rules.specs.Marks.{marked, mark, unmark}
use Rattle.rules.specs.Rows.{row}
use Rattle.rules.specs.Events.{act}
use Rattle.rules.specs.Tight.{answers, NumbersNeeded, ClocksNeeded}

-- lists that differ in one place
differ : {l m : List ℕ} (i : ℕ) → ¬ (get_or l i 0 ≡ get_or m i 0) → ¬ (l ≡ m)
differ i d e = d (ap (λ (l : List ℕ). get_or l i 0) e)

pub numbers_needed : NumbersNeeded
unfolding answers act dist marked mark unmark row admitted in_limits in_ranges is_window ◌also◌
numbers_needed = record { inside = refl; outside = refl; at_wrapped = refl; at_whole = refl; apart = differ 22 (λ (e : ◌≡◌ {A = ℕ} 11 10). omega (arith, e)) }

pub clocks_needed : ClocksNeeded
unfolding answers act dist marked mark unmark row admitted in_limits in_ranges is_window ◌also◌
clocks_needed = record { inside = refl; outside = refl; at_wrapped = refl; at_whole = refl; apart = differ 7 (λ (e : ◌≡◌ {A = ℕ} 9 0). omega (arith, e)) }
