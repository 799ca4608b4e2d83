-- Deliveries: the marks that a turn leaves lie within a window that is one less, so no more units come out than the window has.
-- And the difference of two numbers round the range: when it is 0.
use mathlib.Core.Path.{◌≡◌, refl, sym, ◌∙◌, ap}
use mathlib.Core.Bool.{Bool, true, false, cond}
use mathlib.Core.List.{List}
use Prim.Native.Nat.{ℕ, zero, suc, ◌+◌, ◌%◌, ◌≤◌, ◌<◌, ◌∣◌}
use native.Mathlib.Nat.{mod-add-mod, mod-mod_of_dvd, mod-eq_of_lt, add-zero}
use native.Mathlib.Decide.{dec_le}
use native.Mathlib.Omega.{arith}
use lib.ListN.{length, get_or, set}
use Rattle.rules.specs.Numbers.{dist}
use Rattle.rules.specs.Marks.{marked, mark, unmark}
use Rattle.rules.specs.Fit.{Within}
use Rattle.rules.specs.Events.{Delivery, and_first, deliver}
use Rattle.rules.proofs.Wrap.{dist_ahead, dist_behind}
use Rattle.rules.proofs.Marks.{within_mark, within_next, within_round}

-- a number and the same number round a range that R divides have the same slots ahead
pub same_slots : (R N : ℕ) → R ∣ N → (x d : ℕ) → (x % N + d) % R ≡ (x + d) % R
same_slots R N even x d =
    sym (mod-add-mod (x % N) R d) ∙ ap (λ (y : ℕ). (y + d) % R) (mod-mod_of_dvd R x even) ∙ mod-add-mod x R d

-- ---- the marks within a window
-- every slot of the ring is less than a lap ahead
pub within_ring : (R q mk : ℕ) → Within R q R mk
within_ring R q mk = record { near = λ d lt on. lt }

-- q's own slot is marked: the window is not used up
pub within_some : {R q w mk : ℕ} → 0 < R → Within R q w mk → marked mk (q % R) ≡ true → 0 < w
within_some {R} {q} {w} {mk} some k on = k.near 0 some (rw (add-zero q) on)

-- q's own slot is marked now
pub within_here : {R q w mk : ℕ} → 0 < R → 0 < w → Within R q w mk → Within R q w (mark mk (q % R))
within_here {R} {q} {w} {mk} some room k = rw (add-zero q) at (within_mark k 0 some room)

module _ (R N : ℕ) (some : 0 < R) (most : R ≤ 64) (even : R ∣ N) where
  -- q's mark is cleared, and q moves on round the range
  pub within_turn : {q w mk : ℕ} → Within R q (suc w) mk → Within R (suc q % N) w (unmark mk (q % R))
  within_turn {q} {w} {mk} k = within_round N (suc q) (same_slots R N even (suc q)) (within_next R q mk some most k)

  -- no more units come out than the window has
  pub few : (turns q w : ℕ) (sl : List ℕ) (mk : ℕ) → Within R q w mk → length (deliver (λ (x : ℕ). x % N) R turns q sl mk).units ≤ w
  few zero q w sl mk k = omega arith
  few (suc turns) q w sl mk k =
      by (λ on. within_some some k on) (λ v e. few turns (suc q % N) v (set sl (q % R) 0) (unmark mk (q % R)) (within_turn (rw e at k)))
      (marked mk (q % R)) refl w refl
    where
      rest : Delivery
      rest = deliver (λ (x : ℕ). x % N) R turns (suc q % N) (set sl (q % R) 0) (unmark mk (q % R))

      by : (marked mk (q % R) ≡ true → 0 < w) → ((v : ℕ) → w ≡ suc v → length rest.units ≤ v)
          → (b : Bool) → marked mk (q % R) ≡ b → (v : ℕ) → w ≡ v
          → length (cond b (and_first (get_or sl (q % R) 0) rest) (deliver (λ (x : ℕ). x % N) R zero q sl mk)).units ≤ v
      by pos rec false off v e = omega arith
      by pos rec true on zero e = let h = pos on in absurd (omega arith)
      by pos rec true on (suc v) e = let h = rec v e in omega arith

-- ---- the difference of two numbers of a range
dist_in : (N a b : ℕ) → a < N → b < N → dist N a b ≡ dist N (a % N) (b % N)
dist_in N a b la lb = rw (mod-eq_of_lt la, mod-eq_of_lt lb)

pub dist_same : (N a b : ℕ) → a < N → a ≡ b → dist N a b ≡ 0
dist_same N a b la e = rw (← e) (dist_in N a a la la ∙ dist_ahead N a a (omega arith) (omega arith) ∙ omega arith)

pub dist_other : (N a b : ℕ) → a < N → b < N → (a ≡ b → ⊥) → dist N a b ≡ 0 → ⊥
dist_other N a b la lb ne e = by (dec_le b a)
  where
    by : Dec (b ≤ a) → ⊥
    by (yes h) = ne (omega (arith, dist_in N a b la lb, dist_ahead N a b h (omega arith)))
    by (no h) = omega (arith, dist_in N a b la lb, dist_behind N a b (omega arith) (omega arith))
