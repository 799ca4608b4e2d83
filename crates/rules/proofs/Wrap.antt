-- The wrapped comparison, proved once over the range's size: differences round a range of N values, and the true difference that
-- they show. Sequence numbers and clocks both cite it; specs/Wrap.antt states it.
use mathlib.Core.Path.{◌≡◌, sym, ◌∙◌}
use Prim.Native.Nat.{ℕ, suc, ◌+◌, ◌-◌, ◌*◌, ◌/◌, ◌%◌, ◌≤◌, ◌<◌}
use native.Mathlib.Nat.{mod-add-mod, mod-eq_of_lt, add-mul-mod_self_right, div-add-mod', mod-lt}
use native.Mathlib.Omega.{arith}
use native.Mathlib.Decide.{dec_le, dec_lt}
use lib.Dec.{leb, ltb}
use lib.IntN.{pos, sub_ℕ}
use Rattle.rules.specs.Numbers.{dist, Place, behind, ahead, place}
use Rattle.rules.specs.Wrap.{Comparison}
use borrow.Author.Tests.{le-leb, lt-leb, lt-ltb, le-ltb}

-- dist of two wrapped numbers, from any way to write a + N − b%N as r plus a multiple of N
from_multiple : (N a b r k : ℕ) → r < N → a + (N - b % N) ≡ r + k * N → dist N (a % N) (b % N) ≡ r
unfolding dist
from_multiple N a b r k h e = mod-add-mod a N (N - b % N) ∙ rw e (add-mul-mod_self_right r k N ∙ mod-eq_of_lt h)

pub dist_ahead : (N a b : ℕ) → b ≤ a → a < b + N → dist N (a % N) (b % N) ≡ a - b
dist_ahead N a b le lt =
    from_multiple N a b (a - b) (suc (b / N)) (omega arith) (omega (arith, div-add-mod' b N, mod-lt b {m = N} (omega arith)))

pub dist_behind : (N a b : ℕ) → a < b → b ≤ a + N → dist N (a % N) (b % N) ≡ N - (b - a)
dist_behind N a b lt near =
    from_multiple N a b (N - (b - a)) (b / N) (omega arith) (omega (arith, div-add-mod' b N, mod-lt b {m = N} (omega arith)))

-- THE LAW, over the range's size: the true difference lies from −(N − K) up to K − 1
module _ (N K a b : ℕ) (k : K ≤ N) (hi : a < b + K) (lo : b + K ≤ a + N) where
  pub below_agree : ltb (dist N (a % N) (b % N)) K ≡ leb b a
  below_agree = by (dec_le b a)
    where
      by : Dec (b ≤ a) → ltb (dist N (a % N) (b % N)) K ≡ leb b a
      by (yes h) = rw (dist_ahead N a b h (omega arith)) (lt-ltb (a - b) K (omega arith) ∙ sym (le-leb b a h))
      by (no h) = rw (dist_behind N a b (omega arith) (omega arith)) (le-ltb (N - (b - a)) K (omega arith) ∙ sym (lt-leb b a (omega arith)))

  pub place_agree : place K (pos (dist N (a % N) (b % N))) ≡ place K (sub_ℕ a b)
  place_agree = by (dec_le b a)
    where
      by : Dec (b ≤ a) → place K (pos (dist N (a % N) (b % N))) ≡ place K (sub_ℕ a b)
      by (yes h) = rw (dist_ahead N a b h (omega arith), le-ltb a b h)
      by (no h) = rw (below_agree, lt-leb b a (omega arith), lt-ltb a b (omega arith))

pub comparison : Comparison
comparison N K a b k hi lo = record { below = below_agree N K a b k hi lo; seen = place_agree N K a b k hi lo }

-- what the true place says
pub data View (K a b : ℕ) : Place → Type 0 where
  back : View K a b behind
  fore : (o : ℕ) → a ≡ b + o → o < K → View K a b (ahead o)

pub view : (K a b : ℕ) → View K a b (place K (sub_ℕ a b))
view K a b = by (dec_lt a b) (dec_lt (a - b) K)
  where
    by : Dec (a < b) → Dec (a - b < K) → View K a b (place K (sub_ℕ a b))
    by (yes h) d = rw (lt-ltb a b h) back
    by (no h) (yes l) = rw (le-ltb a b (omega arith), lt-ltb (a - b) K l) (fore (a - b) (omega arith) l)
    by (no h) (no l) = rw (le-ltb a b (omega arith), le-ltb (a - b) K (omega arith)) back
