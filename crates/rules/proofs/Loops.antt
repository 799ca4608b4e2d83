-- A test of every number of a range, one by one, and of every place of an array: what a loop that checks is proved by.
use mathlib.Core.Path.{◌≡◌, refl, ap}
use mathlib.Core.Bool.{Bool, true, false, cond, ◌&&◌}
use mathlib.Core.List.{List}
use Prim.Native.Nat.{ℕ, suc, zero, ◌+◌, ◌-◌, ◌≤◌, ◌<◌}
use native.Mathlib.Numerals.{add-one}
use native.Mathlib.Omega.{arith}
use native.Mathlib.Decide.{dec_lt}
use lib.Dec.{ltb}
use lib.ListN.{length, get_or, take, drop}
use lib.Seq.{take-nil, drop-cons}
use Rattle.std.specs.List.{list_all, range_with_len}
use Rattle.std.proofs.lemmas.List.{drop_all}
use Rattle.rules.specs.Setups.{◌also◌}
use Rattle.rules.specs.Malformed.{all_from, every}
use Rattle.rules.proofs.Tests.{both, also_assoc, true_also}

-- ---- a loop from i up to n
pub all_more : (f : ℕ → Bool) (n i : ℕ) → i < n → f i ≡ true → all_from f i (n - i) ≡ all_from f (i + 1) (n - (i + 1))
unfolding all_from ◌also◌
all_more f n i h e = let k : n - i ≡ suc (n - (i + 1)) = omega arith in rw (k, e, add-one)

pub all_stop : (f : ℕ → Bool) (n i : ℕ) → i < n → f i ≡ false → all_from f i (n - i) ≡ false
unfolding all_from ◌also◌
all_stop f n i h e = let k : n - i ≡ suc (n - (i + 1)) = omega arith in rw (k, e)

pub all_end : (f : ℕ → Bool) (n i : ℕ) → n ≤ i → all_from f i (n - i) ≡ true
unfolding all_from
all_end f n i h = let k : n - i ≡ 0 = omega arith in rw k

-- what holds of all holds of each
pub all_at : (f : ℕ → Bool) (i k : ℕ) → all_from f i k ≡ true → (x : ℕ) → i ≤ x → x < i + k → f x ≡ true
unfolding all_from
all_at f i zero e x lo hi = absurd (omega arith)
all_at f i (suc k) e x lo hi = by (dec_lt i x) (λ h. all_at f (suc i) k (both e).1 x h (omega arith))
  where
    by : Dec (i < x) → (i < x → f x ≡ true) → f x ≡ true
    by (yes h) later = later h
    by (no h) later = let q : x ≡ i = omega arith in rw q (both e).0

-- ---- a test of the packets in an array and of its empty places
module _ {A : Type 0} (z : A) (f g : A → Bool) (n : ℕ) (ps : List A) where
  -- the test of place i
  abbrev right_at : ℕ → Bool
  right_at i = cond (ltb i n) (f (get_or ps i z)) (g (get_or ps i z))

  -- the test of the places from i on
  abbrev right_from : ℕ → Bool
  right_from i = every f (take (n - i) (drop i ps)) also every g (drop (n - i) (drop i ps))

  places : (k i : ℕ) → i + k ≡ length ps → right_from i ≡ all_from right_at i k
  unfolding every all_from
  places zero i e = grind (arith, drop_all, take-nil, true_also)
  places (suc k) i e = by (dec_lt i n) (places k (suc i) (omega arith))
    where
      by : Dec (i < n) → right_from (suc i) ≡ all_from right_at (suc i) k → right_from i ≡ all_from right_at i (suc k)
      by (yes l) later = let m : n - i ≡ suc (n - suc i) = omega arith in grind (arith, drop-cons, also_assoc)
      by (no l) later = grind (arith, drop-cons, true_also)

-- it is the test of each place
pub by_places : {A : Type 0} (z : A) (f g : A → Bool) (n : ℕ) (ps : List A)
    → every f (take n ps) also every g (drop n ps) ≡ all_from (λ (i : ℕ). cond (ltb i n) (f (get_or ps i z)) (g (get_or ps i z))) 0 (length ps)
by_places z f g n ps = grind (arith, places z f g n ps (length ps) 0)

-- ---- `all` over a range
pub all_range : (f : ℕ → Bool) (i n : ℕ) → list_all f (range_with_len i n) ≡ all_from f i n
unfolding all_from ◌also◌
all_range f i zero = refl
all_range f i (suc n) = rw add-one (ap (λ (b : Bool). f i && b) (all_range f (suc i) n))
