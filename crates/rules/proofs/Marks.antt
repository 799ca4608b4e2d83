-- The mark word: a mark tested after another was set or cleared; and the marks of a ring, seen from a number that moves on.
use mathlib.Core.Path.{◌≡◌, refl, sym, ◌∙◌, ap}
use mathlib.Core.Bool.{Bool, true, false}
use mathlib.Core.Logic.{◌≢◌}
use Prim.Native.Nat.{ℕ, zero, suc, ◌+◌, ◌-◌, ◌*◌, ◌/◌, ◌%◌, ◌^◌, ◌≤◌, ◌<◌, min, max}
use native.Mathlib.Nat.{add-mod_right, add-zero, div-one, mod-lt}
use native.Mathlib.Decide.{ℕ_discrete, dec_lt}
use native.Mathlib.Omega.{arith}
use native.Mathlib.Numerals.{one-add}
use lib.Pow.{pow-lt, shr-shr}
use lib.Bits.{bit_or, bit_and, or_shr, or_step, and_shr, and_step}
use Rattle.rules.specs.Marks.{marked, mark, unmark}
use Rattle.rules.specs.Numbers.{dist}
use Rattle.rules.specs.Fit.{Within}
use Rattle.rules.proofs.Wrap.{dist_ahead}

unfoldable pub bit : ℕ → ℕ → ℕ
bit w i = w / 2 ^ i % 2

low_bit : (x c : ℕ) → c < 2 → (x * 2 + c) % 2 ≡ c
low_bit x c h = omega arith

pub bit_of_or : (a b i : ℕ) → bit (bit_or a b) i ≡ max (bit a i) (bit b i)
unfolding bit
bit_of_or a b i = rw (or_shr a b i, or_step (a / 2 ^ i) (b / 2 ^ i)) (low_bit (bit_or (a / 2 ^ i / 2) (b / 2 ^ i / 2)) (max (a / 2 ^ i % 2) (b / 2 ^ i % 2)) (omega arith))

pub bit_of_and : (a b i : ℕ) → bit (bit_and a b) i ≡ min (bit a i) (bit b i)
unfolding bit
bit_of_and a b i = rw (and_shr a b i, and_step (a / 2 ^ i) (b / 2 ^ i)) (low_bit (bit_and (a / 2 ^ i / 2) (b / 2 ^ i / 2)) (min (a / 2 ^ i % 2) (b / 2 ^ i % 2)) (omega arith))

bit_suc : (w i : ℕ) → bit w (suc i) ≡ bit (w / 2) i
unfolding bit
bit_suc w i = rw (← one-add i) (ap (◌% 2) (sym (shr-shr w 1 i)))

bit_zero : (w : ℕ) → bit w 0 ≡ w % 2
unfolding bit
bit_zero w = ap (◌% 2) (div-one w)

half_pow : (i : ℕ) → 2 ^ suc i / 2 ≡ 2 ^ i
half_pow i = omega arith

pub bit_pow : (i : ℕ) → bit (2 ^ i) i ≡ 1
bit_pow zero = bit_zero 1
bit_pow (suc i) = bit_suc (2 ^ suc i) i ∙ (rw (half_pow i) (bit_pow i))

bit_of_zero : (i : ℕ) → bit 0 i ≡ 0
bit_of_zero zero = bit_zero 0
bit_of_zero (suc i) = bit_suc 0 i ∙ bit_of_zero i

pub bit_pow_other : (i j : ℕ) → i ≢ j → bit (2 ^ i) j ≡ 0
bit_pow_other zero zero ne = absurd (ne refl)
bit_pow_other zero (suc j) ne = bit_suc 1 j ∙ bit_of_zero j
bit_pow_other (suc i) zero ne = bit_zero (2 ^ suc i) ∙ omega arith
bit_pow_other (suc i) (suc j) ne = bit_suc (2 ^ suc i) j ∙ (rw (half_pow i) (bit_pow_other i j (λ e. ne (ap suc e))))

-- the complement in n bits
half_not : (n x : ℕ) → x < 2 ^ suc n → (2 ^ suc n - 1 - x) / 2 ≡ 2 ^ n - 1 - x / 2
half_not n x h = omega arith

pub bit_not : (n x i : ℕ) → i < n → x < 2 ^ n → bit (2 ^ n - 1 - x) i ≡ 1 - bit x i
bit_not zero x i lt h = absurd (omega arith)
bit_not (suc n) x zero lt h = bit_zero (2 ^ suc n - 1 - x) ∙ (rw (bit_zero x) (omega arith))
bit_not (suc n) x (suc i) lt h = bit_suc (2 ^ suc n - 1 - x) i ∙ (rw (bit_suc x i, half_not n x h) (bit_not n (x / 2) i (omega arith) (omega arith)))

-- ---- a mark after another was set or cleared
bit_lt : (w i : ℕ) → bit w i < 2
unfolding bit
bit_lt w i = omega arith

pub marked_same : (w i : ℕ) → marked (mark w i) i ≡ true
unfolding bit marked mark
marked_same w i = let e : bit (bit_or w (2 ^ i)) i ≡ 1 = omega (arith, bit_of_or w (2 ^ i) i, bit_pow i, bit_lt w i) in rw e

pub marked_other : (w i j : ℕ) → i ≢ j → marked (mark w i) j ≡ marked w j
unfolding bit marked mark
marked_other w i j ne = let e : bit (bit_or w (2 ^ i)) j ≡ bit w j = omega (arith, bit_of_or w (2 ^ i) j, bit_pow_other i j ne) in rw e

pub unmarked_same : (w i : ℕ) → i < 64 → marked (unmark w i) i ≡ false
unfolding bit marked unmark
unmarked_same w i lt = let e : bit (bit_and w (2 ^ 64 - 1 - 2 ^ i)) i ≡ 0 = omega (arith, bit_of_and w (2 ^ 64 - 1 - 2 ^ i) i, bit_not 64 (2 ^ i) i lt (pow-lt lt), bit_pow i) in rw e

pub unmarked_other : (w i j : ℕ) → i < 64 → j < 64 → i ≢ j → marked (unmark w i) j ≡ marked w j
unfolding bit marked unmark
unmarked_other w i j li lj ne = let e : bit (bit_and w (2 ^ 64 - 1 - 2 ^ i)) j ≡ bit w j = omega (arith, bit_of_and w (2 ^ 64 - 1 - 2 ^ i) j, bit_not 64 (2 ^ i) j lj (pow-lt li), bit_pow_other i j ne, bit_lt w j) in rw e

pub unmarked_zero : (i : ℕ) → marked 0 i ≡ false
unfolding bit marked
unmarked_zero i = rw (bit_of_zero i)

-- ---- the marks of a ring of R slots, by their distance ahead of n
-- two places less than a lap ahead of n are two slots
pub apart : (R n d o : ℕ) → d < R → o < R → d ≢ o → (n + d) % R ≢ (n + o) % R
apart R n d o hd ho ne e =
    let p : dist R ((n + d) % R) (n % R) ≡ n + d - n = dist_ahead R (n + d) n (omega arith) (omega arith) in
    let q : dist R ((n + o) % R) (n % R) ≡ n + o - n = dist_ahead R (n + o) n (omega arith) (omega arith) in
    omega (arith, p, q, ap (λ (x : ℕ). dist R x (n % R)) e)

pub clash : {b : Bool} → b ≡ false → b ≡ true → ⊥
clash p q = let z : ◌≡◌ {A = ℕ} 0 1 = cc in omega arith

-- o ahead is marked
pub within_mark : {R n w mk : ℕ} → Within R n w mk → (o : ℕ) → o < R → o < w → Within R n w (mark mk ((n + o) % R))
within_mark {R} {n} {w} {mk} k o lt lw = record { near = λ d hd e. by d hd e (ℕ_discrete d o) }
  where
    by : (d : ℕ) → d < R → marked (mark mk ((n + o) % R)) ((n + d) % R) ≡ true → Dec (d ≡ o) → d < w
    by d hd e (yes p) = omega arith
    by d hd e (no p) = k.near d hd (sym (marked_other mk ((n + o) % R) ((n + d) % R) (λ q. apart R n d o hd lt p (sym q))) ∙ e)

-- n's own mark is cleared, and n moves on
module _ (R n mk : ℕ) (some : 0 < R) (most : R ≤ 64) where
  pub low : (x : ℕ) → x % R < 64
  low x = omega (arith, mod-lt x {m = R} some)

  pub next_other : (d : ℕ) → suc d < R → marked (unmark mk (n % R)) ((suc n + d) % R) ≡ marked mk ((n + suc d) % R)
  next_other d p =
      let same : suc n + d ≡ n + suc d = omega arith in
      let ne : (n + suc d) % R ≢ n % R = rw (← ap (◌% R) (add-zero n)) (apart R n (suc d) 0 p some (omega arith)) in
      rw same (unmarked_other mk (n % R) ((n + suc d) % R) (low n) (low (n + suc d)) (λ q. ne (sym q)))

  pub next_lap : (d : ℕ) → d < R → ¬ (suc d < R) → (suc n + d) % R ≡ n % R
  next_lap d hd p = let q : suc n + d ≡ n + R = omega arith in rw q (add-mod_right n R)

  pub next_gone : (d : ℕ) → d < R → marked (unmark mk (n % R)) ((suc n + d) % R) ≡ true → ¬ (suc d < R) → ⊥
  next_gone d hd e p = clash (unmarked_same mk (n % R) (low n)) (rw (next_lap d hd p) at e)

  pub within_next : {w : ℕ} → Within R n (suc w) mk → Within R (suc n) w (unmark mk (n % R))
  within_next {w} k = record { near = λ d hd e. by d hd e (dec_lt (suc d) R) }
    where
      by : (d : ℕ) → d < R → marked (unmark mk (n % R)) ((suc n + d) % R) ≡ true → Dec (suc d < R) → d < w
      by d hd e (yes p) = let h : suc d < suc w = k.near (suc d) p (sym (next_other d p) ∙ e) in omega arith
      by d hd e (no p) = absurd (next_gone d hd e p)

-- a number and the same number round a range that R divides have the same slots ahead
pub within_round : {R w mk : ℕ} (N n : ℕ) → ((d : ℕ) → (n % N + d) % R ≡ (n + d) % R) → Within R n w mk → Within R (n % N) w mk
within_round N n turn k = record { near = λ d hd e. k.near d hd (rw (turn d) at e) }
