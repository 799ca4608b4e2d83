-- Laws of sizes and of wrapped sums and differences, over any range: what 32 bits wrap, a range of 2 to the power b wraps too.
use Rattle.std.proofs.Common.{◌≡◌, ℕ, true, min, refl, ◌+◌, ◌-◌, ◌*◌, ◌%◌, ◌^◌, ◌<◌, ◌≤◌, suc, lt_of_lt_of_le, mod-lt, sym, ap, ◌∙◌, one-mul, arith, pow_pos, pow_mono, pow-add, shl_exact}
use Rattle.std.proofs.Math.Nat.{mul-add-mod_self_right, suc-mul, mod-mod_of_dvd, dvd-mul_left}
use borrow.Author.Tests.{lt-ltb}
use native.Mathlib.Decide.{dec_le}
use Rattle.std.specs.Prelude.{nat_lt}
use Rattle.rules.specs.Numbers.{dist}

-- a bit shifted to a place of the word
pub bit_at : (k : ℕ) → k < 64 → (1 * 2 ^ k) % 2 ^ 64 ≡ 2 ^ k
bit_at k h = shl_exact {a = 1} 1 k 64 (omega arith) (omega arith) ∙ one-mul (2 ^ k)

-- a − b round a whole number of turns is the difference round one
pub wrap_apart : (n w a b : ℕ) → b ≤ n → (a + (suc w * n - b)) % (suc w * n) % n ≡ dist n a b
unfolding dist
wrap_apart n w a b h =
    let split : a + (suc w * n - b) ≡ w * n + (a + (n - b)) = omega (arith, suc-mul w n) in
    mod-mod_of_dvd n (a + (suc w * n - b)) (dvd-mul_left n (suc w)) ∙ ap (◌% n) split ∙ mul-add-mod_self_right w n (a + (n - b))

-- 32 bits are a whole number of turns of the range
pub divides : (b : ℕ) → b ≤ 32 → 2 ^ 32 ≡ suc (2 ^ (32 - b) - 1) * 2 ^ b
divides b h =
    let e : 32 - b + b ≡ 32 = omega arith in
    let some : suc (2 ^ (32 - b) - 1) ≡ 2 ^ (32 - b) = omega (arith, pow_pos (32 - b)) in
    ap (2 ^◌) (sym e) ∙ pow-add 2 (32 - b) b ∙ ap (◌* 2 ^ b) (sym some)

pub rem_fits : (x b : ℕ) → b ≤ 32 → x % 2 ^ b < 2 ^ 32
rem_fits x b h = lt_of_lt_of_le (mod-lt x (pow_pos b)) (pow_mono h)

-- a number of 32 bits is below any larger power
pub below_wide : (x b : ℕ) → x < 2 ^ 32 → 32 ≤ b → true ≡ nat_lt x (2 ^ b)
below_wide x b h k = sym (lt-ltb x (2 ^ b) (lt_of_lt_of_le h (pow_mono k)))

-- so the power may stop at 32
pub below_capped : (x b k : ℕ) → x < 2 ^ 32 → k ≡ min b 32 → nat_lt x (1 * 2 ^ k % 2 ^ 64) ≡ nat_lt x (2 ^ b)
below_capped x b k h e = rw (bit_at k (omega (arith, e))) (go (dec_le b 32))
  where
    go : Dec (b ≤ 32) → nat_lt x (2 ^ k) ≡ nat_lt x (2 ^ b)
    go (yes le) = let q : k ≡ b = omega (arith, e) in rw q refl
    go (no gt) =
        let q : k ≡ 32 = omega (arith, e) in
        rw q (sym (below_wide x 32 h (omega arith)) ∙ below_wide x b h (omega arith))
