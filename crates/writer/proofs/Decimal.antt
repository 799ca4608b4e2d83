-- The digits that the library writes of a 64-bit number are those of `decimal`.
use Rattle.std.proofs.Common.{◌≡◌, ℕ, suc, zero, ◌+◌, ◌/◌, ◌^◌, ◌<◌, ◌≤◌, length, arith, length-append, lt-ltb, le-ltb, refl, sym, Bool, true, false, nat_lt}
use borrow.Author.Tests.{ltb-true, ltb-false}
use Rattle.std.specs.Fmt.{decimal as text}
use Rattle.std.proofs.lemmas.Fmt.{AppendsLastDigit, decimal_from_appends, decimal_digit, decimal_step, length-decimal-le, length-decimal-le_succ}
use Rattle.writer.specs.Decimal.{decimal_on, decimal}

appends : AppendsLastDigit decimal_on
unfolding decimal_on
appends = record {
  one = λ k n h. rw (lt-ltb _ _ h);
  more = λ k n h. rw (le-ltb _ _ h);
}

-- a number above 0 has no more digits than its value
few_by : (n : ℕ) (q : Bool) → nat_lt n 10 ≡ q → 0 < n → n < 2 ^ 64 → length (text n) ≤ n
few_by n true e p h = rw (decimal_digit n (ltb-true n 10 e)) p
few_by n false e p h =
    let t : 10 ≤ n = ltb-false n 10 e in
    let l : length (text (n / 10)) ≤ n / 10 + 1 = length-decimal-le_succ (n / 10) (omega arith) in
    rw (decimal_step n t h, length-append) (omega (arith, l))

pub decimal_text : (n : ℕ) → n < 2 ^ 64 → text n ≡ decimal n
unfolding decimal decimal_on
decimal_text zero h = decimal_digit 0 (omega arith)
decimal_text (suc m) h = sym (decimal_from_appends decimal_on appends (suc m) (suc m) h (few_by (suc m) (nat_lt (suc m) 10) refl (omega arith) h))

-- a 64-bit number has at most 20 digits
pub decimal_few : (n : ℕ) → n < 2 ^ 64 → length (decimal n) ≤ 20
decimal_few n h = rw (← decimal_text n h) (length-decimal-le 20 n (omega arith) (omega arith) h)
