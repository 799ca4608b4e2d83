-- The cases of reading a value, digit by digit: the code stops where the number would pass 2^64, the definition at the end.
use Rattle.std.specs.Prelude.{◌≡◌, ℕ, ◌+◌, ◌-◌, ◌*◌, ◌^◌, ◌<◌, ◌≤◌, Bool, true, false, cond, nat_lt, List, [], ◌∷◌, length, get_or, drop, Option, None, Some}
use Rattle.std.proofs.Common.{refl, ◌∙◌, arith, lt-ltb, le-ltb, eq-eqb, ne_eqb}
use Rattle.std.specs.Char.{IsDigitOf}
use mathlib.Core.Logic.{◌⊎◌, inl, inr}
use Rattle.std.proofs.lemmas.List.{drop_more, drop_all}
use Rattle.std.proofs.lemmas.Bool.Decides.{nat_tests}
use Rattle.reader.specs.Values.{value_on, value_of}

by_range : (k : ℕ) (w : Option ℕ) → (48 ≤ k → k ≤ 57 → ⊥) → cond (nat_lt k 48) None (cond (nat_lt 57 k) None w) ≡ None
by_range k w n = grind (arith, nat_tests)

either_bad : (x y : Bool) {w : Option ℕ} → w ≡ None → cond x None (cond y None w) ≡ None
either_bad true y e = refl
either_bad false true e = refl
either_bad false false e = e

-- a number that is too large stays so
pub value_large : (t : List ℕ) (v : ℕ) → 2 ^ 64 ≤ v → value_on v t ≡ None
unfolding value_on
value_large [] v h = rw (le-ltb v (2 ^ 64) h)
value_large (b ∷ t) v h = either_bad (nat_lt b 48) (nat_lt 57 b) (value_large t (v * 10 + (b - 48)) (omega arith))

module _ (d : List ℕ) where
  pub value_none : (length d ≡ 0) ⊎ (20 < length d) → value_of d ≡ None
  unfolding value_of
  value_none (inl h) = rw (eq-eqb _ _ h)
  value_none (inr h) = let n : (length d ≡ 0 → ⊥) = λ e. omega arith in rw (ne_eqb _ _ n, lt-ltb _ _ h)

  pub value_begins : (length d ≡ 0 → ⊥) → length d ≤ 20 → value_of d ≡ value_on 0 d
  unfolding value_of
  value_begins n h = rw (ne_eqb _ _ n, le-ltb _ _ h)

  module _ (v i : ℕ) where
    pub value_ends : length d ≤ i → v < 2 ^ 64 → value_on v (drop i d) ≡ Some v
    unfolding value_on
    value_ends h l = rw (drop_all i d h, lt-ltb _ _ l)

    module _ (h : i < length d) (k : ℕ) (e : k ≡ get_or d i 0) where
      pub value_other : (48 ≤ k → k ≤ 57 → 58 ≤ k) → value_on v (drop i d) ≡ None
      unfolding value_on
      value_other n = rw (drop_more d i 0 h, ← e) (by_range k _ (λ x y. omega (arith, n x y)))

      module _ (x : ℕ) (q : (x < 10) × (48 + x ≡ k)) where
        pub value_digit : (w : ℕ) → w ≡ v * 10 + x → value_on v (drop i d) ≡ value_on w (drop (i + 1) d)
        unfolding value_on
        value_digit w f =
            let m : k - 48 ≡ x = omega (arith, q.1) in
            rw (drop_more d i 0 h, ← e, le-ltb k 48 (omega (arith, q.1)), le-ltb 57 k (omega (arith, q.0, q.1)), m, f)

        pub value_past : 2 ^ 64 ≤ v * 10 + x → value_on v (drop i d) ≡ None
        value_past p = value_digit _ refl ∙ value_large _ _ p

-- what `to_digit` says of a digit
pub digit_is : (k x y : ℕ) → y < 10 → x ≡ y → IsDigitOf k x → (x < 10) × (48 + x ≡ k)
digit_is k x y l e (inl q) = (omega arith, q.1)
digit_is k x y l e (inr (inl q)) = absurd (omega (arith, q.0, q.1))
digit_is k x y l e (inr (inr q)) = absurd (omega (arith, q.0, q.1))
