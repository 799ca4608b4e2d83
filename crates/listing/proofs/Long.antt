-- Past 65,536 bytes a listing no longer depends on the script, so a program that reads more than so many may stop there.
use Rattle.std.specs.Prelude.{◌≡◌, ℕ, ◌<◌, Bool, true, false, nat_le, List, length, take}
use Rattle.std.proofs.Common.{refl, ap, sym, ◌∙◌, arith, lt-ltb, leb-true, leb-false, take_all, length-take-le}
use Rattle.rules.specs.declared.Setup.{Setup}
use Rattle.rules.specs.Numbers.{Arith}
use Rattle.listing.specs.Listing.{bad_input, lines, joined, listing}

module _ (A : Setup → Arith) where
  listing_long : (s : List ℕ) → 65536 < length s → listing A s ≡ bad_input
  unfolding listing joined lines
  listing_long s h = rw (lt-ltb 65536 (length s) h) refl

  pub listing_take : (n : ℕ) (s : List ℕ) → 65536 < n → listing A (take n s) ≡ listing A s
  listing_take n s h = go (nat_le (length s) n) refl
    where
      go : (q : Bool) → nat_le (length s) n ≡ q → listing A (take n s) ≡ listing A s
      go true e = ap (listing A) (take_all n s (leb-true _ _ e))
      go false e =
          let more : n < length s = leb-false _ _ e in
          let cut : length (take n s) ≡ n = length-take-le n s (omega arith) in
          listing_long (take n s) (omega arith) ∙ sym (listing_long s (omega arith))
