-- What was read is the first bytes of the input, as many as the buffer holds. That is more than a script may have, so their listing is
-- that of the whole input, whatever comes after them; and that is the one on whole numbers.
use Rattle.std.proofs.Common.{◌≡◌, ℕ, ◌<◌, ◌≤◌, Bool, true, false, nat_lt, List, [], ◌++◌, length, take, refl, ap, sym, ◌∙◌, subst, arith, append-nil, ltb-true, ltb-false, take_all, length-take-le, Option, Some, None, IfSome}
use Rattle.std.proofs.Math.Seq.{take-append_seam}
use Rattle.std.proofs.lemmas.Result.{on_ok_weaker, on_err_weaker}
use Rattle.std.specs.Io.KnownBytes.{Consumes, Appends, IsAtEnd}
use Rattle.rules.specs.Numbers.{wrapped, whole}
use Rattle.listing.specs.Listing.{listing}
use Rattle.listing.proofs.Long.{listing_take}
use Rattle.listing.proofs.Agreement.{listings_agree}
use Rattle.script.specs.Failed.{AppendsStart}
use Rattle.script.proofs.run.Goals as goal

-- a buffer with room left has all the bytes, and a full one the first
first_bytes : (n : ℕ) (buf xs ys : List ℕ) → n ≤ length buf → xs ≡ take n buf ++ ys → (n < length buf → ys ≡ []) → take n buf ≡ take (length buf) xs
first_bytes n buf xs ys h e w = go (nat_lt n (length buf)) refl
  where
    go : (q : Bool) → nat_lt n (length buf) ≡ q → take n buf ≡ take (length buf) xs
    go true p =
        let all : xs ≡ take n buf = e ∙ rw (w (ltb-true _ _ p), append-nil) refl in
        rw all (sym (take_all (length buf) (take n buf) (omega (arith, length-take-le n buf h))))
    go false p =
        let full : take n buf ≡ buf = take_all n buf (ltb-false _ _ p) in
        rw (e, full) (sym (take-append_seam buf ys))

-- what holds of the listing of what was read holds of that of the input, on whole numbers
of_input : (P : List ℕ → Type 0) (a b : Option (List ℕ)) (n : ℕ) (buf : List ℕ) → 65536 < length buf → n ≤ length buf
    → Consumes a b (take n buf) → (n < length buf → IsAtEnd b) → P (listing wrapped (take n buf)) → IfSome a (λ xs. P (listing whole xs))
of_input P None b n buf k h p w i = tt
of_input P (Some xs) None n buf k h p w i = absurd p
of_input P (Some xs) (Some ys) n buf k h p w i =
    subst P (ap (listing wrapped) (first_bytes n buf xs ys h p w) ∙ listing_take wrapped (length buf) xs k ∙ listings_agree xs) i

pub returns-clause-ok : goal.returns-clause-ok
returns-clause-ok g c =
    let r = c.in_ok-n.ensures in
    on_ok_weaker c.write_listing.result
    (of_input (Appends _ _) _ _ c.in_ok-n.n c.read_full.new.buf (omega arith) r.within r.bytes r.whole)
    c.write_listing.ensures.ok

pub returns-clause-err : goal.returns-clause-err
returns-clause-err g c =
    let r = c.in_ok-n.ensures in
    on_err_weaker c.write_listing.result
    (of_input (AppendsStart _ _) _ _ c.in_ok-n.n c.read_full.new.buf (omega arith) r.within r.bytes r.whole)
    c.write_listing.ensures.err
