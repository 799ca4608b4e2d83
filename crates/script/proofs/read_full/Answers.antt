-- One read more: what it put after the start of buf is what it consumed.
use Rattle.std.proofs.Common.{◌≡◌, ℕ, ◌+◌, ◌≤◌, List, ◌++◌, length, take, rules, ap, sym, ◌∙◌, subst, length-take-le}
use Rattle.std.proofs.Math.Seq.{take-append-add, take-append-le}
use Rattle.std.specs.Io.KnownBytes.{Consumes}
use Rattle.std.proofs.KnownBytes.{Consumes-trans}
use borrow.Rule.Slice.PartMut.{put_mid, post_of}
use Rattle.script.proofs.read_full.Goals as goal

taken : (a k n : ℕ) (xs ys : List ℕ) → a ≤ length xs → n ≤ length ys → take a xs ++ take n ys ≡ take (a + n) (put_mid a k xs ys)
taken a k n xs ys h l =
    ap (λ t. take a xs ++ t) (sym (take-append-le n ys (post_of a k xs) l))
    ∙ sym (take-append-add (take a xs) (ys ++ post_of a k xs) n)
    ∙ ap (λ m. take (m + n) (put_mid a k xs ys)) (length-take-le a xs h)

pub loop-done-preserved : goal.loop-done-preserved
loop-done-preserved g c =
    let b = c.loop-done.invariant in
    let n = c.in_ok-n.ensures in
    (search rules, search rules, subst (Consumes _ _) (taken _ _ _ _ _ b.1 n.bound.0) (Consumes-trans _ _ _ _ _ b.2 n.bytes.0))
