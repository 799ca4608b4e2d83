-- Things written into a row one after another are one thing written.
use Rattle.std.proofs.Common.{◌≡◌, ℕ, ◌+◌, ◌<◌, ◌≤◌, List, [], ◌∷◌, ◌++◌, length, take, drop, set, ap, sym, ◌∙◌, append_assoc, arith, length-append, take-append-drop, drop-drop}
use Rattle.std.proofs.Math.Seq.{paste, take-paste, drop-paste, length-paste, take-length, set_split, take-append_seam}
use borrow.Rule.Slice.PartMut.{put_mid}
use Rattle.writer.specs.Row.{put, Put}

module _ (d : List ℕ) (at : ℕ) (s : List ℕ) where
  pub put_paste : put d at s ≡ paste d at s (length s)
  unfolding put
  put_paste = rw (take-length s, append_assoc)

  put_length : at + length s ≤ length d → length (put d at s) ≡ length d
  put_length h = rw put_paste (length-paste d at s (length s) h (omega arith))

  module _ (h : at ≤ length d) where
    put_take : take (at + length s) (put d at s) ≡ take at d ++ s
    put_take = rw put_paste (take-paste d at s (length s) h (omega arith) ∙ rw (take-length s))

    put_drop : drop (at + length s) (put d at s) ≡ drop (at + length s) d
    put_drop = rw put_paste (drop-paste d at s (length s) h (omega arith))

    put_drop_more : (n : ℕ) → drop (at + length s + n) (put d at s) ≡ drop (at + length s + n) d
    put_drop_more n = sym (drop-drop n (at + length s) (put d at s)) ∙ ap (drop n) put_drop ∙ drop-drop n (at + length s) d

    put_put : (t : List ℕ) → put (put d at s) (at + length s) t ≡ put d at (s ++ t)
    unfolding put
    put_put t =
        let e : at + (length s + length t) ≡ at + length s + length t = omega arith in
        ap (λ (x : List ℕ). x ++ (t ++ drop (at + length s + length t) (put d at s))) put_take
        ∙ ap (λ (x : List ℕ). take at d ++ s ++ (t ++ x)) (put_drop_more (length t))
        ∙ simp (append_assoc, length-append, e)

-- what `copy_from_slice` leaves of a row
pub put_copied : (d : List ℕ) (at k : ℕ) (s : List ℕ) → k ≡ length s → put_mid at k d s ≡ put d at s
unfolding put
put_copied d at k s e = rw (e, drop-drop (length s) at d)

-- one element written
pub put_one : (d : List ℕ) (at b : ℕ) → at < length d → set d at b ≡ put d at (b ∷ [])
unfolding put
put_one d at b h = grind (arith, set_split)

pub put_nothing : (d : List ℕ) (at : ℕ) → put d at [] ≡ d
unfolding put
put_nothing d at = let e : at + 0 ≡ at = omega arith in rw e (take-append-drop at d)

-- one thing put after another
pub put_then : {d₀ d₁ d₂ s t : List ℕ} {at a b : ℕ} → at ≤ length d₀ → Put d₀ d₁ at s a → Put d₁ d₂ a t b → Put d₀ d₂ at (s ++ t) b
put_then {d₀} {d₁} {d₂} {s} {t} {at} {a} {b} h p q =
    record {
      row = q.row ∙ rw (p.row, p.next) (put_put d₀ at s h t);
      next = q.next ∙ rw (p.next, length-append) (omega arith);
    }

-- a row keeps its length
pub put_kept : {d₀ d₁ s : List ℕ} {at a : ℕ} → Put d₀ d₁ at s a → at + length s ≤ length d₀ → length d₁ ≡ length d₀
put_kept {d₀} {d₁} {s} {at} p h = rw p.row (put_length d₀ at s h)

-- what stands at the row's start, and that it lies within the row
pub put_start : {d e s : List ℕ} {r : ℕ} → Put d e 0 s r → take r e ≡ s
unfolding put
put_start {d} {e} {s} {r} p =
    let n : r ≡ length s = omega (arith, p.next) in
    rw (p.row, n) (take-append_seam s (drop (0 + length s) d))

pub put_within : {d e s : List ℕ} {r : ℕ} → Put d e 0 s r → r ≤ length e
unfolding put
put_within {d} {e} {s} {r} p = grind (arith, length-append)
