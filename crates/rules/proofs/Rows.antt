-- What code does to an array of 32 places, as a list in it: laws that join a loop's surgery and the rules' lists. Over any element.
use mathlib.Core.Path.{◌≡◌, refl, ap, sym, ◌∙◌}
use mathlib.Core.Bool.{Bool, true, false, cond}
use mathlib.Core.List.{List, [], ◌∷◌, ◌++◌, append_assoc, append-nil}
use Prim.Native.Nat.{ℕ, suc, zero, ◌+◌, ◌-◌, ◌≤◌, ◌<◌}
use native.Mathlib.Numerals.{add-one}
use native.Mathlib.Omega.{arith}
use lib.Dec.{leb}
use lib.ListN.{length, get_or, take, drop, set, replicate, length-set, length-append, length-take, length-drop, length-replicate, get_or-append}
use lib.Seq.{take-suc, take-suc-set, drop-set-lt, drop-drop, get_or-drop, take_all, length-take-le, get_or-append-add, get_or-append_seam, take-append_seam}
use borrow.Author.Tests.{le-leb, lt-leb}
use Rattle.std.proofs.lemmas.List.{get_or-append_right}
use Rattle.rules.specs.Rows.{row, remove, aged}

-- ---- a loop that writes a list from the front on: what is passed is the result's, what is not is the old list's
module _ {A : Type 0} (d : A) where
  pub passed_more : (out r : List A) (i : ℕ) (v : A) → i < length out → i < length r → take i out ≡ take i r → v ≡ get_or r i d
      → take (i + 1) (set out i v) ≡ take (i + 1) r
  passed_more out r i v ho hr e ev = rw (add-one, take-suc-set out i v, take-suc r i d, e, ev)

  pub left_more : (out l : List A) (i : ℕ) (v : A) → drop i out ≡ drop i l → drop (i + 1) (set out i v) ≡ drop (i + 1) l
  left_more out l i v e =
      drop-set-lt (i + 1) out i v (omega arith) ∙ sym (drop-drop 1 i out) ∙ ap (λ (x : List A). drop 1 x) e ∙ drop-drop 1 i l

  -- and each place of what is not passed is the old list's
  pub left_at : (out l : List A) (i k : ℕ) → drop i out ≡ drop i l → get_or out (i + k) d ≡ get_or l (i + k) d
  left_at out l i k e = grind (arith, get_or-drop)

  -- all but the last place passed, and the last one written
  pub passed_all : (out r : List A) (n : ℕ) (v : A) → length out ≡ n + 1 → length r ≡ n + 1 → take n out ≡ take n r → v ≡ get_or r n d
      → set out n v ≡ r
  passed_all out r n v ho hr e ev =
      sym (take_all (n + 1) (set out n v) (omega (arith, length-set out n v)))
      ∙ passed_more out r n v (omega arith) (omega arith) e ev ∙ take_all (n + 1) r (omega arith)

-- ---- an array without its element at j: the gap is closed, and an empty place stands at the end
unfoldable pub closed : {A : Type 0} → A → List A → ℕ → List A
closed z ps j = take j ps ++ (drop (suc j) ps ++ z ∷ [])

module _ {A : Type 0} (z : A) (ps : List A) (j : ℕ) (h : j < length ps) where
  pub length_closed : length (closed z ps j) ≡ length ps
  unfolding closed
  length_closed = simp (length-append, length-take, length-drop) (omega arith)

  split : closed z ps j ≡ take j ps ++ (drop (suc j) ps ++ (z ∷ []))
  unfolding closed
  split = refl

  front : length (take j ps) ≡ j
  front = length-take-le j ps (omega arith)

  -- before j it is the array as it was
  pub closed_before : take j ps ≡ take j (closed z ps j)
  closed_before = grind (arith, take-append_seam, front, split)

  -- past j stands what stood one place further
  pub closed_at : (i : ℕ) → j ≤ i → i + 1 < length ps → get_or (closed z ps j) i z ≡ get_or ps (i + 1) z
  unfolding closed
  closed_at i hj hi = grind (arith, get_or-append_right, get_or-append, get_or-drop, length-drop, front)

  pub closed_last : (n : ℕ) → length ps ≡ n + 1 → get_or (closed z ps j) n z ≡ z
  closed_last n hn =
      let e : n ≡ length (take j ps) + length (drop (suc j) ps) = omega (arith, front, length-drop (suc j) ps) in
      rw (split, e, get_or-append-add) (get_or-append_seam (drop (suc j) ps) z [] z)

-- ---- a list in 32 places
module _ {A : Type 0} (z : A) where
  one_more : (k : ℕ) → replicate k z ++ z ∷ [] ≡ z ∷ replicate k z
  one_more zero = refl
  one_more (suc k) = ap (z ∷◌) (one_more k)

  pub length_remove : (j : ℕ) (l : List A) → j < length l → suc (length (remove j l)) ≡ length l
  length_remove j [] lt = absurd (omega arith)
  length_remove zero (x ∷ l) lt = refl
  length_remove (suc j) (x ∷ l) lt = ap suc (length_remove j l (omega arith))

  take_out : (k j : ℕ) (l : List A) → j < length l → closed z (l ++ replicate k z) j ≡ remove j l ++ (z ∷ replicate k z)
  unfolding closed
  take_out k j [] lt = absurd (omega arith)
  take_out k zero (x ∷ l) lt = append_assoc l (replicate k z) (z ∷ []) ∙ ap (l ++◌) (one_more k)
  take_out k (suc j) (x ∷ l) lt = ap (x ∷◌) (take_out k j l (omega arith))

  put_in : (k : ℕ) (l : List A) (p : A) → set (l ++ (z ∷ replicate k z)) (length l) p ≡ (l ++ p ∷ []) ++ replicate k z
  put_in k [] p = refl
  put_in k (x ∷ l) p = ap (x ∷◌) (put_in k l p)

  pub row_removed : (l : List A) (j : ℕ) → j < length l → length l ≤ 32 → closed z (row z l) j ≡ row z (remove j l)
  unfolding row
  row_removed l j lt le =
      let e : 32 - length (remove j l) ≡ suc (32 - length l) = omega (arith, length_remove j l lt) in
      rw e (take_out (32 - length l) j l lt)

  pub row_added : (l : List A) (p : A) → length l < 32 → set (row z l) (length l) p ≡ row z (l ++ p ∷ [])
  unfolding row
  row_added l p lt =
      let e : 32 - length l ≡ suc (32 - length (l ++ p ∷ [])) = omega (arith, length-append l (p ∷ [])) in
      rw e (put_in (32 - length (l ++ p ∷ [])) l p)

  pub length_row : (l : List A) → length l ≤ 32 → length (row z l) ≡ 32
  unfolding row
  length_row l le = omega (arith, length-append l (replicate (32 - length l) z), length-replicate (32 - length l) z)

  -- what is put into an array is found there
  pub live_row : (l : List A) → take (length l) (row z l) ≡ l
  unfolding row
  live_row l = take-append_seam l (replicate (32 - length l) z)

-- ---- a tick, one place at a time
module _ {A : Type 0} (z : A) (age : A → ℕ) (older : A → A) (L : ℕ) where
  aged_snoc : (l : List A) (p : A) → aged age older L (l ++ p ∷ []) ≡ aged age older L l ++ aged age older L (p ∷ [])
  aged_snoc [] p = refl
  aged_snoc (x ∷ l) p = rw (aged_snoc l p) (push (leb (suc (age x)) L))
    where
      push : (c : Bool) → cond c (older x ∷ (aged age older L l ++ aged age older L (p ∷ []))) (aged age older L l ++ aged age older L (p ∷ []))
          ≡ cond c (older x ∷ aged age older L l) (aged age older L l) ++ aged age older L (p ∷ [])
      push true = refl
      push false = refl

  module _ (ps : List A) (i : ℕ) (lt : i < length ps) where
    aged_gone : L < suc (age (get_or ps i z)) → aged age older L (take (i + 1) ps) ≡ aged age older L (take i ps)
    aged_gone h = rw (add-one, take-suc ps i z, aged_snoc (take i ps) (get_or ps i z), lt-leb _ _ h) (append-nil _)

    aged_kept : suc (age (get_or ps i z)) ≤ L → aged age older L (take (i + 1) ps) ≡ aged age older L (take i ps) ++ older (get_or ps i z) ∷ []
    aged_kept h = rw (add-one, take-suc ps i z, aged_snoc (take i ps) (get_or ps i z), le-leb _ _ h)

    -- k packets are kept of the first i places, and `out` holds them
    module _ (k : ℕ) (out : List A) (le : k ≤ i) (few : i < 32)
        (eo : out ≡ row z (aged age older L (take i ps))) (ek : k ≡ length (aged age older L (take i ps))) where
      pub turn_kept : {out' : List A} {k' : ℕ} {q : A} → age (get_or ps i z) < L → q ≡ older (get_or ps i z) → out' ≡ set out k q → k' ≡ k + 1
          → (k' ≤ i + 1) × (out' ≡ row z (aged age older L (take (i + 1) ps))) × (k' ≡ length (aged age older L (take (i + 1) ps)))
      turn_kept h eq e' n' = (
        omega arith,
        rw (e', eq, eo, ek) (row_added z (aged age older L (take i ps)) (older (get_or ps i z)) (omega arith) ∙ ap (row z) (sym (aged_kept h))),
        rw (aged_kept h, length-append) (n' ∙ ap (◌+ 1) ek),
      )

      pub turn_gone : {out' : List A} {k' : ℕ} → L ≤ age (get_or ps i z) → out' ≡ out → k' ≡ k
          → (k' ≤ i + 1) × (out' ≡ row z (aged age older L (take (i + 1) ps))) × (k' ≡ length (aged age older L (take (i + 1) ps)))
      turn_gone h e' n' =
          let g = aged_gone (omega arith) in
          (omega arith, rw g (e' ∙ eo), rw g (n' ∙ ek))
