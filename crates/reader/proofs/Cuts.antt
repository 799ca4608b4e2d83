-- Where a piece of a text ends, and what is left after it.
use Rattle.std.specs.Prelude.{◌≡◌, ℕ, suc, ◌+◌, ◌-◌, ◌<◌, ◌≤◌, Bool, true, false, cond, nat_eq, List, [], ◌∷◌, length, take, drop, Option, Some, None}
use Rattle.std.proofs.Common.{refl, ap, sym, ◌∙◌, arith, ltb, ltb-true, ltb-false, add-one}
use Rattle.std.specs.List.{position, position_or_len}
use Rattle.std.proofs.lemmas.List.{take_rest}
use Rattle.std.proofs.lemmas.Option.{cond_some}
use Rattle.std.proofs.lemmas.List.Recursion.{is_position_or_len}
use Rattle.std.proofs.Math.ListN.{length-drop}
use Rattle.std.proofs.Math.Seq.{drop-drop}
use Rattle.reader.specs.Cuts.{index_of, Index, First, onto, split, is_none}

-- what `&s[i..]` lends
abbrev pub rest : List ℕ → ℕ → List ℕ
rest s i = take (length s - i) (drop i s)

by_byte : (q : Bool) (i n : ℕ) → i ≤ n → cond q 0 (suc i) ≤ suc n
by_byte true i n h = omega arith
by_byte false i n h = omega arith

pub index_le : (b : ℕ) (t : List ℕ) → index_of b t ≤ length t
unfolding index_of
index_le b [] = omega arith
index_le b (x ∷ t) = by_byte (nat_eq x b) (index_of b t) (length t) (index_le b t)

-- the place is there to be found
pub index_at : (b : ℕ) (s : List ℕ) (at : ℕ) → at ≤ length s → Index b s at (at + index_of b (drop at s))
index_at b s at h =
    record { is = refl; after = omega arith; within = omega (arith, index_le b (drop at s), length-drop at s) }

-- ---- the first piece ends at the first b
split_by : (b x : ℕ) (t : List ℕ) (q : Bool) → cond q 0 (suc (index_of b t)) < suc (length t)
    → (index_of b t < length t → split b t ≡ take (index_of b t) t ∷ split b (drop (index_of b t + 1) t))
    → cond q ([] ∷ split b t) (onto x (split b t))
    ≡ take (cond q 0 (suc (index_of b t))) (x ∷ t) ∷ split b (drop (cond q 0 (suc (index_of b t)) + 1) (x ∷ t))
split_by b x t true h e = refl
split_by b x t false h e = rw (e (omega arith), add-one, add-one (suc (index_of b t)))

split_first : (b : ℕ) (t : List ℕ) → index_of b t < length t → split b t ≡ take (index_of b t) t ∷ split b (drop (index_of b t + 1) t)
unfolding index_of split
split_first b [] h = absurd (omega arith)
split_first b (x ∷ t) h = split_by b x t (nat_eq x b) h (split_first b t)

last_by : (b x : ℕ) (t : List ℕ) (q : Bool) → cond q 0 (suc (index_of b t)) ≡ suc (length t)
    → (index_of b t ≡ length t → split b t ≡ t ∷ [])
    → cond q ([] ∷ split b t) (onto x (split b t)) ≡ (x ∷ t) ∷ []
last_by b x t true h e = absurd (omega arith)
last_by b x t false h e = rw (e (omega arith))

split_last : (b : ℕ) (t : List ℕ) → index_of b t ≡ length t → split b t ≡ t ∷ []
unfolding index_of split
split_last b [] h = refl
split_last b (x ∷ t) h = last_by b x t (nat_eq x b) h (split_last b t)

-- the same at a place of a text
module _ (b : ℕ) (s : List ℕ) (at e : ℕ) (i : Index b s at e) where
  pub split_at : e < length s → split b (drop at s) ≡ take (e - at) (drop at s) ∷ split b (drop (e + 1) s)
  split_at h =
      let q : index_of b (drop at s) ≡ e - at = omega (arith, i.is) in
      let f : at + (e - at + 1) ≡ e + 1 = omega (arith, i.after) in
      split_first b (drop at s) (rw (q, length-drop) (omega (arith, i.after))) ∙ rw (q, drop-drop, f)

  pub split_end : e ≡ length s → split b (drop at s) ≡ drop at s ∷ []
  split_end h = split_last b (drop at s) (rw length-drop (omega (arith, i.is)))

-- ---- there is always a piece
onto_some : (x : ℕ) (ps : List (List ℕ)) → is_none (onto x ps) ≡ false
onto_some x [] = refl
onto_some x (p ∷ ps) = refl

some_by : (q : Bool) (ps qs : List (List ℕ)) → is_none qs ≡ false → is_none (cond q ([] ∷ ps) qs) ≡ false
some_by true ps qs e = refl
some_by false ps qs e = e

pub split_some : (b : ℕ) (t : List ℕ) → is_none (split b t) ≡ false
unfolding split
split_some b [] = refl
split_some b (x ∷ t) = some_by (nat_eq x b) (split b t) (onto x (split b t)) (onto_some x (split b t))

-- ---- the same place, as std's `position` finds it
index_position : (b : ℕ) (t : List ℕ) → index_of b t ≡ position_or_len (λ x. nat_eq x b) t
unfolding index_of
index_position b t =
    let o : (x : ℕ) (xs : List ℕ) → index_of b (x ∷ xs) ≡ cond (nat_eq x b) 0 (1 + index_of b xs) = λ x xs.
    let q : 1 + index_of b xs ≡ suc (index_of b xs) = omega arith in
    rw q in
    is_position_or_len (index_of b) (λ x. nat_eq x b) refl o t

cond_none : (q : Bool) (p : ℕ) → cond q (Some p) None ≡ None → q ≡ false
cond_none true p e = cc
cond_none false p e = refl

module _ (b : ℕ) (s : List ℕ) (from : ℕ) (h : from ≤ length s) (r : Option ℕ) (e : r ≡ position (λ x. nat_eq x b) (rest s from)) where
  place : r ≡ cond (ltb (index_of b (drop from s)) (length (drop from s))) (Some (index_of b (drop from s))) None
  place = rw (index_position b (drop from s), ← take_rest s from) e

  pub first_none : r ≡ None → Index b s from (length s)
  first_none n =
      let g : length (drop from s) ≤ index_of b (drop from s) = ltb-false _ _ (cond_none _ _ (sym place ∙ n)) in
      record { is = omega (arith, index_le b (drop from s), length-drop from s); after = h; within = omega arith }

  pub first_some : (k : ℕ) → r ≡ Some k → First b s from (Some (from + k))
  first_some k n =
      let g = cond_some _ _ _ (sym place ∙ n) in
      let l : from + k < length s = omega (arith, g.1, ltb-true _ _ g.0, length-drop from s) in
      (record { is = omega (arith, g.1); after = omega arith; within = omega arith }, l)

-- of what `index` ensures no two results are allowed
pub one_first : (b : ℕ) (s : List ℕ) (from : ℕ) (x y : Option ℕ) → First b s from x → First b s from y → x ≡ y
one_first b s from None None p q = refl
one_first b s from None (Some e) p q = absurd (omega (arith, p.is, q.0.is, q.1))
one_first b s from (Some d) None p q = absurd (omega (arith, p.0.is, p.1, q.is))
one_first b s from (Some d) (Some e) p q = ap Some (p.0.is ∙ sym q.0.is)
