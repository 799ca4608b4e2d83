-- The cases of reading a field, and the keys that are no text.
use Rattle.std.specs.Prelude.{◌≡◌, ℕ, ◌+◌, ◌-◌, ◌<◌, Bool, true, false, List, [], ◌∷◌, length, nat_lt, take, drop, Some, None}
use Rattle.std.proofs.Common.{refl, arith, ltb-true, eq-eqb, ne_eqb}
use Rattle.std.specs.List.{list_all}
use Rattle.std.specs.Str.{IsUtf8, bytes_eq}
use Rattle.std.proofs.lemmas.Bool.{and_parts, false_from_ne_true}
use Rattle.std.proofs.lemmas.Slice.Eq.{bytes_eq-Decides}
use Rattle.std.proofs.lemmas.Str.{IsUtf8-from_ascii}
use Rattle.std.proofs.lemmas.Str.Ascii.{IsAscii-from_all}
use Rattle.std.proofs.lemmas.List.{take_rest}
use Rattle.std.proofs.lemmas.List.Sums.{AllPass-from_list_all}
use Rattle.reader.specs.Cuts.{index_of, Index}
use Rattle.reader.specs.Values.{value_of}
use Rattle.reader.specs.Lines.{field_of, Entry, events, event_for, line_of}

-- ---- a field, with the first `=` at e
module _ (l : List ℕ) (e : ℕ) (i : Index 61 l 0 e) where
  here : index_of 61 l ≡ e
  here = omega (arith, i.is)

  pub field_cut : e ≡ length l → field_of l ≡ None
  unfolding field_of
  field_cut h = rw (here, eq-eqb _ _ h)

  module _ (h : e < length l) where
    found : (e ≡ length l → ⊥)
    found q = omega arith

    pub field_no_value : value_of (take (length l - (e + 1)) (drop (e + 1) l)) ≡ None → field_of l ≡ None
    unfolding field_of
    field_no_value v = rw (here, ne_eqb _ _ found, ← take_rest l (e + 1), v)

    pub field_both : (x : ℕ) → value_of (take (length l - (e + 1)) (drop (e + 1) l)) ≡ Some x → field_of l ≡ Some (take e l, x)
    unfolding field_of
    field_both x v = rw (here, ne_eqb _ _ found, ← take_rest l (e + 1), v)

-- ---- a key that is no text is no event's
abbrev ascii : List ℕ → Bool
ascii w = list_all (λ b. nat_lt b 128) w

ascii_text : (w : List ℕ) → ascii w ≡ true → IsUtf8 w
ascii_text w h = IsUtf8-from_ascii w (IsAscii-from_all w (λ k d l. ltb-true _ _ (AllPass-from_list_all _ w h k d l)))

other_key : (k w : List ℕ) → (IsUtf8 k → ⊥) → ascii w ≡ true → bytes_eq k w ≡ false
other_key k w n h = false_from_ne_true _ (λ e. n (rw ((bytes_eq-Decides k w).0 e) (ascii_text w h)))

no_text : (k : List ℕ) → (IsUtf8 k → ⊥) → (x : ℕ) (es : List Entry) → list_all (λ e. ascii e.key) es ≡ true → event_for k x es ≡ None
unfolding event_for
no_text k n x [] h = refl
no_text k n x (e ∷ es) h = let p = and_parts _ _ h in rw (other_key k e.key n p.0) (no_text k n x es p.1)

pub line_no_text : (l k : List ℕ) (x : ℕ) → Some (k, x) ≡ field_of l → (IsUtf8 k → ⊥) → line_of l ≡ None
unfolding line_of
line_no_text l k x e n = rw (← e) (no_text k n x events refl)
