-- A fact of each element of a list, and a list that is another's image: what the events do to a channel's packets keeps both.
use mathlib.Core.Path.{◌≡◌, refl, sym, ap}
use mathlib.Core.Bool.{Bool, true}
use mathlib.Core.List.{List, [], ◌∷◌, ◌++◌, map, map-append}
use Prim.Native.Nat.{ℕ, zero, suc, ◌-◌, ◌≤◌, ◌<◌}
use native.Mathlib.Omega.{arith}
use lib.Dec.{leb}
use lib.ListN.{length, get_or, take, replicate, length-map}
use Rattle.rules.specs.Rows.{remove, aged, row}
use Rattle.rules.specs.Malformed.{every}
use Rattle.rules.proofs.Tests.{◌and◌}
use Rattle.rules.proofs.Agreement.Cases.{on_bool, either_le}

-- ---- a fact of each element
pub data All {A : Type 0} (P : A → Type 0) : List A → Type 0 where
  done : All P []
  more : {x : A} {l : List A} → P x → All P l → All P (x ∷ l)

module _ {A : Type 0} {P : A → Type 0} where
  pub all_add : {l : List A} {x : A} → All P l → P x → All P (l ++ x ∷ [])
  all_add done p = more p done
  all_add (more h t) p = more h (all_add t p)

  pub all_remove : (j : ℕ) {l : List A} → All P l → All P (remove j l)
  all_remove zero done = done
  all_remove (suc j) done = done
  all_remove zero (more h t) = t
  all_remove (suc j) (more h t) = more h (all_remove j t)

  pub all_get_d : (j : ℕ) (d : A) {l : List A} → All P l → j < length l → P (get_or l j d)
  all_get_d j d done lt = absurd (omega arith)
  all_get_d zero d (more h t) lt = h
  all_get_d (suc j) d (more h t) lt = all_get_d j d t (omega arith)

module _ {A : Type 0} {P Q : A → Type 0} where
  pub all_imply : {l : List A} → ((x : A) → P x → Q x) → All P l → All Q l
  all_imply f done = done
  all_imply f (more {x = x} h t) = more (f x h) (all_imply f t)

  -- a tick: each element that stays is older
  pub all_aged : (age : A → ℕ) (older : A → A) (L : ℕ) {l : List A} → ((x : A) → suc (age x) ≤ L → P x → Q (older x))
      → All P l → All Q (aged age older L l)
  all_aged age older L f done = done
  all_aged age older L f (more {x = x} h t) =
      either_le (All Q) (suc (age x)) L (λ le. more (f x le h) (all_aged age older L f t)) (λ _. all_aged age older L f t)

pub all_map : {A B : Type 0} {P : A → Type 0} {Q : B → Type 0} (g : A → B) {l : List A} → ((x : A) → P x → Q (g x)) → All P l
    → All Q (map g l)
all_map g f done = done
all_map g f (more {x = x} h t) = more (f x h) (all_map g f t)

-- as a test
pub every_is : {A : Type 0} (f : A → Bool) {l : List A} → All (λ (x : A). f x ≡ true) l → every f l ≡ true
unfolding every
every_is f done = refl
every_is f (more h t) = h and every_is f t

-- ---- the image of a list
module _ {A B : Type 0} (f : A → B) where
  pub map_add : (l : List A) (x : A) → map f (l ++ x ∷ []) ≡ map f l ++ f x ∷ []
  map_add [] x = refl
  map_add (y ∷ l) x = ap (f y ∷◌) (map_add l x)

  pub map_remove : (j : ℕ) (l : List A) → remove j (map f l) ≡ map f (remove j l)
  map_remove zero [] = refl
  map_remove (suc j) [] = refl
  map_remove zero (x ∷ l) = refl
  map_remove (suc j) (x ∷ l) = ap (f x ∷◌) (map_remove j l)

  pub map_get_or : (l : List A) (j : ℕ) (d : A) (d' : B) → j < length l → get_or (map f l) j d' ≡ f (get_or l j d)
  map_get_or [] j d d' lt = absurd (omega arith)
  map_get_or (x ∷ l) zero d d' lt = refl
  map_get_or (x ∷ l) (suc j) d d' lt = map_get_or l j d d' (omega arith)

  pub map_aged : (age : A → ℕ) (older : A → A) (age' : B → ℕ) (older' : B → B) (L : ℕ)
      → ((x : A) → age' (f x) ≡ age x) → ((x : A) → older' (f x) ≡ f (older x))
      → (l : List A) → aged age' older' L (map f l) ≡ map f (aged age older L l)
  map_aged age older age' older' L e o [] = refl
  map_aged age older age' older' L e o (x ∷ l) =
      rw (e x, o x, map_aged age older age' older' L e o l)
      (on_bool (λ (a : List B) (b : List A). a ≡ map f b) {c = leb (suc (age x)) L} refl (λ _. refl) (λ _. refl))

  pub map_take : (n : ℕ) (l : List A) → take n (map f l) ≡ map f (take n l)
  map_take zero l = refl
  map_take (suc n) [] = refl
  map_take (suc n) (x ∷ l) = ap (f x ∷◌) (map_take n l)

  map_replicate : (n : ℕ) (z : A) → map f (replicate n z) ≡ replicate n (f z)
  map_replicate zero z = refl
  map_replicate (suc n) z = ap (f z ∷◌) (map_replicate n z)

  -- an array of 32 places, element by element
  pub map_row : (z : A) (z' : B) → f z ≡ z' → (l : List A) → row z' (map f l) ≡ map f (row z l)
  unfolding row
  map_row z z' e l =
      rw (length-map l f, ← e, ← map_replicate (32 - length l) z) (sym (map-append f l (replicate (32 - length l) z)))

-- ---- lengths
pub length_remove_le : {A : Type 0} (j : ℕ) (l : List A) → length (remove j l) ≤ length l
length_remove_le zero [] = omega arith
length_remove_le (suc j) [] = omega arith
length_remove_le zero (x ∷ l) = omega arith
length_remove_le (suc j) (x ∷ l) = omega (arith, length_remove_le j l)

pub length_aged_le : {A : Type 0} (age : A → ℕ) (older : A → A) (L : ℕ) (l : List A) → length (aged age older L l) ≤ length l
length_aged_le age older L [] = omega arith
length_aged_le {A} age older L (x ∷ l) =
    let ih = length_aged_le age older L l in
    either_le (λ (a : List A). length a ≤ suc (length l)) (suc (age x)) L (λ _. omega arith) (λ _. omega arith)
