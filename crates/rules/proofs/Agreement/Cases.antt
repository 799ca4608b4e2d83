-- One case split for two machines: a test that both make alike is taken apart once, and what is to be shown of the two results is
-- shown for each way out.
use mathlib.Core.Path.{◌≡◌, refl}
use mathlib.Core.Bool.{Bool, true, false, cond}
use Prim.Native.Nat.{ℕ, ◌≤◌, ◌<◌}
use lib.Dec.{leb, eqb}
use borrow.Author.Tests.{leb-true, leb-false, eqb-true, eqb-false}

module _ {A B : Type 0} (P : A → B → Type 0) where
  pub on_bool : {c' c : Bool} → c' ≡ c → {x y : A} {x' y' : B} → (c ≡ true → P x x') → (c ≡ false → P y y')
      → P (cond c' x y) (cond c x' y')
  on_bool {c = c} e {x} {y} {x'} {y'} f g = rw e (go c f g)
    where
      go : (c : Bool) → (c ≡ true → P x x') → (c ≡ false → P y y') → P (cond c x y) (cond c x' y')
      go true f g = f refl
      go false f g = g refl

  pub on_le : (m n : ℕ) {c' : Bool} → c' ≡ leb m n → {x y : A} {x' y' : B} → (m ≤ n → P x x') → (n < m → P y y')
      → P (cond c' x y) (cond (leb m n) x' y')
  on_le m n e f g = on_bool e (λ t. f (leb-true m n t)) (λ t. g (leb-false m n t))

  pub on_eq : (m n : ℕ) {x y : A} {x' y' : B} → (m ≡ n → P x x') → ((m ≡ n → ⊥) → P y y')
      → P (cond (eqb m n) x y) (cond (eqb m n) x' y')
  on_eq m n f g = on_bool {c = eqb m n} refl (λ t. f (eqb-true m n t)) (λ t. g (eqb-false m n t))

-- the same of one machine
module _ {A : Type 0} (P : A → Type 0) where
  pub either : (c : Bool) {x y : A} → (c ≡ true → P x) → (c ≡ false → P y) → P (cond c x y)
  either c {x} {y} f g = on_bool (λ (a b : A). P b) {c = c} refl {x = x} {y = y} f g

  pub either_le : (m n : ℕ) {x y : A} → (m ≤ n → P x) → (n < m → P y) → P (cond (leb m n) x y)
  either_le m n f g = either (leb m n) (λ t. f (leb-true m n t)) (λ t. g (leb-false m n t))
