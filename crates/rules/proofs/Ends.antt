-- Laws of the two ends: what a loop over an end's slots does, one turn at a time.
use mathlib.Core.Path.{◌≡◌, refl}
use mathlib.Core.List.{List}
use Prim.Native.Nat.{ℕ, zero, suc, ◌+◌, ◌-◌, ◌%◌, ◌≤◌, ◌<◌}
use native.Mathlib.Numerals.{add-one}
use native.Mathlib.Omega.{arith}
use lib.ListN.{set}
use Rattle.rules.specs.Events.{freed}

-- ---- o slots from q on, cleared
module _ (seq : ℕ → ℕ) (R : ℕ) where
  pub freed_more : (o : ℕ) → 0 < o → (q : ℕ) (sl : List ℕ) → freed seq R o q sl ≡ freed seq R (o - 1) (seq (q + 1)) (set sl (q % R) 0)
  freed_more zero h q sl = absurd (omega arith)
  freed_more (suc o) h q sl = let e : suc o - 1 ≡ o = omega arith in rw (add-one, e)

  pub freed_none : (o : ℕ) → o ≤ 0 → (q : ℕ) (sl : List ℕ) → freed seq R o q sl ≡ sl
  freed_none zero h q sl = refl
  freed_none (suc o) h q sl = absurd (omega arith)
