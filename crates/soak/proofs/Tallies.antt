-- The checksum, a unit at a time.
use Rattle.std.proofs.Common.{◌≡◌, ℕ, ◌+◌, ◌<◌, List, [], ◌∷◌, ◌++◌, length, get_or, take, refl, add-one, take-suc}
use Rattle.soak.specs.Tally.{mixed, all_mixed}

all_mixed_append : (s : ℕ) (l : List ℕ) (v : ℕ) → all_mixed s (l ++ v ∷ []) ≡ mixed (all_mixed s l) v
all_mixed_append s [] v = refl
all_mixed_append s (x ∷ l) v = all_mixed_append (mixed s x) l v

pub all_mixed_more : (s : ℕ) (l : List ℕ) (i : ℕ) → i < length l → all_mixed s (take (i + 1) l) ≡ mixed (all_mixed s (take i l)) (get_or l i 0)
all_mixed_more s l i h = rw (add-one, take-suc l i 0 h) (all_mixed_append s (take i l) (get_or l i 0))
