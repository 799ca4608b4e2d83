-- Lists in rows of places: a channel's 32 places, and the lent row.
use Rattle.std.specs.Prelude.{cond, List, [], ◌∷◌, ◌++◌, ℕ, zero, suc, ◌-◌, leb, length, drop, replicate}

-- a list in 32 places: the places past it are empty
unfoldable pub row : {A : Type 0} → A → List A → List A
row z l = l ++ replicate (32 - length l) z

-- the list without its element at j: the gap is closed and the order stays
abbrev pub remove : {A : Type 0} → ℕ → List A → List A
remove zero [] = []
remove (suc j) [] = []
remove zero (x ∷ l) = l
remove (suc j) (x ∷ l) = x ∷ remove j l

-- a tick: each element's age grows by 1, and one whose age is now above L is gone
abbrev pub aged : {A : Type 0} → (A → ℕ) → (A → A) → ℕ → List A → List A
aged age older L [] = []
aged age older L (p ∷ l) = cond (leb (suc (age p)) L) (older p ∷ aged age older L l) (aged age older L l)

-- a lent row with us written from its start; the places past them stay
abbrev pub laid : List ℕ → List ℕ → List ℕ
laid us r = us ++ drop (length us) r
