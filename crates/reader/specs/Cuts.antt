-- Cutting a text at a byte: a script at its line feeds (10), a line at its `=` (61).
use Rattle.std.specs.Prelude.{◌≡◌, ℕ, suc, ◌+◌, ◌<◌, ◌≤◌, Bool, true, false, cond, List, [], ◌∷◌, length, drop, ◌==◌, Option, Some, None}

-- how many bytes stand before the first b
unfoldable pub index_of : ℕ → List ℕ → ℕ
index_of b [] = 0
index_of b (x ∷ t) = cond (x == b) 0 (suc (index_of b t))

-- r is the place of the first b of s from `from` on, or the length of s
pub record Index (b : ℕ) (s : List ℕ) (from r : ℕ) : Type 0 where
  pub is : r ≡ from + index_of b (drop from s)
  pub after : from ≤ r
  pub within : r ≤ length s

-- r is the place of the first b of s from `from` on, where there is one
abbrev pub First : ℕ → List ℕ → ℕ → Option ℕ → Type 0
First b s from None = Index b s from (length s)
First b s from (Some e) = Index b s from e × (e < length s)

abbrev pub onto : ℕ → List (List ℕ) → List (List ℕ)
onto x [] = (x ∷ []) ∷ []
onto x (p ∷ ps) = (x ∷ p) ∷ ps

-- the pieces of a text between its b's: one more than it has b's
unfoldable pub split : ℕ → List ℕ → List (List ℕ)
split b [] = [] ∷ []
split b (x ∷ t) = cond (x == b) ([] ∷ split b t) (onto x (split b t))

abbrev pub is_none : List (List ℕ) → Bool
is_none [] = true
is_none (p ∷ ps) = false
