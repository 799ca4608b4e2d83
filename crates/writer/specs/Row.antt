-- What is written into a row of bytes: it determines the row whole.
use Rattle.std.specs.Prelude.{ℕ, ◌+◌, ◌≡◌, List, ◌++◌, length, take, drop}

-- the row d with s written from the place `at` on
unfoldable pub put : List ℕ → ℕ → List ℕ → List ℕ
put d at s = take at d ++ (s ++ drop (at + length s) d)

-- `new` is `old` with s written from the place `at` on, and r is the place after it
pub record Put (old new : List ℕ) (at : ℕ) (s : List ℕ) (r : ℕ) : Type 0 where
  pub row : new ≡ put old at s
  pub next : r ≡ at + length s
