-- A quoted text as a list of bytes.
use Rattle.std.specs.Prelude.{ℕ, List}
use mathlib.Core.List as L
use Prim.Native.String as S
use Prim.Native.String.{String}
use Prim.Native.Char.{code}

abbrev pub bytes : String → List ℕ
bytes S.[] = L.[]
bytes (S.◌∷◌ c t) = L.◌∷◌ (code c) (bytes t)
