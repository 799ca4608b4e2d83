-- What a write or a read that failed leaves, where the bytes that a writer holds and a reader has left are known.
use Rattle.std.specs.Prelude.{◌≡◌, ◌≤◌, ◌++◌, ℕ, List, length, take}
use Rattle.std.specs.declared.option.Option.{Option}
use Rattle.std.specs.Io.KnownBytes.{Appends, Consumes}

-- what was written is a beginning of bs
pub record AppendsStart (old new : Option (List ℕ)) (bs : List ℕ) : Type 0 where
  pub text : List ℕ
  pub rest : List ℕ
  pub grown : Appends old new text
  pub whole : text ++ rest ≡ bs

-- what is gone from the reader stands at the start of buf
pub record ConsumesStart (old new : Option (List ℕ)) (buf : List ℕ) : Type 0 where
  pub count : ℕ
  pub within : count ≤ length buf
  pub gone : Consumes old new (take count buf)
