-- A listing in a row that may be too short for it: as many whole lines as fit.
use Rattle.std.specs.Prelude.{◌≡◌, ℕ, ◌+◌, ◌-◌, ◌<◌, ◌≤◌, Bool, cond, List, [], ◌∷◌, length, nat_le, nat_lt}
use Rattle.rules.specs.Numbers.{wrapped}
use Rattle.writer.specs.Row.{Put}
use Rattle.listing.specs.declared.Written.{Written}
use Rattle.listing.specs.declared.inner.Run.{Run}
use Rattle.listing.specs.declared.inner.Part.{Part}
use Rattle.listing.specs.Listing.{lines, joined, listing}
use Rattle.listing.specs.Run.{step_of, IfMore, rest, after, Ready}

-- the first of the lines, as many as fit into `room` bytes
unfoldable pub taken : ℕ → List (List ℕ) → List (List ℕ)
taken room [] = []
taken room (l ∷ ls) = cond (nat_le (length l) room) (l ∷ taken (room - length l) ls) []

-- ---- from a run on: the bytes of the lines that fit, whether there are more, and where the run stands then
pub record Fill : Type 0 where
  pub text : List ℕ
  pub more : Bool
  pub run : Run

unfoldable pub filling : ℕ → List ℕ → Run → Fill
filling room s run = record {
  text = joined (taken room (rest s run));
  more = nat_lt room (length (joined (rest s run)));
  run = after (length (taken room (rest s run))) s run;
}

pub record Filled (s : List ℕ) (run : Run) (old new : List ℕ) (from : ℕ) (r : Part) : Type 0 where
  pub row : Put old new from (filling (length old - from) s run).text r.end
  pub then : r.left ≡ step_of (filling (length old - from) s run).more (filling (length old - from) s run).run
  pub fits : r.end ≤ length old
  pub ready : IfMore r.left (Ready s)
  pub ahead : from + 2048 ≤ length old → IfMore r.left (λ then. run.at < then.at)

-- ---- the whole listing, from a row's start
pub record Wrote (s old new : List ℕ) (r : Written) : Type 0 where
  pub row : Put old new 0 (joined (taken (length old) (lines wrapped s))) r.len
  pub whole : r.whole ≡ nat_le (length (listing wrapped s)) (length old)
