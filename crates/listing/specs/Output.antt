-- What a program writes that lends a row of `room` bytes: the first line, and then, as long as there is more, the row filled with
-- whole lines. That its loop ends is shown where the loop is; it has written the listing then.
use Rattle.std.specs.Prelude.{◌≡◌, ℕ, List, [], ◌++◌}
use Rattle.listing.specs.declared.inner.Run.{Run}
use Rattle.listing.specs.declared.inner.Step.{Step}
use Rattle.listing.specs.declared.inner.Step.TheVariants.{More, Over}
use Rattle.rules.specs.Numbers.{wrapped}
use Rattle.listing.specs.Listing.{listing}
use Rattle.listing.specs.Run.{step_of, first}
use Rattle.listing.specs.Fitting.{filling}

-- t is written by a loop that fills the row as long as there is more
pub data Loop (room : ℕ) (s : List ℕ) : Step → List ℕ → Type 0 where
  ends : {run : Run} → Loop room s (Over run) []
  goes_on : {run : Run} {t : List ℕ} → Loop room s (step_of (filling room s run).more (filling room s run).run) t
      → Loop room s (More run) ((filling room s run).text ++ t)

-- t is written for the input s
pub data Output (room : ℕ) (s : List ℕ) : List ℕ → Type 0 where
  starts : {t : List ℕ} → Loop room s (step_of (first s).more (first s).run) t → Output room s ((first s).line ++ t)

-- whatever the rows' size, what is written is the listing
abbrev pub WritesTheListing : Type 0
WritesTheListing = (room : ℕ) (s t : List ℕ) → Output room s t → t ≡ listing wrapped s
