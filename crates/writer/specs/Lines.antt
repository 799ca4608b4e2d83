-- The line of an event, with its line feed: numbers with single spaces between them.
use Rattle.std.specs.Prelude.{ℕ, List, [], ◌∷◌, ◌++◌}
use Rattle.writer.specs.Decimal.{decimal}

-- each unit after a space, and a line feed
unfoldable pub then_units : List ℕ → List ℕ
then_units [] = 10 ∷ []
then_units (u ∷ us) = 32 ∷ (decimal u ++ then_units us)

-- the event's number, the answer, the delivered units
unfoldable pub event_line : ℕ → ℕ → List ℕ → List ℕ
event_line event answer units = decimal event ++ (32 ∷ (decimal answer ++ then_units units))
