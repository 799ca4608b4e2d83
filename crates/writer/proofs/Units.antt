-- The units of a line that are left: the next after a space, and then the rest; where no unit is left, a line feed.
use Rattle.std.proofs.Common.{◌≡◌, ℕ, ◌+◌, ◌<◌, ◌≤◌, List, [], ◌∷◌, ◌++◌, length, get_or, drop, add-one, drop_of_length-le, drop-cons}
use Rattle.writer.specs.Decimal.{decimal}
use Rattle.writer.specs.Lines.{then_units}

pub units_next : (us : List ℕ) (i : ℕ) → i < length us
    → then_units (drop i us) ≡ 32 ∷ (decimal (get_or us i 0) ++ then_units (drop (i + 1) us))
unfolding then_units
units_next us i h = let s : drop i us ≡ get_or us i 0 ∷ drop (i + 1) us = rw (add-one i) (drop-cons us i 0 h) in rw s

pub units_end : (us : List ℕ) (i : ℕ) → length us ≤ i → then_units (drop i us) ≡ 10 ∷ []
unfolding then_units
units_end us i h = rw (drop_of_length-le us h)
