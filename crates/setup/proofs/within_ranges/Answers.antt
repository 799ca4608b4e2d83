-- `within_ranges` meets its contract: each range has the size that `size` gives.
use Rattle.std.specs.Prelude.{refl}
use Rattle.rules.specs.Setups.{◌also◌, in_ranges}
use Rattle.setup.proofs.within_ranges.Goals as goal

pub returns : goal.returns
unfolding in_ranges ◌also◌
returns c =
    rw (c.contains.ensures, c.contains-2.ensures, c.contains-3.ensures, c.size.ensures.0, c.size-2.ensures.0, c.new-seqs.ensures, c.new-clocks.ensures)
    refl
