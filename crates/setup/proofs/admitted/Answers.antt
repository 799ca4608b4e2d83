-- `admitted` meets its contract: the ranges are asked for only where both have at most 32 bits.
use Rattle.std.proofs.Common.{sym, ◌∙◌}
use Rattle.rules.specs.Setups.{◌also◌, admitted}
use Rattle.rules.proofs.Fits.{bits_fit}
use Rattle.setup.proofs.admitted.Goals as goal

pub within_ranges-requires : goal.within_ranges-requires
within_ranges-requires c = bits_fit c.args.s (sym c.within_limits.ensures ∙ c.if-within_limits.true)

pub returns-then-within_limits : goal.returns-then-within_limits
unfolding admitted ◌also◌
returns-then-within_limits c = rw (← c.within_limits.ensures, c.if-within_limits.true) c.within_ranges.ensures

pub returns-else-within_limits : goal.returns-else-within_limits
unfolding admitted ◌also◌
returns-else-within_limits c = rw (← c.within_limits.ensures, c.if-within_limits.false)
