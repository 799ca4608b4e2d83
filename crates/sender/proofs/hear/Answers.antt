-- `hear` meets its contract: a packet whose fields are in range is fit.
use Rattle.std.proofs.Common.{sym, ◌∙◌, refl}
use Rattle.rules.proofs.Fits.{fit_ack}
use Rattle.sender.proofs.hear.Goals as goal

pub hear-requires : goal.hear-requires
hear-requires c = (c.if-is_malformed.ensures.fit refl, fit_ack _ _ (sym c.in_range.ensures ∙ c.if-not-in_range.false))
