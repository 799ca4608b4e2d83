-- `is_malformed` meets its contract: a setup that is not admitted makes it so, and else the test of the rest.
use Rattle.std.proofs.Common.{sym, ◌∙◌}
use Rattle.rules.specs.Setups.{◌also◌}
use Rattle.rules.specs.Malformed.{malformed_receiver}
use Rattle.rules.proofs.Fits.{limits, fit_setup, fit_receiver}
use Rattle.receiver.proofs.is_malformed.Goals as goal
use Rattle.receiver.proofs.is_malformed.Goals.{then-admitted, else-admitted}

pub formed-requires : goal.formed-requires
formed-requires c = fit_setup (limits _ (sym c.admitted.ensures ∙ c.if-admitted.true))

pub returns-clause-is : goal.returns-clause-is
unfolding malformed_receiver ◌also◌
returns-clause-is c =
    elim c.if-admitted.branch [
      | then-admitted w ↦ rw (w.result-is, w.formed.ensures, sym c.admitted.ensures ∙ w.if-admitted.true)
      | else-admitted w ↦ rw (w.result-is, w.if-admitted.false, sym c.admitted.ensures ∙ w.if-admitted.false)
    ]

pub returns-clause-fit : goal.returns-clause-fit
returns-clause-fit c e = fit_receiver _ (sym (returns-clause-is c) ∙ e)
