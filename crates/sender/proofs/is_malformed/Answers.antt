-- `is_malformed` meets its contract: the sender is tested only where its setup is admitted.
use Rattle.std.proofs.Common.{sym, ◌∙◌}
use Rattle.rules.specs.Setups.{◌also◌}
use Rattle.rules.specs.Malformed.{malformed_sender}
use Rattle.rules.proofs.Fits.{limits, fit_setup, fit_sender}
use Rattle.sender.proofs.is_malformed.Goals as goal
use Rattle.sender.proofs.is_malformed.Goals.{then-admitted, else-admitted}

pub formed-requires : goal.formed-requires
formed-requires c = fit_setup (limits _ (sym c.admitted.ensures ∙ c.if-admitted.true))

pub returns-clause-is : goal.returns-clause-is
unfolding malformed_sender ◌also◌
returns-clause-is c =
    elim c.if-admitted.branch [
      | then-admitted w ↦ rw (← c.admitted.ensures, w.if-admitted.true, ← w.formed.ensures, w.result-is)
      | else-admitted w ↦ rw (← c.admitted.ensures, w.result-is, w.if-admitted.false)
    ]

pub returns-clause-fit : goal.returns-clause-fit
returns-clause-fit c e = fit_sender _ (sym (returns-clause-is c) ∙ e)
