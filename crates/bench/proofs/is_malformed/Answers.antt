-- `is_malformed` meets its contract: the parts are tested only where the setup is admitted, and a bench that passes is fit.
use Rattle.std.proofs.Common.{sym, ◌∙◌, arith}
use Rattle.std.proofs.lemmas.Grind.{common_steps}
use mathlib.Core.Bool.{false≢true}
use Rattle.rules.specs.Setups.{◌also◌}
use Rattle.rules.specs.Malformed.{malformed_bench}
use Rattle.rules.proofs.Tests.{passes}
use Rattle.rules.proofs.Fits.{limits, fit_setup, fit_bench}
use Rattle.bench.proofs.is_malformed.Goals as goal
use Rattle.bench.proofs.is_malformed.Goals.{then-admitted, else-admitted}

pub formed-requires : goal.formed-requires
formed-requires c = fit_setup (limits _ (sym c.admitted.ensures ∙ c.if-admitted.true))

pub returns-clause-is : goal.returns-clause-is
unfolding malformed_bench ◌also◌
returns-clause-is c = grind (arith, common_steps)

pub returns-clause-fit : goal.returns-clause-fit
returns-clause-fit c e =
    elim c.if-admitted.branch [
      | then-admitted w ↦
          let long = w.formed.ensures.long (sym w.result-is ∙ passes _ e) in fit_bench _ long.0 long.1 (sym (returns-clause-is c) ∙ e)
      | else-admitted w ↦ absurd (false≢true (sym (w.result-is ∙ w.if-admitted.false) ∙ passes _ e))
    ]
