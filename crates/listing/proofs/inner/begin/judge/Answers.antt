-- `judge` meets its contract: values that fit their fields are the setup that `fresh` judges; others are refused.
use Rattle.std.proofs.Common.{◌≡◌, arith, rules}
use Rattle.std.proofs.lemmas.Result.{err_from_is_err_and, MatchResult-weaker}
use Rattle.rules.specs.declared.Refusal.TheVariants.{NotAdmitted}
use Rattle.listing.specs.Listing.{setup_of}
use Rattle.listing.proofs.Setups.{too_large, judged_fresh}
use Rattle.listing.proofs.inner.begin.judge.Goals as goal

pub returns-in_err-setup : goal.returns-in_err-setup
returns-in_err-setup c =
    let p = err_from_is_err_and c.from_residual.result c.from_residual.ensures.1 in
    let b : c.in_err-setup.field-0.0 ≡ NotAdmitted = grind arith in
    rw (p.1, p.2, b) (too_large (setup_of c.args.v) (rw c.in_err-setup.ensures.ok_part at c.to_setup.ensures))

pub returns : goal.returns
returns c =
    judged_fresh (setup_of c.args.v) c.in_ok-setup.setup c.fresh.result c.map_err.result
    (rw c.in_ok-setup.ensures.ok_part at c.to_setup.ensures) c.fresh.ensures
    (MatchResult-weaker c.fresh.result c.map_err.ensures.cases (λ x e. e) (λ e h. search rules))
