-- `apply` without the test meets the contract: a bench that is reached is fit, and its act is the step.
use Rattle.rules.proofs.Reached.{reached_fit, reached_act}
use Rattle.soak.proofs.way.UntestedWay.apply.Goals as goal

pub apply-requires : goal.apply-requires
apply-requires c = reached_fit c.requires

pub returns : goal.returns
returns c = rw (reached_act c.requires _) c.apply.ensures
