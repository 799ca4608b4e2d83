-- `to_setup` meets its contract: eight values that fit are the setup.
use Rattle.std.proofs.Common.{arith}
use Rattle.std.proofs.lemmas.Bool.Decides.{nat_tests}
use Rattle.listing.specs.Listing.{in_fields}
use Rattle.listing.proofs.Setups.{also_from}
use Rattle.listing.proofs.inner.begin.to_setup.Goals as goal

pub returns : goal.returns
unfolding in_fields
returns c = grind (arith, nat_tests, also_from)
