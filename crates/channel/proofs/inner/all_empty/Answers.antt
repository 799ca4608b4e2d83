-- `all_empty` meets its contract: `all` is the test of each place.
use Rattle.std.proofs.Common.{◌∙◌, rules, tests}
use Rattle.std.proofs.lemmas.Iterator.{YieldsList-from_slice}
use Rattle.std.proofs.lemmas.Iterator.Search.{all_from_yields_List}
use Rattle.rules.specs.Setups.{◌also◌}
use Rattle.rules.specs.Parts.{kind}
use Rattle.channel.proofs.Places.{every_is_all}
use Rattle.channel.proofs.inner.all_empty.Goals as goal

pub returns : goal.returns
unfolding ◌also◌
returns g c =
    let test = (kind g.P.Packet.none g.P.Packet.is_none).is_nothing in
    all_from_yields_List test _ _ _ c.all.ensures.ran (YieldsList-from_slice c.args.places.now cc) (λ x b q k. search (rules, tests))
    ∙ every_is_all test c.args.places.now
