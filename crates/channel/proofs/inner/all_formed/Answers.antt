-- `all_formed` meets its contract: `all` is the test of each packet.
use Rattle.std.proofs.Common.{◌∙◌, rules, tests}
use Rattle.std.proofs.lemmas.Iterator.{YieldsList-from_slice}
use Rattle.std.proofs.lemmas.Iterator.Search.{all_from_yields_List}
use Rattle.rules.specs.Setups.{◌also◌}
use Rattle.rules.specs.Malformed.{formed_aged}
use Rattle.channel.proofs.Places.{every_is_all}
use Rattle.channel.proofs.inner.all_formed.Goals as goal

pub returns : goal.returns
unfolding formed_aged ◌also◌
returns g c =
    let test = formed_aged (g.P.Packet.right c.args.s) c.args.s.life in
    all_from_yields_List test _ _ _ c.all.ensures.ran (YieldsList-from_slice c.args.packets.now cc) (λ x b q k. search (rules, tests))
    ∙ every_is_all test c.args.packets.now
