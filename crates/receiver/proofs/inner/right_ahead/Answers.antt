-- `right_ahead` meets its contract: each slot of the ring is tested.
use Rattle.std.proofs.Common.{refl, rules, ◌∙◌, tests, arith}
use Rattle.std.proofs.lemmas.Iterator.{YieldsList-from_range}
use Rattle.std.proofs.lemmas.Iterator.Search.{all_from_yields_List}
use Rattle.rules.specs.Malformed.{right_ahead}
use Rattle.rules.proofs.Loops.{all_range}
use Rattle.receiver.proofs.inner.right_ahead.Goals as goal

pub returns : goal.returns
returns c =
    let r = c.args.r.now in
    let f = right_ahead r.setup.window r.slots r.marks r.nxt r.window in
    all_from_yields_List f _ _ _ c.all.ensures.ran (YieldsList-from_range 0 r.setup.window r.setup.window refl (omega arith)) (λ x b q k. search (rules, tests))
    ∙ all_range f 0 r.setup.window
