-- `unused_above` meets its contract: each slot from RW up is tested.
use Rattle.std.proofs.Common.{◌-◌, refl, rules, ◌∙◌, tests}
use Rattle.std.proofs.lemmas.Iterator.{YieldsList-from_range}
use Rattle.std.proofs.lemmas.Iterator.Search.{all_from_yields_List}
use Rattle.rules.specs.Malformed.{unused}
use Rattle.rules.proofs.Loops.{all_range}
use Rattle.receiver.proofs.inner.unused_above.Goals as goal

pub returns : goal.returns
returns c =
    let r = c.args.r.now in
    let f = unused r.slots r.marks in
    all_from_yields_List f _ _ _ c.all.ensures.ran (YieldsList-from_range r.setup.window 64 (64 - r.setup.window) refl refl) (λ x b q k. search (rules, tests))
    ∙ all_range f r.setup.window (64 - r.setup.window)
