-- What `position` finds is the place of the first b, counted from `from`.
use Rattle.std.proofs.Common.{rules, tests, nat_eq}
use Rattle.std.proofs.lemmas.Iterator.{YieldsList-from_slice}
use Rattle.std.proofs.lemmas.Iterator.Search.{position_from_yields_List}
use Rattle.reader.proofs.Cuts.{rest, first_none, first_some}
use Rattle.reader.proofs.inner.index.Goals as goal

pub returns-in_err-k : goal.returns-in_err-k
returns-in_err-k c =
    let s = c.args.s.now in
    let i = c.args.from in
    let p = c.position in
    let e =
    position_from_yields_List (λ x. nat_eq x c.args.b) _ _ p.result p.ensures.ran
    (YieldsList-from_slice (rest s i) cc)
    (λ x b q k. search (rules, tests)) in
    rw c.from_residual.ensures (first_none c.args.b s i c.requires p.result e c.in_err-k.was)

pub returns : goal.returns
returns c =
    let s = c.args.s.now in
    let i = c.args.from in
    let p = c.position in
    let e =
    position_from_yields_List (λ x. nat_eq x c.args.b) _ _ p.result p.ensures.ran
    (YieldsList-from_slice (rest s i) cc)
    (λ x b q k. search (rules, tests)) in
    first_some c.args.b s i c.requires p.result e c.in_ok-k.k c.in_ok-k.was
