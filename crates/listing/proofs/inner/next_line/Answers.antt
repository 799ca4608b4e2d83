-- `next_line` meets its contract where the line is an event: the step goes on.
use Rattle.std.proofs.Common.{ℕ, List, replicate, refl, sym, rules}
use Rattle.std.proofs.lemmas.Result.{MatchResult-weaker}
use Rattle.listing.proofs.Steps.{stepped_on}
use Rattle.listing.proofs.Units.{taken, seen}
use Rattle.listing.proofs.inner.next_line.Goals as goal

pub returns : goal.returns
returns c =
    let i = c.in-Some.ensures in
    let r = c.apply-given in
    let zeros : List ℕ = replicate 64 0 in
    let t = taken r.result c.unwrap_or_else-count.result (MatchResult-weaker r.result c.unwrap_or_else-count.ensures (λ x e. e) (λ e h. search rules)) in
    let s = seen c.args.run.bench c.in-Some-read_event.event zeros r.new.row r.result refl r.ensures.gives r.ensures.lent in
    let line = rw (c.clear.ensures, c.from.ensures, c.answer-answer.ensures, s.0, t, s.2) at c.push_event.ensures in
    rw (c.leave.ensures, t, s.1)
    (stepped_on _ _ _ i.0 i.1 _ _ (sym c.in-Some-read_event.ensures) line c.requires)
