-- `data` meets its contract: the packet that is taken out of the channel is in range, and the receiver has the bench's setup.
use Rattle.std.proofs.Common.{◌≤◌, length, sym, subst}
use Rattle.rules.specs.declared.Setup.{Setup}
use Rattle.rules.specs.Fit.{FitData}
use Rattle.rules.proofs.Benches.{taken_data}
use Rattle.bench.proofs.inner.data.Goals as goal

pub data-requires : goal.data-requires
data-requires c =
    let same = sym c.requires.same_receiver in (
      c.requires.receiver,
      subst (λ (T : Setup). FitData T c.in_ok-p.p) same (taken_data c.requires c.args.j c.in_ok-p.ensures),
      subst (λ (T : Setup). T.window ≤ length c.args.row.now) same c.if-row-b.false,
    )
