-- `formed` meets its contract: each part is tested by its own setup, and only where that is the bench's.
use Rattle.std.proofs.Common.{◌≡◌, true, sym, ◌∙◌, subst, arith}
use Rattle.rules.specs.declared.Bench.{Bench}
use Rattle.rules.specs.Setups.{◌also◌}
use Rattle.rules.specs.Malformed.{same_setups, formed_bench}
use Rattle.rules.specs.Fit.{FitSetup}
use Rattle.rules.proofs.Tests.{both}
use Rattle.rules.proofs.Fits.{same_is}
use Rattle.bench.proofs.inner.formed.Goals as goal

-- the setup of each part is the sender's
one_setup : (b : Bench) → same_setups b.sender.setup b ≡ true
    → (b.receiver.setup ≡ b.sender.setup) × (b.datas.setup ≡ b.sender.setup) × (b.acks.setup ≡ b.sender.setup)
one_setup b e =
    let a = both e in let d = both a.0 in (sym (same_is _ _ d.0), sym (same_is _ _ d.1), sym (same_is _ _ a.1))

pub formed-requires-then-one_setup : goal.formed-requires-then-one_setup
formed-requires-then-one_setup c =
    let s = one_setup c.args.b.now (sym c.one_setup.ensures ∙ c.if-one_setup.true) in subst FitSetup (sym s.0) c.requires

pub returns-then-one_setup-clause-is : goal.returns-then-one_setup-clause-is
unfolding formed_bench ◌also◌
returns-then-one_setup-clause-is c =
    let one = sym c.one_setup.ensures ∙ c.if-one_setup.true in
    let s = one_setup c.args.b.now one in
    rw
    (one, c.formed.ensures, c.formed-then-one_setup.ensures, c.formed-then-one_setup-2.ensures.is, c.formed-then-one_setup-3.ensures.is, s.0, s.1, s.2)
    (grind arith)

pub returns-else-one_setup-clause-is : goal.returns-else-one_setup-clause-is
unfolding formed_bench ◌also◌
returns-else-one_setup-clause-is c = rw (sym c.one_setup.ensures ∙ c.if-one_setup.false) c.if-one_setup.false

pub returns-then-one_setup-clause-long : goal.returns-then-one_setup-clause-long
returns-then-one_setup-clause-long c = grind (arith, c.formed-then-one_setup-2.ensures.long, c.formed-then-one_setup-3.ensures.long)
