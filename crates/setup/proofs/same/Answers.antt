-- `same` meets its contract: equal field by field, whatever way the tests are joined.
use Rattle.std.proofs.Common.{◌≡◌, Bool, true, false, refl}
use Rattle.std.specs.Prelude.{◌&&◌, eqb}
use Rattle.rules.specs.Setups.{◌also◌, same_setup}
use Rattle.setup.proofs.same.Goals as goal

joined : (a b c d e f g h : Bool) → (a && (b && (c && (d && (e && (f && (g && h))))))) ≡ (a && b && c && d && e && f && g && h)
joined false b c d e f g h = refl
joined true false c d e f g h = refl
joined true true false d e f g h = refl
joined true true true false e f g h = refl
joined true true true true false f g h = refl
joined true true true true true false g h = refl
joined true true true true true true false h = refl
joined true true true true true true true h = refl

pub returns : goal.returns
unfolding same_setup ◌also◌
returns c =
    let s = c.args.s in let t = c.args.t in
    rw c.eq.ensures
    (joined (eqb s.window t.window) (eqb s.seqbits t.seqbits) (eqb s.clockbits t.clockbits) (eqb s.life t.life)
    (eqb s.rate t.rate) (eqb s.seq t.seq) (eqb s.sclock t.sclock) (eqb s.rclock t.rclock))
