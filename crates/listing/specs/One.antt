-- Any two results that a contract allows are equal, and so are the rows.
use Rattle.std.specs.Prelude.{◌≡◌, ℕ, Bool, List}
use Rattle.std.proofs.Common.{ap, sym, ◌∙◌}
use Rattle.writer.specs.One.{one_put}
use Rattle.listing.specs.declared.Written.{Written}
use Rattle.listing.specs.declared.inner.Run.{Run}
use Rattle.listing.specs.declared.inner.Step.{Step}
use Rattle.listing.specs.declared.inner.Part.{Part}
use Rattle.listing.specs.Run.{Next, SetLine, WroteLine}
use Rattle.listing.specs.Fitting.{Filled, Wrote}

abbrev written : ℕ → Bool → Written
written n w = record { len = n; whole = w }

abbrev part : ℕ → Step → Part
part n left = record { end = n; left = left }

same_written : (a b : Written) → a.len ≡ b.len → a.whole ≡ b.whole → a ≡ b
same_written a b e f = ap (λ (n : ℕ). written n a.whole) e ∙ ap (written b.len) f

same_part : (a b : Part) → a.end ≡ b.end → a.left ≡ b.left → a ≡ b
same_part a b e f = ap (λ (n : ℕ). part n a.left) e ∙ ap (part b.end) f

pub one_write : {s old new new' : List ℕ} {r r' : Written} → Wrote s old new r → Wrote s old new' r' → (new ≡ new') × (r ≡ r')
one_write {r = r} {r' = r'} p q =
    let o = one_put p.row q.row in
    (o.0, same_written r r' o.1 (p.whole ∙ sym q.whole))

-- first_line
pub one_line :
    {s old new new' : List ℕ} {n : Next} {r r' : Part} → WroteLine s old new n r → WroteLine s old new' n r' → (new ≡ new') × (r ≡ r')
one_line {r = r} {r' = r'} p q =
    let o = one_put p.row q.row in
    (o.0, same_part r r' o.1 (p.then ∙ sym q.then))

-- set_first and next_line
pub one_set_line : {s line line' : List ℕ} {n : Next} {r r' : Step} → SetLine s n line r → SetLine s n line' r' → (line ≡ line') × (r ≡ r')
one_set_line p q = (p.text ∙ sym q.text, p.then ∙ sym q.then)

pub one_fill :
    {s : List ℕ} {run : Run} {old new new' : List ℕ} {from : ℕ} {r r' : Part}
    → Filled s run old new from r → Filled s run old new' from r' → (new ≡ new') × (r ≡ r')
one_fill {r = r} {r' = r'} p q =
    let o = one_put p.row q.row in
    (o.0, same_part r r' o.1 (p.then ∙ sym q.then))
