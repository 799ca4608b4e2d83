-- What is put into a row determines the row whole, and the place after it. The other contracts of the crate are equations.
use Rattle.std.specs.Prelude.{◌≡◌, ℕ, List}
use Rattle.std.proofs.Common.{sym, ◌∙◌}
use Rattle.writer.specs.Row.{Put}

pub one_put : {old new new' s : List ℕ} {at r r' : ℕ} → Put old new at s r → Put old new' at s r' → (new ≡ new') × (r ≡ r')
one_put p q = (p.row ∙ sym q.row, p.next ∙ sym q.next)
