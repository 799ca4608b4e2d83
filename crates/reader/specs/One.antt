-- Of each public function any two results that its contract allows are equal.
use Rattle.std.specs.Prelude.{◌≡◌, ℕ, List, Option}
use Rattle.std.proofs.Common.{sym, ◌∙◌}
use Rattle.rules.specs.declared.Event.{Event}
use Rattle.reader.specs.Values.{value_of}
use Rattle.reader.specs.Lines.{line_of, setup_value}

pub one_value : (d : List ℕ) (x y : Option ℕ) → x ≡ value_of d → y ≡ value_of d → x ≡ y
one_value d x y p q = p ∙ sym q

pub one_event : (l : List ℕ) (x y : Option Event) → x ≡ line_of l → y ≡ line_of l → x ≡ y
one_event l x y p q = p ∙ sym q

pub one_setup : (l : List ℕ) (n : ℕ) (x y : Option ℕ) → x ≡ setup_value n l → y ≡ setup_value n l → x ≡ y
one_setup l n x y p q = p ∙ sym q
