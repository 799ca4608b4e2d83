-- Agreement for scripts: whatever bytes a script has, its listing is the one that numbers which never wrap give.
use Rattle.std.specs.Prelude.{◌≡◌, ℕ, List}
use Rattle.rules.specs.Numbers.{wrapped, whole}
use Rattle.listing.specs.Listing.{listing}

abbrev pub ListingsAgree : Type 0
ListingsAgree = (s : List ℕ) → listing wrapped s ≡ listing whole s
