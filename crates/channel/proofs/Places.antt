-- Laws of a channel's places: a packet taken out by moving down those after it, and the test of every place.
use Rattle.std.proofs.Common.{◌≡◌, ℕ, suc, ◌+◌, ◌-◌, ◌<◌, ◌≤◌, Bool, ◌&&◌, List, [], ◌∷◌, ◌++◌, refl, ap, sym, ◌∙◌, length, take, drop, arith, append_assoc, length-append, length-drop, add-one}
use Rattle.std.proofs.Math.ListN.{set}
use Rattle.std.proofs.Math.Seq.{take_all, length-take-le, take-append_seam}
use Rattle.std.proofs.lemmas.List.Edits.{length-paste, take-paste}
use Rattle.std.specs.List.{copy_within, list_all}
use borrow.Author.Tests.{le-leb}
use Rattle.rules.specs.declared.Aged.{Aged}
use Rattle.rules.specs.declared.Channel.{Channel}
use Rattle.rules.specs.Setups.{◌also◌}
use Rattle.rules.specs.Parts.{Kind, kind}
use Rattle.rules.specs.Malformed.{every, formed_channel}
use Rattle.rules.specs.Fit.{FitChannel}
use Rattle.rules.specs.Events.{removed}
use Rattle.rules.proofs.Rows.{closed, passed_all, length_closed, closed_last}
use Rattle.rules.proofs.Channels.{length_packets, packets_removed, length_removed}

-- ---- what follows j moved down one place, and the last of n + 1 places written
module _ {A : Type 0} (z : A) (ps : List A) (n j : ℕ) (size : length ps ≡ n + 1) (lt : j < n + 1) where
  front_closed : take n (closed z ps j) ≡ take j ps ++ drop (suc j) ps
  unfolding closed
  front_closed =
      let l = take j ps ++ drop (suc j) ps in
      let k : length l ≡ n = simp (length-append, length-drop) (omega (arith, length-take-le j ps (omega arith))) in
      rw (← append_assoc (take j ps) (drop (suc j) ps) (z ∷ [])) (rw k at (take-append_seam l (z ∷ [])))

  front_moved : take n (copy_within ps (j + 1) (n + 1) j) ≡ take j ps ++ drop (suc j) ps
  front_moved =
      let m = n + 1 - (j + 1) in
      let e : j + m ≡ n = omega arith in
      let f : j + 1 ≡ suc j = add-one j in
      let k : length (drop (j + 1) ps) ≡ m = omega (arith, length-drop (j + 1) ps) in
      ap (λ (i : ℕ). take i (copy_within ps (j + 1) (n + 1) j)) (sym e)
      ∙ take-paste ps j (drop (j + 1) ps) m (omega arith) (omega arith)
      ∙ ap (λ (s : List A). take j ps ++ s) (take_all m (drop (j + 1) ps) (omega arith) ∙ ap (λ (i : ℕ). drop i ps) f)

  closed_by_moves : set (copy_within ps (j + 1) (n + 1) j) n z ≡ closed z ps j
  closed_by_moves =
      passed_all z (copy_within ps (j + 1) (n + 1) j) (closed z ps j) n z
      (length-paste ps j (drop (j + 1) ps) (n + 1 - (j + 1)) (omega arith) (omega (arith, length-drop (j + 1) ps)) ∙ size)
      (length_closed z ps j (omega arith) ∙ size) (front_moved ∙ sym front_closed) (sym (closed_last z ps j (omega arith) n size))

-- ---- a packet taken out of a channel: what was moved, from where, what is written last, and the count
module _ {P : Type 0} (none : P) (is_none : P → Bool) (c : Channel P) (j : ℕ) where
  pub removed_by_moves : {moved : List (Aged P)} {from count : ℕ} {z : Aged P} → FitChannel (kind none is_none) c → j < c.count
      → moved ≡ copy_within c.packets from (length c.packets) j → from ≡ j + 1 → z ≡ (kind none is_none).new none → count ≡ c.count - 1
      → record { setup = c.setup; packets = set moved 31 z; count = count } ≡ removed (kind none is_none) j c
  removed_by_moves f h m a e n =
      let K = kind none is_none in
      let k = length_packets K c f in
      let g = closed_by_moves (K.new none) c.packets 31 j k (omega (arith, f.few)) in
      rw (m, a, k, e, n, g, packets_removed K c f j h, length_removed K c f j h)

-- ---- the test of a channel: that of its packets, and that of the places past them
module _ {H P C : Type 0} (K : Kind H P C) (right : P → Bool) (c : C) where
  pub formed_by_parts : {held rest : List P} {a b : Bool} → K.count c ≤ 32 → held ≡ take (K.count c) (K.packets c)
      → rest ≡ drop (K.count c) (K.packets c) → a ≡ every right held → b ≡ every K.is_nothing rest → a && b ≡ formed_channel K right c
  unfolding formed_channel ◌also◌
  formed_by_parts h d e p q = rw (p, q, d, e, le-leb (K.count c) 32 h)

-- the test of every element, by std's word
pub every_is_all : {A : Type 0} (f : A → Bool) (l : List A) → list_all f l ≡ every f l
unfolding every ◌also◌
every_is_all f [] = refl
every_is_all f (x ∷ l) = ap (λ (b : Bool). f x also b) (every_is_all f l)
