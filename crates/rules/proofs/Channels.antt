-- What the code does to a channel's array and count, as the rules' list of packets: over either channel, where it is not malformed.
use mathlib.Core.Path.{◌≡◌, ap, sym, ◌∙◌}
use mathlib.Core.Bool.{Bool, true, false}
use mathlib.Core.List.{List, [], ◌∷◌, ◌++◌}
use Prim.Native.Nat.{ℕ, ◌+◌, ◌-◌, ◌<◌}
use native.Mathlib.Omega.{arith}
use lib.ListN.{length, get_or, set, length-append, length-take}
use lib.Seq.{length-take-le, get_or-take}
use borrow.Author.Tests.{lt-leb}
use Rattle.rules.specs.declared.Channel.{Channel}
use Rattle.rules.specs.declared.Setup.{Setup}
use Rattle.rules.specs.Setups.{◌also◌}
use Rattle.rules.specs.Rows.{row, remove}
use Rattle.rules.specs.Parts.{Kind, live, kind}
use Rattle.rules.specs.Malformed.{formed_channel, malformed_channel}
use Rattle.rules.specs.Fit.{FitSetup, FitChannel}
use Rattle.rules.specs.Events.{packet_at}
use Rattle.rules.proofs.Tests.{both, passes}
use Rattle.rules.proofs.Rows.{closed, row_added, row_removed, length_row, length_remove}
use Rattle.rules.proofs.Fits.{limits, fit_setup, fit_kind}

-- an empty place
abbrev pub empty : {H P C : Type 0} → Kind H P C → P
empty K = K.new K.nothing

-- ---- a channel that is fit: its array and its count after an operation
module _ {H P C : Type 0} (K : Kind H P C) (c : C) (f : FitChannel K c) where
  -- the array has 32 places, and as many packets as the count says
  pub length_packets : length (K.packets c) ≡ 32
  length_packets =
      ap length f.rest ∙ length_row (empty K) (live K c) (omega (arith, f.few, length-take (K.count c) (K.packets c)))

  pub length_live : length (live K c) ≡ K.count c
  length_live = length-take-le (K.count c) (K.packets c) (omega (arith, f.few, length_packets))

  -- the packet at a place of the array is the packet at that place
  pub found : (j : ℕ) → j < K.count c → get_or (K.packets c) j (empty K) ≡ packet_at K j c
  found j h = grind (arith, get_or-take)

  -- a packet stored at the first empty place
  pub packets_added : (p : P) → K.count c < 32 → set (K.packets c) (K.count c) p ≡ row (empty K) (live K c ++ p ∷ [])
  packets_added p h =
      ap (λ (l : List P). set l (K.count c) p) f.rest
      ∙ ap (λ (n : ℕ). set (row (empty K) (live K c)) n p) (sym length_live)
      ∙ row_added (empty K) (live K c) p (omega (arith, length_live))

  pub length_added : (p : P) → length (live K c ++ p ∷ []) ≡ K.count c + 1
  length_added p = omega (arith, length_live, length-append (live K c) (p ∷ []))

  -- the gap of the packet at j closed
  pub packets_removed : (j : ℕ) → j < K.count c → closed (empty K) (K.packets c) j ≡ row (empty K) (remove j (live K c))
  packets_removed j h =
      ap (λ (l : List P). closed (empty K) l j) f.rest
      ∙ row_removed (empty K) (live K c) j (omega (arith, length_live)) (omega (arith, length_live, f.few))

  pub length_removed : (j : ℕ) → j < K.count c → length (remove j (live K c)) ≡ K.count c - 1
  length_removed j h = omega (arith, length_live, length_remove (empty K) j (live K c) (omega (arith, length_live)))

-- ---- the test of a channel
module _ {H P C : Type 0} (K : Kind H P C) (right : P → Bool) (c : C) where
  pub formed_many : 32 < K.count c → false ≡ formed_channel K right c
  unfolding formed_channel ◌also◌
  formed_many h = rw (lt-leb (K.count c) 32 h)

-- ---- a channel that is not malformed: its setup is admitted, and it is fit. A value of the type has 32 places
module _ {P : Type 0} (none : P) (is_none : P → Bool) (only : (p : P) → is_none p ≡ true → p ≡ none) where
  pub sound_channel : (right : Setup → P → Bool) (c : Channel P) → length c.packets ≡ 32
      → malformed_channel (kind none is_none) right c ≡ false → FitSetup c.setup × FitChannel (kind none is_none) c
  unfolding malformed_channel
  sound_channel right c n e =
      let a = both (passes _ e) in (fit_setup (limits c.setup a.0), fit_kind none is_none only _ c n a.1)
