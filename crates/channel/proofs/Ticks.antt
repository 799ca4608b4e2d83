-- The loop of `tick`: what it holds after each packet, kept by a turn.
use Rattle.std.proofs.Common.{◌≡◌, ℕ, ◌+◌, ◌≤◌, ◌<◌, Bool, List, ap, ◌∙◌, length, take, get_or, arith, add-one}
use Rattle.std.proofs.Math.ListN.{set}
use Rattle.std.proofs.lemmas.List.{get_or_read}
use Rattle.rules.specs.declared.Aged.{Aged}
use Rattle.rules.specs.declared.Channel.{Channel}
use Rattle.rules.specs.Rows.{row, aged}
use Rattle.rules.specs.Parts.{kind, live}
use Rattle.rules.specs.Fit.{FitChannel}
use Rattle.rules.proofs.Channels.{length_live}
use Rattle.rules.proofs.Rows.{turn_kept, turn_gone}

module _ {P : Type 0} (none : P) (is_none : P → Bool) (old : Channel P) where
  -- what the first i packets become
  abbrev left : ℕ → List (Aged P)
  left i = aged (kind none is_none).age (kind none is_none).older old.setup.life (take i (live (kind none is_none) old))

  -- `now` holds what the first i packets become
  pub record Ticked (now : Channel P) (i : ℕ) : Type 0 where
    pub setup : now.setup ≡ old.setup
    pub few : now.count ≤ i
    pub packets : now.packets ≡ row ((kind none is_none).new none) (left i)
    pub count : now.count ≡ length (left i)

  -- a turn at the packet q of place i, which grows older and is kept, or is gone
  module _ (f : FitChannel (kind none is_none) old) (now : Channel P) (i : ℕ) (t : Ticked now i) (lt : i < old.count)
      (q : Aged P) (at : q ≡ get_or (live (kind none is_none) old) i q) where
    size : length (live (kind none is_none) old) ≡ old.count
    size = length_live (kind none is_none) old f

    read : q ≡ get_or (live (kind none is_none) old) i ((kind none is_none).new none)
    read = get_or_read (live (kind none is_none) old) i q (omega (arith, size)) at ((kind none is_none).new none)

    pub ticked_kept : {next : Channel P} {age count : ℕ} → q.age < old.setup.life
        → next ≡ record { setup = now.setup; packets = set now.packets now.count (record { packet = q.packet; age = age }); count = count }
        → age ≡ q.age + 1 → count ≡ now.count + 1 → Ticked next (i + 1)
    ticked_kept h e a n =
        let K = kind none is_none in
        let r =
        turn_kept (K.new none) K.age K.older old.setup.life (live K old) i (omega (arith, size)) now.count now.packets t.few
        (omega (arith, f.few)) t.packets t.count (rw read at h) (rw (a, add-one) (ap K.older read))
        (ap (λ (c : Channel P). c.packets) e) (ap (λ (c : Channel P). c.count) e ∙ n) in
        record { setup = ap (λ (c : Channel P). c.setup) e ∙ t.setup; few = r.0; packets = r.1; count = r.2 }

    pub ticked_gone : {next : Channel P} → old.setup.life ≤ q.age → next ≡ now → Ticked next (i + 1)
    ticked_gone h e =
        let K = kind none is_none in
        let r =
        turn_gone (K.new none) K.age K.older old.setup.life (live K old) i (omega (arith, size)) now.count now.packets t.few
        (omega (arith, f.few)) t.packets t.count (rw read at h) (ap (λ (c : Channel P). c.packets) e)
        (ap (λ (c : Channel P). c.count) e) in
        record { setup = ap (λ (c : Channel P). c.setup) e ∙ t.setup; few = r.0; packets = r.1; count = r.2 }
