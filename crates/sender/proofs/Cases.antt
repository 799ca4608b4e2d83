-- Laws of the sender: a test of the slots from RW up, read as a list of their own, is the rule's test, which its proofs cite; what a
-- send leaves; and one law for each answer to an acknowledgement.
use Rattle.std.specs.Prelude.{◌≡◌, ℕ, zero, suc, ◌+◌, ◌-◌, ◌<◌, ◌≤◌, Bool, true, false, not, List, length, get_or, take, drop, Decides, refl}
use Rattle.std.proofs.Common.{sym, ◌∙◌, arith}
use Rattle.std.proofs.Math.ListN.{length-take, length-drop}
use Rattle.std.proofs.lemmas.List.{get_or-take, get_or-drop}
use Rattle.std.proofs.lemmas.Bool.{eq-eqb, eqb-true}
use Rattle.std.proofs.lemmas.Bool.Decides.{same_from_decides}
use Rattle.rules.specs.declared.Setup.{Setup}
use Rattle.rules.specs.declared.Sender.{Sender}
use Rattle.rules.specs.declared.BareAck.{BareAck}
use Rattle.rules.specs.Numbers.{NS, dist, Arith, wrapped}
use Rattle.rules.specs.Events.{refused, done, passed, sending, heard, hearing}
use Rattle.rules.specs.Malformed.{all_from, empty_slot}
use Rattle.rules.proofs.Tests.{◌and◌}
use Rattle.rules.proofs.Loops.{all_at}

all_of : (f : ℕ → Bool) (i k : ℕ) → ((x : ℕ) → i ≤ x → x < i + k → f x ≡ true) → all_from f i k ≡ true
unfolding all_from
all_of f i zero h = refl
all_of f i (suc k) h = h i (omega arith) (omega arith) and all_of f (suc i) k (λ x lo hi. h x (omega arith) (omega arith))

module _ (sl : List ℕ) (w : ℕ) (le : w ≤ 64) (n : length sl ≡ 64) where
  abbrev pub above : List ℕ
  above = take (64 - w) (drop w sl)

  at : (k : ℕ) → k < 64 - w → get_or above k 0 ≡ get_or sl (w + k) 0
  at k lt = get_or-take (64 - w) (drop w sl) k 0 lt ∙ get_or-drop w sl k 0

  many : length above ≡ 64 - w
  many = omega (arith, length-take (64 - w) (drop w sl), length-drop w sl)

  pub empty_from : (r : Bool) → Decides r ((k : ℕ) → k < length above → get_or above k 0 ≡ 0) → r ≡ all_from (empty_slot sl) w (64 - w)
  empty_from r h =
      same_from_decides r (all_from (empty_slot sl) w (64 - w)) h (
        λ e k lt. at k (omega (arith, many)) ∙ eqb-true _ 0 (all_at (empty_slot sl) w (64 - w) e (w + k) (omega arith) (omega (arith, many))),
        λ each. all_of (empty_slot sl) w (64 - w)
            (λ x lo hi. let e : w + (x - w) ≡ x = omega arith in rw e at (eq-eqb _ 0 (sym (at (x - w) (omega arith)) ∙ each (x - w) (omega (arith, many))))),
      )

-- ---- a send leaves the sender as it was
pub sending_keeps : (A : Arith) (S : Setup) (k : ℕ) (s : Sender) → (sending A S k s).state ≡ s
sending_keeps A S k s = grind arith

-- ---- an acknowledgement: `passes` is the answer of the timestamp test, and o its number − una
module _ (S : Setup) (p : BareAck) (s : Sender) {passes : Bool} (test : passes ≡ passed (wrapped S) s.recent p.stamp) where
  -- 9 where it is stale
  pub hear_stale : not passes ≡ true → hearing (wrapped S) S p s ≡ refused s 9
  hear_stale e = grind arith

  module _ (e : not passes ≡ false) {o : ℕ} (far : o ≡ dist (NS S) p.ack s.una) where
    -- 10 where its number is behind una
    pub hear_behind : S.window < o → hearing (wrapped S) S p s ≡ refused s 10
    hear_behind h = grind arith

    -- 11 where it is beyond what is outstanding
    pub hear_beyond : o ≤ S.window → s.outstanding < o → hearing (wrapped S) S p s ≡ refused s 11
    hear_beyond w h = grind arith

    -- else it is heard
    pub hear_done : o ≤ S.window → o ≤ s.outstanding → hearing (wrapped S) S p s ≡ done (heard (wrapped S) S p s o)
    hear_done w h = grind arith
