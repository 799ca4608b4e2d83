-- A script's listing is the one on whole numbers: two benches that answer every list of events alike print alike, and so do the fresh
-- ones.
use Rattle.std.proofs.Common.{◌≡◌, ℕ, ◌+◌, Bool, true, false, cond, List, [], ◌∷◌, ◌++◌, refl, ap, ap₂}
use Rattle.std.specs.Prelude.{Option, None, Some, ◌==◌, nat_lt, length}
use Rattle.rules.specs.declared.Setup.{Setup}
use Rattle.rules.specs.declared.Bench.{Bench}
use Rattle.rules.specs.declared.Event as asked
use Rattle.rules.specs.Numbers.{Arith, wrapped, whole}
use Rattle.rules.specs.Setups.{◌also◌, admitted}
use Rattle.rules.specs.Parts.{fresh_bench}
use Rattle.rules.specs.Events.{Event}
use Rattle.rules.specs.Operations.{step}
use Rattle.rules.specs.Runs.{Said, said, run}
use Rattle.rules.proofs.Agreement.Theorem.{agreement}
use Rattle.reader.specs.Cuts.{is_none, split}
use Rattle.reader.specs.Values.{on_value}
use Rattle.reader.specs.Lines.{line_of, setup_value}
use Rattle.writer.specs.Lines.{event_line}
use Rattle.listing.specs.Listing.{bad_input, bad_line, setup_line, unfinished, outcome, events_from, in_fields, setup_of, judged, setup_from, lines, joined, listing}
use Rattle.listing.specs.Agreement.{ListingsAgree}

-- ---- a bench on wrapped numbers and one on whole numbers that answer alike
abbrev Alike : Bench → Bench → Type 0
Alike b c = (es : List Event) → run wrapped es b ≡ run whole es c

said_alike : (b c : Bench) → Alike b c → (e : Event) → said (step wrapped e b) ≡ said (step whole e c)
unfolding run
said_alike b c h e = let z = h (e ∷ []) in cc

next_alike : (b c : Bench) → Alike b c → (e : Event) → Alike (step wrapped e b).state (step whole e c).state
unfolding run
next_alike b c h e es = let z = h (e ∷ es) in cc

-- ---- the lines
abbrev after : (Setup → Arith) → Bench → ℕ → ℕ → List (List ℕ) → asked.Event → List (List ℕ)
after A b l e ps ev = events_from A (outcome A b ev).state (l + 1) (e + 1) ps

events_alike : (b c : Bench) → Alike b c → (l e : ℕ) (ps : List (List ℕ)) → events_from wrapped b l e ps ≡ events_from whole c l e ps
unfolding events_from
events_alike b c h l e [] = refl
events_alike b c h l e (p ∷ ps) =
    ap (cond (is_none ps) (unfinished l p))
    (go (line_of p) (λ ev. events_alike (outcome wrapped b ev).state (outcome whole c ev).state (next_alike b c h _) (l + 1) (e + 1) ps))
  where
    go : (v : Option asked.Event) → ((ev : asked.Event) → after wrapped b l e ps ev ≡ after whole c l e ps ev)
        → on_value v (bad_line l ∷ []) (λ ev. event_line e (outcome wrapped b ev).answer (outcome wrapped b ev).units ∷ after wrapped b l e ps ev)
        ≡ on_value v (bad_line l ∷ []) (λ ev. event_line e (outcome whole c ev).answer (outcome whole c ev).units ∷ after whole c l e ps ev)
    go None rest = refl
    go (Some ev) rest = ap₂ ◌∷◌ (ap (λ (a : Said). event_line e a.answer a.units) (said_alike b c h _)) (rest ev)

judged_alike : (S : Setup) (ps : List (List ℕ)) → judged wrapped S ps ≡ judged whole S ps
unfolding judged ◌also◌
judged_alike S ps = go (in_fields S) (admitted S) refl
  where
    go : (f a : Bool) → admitted S ≡ a
        → cond (f also a) (setup_line 0 ∷ events_from wrapped (fresh_bench S) 9 1 ps) (setup_line 1 ∷ [])
        ≡ cond (f also a) (setup_line 0 ∷ events_from whole (fresh_bench S) 9 1 ps) (setup_line 1 ∷ [])
    go false a e = refl
    go true false e = refl
    go true true e = ap (setup_line 0 ∷◌) (events_alike (fresh_bench S) (fresh_bench S) (λ es. (agreement S e es).answers) 9 1 ps)

abbrev then : (Setup → Arith) → ℕ → List ℕ → List (List ℕ) → ℕ → List (List ℕ)
then A n vs ps x = setup_from A (n + 1) (vs ++ x ∷ []) ps

setup_alike : (n : ℕ) (vs : List ℕ) (ps : List (List ℕ)) → setup_from wrapped n vs ps ≡ setup_from whole n vs ps
unfolding setup_from
setup_alike n vs [] = refl
setup_alike n vs (p ∷ ps) =
    ap₂ (cond (n == 9)) (judged_alike (setup_of vs) (p ∷ ps))
    (ap (cond (is_none ps) (bad_line n ∷ [])) (go (setup_value n p) (λ x. setup_alike (n + 1) (vs ++ x ∷ []) ps)))
  where
    go : (v : Option ℕ) → ((x : ℕ) → then wrapped n vs ps x ≡ then whole n vs ps x)
        → on_value v (bad_line n ∷ []) (then wrapped n vs ps) ≡ on_value v (bad_line n ∷ []) (then whole n vs ps)
    go None rest = refl
    go (Some x) rest = rest x

pub listings_agree : ListingsAgree
unfolding listing lines
listings_agree s = ap (λ (ls : List (List ℕ)). joined (cond (nat_lt 65536 (length s)) (bad_input ∷ []) ls)) (setup_alike 1 [] (split 10 s))
