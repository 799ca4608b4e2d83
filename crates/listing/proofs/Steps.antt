-- A step's cases; and what a step writes, with what is left after it, is what was left before it.
use Rattle.std.specs.Prelude.{◌≡◌, ℕ, suc, ◌+◌, ◌-◌, ◌<◌, ◌≤◌, Bool, true, false, nat_eq, nat_lt, List, [], ◌∷◌, length, take, drop, Option, Some, None}
use Rattle.std.proofs.Common.{refl, ap, sym, ◌∙◌, arith, eq-eqb, ne_eqb, eqb-true, ltb-true, ltb-false, length-drop, drop_of_length-le}
use Rattle.std.proofs.lemmas.Bool.{eqb-false}
use Rattle.rules.specs.declared.Event.{Event}
use Rattle.rules.specs.Numbers.{wrapped}
use Rattle.reader.specs.Cuts.{Index, split}
use Rattle.reader.specs.Values.{on_value}
use Rattle.reader.specs.Lines.{line_of}
use Rattle.reader.proofs.Cuts.{split_at, split_end, split_some, index_at}
use Rattle.writer.specs.Lines.{event_line}
use Rattle.listing.specs.declared.inner.Run.{Run}
use Rattle.listing.specs.declared.inner.Step.{Step}
use Rattle.listing.specs.declared.inner.Step.TheVariants.{More, Over}
use Rattle.listing.specs.Listing.{bad_line, outcome, unfinished, events_from}
use Rattle.listing.specs.Run.{Next, last, step_of, IfMore, end_of, piece, went, next, rest, Ready, Stepped}

-- a fact of a run that goes on only if a test passes
pub if_then : (q : Bool) (run : Run) (P : Run → Type 0) → (q ≡ true → P run) → IfMore (step_of q run) P
if_then true run P h = h refl
if_then false run P h = tt

pub IfMore_then : (r : Step) {P Q : Run → Type 0} → IfMore r P → ((run : Run) → P run → Q run) → IfMore r Q
IfMore_then (More run) h f = f run h
IfMore_then (Over run) h f = tt

-- the bytes of the script that are left, which a loop uses up
abbrev pub bytes_left : List ℕ → Step → ℕ
bytes_left s (More run) = suc (length s - run.at)
bytes_left s (Over run) = 0

-- ---- the cases
module _ (s : List ℕ) (run : Run) where
  pub next_cut : end_of s run.at ≡ length s → next s run ≡ last run (bad_line run.line)
  unfolding next
  next_cut h = rw (eq-eqb (end_of s run.at) (length s) h)

  module _ (h : end_of s run.at ≡ length s → ⊥) where
    pub next_bad : line_of (piece s run.at) ≡ None → next s run ≡ last run (bad_line run.line)
    unfolding next
    next_bad k = rw (ne_eqb (end_of s run.at) (length s) h, k)

    pub next_good : (ev : Event) → line_of (piece s run.at) ≡ Some ev → next s run ≡ went s run (outcome wrapped run.bench ev)
    unfolding next
    next_good ev k = rw (ne_eqb (end_of s run.at) (length s) h, k)

  stepped_last : (line : List ℕ) → next s run ≡ last run line → Stepped s run line (Over run)
  stepped_last line e = record { wrote = record { text = rw e; then = rw e; ready = tt }; ahead = tt }

  -- as the code sees them, where the line ends at e
  pub stepped_cut : (line : List ℕ) → Index 10 s run.at (length s) → line ≡ bad_line run.line → Stepped s run line (Over run)
  stepped_cut line i l = rw l (stepped_last _ (next_cut (sym i.is)))

  module _ (e : ℕ) (i : Index 10 s run.at e) (h : e < length s) where
    within : end_of s run.at ≡ length s → ⊥
    within q = omega (arith, i.is)

    pub stepped_bad : (line : List ℕ) → line_of (take (e - run.at) (drop run.at s)) ≡ None → line ≡ bad_line run.line → Stepped s run line (Over run)
    stepped_bad line k l = rw l (stepped_last _ (next_bad within (rw i.is at k)))

    pub stepped_on :
        (line : List ℕ) (ev : Event) → line_of (take (e - run.at) (drop run.at s)) ≡ Some ev
        → line ≡ event_line run.event (outcome wrapped run.bench ev).answer (outcome wrapped run.bench ev).units → Ready s run
        → Stepped s run line
        (step_of (nat_lt (e + 1) (length s)) (record { at = e + 1; line = run.line + 1; event = run.event + 1; bench = (outcome wrapped run.bench ev).state }))
    stepped_on line ev k l r =
        let f = next_good within ev (rw i.is at k) in
        record {
          wrote = record {
            text = rw f l;
            then = rw (f, i.is);
            ready = if_then _ _ (Ready s)
                (λ m. record {
                  within = ltb-true (e + 1) (length s) m;
                  short = r.short;
                  lines = omega (arith, r.lines, i.after);
                  events = omega (arith, r.events, i.after);
                });
          };
          ahead = if_then _ _ (λ then. run.at < then.at) (λ m. omega (arith, i.after));
        }

-- ---- the lines that are left
-- what is left of the listing after a step
abbrev pub rest_of : List ℕ → Step → List (List ℕ)
rest_of s (More run) = rest s run
rest_of s (Over run) = []

-- a line, and the rest after it
abbrev pub then : List ℕ → Next → List (List ℕ)
then s n = n.line ∷ rest_of s (step_of n.more n.run)

pub rest_end : (s : List ℕ) (run : Run) → length s ≤ run.at → rest s run ≡ []
unfolding rest events_from split
rest_end s run h = rw (drop_of_length-le s h)

rest_by : (s : List ℕ) (run : Run) (q : Bool) → nat_lt run.at (length s) ≡ q → rest s run ≡ rest_of s (step_of q run)
rest_by s run true e = refl
rest_by s run false e = rest_end s run (ltb-false _ _ e)

pub rest_more : (s : List ℕ) (run : Run) → rest s run ≡ rest_of s (step_of (nat_lt run.at (length s)) run)
rest_more s run = rest_by s run (nat_lt run.at (length s)) refl

unfinished_some : (l : ℕ) (t : List ℕ) → 0 < length t → unfinished l t ≡ bad_line l ∷ []
unfinished_some l [] h = absurd (omega arith)
unfinished_some l (b ∷ t) h = refl

module _ (s : List ℕ) (run : Run) (h : run.at < length s) where
  here : Index 10 s run.at (end_of s run.at)
  here = index_at 10 s run.at (omega arith)

  at_cut : end_of s run.at ≡ length s → rest s run ≡ bad_line run.line ∷ []
  unfolding rest events_from
  at_cut e =
      rw (split_end 10 s run.at (end_of s run.at) here e)
      (unfinished_some run.line (drop run.at s) (rw length-drop (omega arith)))

  at_line : (end_of s run.at ≡ length s → ⊥) → rest s run
      ≡ on_value (line_of (piece s run.at)) (bad_line run.line ∷ [])
      (λ ev. (went s run (outcome wrapped run.bench ev)).line ∷ rest s (went s run (outcome wrapped run.bench ev)).run)
  unfolding rest events_from
  at_line n =
      let l : end_of s run.at < length s = omega (arith, here.within) in
      rw (split_at 10 s run.at (end_of s run.at) here l, split_some 10 (drop (end_of s run.at + 1) s))

  by_line : (l : Option Event) → (end_of s run.at ≡ length s → ⊥) → line_of (piece s run.at) ≡ l → rest s run ≡ then s (next s run)
  by_line (Some ev) n e =
      let w = went s run (outcome wrapped run.bench ev) in
      at_line n ∙ rw (e, next_good s run n ev e) (ap (λ (ls : List (List ℕ)). w.line ∷ ls) (rest_more s w.run))
  by_line None n e = at_line n ∙ rw (e, next_bad s run n e)

  by_end : (q : Bool) → nat_eq (end_of s run.at) (length s) ≡ q → rest s run ≡ then s (next s run)
  by_end true e = at_cut (eqb-true _ _ e) ∙ rw (next_cut s run (eqb-true _ _ e))
  by_end false e = by_line (line_of (piece s run.at)) (eqb-false _ _ e) refl

  pub rest_step : rest s run ≡ then s (next s run)
  rest_step = by_end (nat_eq (end_of s run.at) (length s)) refl

  -- a step that goes on moves ahead, and has a line to go on with
  abbrev Ahead : Next → Type 0
  Ahead n = IfMore (step_of n.more n.run) (λ then. (run.at < then.at) × (then.at < length s))

  ahead_line : (l : Option Event) → (end_of s run.at ≡ length s → ⊥) → line_of (piece s run.at) ≡ l → Ahead (next s run)
  ahead_line (Some ev) n e = rw (next_good s run n ev e) (if_then _ _ (λ then. (run.at < then.at) × (then.at < length s)) (λ m. (omega arith, ltb-true _ _ m)))
  ahead_line None n e = rw (next_bad s run n e) tt

  ahead_end : (q : Bool) → nat_eq (end_of s run.at) (length s) ≡ q → Ahead (next s run)
  ahead_end true e = rw (next_cut s run (eqb-true _ _ e)) tt
  ahead_end false e = ahead_line (line_of (piece s run.at)) (eqb-false _ _ e) refl

  pub next_ahead : IfMore (step_of (next s run).more (next s run).run) (λ then. (run.at < then.at) × (then.at < length s))
  next_ahead = ahead_end (nat_eq (end_of s run.at) (length s)) refl
