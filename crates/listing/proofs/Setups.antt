-- The setup lines: as pieces of the script and as a walk over it; and the judgement.
use Rattle.std.specs.Prelude.{◌≡◌, ℕ, zero, suc, ◌+◌, ◌-◌, ◌^◌, ◌<◌, ◌≤◌, Bool, true, false, cond, nat_eq, nat_lt, List, [], ◌∷◌, ◌++◌, length, take, drop, set, Option, Some, None, Result, Ok, Err, MatchResult}
use Rattle.std.proofs.Common.{refl, ap, sym, ◌∙◌, arith, add-one, eq-eqb, ne_eqb, eqb-true, lt-ltb, le-ltb, ltb-true, take-suc-set, take_all}
use Rattle.std.specs.Bool.{then_some}
use Rattle.std.proofs.lemmas.Option.{same_Some}
use Rattle.std.proofs.lemmas.Bool.{false≢true, eqb-false, and_left, and_right, and_from}
use Rattle.rules.specs.declared.Setup.{Setup}
use Rattle.rules.specs.declared.Bench.{Bench}
use Rattle.rules.specs.declared.Refusal.{Refusal}
use Rattle.rules.specs.declared.Refusal.TheVariants.{NotAdmitted}
use Rattle.rules.specs.declared.Refused.{Refused}
use Rattle.rules.specs.Numbers.{wrapped}
use Rattle.rules.specs.Refusals.{number}
use Rattle.rules.specs.Setups.{◌also◌, admitted, zero_setup}
use Rattle.rules.specs.Parts.{fresh_bench}
use Rattle.rules.specs.Events.{done, refused}
use Rattle.rules.specs.Operations.{begun, returned}
use Rattle.rules.proofs.Tests.{both, true_also}
use Rattle.reader.specs.Cuts.{Index, split, is_none}
use Rattle.reader.specs.Values.{on_value}
use Rattle.reader.specs.Lines.{setup_value}
use Rattle.reader.proofs.Cuts.{split_at, split_end, split_some, index_at}
use Rattle.listing.specs.declared.inner.Step.TheVariants.{Over}
use Rattle.listing.specs.declared.inner.begin.SetupLines.{SetupLines}
use Rattle.listing.specs.declared.inner.begin.BadLine.{BadLine}
use Rattle.listing.specs.Listing.{bad_line, bad_input, setup_line, events_from, setup_of, in_fields, judged, setup_from, lines}
use Rattle.listing.specs.Run.{Next, last, step_of, IfMore, end_of, piece, fitting, opened, nowhere, judged_at, open_from, first, Ready, SetFirst, settled, SetupRead, rest}
use Rattle.listing.proofs.Steps.{if_then, rest_of, then, rest_more}

-- ---- two tests in one
module _ (a b : Bool) where
  pub also_left : a ≡ false → a also b ≡ false
  unfolding ◌also◌
  also_left e = and_left a b e

  pub also_right : b ≡ false → a also b ≡ false
  unfolding ◌also◌
  also_right e = and_right a b e

  pub also_from : a ≡ true → b ≡ true → a also b ≡ true
  unfolding ◌also◌
  also_from e f = and_from a b e f

-- ---- the judgement
then_none : {A : Type 0} (q : Bool) (x : A) → None ≡ then_some q x → q ≡ false
then_none true x e = cc
then_none false x e = refl

then_is : {A : Type 0} (q : Bool) (x y : A) → Some y ≡ then_some q x → (q ≡ true) × (x ≡ y)
then_is true x y e = (refl, same_Some x y (sym e))
then_is false x y e = cc

module _ (S : Setup) where
  pub too_large : None ≡ fitting S → Err NotAdmitted ≡ opened S
  too_large e = rw (also_left (in_fields S) (admitted S) (then_none _ _ e))

  -- what `fresh` gives, with the refusal alone
  by_fresh :
      (q : Bool) (g : Result Bench (Refused Bench)) (r : Result Bench Refusal)
      → g ≡ returned (cond q (done (fresh_bench S)) (refused (fresh_bench zero_setup) 1))
      → MatchResult g (λ b. r ≡ Ok b) (λ e. r ≡ Err e.why) → r ≡ cond q (Ok (fresh_bench S)) (Err NotAdmitted)
  by_fresh true g r h m = rw h at m
  by_fresh false g r h m = rw h at m

  pub judged_fresh :
      (T : Setup) (g : Result Bench (Refused Bench)) (r : Result Bench Refusal) → Some T ≡ fitting S
      → g ≡ returned (begun fresh_bench T) → MatchResult g (λ b. r ≡ Ok b) (λ e. r ≡ Err e.why) → r ≡ opened S
  judged_fresh T g r f h m =
      let t = then_is _ _ T f in
      let q : in_fields S also admitted S ≡ admitted S = rw t.0 (true_also (admitted S)) in
      rw q (by_fresh (admitted S) g r (rw t.1 h) m)

-- each number fits its field
pub record Fit (S : Setup) : Type 0 where
  pub window : S.window < 2 ^ 32
  pub seqbits : S.seqbits < 2 ^ 32
  pub clockbits : S.clockbits < 2 ^ 32
  pub life : S.life < 2 ^ 32
  pub rate : S.rate < 2 ^ 32
  pub seq : S.seq < 2 ^ 32
  pub sclock : S.sclock < 2 ^ 32
  pub rclock : S.rclock < 2 ^ 32

-- it does in a setup that passes the test
pub fields_fit : (S : Setup) → in_fields S ≡ true → Fit S
unfolding in_fields
fields_fit S e = grind (arith, both)

-- ---- reading the lines one by one
module _ (s : List ℕ) (k n at : ℕ) (vs : List ℕ) where
  pub open_cut : Index 10 s at (length s) → open_from (suc k) n at vs s ≡ last nowhere (bad_line n)
  unfolding open_from
  open_cut i = rw (← i.is, eq-eqb (length s) (length s) refl)

  module _ (e : ℕ) (i : Index 10 s at e) (h : e < length s) where
    other : e ≡ length s → ⊥
    other q = omega arith

    pub open_bad : setup_value n (take (e - at) (drop at s)) ≡ None → open_from (suc k) n at vs s ≡ last nowhere (bad_line n)
    unfolding open_from
    open_bad v = rw (← i.is, ne_eqb e (length s) other, v)

    pub open_good :
        (x : ℕ) → setup_value n (take (e - at) (drop at s)) ≡ Some x
        → open_from (suc k) n at vs s ≡ open_from k (n + 1) (e + 1) (vs ++ x ∷ []) s
    unfolding open_from
    open_good x v = rw (← i.is, ne_eqb e (length s) other, v)

pub open_done :
    (s values : List ℕ) (i n at : ℕ) → i ≡ 8 → length values ≡ 8
    → open_from (8 - i) n at (take i values) s ≡ settled s (Ok (record { values = values; end = at }))
unfolding open_from
open_done s values i n at e l = rw (e, take_all 8 values (omega arith))

-- a value stored after those before it
pub one_more : (l : List ℕ) (i x : ℕ) → i < length l → take i l ++ x ∷ [] ≡ take (i + 1) (set l i x)
one_more l i x h = rw (add-one i) (sym (take-suc-set l i x h))

-- ---- the listing is the first line and what is left after it
events_more :
    (S : Setup) (at : ℕ) (s : List ℕ)
    → events_from wrapped (fresh_bench S) 9 1 (split 10 (drop at s))
    ≡ rest_of s (step_of (nat_lt at (length s)) (record { at = at; line = 9; event = 1; bench = fresh_bench S }))
unfolding rest
events_more S at s = rest_more s (record { at = at; line = 9; event = 1; bench = fresh_bench S })

judged_by : (S : Setup) (at : ℕ) (s : List ℕ) (q : Bool) → in_fields S also admitted S ≡ q
    → judged wrapped S (split 10 (drop at s)) ≡ then s (judged_at S at s)
unfolding judged judged_at
judged_by S at s true e = rw e (ap (λ (ls : List (List ℕ)). setup_line 0 ∷ ls) (events_more S at s))
judged_by S at s false e = rw e

at_nine : (vs : List ℕ) (ps : List (List ℕ)) → is_none ps ≡ false → setup_from wrapped 9 vs ps ≡ judged wrapped (setup_of vs) ps
unfolding setup_from
at_nine vs [] h = absurd (false≢true (sym h))
at_nine vs (p ∷ ps) h = refl

module _ (s : List ℕ) (k n at : ℕ) (vs : List ℕ) (h : at ≤ length s) (m : n ≡ 9 → ⊥) where
  here : Index 10 s at (end_of s at)
  here = index_at 10 s at h

  setup_cut : end_of s at ≡ length s → setup_from wrapped n vs (split 10 (drop at s)) ≡ bad_line n ∷ []
  unfolding setup_from
  setup_cut e = rw (split_end 10 s at _ here e, ne_eqb n 9 m)

  setup_on : (end_of s at ≡ length s → ⊥)
      → setup_from wrapped n vs (split 10 (drop at s))
      ≡ on_value (setup_value n (piece s at)) (bad_line n ∷ [])
      (λ v. setup_from wrapped (n + 1) (vs ++ v ∷ []) (split 10 (drop (end_of s at + 1) s)))
  unfolding setup_from
  setup_on d =
      let l : end_of s at < length s = omega (arith, here.within) in
      rw (split_at 10 s at _ here l, ne_eqb n 9 m, split_some 10 (drop (end_of s at + 1) s))

  -- what the lines after this one give
  abbrev After : Type 0
  After =
      end_of s at + 1 ≤ length s → (x : ℕ)
      → setup_from wrapped (n + 1) (vs ++ x ∷ []) (split 10 (drop (end_of s at + 1) s))
      ≡ then s (open_from k (n + 1) (end_of s at + 1) (vs ++ x ∷ []) s)

  open_value : (v : Option ℕ) → (end_of s at ≡ length s → ⊥) → setup_value n (piece s at) ≡ v → After
      → setup_from wrapped n vs (split 10 (drop at s)) ≡ then s (open_from (suc k) n at vs s)
  open_value (Some x) d e r =
      let l : end_of s at < length s = omega (arith, here.within) in
      setup_on d ∙ rw (e, open_good s k n at vs _ here l x e) (r (omega arith) x)
  open_value None d e r =
      let l : end_of s at < length s = omega (arith, here.within) in
      setup_on d ∙ rw (e, open_bad s k n at vs _ here l e)

  open_end : (q : Bool) → nat_eq (end_of s at) (length s) ≡ q → After
      → setup_from wrapped n vs (split 10 (drop at s)) ≡ then s (open_from (suc k) n at vs s)
  open_end true e r =
      let f = eqb-true (end_of s at) (length s) e in
      setup_cut f ∙ rw (open_cut s k n at vs (rw f at here))
  open_end false e r = open_value (setup_value n (piece s at)) (eqb-false (end_of s at) (length s) e) refl r

opens : (k n at : ℕ) (vs s : List ℕ) → n + k ≡ 9 → at ≤ length s → setup_from wrapped n vs (split 10 (drop at s)) ≡ then s (open_from k n at vs s)
unfolding open_from
opens zero n at vs s e h =
    let f : n ≡ 9 = omega arith in
    rw f
    (at_nine vs (split 10 (drop at s)) (split_some 10 (drop at s))
    ∙ judged_by (setup_of vs) at s (in_fields (setup_of vs) also admitted (setup_of vs)) refl)
opens (suc k) n at vs s e h =
    open_end s k n at vs h (λ f. omega arith) (nat_eq (end_of s at) (length s)) refl
    (λ l x. opens k (n + 1) (end_of s at + 1) (vs ++ x ∷ []) s (omega arith) l)

first_by : (s : List ℕ) (q : Bool) → nat_lt 65536 (length s) ≡ q → lines wrapped s ≡ then s (first s)
unfolding lines first
first_by s true e = rw e
first_by s false e = rw e (opens 8 1 0 [] s refl (omega arith))

pub first_lines : (s : List ℕ) → lines wrapped s ≡ then s (first s)
first_lines s = first_by s (nat_lt 65536 (length s)) refl

-- ---- a run that begins has a line to begin with
abbrev Within : List ℕ → Next → Type 0
Within s n = IfMore (step_of n.more n.run) (λ run. run.at < length s)

within_judged : (S : Setup) (at : ℕ) (s : List ℕ) (q : Bool) → in_fields S also admitted S ≡ q → Within s (judged_at S at s)
unfolding judged_at
within_judged S at s true e = rw e (if_then _ _ _ (λ m. ltb-true at (length s) m))
within_judged S at s false e = rw e tt

within_by : (s : List ℕ) (n : ℕ) (q : Bool) (v : Option ℕ) (go : ℕ → Next) → ((x : ℕ) → Within s (go x))
    → Within s (cond q (last nowhere (bad_line n)) (on_value v (last nowhere (bad_line n)) go))
within_by s n true v go h = tt
within_by s n false (Some x) go h = h x
within_by s n false None go h = tt

within_open : (k n at : ℕ) (vs s : List ℕ) → Within s (open_from k n at vs s)
unfolding open_from
within_open zero n at vs s = within_judged (setup_of vs) at s (in_fields (setup_of vs) also admitted (setup_of vs)) refl
within_open (suc k) n at vs s =
    within_by s n (nat_eq (end_of s at) (length s)) (setup_value n (piece s at))
    (λ v. open_from k (n + 1) (end_of s at + 1) (vs ++ v ∷ []) s)
    (λ x. within_open k (n + 1) (end_of s at + 1) (vs ++ x ∷ []) s)

within_first : (s : List ℕ) (q : Bool) → nat_lt 65536 (length s) ≡ q → Within s (first s)
unfolding first
within_first s true e = rw e tt
within_first s false e = rw e (within_open 8 1 0 [] s)

pub first_within : (s : List ℕ) → IfMore (step_of (first s).more (first s).run) (λ run. run.at < length s)
first_within s = within_first s (nat_lt 65536 (length s)) refl

-- ---- the cases of the first line
refused_by : (q : Bool) (b : Bench) (why : Refusal) → Err why ≡ cond q (Ok b) (Err NotAdmitted) → (q ≡ false) × (number why ≡ 1)
refused_by true b why e = absurd (cc)
refused_by false b why e = (refl, grind arith)

taken_by : (q : Bool) (b c : Bench) → Ok c ≡ cond q (Ok b) (Err NotAdmitted) → (q ≡ true) × (b ≡ c)
taken_by true b c e = (refl, cc)
taken_by false b c e = absurd (cc)

module _ (s : List ℕ) where
  pub first_long : 65536 < length s → first s ≡ last nowhere bad_input
  unfolding first
  first_long h = rw (lt-ltb 65536 (length s) h)

  module _ (h : length s ≤ 65536) where
    first_settled : (r : Result SetupLines BadLine) → SetupRead s r → first s ≡ settled s r
    unfolding first
    first_settled r i = rw (le-ltb 65536 (length s) h) i.is

    pub first_bad : (b : BadLine) → SetupRead s (Err b) → first s ≡ last nowhere (bad_line b.number)
    first_bad b i = first_settled (Err b) i

    module _ (l : SetupLines) (i : SetupRead s (Ok l)) where
      pub first_refused : (why : Refusal) → Err why ≡ opened (setup_of l.values) → first s ≡ last nowhere (setup_line (number why))
      unfolding judged_at
      first_refused why e = let t = refused_by _ _ why e in first_settled (Ok l) i ∙ rw (t.0, t.1)

      first_on : (b : Bench) → Ok b ≡ opened (setup_of l.values) → first s
          ≡ record {
            line = setup_line 0;
            more = nat_lt l.end (length s);
            run = record { at = l.end; line = 9; event = 1; bench = b };
          }
      unfolding judged_at
      first_on b e = let t = taken_by _ _ b e in first_settled (Ok l) i ∙ rw (t.0, t.1)

      pub set_first_on :
          (line : List ℕ) (b : Bench) → Ok b ≡ opened (setup_of l.values) → line ≡ setup_line 0
          → SetFirst s line (step_of (nat_lt l.end (length s)) (record { at = l.end; line = 9; event = 1; bench = b }))
      set_first_on line b e p =
          let f = first_on b e in
          record {
            text = rw f p;
            then = rw f;
            ready = if_then _ _ (Ready s)
                (λ m. record {
                  within = ltb-true _ _ m;
                  short = h;
                  lines = omega (arith, i.place.0);
                  events = omega (arith, i.place.0);
                });
          }

  pub set_first_last : (line : List ℕ) → first s ≡ last nowhere line → SetFirst s line (Over nowhere)
  set_first_last line e = record { text = rw e; then = rw e; ready = tt }
