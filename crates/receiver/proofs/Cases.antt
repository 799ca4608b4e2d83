-- The cases of the receiver's rules: one law for each answer. And how a packet's arrival comes out, which is what `data` is proved
-- by: it is refused, or it is let in and stored.
use Rattle.std.specs.Prelude.{◌≡◌, ◌≢◌, ℕ, ◌+◌, ◌%◌, ◌<◌, ◌≤◌, Bool, true, false, List, set, Result, Ok, Err}
use mathlib.Core.Path.{refl}
use native.Mathlib.Decide.{dec_lt}
use native.Mathlib.Omega.{arith}
use borrow.Author.Tests.{lt-ltb, le-ltb, le-leb, lt-leb, ne_eqb}
use Rattle.rules.specs.declared.Receiver.{Receiver}
use Rattle.rules.specs.declared.BareData.{BareData}
use Rattle.rules.specs.declared.Refusal.{Refusal}
use Rattle.rules.specs.Numbers.{NS, NC, dist, wrapped}
use Rattle.rules.specs.Marks.{marked, mark}
use Rattle.rules.specs.Fit.{FitReceiver, FitData}
use Rattle.rules.specs.Events.{Out, refused, done, passed, older, may_arrive, deliver, advanced, stored, arriving, opening, ticked_receiver}
use Rattle.rules.specs.Operations.{answered, Counts}
use Rattle.rules.proofs.Deliveries.{within_here, dist_same, dist_other}

-- ---- room and tick
module _ (r : Receiver) where
  -- 13 where the window is RW
  pub full : r.setup.window ≤ r.window → refused r 13 ≡ opening r.setup r
  full l = grind arith

  -- else it grows by 1
  pub opens : r.window < r.setup.window
      → done (record
      { setup = r.setup; nxt = r.nxt; window = r.window + 1; clock = r.clock; recent = r.recent; slots = r.slots; marks = r.marks })
      ≡ opening r.setup r
  opens l = grind arith

  -- the clock moves by 1 round its range, and recent becomes one older
  pub ticks : record {
    setup = r.setup;
    nxt = r.nxt;
    window = r.window;
    clock = (r.clock + 1) % NC r.setup;
    recent = older r.setup.life r.recent;
    slots = r.slots;
    marks = r.marks;
  }
      ≡ ticked_receiver (wrapped r.setup) r.setup r
  ticks = grind arith

-- ---- data arriving
-- what a test tells by its number
abbrev told : ℕ → Result (Unit {0}) Refusal
told n = answered n tt

module _ (r : Receiver) (p : BareData) where
  -- how far ahead of nxt the packet is
  abbrev o : ℕ
  o = dist (NS r.setup) p.seq r.nxt

  -- the number of the refusal, or 0
  abbrev verdict : ℕ
  verdict = may_arrive (wrapped r.setup) r.setup p r (λ (n : ℕ). n) (λ (o : ℕ). 0)

  -- 9 where it is stale
  pub stale : passed (wrapped r.setup) r.recent p.stamp ≡ false → 9 ≡ verdict
  stale e = grind arith

  module _ {d : ℕ} (fresh : passed (wrapped r.setup) r.recent p.stamp ≡ true) (off : d ≡ o) where
    -- 10 where it is behind nxt
    pub behind : r.setup.window ≤ d → 10 ≡ verdict
    behind l = grind arith

    module _ (near : d < r.setup.window) where
      -- 11 where it is beyond the window
      pub beyond : r.window ≤ d → 11 ≡ verdict
      beyond l = grind arith

      module _ (room : d < r.window) where
        -- 12 where it is already stored
        pub twice : marked r.marks (p.seq % r.setup.window) ≡ true → 12 ≡ verdict
        twice m = grind arith

        -- else it goes on
        pub goes : marked r.marks (p.seq % r.setup.window) ≡ false → 0 ≡ verdict
        goes m = grind arith

  -- the event
  abbrev arrived : Out Receiver
  arrived = arriving (wrapped r.setup) r.setup p r

  -- what a verdict says of the event: it is refused with that number; or it goes on, and o is below the window
  data Verdict : ℕ → Out Receiver → Type 0 where
    turned_away : (n : ℕ) → (n ≡ 0 → ⊥) → Verdict n (refused r n)
    let_in : o < r.window → Verdict 0 (stored (wrapped r.setup) r.setup p r o)

  view : Verdict verdict arrived
  view =
      by (passed (wrapped r.setup) r.recent p.stamp) refl (dec_lt o r.setup.window) (dec_lt o r.window)
      (marked r.marks (p.seq % r.setup.window)) refl
    where
      by : (a : Bool) → passed (wrapped r.setup) r.recent p.stamp ≡ a → Dec (o < r.setup.window) → Dec (o < r.window)
          → (b : Bool) → marked r.marks (p.seq % r.setup.window) ≡ b → Verdict verdict arrived
      by false e n w b m = rw e (turned_away 9 (λ z. omega arith))
      by true e (no n) w b m = rw (e, le-ltb o r.setup.window (omega arith)) (turned_away 10 (λ z. omega arith))
      by true e (yes n) (no w) b m = rw (e, lt-ltb _ _ n, le-leb r.window o (omega arith)) (turned_away 11 (λ z. omega arith))
      by true e (yes n) (yes w) true m = rw (e, lt-ltb _ _ n, lt-leb _ _ w, m) (turned_away 12 (λ z. omega arith))
      by true e (yes n) (yes w) false m = rw (e, lt-ltb _ _ n, lt-leb _ _ w, m) (let_in w)

  -- what was told says which
  refusal : {n : ℕ} {x : Out Receiver} {e : Refusal} {row : List ℕ} → Verdict n x → Err e ≡ told n → Counts x (Err e) r row row
  refusal (turned_away n ne) is = let q = rw (ne_eqb n 0 ne) at is in record { gives = rw (ne_eqb n 0 ne) (cc); leaves = refl; lent = refl }
  refusal (let_in l) is = let no : ⊥ = cc in absurd no

  going : {n : ℕ} {x : Out Receiver} → Verdict n x → Ok tt ≡ told n → (x ≡ stored (wrapped r.setup) r.setup p r o) × (o < r.window)
  going (turned_away n ne) is = let q = rw (ne_eqb n 0 ne) at is in let no : ⊥ = cc in absurd no
  going (let_in l) is = (refl, l)

  pub refuses : {e : Refusal} {row : List ℕ} → Err e ≡ told verdict → Counts arrived (Err e) r row row
  refuses = refusal view

  -- the receiver with the packet stored and marked
  abbrev kept : Receiver
  kept = record {
    setup = r.setup;
    nxt = r.nxt;
    window = r.window;
    clock = r.clock;
    recent = r.recent;
    slots = set r.slots (p.seq % r.setup.window) p.unit;
    marks = mark r.marks (p.seq % r.setup.window);
  }

  module _ (go : Ok tt ≡ told verdict) (fit : FitReceiver r) (right : FitData r.setup p) where
    goes_on : (arrived ≡ stored (wrapped r.setup) r.setup p r o) × (o < r.window)
    goes_on = going view go

    pub keeps : {row : List ℕ} → p.seq ≢ r.nxt → Counts arrived (Ok 0) kept row row
    keeps ne = rw (goes_on.0, ne_eqb o 0 (dist_other _ _ _ right.seq fit.nxt ne)) (record { gives = refl; leaves = refl; lent = refl })

    module _ (next : p.seq ≡ r.nxt) where
      here : o ≡ 0
      here = dist_same _ _ _ right.seq next

      -- it is fit for a delivery
      pub ready : FitReceiver kept
      ready =
          let room : 0 < r.window = omega (arith, goes_on.1, here) in
          record {
            setup = fit.setup;
            nxt = fit.nxt;
            window = fit.window;
            clock = fit.clock;
            recent = fit.recent;
            marks = rw next (within_here fit.setup.some room fit.marks);
          }

      -- and what that delivers is what the event gives
      pub delivers : {k : ℕ} {x : Receiver} {row out : List ℕ}
          → Counts (advanced (wrapped r.setup) r.setup p.stamp kept
          (deliver (wrapped r.setup).seq r.setup.window r.setup.window r.nxt kept.slots kept.marks)) (Ok k) x row out
          → Counts arrived (Ok k) x row out
      delivers d = rw (goes_on.0, here) (record { gives = d.gives; leaves = d.leaves; lent = d.lent })
