-- One way of the line, data or acknowledgements: how far a packet that passes the timestamp test can lie behind its reader. This is
-- where life and rate bound the numbers in use, and it knows of neither end: a writer's numbers, tick by tick, a packet that shows
-- some of them, and a reader's recent.
-- `f 0` is the number that the writer has come to; `f (suc k)` is what it was at the start of the tick k ticks ago.
use mathlib.Core.Path.{◌≡◌, refl, ap}
use mathlib.Core.Bool.{true}
use Prim.Native.Nat.{ℕ, zero, suc, ◌+◌, ◌-◌, ◌/◌, ◌%◌, ◌≤◌, ◌<◌}
use native.Mathlib.Nat.{zero-add, suc-add, sub-add_cancel}
use native.Mathlib.Decide.{dec_le}
use native.Mathlib.Omega.{arith}
use borrow.Author.Tests.{leb-true, le-leb, lt-leb}
use Rattle.rules.specs.declared.Setup.{Setup}
use Rattle.rules.specs.declared.Recent.{Recent}
use Rattle.rules.specs.Numbers.{whole, wrapped, NC}
use Rattle.rules.specs.Parts.{none, since}
use Rattle.rules.specs.Events.{older, passed}
use Rattle.rules.specs.Agreement.{wrap_recent}
use Rattle.rules.proofs.Wrap.{below_agree}

-- the history falls going back, by at most D for each tick
pub record Falls (D : ℕ) (f : ℕ → ℕ) : Type 0 where
  pub down : (k : ℕ) → f (suc k) ≤ f k
  pub near : (k : ℕ) → f k ≤ f (suc k) + D

-- a packet alive, T the writer's clock: it shows a number x at most W below what the writer had when the packet's tick began, and a
-- number y that the writer had come to
pub record Sent (L W T : ℕ) (f : ℕ → ℕ) (x y stamp age : ℕ) : Type 0 where
  pub young : age ≤ L
  pub dated : stamp + age ≡ T
  pub low : f (suc age) ≤ x + W
  pub high : y ≤ f age

-- what a recent that is held says of the number m that it was set at: the packet that set it is c ticks old
pub record Held (L T : ℕ) (f : ℕ → ℕ) (m stamp age : ℕ) : Type 0 where
  pub c : ℕ
  pub young : age ≤ L
  pub dated : stamp + c ≡ T
  pub before : age ≤ c
  pub after : c ≤ age + L
  pub high : m ≤ f c

pub data Kept (L T : ℕ) (f : ℕ → ℕ) (m : ℕ) : Recent → Type 0 where
  gone : m ≤ f (suc L) → Kept L T f m none
  held : {t a : ℕ} → Held L T f m t a → Kept L T f m (since t a)

-- the history a tick later, and with the writer at v
abbrev pub push : (ℕ → ℕ) → ℕ → ℕ
push f zero = f zero
push f (suc k) = f k

abbrev pub now : ℕ → (ℕ → ℕ) → ℕ → ℕ
now v f zero = v
now v f (suc k) = f (suc k)

module _ {D : ℕ} {f : ℕ → ℕ} (fall : Falls D f) where
  falls : (j i : ℕ) → f (j + i) ≤ f i
  falls zero i = omega (arith, ap f (zero-add i))
  falls (suc j) i = omega (arith, ap f (suc-add j i), fall.down (j + i), falls j i)

  pub falls_mono : {i j : ℕ} → i ≤ j → f j ≤ f i
  falls_mono {i} {j} h = omega (arith, falls (j - i) i, ap f (sub-add_cancel h))

  -- THE DISTANCE: a packet that passes the test shows a number at most W + D below the one that recent was set at
  pub distance : (S : Setup) {L W T m x y stamp age : ℕ} {r : Recent} → Sent L W T f x y stamp age → Kept L T f m r
      → passed (whole S) r stamp ≡ true → m ≤ x + W + D
  distance S {L} {age = age} p (gone h) e = omega (arith, falls_mono {i = suc age} {j = suc L} (omega arith))
  distance S {stamp = stamp} {age = age} p (held {t = t} h) e =
      let le : t ≤ stamp = leb-true t stamp e in
      omega (arith, falls_mono {i = suc age} {j = suc h.c} (omega arith), fall.near h.c)

  -- what a packet shows is not above what the writer has come to
  pub sent_high : {L W T x y stamp age : ℕ} → Sent L W T f x y stamp age → y ≤ f zero
  sent_high {age = age} p = omega (arith, falls_mono {i = 0} {j = age} (omega arith))

  -- ---- a tick
  pub falls_push : Falls D (push f)
  falls_push = record {
    down = λ k. elim k as (λ k. push f (suc k) ≤ push f k) [ zero ↦ omega arith | suc k ↦ fall.down k ];
    near = λ k. elim k as (λ k. push f k ≤ push f (suc k) + D) [ zero ↦ omega arith | suc k ↦ fall.near k ];
  }

  pub kept_push : {L T m : ℕ} {r : Recent} → Kept L T f m r → Kept L (suc T) (push f) m (older L r)
  kept_push {L} (gone h) = gone (omega (arith, fall.down L))
  kept_push {L} {T} {m} (held {t} {a} h) = by (dec_le (suc a) L)
    where
      by : Dec (suc a ≤ L) → Kept L (suc T) (push f) m (older L (since t a))
      by (yes le) = rw (le-leb (suc a) L le) (held {t = t} (record {
        c = suc h.c;
        young = le;
        dated = omega (arith, h.dated);
        before = omega arith;
        after = omega arith;
        high = h.high;
      }))
      by (no gt) = rw (lt-leb (suc a) L (omega arith)) (gone (omega (arith, falls_mono {i = L} {j = h.c} (omega arith))))

pub sent_push : {L W T x y stamp age : ℕ} {f : ℕ → ℕ} → suc age ≤ L → Sent L W T f x y stamp age
    → Sent L W (suc T) (push f) x y stamp (suc age)
sent_push le p = record { young = le; dated = omega arith; low = p.low; high = p.high }

-- ---- the writer goes on to v
above : (v : ℕ) (f : ℕ → ℕ) → f zero ≤ v → (k : ℕ) → f k ≤ now v f k
above v f up zero = up
above v f up (suc k) = omega arith

module _ (v : ℕ) {f : ℕ → ℕ} (up : f zero ≤ v) where
  pub falls_now : {D : ℕ} → v ≤ f (suc zero) + D → Falls D f → Falls D (now v f)
  falls_now {D} n h = record {
    down = λ k. elim k as (λ k. now v f (suc k) ≤ now v f k) [ zero ↦ omega (arith, h.down zero) | suc k ↦ h.down (suc k) ];
    near = λ k. elim k as (λ k. now v f k ≤ now v f (suc k) + D) [ zero ↦ n | suc k ↦ h.near (suc k) ];
  }

  pub sent_now : {L W T x y stamp age : ℕ} → Sent L W T f x y stamp age → Sent L W T (now v f) x y stamp age
  sent_now {age = a} p = record { young = p.young; dated = p.dated; low = p.low; high = omega (arith, above v f up a) }

  pub kept_now : {L T m : ℕ} {r : Recent} → Kept L T f m r → Kept L T (now v f) m r
  kept_now (gone h) = gone h
  kept_now (held h) = held (record {
    c = h.c;
    young = h.young;
    dated = h.dated;
    before = h.before;
    after = h.after;
    high = omega (arith, above v f up h.c);
  })

-- ---- a packet sets recent: m is a number that its writer had come to
pub kept_set : {L W T x y stamp age : ℕ} {f : ℕ → ℕ} {m : ℕ} → Sent L W T f x y stamp age → m ≤ y → Kept L T f m (since stamp 0)
kept_set {age = a} p le = held {a = 0} (record {
  c = a;
  young = omega arith;
  dated = p.dated;
  before = omega arith;
  after = omega arith;
  high = omega arith;
})

-- THE CLOCK'S TEST: with NC / 2 above 2 L, the wrapped test gives the true answer
pub passed_agree : (S : Setup) {W T m x y stamp age : ℕ} {f : ℕ → ℕ} → S.life + S.life < NC S / 2
    → Sent S.life W T f x y stamp age → {r : Recent} → Kept S.life T f m r
    → passed (wrapped S) (wrap_recent S r) (stamp % NC S) ≡ passed (whole S) r stamp
passed_agree S wide p (gone h) = refl
passed_agree S {stamp = stamp} wide p (held {t = t} h) =
    below_agree (NC S) (NC S / 2) stamp t (omega arith) (omega arith) (omega arith)
