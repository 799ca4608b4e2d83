-- The slots of the two ends, by their distance ahead of nxt and una: what each holds, and how storing, delivering, accepting and
-- freeing keep it. `log` says which unit each number has.
use mathlib.Core.Path.{◌≡◌, sym, ◌∙◌, ap}
use mathlib.Core.Bool.{Bool, true, false}
use mathlib.Core.List.{List}
use mathlib.Core.Logic.{◌≢◌}
use Prim.Native.Nat.{ℕ, suc, ◌+◌, ◌%◌, ◌≤◌, ◌<◌}
use native.Mathlib.Nat.{add-mod_right, add-zero, mod-lt}
use native.Mathlib.Decide.{ℕ_discrete, dec_lt}
use native.Mathlib.Omega.{arith}
use lib.ListN.{length, get_or, set, length-set}
use lib.Seq.{get_or-set_other, get_or-set_same}
use Rattle.rules.specs.Marks.{marked, mark, unmark}
use Rattle.rules.specs.Fit.{Within}
use Rattle.rules.proofs.Marks.{marked_same, marked_other, unmarked_other, apart, clash, within_mark, low, next_other, next_gone, within_next}

-- the slots from R up hold nothing
pub record Idle (R : ℕ) (sl : List ℕ) : Type 0 where
  pub size : R ≤ length sl
  pub rest : (i : ℕ) → R ≤ i → i < 64 → get_or sl i 0 ≡ 0

-- the receiver's: a marked slot holds the unit of its number, one below `end`; any other holds nothing
pub record Marks (R : ℕ) (log : ℕ → ℕ) (nxt end w : ℕ) (sl : List ℕ) (mk : ℕ) : Type 0 where
  pub idle : Idle R sl
  pub within : Within R nxt w mk
  pub known : (d : ℕ) → d < R → marked mk ((nxt + d) % R) ≡ true → nxt + d < end
  pub value : (d : ℕ) → d < R → marked mk ((nxt + d) % R) ≡ true → get_or sl ((nxt + d) % R) 0 ≡ log (nxt + d)
  pub empty : (d : ℕ) → d < R → marked mk ((nxt + d) % R) ≡ false → get_or sl ((nxt + d) % R) 0 ≡ 0
  pub unmarked : (i : ℕ) → R ≤ i → i < 64 → marked mk i ≡ false

-- the sender's: the outstanding units, each in its slot; any other slot holds nothing
pub record Stored (R : ℕ) (log : ℕ → ℕ) (una out : ℕ) (sl : List ℕ) : Type 0 where
  pub idle : Idle R sl
  pub value : (d : ℕ) → d < out → get_or sl ((una + d) % R) 0 ≡ log (una + d)
  pub empty : (d : ℕ) → out ≤ d → d < R → get_or sl ((una + d) % R) 0 ≡ 0

-- ---- a slot of the ring is none of those above it
off_ring : (R x i : ℕ) → 0 < R → R ≤ i → i ≢ x % R
off_ring R x i some le e = omega (arith, mod-lt x {m = R} some)

idle_set : {R : ℕ} {sl : List ℕ} → 0 < R → Idle R sl → (x u : ℕ) → Idle R (set sl (x % R) u)
idle_set {R} {sl} some k x u = record {
  size = omega (arith, length-set sl (x % R) u, k.size);
  rest = λ i le lt. get_or-set_other sl (x % R) i u 0 (off_ring R x i some le) ∙ k.rest i le lt;
}

set_same : {R : ℕ} {sl : List ℕ} → 0 < R → Idle R sl → (x u : ℕ) → get_or (set sl (x % R) u) (x % R) 0 ≡ u
set_same {R} {sl} some k x u = get_or-set_same sl (x % R) u 0 (omega (arith, mod-lt x {m = R} some, k.size))

-- n's own slot is cleared, and n moves on: the slots ahead stay, and the one a lap ahead is n's
module _ {R : ℕ} {sl : List ℕ} (some : 0 < R) (k : Idle R sl) (n : ℕ) where
  clear_other : (d : ℕ) → suc d < R → get_or (set sl (n % R) 0) ((suc n + d) % R) 0 ≡ get_or sl ((n + suc d) % R) 0
  clear_other d p =
      let q : suc n + d ≡ n + suc d = omega arith in
      let ne : (n + suc d) % R ≢ n % R = rw (← ap (◌% R) (add-zero n)) (apart R n (suc d) 0 p some (omega arith)) in
      rw q (get_or-set_other sl (n % R) ((n + suc d) % R) 0 0 ne)

  clear_lap : (d : ℕ) → d < R → ¬ (suc d < R) → get_or (set sl (n % R) 0) ((suc n + d) % R) 0 ≡ 0
  clear_lap d lt p = let q : suc n + d ≡ n + R = omega arith in rw (q, add-mod_right n R) (set_same some k n 0)

-- ---- a unit is stored o ahead of nxt
module _ {R : ℕ} {log : ℕ → ℕ} {n end : ℕ} {sl : List ℕ} {mk : ℕ} where
  pub marks_store : {w : ℕ} → Marks R log n end w sl mk → (o u : ℕ) → o < R → o < w → n + o < end → u ≡ log (n + o)
      → Marks R log n end w (set sl ((n + o) % R) u) (mark mk ((n + o) % R))
  marks_store {w} k o u lt lw below eu = record {
    idle = idle_set some k.idle (n + o) u;
    within = within_mark k.within o lt lw;
    known = λ d hd e. known d hd e (ℕ_discrete d o);
    value = λ d hd e. value d hd e (ℕ_discrete d o);
    empty = λ d hd e. empty d hd e (ℕ_discrete d o);
    unmarked = λ i le hi.
        marked_other mk ((n + o) % R) i (λ q. off_ring R (n + o) i some le (sym q)) ∙ k.unmarked i le hi;
  }
    where
      some : 0 < R
      some = omega arith

      ne : (d : ℕ) → d < R → d ≢ o → (n + d) % R ≢ (n + o) % R
      ne d hd p = apart R n d o hd lt p

      other : (d : ℕ) → d < R → d ≢ o → marked (mark mk ((n + o) % R)) ((n + d) % R) ≡ marked mk ((n + d) % R)
      other d hd p = marked_other mk ((n + o) % R) ((n + d) % R) (λ q. ne d hd p (sym q))

      stays : (d : ℕ) → d < R → d ≢ o → get_or (set sl ((n + o) % R) u) ((n + d) % R) 0 ≡ get_or sl ((n + d) % R) 0
      stays d hd p = get_or-set_other sl ((n + o) % R) ((n + d) % R) u 0 (ne d hd p)

      known : (d : ℕ) → d < R → marked (mark mk ((n + o) % R)) ((n + d) % R) ≡ true → Dec (d ≡ o) → n + d < end
      known d hd e (yes p) = omega arith
      known d hd e (no p) = k.known d hd (sym (other d hd p) ∙ e)

      value : (d : ℕ) → d < R → marked (mark mk ((n + o) % R)) ((n + d) % R) ≡ true → Dec (d ≡ o)
          → get_or (set sl ((n + o) % R) u) ((n + d) % R) 0 ≡ log (n + d)
      value d hd e (yes p) = rw p (set_same some k.idle (n + o) u ∙ eu)
      value d hd e (no p) = stays d hd p ∙ k.value d hd (sym (other d hd p) ∙ e)

      empty : (d : ℕ) → d < R → marked (mark mk ((n + o) % R)) ((n + d) % R) ≡ false → Dec (d ≡ o)
          → get_or (set sl ((n + o) % R) u) ((n + d) % R) 0 ≡ 0
      empty d hd e (yes p) = absurd (clash (rw p at e) (marked_same mk ((n + o) % R)))
      empty d hd e (no p) = stays d hd p ∙ k.empty d hd (sym (other d hd p) ∙ e)

  -- ---- the unit at nxt is delivered
  pub marks_next : {w : ℕ} → Marks R log n end (suc w) sl mk → 0 < R → R ≤ 64
      → Marks R log (suc n) end w (set sl (n % R) 0) (unmark mk (n % R))
  marks_next {w} k some most = record {
    idle = idle_set some k.idle n 0;
    within = within_next R n mk some most k.within;
    known = λ d hd e. known d hd e (dec_lt (suc d) R);
    value = λ d hd e. value d hd e (dec_lt (suc d) R);
    empty = λ d hd e. empty d hd e (dec_lt (suc d) R);
    unmarked = λ i le hi.
        unmarked_other mk (n % R) i (low R n mk some most n) hi (λ q. off_ring R n i some le (sym q)) ∙ k.unmarked i le hi;
  }
    where
      on : (d : ℕ) → suc d < R → {c : Bool} → marked (unmark mk (n % R)) ((suc n + d) % R) ≡ c → marked mk ((n + suc d) % R) ≡ c
      on d p e = sym (next_other R n mk some most d p) ∙ e

      known : (d : ℕ) → d < R → marked (unmark mk (n % R)) ((suc n + d) % R) ≡ true → Dec (suc d < R) → suc n + d < end
      known d hd e (yes p) = omega (arith, k.known (suc d) p (on d p e))
      known d hd e (no p) = absurd (next_gone R n mk some most d hd e p)

      value : (d : ℕ) → d < R → marked (unmark mk (n % R)) ((suc n + d) % R) ≡ true → Dec (suc d < R)
          → get_or (set sl (n % R) 0) ((suc n + d) % R) 0 ≡ log (suc n + d)
      value d hd e (yes p) = clear_other some k.idle n d p ∙ k.value (suc d) p (on d p e) ∙ ap log (omega arith)
      value d hd e (no p) = absurd (next_gone R n mk some most d hd e p)

      empty : (d : ℕ) → d < R → marked (unmark mk (n % R)) ((suc n + d) % R) ≡ false → Dec (suc d < R)
          → get_or (set sl (n % R) 0) ((suc n + d) % R) 0 ≡ 0
      empty d hd e (yes p) = clear_other some k.idle n d p ∙ k.empty (suc d) p (on d p e)
      empty d hd e (no p) = clear_lap some k.idle n d hd p

-- more units are accepted, and the window grows
pub marks_grow : {R : ℕ} {log : ℕ → ℕ} {n end end' w w' : ℕ} {sl : List ℕ} {mk : ℕ} → end ≤ end' → w ≤ w'
    → Marks R log n end w sl mk → Marks R log n end' w' sl mk
marks_grow le lw k = record {
  idle = k.idle;
  within = record { near = λ d hd e. omega (arith, k.within.near d hd e) };
  known = λ d hd e. omega (arith, k.known d hd e);
  value = k.value;
  empty = k.empty;
  unmarked = k.unmarked;
}

-- a mark further ahead leaves the slot at nxt as it was
pub head_stays : (R n o mk : ℕ) → 0 < R → o < R → (o ≡ 0 → ⊥) → marked mk (n % R) ≡ false
    → marked (mark mk ((n + o) % R)) (n % R) ≡ false
head_stays R n o mk some lt nz e =
    marked_other mk ((n + o) % R) (n % R) (rw (← ap (◌% R) (add-zero n)) (apart R n o 0 lt some nz)) ∙ e

-- ---- a unit is accepted
pub stored_accept : {R : ℕ} {log : ℕ → ℕ} {una out : ℕ} {sl : List ℕ} → Stored R log una out sl → (u : ℕ) → out < R
    → u ≡ log (una + out) → Stored R log una (suc out) (set sl ((una + out) % R) u)
stored_accept {R} {log} {una} {out} {sl} k u lt e = record {
  idle = idle_set (omega arith) k.idle (una + out) u;
  value = λ d hd. value d hd (dec_lt d out);
  empty = λ d le hd. stays d hd (omega arith) ∙ k.empty d (omega arith) hd;
}
  where
    stays : (d : ℕ) → d < R → d ≢ out → get_or (set sl ((una + out) % R) u) ((una + d) % R) 0 ≡ get_or sl ((una + d) % R) 0
    stays d hd ne = get_or-set_other sl ((una + out) % R) ((una + d) % R) u 0 (apart R una d out hd lt ne)

    value : (d : ℕ) → d < suc out → Dec (d < out) → get_or (set sl ((una + out) % R) u) ((una + d) % R) 0 ≡ log (una + d)
    value d hd (yes p) = stays d (omega arith) (omega arith) ∙ k.value d p
    value d hd (no p) = let q : d ≡ out = omega arith in rw q (set_same (omega arith) k.idle (una + out) u ∙ e)

-- ---- the unit at una is freed
pub stored_free : {R : ℕ} {log : ℕ → ℕ} {una out : ℕ} {sl : List ℕ} → suc out ≤ R → Stored R log una (suc out) sl
    → Stored R log (suc una) out (set sl (una % R) 0)
stored_free {R} {log} {una} {out} {sl} le k = record {
  idle = idle_set some k.idle una 0;
  value = λ d hd. clear_other some k.idle una d (omega arith) ∙ k.value (suc d) (omega arith) ∙ ap log (omega arith);
  empty = λ d lo hd. empty d lo hd (dec_lt (suc d) R);
}
  where
    some : 0 < R
    some = omega arith

    empty : (d : ℕ) → out ≤ d → d < R → Dec (suc d < R) → get_or (set sl (una % R) 0) ((suc una + d) % R) 0 ≡ 0
    empty d lo hd (yes p) = clear_other some k.idle una d p ∙ k.empty (suc d) (omega arith) p
    empty d lo hd (no p) = clear_lap some k.idle una d hd p
