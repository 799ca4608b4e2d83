-- A delivery on its way: what is out stands in the row from its start, and the rest is what the rule gives from there on. What
-- the delivery's loop is proved by.
use Rattle.std.proofs.Common.{◌≡◌, ℕ, zero, suc, ◌+◌, ◌-◌, ◌%◌, ◌<◌, ◌≤◌, true, false, List, [], ◌∷◌, ◌++◌, length, get_or, take, drop, set, refl, ap, sym, ◌∙◌, arith}
use Rattle.std.specs.Prelude.{Ok}
use Rattle.std.proofs.Math.Numerals.{add-one}
use Rattle.std.proofs.Math.Seq.{take-suc-set}
use Rattle.std.proofs.lemmas.List.{append_assoc, append-nil, length-set, take-append-drop, length-take-le}
use Rattle.rules.specs.declared.Receiver.{Receiver}
use Rattle.rules.specs.Numbers.{NS, wrapped}
use Rattle.rules.specs.Marks.{marked, unmark}
use Rattle.rules.specs.Parts.{since}
use Rattle.rules.specs.Fit.{Within, FitReceiver}
use Rattle.rules.specs.Events.{Delivery, deliver, advanced}
use Rattle.rules.specs.Operations.{Counts}
use Rattle.rules.proofs.Rows.{left_more}
use Rattle.rules.proofs.Deliveries.{within_ring, within_some, within_turn, few}

-- a delivery with us in front
abbrev pub after : List ℕ → Delivery → Delivery
after us d = record { units = us ++ d.units; nxt = d.nxt; slots = d.slots; marks = d.marks }

-- the rule from here on stops where the slot is not marked
stops : (seq : ℕ → ℕ) (R n q : ℕ) (sl : List ℕ) (mk : ℕ) → marked mk (q % R) ≡ false
    → deliver seq R n q sl mk ≡ record { units = []; nxt = q; slots = sl; marks = mk }
stops seq R zero q sl mk off = refl
stops seq R (suc n) q sl mk off = rw off

module _ (r₀ : Receiver) where
  -- what the rule gives in n turns from q, with these slots and marks
  abbrev pub coming : ℕ → ℕ → List ℕ → ℕ → Delivery
  coming = deliver (wrapped r₀.setup).seq r₀.setup.window

  -- all that is delivered
  abbrev pub all : Delivery
  all = coming r₀.setup.window r₀.nxt r₀.slots r₀.marks

  -- the receiver with what a delivery moves
  abbrev pub moved : ℕ → List ℕ → ℕ → Receiver
  moved q sl mk = record
      { setup = r₀.setup; nxt = q; window = r₀.window; clock = r₀.clock; recent = r₀.recent; slots = sl; marks = mk }

-- k units are out; row₀ is the row as it was lent
pub record Going (r₀ : Receiver) (row₀ : List ℕ) (r : Receiver) (row : List ℕ) (k : ℕ) : Type 0 where
  pub same : r ≡ moved r₀ r.nxt r.slots r.marks
  pub most : k ≤ r₀.setup.window
  pub long : length row ≡ length row₀
  pub near : Within r₀.setup.window r.nxt (r₀.setup.window - k) r.marks
  pub out : all r₀ ≡ after (take k row) (coming r₀ (r₀.setup.window - k) r.nxt r.slots r.marks)
  pub rest : drop k row ≡ drop k row₀

pub begins : (r : Receiver) (row : List ℕ) → Going r row r row 0
begins r row =
    let e : r.setup.window - 0 ≡ r.setup.window = omega arith in
    record {
      same = refl;
      most = omega arith;
      long = refl;
      near = rw e (within_ring r.setup.window r.nxt r.marks);
      out = rw e;
      rest = refl;
    }

module _ {r₀ r : Receiver} {row₀ row : List ℕ} {k : ℕ} (g : Going r₀ row₀ r row k) (fit : FitReceiver r₀) where
  abbrev R : ℕ
  R = r₀.setup.window

  -- the slot of nxt
  abbrev at : ℕ
  at = r.nxt % R

  -- it is marked, so not all R units are out
  pub left : marked r.marks at ≡ true → k < R
  left on = let h = within_some fit.setup.some g.near on in omega arith

  -- and one more goes out
  pub goes_on : R ≤ length row₀ → marked r.marks at ≡ true
      → Going r₀ row₀ (record {
        setup = r.setup;
        nxt = (r.nxt + 1) % NS r₀.setup;
        window = r.window;
        clock = r.clock;
        recent = r.recent;
        slots = set r.slots at 0;
        marks = unmark r.marks at;
      }) (set row k (get_or r.slots at 0)) (k + 1)
  goes_on room on =
      let lt = left on in
      let u = get_or r.slots at 0 in
      let n : R - k ≡ suc (R - (k + 1)) = omega arith in
      let d = coming r₀ (R - (k + 1)) (suc r.nxt % NS r₀.setup) (set r.slots at 0) (unmark r.marks at) in
      let fits : k < length row = omega (arith, g.long) in
      let t : take (k + 1) (set row k u) ≡ take k row ++ u ∷ [] = rw (add-one, take-suc-set row k u) in
      record {
        same = ap (λ (x : Receiver). moved x ((r.nxt + 1) % NS r₀.setup) (set r.slots at 0) (unmark r.marks at)) g.same;
        most = omega arith;
        long = length-set row k u ∙ g.long;
        near = rw (add-one r.nxt) (within_turn R (NS r₀.setup) fit.setup.some fit.setup.most fit.setup.even (rw n at g.near));
        out = g.out ∙ rw (add-one r.nxt, n, on, t)
            (ap (λ (x : List ℕ). record { units = x; nxt = d.nxt; slots = d.slots; marks = d.marks }) (sym (append_assoc (take k row) (u ∷ []) d.units)));
        rest = left_more 0 row row₀ k u g.rest;
      }

  -- the slot is not marked: what is out is all
  module _ (room : R ≤ length row₀) (off : marked r.marks at ≡ false) where
    whole : all r₀ ≡ record { units = take k row; nxt = r.nxt; slots = r.slots; marks = r.marks }
    whole = g.out ∙ rw (stops (wrapped r₀.setup).seq R (R - k) r.nxt r.slots r.marks off, append-nil)

    count : length (take k row) ≡ k
    count = length-take-le k row (omega (arith, g.most, g.long))

    -- no more than the window has
    pub fits : k ≤ r.window
    fits =
        let w : r.window ≡ r₀.window = ap (λ (x : Receiver). x.window) g.same in
        let n : length (all r₀).units ≡ k = ap (λ (d : Delivery). length d.units) whole ∙ count in
        let h = few R (NS r₀.setup) fit.setup.some fit.setup.most fit.setup.even R r₀.nxt r₀.window r₀.slots r₀.marks fit.marks in
        omega (arith, w, n, h)

    pub ends : (stamp : ℕ) → Counts (advanced (wrapped r₀.setup) r₀.setup stamp r₀ (all r₀)) (Ok k) (record {
      setup = r.setup;
      nxt = r.nxt;
      window = r.window - k;
      clock = r.clock;
      recent = since stamp 0;
      slots = r.slots;
      marks = r.marks;
    }) row₀ row
    ends stamp =
        rw whole (record {
          gives = rw count;
          leaves = rw count (ap (λ (x : Receiver). record {
            setup = x.setup;
            nxt = r.nxt;
            window = x.window - k;
            clock = x.clock;
            recent = since stamp 0;
            slots = r.slots;
            marks = r.marks;
          }) g.same);
          lent = sym (take-append-drop k row) ∙ ap (take k row ++◌) (g.rest ∙ ap (λ (x : ℕ). drop x row₀) (sym count));
        })
