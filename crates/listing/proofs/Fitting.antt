-- Lines written into a row as long as they fit: a line at a time.
use Rattle.std.specs.Prelude.{◌≡◌, ℕ, ◌+◌, ◌-◌, ◌<◌, ◌≤◌, Bool, true, false, not, nat_lt, nat_le, List, [], ◌∷◌, ◌++◌, length}
use Rattle.std.proofs.Common.{refl, sym, ◌∙◌, append-nil, arith, lt-ltb, le-ltb, le-leb, ltb-true, ltb-false, length-append}
use Rattle.std.proofs.lemmas.Bool.{lt-leb}
use Rattle.rules.specs.Numbers.{wrapped}
use Rattle.writer.specs.Row.{put, Put}
use Rattle.writer.proofs.Row.{put_then, put_nothing}
use Rattle.listing.specs.declared.inner.Run.{Run}
use Rattle.listing.specs.declared.inner.Step.{Step}
use Rattle.listing.specs.declared.inner.Step.TheVariants.{More, Over}
use Rattle.listing.specs.declared.inner.Part.{Part}
use Rattle.listing.specs.Listing.{lines, joined, listing}
use Rattle.listing.specs.Run.{step_of, next, first, rest, after, SetFirst}
use Rattle.listing.specs.Fitting.{taken, Fill, filling, Filled, Wrote}
use Rattle.listing.proofs.Steps.{rest_of, rest_step}
use Rattle.listing.proofs.Setups.{first_lines}

less_by : (r a b : ℕ) (q : Bool) → nat_lt (r - a) b ≡ q → a ≤ r → nat_lt r (a + b) ≡ q
less_by r a b true e h = lt-ltb r (a + b) (omega (arith, ltb-true (r - a) b e))
less_by r a b false e h = le-ltb r (a + b) (omega (arith, ltb-false (r - a) b e))

pub not_less : (a b : ℕ) → nat_le a b ≡ not (nat_lt b a)
not_less a b = go (nat_lt b a) refl
  where
    go : (q : Bool) → nat_lt b a ≡ q → nat_le a b ≡ not q
    go true e = lt-leb a b (ltb-true b a e)
    go false e = le-leb a b (ltb-false b a e)

-- ---- a line l, and the lines after it
module _ (room : ℕ) (l : List ℕ) (ls : List (List ℕ)) where
  module _ (h : room < length l) where
    pub taken_full : taken room (l ∷ ls) ≡ []
    unfolding taken
    taken_full = rw (lt-leb _ _ h)

    pub long_full : nat_lt room (length (joined (l ∷ ls))) ≡ true
    unfolding joined
    long_full = rw length-append (lt-ltb room (length l + length (joined ls)) (omega arith))

  module _ (h : length l ≤ room) where
    pub taken_on : taken room (l ∷ ls) ≡ l ∷ taken (room - length l) ls
    unfolding taken
    taken_on = rw (le-leb _ _ h)

    pub long_on : nat_lt room (length (joined (l ∷ ls))) ≡ nat_lt (room - length l) (length (joined ls))
    unfolding joined
    long_on = rw length-append (less_by room (length l) (length (joined ls)) _ refl h)

none_more : (room : ℕ) → nat_lt room (length (joined [])) ≡ false
unfolding joined
none_more room = le-ltb room 0 (omega arith)

-- ---- what is filled after a step
abbrev pub filling_of : ℕ → List ℕ → Step → Fill
filling_of room s (More run) = filling room s run
filling_of room s (Over run) = record { text = []; more = false; run = run }

module _ (room : ℕ) (s : List ℕ) (run : Run) (h : run.at < length s) where
  pub fill_full : room < length (next s run).line → filling room s run ≡ record { text = []; more = true; run = run }
  unfolding filling joined after
  fill_full l =
      let n = next s run in
      let ls = rest_of s (step_of n.more n.run) in
      rw (rest_step s run h, taken_full room n.line ls l, long_full room n.line ls l)

  -- what is filled after the step
  abbrev pub Then : Bool → Fill
  Then q = filling_of (room - length (next s run).line) s (step_of q (next s run).run)

  fill_by :
      (q : Bool) → (next s run).more ≡ q → length (next s run).line ≤ room
      → filling room s run ≡ record { text = (next s run).line ++ (Then q).text; more = (Then q).more; run = (Then q).run }
  unfolding filling joined after taken
  fill_by false e l =
      let n = next s run in
      rw (rest_step s run h, e, taken_on room n.line [] l, long_on room n.line [] l, none_more (room - length n.line)) refl
  fill_by true e l =
      let n = next s run in
      rw (rest_step s run h, e, taken_on room n.line (rest s n.run) l, long_on room n.line (rest s n.run) l)

  pub fill_on :
      length (next s run).line ≤ room
      → filling room s run
      ≡ record {
        text = (next s run).line ++ (Then (next s run).more).text;
        more = (Then (next s run).more).more;
        run = (Then (next s run).more).run;
      }
  fill_on l = fill_by (next s run).more refl l

-- ---- from the start
module _ (room : ℕ) (s : List ℕ) where
  pub start_full : room < length (first s).line → (joined (taken room (lines wrapped s)) ≡ []) × (nat_le (length (listing wrapped s)) room ≡ false)
  unfolding listing joined
  start_full l =
      let n = first s in
      let ls = rest_of s (step_of n.more n.run) in
      rw (not_less, first_lines s, taken_full room n.line ls l, long_full room n.line ls l) (refl, refl)

  abbrev Start : Step → Type 0
  Start r =
      (joined (taken room (lines wrapped s)) ≡ (first s).line ++ (filling_of (room - length (first s).line) s r).text)
      × (nat_le (length (listing wrapped s)) room ≡ not (filling_of (room - length (first s).line) s r).more)

  start_by : (q : Bool) → (first s).more ≡ q → length (first s).line ≤ room → Start (step_of q (first s).run)
  unfolding listing joined filling taken
  start_by false e l =
      let n = first s in
      rw (not_less (length (listing wrapped s)) room, first_lines s, e, taken_on room n.line [] l, long_on room n.line [] l, none_more (room - length n.line)) (refl, refl)
  start_by true e l =
      let n = first s in
      rw (not_less (length (listing wrapped s)) room, first_lines s, e, taken_on room n.line (rest s n.run) l, long_on room n.line (rest s n.run) l) (refl, refl)

  pub start_on : (r : Step) → r ≡ step_of (first s).more (first s).run → length (first s).line ≤ room → Start r
  start_on r e l = rw e (start_by (first s).more refl l)

-- ---- a row that is being filled: what is left, put at `at`, gives what the whole gives
pub record Left (s old : List ℕ) (from : ℕ) (run : Run) (out : List ℕ) (at : ℕ) (now : Step) : Type 0 where
  pub row : put out at (filling_of (length old - at) s now).text ≡ put old from (filling (length old - from) s run).text
  pub next : at + length (filling_of (length old - at) s now).text ≡ from + length (filling (length old - from) s run).text
  pub then :
      step_of (filling_of (length old - at) s now).more (filling_of (length old - at) s now).run
      ≡ step_of (filling (length old - from) s run).more (filling (length old - from) s run).run

-- what a filled row holds when nothing more is put into it
pub record Full (s old : List ℕ) (from : ℕ) (run : Run) (new : List ℕ) (end : ℕ) (now : Step) : Type 0 where
  pub row : Put old new from (filling (length old - from) s run).text end
  pub then : now ≡ step_of (filling (length old - from) s run).more (filling (length old - from) s run).run

module _ (s old : List ℕ) (from : ℕ) (run : Run) (out : List ℕ) (at : ℕ) where
  left_stops :
      (now : Step) (q : Bool) (here : Run) → Left s old from run out at now
      → filling_of (length old - at) s now ≡ record { text = []; more = q; run = here }
      → Full s old from run out at (step_of q here)
  left_stops now q here l e =
      record {
        row = record { row = sym (put_nothing out at) ∙ rw e at l.row; next = omega (arith, rw e at l.next) };
        then = rw e at l.then;
      }

  pub left_done :
      (now : Step) (here : Run) → now ≡ Over here → Left s old from run out at now → at ≤ length old
      → Filled s run old out from (record { end = at; left = now })
  left_done now here e l h =
      let w = left_stops (Over here) false here (rw e at l) refl in
      rw e (record { row = w.row; then = w.then; fits = h; ready = tt; ahead = λ _. tt })

  module _ (here : Run) (l : Left s old from run out at (More here)) (h : here.at < length s) where
    pub left_full : length old - at < length (next s here).line → Full s old from run out at (More here)
    left_full f = left_stops (More here) true here l (fill_full (length old - at) s here h f)

    pub left_on :
        (new : List ℕ) (end : ℕ) → Put out new at (next s here).line end → length (next s here).line ≤ length old - at
        → at ≤ length out → Left s old from run new end (step_of (next s here).more (next s here).run)
    left_on new end p f a =
        let e = fill_on (length old - at) s here h f in
        let room : length old - end ≡ length old - at - length (next s here).line = omega (arith, p.next) in
        let t = (Then (length old - at) s here h (next s here).more).text in
        let q : Put out (put new end t) at ((next s here).line ++ t) (end + length t) =
        put_then a p (record { row = refl; next = refl }) in
        record {
          row = rw room (q.row ∙ rw e at l.row);
          next = rw room (q.next ∙ rw e at l.next);
          then = rw room (rw e at l.then);
        }

-- a row with room for any line takes one
pub some_fits : (a₀ a at from room n : ℕ) → (a ≤ a₀ → at ≡ from) → n ≤ 2048 → room - at < n → from + 2048 ≤ room → a₀ < a
some_fits a₀ a at from room n q k f r = go (nat_lt a₀ a) refl
  where
    go : (t : Bool) → nat_lt a₀ a ≡ t → a₀ < a
    go true e = ltb-true a₀ a e
    go false e = absurd (omega (arith, q (ltb-false a₀ a e)))

more_is : (q : Bool) (a b : Run) → More a ≡ step_of q b → q ≡ true
more_is true a b e = refl
more_is false a b e = cc

over_is : (q : Bool) (a b : Run) → Over a ≡ step_of q b → q ≡ false
over_is true a b e = cc
over_is false a b e = refl

-- ---- the whole listing in a row: the cases
module _ (s old line : List ℕ) where
  pub wrote_none : (r : Step) → SetFirst s line r → length old < length line → Wrote s old old (record { len = 0; whole = false })
  wrote_none r o l =
      let w = start_full (length old) s (rw o.text at l) in
      record { row = rw w.0 (record { row = sym (put_nothing old 0); next = refl }); whole = sym w.1 }

  module _ (mid : List ℕ) (at : ℕ) (run : Run) (p : Put old mid 0 line at) (l : length line ≤ length old) where
    pub wrote_first : SetFirst s line (Over run) → Wrote s old mid (record { len = at; whole = true })
    wrote_first o =
        let w = start_on (length old) s (Over run) o.then (rw o.text at l) in
        record { row = rw (w.0, append-nil) (rw o.text at p); whole = sym w.1 }

    module _ (o : SetFirst s line (More run)) (k : length mid ≡ length old) (new : List ℕ) (f : Part) (i : Filled s run mid new at f) where
      abbrev more : Bool
      more = (filling (length mid - at) s run).more

      wrote_by : Wrote s old new (record { len = f.end; whole = not more })
      wrote_by =
          let w = start_on (length old) s (More run) o.then (rw o.text at l) in
          let q : Put old mid 0 (first s).line at = rw o.text at p in
          let room : length mid - at ≡ length old - length (first s).line = omega (arith, q.next) in
          record { row = rw w.0 (rw room at (put_then (omega arith) q i.row)); whole = rw (w.1, ← room) }

      pub wrote_part : (then : Run) → f.left ≡ More then → Wrote s old new (record { len = f.end; whole = false })
      wrote_part then g = rw (more_is more then _ (sym g ∙ i.then)) at wrote_by

      pub wrote_whole : (then : Run) → f.left ≡ Over then → Wrote s old new (record { len = f.end; whole = true })
      wrote_whole then g = rw (over_is more then _ (sym g ∙ i.then)) at wrote_by
