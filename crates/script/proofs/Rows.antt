-- What was written, and what is left after it, is the listing; and what a write that failed leaves is a beginning of it.
use Rattle.std.proofs.Common.{◌≡◌, ℕ, ◌+◌, ◌-◌, ◌<◌, List, ◌++◌, length, take, drop, ap, sym, ◌∙◌, append_assoc, append-nil, subst, take-append-drop, take-add, length-drop, Option, Result, Ok, Err, OnErr}
use Rattle.std.proofs.Math.Seq.{take-length}
use Rattle.std.specs.Io.KnownBytes.{Appends}
use Rattle.std.proofs.KnownBytes.{Appends-trans}
use Rattle.rules.specs.Numbers.{wrapped}
use Rattle.writer.proofs.Row.{put_start}
use Rattle.listing.specs.declared.inner.Run.{Run}
use Rattle.listing.specs.declared.inner.Step.{Step}
use Rattle.listing.specs.declared.inner.Step.TheVariants.{More, Over}
use Rattle.listing.specs.declared.inner.Part.{Part}
use Rattle.listing.specs.Listing.{joined, listing}
use Rattle.listing.specs.Run.{rest, Opened}
use Rattle.listing.specs.Fitting.{Filled}
use Rattle.listing.proofs.Steps.{rest_of}
use Rattle.listing.proofs.Setups.{first_lines}
use Rattle.listing.proofs.Whole.{fill_cuts}
use Rattle.script.specs.Failed.{AppendsStart}

-- a writer's bytes grew by `text`, after which comes what is left of the listing
pub record Wrote (old new : Option (List ℕ)) (s : List ℕ) (left : Step) : Type 0 where
  pub text : List ℕ
  pub grown : Appends old new text
  pub whole : text ++ joined (rest_of s left) ≡ listing wrapped s

-- the first line and what is left after it; a row of lines and what is left after it
first_row : {s d e : List ℕ} {r : Part} → Opened s d e r → take r.end e ++ joined (rest_of s r.left) ≡ listing wrapped s
unfolding listing joined
first_row {s} o = rw (put_start o.row, o.then) (sym (ap joined (first_lines s)))

more_row : {s d e : List ℕ} {run : Run} {r : Part} → run.at < length s → Filled s run d e 0 r
    → take r.end e ++ joined (rest_of s r.left) ≡ joined (rest s run)
more_row {s} {d} {run = run} h f = rw (put_start f.row, f.then) (sym (fill_cuts (length d - 0) s run h).whole)

pub wrote_first :
    {a b : Option (List ℕ)} {s d e : List ℕ} {r : Part} → Opened s d e r → Appends a b (take r.end e) → Wrote a b s r.left
wrote_first {e = e} {r = r} o g = record { text = take r.end e; grown = g; whole = first_row o }

pub wrote_more :
    {a b c : Option (List ℕ)} {s d e : List ℕ} {run : Run} {r : Part} → Wrote a b s (More run) → run.at < length s
    → Filled s run d e 0 r → Appends b c (take r.end e) → Wrote a c s r.left
wrote_more {a} {b} {c} {e = e} {r = r} w h f g = record {
  text = w.text ++ take r.end e;
  grown = Appends-trans a b c _ _ w.grown g;
  whole = rw append_assoc (ap (λ t. w.text ++ t) (more_row h f) ∙ w.whole);
}

pub wrote_all : {a b : Option (List ℕ)} {s : List ℕ} {run : Run} → Wrote a b s (Over run) → Appends a b (listing wrapped s)
unfolding joined
wrote_all {a} {b} w = subst (Appends a b) w.whole (rw append-nil w.grown)

-- ---- a write that fails
-- a fact of a failure, at whatever was returned
pub on_err : {T E P : Type 0} (r : Result T E) → P → OnErr r P
on_err (Ok x) p = tt
on_err (Err e) p = p

-- the first bytes of buf, and n more of the rest of it
pub appends_more : (a b c : Option (List ℕ)) (done n : ℕ) (buf : List ℕ) → Appends a b (take done buf)
    → Appends b c (take n (take (length buf - done) (drop done buf))) → Appends a c (take (done + n) buf)
appends_more a b c done n buf p q =
    let all : take (length buf - done) (drop done buf) ≡ drop done buf = rw (← length-drop done buf) (take-length (drop done buf)) in
    rw take-add (Appends-trans a b c _ _ p (rw all at q))

pub appends_start : (a b : Option (List ℕ)) (k : ℕ) (buf : List ℕ) → Appends a b (take k buf) → AppendsStart a b buf
appends_start a b k buf p = record { text = take k buf; rest = drop k buf; grown = p; whole = take-append-drop k buf }

-- a beginning of what has more behind it, and of what comes after other bytes
start_within : {a b : Option (List ℕ)} {t w : List ℕ} (u : List ℕ) → AppendsStart a b t → t ++ u ≡ w → AppendsStart a b w
start_within u g e = record {
  text = g.text;
  rest = g.rest ++ u;
  grown = g.grown;
  whole = rw (← append_assoc) (ap (λ x. x ++ u) g.whole ∙ e);
}

start_after : {a b c : Option (List ℕ)} {u : List ℕ} (t : List ℕ) → Appends a b t → AppendsStart b c u → AppendsStart a c (t ++ u)
start_after {a} {b} {c} t p g = record {
  text = t ++ g.text;
  rest = g.rest;
  grown = Appends-trans a b c _ _ p g.grown;
  whole = rw append_assoc (ap (λ x. t ++ x) g.whole);
}

-- so what was written when a row is written in part is a beginning of the listing
pub start_first :
    {a b : Option (List ℕ)} {s d e : List ℕ} {r : Part} → Opened s d e r → AppendsStart a b (take r.end e) → AppendsStart a b (listing wrapped s)
start_first o g = start_within _ g (first_row o)

pub start_more :
    {a b c : Option (List ℕ)} {s d e : List ℕ} {run : Run} {r : Part} → Wrote a b s (More run) → run.at < length s
    → Filled s run d e 0 r → AppendsStart b c (take r.end e) → AppendsStart a c (listing wrapped s)
start_more {a} {c = c} w h f g = subst (AppendsStart a c) w.whole (start_after w.text w.grown (start_within _ g (more_row h f)))
