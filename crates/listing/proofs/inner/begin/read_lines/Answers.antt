-- `read_lines` meets its contract: the lines that are left, read after the i values that were stored, give what all of them give.
use Rattle.std.proofs.Common.{◌≡◌, ℕ, suc, ◌+◌, ◌-◌, ◌≤◌, List, [], take, Err, ap, sym, ◌∙◌, arith}
use Rattle.std.proofs.lemmas.Result.{err_from_is_err_and}
use Rattle.std.proofs.Math.ListN.{length-set}
use Rattle.listing.specs.Listing.{bad_line}
use Rattle.listing.specs.Run.{open_from, last, nowhere, SetupRead}
use Rattle.listing.proofs.Setups.{open_cut, open_bad, open_good, one_more}
use Rattle.listing.proofs.inner.begin.read_lines.Goals as goal

-- one line fewer is left
fewer : (i n at : ℕ) (vs s : List ℕ) → i ≤ 7 → open_from (8 - i) n at vs s ≡ open_from (suc (8 - (i + 1))) n at vs s
fewer i n at vs s h = let e : 8 - i ≡ suc (8 - (i + 1)) = omega arith in ap (λ (m : ℕ). open_from m n at vs s) e

-- whatever makes the next line bad, reading ends with its number
ended : (s values : List ℕ) (i at : ℕ) → i ≤ 7
    → open_from 8 1 0 [] s ≡ open_from (8 - i) (i + 1) at (take i values) s
    → open_from (suc (8 - (i + 1))) (i + 1) at (take i values) s ≡ last nowhere (bad_line (i + 1))
    → SetupRead s (Err (record { number = i + 1 }))
ended s values i at h e b = record {
  is = e ∙ fewer i (i + 1) at (take i values) s h ∙ b;
  place = tt;
}

pub returns-in_err-end : goal.returns-in_err-end
returns-in_err-end c =
    let l = c.loop-i in
    let p = err_from_is_err_and c.from_residual.result c.from_residual.ensures.1 in
    let b : c.in_err-end.field-0.0 ≡ record { number = l.i + 1 } = grind arith in
    let i = rw c.in_err-end.ensures.ok_part at c.index.ensures in
    rw (p.1, p.2, b) (ended c.args.src.now l.value-items l.i l.at (omega arith) l.invariant.left (open_cut c.args.src.now _ _ l.at _ i))

pub returns-in_err-value : goal.returns-in_err-value
returns-in_err-value c =
    let l = c.loop-i in
    let p = err_from_is_err_and c.from_residual-in_err-value.result c.from_residual-in_err-value.ensures.1 in
    let b : c.in_err-value.field-0.0 ≡ record { number = l.i + 1 } = grind arith in
    let i = rw c.in_ok-end.ensures.ok_part at c.index.ensures in
    rw (p.1, p.2, b)
    (ended c.args.src.now l.value-items l.i l.at (omega arith) l.invariant.left
    (open_bad c.args.src.now _ _ l.at _ _ i.0 i.1 (sym c.read_setup.ensures ∙ c.in_err-value.ensures.ok_part)))

pub loop-i-preserved : goal.loop-i-preserved
loop-i-preserved c =
    let l = c.loop-i in
    let s = c.args.src.now in
    let vs = take l.i l.value-items in
    let i = rw c.in_ok-end.ensures.ok_part at c.index.ensures in
    let far : l.i ≤ c.in_ok-end.end = omega (arith, l.invariant.far, i.0.after) in
    record {
      within = omega (arith, i.1);
      far = omega (arith, far);
      eight = length-set l.value-items l.i _ ∙ l.invariant.eight;
      left = l.invariant.left
          ∙ fewer l.i (l.i + 1) l.at vs s (omega arith)
          ∙ open_good s (8 - (l.i + 1)) (l.i + 1) l.at vs c.in_ok-end.end i.0 i.1 _ (sym c.read_setup.ensures ∙ c.in_ok-value.ensures.ok_part)
          ∙ ap (λ (y : List ℕ). open_from (8 - (l.i + 1)) (l.i + 1 + 1) (c.in_ok-end.end + 1) y s) (one_more l.value-items l.i _ (omega arith));
    }
