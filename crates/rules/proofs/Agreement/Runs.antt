-- Every list of events, from any state of the invariant: both machines answer alike, and what is delivered is what the log says.
use mathlib.Core.Path.{◌≡◌, refl, sym, ◌∙◌, ap, ap₂}
use mathlib.Core.Bool.{true}
use mathlib.Core.List.{List, [], ◌∷◌, ◌++◌}
use Prim.Native.Nat.{ℕ, zero, suc, ◌+◌, ◌-◌, ◌≤◌, ◌<◌}
use native.Mathlib.Nat.{add-zero, zero-add, add-suc, suc-add, add-sub_cancel_left}
use native.Mathlib.Omega.{arith}
use lib.ListN.{length, get_or, take, length-append}
use lib.Seq.{ext_get_or}
use Rattle.rules.specs.declared.Setup.{Setup}
use Rattle.rules.specs.declared.Bench.{Bench}
use Rattle.rules.specs.Numbers.{wrapped, whole}
use Rattle.rules.specs.Setups.{admitted}
use Rattle.rules.specs.Events.{Event, accept, send, arrive, room, acknowledge, hear, dropd, dropa, dupd, dupa, tick, act}
use Rattle.rules.specs.Operations.{step}
use Rattle.rules.specs.Runs.{Said, said, run, final, took, accepted, delivered}
use Rattle.rules.specs.Agreement.{wrap}
use Rattle.rules.proofs.Agreement.Lists.{All, done, more}
use Rattle.rules.proofs.Agreement.Channels.{Proper, shows_datas, shows_acks, dropping_alike, copying_alike}
use Rattle.rules.proofs.Agreement.State.{Wide, Inv, end, stretch, Gave, Goods}
use Rattle.rules.proofs.Agreement.Steps.{good_accept, good_send, good_ack, good_room, good_tick, good_datas, good_acks}
use Rattle.rules.proofs.Agreement.Arriving.{good_data}
use Rattle.rules.proofs.Agreement.Hearing.{good_hear}
use Rattle.rules.proofs.Agreement.Formed.{step_whole, step_wrapped}

-- ---- stretches of the log
module _ (log : ℕ → ℕ) where
  length_stretch : (q n : ℕ) → length (stretch log q n) ≡ n
  length_stretch q zero = refl
  length_stretch q (suc n) = ap suc (length_stretch (suc q) n)

  get_or_stretch : (q n i : ℕ) → i < n → get_or (stretch log q n) i 0 ≡ log (q + i)
  get_or_stretch q zero i lt = absurd (omega arith)
  get_or_stretch q (suc n) zero lt = ap log (sym (add-zero q))
  get_or_stretch q (suc n) (suc i) lt = get_or_stretch (suc q) n i (omega arith) ∙ ap log (omega arith)

  stretch_add : (q m n : ℕ) → stretch log q m ++ stretch log (q + m) n ≡ stretch log q (m + n)
  stretch_add q zero n = rw (add-zero q, zero-add n)
  stretch_add q (suc m) n = rw (suc-add m n) (ap (log q ∷◌) (rw (add-suc q m, ← suc-add q m) (stretch_add (suc q) m n)))

  pub take_stretch : (q m n : ℕ) → m ≤ n → take m (stretch log q n) ≡ stretch log q m
  take_stretch q zero n le = refl
  take_stretch q (suc m) zero le = absurd (omega arith)
  take_stretch q (suc m) (suc n) le = ap (log q ∷◌) (take_stretch (suc q) m n (omega arith))

  -- the two parts of a stretch
  stretch_split : (a b : List ℕ) (q : ℕ) → a ++ b ≡ stretch log q (length (a ++ b))
      → (a ≡ stretch log q (length a)) × (b ≡ stretch log (q + length a) (length b))
  stretch_split [] b q e = (refl, rw (add-zero q) e)
  stretch_split (x ∷ a) b q e =
      let h : x ≡ log q = cc in
      let t : a ++ b ≡ stretch log (suc q) (length (a ++ b)) = cc in
      let r = stretch_split a b (suc q) t in
      (ap₂ ◌∷◌ h r.0, rw (add-suc q (length a), ← suc-add q (length a)) r.1)

  gave_add : {n n' n'' : ℕ} {us vs : List ℕ} → Gave log n n' us → Gave log n' n'' vs → Gave log n n'' (us ++ vs)
  gave_add {n} {n'} {us = us} {vs = vs} a c =
      let next : vs ≡ stretch log (n + length us) (length vs) = rw a.moved at c.list in
      record {
        list = rw (length-append us vs, ← stretch_add n (length us) (length vs)) (ap₂ ◌++◌ a.list next);
        moved = omega (arith, a.moved, c.moved, length-append us vs);
      }

-- the log that a list of units makes
pub log_of : List ℕ → ℕ → ℕ → ℕ
log_of l q k = get_or l (k - q) 0

pub log_of_stretch : (l : List ℕ) (q : ℕ) → l ≡ stretch (log_of l q) q (length l)
unfolding log_of
log_of_stretch l q =
    ext_get_or 0 l _ (sym (length_stretch (log_of l q) q (length l)))
    (λ i lt. sym (get_or_stretch (log_of l q) q (length l) i lt ∙ ap (λ (x : ℕ). get_or l x 0) (add-sub_cancel_left q i)))

module _ (S : Setup) (adm : admitted S ≡ true) (v : Wide S) (log : ℕ → ℕ) where
  -- ---- one event
  -- us, which it accepts, is what the log says
  abbrev Told : Bench → List ℕ → Type 0
  Told b us = us ≡ stretch log (end b) (length us)

  good_act : (e : Event) (b : Bench) → Inv S log b → Told b (took e (act (whole S) S e b).answer)
      → Goods S log b (took e) (act (wrapped S) S e (wrap S b)) (act (whole S) S e b)
  unfolding act
  good_act (accept u) b i t =
      good_accept S v log u b i (λ z. let x : u ∷ [] ≡ stretch log (end b) 1 = rw z at t in cc)
  good_act (send k) b i t = good_send S v log k b i
  good_act (arrive j n) b i t = good_data S v log j n b i
  good_act room b i t = good_room S v log b i
  good_act acknowledge b i t = good_ack S v log b i
  good_act (hear j) b i t = good_hear S v log j b i
  good_act (dropd j) b i t = good_datas S v log i (dropping_alike (shows_datas S) i.datas j)
  good_act (dropa j) b i t = good_acks S v log i (dropping_alike (shows_acks S) i.acks j)
  good_act (dupd j) b i t = good_datas S v log i (copying_alike (shows_datas S) i.datas j)
  good_act (dupa j) b i t = good_acks S v log i (copying_alike (shows_acks S) i.acks j)
  good_act tick b i t = good_tick S v log b i

  good_step : (e : Event) (b : Bench) → Inv S log b → Told b (took e (step whole e b).answer)
      → Goods S log b (took e) (step wrapped e (wrap S b)) (step whole e b)
  good_step e b i t =
      rw (step_wrapped S adm v i e, step_whole S adm v i e) (good_act e b i (rw (step_whole S adm v i e) at t))

  -- ---- a run
  pub record Ran (es : List Event) (b : Bench) : Type 0 where
    pub same : run wrapped es (wrap S b) ≡ run whole es b
    pub last : final wrapped es (wrap S b) ≡ wrap S (final whole es b)
    pub kept : Inv S log (final whole es b)
    pub gave : Gave log b.receiver.nxt (final whole es b).receiver.nxt (delivered (run whole es b))
    pub grew : end (final whole es b) ≡ end b + length (accepted es (run whole es b))
    pub proper : All (λ (a : Said). Proper a.answer) (run whole es b)

  pub ran : (es : List Event) (b : Bench) → Inv S log b → Told b (accepted es (run whole es b)) → Ran es b
  unfolding run final accepted delivered
  ran [] b i t = record {
    same = refl;
    last = refl;
    kept = i;
    gave = record { list = refl; moved = omega arith };
    grew = omega arith;
    proper = done;
  }
  ran (e ∷ es) b i t =
      let z = step whole e b in
      let first = took e z.answer in
      let later = accepted es (run whole es z.state) in
      let parts = stretch_split log first later (end b) t in
      let o = good_step e b i parts.0 in
      let r = ran es z.state o.kept (rw o.grew parts.1) in
      record {
        same = rw o.same (ap (said z ∷◌) r.same);
        last = rw o.same r.last;
        kept = r.kept;
        gave = gave_add log o.gave r.gave;
        grew = omega (arith, o.grew, r.grew, length-append first later);
        proper = more o.proper r.proper;
      }
