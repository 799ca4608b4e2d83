-- What the events do to a channel, on wrapped and on whole numbers alike. One set of laws over either channel: `Shows` says what
-- they need to know of it and of the way its packets are shown, and `Holds` that each packet in it has a fact.
use mathlib.Core.Path.{◌≡◌, refl, sym, ◌∙◌, ap}
use mathlib.Core.Bool.{Bool, true}
use mathlib.Core.List.{List, [], ◌∷◌, ◌++◌, map}
use mathlib.Core.Logic.{◌≢◌}
use Prim.Native.Nat.{ℕ, zero, suc, ◌-◌, ◌≤◌, ◌<◌}
use native.Mathlib.Nat.{zero-mod}
use native.Mathlib.Omega.{arith}
use lib.Dec.{leb}
use lib.ListN.{length, drop, replicate, length-map}
use lib.Seq.{drop-append_seam}
use borrow.Author.Tests.{le-leb}
use Rattle.rules.specs.declared.Setup.{Setup}
use Rattle.rules.specs.Parts.{DataChannel}
use Rattle.rules.specs.Parts.{AckChannel}
use Rattle.rules.specs.Numbers.{NS, NC}
use Rattle.rules.specs.Rows.{row, remove, aged}
use Rattle.rules.specs.Parts.{Kind, live, data_channel, ack_channel, new, no_data, no_ack}
use Rattle.rules.specs.Fit.{FitChannel}
use Rattle.rules.specs.Malformed.{every, formed_channel}
use Rattle.rules.specs.Events.{Out, refused, done, may_find, may_add, packet_at, adding, removed, dropping, copying, ticked_channel}
use Rattle.rules.specs.Agreement.{wrap_data, wrap_ack, wrap_datas, wrap_acks}
use Rattle.rules.proofs.Tests.{◌and◌}
use Rattle.rules.proofs.Rows.{live_row}
use Rattle.rules.proofs.Channels.{length_live, length_added}
use Rattle.rules.proofs.Agreement.Cases.{on_le}
use Rattle.rules.proofs.Agreement.Lists.{All, all_add, all_remove, all_get_d, all_imply, all_aged, every_is, map_add, map_remove, map_get_or, map_aged, map_take, map_row, length_remove_le, length_aged_le}

-- ---- an answer of a run from fresh
pub record Proper (n : ℕ) : Type 0 where
  pub formed : n ≢ 2
  pub near : n ≢ 11

-- what an event gives, with its state shown
abbrev pub shown : {X : Type 0} → (X → X) → Out X → Out X
shown W o = record { answer = o.answer; units = o.units; state = W o.state }

-- an event on both: the one is the other shown, and a fact of the state is kept
pub record Alike {X : Type 0} (W : X → X) (P : X → Type 0) (w z : Out X) : Type 0 where
  pub kept : P z.state
  pub same : w ≡ shown W z
  pub proper : Proper z.answer

-- ---- a channel whose setup is found by `at`, whose packets are shown by f, and which is itself shown by W
pub record Shows {H P C : Type 0} (K : Kind H P C) (at : C → Setup) (f : P → P) (W : C → C) : Type 0 where
  pub setup_fill : (c : C) (l : List P) → at (K.fill c l) ≡ at c
  pub count_fill : (c : C) (l : List P) → K.count (K.fill c l) ≡ length l
  pub packets_fill : (c : C) (l : List P) → K.packets (K.fill c l) ≡ row (K.new K.nothing) l
  pub count : (c : C) → K.count (W c) ≡ K.count c
  pub packets : (c : C) → K.packets (W c) ≡ map f (K.packets c)
  pub fill : (c : C) (l : List P) → K.fill (W c) (map f l) ≡ W (K.fill c l)
  pub nothing : f (K.new K.nothing) ≡ K.new K.nothing
  pub age : (p : P) → K.age (f p) ≡ K.age p
  pub older : (p : P) → K.older (f p) ≡ f (K.older p)

no_data_shown : (S : Setup) → wrap_data S (new no_data) ≡ new no_data
no_data_shown S = rw (zero-mod (NS S), zero-mod (NC S))

no_ack_shown : (S : Setup) → wrap_ack S (new no_ack) ≡ new no_ack
no_ack_shown S = rw (zero-mod (NS S), zero-mod (NC S))

abbrev pub of_datas : DataChannel → Setup
of_datas c = c.setup

abbrev pub of_acks : AckChannel → Setup
of_acks c = c.setup

pub shows_datas : (S : Setup) → Shows data_channel of_datas (wrap_data S) (wrap_datas S)
shows_datas S = record {
  setup_fill = λ c l. refl;
  count_fill = λ c l. refl;
  packets_fill = λ c l. refl;
  count = λ c. refl;
  packets = λ c. refl;
  fill = λ c l. rw (length-map l (wrap_data S), map_row (wrap_data S) (new no_data) (new no_data) (no_data_shown S) l);
  nothing = no_data_shown S;
  age = λ p. refl;
  older = λ p. refl;
}

pub shows_acks : (S : Setup) → Shows ack_channel of_acks (wrap_ack S) (wrap_acks S)
shows_acks S = record {
  setup_fill = λ c l. refl;
  count_fill = λ c l. refl;
  packets_fill = λ c l. refl;
  count = λ c. refl;
  packets = λ c. refl;
  fill = λ c l. rw (length-map l (wrap_ack S), map_row (wrap_ack S) (new no_ack) (new no_ack) (no_ack_shown S) l);
  nothing = no_ack_shown S;
  age = λ p. refl;
  older = λ p. refl;
}

-- ---- a channel under the setup S, of whose packets each has a fact
pub record Holds {H P C : Type 0} (K : Kind H P C) (at : C → Setup) (S : Setup) (F : P → Type 0) (c : C) : Type 0 where
  pub setup : at c ≡ S
  pub fit : FitChannel K c
  pub all : All F (live K c)

pub holds_imply : {H P C : Type 0} {K : Kind H P C} {at : C → Setup} {S : Setup} {F G : P → Type 0} {c : C}
    → ((p : P) → F p → G p) → Holds K at S F c → Holds K at S G c
holds_imply f h = record { setup = h.setup; fit = h.fit; all = all_imply f h.all }

module _ {H P C : Type 0} {K : Kind H P C} {at : C → Setup} {f : P → P} {W : C → C} (k : Shows K at f W) where
  pub live_fill : (c : C) (l : List P) → live K (K.fill c l) ≡ l
  live_fill c l = rw (k.count_fill c l, k.packets_fill c l) (live_row (K.new K.nothing) l)

  pub live_shown : (c : C) → live K (W c) ≡ map f (live K c)
  live_shown c = rw (k.count c, k.packets c) (map_take f (K.count c) (K.packets c))

  pub holds_fill : {S : Setup} {F : P → Type 0} (c : C) {l : List P} → at c ≡ S → length l ≤ 32 → All F l
      → Holds K at S F (K.fill c l)
  holds_fill c {l} e le a = record {
    setup = k.setup_fill c l ∙ e;
    fit = record {
      few = rw (k.count_fill c l) le;
      rest = k.packets_fill c l ∙ ap (row (K.new K.nothing)) (sym (live_fill c l));
    };
    all = rw (live_fill c l) a;
  }

  pub fit_shown : {c : C} → FitChannel K c → FitChannel K (W c)
  fit_shown {c} h = record {
    few = rw (k.count c) h.few;
    rest = k.packets c ∙ ap (map f) h.rest
        ∙ sym (map_row f (K.new K.nothing) (K.new K.nothing) k.nothing (live K c))
        ∙ ap (row (K.new K.nothing)) (sym (live_shown c));
  }

  -- a filled channel, shown
  fill_shown : (c : C) (l : List P) {l' : List P} → l' ≡ map f l → K.fill (W c) l' ≡ W (K.fill c l)
  fill_shown c l e = rw e (k.fill c l)

  -- ---- a fact of each packet, under an event
  module _ {S : Setup} {F : P → Type 0} {c : C} (h : Holds K at S F c) where
    inside : {j : ℕ} → j < K.count c → j < length (live K c)
    inside lt = omega (arith, length_live K c h.fit)

    pub packet_at_shown : (j : ℕ) → j < K.count c → packet_at K j (W c) ≡ f (packet_at K j c)
    packet_at_shown j lt = rw (live_shown c) (map_get_or f (live K c) j (K.new K.nothing) (K.new K.nothing) (inside lt))

    pub packet_at_holds : (j : ℕ) → j < K.count c → F (packet_at K j c)
    packet_at_holds j lt = all_get_d j (K.new K.nothing) h.all (inside lt)

    pub removed_shown : (j : ℕ) → removed K j (W c) ≡ W (removed K j c)
    removed_shown j = fill_shown c (remove j (live K c)) (rw (live_shown c) (map_remove f j (live K c)))

    pub removed_holds : (j : ℕ) → Holds K at S F (removed K j c)
    removed_holds j =
        let few = h.fit.few in
        holds_fill c h.setup (omega (arith, length_live K c h.fit, length_remove_le j (live K c))) (all_remove j h.all)

    -- p at the end, and p' where it is shown
    added_shown : (p' p : P) → p' ≡ f p → K.fill (W c) (live K (W c) ++ p' ∷ []) ≡ W (K.fill c (live K c ++ p ∷ []))
    added_shown p' p e = fill_shown c (live K c ++ p ∷ []) (rw (live_shown c, map_add f (live K c) p, e))

    added_holds : (p : P) → F p → K.count c < 32 → Holds K at S F (K.fill c (live K c ++ p ∷ []))
    added_holds p o lt =
        holds_fill c h.setup (omega (arith, length_added K c h.fit p)) (all_add h.all o)

    -- a refusal
    no : (n : ℕ) → Proper n → Alike W (Holds K at S F) (refused (W c) n) (refused c n)
    no n q = record { kept = h; same = refl; proper = q }

    -- 4 if there is no place j; 5 if the channel is full
    find_alike : (j : ℕ) {y y' : Out C} → (j < K.count c → Alike W (Holds K at S F) y y')
        → Alike W (Holds K at S F) (may_find (K.count (W c)) j (refused (W c)) y) (may_find (K.count c) j (refused c) y')
    find_alike j go =
        on_le (Alike W (Holds K at S F)) (K.count c) j (ap (λ (n : ℕ). leb n j) (k.count c)) (λ _. no 4 (omega arith)) go

    add_alike : {y y' : Out C} → (K.count c < 32 → Alike W (Holds K at S F) y y')
        → Alike W (Holds K at S F) (may_add (K.count (W c)) (refused (W c)) y) (may_add (K.count c) (refused c) y')
    add_alike go =
        on_le (Alike W (Holds K at S F)) 32 (K.count c) (ap (leb 32) (k.count c)) (λ _. no 5 (omega arith)) go

    pub adding_alike : (p' p : H) → K.new p' ≡ f (K.new p) → F (K.new p)
        → Alike W (Holds K at S F) (adding K p' (W c)) (adding K p c)
    adding_alike p' p e o = add_alike (λ lt. record {
      kept = added_holds _ o lt;
      same = ap done (added_shown _ _ e);
      proper = omega arith;
    })

    pub dropping_alike : (j : ℕ) → Alike W (Holds K at S F) (dropping K j (W c)) (dropping K j c)
    dropping_alike j = find_alike j (λ _. record {
      kept = removed_holds j;
      same = ap done (removed_shown j);
      proper = omega arith;
    })

    pub copying_alike : (j : ℕ) → Alike W (Holds K at S F) (copying K j (W c)) (copying K j c)
    copying_alike j = find_alike j (λ here. add_alike (λ lt. record {
      kept = added_holds _ (packet_at_holds j here) lt;
      same = ap done (added_shown _ _ (packet_at_shown j here));
      proper = omega arith;
    }))

    pub ticked_shown : (L : ℕ) → ticked_channel K L (W c) ≡ W (ticked_channel K L c)
    ticked_shown L =
        fill_shown c (aged K.age K.older L (live K c))
        (rw (live_shown c) (map_aged f K.age K.older K.age K.older L k.age k.older (live K c)))

    pub ticked_holds : {G : P → Type 0} (L : ℕ) → ((p : P) → suc (K.age p) ≤ L → F p → G (K.older p))
        → Holds K at S G (ticked_channel K L c)
    ticked_holds L g =
        let few = h.fit.few in
        holds_fill c h.setup (omega (arith, length_live K c h.fit, length_aged_le K.age K.older L (live K c)))
        (all_aged K.age K.older L g h.all)

-- ---- no such channel is malformed
every_replicate : {A : Type 0} (f : A → Bool) (z : A) → f z ≡ true → (n : ℕ) → every f (replicate n z) ≡ true
unfolding every
every_replicate f z e zero = refl
every_replicate f z e (suc n) = e and every_replicate f z e n

every_rest : {A : Type 0} (f : A → Bool) (z : A) → f z ≡ true → (l : List A) (n : ℕ) → n ≡ length l
    → every f (drop n (row z l)) ≡ true
unfolding row
every_rest f z e l n q = rw (q, drop-append_seam l (replicate (32 - length l) z)) (every_replicate f z e (32 - length l))

pub formed_of_fit : {H P C : Type 0} (K : Kind H P C) → K.is_nothing (K.new K.nothing) ≡ true
    → (right : P → Bool) {c : C} → FitChannel K c → All (λ (p : P). right p ≡ true) (live K c) → formed_channel K right c ≡ true
unfolding formed_channel
formed_of_fit {P = P} K z right {c} h a =
    le-leb _ _ h.few
    and every_is right a
    and (ap (λ (x : List P). every K.is_nothing (drop (K.count c) x)) h.rest
    ∙ every_rest K.is_nothing (K.new K.nothing) z (live K c) (K.count c) (sym (length_live K c h)))
