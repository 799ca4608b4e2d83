-- What a script prints, from any bytes: `listing`. Bytes are cut at line feeds; what stands after the last one is no whole line.
-- The arithmetic is a parameter here too: the code gives the listing on wrapped numbers, and specs/Agreement.antt says that it is the
-- one on whole numbers.
use Rattle.std.specs.Prelude.{ℕ, ◌+◌, ◌^◌, Bool, cond, List, [], ◌∷◌, ◌++◌, length, ◌==◌, nat_lt, slice_index}
use Rattle.rules.specs.declared.Setup.{Setup}
use Rattle.rules.specs.declared.Bench.{Bench}
use Rattle.rules.specs.declared.Event.{Event}
use Rattle.rules.specs.Numbers.{Arith}
use Rattle.rules.specs.Setups.{◌also◌, admitted}
use Rattle.rules.specs.Parts.{fresh_bench}
use Rattle.rules.specs.Events as rules
use Rattle.rules.specs.Asked.{event_of}
use Rattle.rules.specs.Operations.{step}
use Rattle.reader.specs.Text.{bytes}
use Rattle.reader.specs.Cuts.{split, is_none}
use Rattle.reader.specs.Values.{on_value}
use Rattle.reader.specs.Lines.{line_of, setup_value}
use Rattle.writer.specs.Decimal.{decimal}
use Rattle.writer.specs.Lines.{event_line}

-- ---- the lines, each with its line feed; the line of an event is `event_line`: its number, the answer, the delivered units
-- a word, a space and a number
unfoldable pub word_line : List ℕ → ℕ → List ℕ
word_line w n = w ++ (32 ∷ (decimal n ++ (10 ∷ [])))

abbrev pub bad_input : List ℕ
bad_input = bytes "bad input\n"

abbrev pub bad_line : ℕ → List ℕ
bad_line n = word_line (bytes "bad line") n

abbrev pub setup_line : ℕ → List ℕ
setup_line n = word_line (bytes "setup") n

-- ---- lines joined
unfoldable pub joined : List (List ℕ) → List ℕ
joined [] = []
joined (l ∷ ls) = l ++ joined ls

-- ---- the setup
abbrev pub setup_of : List ℕ → Setup
setup_of vs = record {
  window = slice_index vs 0;
  seqbits = slice_index vs 1;
  clockbits = slice_index vs 2;
  life = slice_index vs 3;
  rate = slice_index vs 4;
  seq = slice_index vs 5;
  sclock = slice_index vs 6;
  rclock = slice_index vs 7;
}

-- no value is too large for its field of 32 bits
unfoldable pub in_fields : Setup → Bool
in_fields S =
    nat_lt S.window (2 ^ 32)
    also nat_lt S.seqbits (2 ^ 32)
    also nat_lt S.clockbits (2 ^ 32)
    also nat_lt S.life (2 ^ 32)
    also nat_lt S.rate (2 ^ 32)
    also nat_lt S.seq (2 ^ 32)
    also nat_lt S.sclock (2 ^ 32)
    also nat_lt S.rclock (2 ^ 32)

-- ---- events
-- what no line feed ends: nothing, or a bad line
abbrev pub unfinished : ℕ → List ℕ → List (List ℕ)
unfinished l [] = []
unfinished l (b ∷ t) = bad_line l ∷ []

-- ---- by what an event does, at the arithmetic
module _ (A : Setup → Arith) where
  -- an event of the bench; the lent row has 64 places
  abbrev pub outcome : Bench → Event → rules.Out Bench
  outcome b e = step A (event_of e 64) b

  -- line l of the script is next, and e is the number of the next event: a bad line ends the run
  unfoldable pub events_from : Bench → ℕ → ℕ → List (List ℕ) → List (List ℕ)
  events_from b l e [] = []
  events_from b l e (p ∷ ps) =
      cond (is_none ps) (unfinished l p)
      (on_value (line_of p) (bad_line l ∷ [])
      (λ ev.
      event_line e (outcome b ev).answer (outcome b ev).units ∷ events_from (outcome b ev).state (l + 1) (e + 1) ps))

  -- all eight values are read, and the setup is judged; the events start on line 9
  unfoldable pub judged : Setup → List (List ℕ) → List (List ℕ)
  judged S ps = cond (in_fields S also admitted S) (setup_line 0 ∷ events_from (fresh_bench S) 9 1 ps) (setup_line 1 ∷ [])

  -- setup line n is next, and vs are the values before it: a missing, unfinished or bad one prints only that
  unfoldable pub setup_from : ℕ → List ℕ → List (List ℕ) → List (List ℕ)
  setup_from n vs [] = bad_line n ∷ []
  setup_from n vs (p ∷ ps) =
      cond (n == 9) (judged (setup_of vs) (p ∷ ps))
      (cond (is_none ps) (bad_line n ∷ [])
      (on_value (setup_value n p) (bad_line n ∷ []) (λ v. setup_from (n + 1) (vs ++ v ∷ []) ps)))

  unfoldable pub lines : List ℕ → List (List ℕ)
  lines s = cond (nat_lt 65536 (length s)) (bad_input ∷ []) (setup_from 1 [] (split 10 s))

  unfoldable pub listing : List ℕ → List ℕ
  listing s = joined (lines s)
