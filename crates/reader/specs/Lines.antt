-- Lines, without their line feed: a key, `=` and a value. A key is exactly one of the table's; any other line is bad, None.
use Rattle.std.specs.Prelude.{ℕ, ◌+◌, ◌-◌, cond, List, [], ◌∷◌, length, take, drop, ◌==◌, Option, Some, None, option_map}
use Prim.Native.String.{String}
use Rattle.rules.specs.declared.Event.{Event}
use Rattle.rules.specs.declared.Event.TheVariants.{Accept, Send, Data, Hear, DropD, DropA, DupD, DupA, Room, Ack, Tick}
use Rattle.std.specs.Str.{bytes_eq}
use Rattle.reader.specs.Text.{bytes}
use Rattle.reader.specs.Cuts.{index_of}
use Rattle.reader.specs.Values.{value_of, on_value}

-- ---- a key and a value
-- the key up to the first `=`, the value after it
abbrev pub key_part : List ℕ → List ℕ
key_part l = take (index_of 61 l) l

abbrev pub value_part : List ℕ → List ℕ
value_part l = drop (index_of 61 l + 1) l

-- both; None if there is no `=` or no value
unfoldable pub field_of : List ℕ → Option (List ℕ × ℕ)
field_of l = cond (index_of 61 l == length l) None (option_map (λ x. (key_part l, x)) (value_of (value_part l)))

-- ---- setup lines
abbrev pub setup_keys : List (List ℕ)
setup_keys =
    bytes "window"
    ∷ bytes "seqbits"
    ∷ bytes "clockbits"
    ∷ bytes "life"
    ∷ bytes "rate"
    ∷ bytes "seq"
    ∷ bytes "sclock"
    ∷ bytes "rclock"
    ∷ []

-- the n-th of the words, from 1
unfoldable pub nth : ℕ → List (List ℕ) → Option (List ℕ)
nth n [] = None
nth n (w ∷ ws) = cond (n == 1) (Some w) (nth (n - 1) ws)

-- the value of a line that has the n-th setup key
unfoldable pub setup_value : ℕ → List ℕ → Option ℕ
setup_value n l =
    on_value (field_of l) None
    (λ f. on_value (nth n setup_keys) None (λ w. cond (bytes_eq f.0 w) (Some f.1) None))

-- ---- event lines
-- room, ack and tick have the value 1
abbrev pub only_one : Event → ℕ → Option Event
only_one e x = cond (x == 1) (Some e) None

-- a key, and the event that it makes of a value
pub record Entry : Type 0 where
  pub key : List ℕ
  pub line : ℕ → Option Event

abbrev pub entry : String → (ℕ → Option Event) → Entry
entry k f = record { key = bytes k; line = f }

abbrev pub events : List Entry
events =
    entry "accept" (λ u. Some (Accept u))
    ∷ entry "send" (λ k. Some (Send k))
    ∷ entry "data" (λ j. Some (Data j))
    ∷ entry "hear" (λ j. Some (Hear j))
    ∷ entry "dropd" (λ j. Some (DropD j))
    ∷ entry "dropa" (λ j. Some (DropA j))
    ∷ entry "dupd" (λ j. Some (DupD j))
    ∷ entry "dupa" (λ j. Some (DupA j))
    ∷ entry "room" (only_one Room)
    ∷ entry "ack" (only_one Ack)
    ∷ entry "tick" (only_one Tick)
    ∷ []

-- what the entry of the key k makes of the value x
unfoldable pub event_for : List ℕ → ℕ → List Entry → Option Event
event_for k x [] = None
event_for k x (e ∷ es) = cond (bytes_eq k e.key) (e.line x) (event_for k x es)

unfoldable pub line_of : List ℕ → Option Event
line_of l = on_value (field_of l) None (λ f. event_for f.0 f.1 events)
