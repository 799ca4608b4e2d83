-- The events of a run: a stream of numbers by xorshift64, and the event that a number stands for.
use Rattle.std.specs.Prelude.{ℕ, ◌*◌, ◌/◌, ◌%◌, ◌^◌, cond, ◌==◌, bit_xor, nat_lt}
use Rattle.rules.specs.Events.{Event, accept, send, arrive, room, acknowledge, hear, dropd, dropa, dupd, dupa, tick}

unfoldable pub first_draw : ℕ → ℕ
first_draw seed = cond (seed == 0) 88172645463325252 seed

-- 64 bits, shifted up or down
abbrev pub up : ℕ → ℕ → ℕ
up n x = x * 2 ^ n % 2 ^ 64

abbrev pub down : ℕ → ℕ → ℕ
down n x = x / 2 ^ n

unfoldable pub next_draw : ℕ → ℕ
next_draw x =
    let a = bit_xor x (up 13 x) in
    let b = bit_xor a (down 7 a) in
    bit_xor b (up 17 b)

-- in 4 of 32 draws the fabric loses or copies a packet
unfoldable pub lapse : ℕ → ℕ → Event
lapse kind j = cond (nat_lt kind 29) (dropd j) (cond (nat_lt kind 30) (dropa j) (cond (nat_lt kind 31) (dupd j) (dupa j)))

-- k is the kind and v what places are made of; every row has 64 places
abbrev pub choice : ℕ → ℕ → ℕ → Event
choice x k v =
    cond (nat_lt k 3) (accept x)
    (cond (nat_lt k 10) (send (v % 4))
    (cond (nat_lt k 15) (arrive (v % 2) 64)
    (cond (nat_lt k 18) room
    (cond (nat_lt k 22) acknowledge
    (cond (nat_lt k 26) (hear (v % 2))
    (cond (nat_lt k 28) tick
    (lapse k (v % 2))))))))

unfoldable pub chosen : ℕ → Event
chosen x = choice x (x % 32) (down 8 x)
