-- The draws of a drill: a linear congruential generator of 64 bits with Knuth's constants for MMIX
-- (The Art of Computer Programming, volume 2, section 3.3.4).
use Rattle.std.specs.Prelude.{ℕ, zero, suc, ◌+◌, ◌*◌, ◌/◌, ◌%◌, ◌^◌}

abbrev pub next_state : ℕ → ℕ
next_state state = (state * 6364136223846793005 + 1442695040888963407) % 2 ^ 64

-- the state after n draws, of which the first is made from the seed
unfoldable pub state_after : ℕ → ℕ → ℕ
state_after seed zero = seed
state_after seed (suc n) = next_state (state_after seed n)

-- what a draw gives that leaves this state: its upper 31 bits
abbrev pub upper_bits : ℕ → ℕ
upper_bits state = state / 2 ^ 33

-- what draw n gives; draws count from 0
abbrev pub draw : ℕ → ℕ → ℕ
draw seed n = upper_bits (state_after seed (n + 1))
