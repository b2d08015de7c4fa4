-- The ranges of an entry's parts, as tests.
use Rattle.std.specs.Prelude.{ℕ, Bool, ◌&&◌, nat_le}

-- pilot 1 to 999, berth 0 to 255, watch 0 to 3
abbrev pub duty_range : ℕ → ℕ → ℕ → Bool
duty_range p b w = nat_le 1 p && (nat_le p 999 && (nat_le b 255 && nat_le w 3))

-- class 1 to 5, last day 0 to 65,535
abbrev pub held_range : ℕ → ℕ → Bool
held_range c d = nat_le 1 c && (nat_le c 5 && nat_le d 65535)

-- reason 1 to 9
abbrev pub reason_range : ℕ → Bool
reason_range r = nat_le 1 r && nat_le r 9
