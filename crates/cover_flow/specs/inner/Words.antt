-- Operations on the facts of 128 futures. Each has a bit in the two words.
use Rattle.std.specs.Prelude.{ℕ, ◌-◌, ◌^◌, bit_and, bit_or, if◌then◌else◌}
use Rattle.std.specs.Int.{bit_not, w128}
use Rattle.cover_flow.specs.declared.facts.Facts.{Facts}
use Rattle.cover_flow.specs.Flow.{is_among}

-- no path comes here, so no future is out or not out on one
abbrev pub none_come : Facts
none_come = record { out = 0; not_out = 0 }

-- at the start of a body no future is out
abbrev pub start_words : Facts
start_words = record { out = 0; not_out = 340282366920938463463374607431768211455 }

-- where two ways meet: what is so on some path of either
abbrev pub joined_words : Facts → Facts → Facts
joined_words a b = record { out = bit_or a.out b.out; not_out = bit_or a.not_out b.not_out }

-- after a spawn into the futures of the mask: they are out on each path
abbrev pub put_out_words : ℕ → Facts → Facts
put_out_words mask a = record { out = bit_or a.out (bit_and a.not_out mask); not_out = bit_and a.not_out (bit_not w128 mask) }

-- after a join of the futures of the mask: they are out on no path
abbrev pub taken_in_words : ℕ → Facts → Facts
taken_in_words mask a = record { out = bit_and a.out (bit_not w128 mask); not_out = bit_or a.not_out (bit_and a.out mask) }

-- the bit of the future, if it is one of the 128
abbrev pub mask_of : ℕ → ℕ → ℕ
mask_of first f = if is_among first f then 2 ^ (f - first) else 0
