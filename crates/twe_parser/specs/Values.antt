-- The values of literals in the tree.
use Rattle.std.specs.Prelude.{ℕ, zero, suc, ℤ, pos, negsuc, min, nat_le, if◌then◌else◌}
use Rattle.twe_base.specs.Language.{max_literal}

-- The value of a literal without a sign. One that is too large has the value -2147483648; no accepted text contains one.
abbrev pub literal_value_of : ℕ → ℤ
literal_value_of n = if nat_le n max_literal then pos n else negsuc max_literal

-- the value of a literal after `-`, with the same exception
abbrev pub negative_of : ℕ → ℤ
negative_of zero = pos 0
negative_of (suc n) = negsuc (min n max_literal)
