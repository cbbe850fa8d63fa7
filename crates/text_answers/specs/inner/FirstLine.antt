-- The first line of a text.
use Rattle.std.specs.Prelude.{◌==◌, ℕ, suc, List, [], ◌∷◌, if◌then◌else◌}

-- its length, with the byte 10 that ends it
abbrev pub line_length : List ℕ → ℕ
line_length [] = 0
line_length (byte ∷ text) = if byte == 10 then 1 else suc (line_length text)
