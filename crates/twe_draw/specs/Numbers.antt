-- Words with a number.
use Rattle.std.specs.Prelude.{◌++◌, ℕ, List, decimal}

-- words and a number
abbrev pub with_number : List ℕ → ℕ → List ℕ
with_number words number = words ++ decimal number
