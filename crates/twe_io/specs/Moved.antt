-- The bytes of one read or one write.
use Rattle.std.specs.Prelude.{ℕ, List, take, Option, None, Some}

-- the bytes that a call moved: as many from the front of these as it answered; `None` if it failed
abbrev pub moved : Option ℕ → List ℕ → Option (List ℕ)
moved None bytes = None
moved (Some n) bytes = Some (take n bytes)
