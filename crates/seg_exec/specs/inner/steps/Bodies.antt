-- The variables of all active bodies.
use Rattle.std.specs.Prelude.{ℕ, ◌-◌, ℤ, List, ◌++◌, drop, length, take}

-- the variables of the active body, and those of its callers in one list, the first caller first
pub record Bodies : Type 0 where
  pub callers : List ℤ
  pub active : List ℤ

-- the last items of a list, so many
abbrev pub last_of : ℕ → List ℤ → List ℤ
last_of count xs = drop (length xs - count) xs

-- the items before the last ones, of which there are so many
abbrev pub before_last : ℕ → List ℤ → List ℤ
before_last count xs = take (length xs - count) xs

-- a body is called: the variables after the first ones, of which there are so many, are its own
abbrev pub called : ℕ → Bodies → Bodies
called count b = record { callers = b.callers ++ take count b.active; active = drop count b.active }

-- the active body is left: its caller, which has so many variables, is the active one
abbrev pub left : ℕ → Bodies → Bodies
left count b = record { callers = before_last count b.callers; active = last_of count b.callers }

-- the active body has these variables
abbrev pub with_active : List ℤ → Bodies → Bodies
with_active vars b = record b { active = vars }
