-- How the sets of two written paths relate to each other.
use Rattle.region_paths.specs.Written.{WrittenPath}
use Rattle.region_paths.specs.Concrete.{ConcretePath, InSet}

-- each concrete path of the first set is in the second
abbrev pub SetWithin : WrittenPath → WrittenPath → Type 0
SetWithin p q = (c : ConcretePath) → InSet p c → InSet q c

-- some concrete path is in both sets
abbrev pub SetsMeet : WrittenPath → WrittenPath → Type 0
SetsMeet p q = (c : ConcretePath) × InSet p c × InSet q c

-- no concrete path is in both sets
abbrev pub SetsApart : WrittenPath → WrittenPath → Type 0
SetsApart p q = (c : ConcretePath) → InSet p c → ¬ InSet q c
