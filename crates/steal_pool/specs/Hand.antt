-- What one pass of a deck knows.
use Rattle.std.specs.Prelude.{ℕ, ◌+◌, Bool, true, false, List, [], ◌++◌}
use Rattle.steal_pool.specs.declared.law.Hand.{Hand}

-- a pass that has pushed nothing and taken nothing
abbrev pub idle : ℕ → ℕ → Bool → Hand
idle bound takers takes = record { bound = bound; takers = takers; takes = takes; pushed = []; took = [] }

-- the owner's pass of a new deck from which `takers` passes may take
abbrev pub owner_of : ℕ → ℕ → Hand
owner_of bound takers = idle bound takers true

-- a thief's pass that has taken nothing
abbrev pub guest_of : ℕ → Hand
guest_of bound = idle bound 0 true

-- the pass that was given up when the deck was made
abbrev pub spent : ℕ → Hand
spent bound = idle bound 0 false

-- what the owner knows once it has given another worker a pass
abbrev pub sharing : Hand → Hand
sharing known = record known { takers = known.takers + 1 }

-- what the pass knows once it has pushed these numbers too
abbrev pub pushing : Hand → List ℕ → Hand
pushing known numbers = record known { pushed = known.pushed ++ numbers }

-- what the pass knows once it has taken these numbers too
abbrev pub taking : Hand → List ℕ → Hand
taking known numbers = record known { took = known.took ++ numbers }
