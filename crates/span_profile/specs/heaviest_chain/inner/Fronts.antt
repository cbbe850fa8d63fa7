-- For each key the highest of the nodes that gave it.
use Rattle.std.specs.Prelude.{ℕ, suc, Bool, List, [], ◌∷◌, ◌++◌, Option, None, Some, if◌then◌else◌, slice_get}
use Rattle.span_profile.specs.declared.heaviest_chain.key.Key.{Key}
use Rattle.span_profile.specs.declared.heaviest_chain.key.Key.TheVariants.{Task, Value, Write, Access}
use Rattle.span_profile.specs.declared.heaviest_chain.fronts.Fronts.{Fronts}
use Rattle.span_profile.specs.declared.heaviest_chain.top.Top.{Top}
use Rattle.span_profile.specs.heaviest_chain.BestChains.{Giver}
use Rattle.span_profile.specs.heaviest_chain.inner.Tops.{higher}

-- an entry of a table, and none beyond the table's end
abbrev pub top_found : Option (Option Top) → Option Top
top_found None = None
top_found (Some top) = top

-- the entry of the table at this number
abbrev pub top_in : List (Option Top) → ℕ → Option Top
top_in tops at = top_found (slice_get tops at)

-- the highest of the nodes that gave the key, if one did
abbrev pub front_at : Fronts → Key → Option Top
front_at fronts (Task task) = top_in fronts.tasks task
front_at fronts (Value task) = top_in fronts.values task
front_at fronts (Write place) = top_in fronts.writes place
front_at fronts (Access place) = top_in fronts.accesses place

-- no node has given a key
abbrev pub no_fronts : Fronts
no_fronts = record { tasks = []; values = []; writes = []; accesses = [] }

-- the entries of a table for keys of one kind, whose first number is this one
abbrev pub givers_from : (ℕ → Key) → ℕ → List (Option Top) → List Giver
givers_from kind n [] = []
givers_from kind n (None ∷ tops) = givers_from kind (suc n) tops
givers_from kind n (Some top ∷ tops) = record { key = kind n; top = top } ∷ givers_from kind (suc n) tops

-- the keys that were given, each with the highest of the nodes that gave it
abbrev pub givers_in : Fronts → List Giver
givers_in fronts =
    (givers_from Task 0 fronts.tasks ++ givers_from Value 0 fronts.values)
    ++ (givers_from Write 0 fronts.writes ++ givers_from Access 0 fronts.accesses)

-- the highest node of a key after a further node, which gave the key or did not
abbrev pub front_after : Bool → Option Top → Top → Option Top
front_after given before top = if given then higher before (Some top) else before
