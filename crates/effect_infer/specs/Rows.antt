-- Lists of lists, one for each method.
use Rattle.std.specs.Prelude.{◌≡◌, ◌<◌, ◌==◌, ◌&&◌, ℕ, Bool, List, [], ◌∷◌, ◌++◌, length, replicate, Some, slice_get, slice_set, slice_index_or, Contains}
use Rattle.region_paths.specs.Inside.{each_within}
use Rattle.effect_infer.specs.declared.found.CallSite.{CallSite}

-- the list of this method, which is empty if there is none
abbrev pub row : {X : Type 0} → List (List X) → ℕ → List X
row lists at = slice_index_or lists at []

-- an empty list for each method
abbrev pub no_rows : {X : Type 0} → ℕ → List (List X)
no_rows count = replicate count []

-- the lists with an item more in that of this method
abbrev pub with_item : {X : Type 0} → List (List X) → ℕ → X → List (List X)
with_item lists at item = slice_set lists at (row lists at ++ item ∷ [])

-- the calls are equal
abbrev pub same_call : CallSite → CallSite → Bool
same_call a b =
    (a.callee == b.callee) && ((a.caller == b.caller) && ((a.params == b.params)
    && (each_within a.args b.args && each_within b.args a.args)))

-- the list of each method has a place of each of its calls, one place where calls are equal
pub record ListsCalls (methods : ℕ) (calls : List CallSite) (callers : List (List ℕ)) : Type 0 where
  pub long : length callers ≡ methods
  pub all : (place : ℕ) (call : CallSite) → slice_get calls place ≡ Some call → call.callee < methods
      → (same : ℕ) × (slice_get calls same ≡ Some call) × Contains (row callers call.callee) same
