-- How the list of needs that were found grows, until it covers all.
use Rattle.std.specs.Prelude.{◌≡◌, ◌⊎◌, ◌<◌, ◌≤◌, ℕ, List, ◌++◌, Some, slice_get, Contains}
use Rattle.twe_program.specs.Program.{Program}
use Rattle.effect_infer.specs.declared.needs.need.Need.{Need}
use Rattle.effect_infer.specs.needs.Needs.{IsNeed, Widens}
use Rattle.effect_infer.specs.declared.found.FoundNeed.{FoundNeed}
use Rattle.effect_infer.specs.declared.found.CallSite.{CallSite}
use Rattle.effect_infer.specs.Gathered.{handed}
use Rattle.effect_infer.specs.Kept.{method_rank}
use Rattle.effect_infer.specs.Crowded.{IsCrowded}

-- a need of the method is covered by one that was found
abbrev pub IsCovered : List FoundNeed → FoundNeed → Type 0
IsCovered all need = (wide : FoundNeed) × Contains all wide × (wide.method ≡ need.method) × Widens wide.need need.need

-- a need of the method is covered, or whatever covers what was found with few effects covers it
abbrev pub IsMet : List FoundNeed → FoundNeed → Type 0
IsMet all need = IsCovered all need ⊎ IsCrowded all need

-- the list grows at its end by nothing but these needs, and meets them then
pub record SummaryGrows (old new : List FoundNeed) (Added : FoundNeed → Type 0) : Type 0 where
  pub longer : (more : List FoundNeed) × (new ≡ old ++ more)
  pub only : (need : FoundNeed) → Contains new need → Contains old need ⊎ Added need
  pub all : (need : FoundNeed) → Added need → IsMet new need

-- the call hands a need of this method on
abbrev pub IsHanded : CallSite → ℕ → Need → FoundNeed → Type 0
IsHanded call method need found = (call.callee ≡ method) × (found ≡ handed call need)

-- a call at one of these places does
abbrev pub IsHandedBy : List CallSite → List ℕ → ℕ → Need → FoundNeed → Type 0
IsHandedBy calls places method need found =
    (place : ℕ) × (call : CallSite) × Contains places place
    × (slice_get calls place ≡ Some call) × IsHanded call method need found

-- a need that calls lead to from one of those at the start
pub data MethodIsReached (starts : List FoundNeed) (calls : List CallSite) : FoundNeed → Type 0 where
  start : (need : FoundNeed) → Contains starts need → MethodIsReached starts calls need
  further : (need : FoundNeed) (call : CallSite) → MethodIsReached starts calls need → Contains calls call
      → call.callee ≡ need.method
      → MethodIsReached starts calls (handed call need.need)

-- calls lead to each need from one of those at the start
abbrev pub ComesFrom : List FoundNeed → List CallSite → List FoundNeed → Type 0
ComesFrom starts calls all = (need : FoundNeed) → Contains all need → MethodIsReached starts calls need

-- what the calls hand on of each need before this place is met
abbrev pub HandsOnBefore : ℕ → List CallSite → ℕ → List FoundNeed → Type 0
HandsOnBefore methods calls at all =
    (k : ℕ) (need : FoundNeed) (call : CallSite) → k < at → slice_get all k ≡ Some need → Contains calls call
    → call.callee ≡ need.method → call.callee < methods → IsMet all (handed call need.need)

-- what the calls hand on of each need is met
abbrev pub HandsOnAll : ℕ → List CallSite → List FoundNeed → Type 0
HandsOnAll methods calls all =
    (need : FoundNeed) (call : CallSite) → Contains all need → Contains calls call
    → call.callee ≡ need.method → call.callee < methods → IsMet all (handed call need.need)

-- the list has grown by needs that calls lead to from these, until each need that a call hands on is met
pub record Spreads (methods : ℕ) (calls : List CallSite) (starts old new : List FoundNeed) : Type 0 where
  pub longer : (more : List FoundNeed) × (new ≡ old ++ more)
  pub only : ComesFrom starts calls new
  pub all : HandsOnAll methods calls new

-- calls lead to each need from one of these, and what they hand on is met; so are those of these that have at least this rank
pub record HasSpread (methods : ℕ) (calls : List CallSite) (starts : List FoundNeed) (least : ℕ) (all : List FoundNeed) : Type 0 where
  pub only : ComesFrom starts calls all
  pub handed_on : HandsOnAll methods calls all
  pub met : (need : FoundNeed) → Contains starts need → least ≤ method_rank need.need → IsMet all need

-- what was found is needed, and meets all that is needed
pub record HasFoundAll (p : Program) (all : List FoundNeed) : Type 0 where
  pub only : (found : FoundNeed) → Contains all found → IsNeed p found.method found.need
  pub met : (found : FoundNeed) → IsNeed p found.method found.need → IsMet all found
