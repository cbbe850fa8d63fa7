-- Which enabled tasks leave a mark.
use Rattle.std.specs.Prelude.{◌≡◌, ◌<◌, ◌≤◌, ℕ, Bool, false, List, Option, None, Some, IsTrue, length, min, slice_get}
use Rattle.std.specs.BTreeSet.{BTreeSet, contains}
use Rattle.std.specs.List.{Contains}
use Rattle.std.specs.Ordering.{nat_cmp}
use Rattle.held_span.specs.declared.marks.EffectMark.{EffectMark}
use Rattle.held_span.specs.declared.marks.EffectMark.TheVariants.{Own, Rival}
use Rattle.held_span.specs.declared.holders.Holders.{Holders}

-- whether a set that was found has the task
abbrev pub has_found : Option (BTreeSet ℕ) → ℕ → Bool
has_found None task = false
has_found (Some set) task = contains nat_cmp set task

-- the set of this number has the task
abbrev pub IsInSet : List (BTreeSet ℕ) → ℕ → ℕ → Type 0
IsInSet sets at task = IsTrue (has_found (slice_get sets at) task)

-- the set has this number, and the task that
abbrev pub IsEntry : ℕ → ℕ → ℕ → ℕ → Type 0
IsEntry at task i t = (i ≡ at) × (t ≡ task)

-- this is the lowest number of which this holds, if there is one
abbrev pub IsLowestOf : (ℕ → Type 0) → Option ℕ → Type 0
IsLowestOf P None = (n : ℕ) → ¬ P n
IsLowestOf P (Some lowest) = P lowest × ((n : ℕ) → P n → lowest ≤ n)

-- the lower of two numbers, as far as they are there
abbrev pub lower : Option ℕ → Option ℕ → Option ℕ
lower None b = b
lower (Some a) None = Some a
lower (Some a) (Some b) = Some (min a b)

-- the task leaves the mark
abbrev pub Holds : Holders → EffectMark → ℕ → Type 0
Holds holders (Own effect) task = IsInSet holders.own effect task
Holds holders (Rival effect) task = IsInSet holders.rival effect task

-- the task leaves one of these marks
abbrev pub HoldsOne : Holders → List EffectMark → ℕ → Type 0
HoldsOne holders marks task = (mark : EffectMark) × Contains marks mark × Holds holders mark task

-- there are sets for so many effects
pub record HasRoomFor (holders : Holders) (effects : ℕ) : Type 0 where
  pub own : length holders.own ≡ effects
  pub rival : length holders.rival ≡ effects

-- there is a set for the mark
abbrev pub IsForMark : Holders → EffectMark → Type 0
IsForMark holders (Own effect) = effect < length holders.own
IsForMark holders (Rival effect) = effect < length holders.rival

-- there are sets for the marks for which there were some
pub record KeepsRoom (old new : Holders) : Type 0 where
  pub own : length new.own ≡ length old.own
  pub rival : length new.rival ≡ length old.rival
