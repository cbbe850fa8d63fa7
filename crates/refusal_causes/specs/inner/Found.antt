-- The failures that were found so far, in a map by their places and the numbers of their rules.
use Rattle.std.specs.Prelude.{◌≡◌, Option, None}
use Rattle.std.specs.declared.cmp.Ordering.{Ordering}
use Rattle.std.specs.Ordering.{nat_cmp, ordering_then}
use Rattle.std.specs.List.{All}
use Rattle.std.specs.BTreeMap as tree
use Rattle.twe_base.specs.declared.place.Place.{Place}
use Rattle.twe_program.specs.Program.{Program}
use Rattle.effect_check.specs.declared.rule.ERule.{ERule}
use Rattle.effect_check.specs.FailsEffect.{effect_rule_number}
use Rattle.refusal_causes.specs.declared.found.CausedFailure.{CausedFailure}
use Rattle.refusal_causes.specs.declared.found.FailureKey.{FailureKey}
use Rattle.refusal_causes.specs.declared.found.FoundFailures.{FoundFailures}
use Rattle.refusal_causes.specs.Listing.{IsCausedFailure}

-- by line, by column, and then by number
abbrev pub key_cmp : FailureKey → FailureKey → Ordering
key_cmp a b = ordering_then (nat_cmp a.line b.line) (ordering_then (nat_cmp a.col b.col) (nat_cmp a.number b.number))

-- where the failure of the rule at the place stands in the map
abbrev pub key_of : ERule → Place → FailureKey
key_of rule place = record { line = place.line; col = place.col; number = effect_rule_number rule }

-- what was found of the rule at the place
abbrev pub found_at : FoundFailures → ERule → Place → Option CausedFailure
found_at found rule place = tree.get key_cmp found.entries (key_of rule place)

-- nothing was
abbrev pub IsUnlisted : FoundFailures → ERule → Place → Type 0
IsUnlisted found rule place = found_at found rule place ≡ None

-- the entry has a failure with a cause, and stands where it should
abbrev pub IsEntry : Program → FailureKey × CausedFailure → Type 0
IsEntry p entry = (entry.0 ≡ key_of entry.1.rule entry.1.place) × IsCausedFailure p entry.1

-- all entries are such ones, and in order
pub record IsSound (p : Program) (found : FoundFailures) : Type 0 where
  pub entries : All (IsEntry p) found.entries.entries
  pub ordered : tree.IsOrdered key_cmp found.entries

-- what was found is still there, and sound if it was
pub record Grows (p : Program) (before after : FoundFailures) : Type 0 where
  pub keeps : (rule : ERule) (place : Place) → IsUnlisted after rule place → IsUnlisted before rule place
  pub sound : IsSound p before → IsSound p after
