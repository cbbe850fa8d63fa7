-- When what is there does not do for what is needed, by which rule.
use Rattle.std.specs.Prelude.{ℕ, Bool, not, ◌&&◌, ◌||◌, ◌==◌, Option, None, Some, is_some, if◌then◌else◌}
use Rattle.twe_ast.specs.declared.item.ReturnType.{ReturnType}
use Rattle.name_check.specs.declared.binding.Binding.{Binding}
use Rattle.name_check.specs.declared.binding.NameUse.{NameUse}
use Rattle.name_check.specs.declared.rule.NRule.{NRule}
use Rattle.name_check.specs.FailsName.{fits, name_rule_number}
use Rattle.name_check.specs.inner.Failures.{assigns_constant, differs, has_other_count, is_void, lacks_value}
use Rattle.name_causes.specs.declared.need.NameNeed.{NameNeed}
use Rattle.name_causes.specs.declared.need.NameNeed.TheVariants.{Used, Typed, New, Returned, Again, NoReturn, Over, NoMain, SecondStar}

-- the number in the rule's name is this one
abbrev pub is_numbered : ℕ → NRule → Bool
is_numbered number rule = name_rule_number rule == number

-- By this rule a name with this binding may not be used so: it is of another kind, or gives no value; it has another number of
-- parameters; it is constant.
abbrev pub misuses : NRule → NameUse → Binding → Bool
misuses rule name_use found =
    (is_numbered 3 rule && (not (fits name_use found) || lacks_value name_use found))
    || ((is_numbered 4 rule && has_other_count name_use found) || (is_numbered 6 rule && assigns_constant name_use found))

-- the same of a name that has no binding if it is not in scope
abbrev pub breaks_use : NRule → NameUse → Option Binding → Bool
breaks_use rule name_use None = is_numbered 1 rule
breaks_use rule name_use (Some found) = misuses rule name_use found

-- a `return` has a value, and nothing is returned; or it has none, and a value is
abbrev pub returns_otherwise : Bool → ReturnType → Bool
returns_otherwise valued returns = if valued then is_void returns else not (is_void returns)

-- by this rule what is there does not do for what is needed
abbrev pub breaks : NRule → NameNeed → Bool
breaks rule (Used name_use found) = breaks_use rule name_use found
breaks rule (Typed need found) = is_numbered 3 rule && differs need found
breaks rule (New found) = is_numbered 2 rule && is_some found
breaks rule (Returned valued returns) = is_numbered 3 rule && returns_otherwise valued returns
breaks rule Again = is_numbered 2 rule
breaks rule (NoReturn decl_place) = is_numbered 5 rule
breaks rule (Over limit count) = is_numbered 7 rule
breaks rule (NoMain found) = is_numbered 8 rule
breaks rule (SecondStar first) = is_numbered 9 rule
