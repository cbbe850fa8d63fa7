-- Where a cause is looked for: what a body does at a place, which effects it needs, and which bodies a rule is for.
use Rattle.std.specs.Prelude.{◌==◌, Bool, true, false, ◌&&◌, List, [], ◌∷◌, if◌then◌else◌}
use Rattle.twe_base.specs.declared.place.Place.{Place}
use Rattle.effect_sets.specs.declared.effects.Effect.{Effect}
use Rattle.effect_check.specs.declared.act.ActKind.{ActKind}
use Rattle.effect_check.specs.declared.act.ActKind.TheVariants.{Touch, Call, Make, Wait}
use Rattle.effect_check.specs.declared.rule.ERule.{ERule}
use Rattle.effect_check.specs.declared.rule.ERule.TheVariants.{E1, E2, E3, E4, E5, E6, E7, E8}
use Rattle.twe_program.specs.declared.program.Decl.{Decl}
use Rattle.twe_program.specs.Program.{Program}

-- two places are the same
abbrev pub is_at : Place → Place → Bool
is_at place other = (place.line == other.line) && (place.col == other.col)

-- This is done at the place, and needs effects: an access, a print, a call or a spawn. A wait needs none, and a task that is
-- made by `executeLater` does not need its effects here.
abbrev pub needs_at : Place → ActKind → Bool
needs_at other (Touch effect place) = is_at place other
needs_at other (Call effects place) = is_at place other
needs_at other (Make future spawned deterministic effects future_place place) = spawned && is_at place other
needs_at other (Wait future join place) = false

-- the effects that it needs
abbrev pub needs_of : ActKind → List Effect
needs_of (Touch effect place) = effect ∷ []
needs_of (Call effects place) = effects.effects
needs_of (Make future spawned deterministic effects future_place place) = effects.effects
needs_of (Wait future join place) = []

-- the rule asks for effects
abbrev pub is_of_needs : ERule → Bool
is_of_needs E1 = true
is_of_needs E2 = true
is_of_needs E3 = true
is_of_needs E4 = false
is_of_needs E5 = false
is_of_needs E6 = false
is_of_needs E7 = false
is_of_needs E8 = true

-- the rule is for methods, and not for tasks
abbrev pub is_of_methods : ERule → Bool
is_of_methods E1 = false
is_of_methods E2 = false
is_of_methods E3 = false
is_of_methods E4 = false
is_of_methods E5 = false
is_of_methods E6 = false
is_of_methods E7 = false
is_of_methods E8 = true

-- the declarations whose bodies the rule is for
abbrev pub decls_for : Program → ERule → List Decl
decls_for p rule = if is_of_methods rule then p.methods else p.tasks
