-- Whether equalities can hold together, by one term in the place of another.
use Rattle.std.specs.Prelude.{Bool, true, false, ◌&&◌, ◌||◌, List, [], ◌∷◌, ◌++◌, Option, None, Some, is_some, if◌then◌else◌}
use Rattle.std.specs.List.{list_any}
use Rattle.effect_meeting.specs.declared.equality.Term.{Term}
use Rattle.effect_meeting.specs.declared.equality.Term.TheVariants.{Literal, First, Second}
use Rattle.effect_meeting.specs.declared.equality.Equality.{Equality}
use Rattle.effect_meeting.specs.Equalities.{same_term}
use Rattle.effect_meeting.specs.PathEqualities.{equal_terms}

-- the right side of the step in the place of its left side
abbrev pub replaced : Equality → Term → Term
replaced step term = if same_term term step.left then step.right else term

-- the term after all of the steps, one after the other
abbrev pub after_steps : List Equality → Term → Term
after_steps [] term = term
after_steps (step ∷ steps) term = after_steps steps (replaced step term)

-- the term is a literal
abbrev pub is_literal : Term → Bool
is_literal (Literal i) = true
is_literal (First k) = false
is_literal (Second k) = false

-- the steps, and those after them that solve the equalities, if these can hold together
abbrev pub steps_after : List Equality → List Equality → Option (List Equality)
steps_after steps [] = Some steps
steps_after steps (e ∷ es) =
    let left = after_steps steps e.left in
    let right = after_steps steps e.right in
    if same_term left right
    then steps_after steps es
    else if is_literal left
    then (if is_literal right then None else steps_after (steps ++ equal_terms right left ∷ []) es)
    else steps_after (steps ++ equal_terms left right ∷ []) es

-- all of the equalities can hold together
abbrev pub can_hold : List Equality → Bool
can_hold es = is_some (steps_after [] es)

-- the equalities have the same terms, in one order
abbrev pub same_equality : Equality → Equality → Bool
same_equality e f = same_term e.left f.left && same_term e.right f.right

-- where these equalities are said, another one says nothing new: it always holds, or it is one of them
abbrev pub says_nothing_new : List Equality → Equality → Bool
says_nothing_new said e = same_term e.left e.right || list_any (same_equality e) said

-- those of the equalities that say something new after these, each once
abbrev pub telling_after : List Equality → List Equality → List Equality
telling_after said [] = []
telling_after said (e ∷ es) =
    if says_nothing_new said e
    then telling_after said es
    else e ∷ telling_after (said ++ e ∷ []) es

-- the equalities but for those that always hold, each once, where it comes first
abbrev pub telling : List Equality → List Equality
telling es = telling_after [] es
