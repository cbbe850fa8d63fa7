use Rattle.std.proofs.Common.{◌≡◌, ◌↔◌, IsTrue, Option, List, IfNone, IfSome, length, map, sym, ap, ◌∙◌, subst, rules}
use Rattle.std.specs.List.{flat_map}
use Rattle.region_paths.specs.declared.elements.Elem.{Elem}
use Rattle.region_paths.specs.Filled.{Valuation}
use Rattle.effect_meeting.specs.declared.equality.Equality.{Equality}
use Rattle.effect_meeting.specs.Equalities.{equalities_hold}
use Rattle.effect_meeting.specs.Solutions.{AreSolvedBy, NeverHold, first_by}
use Rattle.effect_meeting.specs.declared.column.Column.{Column}
use Rattle.effect_meeting.specs.declared.values.ParamValue.{ParamValue}
use Rattle.effect_meeting.specs.Values.{values_in}
use Rattle.effect_meeting.specs.Meeting.{AgreeBelow}
use Rattle.effect_meeting.specs.inner.Aligned.{at_length}
use Rattle.effect_meeting.specs.inner.Columns.{IsForcedAlong, IsMetAlong, column_equalities, columns, solved_by}
use Rattle.effect_meeting.proofs.Along.{AreNeeded, cols, forced-along, met-along, never-along}
use Rattle.effect_meeting.proofs.meeting.meeting_in_columns.Goals as goal

-- equalities that cannot hold together say that the paths do not meet
pub returns-in-None-clause-none : goal.returns-in-None-clause-none
returns-in-None-clause-none c =
    let p = c.args.first.now in
    let q = c.args.second.now in
    let zs = c.args.third.now in
    let xs : c.as_slice.result.now ≡ at_length (length zs) p = search rules in
    let ys : c.as_slice-2.result.now ≡ at_length (length zs) q = search rules in
    let made : c.as_slice-3.result.now ≡ columns c.as_slice.result.now c.as_slice-2.result.now zs = search rules in
    let all : c.as_slice-3.result.now ≡ cols c.args.shared p q zs =
    made ∙ ap (λ (us : List (Option Elem)). columns us c.as_slice-2.result.now zs) xs ∙ ap (λ (us : List (Option Elem)). columns (at_length (length zs) p) us zs) ys in
    let needed : AreNeeded c.args.shared p q zs c.in_ok-equalities.equalities =
    subst (λ (cs : List Column). (v w : Valuation) → IsTrue (equalities_hold v w c.in_ok-equalities.equalities)
    ↔ (AgreeBelow c.args.shared v w × IsTrue (equalities_hold v w (flat_map column_equalities cs)))) all c.in_ok-equalities.ensures in
    let empty : IfNone c.in_ok-solution.field-0 (NeverHold c.as_slice-4.result.now) = c.in_ok-solution.ensures.none in
    let never : NeverHold c.as_slice-4.result.now =
    subst (λ (o : Option (List Equality)). IfNone o (NeverHold c.as_slice-4.result.now)) c.in-None.is empty in
    never-along c.args.shared p q zs c.in_ok-equalities.equalities c.requires.first_formed c.requires.second_formed c.requires.plain needed
    (subst NeverHold c.as_slice-4.ensures never)

-- equalities that are solved say where they do
pub returns-clause-found : goal.returns-clause-found
returns-clause-found c =
    let p = c.args.first.now in
    let q = c.args.second.now in
    let zs = c.args.third.now in
    let xs : c.as_slice.result.now ≡ at_length (length zs) p = search rules in
    let ys : c.as_slice-2.result.now ≡ at_length (length zs) q = search rules in
    let made : c.as_slice-3.result.now ≡ columns c.as_slice.result.now c.as_slice-2.result.now zs = search rules in
    let all : c.as_slice-3.result.now ≡ cols c.args.shared p q zs =
    made ∙ ap (λ (us : List (Option Elem)). columns us c.as_slice-2.result.now zs) xs ∙ ap (λ (us : List (Option Elem)). columns (at_length (length zs) p) us zs) ys in
    let needed : AreNeeded c.args.shared p q zs c.in_ok-equalities.equalities =
    subst (λ (cs : List Column). (v w : Valuation) → IsTrue (equalities_hold v w c.in_ok-equalities.equalities)
    ↔ (AgreeBelow c.args.shared v w × IsTrue (equalities_hold v w (flat_map column_equalities cs)))) all c.in_ok-equalities.ensures in
    let there : IfSome c.in_ok-solution.field-0 (AreSolvedBy c.as_slice-4.result.now) = c.in_ok-solution.ensures.found in
    let solved : AreSolvedBy c.as_slice-4.result.now c.in-Some.steps =
    subst (λ (o : Option (List Equality)). IfSome o (AreSolvedBy c.as_slice-4.result.now)) c.in-Some.is there in
    let steps : c.as_slice-in-Some.result.now ≡ c.in-Some.steps = search rules in
    let slice : c.as_slice-in-Some-2.result.now ≡ c.as_slice-3.result.now = search rules in
    let elems : c.from.result ≡ map (solved_by c.as_slice-in-Some.result.now) c.as_slice-in-Some-2.result.now = search rules in
    let is : c.from.result ≡ map (solved_by c.in-Some.steps) (cols c.args.shared p q zs) =
    elems ∙ ap (λ (es : List Equality). map (solved_by es) c.as_slice-in-Some-2.result.now) steps
    ∙ ap (λ (cs : List Column). map (solved_by c.in-Some.steps) cs) (slice ∙ all) in
    let values = c.in_ok-values-in-Some.values in
    let told : values ≡ values_in c.args.shared p q (first_by c.in-Some.steps) = search rules in
    subst (λ (es : List Elem). IsMetAlong c.args.shared p q zs (record { elems = es; values = values })) (sym is)
    (subst (λ (us : List ParamValue). IsMetAlong c.args.shared p q zs (record { elems = map (solved_by c.in-Some.steps) (cols c.args.shared p q zs); values = us })) (sym told)
    (met-along c.args.shared p q zs c.in_ok-equalities.equalities c.in-Some.steps c.requires.first_formed c.requires.second_formed
    c.requires.first_fits c.requires.second_fits c.requires.plain needed
    (subst (λ (es : List Equality). AreSolvedBy es c.in-Some.steps) c.as_slice-4.ensures solved)))

-- and what they force
pub returns-clause-forced : goal.returns-clause-forced
returns-clause-forced c =
    let p = c.args.first.now in
    let q = c.args.second.now in
    let zs = c.args.third.now in
    let xs : c.as_slice.result.now ≡ at_length (length zs) p = search rules in
    let ys : c.as_slice-2.result.now ≡ at_length (length zs) q = search rules in
    let made : c.as_slice-3.result.now ≡ columns c.as_slice.result.now c.as_slice-2.result.now zs = search rules in
    let all : c.as_slice-3.result.now ≡ cols c.args.shared p q zs =
    made ∙ ap (λ (us : List (Option Elem)). columns us c.as_slice-2.result.now zs) xs ∙ ap (λ (us : List (Option Elem)). columns (at_length (length zs) p) us zs) ys in
    let needed : AreNeeded c.args.shared p q zs c.in_ok-equalities.equalities =
    subst (λ (cs : List Column). (v w : Valuation) → IsTrue (equalities_hold v w c.in_ok-equalities.equalities)
    ↔ (AgreeBelow c.args.shared v w × IsTrue (equalities_hold v w (flat_map column_equalities cs)))) all c.in_ok-equalities.ensures in
    let there : IfSome c.in_ok-solution.field-0 (AreSolvedBy c.as_slice-4.result.now) = c.in_ok-solution.ensures.found in
    let solved : AreSolvedBy c.as_slice-4.result.now c.in-Some.steps =
    subst (λ (o : Option (List Equality)). IfSome o (AreSolvedBy c.as_slice-4.result.now)) c.in-Some.is there in
    let steps : c.as_slice-in-Some.result.now ≡ c.in-Some.steps = search rules in
    let slice : c.as_slice-in-Some-2.result.now ≡ c.as_slice-3.result.now = search rules in
    let elems : c.from.result ≡ map (solved_by c.as_slice-in-Some.result.now) c.as_slice-in-Some-2.result.now = search rules in
    let is : c.from.result ≡ map (solved_by c.in-Some.steps) (cols c.args.shared p q zs) =
    elems ∙ ap (λ (es : List Equality). map (solved_by es) c.as_slice-in-Some-2.result.now) steps
    ∙ ap (λ (cs : List Column). map (solved_by c.in-Some.steps) cs) (slice ∙ all) in
    let values = c.in_ok-values-in-Some.values in
    subst (λ (es : List Elem). IsForcedAlong c.args.shared p q zs (record { elems = es; values = values })) (sym is)
    (forced-along c.args.shared p q zs c.in_ok-equalities.equalities c.in-Some.steps c.requires.first_formed c.requires.second_formed
    c.requires.plain needed
    (subst (λ (es : List Equality). AreSolvedBy es c.in-Some.steps) c.as_slice-4.ensures solved) values)
