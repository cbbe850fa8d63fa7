-- What is said of a refusal, before it is laid out.
use Rattle.std.specs.Prelude.{ℕ, Bool, ◌||◌, List, [], ◌∷◌, ◌++◌, Option, codes, if◌then◌else◌}
use Rattle.twe_base.specs.declared.place.Place.{Place}
use Rattle.effect_sets.specs.declared.effects.Effect.{Effect}
use Rattle.twe_ast.specs.declared.name.Name as written
use Rattle.twe_frontend.specs.meaning.EffectTexts.{effect_text, effects_text}
use Rattle.refusal_causes.specs.declared.way.ControlWay.{ControlWay}
use Rattle.twe_frontend.specs.declared.refusal.Refusal.{Refusal}
use Rattle.refusal_causes.specs.declared.cause.RuleCause.{RuleCause}
use Rattle.refusal_causes.specs.declared.cause.RuleCause.TheVariants.{Undeclared, Out, NotOut, OutAgain, OrderOpen, NotDeterministic}
use Rattle.explain_pages.specs.declared.places.note.Explanation.{Explanation}
use Rattle.refusal_notes.specs.Effects.{has_any_index}
use Rattle.explain_pages.specs.names.Sentences.{asked, wrong}
use Rattle.explain_pages.specs.places.Notes.{note_at}
use Rattle.refusal_notes.specs.Ruled.{child_explanation, join_explanation, order_explanation, spawn_explanation}
use Rattle.refusal_notes.specs.Ways.{out_reason}

-- what every failure of a rule has: the sentences of the rule, and the place
abbrev pub explanation_of : Refusal → Explanation
explanation_of refusal = record {
  headline = wrong refusal.rule;
  notes = note_at refusal.place [] ∷ [];
  remarks = asked refusal.rule ∷ [];
}

-- some words, and then an effect between accents
abbrev pub with_effect : List ℕ → List (List ℕ) → List written.Name → Effect → List ℕ
with_effect words regions variables effect = words ++ (effect_text regions variables effect ++ codes "`")

-- what a declaration declares
abbrev pub declares_text : List (List ℕ) → List written.Name → List Effect → List ℕ
declares_text regions variables effects = codes "declares `" ++ (effects_text regions variables effects ++ codes "`")

-- what is said of `[?]`, if it stands in an effect that is shown
abbrev pub index_remarks : Bool → List ℕ → List (List ℕ)
index_remarks stands said = if stands then said ∷ [] else []

-- how an effect that is declared has any index
abbrev pub declared_index_text : List ℕ
declared_index_text = codes "[?] is any index: an effect that is declared has it only by `[?]` or `*`"

-- how the rule tells elements apart
abbrev pub literal_index_text : List ℕ
literal_index_text = codes "[?] is any index: the rule tells elements apart by literal indexes alone"

-- an effect is needed that is not declared
abbrev pub undeclared_explanation : Refusal → Place → List ℕ → List ℕ → Bool → Explanation
undeclared_explanation refusal decl_place declares needs any_index = record {
  headline = codes "an effect is needed here that is not declared";
  notes = note_at decl_place declares ∷ note_at refusal.place needs ∷ [];
  remarks = asked refusal.rule ∷ index_remarks any_index declared_index_text;
}

-- an effect is needed that a spawned task may still have
abbrev pub out_explanation : Refusal → Place → Option ControlWay → List ℕ → List ℕ → Bool → Explanation
out_explanation refusal future_place way has needs any_index = record {
  headline = codes "an effect is needed here that may still be out with a spawned task";
  notes = note_at future_place has ∷ note_at refusal.place needs ∷ [];
  remarks = out_reason way ∷ index_remarks any_index literal_index_text;
}

-- what is said of a refusal with its cause
abbrev pub explanation_by : Refusal → RuleCause → List (List ℕ) → List written.Name → Explanation
explanation_by refusal (Undeclared need declared decl_place) regions variables =
    undeclared_explanation refusal decl_place (declares_text regions variables declared.effects)
    (with_effect (codes "needs `") regions variables need) (has_any_index need.path)
explanation_by refusal (Out need other future_place way decl_place) regions variables =
    out_explanation refusal future_place way (with_effect (codes "is spawned with `") regions variables other)
    (with_effect (codes "needs `") regions variables need) (has_any_index need.path || has_any_index other.path)
explanation_by refusal (NotOut future_place way) regions variables = join_explanation refusal future_place way
explanation_by refusal (OutAgain way) regions variables = spawn_explanation refusal way
explanation_by refusal (OrderOpen makes decl_place) regions variables = order_explanation refusal makes decl_place
explanation_by refusal (NotDeterministic decl_place) regions variables = child_explanation refusal decl_place

-- the place of the name of the declaration that a cause speaks of, if it speaks of one
abbrev pub place_of_cause : RuleCause → Place
place_of_cause (Undeclared need declared decl_place) = decl_place
place_of_cause (Out need other future_place way decl_place) = decl_place
place_of_cause (NotOut future_place way) = record { line = 0; col = 0 }
place_of_cause (OutAgain way) = record { line = 0; col = 0 }
place_of_cause (OrderOpen makes decl_place) = decl_place
place_of_cause (NotDeterministic decl_place) = decl_place
