-- Edits that may mend a text, and those of them after which it is accepted.
use Rattle.std.specs.Prelude.{◌≡◌, ◌<◌, ℕ, Bool, true, false, Option, None, Some, List, [], ◌∷◌, ◌++◌, length, codes, decimal, if◌then◌else◌}
use Rattle.twe_base.specs.Language.{max_text_bytes}
use Rattle.twe_base.specs.declared.place.Place.{Place}
use Rattle.effect_sets.specs.declared.effects.Effect.{Effect}
use Rattle.twe_ast.specs.declared.name.Name as written
use Rattle.twe_program.specs.Program.{Program}
use Rattle.twe_frontend.specs.declared.refusal.Refusal.{Refusal}
use Rattle.twe_frontend.specs.Accepted.{Accepted, IsRefusal}
use Rattle.twe_frontend.specs.meaning.EffectTexts.{effect_text}
use Rattle.refusal_causes.specs.declared.cause.RuleCause.{RuleCause}
use Rattle.refusal_causes.specs.declared.cause.RuleCause.TheVariants.{Undeclared, Out, NotOut, OutAgain, OrderOpen, NotDeterministic}
use Rattle.refusal_notes.specs.declared.mends.Mend.{Mend}
use Rattle.refusal_notes.specs.declared.spots.CutText.{CutText}
use Rattle.refusal_notes.specs.declared.spots.Mark.{Mark}
use Rattle.refusal_notes.specs.declared.spots.Span.{Span}
use Rattle.explain_pages.specs.places.WordAt.{word_at}
use Rattle.twe_report.specs.Texts.{place_text}
use Rattle.refusal_notes.specs.Edits.{edited, statement_offset, without_span}
use Rattle.refusal_notes.specs.LaterMends.{later_mends, next_later_mends, spawns_at, spots_at}
use Rattle.refusal_notes.specs.Spots.{IsCut, next_join, next_word}

-- an edit with nothing else to be said
abbrev pub mend_by : List ℕ → List ℕ → Mend
mend_by said text = record { said = said; comes = []; text = text }

-- `f.join();`
abbrev pub join_text : List ℕ → List ℕ
join_text name = name ++ codes ".join();"

-- `f.join();` at the beginning of line 6
abbrev pub join_said : List ℕ → Place → List ℕ
join_said name place = codes "`" ++ (join_text name ++ (codes "` at the beginning of line " ++ decimal place.line))

-- what else comes of a join before a spawn
abbrev pub join_comes : Bool → List ℕ
join_comes spawns = if spawns then codes ", and the two tasks run one after the other" else []

-- a join before the statement of the line
abbrev pub with_join : List ℕ → List ℕ → Place → List ℕ
with_join text name place = edited text (statement_offset text place.line) 0 (join_text name ++ codes " ")

-- such a join
abbrev pub join_mend : CutText → List ℕ → Place → Mend
join_mend cut name place = record {
  said = join_said name place;
  comes = join_comes (spawns_at cut place);
  text = with_join cut.bytes name place;
}

-- such a join, and none where the next one is now
abbrev pub moved_join_mend : CutText → List ℕ → Place → Span → Mend
moved_join_mend cut name place span = record {
  said = join_said name place ++ (codes " instead of at " ++ place_text span.start.place);
  comes = join_comes (spawns_at cut place);
  text = with_join (without_span cut.bytes span) name place;
}

-- the same, if there is a next one
abbrev pub moved_mends : CutText → List ℕ → Place → Option Span → List Mend
moved_mends cut name place None = []
moved_mends cut name place (Some span) = moved_join_mend cut name place span ∷ []

-- a join before the statement of the line, and the same instead of the next one in the same body, if there is one
abbrev pub out_mends : CutText → List ℕ → Place → List Mend
out_mends cut name place =
    join_mend cut name place
    ∷ moved_mends cut name place (next_join name (statement_offset cut.bytes place.line) 0 cut.spots)

-- an effect, what is done with it, and where
abbrev pub said_at : List ℕ → List ℕ → Place → List ℕ
said_at effect words place = codes "`" ++ (effect ++ (words ++ place_text place))

-- `writes A` instead of `pure` at 4:18
abbrev pub pure_words : List ℕ
pure_words = codes "` instead of `pure` at "

-- `writes B` before the `{` at 4:30
abbrev pub effect_words : List ℕ
effect_words = codes "` before the `{` at "

-- the effect instead of the `pure` that begins here
abbrev pub pure_mend : List ℕ → List ℕ → Mark → Mend
pure_mend text effect mark = mend_by (said_at effect pure_words mark.place) (edited text mark.offset 4 effect)

-- an effect more before the `{` that begins here
abbrev pub effect_mend : List ℕ → List ℕ → Mark → Mend
effect_mend text effect mark = mend_by (said_at effect effect_words mark.place) (edited text mark.offset 0 (effect ++ codes " "))

-- an edit at a token, if there is one
abbrev pub mend_at : (Mark → Mend) → Option Mark → List Mend
mend_at made None = []
mend_at made (Some mark) = made mark ∷ []

-- the effect instead of `pure` in the declaration at the place, if nothing is declared, or else with what is
abbrev pub declared_mends : List Effect → CutText → List ℕ → Place → List Mend
declared_mends [] cut effect place = mend_at (pure_mend cut.bytes effect) (next_word (codes "pure") (spots_at cut place))
declared_mends (first ∷ others) cut effect place =
    mend_at (effect_mend cut.bytes effect) (next_word (codes "{") (spots_at cut place))

-- the edits that may mend a failure with this cause, in the order in which they are tried
abbrev pub mends_for : CutText → Place → RuleCause → List (List ℕ) → List written.Name → List Mend
mends_for cut place (Undeclared need declared decl_place) regions variables =
    declared_mends declared.effects cut (effect_text regions variables need) decl_place ++ later_mends cut place
mends_for cut place (Out need other future_place way decl_place) regions variables =
    out_mends cut (word_at cut.bytes future_place) place ++ later_mends cut place
mends_for cut place (NotOut future_place way) regions variables = []
mends_for cut place (OutAgain way) regions variables = next_later_mends cut place
mends_for cut place (OrderOpen makes decl_place) regions variables = []
mends_for cut place (NotDeterministic decl_place) regions variables = []

-- These edits may mend a failure of a text: none if the text is longer than a text may be, and else those at its tokens.
pub data AreMends (text : List ℕ) (place : Place) (cause : RuleCause) (regions : List (List ℕ)) (variables : List written.Name)
    : List Mend → Type 0 where
  none : max_text_bytes < length text → AreMends text place cause regions variables []
  these : (cut : CutText) → IsCut text cut
      → AreMends text place cause regions variables (mends_for cut place cause regions variables)

-- what is said of an edit after which the text is accepted
abbrev pub mend_remark : Mend → List ℕ
mend_remark mend = codes "mend: " ++ (mend.said ++ (codes "; then the text is accepted" ++ mend.comes))

-- whether the text is accepted: it has a program, or a refusal
abbrev pub TellsAcceptance : List ℕ → Bool → Type 0
TellsAcceptance text true = (p : Program) × Accepted text p
TellsAcceptance text false = (refusal : Refusal) × IsRefusal text refusal

-- An edit is tried: it is said if the text is accepted after it, and only then.
pub data IsTried (mend : Mend) (old new : List (List ℕ)) : Type 0 where
  accepted : (p : Program) → Accepted mend.text p → new ≡ old ++ mend_remark mend ∷ [] → IsTried mend old new
  refused : (refusal : Refusal) → IsRefusal mend.text refusal → new ≡ old → IsTried mend old new
  too_long : max_text_bytes < length mend.text → new ≡ old → IsTried mend old new

-- the edits are tried one after another
pub data AreTried : List Mend → List (List ℕ) → List (List ℕ) → Type 0 where
  none : (remarks : List (List ℕ)) → AreTried [] remarks remarks
  one : (mend : Mend) (others : List Mend) (old between new : List (List ℕ)) → IsTried mend old between
      → AreTried others between new → AreTried (mend ∷ others) old new
