-- What is said of a rule of names that fails: what is needed at its place and what is there, and where the name is declared.
use Rattle.std.specs.Prelude.{ℕ, Bool, false, ◌==◌, List, [], ◌∷◌, ◌++◌, Option, None, Some, codes}
use Rattle.twe_base.specs.declared.place.Place.{Place}
use Rattle.twe_ast.specs.declared.item.Item.{Item}
use Rattle.name_check.specs.FailsName.{name_rule_number}
use Rattle.name_causes.specs.declared.need.NameNeed.{NameNeed}
use Rattle.name_causes.specs.declared.need.NameNeed.TheVariants.{Used, Typed, New, Returned, Again, NoReturn, Over, NoMain, SecondStar}
use Rattle.twe_frontend.specs.declared.refusal.Refusal.{Refusal}
use Rattle.twe_frontend.specs.declared.refusal.RuleName.{RuleName}
use Rattle.twe_frontend.specs.declared.refusal.RuleName.TheVariants.{Text, Name, Effect}
use Rattle.explain_pages.specs.declared.places.note.Explanation.{Explanation}
use Rattle.explain_pages.specs.declared.places.note.Note.{Note}
use Rattle.explain_pages.specs.names.Sentences.{asked, wrong}
use Rattle.explain_pages.specs.places.Notes.{note_at}
use Rattle.explain_pages.specs.names.Needed.{need_caption}
use Rattle.explain_pages.specs.places.WordAt.{word_at}
use Rattle.explain_pages.specs.names.Declaring.{declared_place}

-- `x` is declared here
abbrev pub declared_caption : List ℕ → List ℕ
declared_caption word = 96 ∷ (word ++ codes "` is declared here")

-- the note that a word is declared at a place, if it is
abbrev pub declared_notes : List ℕ → Option Place → List Note
declared_notes word None = []
declared_notes word (Some place) = note_at place (declared_caption word) ∷ []

-- the first `*` of a path that has two
abbrev pub star_notes : Option Place → List Note
star_notes None = []
star_notes (Some first) = note_at first (codes "is the first * of this path") ∷ []

-- the other place that belongs to a cause, if there is one: of a use or a declaration of a name that of its other declaration
abbrev pub other_notes : NameNeed → List ℕ → Option Place → List Note
other_notes (Used asks found) word place = declared_notes word place
other_notes (Typed need found) word place = declared_notes word place
other_notes (New found) word place = declared_notes word place
other_notes (Returned valued returns) word place = []
other_notes Again word place = declared_notes word place
other_notes (NoReturn decl_place) word place = note_at decl_place (codes "returns an int") ∷ []
other_notes (Over limit count) word place = []
other_notes (NoMain found) word place = []
other_notes (SecondStar first) word place = star_notes first

-- the rule is the one on numbers of arguments
abbrev pub is_of_counts : RuleName → Bool
is_of_counts (Text rule) = false
is_of_counts (Name rule) = name_rule_number rule == 4
is_of_counts (Effect rule) = false

-- what is said of a cause, if the word at the place is declared there
abbrev pub cause_explanation : Refusal → NameNeed → List ℕ → Option Place → Explanation
cause_explanation refusal cause word place = record {
  headline = wrong refusal.rule;
  notes = other_notes cause word place ++ note_at refusal.place (need_caption (is_of_counts refusal.rule) cause) ∷ [];
  remarks = asked refusal.rule ∷ [];
}

-- what is said of the failure of a rule of names with this cause in a text with these declarations
abbrev pub named_explanation : List ℕ → Refusal → NameNeed → List Item → Explanation
named_explanation text refusal cause items =
    cause_explanation refusal cause (word_at text refusal.place)
    (declared_place (word_at text refusal.place) refusal.place items)
