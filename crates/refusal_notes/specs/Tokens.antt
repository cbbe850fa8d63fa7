-- What is said of the tokens that may stand at a place.
use Rattle.std.specs.Prelude.{ℕ, List, [], ◌∷◌, ◌++◌, codes}
use Rattle.std.specs.List.{flat_map}
use Rattle.twe_lexer.specs.Spelling.{spelling}
use Rattle.twe_frontend.specs.declared.refusal.Refusal.{Refusal}
use Rattle.refusal_causes.specs.declared.next_tokens.NextToken.{NextToken}
use Rattle.refusal_causes.specs.declared.next_tokens.NextToken.TheVariants.{Name, Number, Fixed}
use Rattle.explain_pages.specs.declared.places.note.Explanation.{Explanation}
use Rattle.refusal_notes.specs.Explanation.{explanation_of}

-- what people read of a token
abbrev pub token_words : NextToken → List ℕ
token_words Name = codes "a name"
token_words Number = codes "a number"
token_words (Fixed token) = 96 ∷ (spelling token ++ 96 ∷ [])

-- a comma and a token
abbrev pub behind_comma : NextToken → List ℕ
behind_comma token = codes ", " ++ token_words token

-- these tokens may stand at the place
abbrev pub tokens_remark : NextToken → List NextToken → List ℕ
tokens_remark first others = codes "here may stand: " ++ (token_words first ++ flat_map behind_comma others)

-- what may stand at the place, if anything is known of it
abbrev pub token_remarks : List NextToken → List (List ℕ)
token_remarks [] = []
token_remarks (first ∷ others) = tokens_remark first others ∷ []

-- what is said of a token that may not stand at its place, or of an end that comes too early
abbrev pub stray_explanation : Refusal → List NextToken → Explanation
stray_explanation refusal tokens =
    record (explanation_of refusal) { remarks = (explanation_of refusal).remarks ++ token_remarks tokens }
