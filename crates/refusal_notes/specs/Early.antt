-- What is said where a rule of the text fails at a byte, a number, a bracket, an operator or a comment.
use Rattle.std.specs.Prelude.{ℕ, ◌+◌, List, [], ◌∷◌, ◌++◌, codes, decimal}
use Rattle.twe_base.specs.Language.{max_literal, max_open_brackets, max_operators}
use Rattle.twe_frontend.specs.declared.refusal.Refusal.{Refusal}
use Rattle.refusal_causes.specs.declared.text_rules.cause.TextCause.{TextCause}
use Rattle.refusal_causes.specs.declared.text_rules.cause.TextCause.TheVariants as causes
use Rattle.explain_pages.specs.names.Sentences.{asked, wrong}
use Rattle.explain_pages.specs.places.Excerpt.{shown_byte}
use Rattle.explain_pages.specs.places.Notes.{note_at}
use Rattle.explain_pages.specs.declared.places.note.Explanation.{Explanation}

-- how many there are, and how many there may be
abbrev pub count_words : List ℕ → ℕ → ℕ → List ℕ
count_words words count most = words ++ (decimal count ++ (codes ", and at most " ++ decimal most))

-- What is said of the place. A bracket or an operator that is one too many is counted, too.
abbrev pub text_caption : TextCause → List ℕ
text_caption (causes.Byte code) = codes "is the byte " ++ shown_byte code
text_caption causes.NumberTooLarge = codes "is more than " ++ decimal max_literal
text_caption causes.NumberNotNegative = codes "stands only directly after a minus sign of its own"
text_caption causes.BracketTooMany = count_words (codes "open brackets: ") (max_open_brackets + 1) max_open_brackets
text_caption causes.OperatorTooMany = count_words (codes "operators of this statement: ") (max_operators + 1) max_operators
text_caption causes.CommentUnclosed = codes "no */ comes after this"

-- the sentences of the rule, and what is said of the place
abbrev pub early_explanation : Refusal → TextCause → Explanation
early_explanation refusal cause = record {
  headline = wrong refusal.rule;
  notes = note_at refusal.place (text_caption cause) ∷ [];
  remarks = asked refusal.rule ∷ [];
}
