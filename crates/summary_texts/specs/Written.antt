-- A text with other summaries in the place of those of its methods.
use Rattle.std.specs.Prelude.{◌≡◌, ℕ, Bool, List, [], ◌∷◌, ◌++◌, Option, None, Some, codes, bytes_eq, take, if◌then◌else◌, flat_map}
use Rattle.twe_lexer.specs.Tokens.{AreFirstLexemes}
use Rattle.twe_lexer.specs.Places.{is_gap}
use Rattle.summary_texts.specs.Parts.{Part, MethodSummary, Around, joined_bytes, parts_of}

-- the lexeme is a comment, if it is no token
abbrev pub is_comment : List ℕ → Bool
is_comment lexeme = bytes_eq (take 1 lexeme) (codes "/")

-- the lexeme is a comment that ends with its line
abbrev pub is_line_comment : List ℕ → Bool
is_line_comment lexeme = bytes_eq (take 2 lexeme) (codes "//")

-- a comment behind a summary: after a space, and with the end of its line if it is one that ends there
abbrev pub comment_behind : List ℕ → List ℕ
comment_behind comment = codes " " ++ (comment ++ (if is_line_comment comment then 10 ∷ [] else []))

-- what stays of a lexeme of a summary that is replaced: all of a comment, and nothing of a token or a blank
abbrev pub kept_behind : List ℕ → List ℕ
kept_behind lexeme = if is_gap lexeme then (if is_comment lexeme then comment_behind lexeme else []) else []

-- the comments of a summary, behind it
abbrev pub comments_behind : List (List ℕ) → List ℕ
comments_behind summary = flat_map kept_behind summary

-- The text of parts, with these in the place of the summaries of its methods, in the order of the text. A summary stays if
-- there is none for it. Else the comments in it stay behind the new one. All bytes around stay as they are, in their order.
abbrev pub written_parts : List (Option (List ℕ)) → List Part → List ℕ
written_parts news [] = []
written_parts news (Around bytes ∷ parts) = bytes ++ written_parts news parts
written_parts [] (MethodSummary summary ∷ parts) = joined_bytes summary ++ written_parts [] parts
written_parts (None ∷ news) (MethodSummary summary ∷ parts) = joined_bytes summary ++ written_parts news parts
written_parts (Some new ∷ news) (MethodSummary summary ∷ parts) = (new ++ comments_behind summary) ++ written_parts news parts

-- this is the text with these summaries of its methods
pub record HasSummaries (news : List (Option (List ℕ))) (text written : List ℕ) : Type 0 where
  pub lexemes : List (List ℕ)
  pub cut : AreFirstLexemes lexemes text []
  pub same : written ≡ written_parts news (parts_of lexemes)
