-- The parts of a text: the summaries of its methods, and the bytes around them.
use Rattle.std.specs.Prelude.{ℕ, Bool, true, false, ◌||◌, List, [], ◌∷◌, ◌++◌, bytes_eq, if◌then◌else◌}
use Rattle.twe_lexer.specs.declared.fixed.Fixed.TheVariants as fixed
use Rattle.twe_lexer.specs.Places.{is_gap}
use Rattle.twe_lexer.specs.Spelling.{spelling}

-- `pure`, `reads` or `writes`: a word that a summary begins with. It stands nowhere else in a text.
abbrev pub begins_summary : List ℕ → Bool
begins_summary lexeme =
    bytes_eq lexeme (spelling fixed.Pure) || bytes_eq lexeme (spelling fixed.Reads) || bytes_eq lexeme (spelling fixed.Writes)

-- `task`: the declaration that it stands in is no method's
abbrev pub is_task : List ℕ → Bool
is_task lexeme = bytes_eq lexeme (spelling fixed.Task)

-- `{`: after a summary it begins the body
abbrev pub is_brace : List ℕ → Bool
is_brace lexeme = bytes_eq lexeme (spelling fixed.OpenBrace)

-- the bytes of these lexemes, one after the other
abbrev pub joined_bytes : List (List ℕ) → List ℕ
joined_bytes [] = []
joined_bytes (lexeme ∷ lexemes) = lexeme ++ joined_bytes lexemes

-- A part of a text.
pub data Part : Type 0 where
  -- the lexemes of the summary of a method
  MethodSummary : (lexemes : List (List ℕ)) → Part
  -- bytes that belong to no summary of a method
  Around : (bytes : List ℕ) → Part

-- the summary of a task is no part of its own
abbrev pub summary_part : Bool → List (List ℕ) → Part
summary_part true lexemes = Around (joined_bytes lexemes)
summary_part false lexemes = MethodSummary lexemes

-- The parts of a text that consists of these lexemes. A summary reaches from the word that it begins with to the last token
-- before the next `{`. It is that of a task if the word `task` stands between it and the summary before it; else it is that of
-- a method. What lies between its last token and the `{`, blanks or comments, does not belong to it.
abbrev mutual
  -- outside summaries; `in_task` is whether the word `task` was found
  pub parts_around : Bool → List (List ℕ) → List Part
  parts_around in_task [] = []
  parts_around in_task (lexeme ∷ lexemes) =
      if begins_summary lexeme then parts_in in_task (lexeme ∷ []) [] lexemes
      else (Around lexeme ∷ parts_around (is_task lexeme || in_task) lexemes)

  -- in a summary, of which these lexemes were found; after its last token come these blanks and comments
  pub parts_in : Bool → List (List ℕ) → List (List ℕ) → List (List ℕ) → List Part
  parts_in in_task summary gap [] = summary_part in_task summary ∷ Around (joined_bytes gap) ∷ []
  parts_in in_task summary gap (lexeme ∷ lexemes) =
      if is_gap lexeme then parts_in in_task summary (gap ++ lexeme ∷ []) lexemes
      else if is_brace lexeme
      then (summary_part in_task summary ∷ Around (joined_bytes gap) ∷ Around lexeme ∷ parts_around false lexemes)
      else parts_in in_task (summary ++ (gap ++ lexeme ∷ [])) [] lexemes

-- the parts of a text that consists of these lexemes
abbrev pub parts_of : List (List ℕ) → List Part
parts_of lexemes = parts_around false lexemes

-- the bytes of a part
abbrev pub part_bytes : Part → List ℕ
part_bytes (MethodSummary lexemes) = joined_bytes lexemes
part_bytes (Around bytes) = bytes
