-- What a writer does with one lexeme.
use Rattle.std.specs.Prelude.{◌≡◌, ℕ, ◌+◌, Bool, false, ◌||◌, List, [], ◌∷◌, ◌++◌, Option, None, Some, slice_get, if◌then◌else◌}
use Rattle.twe_lexer.specs.Places.{is_gap}
use Rattle.twe_lexer.specs.Tokens.{AreFirstLexemes}
use Rattle.summary_texts.specs.declared.writer.Stage.{Stage}
use Rattle.summary_texts.specs.declared.writer.Stage.TheVariants as stages
use Rattle.summary_texts.specs.declared.writer.Writer.{Writer}
use Rattle.summary_texts.specs.Parts.{begins_summary, is_brace, is_task}
use Rattle.summary_texts.specs.Written.{kept_behind}

-- before the first lexeme
abbrev pub at_start : Writer
at_start = record { out = []; stage = stages.Around false; gap = []; comments = []; used = 0 }

-- after a lexeme that stays
abbrev pub with_lexeme : Writer → Stage → List ℕ → Writer
with_lexeme writer stage lexeme = record {
  out = writer.out ++ lexeme;
  stage = stage;
  gap = writer.gap;
  comments = writer.comments;
  used = writer.used;
}

-- at the first word of the summary of a method: there is none for it, it is to stay, or another stands in its place
abbrev pub after_first : Option (Option (List ℕ)) → Writer → List ℕ → Writer
after_first None writer lexeme = with_lexeme writer stages.Staying lexeme
after_first (Some None) writer lexeme = record {
  out = writer.out ++ lexeme;
  stage = stages.Staying;
  gap = writer.gap;
  comments = writer.comments;
  used = writer.used + 1;
}
after_first (Some (Some new)) writer lexeme = record {
  out = writer.out ++ new;
  stage = stages.Replaced;
  gap = writer.gap;
  comments = writer.comments;
  used = writer.used + 1;
}

-- after a lexeme outside summaries
abbrev pub after_around : List (Option (List ℕ)) → Bool → Writer → List ℕ → Writer
after_around news in_task writer lexeme =
    if begins_summary lexeme
    then (if in_task then with_lexeme writer stages.Staying lexeme else after_first (slice_get news writer.used) writer lexeme)
    else with_lexeme writer (stages.Around (is_task lexeme || in_task)) lexeme

-- after a lexeme in a summary that stays
abbrev pub after_staying : Writer → List ℕ → Writer
after_staying writer lexeme =
    with_lexeme writer (if is_brace lexeme then stages.Around false else stages.Staying) lexeme

-- after a blank or a comment in or after a summary that was replaced
abbrev pub after_gap : Writer → List ℕ → Writer
after_gap writer lexeme = record {
  out = writer.out;
  stage = stages.Replaced;
  gap = writer.gap ++ lexeme;
  comments = writer.comments ++ kept_behind lexeme;
  used = writer.used;
}

-- after a token in a summary that was replaced, or the `{` after it
abbrev pub after_token : Writer → List ℕ → Writer
after_token writer lexeme =
    if is_brace lexeme
    then record {
      out = (writer.out ++ writer.gap) ++ lexeme;
      stage = stages.Around false;
      gap = [];
      comments = [];
      used = writer.used;
    }
    else record { out = writer.out ++ writer.comments; stage = stages.Replaced; gap = []; comments = []; used = writer.used }

-- after a lexeme in a summary that was replaced
abbrev pub after_replaced : Writer → List ℕ → Writer
after_replaced writer lexeme = if is_gap lexeme then after_gap writer lexeme else after_token writer lexeme

-- after one more lexeme, by where the writer is
abbrev pub after_at : List (Option (List ℕ)) → Stage → Writer → List ℕ → Writer
after_at news (stages.Around in_task) writer lexeme = after_around news in_task writer lexeme
after_at news stages.Staying writer lexeme = after_staying writer lexeme
after_at news stages.Replaced writer lexeme = after_replaced writer lexeme

-- after one more lexeme
abbrev pub after_lexeme : List (Option (List ℕ)) → Writer → List ℕ → Writer
after_lexeme news writer lexeme = after_at news writer.stage writer lexeme

-- after these lexemes
abbrev pub after_all : List (Option (List ℕ)) → Writer → List (List ℕ) → Writer
after_all news writer [] = writer
after_all news writer (lexeme ∷ lexemes) = after_all news (after_lexeme news writer lexeme) lexemes

-- the text of a writer at the end
abbrev pub whole : Writer → List ℕ
whole writer = writer.out ++ writer.gap

-- the writer has taken the text up to this rest
pub record HasTaken (news : List (Option (List ℕ))) (text rest : List ℕ) (writer : Writer) : Type 0 where
  pub lexemes : List (List ℕ)
  pub cut : AreFirstLexemes lexemes text rest
  pub same : writer ≡ after_all news at_start lexemes
