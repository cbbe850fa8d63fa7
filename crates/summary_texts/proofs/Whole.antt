-- The parts of a text are the text, and a text is cut in one way.
use Rattle.std.proofs.Common.{◌≡◌, ℕ, ◌⊎◌, inl, inr, Bool, true, false, ◌||◌, List, [], ◌∷◌, ◌++◌, Option, refl, sym, ap, ◌∙◌, subst, append_assoc}
use Rattle.std.specs.Prelude.{if◌then◌else◌, flat_map}
use Rattle.std.proofs.lemmas.List.{append-nil}
use Rattle.twe_lexer.specs.Lexeme.{IsLexeme}
use Rattle.twe_lexer.specs.Places.{is_gap}
use Rattle.twe_lexer.specs.Tokens.{AreFirstLexemes}
use Rattle.twe_parser.proofs.Cuts.{no_lexeme, compare_cuts}
use Rattle.twe_parser.proofs.Located.{empty_front}
use Rattle.summary_texts.specs.Parts.{begins_summary, is_brace, is_task, joined_bytes, Part, MethodSummary, Around, summary_part, parts_around, parts_in, parts_of, part_bytes}
use Rattle.summary_texts.specs.Written.{written_parts, HasSummaries}
use Rattle.summary_texts.proofs.Finding.{by_test, joined_append}

abbrev all_bytes : List Part → List ℕ
all_bytes parts = flat_map part_bytes parts

summary_bytes : (in_task : Bool) (summary : List (List ℕ)) → part_bytes (summary_part in_task summary) ≡ joined_bytes summary
summary_bytes true summary = refl
summary_bytes false summary = refl

record AllThere (lexemes : List (List ℕ)) : Type 0 where
  around : (in_task : Bool) → all_bytes (parts_around in_task lexemes) ≡ joined_bytes lexemes
  inside : (in_task : Bool) (summary gap : List (List ℕ)) → all_bytes (parts_in in_task summary gap lexemes) ≡ joined_bytes summary ++ (joined_bytes gap ++ joined_bytes lexemes)

one_more : (gap : List (List ℕ)) (l more : List ℕ) → joined_bytes (gap ++ l ∷ []) ++ more ≡ joined_bytes gap ++ (l ++ more)
one_more gap l more = ap (λ (its : List ℕ). its ++ more) (joined_append gap (l ∷ [])) ∙ append_assoc (joined_bytes gap) (l ++ []) more ∙ ap (λ (its : List ℕ). joined_bytes gap ++ (its ++ more)) (append-nil l)

module _ (l : List ℕ) (lexemes : List (List ℕ)) (more : AllThere lexemes) where
  around_one : (in_task : Bool) → all_bytes (parts_around in_task (l ∷ lexemes)) ≡ l ++ joined_bytes lexemes
  around_one in_task =
      by_test (λ b. all_bytes (if b then parts_in in_task (l ∷ []) [] lexemes else (Around l ∷ parts_around (is_task l || in_task) lexemes)) ≡ l ++ joined_bytes lexemes)
      (begins_summary l)
      (λ is. more.inside in_task (l ∷ []) [] ∙ ap (λ (its : List ℕ). its ++ joined_bytes lexemes) (append-nil l))
      (λ is. ap (λ (its : List ℕ). l ++ its) (more.around (is_task l || in_task)))

  inside_one : (in_task : Bool) (summary gap : List (List ℕ)) → all_bytes (parts_in in_task summary gap (l ∷ lexemes)) ≡ joined_bytes summary ++ (joined_bytes gap ++ (l ++ joined_bytes lexemes))
  inside_one in_task summary gap =
      by_test (λ b. all_bytes (if b then parts_in in_task summary (gap ++ l ∷ []) lexemes
      else if is_brace l then (summary_part in_task summary ∷ Around (joined_bytes gap) ∷ Around l ∷ parts_around false lexemes) else parts_in in_task (summary ++ (gap ++ l ∷ [])) [] lexemes)
      ≡ joined_bytes summary ++ (joined_bytes gap ++ (l ++ joined_bytes lexemes)))
      (is_gap l)
      (λ gaps. more.inside in_task summary (gap ++ l ∷ []) ∙ ap (λ (its : List ℕ). joined_bytes summary ++ its) (one_more gap l (joined_bytes lexemes)))
      (λ token. by_test (λ b. all_bytes (if b then (summary_part in_task summary ∷ Around (joined_bytes gap) ∷ Around l ∷ parts_around false lexemes) else parts_in in_task (summary ++ (gap ++ l ∷ [])) [] lexemes)
      ≡ joined_bytes summary ++ (joined_bytes gap ++ (l ++ joined_bytes lexemes)))
      (is_brace l)
      (λ brace. (λ i. summary_bytes in_task summary i ++ (joined_bytes gap ++ (l ++ more.around false i))))
      (λ brace. more.inside in_task (summary ++ (gap ++ l ∷ [])) []
      ∙ ap (λ (its : List ℕ). its ++ joined_bytes lexemes) (joined_append summary (gap ++ l ∷ []))
      ∙ append_assoc (joined_bytes summary) (joined_bytes (gap ++ l ∷ [])) (joined_bytes lexemes)
      ∙ ap (λ (its : List ℕ). joined_bytes summary ++ its) (one_more gap l (joined_bytes lexemes))))

all_there : (lexemes : List (List ℕ)) → AllThere lexemes
all_there [] = record {
  around = λ in_task. refl;
  inside = λ in_task summary gap. (λ i. summary_bytes in_task summary i ++ (joined_bytes gap ++ []));
}
all_there (l ∷ lexemes) = record {
  around = around_one l lexemes (all_there lexemes);
  inside = inside_one l lexemes (all_there lexemes);
}

joined_text : (lexemes : List (List ℕ)) (text : List ℕ) → AreFirstLexemes lexemes text [] → joined_bytes lexemes ≡ text
joined_text [] text is = sym is
joined_text (first ∷ others) text (later, one, cut) = ap (λ (more : List ℕ). first ++ more) (joined_text others later cut) ∙ sym one.split

pub whole_text : (lexemes : List (List ℕ)) (text : List ℕ) → AreFirstLexemes lexemes text [] → all_bytes (parts_of lexemes) ≡ text
whole_text lexemes text cut = (all_there lexemes).around false ∙ joined_text lexemes text cut

nothing_new : (parts : List Part) → written_parts [] parts ≡ all_bytes parts
nothing_new [] = refl
nothing_new (Around bytes ∷ parts) = ap (λ (more : List ℕ). bytes ++ more) (nothing_new parts)
nothing_new (MethodSummary lexemes ∷ parts) = ap (λ (more : List ℕ). joined_bytes lexemes ++ more) (nothing_new parts)

pub kept_text : (lexemes : List (List ℕ)) (text : List ℕ) → AreFirstLexemes lexemes text [] → written_parts [] (parts_of lexemes) ≡ text
kept_text lexemes text cut = nothing_new (parts_of lexemes) ∙ whole_text lexemes text cut

-- a text that is cut to its end is cut in one way
none_more : (more : List (List ℕ)) → AreFirstLexemes more [] [] → more ≡ []
none_more [] cut = refl
none_more (first ∷ others) (later, found, cut) = absurd (no_lexeme (subst IsLexeme (empty_front first later (sym found.split)) found.lexeme))

one_cut : (one other : List (List ℕ)) (text : List ℕ) → AreFirstLexemes one text [] → AreFirstLexemes other text [] → one ≡ other
one_cut one other text cut also = by_cut (compare_cuts one other text [] [] cut also)
  where
    by_cut : ((more : List (List ℕ)) × (other ≡ one ++ more) × AreFirstLexemes more [] []) ⊎ ((more : List (List ℕ)) × (one ≡ other ++ more) × AreFirstLexemes more [] []) → one ≡ other
    by_cut (inl (more, is, rest)) = sym (is ∙ ap (λ (m : List (List ℕ)). one ++ m) (none_more more rest) ∙ append-nil one)
    by_cut (inr (more, is, rest)) = is ∙ ap (λ (m : List (List ℕ)). other ++ m) (none_more more rest) ∙ append-nil other

pub one_text : (news : List (Option (List ℕ))) (text one other : List ℕ) → HasSummaries news text one → HasSummaries news text other → one ≡ other
one_text news text one other first second =
    first.same ∙ ap (λ (lexemes : List (List ℕ)). written_parts news (parts_of lexemes)) (one_cut first.lexemes second.lexemes text first.cut second.cut) ∙ sym second.same
