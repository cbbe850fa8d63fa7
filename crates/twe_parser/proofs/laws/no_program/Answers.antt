use Rattle.std.proofs.Common.{◌≡◌, ℕ, ◌⊎◌, inl, inr, List, [], ◌∷◌, ◌++◌, refl, sym, ap, ◌∙◌, subst}
use Rattle.std.proofs.lemmas.List.{append-nil}
use Rattle.twe_base.specs.declared.place.Place.{Place}
use Rattle.twe_lexer.specs.declared.token.Token.{Token}
use Rattle.twe_lexer.specs.Lexeme.{IsLexeme}
use Rattle.twe_lexer.specs.Tokens.{AreFirstLexemes, tokens_from, BeginsWith}
use Rattle.twe_parser.specs.declared.fail.SRule.{SRule}
use Rattle.twe_parser.specs.declared.fail.SRule.TheVariants.{S2, S3}
use Rattle.twe_parser.specs.Fails.{Fails, byte, stray, unfinished, too_large, too_deep, unclosed}
use Rattle.twe_parser.specs.Viable.{IsProgram}
use Rattle.twe_parser.specs.Writes.{Writes}
use Rattle.twe_parser.specs.inner.Reading.{concat}
use Rattle.twe_parser.proofs.Cuts.{no_lexeme, compare_cuts, tokens_from_append}
use Rattle.twe_parser.proofs.Located.{empty_front}
use Rattle.twe_parser.proofs.laws.no_program.Goals as goal

-- nothing more can be cut from nothing
none_more : (more : List (List ℕ)) (rest : List ℕ) → AreFirstLexemes more [] rest → ◌≡◌ {A = List (List ℕ)} more []
none_more [] rest cut = refl
none_more (first ∷ others) rest (later, found, cut) = absurd (no_lexeme (subst IsLexeme (empty_front first later (sym found.split)) found.lexeme))

-- the tokens of the whole text begin with those of any front of it
goes_on : (text rest : List ℕ) (before all : List Token) → BeginsWith text before rest → BeginsWith text all [] → (more : List Token) × (all ≡ before ++ more)
goes_on text rest before all front whole = by_cut (compare_cuts front.lexemes whole.lexemes text rest [] front.cut whole.cut)
  where
    by_cut : ((more : List (List ℕ)) × (whole.lexemes ≡ front.lexemes ++ more) × AreFirstLexemes more rest []) ⊎ ((more : List (List ℕ)) × (front.lexemes ≡ whole.lexemes ++ more) × AreFirstLexemes more [] rest) → (more : List Token) × (all ≡ before ++ more)
    by_cut (inl (more, is, cut)) = (tokens_from (concat front.lexemes) more, whole.same ∙ ap (tokens_from []) is ∙ tokens_from_append [] front.lexemes more ∙ ap (λ tokens. tokens ++ tokens_from (concat front.lexemes) more) (sym front.same))
    by_cut (inr (more, is, cut)) =
        let same : front.lexemes ≡ whole.lexemes = is ∙ ap (λ m. whole.lexemes ++ m) (none_more more rest cut) ∙ append-nil whole.lexemes in
        ([], whole.same ∙ ap (tokens_from []) (sym same) ∙ sym front.same ∙ sym (append-nil before))

same_tokens : (text : List ℕ) (one other : List Token) → BeginsWith text one [] → BeginsWith text other [] → one ≡ other
same_tokens text one other front whole = by_cut (compare_cuts front.lexemes whole.lexemes text [] [] front.cut whole.cut)
  where
    by_cut : ((more : List (List ℕ)) × (whole.lexemes ≡ front.lexemes ++ more) × AreFirstLexemes more [] []) ⊎ ((more : List (List ℕ)) × (front.lexemes ≡ whole.lexemes ++ more) × AreFirstLexemes more [] []) → one ≡ other
    by_cut (inl (more, is, cut)) = front.same ∙ ap (tokens_from []) (sym (is ∙ ap (λ m. front.lexemes ++ m) (none_more more [] cut) ∙ append-nil front.lexemes)) ∙ sym whole.same
    by_cut (inr (more, is, cut)) = front.same ∙ ap (tokens_from []) (is ∙ ap (λ m. whole.lexemes ++ m) (none_more more [] cut) ∙ append-nil whole.lexemes) ∙ sym whole.same

abbrev Grammar : SRule → Type 0
Grammar S2 = Unit {0}
Grammar S3 = Unit {0}
Grammar _ = ⊥

excludes : (text : List ℕ) (rule : SRule) (place : Place) (tokens : List Token) → Fails text rule place → Grammar rule → BeginsWith text tokens [] → IsProgram tokens → ⊥
excludes text rule place tokens (byte before after code is bad) grammar whole program = grammar
excludes text rule place tokens (stray before token rest begins viable_so not) grammar whole program =
    let more = goes_on text rest (before ++ token ∷ []) tokens begins whole in
    not (program.0, more.0, subst (λ (all : List Token). Writes program.0 all) more.1 program.1)
excludes text rule place tokens (unfinished its begins viable_so not) grammar whole program =
    not (subst IsProgram (same_tokens text tokens its whole begins) program)
excludes text rule place tokens (too_large before token rest begins large) grammar whole program = grammar
excludes text rule place tokens (too_deep before token rest begins deep) grammar whole program = grammar
excludes text rule place tokens (unclosed before rest its is begins comment) grammar whole program = grammar

pub returns : goal.returns
returns c text rule place tokens fails_so (inl is) whole program = excludes text rule place tokens fails_so (subst Grammar (sym is) tt) whole program
returns c text rule place tokens fails_so (inr is) whole program = excludes text rule place tokens fails_so (subst Grammar (sym is) tt) whole program
