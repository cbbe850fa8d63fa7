-- A text is cut in one way: it has one list of tokens, and one layout.
use Rattle.std.proofs.Common.{◌≡◌, ℕ, ◌⊎◌, inl, inr, List, [], ◌∷◌, ◌++◌, append-nil, refl, sym, ap, ◌∙◌, subst}
use Rattle.twe_lexer.specs.declared.token.Token.{Token}
use Rattle.twe_lexer.specs.Lexeme.{IsLexeme}
use Rattle.twe_lexer.specs.Tokens.{AreFirstLexemes, tokens_from, BeginsWith}
use Rattle.twe_parser.proofs.Cuts.{no_lexeme, compare_cuts}
use Rattle.twe_parser.proofs.Located.{empty_front}
use Rattle.text_pieces.specs.declared.piece.Piece.{Piece}
use Rattle.text_pieces.specs.declared.piece.PieceStart.TheVariants.{Beside}
use Rattle.text_pieces.specs.Pieces.{pieces_from}
use Rattle.text_layout.specs.InLayout.{IsInLayout}
use Rattle.text_layout.specs.Layout.{layout}

-- nothing more can be cut from nothing
none_more : (more : List (List ℕ)) (rest : List ℕ) → AreFirstLexemes more [] rest → ◌≡◌ {A = List (List ℕ)} more []
none_more [] rest cut = refl
none_more (first ∷ others) rest (later, found, cut) = absurd (no_lexeme (subst IsLexeme (empty_front first later (sym found.split)) found.lexeme))

same_lexemes : (text : List ℕ) (one other : List (List ℕ)) → AreFirstLexemes one text [] → AreFirstLexemes other text [] → one ≡ other
same_lexemes text one other cut whole = by_cut (compare_cuts one other text [] [] cut whole)
  where
    by_cut : ((more : List (List ℕ)) × (other ≡ one ++ more) × AreFirstLexemes more [] []) ⊎ ((more : List (List ℕ)) × (one ≡ other ++ more) × AreFirstLexemes more [] []) → one ≡ other
    by_cut (inl (more, is, cut)) = sym (is ∙ ap (λ m. one ++ m) (none_more more [] cut) ∙ append-nil one)
    by_cut (inr (more, is, cut)) = is ∙ ap (λ m. other ++ m) (none_more more [] cut) ∙ append-nil other

pub same_tokens : (text : List ℕ) (one other : List Token) → BeginsWith text one [] → BeginsWith text other [] → one ≡ other
same_tokens text one other cut whole = cut.same ∙ ap (tokens_from []) (same_lexemes text cut.lexemes whole.lexemes cut.cut whole.cut) ∙ sym whole.same

pub one_layout : (text one other : List ℕ) → IsInLayout text one → IsInLayout text other → one ≡ other
one_layout text one other laid again =
    let pieces : laid.pieces ≡ again.pieces =
    laid.cut.same ∙ ap (pieces_from Beside) (same_lexemes text laid.cut.lexemes again.cut.lexemes laid.cut.cut again.cut.cut) ∙ sym again.cut.same in
    laid.same ∙ ap (λ (its : List Piece). layout its) pieces ∙ sym again.same
