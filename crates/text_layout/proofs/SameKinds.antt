-- The tokens among the pieces of a text are those of the text.
use Rattle.std.proofs.Common.{◌≡◌, ℕ, Bool, true, false, List, [], ◌∷◌, ◌++◌, map, refl, sym, ap, ◌∙◌}
use Rattle.std.specs.Prelude.{if◌then◌else◌}
use Rattle.std.proofs.lemmas.Bool.{false≢true, cond-true, cond-false}
use Rattle.twe_lexer.specs.declared.token.TokenKind.{TokenKind}
use Rattle.twe_lexer.specs.declared.token.TokenKind.TheVariants as kinds
use Rattle.twe_lexer.specs.Kinds.{kind_of}
use Rattle.twe_lexer.specs.Places.{is_gap}
use Rattle.twe_lexer.specs.Tokens.{tokens_from}
use Rattle.text_pieces.specs.declared.piece.Class.TheVariants as classes
use Rattle.text_pieces.specs.declared.piece.Piece.{Piece}
use Rattle.text_pieces.specs.declared.piece.PieceStart.{PieceStart}
use Rattle.text_pieces.specs.declared.piece.PieceStart.TheVariants.{Beside}
use Rattle.text_pieces.specs.Pieces.{is_white, start_after, begins_line_comment, class_of_kind, class_of_lexeme, pieces_from, IsCutInto}
use Rattle.text_layout.specs.declared.state.LayoutState.{LayoutState}
use Rattle.text_layout.specs.Classes.{is_comment_class}
use Rattle.text_layout.specs.Kinds.{piece_kinds, HasKinds}
use Rattle.text_layout.specs.Layout.{before_pieces, gap_before, after_piece}
use Rattle.text_layout.specs.Settled.{settled_from, settled_pieces}
use Rattle.text_layout.proofs.Fine.{kept_token, class_token}

white_gap : (bytes : List ℕ) → is_white bytes ≡ true → is_gap bytes ≡ true
white_gap [] white = absurd (false≢true white)
white_gap (code ∷ []) white = white
white_gap (first ∷ second ∷ others) white = absurd (false≢true white)

no_comment : (kind : TokenKind) → is_comment_class (class_of_kind kind) ≡ false
no_comment (kinds.Name text) = refl
no_comment (kinds.Literal value) = refl
no_comment (kinds.Fixed fixed) = refl
no_comment kinds.Stray = refl

gap_comment : (bytes : List ℕ) → is_gap bytes ≡ true → is_comment_class (class_of_lexeme bytes) ≡ true
gap_comment bytes gap = ap is_comment_class (cond-true (is_gap bytes) _ _ gap) ∙ known (begins_line_comment bytes) refl
  where
    known : (b : Bool) → begins_line_comment bytes ≡ b → is_comment_class (if begins_line_comment bytes then classes.LineComment else classes.BlockComment) ≡ true
    known true is = ap is_comment_class (cond-true (begins_line_comment bytes) _ _ is)
    known false is = ap is_comment_class (cond-false (begins_line_comment bytes) _ _ is)

-- one more lexeme, by whether it is a token and white space, with what is known of those after it
kinds_more : (before : List ℕ) (start : PieceStart) (first : List ℕ) (others : List (List ℕ)) (gap white : Bool) → is_gap first ≡ gap → is_white first ≡ white
    → ((next : PieceStart) → map (λ token. token.kind) (tokens_from (before ++ first) others) ≡ piece_kinds (pieces_from next others))
    → map (λ token. token.kind) (tokens_from before (first ∷ others)) ≡ piece_kinds (pieces_from start (first ∷ others))
kinds_more before start first others true true gap white later =
    ap (map (λ token. token.kind)) (cond-true (is_gap first) _ _ gap) ∙ later (start_after start first) ∙ sym (ap piece_kinds (cond-true (is_white first) _ _ white))
kinds_more before start first others true false gap white later =
    ap (map (λ token. token.kind)) (cond-true (is_gap first) _ _ gap) ∙ later Beside
    ∙ sym (ap piece_kinds (cond-false (is_white first) _ _ white) ∙ cond-true (is_comment_class (class_of_lexeme first)) _ _ (gap_comment first gap))
kinds_more before start first others false true gap white later = absurd (false≢true (sym gap ∙ white_gap first white))
kinds_more before start first others false false gap white later =
    ap (map (λ token. token.kind)) (cond-false (is_gap first) _ _ gap) ∙ ap (λ more. kind_of first ∷ more) (later Beside)
    ∙ sym (ap piece_kinds (cond-false (is_white first) _ _ white)
    ∙ cond-false (is_comment_class (class_of_lexeme first)) _ _ (ap is_comment_class (class_token first gap) ∙ no_comment (kind_of first))
    ∙ ap (λ bytes. kind_of bytes ∷ piece_kinds (pieces_from Beside others)) (kept_token first gap))

kinds_are : (before : List ℕ) (start : PieceStart) (lexemes : List (List ℕ)) → map (λ token. token.kind) (tokens_from before lexemes) ≡ piece_kinds (pieces_from start lexemes)
kinds_are before start [] = refl
kinds_are before start (first ∷ others) = kinds_more before start first others (is_gap first) (is_white first) refl refl (λ next. kinds_are (before ++ first) next others)

pub has_kinds : (text : List ℕ) (pieces : List Piece) → IsCutInto text pieces → HasKinds text (piece_kinds pieces)
has_kinds text pieces cut = record {
  tokens = tokens_from [] cut.lexemes;
  cut = record { lexemes = cut.lexemes; cut = cut.cut; same = refl };
  same = kinds_are [] Beside cut.lexemes ∙ ap piece_kinds (sym cut.same);
}

kinds_from : (state : LayoutState) (pieces : List Piece) → piece_kinds (settled_from state pieces) ≡ piece_kinds pieces
kinds_from state [] = refl
kinds_from state (piece ∷ pieces) =
    ap (λ more. if is_comment_class piece.class then more else (kind_of piece.bytes ∷ more)) (kinds_from (after_piece state (gap_before state piece (piece ∷ pieces)) piece) pieces)

pub same_kinds : (pieces : List Piece) → piece_kinds (settled_pieces pieces) ≡ piece_kinds pieces
same_kinds pieces = kinds_from before_pieces pieces
