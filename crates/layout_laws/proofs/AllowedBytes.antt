-- The bytes of a text in its layout are allowed if those of the text are.
use Rattle.std.proofs.Common.{◌≡◌, ℕ, zero, suc, Bool, true, false, List, [], ◌∷◌, ◌++◌, take, drop, replicate, refl, sym, ◌∙◌, subst, append_assoc}
use Rattle.std.specs.Prelude.{if◌then◌else◌}
use Rattle.std.specs.List.{AllByRecursion, list_all}
use Rattle.std.proofs.lemmas.Bool.{and_parts, and_from, cond-true, cond-false}
use Rattle.std.proofs.lemmas.List.{take-append-drop}
use Rattle.std.proofs.lemmas.List.Folds.{list_all-append}
use Rattle.twe_base.specs.declared.place.Place.{Place}
use Rattle.twe_lexer.specs.Lexeme.{is_allowed}
use Rattle.twe_lexer.specs.Places.{place_after}
use Rattle.twe_lexer.specs.Tokens.{AreFirstLexemes}
use Rattle.twe_parser.specs.declared.fail.SRule.TheVariants.{S1}
use Rattle.twe_parser.specs.Fails.{Fails, byte}
use Rattle.text_pieces.specs.declared.piece.Piece.{Piece}
use Rattle.text_pieces.specs.declared.piece.PieceStart.{PieceStart}
use Rattle.text_pieces.specs.declared.piece.PieceStart.TheVariants.{Beside}
use Rattle.text_pieces.specs.Pieces.{is_white, start_after, begins_line_comment, without_last_blanks, kept_bytes, piece_of, pieces_from, IsCutInto}
use Rattle.text_layout.specs.declared.gap.Gap.{Gap}
use Rattle.text_layout.specs.declared.gap.Gap.TheVariants.{Nothing, Space, Line, LineApart}
use Rattle.text_layout.specs.declared.state.LayoutState.{LayoutState}
use Rattle.text_layout.specs.Layout.{gap_bytes, before_pieces, gap_before, after_piece, layout_from, layout}

abbrev pub AllAllowed : List ℕ → Type 0
AllAllowed bytes = list_all is_allowed bytes ≡ true

both : (one other : List ℕ) → AllAllowed one → AllAllowed other → AllAllowed (one ++ other)
both one other first second = list_all-append is_allowed one other ∙ and_from (list_all is_allowed one) (list_all is_allowed other) first second

parts : (one other : List ℕ) → AllAllowed (one ++ other) → AllAllowed one × AllAllowed other
parts one other all = and_parts (list_all is_allowed one) (list_all is_allowed other) (sym (list_all-append is_allowed one other) ∙ all)

-- each byte of a text is allowed if the text does not fail the rule that asks for it
module _ (text : List ℕ) (keeps : (place : Place) → ¬ Fails text S1 place) where
  one_allowed : (front rest : List ℕ) (code : ℕ) → text ≡ front ++ code ∷ rest → (b : Bool) → is_allowed code ≡ b → is_allowed code ≡ true
  one_allowed front rest code is true passes = passes
  one_allowed front rest code is false fails = absurd (keeps (place_after front) (byte front rest code is fails))

  allowed_from : (front rest : List ℕ) → text ≡ front ++ rest → AllAllowed rest
  allowed_from front [] is = refl
  allowed_from front (code ∷ rest) is =
      and_from (is_allowed code) (list_all is_allowed rest) (one_allowed front rest code is (is_allowed code) refl)
      (allowed_from (front ++ code ∷ []) rest (is ∙ sym (append_assoc front (code ∷ []) rest)))

  pub text_allowed : AllAllowed text
  text_allowed = allowed_from [] text refl

kept_allowed : (bytes : List ℕ) → AllAllowed bytes → AllAllowed (kept_bytes bytes)
kept_allowed bytes all = known (begins_line_comment bytes) refl
  where
    front : (count : ℕ) → AllAllowed (take count bytes)
    front count = (parts (take count bytes) (drop count bytes) (subst AllAllowed (sym (take-append-drop count bytes)) all)).0

    known : (b : Bool) → begins_line_comment bytes ≡ b → AllAllowed (kept_bytes bytes)
    known true is = subst AllAllowed (sym (cond-true (begins_line_comment bytes) (without_last_blanks bytes) bytes is)) (front _)
    known false is = subst AllAllowed (sym (cond-false (begins_line_comment bytes) (without_last_blanks bytes) bytes is)) all

abbrev PiecesAllowed : List Piece → Type 0
PiecesAllowed pieces = AllByRecursion (λ piece. AllAllowed piece.bytes) pieces

-- one more lexeme, by whether it is white space, with what is known of those after it
more_allowed : (start : PieceStart) (first : List ℕ) (others : List (List ℕ)) (white : Bool) → is_white first ≡ white → AllAllowed first
    → ((next : PieceStart) → PiecesAllowed (pieces_from next others)) → PiecesAllowed (pieces_from start (first ∷ others))
more_allowed start first others true is all later =
    subst PiecesAllowed (sym (cond-true (is_white first) (pieces_from (start_after start first) others) (piece_of start first ∷ pieces_from Beside others) is)) (later (start_after start first))
more_allowed start first others false is all later =
    let those : PiecesAllowed (piece_of start first ∷ pieces_from Beside others) = (kept_allowed first all, later Beside) in
    subst PiecesAllowed (sym (cond-false (is_white first) (pieces_from (start_after start first) others) (piece_of start first ∷ pieces_from Beside others) is)) those

pieces_allowed : (start : PieceStart) (lexemes : List (List ℕ)) (text : List ℕ) → AreFirstLexemes lexemes text [] → AllAllowed text → PiecesAllowed (pieces_from start lexemes)
pieces_allowed start [] text cut all = tt
pieces_allowed start (first ∷ others) text (later, found, cut) all =
    let split = parts first later (subst AllAllowed found.split all) in
    more_allowed start first others (is_white first) refl split.0 (λ next. pieces_allowed next others later cut split.1)

spaces_allowed : (count : ℕ) → AllAllowed (replicate count 32)
spaces_allowed zero = refl
spaces_allowed (suc count) = spaces_allowed count

gap_allowed : (gap : Gap) → AllAllowed (gap_bytes gap)
gap_allowed Nothing = refl
gap_allowed Space = refl
gap_allowed (Line indent) = spaces_allowed indent
gap_allowed (LineApart indent) = spaces_allowed indent

end_allowed : (begun : Bool) → AllAllowed (if begun then 10 ∷ [] else [])
end_allowed true = refl
end_allowed false = refl

layout_from_allowed : (state : LayoutState) (pieces : List Piece) → PiecesAllowed pieces → AllAllowed (layout_from state pieces)
layout_from_allowed state [] all = end_allowed state.begun
layout_from_allowed state (piece ∷ pieces) all =
    let gap = gap_before state piece (piece ∷ pieces) in
    both (gap_bytes gap) (piece.bytes ++ layout_from (after_piece state gap piece) pieces) (gap_allowed gap)
    (both piece.bytes (layout_from (after_piece state gap piece) pieces) all.0 (layout_from_allowed (after_piece state gap piece) pieces all.1))

pub layout_allowed : (text : List ℕ) (pieces : List Piece) → IsCutInto text pieces → AllAllowed text → AllAllowed (layout pieces)
layout_allowed text pieces cut all =
    layout_from_allowed before_pieces pieces (subst PiecesAllowed (sym cut.same) (pieces_allowed Beside cut.lexemes text cut.cut all))
