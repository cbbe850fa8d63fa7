-- One more lexeme of a text that is cut.
use Rattle.std.proofs.Common.{◌≡◌, ℕ, true, false, List, [], ◌∷◌, ◌++◌, take, drop, refl, sym, ap, ◌∙◌, subst, append_assoc}
use Rattle.std.specs.List.{AllByRecursion}
use Rattle.std.proofs.lemmas.Bool.{cond-true, cond-false}
use Rattle.twe_lexer.specs.declared.lexeme.Lexeme.{Lexeme}
use Rattle.twe_lexer.specs.Front.{Opens}
use Rattle.twe_lexer.specs.Lexeme.{IsFirstLexeme, IsUnclosedComment}
use Rattle.twe_lexer.specs.Tokens.{AreFirstLexemes}
use Rattle.text_pieces.specs.declared.piece.Piece.{Piece}
use Rattle.text_pieces.specs.declared.piece.PieceStart.{PieceStart}
use Rattle.text_pieces.specs.declared.piece.PieceStart.TheVariants.{Beside}
use Rattle.text_pieces.specs.Pieces.{is_white, start_after, piece_of, pieces_from, IsCutInto}
use Rattle.text_pieces.specs.inner.Cutting.{HasCut}

pub none_cut : (text : List ℕ) → HasCut text [] Beside text
none_cut text = record { lexemes = []; cut = refl; closed = tt; sofar = λ more. refl }

pub white_adds : (pieces : List Piece) (start : PieceStart) (bytes : List ℕ) (more : List (List ℕ)) → is_white bytes ≡ true →
    pieces ++ pieces_from start (bytes ∷ more) ≡ pieces ++ pieces_from (start_after start bytes) more
white_adds pieces start bytes more white = ap (λ those. pieces ++ those) (cond-true (is_white bytes) _ _ white)

pub piece_adds : (pieces : List Piece) (start : PieceStart) (bytes : List ℕ) (more : List (List ℕ)) → is_white bytes ≡ false →
    pieces ++ pieces_from start (bytes ∷ more) ≡ (pieces ++ piece_of start bytes ∷ []) ++ pieces_from Beside more
piece_adds pieces start bytes more white =
    ap (λ those. pieces ++ those) (cond-false (is_white bytes) _ _ white)
    ∙ sym (append_assoc pieces (piece_of start bytes ∷ []) (pieces_from Beside more))

cut_snoc : (one : List (List ℕ)) (text middle rest bytes : List ℕ) → AreFirstLexemes one text middle → IsFirstLexeme bytes middle rest → AreFirstLexemes (one ++ bytes ∷ []) text rest
cut_snoc [] text middle rest bytes is first = (rest, subst (λ (t : List ℕ). IsFirstLexeme bytes t rest) (sym is) first, refl)
cut_snoc (head ∷ others) text middle rest bytes (later, found, cut) first = (later, found, cut_snoc others later middle rest bytes cut first)

closed_snoc : (one : List (List ℕ)) (bytes : List ℕ) → AllByRecursion (λ lexeme. ¬ IsUnclosedComment lexeme) one → ¬ IsUnclosedComment bytes
    → AllByRecursion (λ lexeme. ¬ IsUnclosedComment lexeme) (one ++ bytes ∷ [])
closed_snoc [] bytes all here = (here, tt)
closed_snoc (first ∷ one) bytes all here = (all.0, closed_snoc one bytes all.1 here)

-- a lexeme was added to what was cut
pub more_cut : (text : List ℕ) (pieces news : List Piece) (start next : PieceStart) (rest : List ℕ) (lexeme : Lexeme) → HasCut text pieces start rest → Opens lexeme rest
    → ((more : List (List ℕ)) → pieces ++ pieces_from start (take lexeme.len rest ∷ more) ≡ news ++ pieces_from next more)
    → HasCut text news next (drop lexeme.len rest)
more_cut text pieces news start next rest lexeme has opens adds =
    let bytes = take lexeme.len rest in record {
      lexemes = has.lexemes ++ bytes ∷ [];
      cut = cut_snoc has.lexemes text rest (drop lexeme.len rest) bytes has.cut opens.first;
      closed = closed_snoc has.lexemes bytes has.closed opens.closed;
      sofar = λ more. ap (pieces_from Beside) (append_assoc has.lexemes (bytes ∷ []) more) ∙ has.sofar (bytes ∷ more) ∙ adds more;
    }

append_nothing : (pieces : List Piece) → pieces ++ [] ≡ pieces
append_nothing [] = refl
append_nothing (piece ∷ pieces) = ap (λ more. piece ∷ more) (append_nothing pieces)

nothing_after : (lexemes : List (List ℕ)) → lexemes ++ [] ≡ lexemes
nothing_after [] = refl
nothing_after (lexeme ∷ lexemes) = ap (λ more. lexeme ∷ more) (nothing_after lexemes)

pub whole_cut : (text : List ℕ) (pieces : List Piece) (start : PieceStart) → HasCut text pieces start [] → IsCutInto text pieces
whole_cut text pieces start has = record {
  lexemes = has.lexemes;
  cut = has.cut;
  closed = has.closed;
  same = sym (append_nothing pieces) ∙ sym (has.sofar []) ∙ ap (pieces_from Beside) (nothing_after has.lexemes);
}
