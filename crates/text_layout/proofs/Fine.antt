-- The pieces of a text: what each of them is.
use Rattle.std.proofs.Common.{◌≡◌, ℕ, min, Bool, true, false, List, [], ◌∷◌, ◌++◌, take, eqb, Option, None, Some, refl, sym, ap, ◌∙◌, subst, arith}
use Rattle.std.specs.Str.{bytes_eq}
use Rattle.std.specs.List.{AllByRecursion, list_all, find}
use Rattle.std.proofs.lemmas.Bool.{false≢true, and_parts, cond-true, cond-false}
use Rattle.std.proofs.lemmas.Slice.Eq.{bytes_eq-Decides}
use Rattle.twe_lexer.specs.declared.fixed.Fixed.{Fixed}
use Rattle.twe_lexer.specs.declared.token.TokenKind.TheVariants as kinds
use Rattle.twe_lexer.specs.Kinds.{number_of_kind, too_large, kind_of, kind_unless}
use Rattle.twe_lexer.specs.Lexeme.{is_number, is_word, HasClose, IsLexeme, IsUnclosedComment, one_byte, long_symbol, word, number, line_comment, block_comment, unclosed_comment}
use Rattle.twe_lexer.specs.Places.{is_gap}
use Rattle.twe_lexer.specs.Spelling.{spelling, spelled, every_fixed}
use Rattle.twe_lexer.specs.Tokens.{AreFirstLexemes}
use Rattle.twe_lexer.proofs.Heads.{letter_begins, digit_begins, symbol_pair}
use Rattle.text_pieces.specs.declared.piece.Class.{Class}
use Rattle.text_pieces.specs.declared.piece.Class.TheVariants as classes
use Rattle.text_pieces.specs.declared.piece.Piece.{Piece}
use Rattle.text_pieces.specs.declared.piece.PieceStart.{PieceStart}
use Rattle.text_pieces.specs.declared.piece.PieceStart.TheVariants.{Beside}
use Rattle.text_pieces.specs.Pieces.{is_white, start_after, begins_line_comment, class_of_kind, class_of_lexeme, without_last_blanks, kept_bytes, piece_of, pieces_from}
use Rattle.text_layout.proofs.Trimmed.{ends_no_line, what_is_left}

-- what the bytes of a piece are
pub data Fine : List ℕ → Class → Type 0 where
  token : (bytes : List ℕ) → IsLexeme bytes → is_gap bytes ≡ false → is_white bytes ≡ false → Fine bytes (class_of_kind (kind_of bytes))
  line : (body : List ℕ) → list_all ends_no_line body ≡ true → without_last_blanks (47 ∷ 47 ∷ body) ≡ 47 ∷ 47 ∷ body → Fine (47 ∷ 47 ∷ body) classes.LineComment
  block : (body : List ℕ) → ¬ HasClose body → Fine (47 ∷ 42 ∷ (body ++ (42 ∷ 47 ∷ []))) classes.BlockComment

no_line : (bytes : List ℕ) → is_gap bytes ≡ false → begins_line_comment bytes ≡ false
no_line bytes gap = known (begins_line_comment bytes) refl
  where
    clash : (bytes : List ℕ) → is_gap bytes ≡ false → take 2 bytes ≡ 47 ∷ 47 ∷ [] → ⊥
    clash [] gap same = cc
    clash (first ∷ []) gap same = cc
    clash (first ∷ second ∷ others) gap same =
        let one : first ≡ 47 = cc in
        let two : second ≡ 47 = cc in
        false≢true (sym gap ∙ (λ i. is_gap (one i ∷ two i ∷ others)))

    known : (b : Bool) → begins_line_comment bytes ≡ b → begins_line_comment bytes ≡ false
    known true is = absurd (clash bytes gap ((bytes_eq-Decides (take 2 bytes) (47 ∷ 47 ∷ [])).0 is))
    known false is = is

pub kept_token : (bytes : List ℕ) → is_gap bytes ≡ false → kept_bytes bytes ≡ bytes
kept_token bytes gap = cond-false (begins_line_comment bytes) _ _ (no_line bytes gap)

pub class_token : (bytes : List ℕ) → is_gap bytes ≡ false → class_of_lexeme bytes ≡ class_of_kind (kind_of bytes)
class_token bytes gap = cond-false (is_gap bytes) _ _ gap

-- a piece is read as itself
pub read_again : (bytes : List ℕ) (class : Class) (start : PieceStart) → Fine bytes class → piece_of start bytes ≡ record { bytes = bytes; class = class; start = start }
read_again _ _ start (token bytes lexeme gap white) = λ i. record { bytes = kept_token bytes gap i; class = class_token bytes gap i; start = start }
read_again _ _ start (line body one_line kept) = λ i. record { bytes = kept i; class = classes.LineComment; start = start }
read_again _ _ start (block body none) = refl

pub no_white : (bytes : List ℕ) (class : Class) → Fine bytes class → is_white bytes ≡ false
no_white _ _ (token bytes lexeme gap white) = white
no_white _ _ (line body one_line kept) = refl
no_white _ _ (block body none) = refl

fine_comment : (first second : ℕ) (others : List ℕ) → IsLexeme (first ∷ second ∷ others) → ¬ IsUnclosedComment (first ∷ second ∷ others) → is_gap (first ∷ second ∷ others) ≡ true
    → Fine (kept_bytes (first ∷ second ∷ others)) (class_of_lexeme (first ∷ second ∷ others))
fine_comment first second others lexeme closed gap =
    let slash : eqb first 47 ≡ true = (and_parts (eqb first 47) _ gap).0 in
    elim lexeme [
      | one_byte alone ↦ absurd (omega arith)
      | long_symbol symbol ↦ absurd (false≢true (sym (symbol_pair (first ∷ second ∷ others) symbol).no_gap ∙ gap))
      | word passes ↦ absurd (false≢true (sym (letter_begins first (and_parts _ _ passes).0).no_slash ∙ slash))
      | number passes ↦ absurd (false≢true (sym (digit_begins first (and_parts _ _ passes).0).no_slash ∙ slash))
      | line_comment comment ↦
          let left = what_is_left comment.0 in
          let that : Fine (kept_bytes (47 ∷ 47 ∷ comment.0)) (class_of_lexeme (47 ∷ 47 ∷ comment.0)) =
          subst (λ (bytes : List ℕ). Fine bytes classes.LineComment) (sym left.same) (line left.kept (left.one_line comment.2) left.again) in
          subst (λ (bytes : List ℕ). Fine (kept_bytes bytes) (class_of_lexeme bytes)) (sym comment.1) that
      | block_comment comment ↦
          let that : Fine (kept_bytes (47 ∷ 42 ∷ (comment.0 ++ (42 ∷ 47 ∷ [])))) (class_of_lexeme (47 ∷ 42 ∷ (comment.0 ++ (42 ∷ 47 ∷ [])))) = block comment.0 comment.2 in
          subst (λ (bytes : List ℕ). Fine (kept_bytes bytes) (class_of_lexeme bytes)) (sym comment.1) that
      | unclosed_comment comment ↦ absurd (closed comment)
    ]

fine_lexeme : (bytes : List ℕ) (gap : Bool) → is_gap bytes ≡ gap → IsLexeme bytes → ¬ IsUnclosedComment bytes → is_white bytes ≡ false → Fine (kept_bytes bytes) (class_of_lexeme bytes)
fine_lexeme bytes false gap lexeme closed white =
    subst (λ (its : List ℕ). Fine its (class_of_lexeme bytes)) (sym (kept_token bytes gap)) (subst (λ (class : Class). Fine bytes class) (sym (class_token bytes gap)) (token bytes lexeme gap white))
fine_lexeme [] true gap lexeme closed white = absurd (false≢true gap)
fine_lexeme (first ∷ []) true gap lexeme closed white = absurd (false≢true (sym white ∙ gap))
fine_lexeme (first ∷ second ∷ others) true gap lexeme closed white = fine_comment first second others lexeme closed gap

abbrev pub AllFine : List Piece → Type 0
AllFine [] = Unit {0}
AllFine (piece ∷ pieces) = Fine piece.bytes piece.class × AllFine pieces

known_piece : (start : PieceStart) (first : List ℕ) (others : List (List ℕ)) (white : Bool) → is_white first ≡ white → IsLexeme first → ¬ IsUnclosedComment first
    → AllFine (pieces_from (start_after start first) others) → AllFine (pieces_from Beside others) → AllFine (pieces_from start (first ∷ others))
known_piece start first others true is lexeme closed after next =
    subst AllFine (sym (cond-true (is_white first) (pieces_from (start_after start first) others) (piece_of start first ∷ pieces_from Beside others) is)) after
known_piece start first others false is lexeme closed after next =
    let those : AllFine (piece_of start first ∷ pieces_from Beside others) = (fine_lexeme first (is_gap first) refl lexeme closed is, next) in
    subst AllFine (sym (cond-false (is_white first) (pieces_from (start_after start first) others) (piece_of start first ∷ pieces_from Beside others) is)) those

pub fine_pieces : (start : PieceStart) (lexemes : List (List ℕ)) (text : List ℕ) → AreFirstLexemes lexemes text [] → AllByRecursion (λ lexeme. ¬ IsUnclosedComment lexeme) lexemes → AllFine (pieces_from start lexemes)
fine_pieces start [] text cut closed = tt
fine_pieces start (first ∷ others) text (later, found, cut) closed =
    known_piece start first others (is_white first) refl found.lexeme closed.0 (fine_pieces (start_after start first) others later cut closed.1) (fine_pieces Beside others later cut closed.1)

-- a keyword or a symbol is spelled so
spelled_first : (bytes : List ℕ) (g : Fixed) (those : List Fixed) (f : Fixed) (here : Bool) → bytes_eq bytes (spelling g) ≡ here → find (λ h. bytes_eq bytes (spelling h)) (g ∷ those) ≡ Some f
    → (find (λ h. bytes_eq bytes (spelling h)) those ≡ Some f → bytes ≡ spelling f) → bytes ≡ spelling f
spelled_first bytes g those f true same is more =
    let found : Some g ≡ Some f = sym (cond-true (bytes_eq bytes (spelling g)) (Some g) (find (λ h. bytes_eq bytes (spelling h)) those) same) ∙ is in
    let one : g ≡ f = cc in
    (bytes_eq-Decides bytes (spelling g)).0 same ∙ ap spelling one
spelled_first bytes g those f false other is more =
    more (sym (cond-false (bytes_eq bytes (spelling g)) (Some g) (find (λ h. bytes_eq bytes (spelling h)) those) other) ∙ is)

found_spelled : (bytes : List ℕ) (those : List Fixed) (f : Fixed) → find (λ g. bytes_eq bytes (spelling g)) those ≡ Some f → bytes ≡ spelling f
found_spelled bytes [] f is = cc
found_spelled bytes (g ∷ those) f is = spelled_first bytes g those f (bytes_eq bytes (spelling g)) refl is (found_spelled bytes those f)

kind_spelled : (bytes : List ℕ) (f : Fixed) → class_of_kind (kind_of bytes) ≡ classes.Fixed f → bytes ≡ spelling f
kind_spelled bytes f is = counted (is_number bytes) refl
  where
    named : (b : Bool) → is_word bytes ≡ b → class_of_kind (kind_unless None bytes) ≡ classes.Fixed f → ⊥
    named true passes same = let it = sym (ap class_of_kind (cond-true (is_word bytes) (kinds.Name bytes) kinds.Stray passes)) ∙ same in cc
    named false fails same = let it = sym (ap class_of_kind (cond-false (is_word bytes) (kinds.Name bytes) kinds.Stray fails)) ∙ same in cc

    unless : (found : Option Fixed) → spelled bytes ≡ found → class_of_kind (kind_unless found bytes) ≡ classes.Fixed f → bytes ≡ spelling f
    unless (Some g) here same = let one : g ≡ f = cc in found_spelled bytes every_fixed g here ∙ ap spelling one
    unless None here same = absurd (named (is_word bytes) refl same)

    counted : (b : Bool) → is_number bytes ≡ b → bytes ≡ spelling f
    counted true passes = let it = sym (ap class_of_kind (cond-true (is_number bytes) (kinds.Literal (min (number_of_kind bytes) too_large)) (kind_unless (spelled bytes) bytes) passes)) ∙ is in absurd cc
    counted false fails = unless (spelled bytes) refl (sym (ap class_of_kind (cond-false (is_number bytes) (kinds.Literal (min (number_of_kind bytes) too_large)) (kind_unless (spelled bytes) bytes) fails)) ∙ is)

pub fixed_spelled : (bytes : List ℕ) (class : Class) → Fine bytes class → (f : Fixed) → class ≡ classes.Fixed f → bytes ≡ spelling f
fixed_spelled _ _ (token bytes lexeme gap white) f is = kind_spelled bytes f is
fixed_spelled _ _ (line body one_line kept) f is = cc
fixed_spelled _ _ (block body none) f is = cc

-- a name is a word
pub name_is_word : (bytes : List ℕ) (class : Class) → Fine bytes class → class ≡ classes.Name → is_word bytes ≡ true
name_is_word _ _ (line body one_line kept) is = cc
name_is_word _ _ (block body none) is = cc
name_is_word _ _ (token bytes lexeme gap white) is = counted (is_number bytes) refl
  where
    named : (b : Bool) → is_word bytes ≡ b → class_of_kind (kind_unless None bytes) ≡ classes.Name → is_word bytes ≡ true
    named true passes same = passes
    named false fails same = let it = sym (ap class_of_kind (cond-false (is_word bytes) (kinds.Name bytes) kinds.Stray fails)) ∙ same in absurd cc

    unless : (found : Option Fixed) → class_of_kind (kind_unless found bytes) ≡ classes.Name → is_word bytes ≡ true
    unless (Some g) same = absurd cc
    unless None same = named (is_word bytes) refl same

    counted : (b : Bool) → is_number bytes ≡ b → is_word bytes ≡ true
    counted true passes = let it = sym (ap class_of_kind (cond-true (is_number bytes) (kinds.Literal (min (number_of_kind bytes) too_large)) (kind_unless (spelled bytes) bytes) passes)) ∙ is in absurd cc
    counted false fails = unless (spelled bytes) (sym (ap class_of_kind (cond-false (is_number bytes) (kinds.Literal (min (number_of_kind bytes) too_large)) (kind_unless (spelled bytes) bytes) fails)) ∙ is)

-- a literal is a number
pub literal_is_number : (bytes : List ℕ) (class : Class) → Fine bytes class → class ≡ classes.Literal → is_number bytes ≡ true
literal_is_number _ _ (line body one_line kept) is = cc
literal_is_number _ _ (block body none) is = cc
literal_is_number _ _ (token bytes lexeme gap white) is = counted (is_number bytes) refl
  where
    named : (b : Bool) → is_word bytes ≡ b → class_of_kind (kind_unless None bytes) ≡ classes.Literal → ⊥
    named true passes same = let it = sym (ap class_of_kind (cond-true (is_word bytes) (kinds.Name bytes) kinds.Stray passes)) ∙ same in cc
    named false fails same = let it = sym (ap class_of_kind (cond-false (is_word bytes) (kinds.Name bytes) kinds.Stray fails)) ∙ same in cc

    unless : (found : Option Fixed) → class_of_kind (kind_unless found bytes) ≡ classes.Literal → ⊥
    unless (Some g) same = cc
    unless None same = named (is_word bytes) refl same

    counted : (b : Bool) → is_number bytes ≡ b → is_number bytes ≡ true
    counted true passes = passes
    counted false fails = absurd (unless (spelled bytes) (sym (ap class_of_kind (cond-false (is_number bytes) (kinds.Literal (min (number_of_kind bytes) too_large)) (kind_unless (spelled bytes) bytes) fails)) ∙ is))
