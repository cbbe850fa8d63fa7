-- Pieces that are joined well are the lexemes of their text.
use Rattle.std.proofs.Common.{◌≡◌, ℕ, ◌+◌, ◌<◌, Bool, true, false, ◌&&◌, ◌||◌, not, List, [], ◌∷◌, ◌++◌, length, take, drop, eqb, Option, None, Some, min, refl, sym, ap, ◌∙◌, subst, arith}
use Rattle.std.specs.Prelude.{if◌then◌else◌, decimal}
use Rattle.std.specs.List.{list_all, prefix_len, AllByRecursion}
use Rattle.std.specs.Char.{is_ascii_digit}
use Rattle.std.proofs.lemmas.Bool.{false≢true, and_from, and_parts, or_left, or_right, cond-true, cond-false, eq-eqb, le-ltb}
use Rattle.std.proofs.lemmas.List.{take_at, drop_at}
use Rattle.twe_lexer.specs.declared.fixed.Fixed.{Fixed}
use Rattle.twe_lexer.specs.declared.fixed.Fixed.TheVariants as fixed
use Rattle.twe_lexer.specs.declared.token.TokenKind.{TokenKind}
use Rattle.twe_lexer.specs.declared.token.TokenKind.TheVariants as kinds
use Rattle.twe_lexer.specs.Kinds.{number_of_kind, kind_of, kind_unless}
use Rattle.twe_lexer.specs.Lexeme.{is_blank, is_letter, is_word_byte, is_word, is_number, is_long_symbol, is_allowed, IsFirstLexeme, IsUnclosedComment}
use Rattle.twe_lexer.specs.Spelling.{spelling, spelled}
use Rattle.twe_lexer.specs.Places.{is_gap}
use Rattle.twe_lexer.specs.Tokens.{AreFirstLexemes, tokens_from}
use Rattle.twe_lexer.specs.inner.Extents.{Begins}
use Rattle.twe_lexer.proofs.Beginnings.{word_begins, number_begins, byte_begins}
use Rattle.twe_parser.specs.Limits.{limits_at_start, sofar_after, is_too_large, is_too_deep}
use Rattle.twe_parser.specs.declared.limits.Sofar.{Sofar}
use Rattle.ast_printer.specs.Text.{bytes_of}
use Rattle.ast_printer.proofs.Passing.{AllPass}
use Rattle.ast_printer.proofs.Supply.{kinds_in}
use Rattle.ast_printer.proofs.Alone.{ReadAlone, word_alone, fixed_alone}
use Rattle.load_text.proofs.accepted.Pieces.{Piece, space, line_end, token, piece_bytes, piece_kinds, pieces_text, pieces_kinds, pieces_lexemes, begins_apart, is_gap_piece, ends_word, is_lone, is_assign, joins_all, well_joined, Needs, Named}

from_begins : (is_token : Bool) (bytes rest : List ℕ) → Begins (record { len = length bytes; is_token = is_token }) (bytes ++ rest)
    → IsFirstLexeme bytes (bytes ++ rest) rest
from_begins is_token bytes rest begins =
    let front : take (length bytes) (bytes ++ rest) ≡ bytes = take_at bytes rest (length bytes) refl in
    let back : drop (length bytes) (bytes ++ rest) ≡ rest = drop_at bytes rest (length bytes) refl in
    subst (λ (its : List ℕ). IsFirstLexeme bytes (bytes ++ rest) its) back
    (subst (λ (its : List ℕ). IsFirstLexeme its (bytes ++ rest) (drop (length bytes) (bytes ++ rest))) front begins.first)

-- the text begins with a byte of no word
record Apart (text : List ℕ) : Type 0 where
  first : ℕ
  others : List ℕ
  is : text ≡ first ∷ others
  apart : is_word_byte first ≡ false

run_length : (passes : ℕ → Bool) (bytes : List ℕ) (gap : ℕ) (rest : List ℕ) → list_all passes bytes ≡ true → passes gap ≡ false
    → length bytes ≡ prefix_len passes (bytes ++ gap ∷ rest)
run_length passes [] gap rest all ends = sym (cond-false (passes gap) _ 0 ends)
run_length passes (first ∷ others) gap rest all ends =
    let parts = and_parts (passes first) (list_all passes others) all in
    let more = run_length passes others gap rest parts.1 ends in
    let counted : length (first ∷ others) ≡ 1 + prefix_len passes (others ++ gap ∷ rest) = omega arith in
    counted ∙ sym (cond-true (passes first) _ 0 parts.0)

word_stands : (bytes : List ℕ) (gap : ℕ) (rest : List ℕ) → is_word bytes ≡ true → is_word_byte gap ≡ false
    → IsFirstLexeme bytes (bytes ++ gap ∷ rest) (gap ∷ rest)
word_stands [] gap rest is ends = absurd (false≢true is)
word_stands (first ∷ others) gap rest is ends =
    let parts = and_parts (is_letter first) (list_all is_word_byte others) is in
    from_begins true (first ∷ others) (gap ∷ rest)
    (word_begins (first ∷ (others ++ gap ∷ rest)) (length (first ∷ others)) (omega arith) parts.0
    (run_length is_word_byte (first ∷ others) gap rest
    (and_from (is_word_byte first) _ (or_left (is_letter first) (is_ascii_digit first) parts.0) parts.1) ends))

number_stands : (bytes : List ℕ) (gap : ℕ) (rest : List ℕ) → is_number bytes ≡ true → is_ascii_digit gap ≡ false
    → IsFirstLexeme bytes (bytes ++ gap ∷ rest) (gap ∷ rest)
number_stands [] gap rest is ends = absurd (false≢true is)
number_stands (first ∷ others) gap rest is ends =
    let parts = and_parts (is_ascii_digit first) (list_all is_ascii_digit others) is in
    from_begins true (first ∷ others) (gap ∷ rest)
    (number_begins (first ∷ (others ++ gap ∷ rest)) (length (first ∷ others)) (omega arith) parts.0
    (run_length is_ascii_digit (first ∷ others) gap rest is ends))

no_pair : (byte : ℕ) (rest : List ℕ) → is_long_symbol (byte ∷ []) ≡ false → ((next : ℕ) → is_long_symbol (byte ∷ next ∷ []) ≡ false)
    → is_long_symbol (take 2 (byte ∷ rest)) ≡ false
no_pair byte [] alone pair = alone
no_pair byte (next ∷ rest) alone pair = pair next

byte_stands : (byte : ℕ) (rest : List ℕ) → is_letter byte ≡ false → is_ascii_digit byte ≡ false → eqb byte 47 ≡ false
    → is_long_symbol (take 2 (byte ∷ rest)) ≡ false → IsFirstLexeme (byte ∷ []) (byte ∷ rest) rest
byte_stands byte rest letter digit slash pair =
    from_begins (not (is_blank byte)) (byte ∷ []) rest
    (byte_begins (byte ∷ rest) (not (is_blank byte)) (omega arith) refl letter digit pair
    (λ later same. let is : byte ≡ 47 = cc in false≢true (sym slash ∙ eq-eqb byte 47 is))
    (λ later same. let is : byte ≡ 47 = cc in false≢true (sym slash ∙ eq-eqb byte 47 is)))

lone_stands : (f : Fixed) (rest : List ℕ) → is_lone f ≡ true → IsFirstLexeme (spelling f) (spelling f ++ rest) rest
lone_stands fixed.Comma rest is = byte_stands 44 rest refl refl refl (no_pair 44 rest refl (λ next. refl))
lone_stands fixed.Semicolon rest is = byte_stands 59 rest refl refl refl (no_pair 59 rest refl (λ next. refl))
lone_stands fixed.Colon rest is = byte_stands 58 rest refl refl refl (no_pair 58 rest refl (λ next. refl))
lone_stands fixed.Dot rest is = byte_stands 46 rest refl refl refl (no_pair 46 rest refl (λ next. refl))
lone_stands fixed.OpenBracket rest is = byte_stands 91 rest refl refl refl (no_pair 91 rest refl (λ next. refl))
lone_stands fixed.CloseBracket rest is = byte_stands 93 rest refl refl refl (no_pair 93 rest refl (λ next. refl))
lone_stands fixed.OpenParen rest is = byte_stands 40 rest refl refl refl (no_pair 40 rest refl (λ next. refl))
lone_stands fixed.CloseParen rest is = byte_stands 41 rest refl refl refl (no_pair 41 rest refl (λ next. refl))
lone_stands fixed.OpenBrace rest is = byte_stands 123 rest refl refl refl (no_pair 123 rest refl (λ next. refl))
lone_stands fixed.CloseBrace rest is = byte_stands 125 rest refl refl refl (no_pair 125 rest refl (λ next. refl))
lone_stands fixed.Star rest is = byte_stands 42 rest refl refl refl (no_pair 42 rest refl (λ next. refl))
lone_stands fixed.Plus rest is = byte_stands 43 rest refl refl refl (no_pair 43 rest refl (λ next. refl))
lone_stands _ rest is = absurd (false≢true is)

gap_next : (next : Piece) (pieces : List Piece) → is_gap_piece next ≡ true → is_long_symbol (take 2 (61 ∷ pieces_text (next ∷ pieces))) ≡ false
gap_next space pieces is = refl
gap_next line_end pieces is = refl
gap_next (token kind) pieces is = absurd (false≢true is)

assign_stands : (f : Fixed) (next : Piece) (pieces : List Piece) → is_assign f ≡ true → is_gap_piece next ≡ true
    → IsFirstLexeme (spelling f) (spelling f ++ pieces_text (next ∷ pieces)) (pieces_text (next ∷ pieces))
assign_stands fixed.Assign next pieces is gap = byte_stands 61 (pieces_text (next ∷ pieces)) refl refl refl (gap_next next pieces gap)
assign_stands _ next pieces is gap = absurd (false≢true is)

not_true : (b : Bool) → not b ≡ true → b ≡ false
not_true true is = absurd (false≢true is)
not_true false is = refl

fixed_apart : (bytes rest : List ℕ) → begins_apart bytes ≡ true → Apart (bytes ++ rest)
fixed_apart [] rest is = absurd (false≢true is)
fixed_apart (first ∷ others) rest is = record { first = first; others = others ++ rest; is = refl; apart = not_true (is_word_byte first) is }

next_apart : (next : Piece) (pieces : List Piece) → ends_word next ≡ true → Apart (pieces_text (next ∷ pieces))
next_apart space pieces is = record { first = 32; others = pieces_text pieces; is = refl; apart = refl }
next_apart line_end pieces is = record { first = 10; others = pieces_text pieces; is = refl; apart = refl }
next_apart (token (kinds.Fixed f)) pieces is = fixed_apart (spelling f) (pieces_text pieces) is
next_apart (token _) pieces is = absurd (false≢true is)

no_digit : (byte : ℕ) → is_word_byte byte ≡ false → is_ascii_digit byte ≡ false
no_digit byte apart = by_digit (is_ascii_digit byte) refl
  where
    by_digit : (digit : Bool) → is_ascii_digit byte ≡ digit → digit ≡ false
    by_digit false is = refl
    by_digit true is = absurd (false≢true (sym apart ∙ or_right (is_letter byte) (is_ascii_digit byte) is))

word_apart : (bytes text : List ℕ) → is_word bytes ≡ true → Apart text → IsFirstLexeme bytes (bytes ++ text) text
word_apart bytes text is ends =
    subst (λ (its : List ℕ). IsFirstLexeme bytes (bytes ++ its) its) (sym ends.is) (word_stands bytes ends.first ends.others is ends.apart)

number_apart : (bytes text : List ℕ) → is_number bytes ≡ true → Apart text → IsFirstLexeme bytes (bytes ++ text) text
number_apart bytes text is ends =
    subst (λ (its : List ℕ). IsFirstLexeme bytes (bytes ++ its) its) (sym ends.is)
    (number_stands bytes ends.first ends.others is (no_digit ends.first ends.apart))

-- what is read as a literal is a number, and what is read as a name is a word
no_name : (test : Bool) (bytes : List ℕ) (value : ℕ) → (if test then kinds.Name bytes else kinds.Stray) ≡ kinds.Literal value → ⊥
no_name true bytes value is = cc
no_name false bytes value is = cc

no_fixed : (found : Option Fixed) (bytes : List ℕ) (value : ℕ) → kind_unless found bytes ≡ kinds.Literal value → ⊥
no_fixed (Some f) bytes value is = cc
no_fixed None bytes value is = no_name (is_word bytes) bytes value is

pub number_from_kind : (bytes : List ℕ) (value : ℕ) → kind_of bytes ≡ kinds.Literal value → is_number bytes ≡ true
number_from_kind bytes value is = by_test (is_number bytes) (min (number_of_kind bytes) 2147483649) is
  where
    by_test : (test : Bool) (found : ℕ) → (if test then kinds.Literal found else kind_unless (spelled bytes) bytes) ≡ kinds.Literal value → test ≡ true
    by_test true found is = refl
    by_test false found is = absurd (no_fixed (spelled bytes) bytes value is)

name_found : (test : Bool) (bytes text : List ℕ) → (if test then kinds.Name bytes else kinds.Stray) ≡ kinds.Name text → test ≡ true
name_found true bytes text is = refl
name_found false bytes text is = cc

word_found : (found : Option Fixed) (bytes text : List ℕ) → kind_unless found bytes ≡ kinds.Name text → is_word bytes ≡ true
word_found (Some f) bytes text is = cc
word_found None bytes text is = name_found (is_word bytes) bytes text is

word_from_kind : (bytes text : List ℕ) → kind_of bytes ≡ kinds.Name text → is_word bytes ≡ true
word_from_kind bytes text is = by_test (is_number bytes) (min (number_of_kind bytes) 2147483649) is
  where
    by_test : (test : Bool) (found : ℕ) → (if test then kinds.Literal found else kind_unless (spelled bytes) bytes) ≡ kinds.Name text → is_word bytes ≡ true
    by_test true found is = cc
    by_test false found is = word_found (spelled bytes) bytes text is

pub small_literal : (sofar : Sofar) (value : ℕ) → value < 10000 → is_too_large sofar (kinds.Literal value) ≡ false
small_literal sofar value small = ap (λ (t : Bool). t && not (eqb value 2147483648 && sofar.unary_minus)) (le-ltb 2147483647 value (omega arith))

pub literal_alone : (value : ℕ) → value < 10000 → ReadAlone (kinds.Literal value)
literal_alone value small = word_alone (kinds.Literal value) limits_at_start (record { sound = tt; small = small_literal limits_at_start value small; shallow = refl })

-- what is known of a piece
abbrev pub PieceAlone : Piece → Type 0
PieceAlone (token kind) = ReadAlone kind
PieceAlone _ = Unit {0}

pub piece_alone : (piece : Piece) (More : Type 0) → Needs piece More → PieceAlone piece
piece_alone space More needs = tt
piece_alone line_end More needs = tt
piece_alone (token (kinds.Name text)) More needs = needs.0
piece_alone (token (kinds.Literal value)) More needs = literal_alone value needs.0
piece_alone (token (kinds.Fixed f)) More needs = fixed_alone f
piece_alone (token kinds.Stray) More needs = absurd needs

pub needs_more : (piece : Piece) (More : Type 0) → Needs piece More → More
needs_more space More needs = needs
needs_more line_end More needs = needs
needs_more (token (kinds.Name text)) More needs = needs.1
needs_more (token (kinds.Literal value)) More needs = needs.1
needs_more (token (kinds.Fixed f)) More needs = needs
needs_more (token kinds.Stray) More needs = absurd needs

-- the first piece is the first lexeme
fixed_stands : (f : Fixed) (next : Piece) (pieces : List Piece) (word lone : Bool) → is_word (spelling f) ≡ word → is_lone f ≡ lone
    → (if word then ends_word next else if lone then true else (is_assign f && is_gap_piece next)) ≡ true
    → IsFirstLexeme (spelling f) (spelling f ++ pieces_text (next ∷ pieces)) (pieces_text (next ∷ pieces))
fixed_stands f next pieces true lone word is joined = word_apart (spelling f) (pieces_text (next ∷ pieces)) word (next_apart next pieces joined)
fixed_stands f next pieces false true word is joined = lone_stands f (pieces_text (next ∷ pieces)) is
fixed_stands f next pieces false false word is joined = let parts = and_parts (is_assign f)
    (is_gap_piece next) joined in assign_stands f next pieces parts.0 parts.1

piece_stands : (piece : Piece) (pieces : List Piece) → PieceAlone piece → (is_gap_piece piece || joins_all piece pieces) ≡ true
    → IsFirstLexeme (piece_bytes piece) (piece_bytes piece ++ pieces_text pieces) (pieces_text pieces)
piece_stands space pieces alone joined = byte_stands 32 (pieces_text pieces) refl refl refl (no_pair 32 (pieces_text pieces) refl (λ next. refl))
piece_stands line_end pieces alone joined = byte_stands 10 (pieces_text pieces) refl refl refl (no_pair 10 (pieces_text pieces) refl (λ next. refl))
piece_stands (token kind) [] alone joined = absurd (false≢true joined)
piece_stands (token (kinds.Name text)) (next ∷ pieces) alone joined = word_apart text (pieces_text (next ∷ pieces))
    (word_from_kind text text alone.again) (next_apart next pieces joined)
piece_stands (token (kinds.Literal value)) (next ∷ pieces) alone joined =
    number_apart (decimal value) (pieces_text (next ∷ pieces)) (number_from_kind (decimal value) value alone.again) (next_apart next pieces joined)
piece_stands (token (kinds.Fixed f)) (next ∷ pieces) alone joined = fixed_stands f next pieces (is_word (spelling f)) (is_lone f) refl refl joined
piece_stands (token kinds.Stray) (next ∷ pieces) alone joined = absurd (false≢true joined)

pub pieces_cut : (pieces : List Piece) → Named pieces → well_joined pieces ≡ true → AreFirstLexemes (pieces_lexemes pieces) (pieces_text pieces) []
pieces_cut [] named joined = refl
pieces_cut (piece ∷ pieces) named joined =
    let parts = and_parts (is_gap_piece piece || joins_all piece pieces) (well_joined pieces) joined in (
      pieces_text pieces,
      piece_stands piece pieces (piece_alone piece (Named pieces) named) parts.0,
      pieces_cut pieces (needs_more piece (Named pieces) named) parts.1,
    )

-- the tokens of the text are those of the pieces
pub kinds_again : (before : List ℕ) (pieces : List Piece) → Named pieces → kinds_in (tokens_from before (pieces_lexemes pieces)) ≡ pieces_kinds pieces
kinds_again before [] named = refl
kinds_again before (piece ∷ pieces) named =
    first_kind piece (piece_alone piece (Named pieces) named) (kinds_again (before ++ piece_bytes piece) pieces (needs_more piece (Named pieces) named))
  where
    first_kind : (piece : Piece) → PieceAlone piece → kinds_in (tokens_from (before ++ piece_bytes piece) (pieces_lexemes pieces)) ≡ pieces_kinds pieces
        → kinds_in (tokens_from before (piece_bytes piece ∷ pieces_lexemes pieces)) ≡ piece_kinds piece ++ pieces_kinds pieces
    first_kind space alone more = more
    first_kind line_end alone more = more
    first_kind (token kind) alone more =
        ap kinds_in (cond-false (is_gap (bytes_of kind)) _ _ (alone.stands []).token)
        ∙ (λ i. alone.again i ∷ more i)

all_append : (one other : List ℕ) → list_all is_allowed one ≡ true → list_all is_allowed other ≡ true → list_all is_allowed (one ++ other) ≡ true
all_append [] other first second = second
all_append (code ∷ one) other first second = let parts = and_parts (is_allowed code) (list_all is_allowed one) first in and_from
    (is_allowed code) _ parts.0 (all_append one other parts.1 second)

pub pieces_allowed : (pieces : List Piece) → Named pieces → list_all is_allowed (pieces_text pieces) ≡ true
pieces_allowed [] named = refl
pieces_allowed (piece ∷ pieces) named =
    all_append (piece_bytes piece) (pieces_text pieces) (allowed piece (piece_alone piece (Named pieces) named))
    (pieces_allowed pieces (needs_more piece (Named pieces) named))
  where
    allowed : (piece : Piece) → PieceAlone piece → list_all is_allowed (piece_bytes piece) ≡ true
    allowed space alone = refl
    allowed line_end alone = refl
    allowed (token kind) alone = alone.allowed

pub pieces_closed : (pieces : List Piece) → Named pieces → AllByRecursion (λ lexeme. ¬ IsUnclosedComment lexeme) (pieces_lexemes pieces)
pieces_closed [] named = tt
pieces_closed (piece ∷ pieces) named = (closed piece (piece_alone piece (Named pieces) named), pieces_closed pieces (needs_more piece (Named pieces) named))
  where
    closed : (piece : Piece) → PieceAlone piece → ¬ IsUnclosedComment (piece_bytes piece)
    closed space alone comment = let is = comment.1 in cc
    closed line_end alone comment = let is = comment.1 in cc
    closed (token kind) alone comment = (alone.stands []).closed comment

-- the counts of brackets and operators stay within their limits
abbrev pub shallow : Sofar → List TokenKind → Bool
shallow sofar [] = true
shallow sofar (kind ∷ kinds) = not (is_too_deep sofar kind) && shallow (sofar_after sofar kind) kinds

pub pieces_pass : (pieces : List Piece) (sofar : Sofar) → Named pieces → shallow sofar (pieces_kinds pieces) ≡ true → AllPass sofar (pieces_kinds pieces)
pieces_pass [] sofar named within = tt
pieces_pass (space ∷ pieces) sofar named within = pieces_pass pieces sofar named within
pieces_pass (line_end ∷ pieces) sofar named within = pieces_pass pieces sofar named within
pieces_pass (token (kinds.Name text) ∷ pieces) sofar named within =
    let parts = and_parts (not (is_too_deep sofar (kinds.Name text))) _ within in
    (record { sound = named.0.again; small = refl; shallow = not_true _ parts.0 }, pieces_pass pieces (sofar_after sofar (kinds.Name text)) named.1 parts.1)
pieces_pass (token (kinds.Literal value) ∷ pieces) sofar named within =
    let parts = and_parts (not (is_too_deep sofar (kinds.Literal value))) _ within in (
      record { sound = tt; small = small_literal sofar value named.0; shallow = not_true _ parts.0 },
      pieces_pass pieces
          (sofar_after sofar (kinds.Literal value)) named.1 parts.1,
    )
pieces_pass (token (kinds.Fixed f) ∷ pieces) sofar named within =
    let parts = and_parts (not (is_too_deep sofar (kinds.Fixed f))) _ within in
    (record { sound = tt; small = refl; shallow = not_true _ parts.0 }, pieces_pass pieces (sofar_after sofar (kinds.Fixed f)) named parts.1)
pieces_pass (token kinds.Stray ∷ pieces) sofar named within = absurd named
