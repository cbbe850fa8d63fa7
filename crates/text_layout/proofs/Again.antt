-- A text that was laid out is cut into the same pieces.
use Rattle.std.proofs.Common.{◌≡◌, ℕ, ◌+◌, ◌*◌, ◌⊎◌, inl, inr, Bool, true, false, ◌&&◌, ◌||◌, not, List, [], ◌∷◌, ◌++◌, replicate, get_or, zero, suc, eqb, refl, sym, ap, ◌∙◌, subst}
use Rattle.std.specs.Prelude.{nat_lt, if◌then◌else◌}
use Rattle.std.specs.List.{AllByRecursion}
use Rattle.std.specs.Char.{is_ascii_digit}
use Rattle.std.proofs.lemmas.Bool.{false≢true, and_parts, or_cases, cond-true, cond-false, eqb-true}
use Rattle.twe_lexer.specs.declared.fixed.Fixed.{Fixed}
use Rattle.twe_lexer.specs.declared.fixed.Fixed.TheVariants as fixed
use Rattle.twe_lexer.specs.Lexeme.{is_letter, is_word, is_number, is_long_symbol, IsLexeme, IsFirstLexeme, IsUnclosedComment}
use Rattle.twe_lexer.specs.Kinds.{kind_of}
use Rattle.twe_lexer.specs.Places.{is_gap}
use Rattle.twe_lexer.specs.Spelling.{spelling}
use Rattle.twe_lexer.specs.Tokens.{AreFirstLexemes}
use Rattle.text_pieces.specs.declared.piece.Class.{Class}
use Rattle.text_pieces.specs.declared.piece.Class.TheVariants as classes
use Rattle.text_pieces.specs.declared.piece.Piece.{Piece}
use Rattle.text_pieces.specs.declared.piece.PieceStart.{PieceStart}
use Rattle.text_pieces.specs.declared.piece.PieceStart.TheVariants.{Beside, Below, Apart}
use Rattle.text_pieces.specs.Pieces.{is_white, class_of_kind, pieces_from, IsCutInto}
use Rattle.text_layout.specs.declared.gap.Gap.{Gap}
use Rattle.text_layout.specs.declared.gap.Gap.TheVariants.{Nothing, Space, Line, LineApart}
use Rattle.text_layout.specs.declared.state.LayoutState.{LayoutState}
use Rattle.text_layout.specs.Classes.{is_comment_class, is_line_comment_class, is_open_brace, is_close_brace, is_close_paren, is_comma, is_clause, can_begin_operand, is_unary, closes_up, opens_up, belongs_to, is_glued}
use Rattle.text_layout.specs.Fitting.{fits_block, fits_summary}
use Rattle.text_layout.specs.Layout.{gap_bytes, is_line, is_space, is_beside, before_pieces, begins, indent_of, gap_before, after_piece, layout_from, layout}
use Rattle.text_layout.specs.Settled.{start_behind, settled_from, settled_pieces}
use Rattle.text_layout.proofs.Settling.{line_at, gap_by, within_by}
use Rattle.text_layout.proofs.Fine.{Fine, token, line, block, AllFine, fine_pieces, read_again, no_white, fixed_spelled, name_is_word, literal_is_number}
use Rattle.text_layout.proofs.Standing.{Divides, token_stands, line_stands, block_stands, single_stands, no_unequal}

-- the first byte of the next piece can stand directly behind every token
record Begun (bytes : List ℕ) : Type 0 where
  first : ℕ
  others : List ℕ
  same : bytes ≡ first ∷ others
  divides : Divides first

divides_by : (first : ℕ) → Divides first → (others : List ℕ) → Begun (first ∷ others)
divides_by first divides others = record { first = first; others = others; same = refl; divides = divides }

spelled_begun : (bytes : List ℕ) (class : Class) → Fine bytes class → (f : Fixed) → class ≡ classes.Fixed f → Begun (spelling f) → Begun bytes
spelled_begun bytes class fine f is begun = subst Begun (sym (fixed_spelled bytes class fine f is)) begun

semicolon : Divides 59
semicolon = record { no_word = refl; no_equal = refl; no_and = refl; no_or = refl; no_slash = refl; no_star = refl }

comma : Divides 44
comma = record { no_word = refl; no_equal = refl; no_and = refl; no_or = refl; no_slash = refl; no_star = refl }

close_paren : Divides 41
close_paren = record { no_word = refl; no_equal = refl; no_and = refl; no_or = refl; no_slash = refl; no_star = refl }

close_bracket : Divides 93
close_bracket = record { no_word = refl; no_equal = refl; no_and = refl; no_or = refl; no_slash = refl; no_star = refl }

colon : Divides 58
colon = record { no_word = refl; no_equal = refl; no_and = refl; no_or = refl; no_slash = refl; no_star = refl }

dot : Divides 46
dot = record { no_word = refl; no_equal = refl; no_and = refl; no_or = refl; no_slash = refl; no_star = refl }

open_paren : Divides 40
open_paren = record { no_word = refl; no_equal = refl; no_and = refl; no_or = refl; no_slash = refl; no_star = refl }

open_bracket : Divides 91
open_bracket = record { no_word = refl; no_equal = refl; no_and = refl; no_or = refl; no_slash = refl; no_star = refl }

line_feed : Divides 10
line_feed = record { no_word = refl; no_equal = refl; no_and = refl; no_or = refl; no_slash = refl; no_star = refl }

space : Divides 32
space = record { no_word = refl; no_equal = refl; no_and = refl; no_or = refl; no_slash = refl; no_star = refl }

closes_begun : (bytes : List ℕ) (class other : Class) → Fine bytes class → class ≡ other → closes_up other ≡ true → Begun bytes
closes_begun bytes class (classes.Fixed fixed.Semicolon) fine is closes = spelled_begun bytes class fine fixed.Semicolon is (divides_by 59 semicolon [])
closes_begun bytes class (classes.Fixed fixed.Comma) fine is closes = spelled_begun bytes class fine fixed.Comma is (divides_by 44 comma [])
closes_begun bytes class (classes.Fixed fixed.CloseParen) fine is closes = spelled_begun bytes class fine fixed.CloseParen is (divides_by 41 close_paren [])
closes_begun bytes class (classes.Fixed fixed.CloseBracket) fine is closes = spelled_begun bytes class fine fixed.CloseBracket is (divides_by 93 close_bracket [])
closes_begun bytes class (classes.Fixed fixed.Colon) fine is closes = spelled_begun bytes class fine fixed.Colon is (divides_by 58 colon [])
closes_begun bytes class (classes.Fixed fixed.Dot) fine is closes = spelled_begun bytes class fine fixed.Dot is (divides_by 46 dot [])
closes_begun bytes class _ fine is closes = absurd (false≢true closes)

belongs_begun : (bytes : List ℕ) (before class other : Class) → Fine bytes class → class ≡ other → belongs_to before other ≡ true → Begun bytes
belongs_begun bytes before class (classes.Fixed fixed.OpenParen) fine is belongs = spelled_begun bytes class fine fixed.OpenParen is (divides_by 40 open_paren [])
belongs_begun bytes before class (classes.Fixed fixed.OpenBracket) fine is belongs = spelled_begun bytes class fine fixed.OpenBracket is (divides_by 91 open_bracket [])
belongs_begun bytes before class _ fine is belongs = absurd (false≢true belongs)

-- no operand that stands close to `!` begins with `=`
abbrev NoEqual : List ℕ → Type 0
NoEqual bytes = (next : ℕ) (more : List ℕ) → bytes ≡ next ∷ more → is_long_symbol (33 ∷ next ∷ []) ≡ false

known_first : (bytes : List ℕ) (first : ℕ) (others rest : List ℕ) → bytes ≡ first ∷ others → is_long_symbol (33 ∷ first ∷ []) ≡ false → NoEqual (bytes ++ rest)
known_first bytes first others rest is none = λ next more split.
    let whole : first ∷ (others ++ rest) ≡ next ∷ more = sym (ap (λ its. its ++ rest) is) ∙ split in
    let same : next ≡ first = cc in
    subst (λ (n : ℕ). is_long_symbol (33 ∷ n ∷ []) ≡ false) (sym same) none

other_than : (first : ℕ) (test : ℕ → Bool) → test first ≡ true → test 61 ≡ false → eqb first 61 ≡ false
other_than first test passes fails = known (eqb first 61) refl
  where
    known : (b : Bool) → eqb first 61 ≡ b → eqb first 61 ≡ false
    known true is = absurd (false≢true (sym fails ∙ ap test (sym (eqb-true first 61 is)) ∙ passes))
    known false is = is

word_begins : (bytes rest : List ℕ) → is_word bytes ≡ true → NoEqual (bytes ++ rest)
word_begins [] rest passes = absurd (false≢true passes)
word_begins (first ∷ others) rest passes =
    known_first (first ∷ others) first others rest refl (no_unequal first (other_than first is_letter (and_parts (is_letter first) _ passes).0 refl))

number_begins : (bytes rest : List ℕ) → is_number bytes ≡ true → NoEqual (bytes ++ rest)
number_begins [] rest passes = absurd (false≢true passes)
number_begins (first ∷ others) rest passes =
    known_first (first ∷ others) first others rest refl (no_unequal first (other_than first is_ascii_digit (and_parts (is_ascii_digit first) _ passes).0 refl))

operand_begins : (bytes : List ℕ) (class other : Class) → Fine bytes class → class ≡ other → can_begin_operand other ≡ true → (rest : List ℕ) → NoEqual (bytes ++ rest)
operand_begins bytes class classes.Name fine is begins rest = word_begins bytes rest (name_is_word bytes class fine is)
operand_begins bytes class classes.Literal fine is begins rest = number_begins bytes rest (literal_is_number bytes class fine is)
operand_begins bytes class (classes.Fixed fixed.True) fine is begins rest = known_first bytes 116 (114 ∷ 117 ∷ 101 ∷ []) rest (fixed_spelled bytes class fine fixed.True is) refl
operand_begins bytes class (classes.Fixed fixed.False) fine is begins rest = known_first bytes 102 (97 ∷ 108 ∷ 115 ∷ 101 ∷ []) rest (fixed_spelled bytes class fine fixed.False is) refl
operand_begins bytes class (classes.Fixed fixed.OpenParen) fine is begins rest = known_first bytes 40 [] rest (fixed_spelled bytes class fine fixed.OpenParen is) refl
operand_begins bytes class (classes.Fixed fixed.Not) fine is begins rest = known_first bytes 33 [] rest (fixed_spelled bytes class fine fixed.Not is) refl
operand_begins bytes class _ fine is begins rest = absurd (false≢true begins)

-- what can come after a piece
pub data Goes (class : Class) (rest : List ℕ) : Type 0 where
  at_line_end : (more : List ℕ) → rest ≡ 10 ∷ more → Goes class rest
  at_space : is_line_comment_class class ≡ false → (more : List ℕ) → rest ≡ 32 ∷ more → Goes class rest
  at_piece : (earlier next : Class) (bytes more : List ℕ) → is_comment_class class ≡ false → is_glued earlier class next ≡ true → Fine bytes next → rest ≡ bytes ++ more → Goes class rest

begun_stands : (bytes next more : List ℕ) → IsLexeme bytes → is_gap bytes ≡ false → Begun next → IsFirstLexeme bytes (bytes ++ (next ++ more)) (next ++ more)
begun_stands bytes next more lexeme gap begun =
    subst (λ (its : List ℕ). IsFirstLexeme bytes (bytes ++ (its ++ more)) (its ++ more)) (sym begun.same)
    (token_stands bytes begun.first (begun.others ++ more) lexeme gap begun.divides)

-- a symbol of one byte before any bytes
sole_stands : (bytes : List ℕ) (class : Class) → Fine bytes class → (f : Fixed) (first : ℕ) (rest : List ℕ) → class ≡ classes.Fixed f → spelling f ≡ first ∷ []
    → IsFirstLexeme (first ∷ []) (first ∷ rest) rest → IsFirstLexeme bytes (bytes ++ rest) rest
sole_stands bytes class fine f first rest is spelled stands =
    subst (λ (its : List ℕ). IsFirstLexeme its (its ++ rest) rest) (sym (fixed_spelled bytes class fine f is ∙ spelled)) stands

opened_stands : (bytes : List ℕ) (class other : Class) → Fine bytes class → class ≡ other → opens_up other ≡ true → (rest : List ℕ) → IsFirstLexeme bytes (bytes ++ rest) rest
opened_stands bytes class (classes.Fixed fixed.OpenParen) fine is opens rest = sole_stands bytes class fine fixed.OpenParen 40 rest is refl (single_stands 40 rest refl refl refl refl (λ next more split. refl))
opened_stands bytes class (classes.Fixed fixed.OpenBracket) fine is opens rest = sole_stands bytes class fine fixed.OpenBracket 91 rest is refl (single_stands 91 rest refl refl refl refl (λ next more split. refl))
opened_stands bytes class (classes.Fixed fixed.Colon) fine is opens rest = sole_stands bytes class fine fixed.Colon 58 rest is refl (single_stands 58 rest refl refl refl refl (λ next more split. refl))
opened_stands bytes class (classes.Fixed fixed.Dot) fine is opens rest = sole_stands bytes class fine fixed.Dot 46 rest is refl (single_stands 46 rest refl refl refl refl (λ next more split. refl))
opened_stands bytes class _ fine is opens rest = absurd (false≢true opens)

sign_stands : (bytes : List ℕ) (class earlier other : Class) → Fine bytes class → class ≡ other → is_unary earlier other ≡ true → (rest : List ℕ) → NoEqual rest → IsFirstLexeme bytes (bytes ++ rest) rest
sign_stands bytes class earlier (classes.Fixed fixed.Not) fine is unary rest none = sole_stands bytes class fine fixed.Not 33 rest is refl (single_stands 33 rest refl refl refl refl none)
sign_stands bytes class earlier (classes.Fixed fixed.Minus) fine is unary rest none = sole_stands bytes class fine fixed.Minus 45 rest is refl (single_stands 45 rest refl refl refl refl (λ next more split. refl))
sign_stands bytes class earlier _ fine is unary rest none = absurd (false≢true unary)

-- two tokens without a blank between them
glued_stands : (bytes : List ℕ) (class : Class) → Fine bytes class → IsLexeme bytes → is_gap bytes ≡ false → (earlier next : Class) (others more : List ℕ)
    → is_glued earlier class next ≡ true → Fine others next → IsFirstLexeme bytes (bytes ++ (others ++ more)) (others ++ more)
glued_stands bytes class fine lexeme gap earlier next others more glued its =
    known (or_cases (closes_up next || opens_up class || belongs_to class next) (is_unary earlier class && can_begin_operand next) glued)
  where
    signed : (is_unary earlier class ≡ true) × (can_begin_operand next ≡ true) → IsFirstLexeme bytes (bytes ++ (others ++ more)) (others ++ more)
    signed both = sign_stands bytes class earlier class fine refl both.0 (others ++ more) (operand_begins others next next its refl both.1 more)

    closing : (closes_up next ≡ true) ⊎ (opens_up class ≡ true) → IsFirstLexeme bytes (bytes ++ (others ++ more)) (others ++ more)
    closing (inl closes) = begun_stands bytes others more lexeme gap (closes_begun others next next its refl closes)
    closing (inr opens) = opened_stands bytes class class fine refl opens (others ++ more)

    near : ((closes_up next || opens_up class) ≡ true) ⊎ (belongs_to class next ≡ true) → IsFirstLexeme bytes (bytes ++ (others ++ more)) (others ++ more)
    near (inl either) = closing (or_cases (closes_up next) (opens_up class) either)
    near (inr belongs) = begun_stands bytes others more lexeme gap (belongs_begun others class next next its refl belongs)

    known : ((closes_up next || opens_up class || belongs_to class next) ≡ true) ⊎ ((is_unary earlier class && can_begin_operand next) ≡ true) → IsFirstLexeme bytes (bytes ++ (others ++ more)) (others ++ more)
    known (inl any) = near (or_cases (closes_up next || opens_up class) (belongs_to class next) any)
    known (inr both) = signed (and_parts (is_unary earlier class) (can_begin_operand next) both)

stands : (bytes : List ℕ) (class : Class) (rest : List ℕ) → Fine bytes class → Goes class rest → IsFirstLexeme bytes (bytes ++ rest) rest
stands _ _ rest (token bytes lexeme gap white) (at_line_end more is) =
    subst (λ (its : List ℕ). IsFirstLexeme bytes (bytes ++ its) its) (sym is) (token_stands bytes 10 more lexeme gap line_feed)
stands _ _ rest (token bytes lexeme gap white) (at_space comment more is) =
    subst (λ (its : List ℕ). IsFirstLexeme bytes (bytes ++ its) its) (sym is) (token_stands bytes 32 more lexeme gap space)
stands _ _ rest (token bytes lexeme gap white) (at_piece earlier next others more comment glued its is) =
    subst (λ (its : List ℕ). IsFirstLexeme bytes (bytes ++ its) its) (sym is)
    (glued_stands bytes (class_of_kind (kind_of bytes)) (token bytes lexeme gap white) lexeme gap earlier next others more glued its)
stands _ _ rest (line body one_line kept) (at_line_end more is) =
    subst (λ (its : List ℕ). IsFirstLexeme (47 ∷ 47 ∷ body) (47 ∷ 47 ∷ (body ++ its)) its) (sym is) (line_stands body (10 ∷ more) one_line refl)
stands _ _ rest (line body one_line kept) (at_space comment more is) = absurd (false≢true (sym comment))
stands _ _ rest (line body one_line kept) (at_piece earlier next others more comment glued its is) = absurd (false≢true (sym comment))
stands _ _ rest (block body none) goes = block_stands body rest none

line_is_line : (apart : Bool) (indent : ℕ) (start : PieceStart) (gap : Gap) → is_line gap ≡ false → line_at apart indent start ≡ gap → ⊥
line_is_line apart indent Beside gap fails is = false≢true (sym fails ∙ ap is_line (sym is))
line_is_line apart indent Below gap fails is = false≢true (sym fails ∙ ap is_line (sym is))
line_is_line true indent Apart gap fails is = false≢true (sym fails ∙ ap is_line (sym is))
line_is_line false indent Apart gap fails is = false≢true (sym fails ∙ ap is_line (sym is))

-- a space does not come behind a comment to the end of its line
space_behind : (behind_line comment behind low begins flat opened closes fits apart : Bool) (indent : ℕ) (within : Gap) (start : PieceStart) →
    gap_by true behind_line comment behind low begins flat opened closes fits apart indent within start ≡ Space → behind_line ≡ false
space_behind true comment behind low begins flat opened closes fits apart indent within start is = absurd (line_is_line apart indent start Space refl is)
space_behind false comment behind low begins flat opened closes fits apart indent within start is = refl

either_is_gap : (b : Bool) (apart : Bool) (indent : ℕ) (start : PieceStart) → (if b then Space else line_at apart indent start) ≡ Nothing → ⊥
either_is_gap true apart indent start is = false≢true (ap is_space (sym is))
either_is_gap false apart indent start is = line_is_line apart indent start Nothing refl is

-- where there is no gap, two tokens stand within a statement or a declaration
nothing_within : (behind_line comment behind low begins flat opened closes fits apart : Bool) (indent : ℕ) (within : Gap) (start : PieceStart) →
    gap_by true behind_line comment behind low begins flat opened closes fits apart indent within start ≡ Nothing → (behind ≡ false) × (within ≡ Nothing)
nothing_within true comment behind low begins flat opened closes fits apart indent within start is = absurd (line_is_line apart indent start Nothing refl is)
nothing_within false true behind low begins flat opened closes fits apart indent within start is = absurd (either_is_gap (is_beside start) apart indent start is)
nothing_within false false true low begins flat opened closes fits apart indent within start is = absurd (either_is_gap (is_beside start && not low) apart indent start is)
nothing_within false false false low true flat opened closes fits apart indent within start is =
    absurd (either_is_gap (if flat then true else if not opened then false else (closes || (is_beside start && fits))) apart indent start is)
nothing_within false false false low false flat opened closes fits apart indent within start is = (refl, is)

within_glued : (clause wide below glued : Bool) (m n : ℕ) → (if clause then (if wide then Line m else Space) else if below then Line n else if glued then Nothing else Space) ≡ Nothing → glued ≡ true
within_glued true true below glued m n is = absurd (false≢true (ap is_line (sym is)))
within_glued true false below glued m n is = absurd (false≢true (ap is_space (sym is)))
within_glued false wide true glued m n is = absurd (false≢true (ap is_line (sym is)))
within_glued false wide false true m n is = refl
within_glued false wide false false m n is = absurd (false≢true (ap is_space (sym is)))

goes : (state : LayoutState) (pieces : List Piece) → AllFine pieces → state.begun ≡ true → (is_comment_class state.piece ≡ false → state.last ≡ state.piece) → Goes state.piece (layout_from state pieces)
goes state [] fine begun same = at_line_end [] (cond-true state.begun _ _ begun)
goes state (piece ∷ pieces) fine begun same = by_gap (gap_before state piece (piece ∷ pieces)) refl
  where
    block_fits : Bool
    block_fits = fits_block state.earlier state.last 0 state.room (piece ∷ pieces)

    summary_fits : Bool
    summary_fits = fits_summary state.earlier state.last state.room (piece ∷ pieces)

    asked : (b : Bool) → Gap
    asked b =
        gap_by b (is_line_comment_class state.piece) (is_comment_class piece.class) (is_comment_class state.piece) (begins state piece.class && (state.led || is_close_brace piece.class))
        (begins state piece.class) (nat_lt 0 state.flat) (is_open_brace state.last) (is_close_brace piece.class) block_fits
        (begins state piece.class && not (is_open_brace state.piece) && not (is_close_brace piece.class)) (indent_of state piece.class) (within_by state piece.class summary_fits) piece.start

    by_gap : (gap : Gap) → gap_before state piece (piece ∷ pieces) ≡ gap → Goes state.piece (gap_bytes gap ++ (piece.bytes ++ layout_from (after_piece state gap piece) pieces))
    by_gap (Line indent) is = at_line_end _ refl
    by_gap (LineApart indent) is = at_line_end _ refl
    by_gap Space is =
        at_space (space_behind (is_line_comment_class state.piece) (is_comment_class piece.class) (is_comment_class state.piece) (begins state piece.class && (state.led || is_close_brace piece.class))
        (begins state piece.class) (nat_lt 0 state.flat) (is_open_brace state.last) (is_close_brace piece.class) block_fits
        (begins state piece.class && not (is_open_brace state.piece) && not (is_close_brace piece.class)) (indent_of state piece.class) (within_by state piece.class summary_fits) piece.start
        (sym (ap asked begun) ∙ is)) _ refl
    by_gap Nothing is =
        let those = nothing_within (is_line_comment_class state.piece) (is_comment_class piece.class) (is_comment_class state.piece) (begins state piece.class && (state.led || is_close_brace piece.class))
        (begins state piece.class) (nat_lt 0 state.flat) (is_open_brace state.last) (is_close_brace piece.class) block_fits
        (begins state piece.class && not (is_open_brace state.piece) && not (is_close_brace piece.class)) (indent_of state piece.class) (within_by state piece.class summary_fits) piece.start
        (sym (ap asked begun) ∙ is) in
        let glued = within_glued (is_clause piece.class) (if is_close_paren state.last then not summary_fits else state.wide) (state.wide && is_comma state.last) (is_glued state.earlier state.last piece.class) (2 * state.depth + 4) (2 * state.depth + 6) those.1 in
        at_piece state.earlier piece.class piece.bytes (layout_from (after_piece state Nothing piece) pieces) those.0
        (sym (ap (λ last. is_glued state.earlier last piece.class) (same those.0)) ∙ glued) fine.0 refl

-- the lexemes of the text
abbrev spaces : ℕ → List (List ℕ) → List (List ℕ)
spaces zero more = more
spaces (suc n) more = (32 ∷ []) ∷ spaces n more

abbrev gap_lexemes : Gap → List (List ℕ) → List (List ℕ)
gap_lexemes Nothing more = more
gap_lexemes Space more = (32 ∷ []) ∷ more
gap_lexemes (Line indent) more = (10 ∷ []) ∷ spaces indent more
gap_lexemes (LineApart indent) more = (10 ∷ []) ∷ (10 ∷ []) ∷ spaces indent more

abbrev last_lexemes : Bool → List (List ℕ)
last_lexemes true = (10 ∷ []) ∷ []
last_lexemes false = []

abbrev lexemes_from : LayoutState → List Piece → List (List ℕ)
lexemes_from state [] = last_lexemes state.begun
lexemes_from state (piece ∷ pieces) =
    let gap = gap_before state piece (piece ∷ pieces) in
    gap_lexemes gap (piece.bytes ∷ lexemes_from (after_piece state gap piece) pieces)

space_first : (rest : List ℕ) → IsFirstLexeme (32 ∷ []) (32 ∷ rest) rest
space_first rest = single_stands 32 rest refl refl refl refl (λ next more split. refl)

end_first : (rest : List ℕ) → IsFirstLexeme (10 ∷ []) (10 ∷ rest) rest
end_first rest = single_stands 10 rest refl refl refl refl (λ next more split. refl)

spaces_cut : (n : ℕ) (text : List ℕ) (more : List (List ℕ)) → AreFirstLexemes more text [] → AreFirstLexemes (spaces n more) (replicate n 32 ++ text) []
spaces_cut zero text more cut = cut
spaces_cut (suc n) text more cut = (replicate n 32 ++ text, space_first (replicate n 32 ++ text), spaces_cut n text more cut)

gap_cut : (gap : Gap) (text : List ℕ) (more : List (List ℕ)) → AreFirstLexemes more text [] → AreFirstLexemes (gap_lexemes gap more) (gap_bytes gap ++ text) []
gap_cut Nothing text more cut = cut
gap_cut Space text more cut = (text, space_first text, cut)
gap_cut (Line indent) text more cut = (replicate indent 32 ++ text, end_first (replicate indent 32 ++ text), spaces_cut indent text more cut)
gap_cut (LineApart indent) text more cut =
    (10 ∷ (replicate indent 32 ++ text), end_first (10 ∷ (replicate indent 32 ++ text)), (replicate indent 32 ++ text, end_first (replicate indent 32 ++ text), spaces_cut indent text more cut))

last_cut : (begun : Bool) → AreFirstLexemes (last_lexemes begun) (if begun then 10 ∷ [] else []) []
last_cut true = ([], end_first [], refl)
last_cut false = refl

text_cut : (state : LayoutState) (pieces : List Piece) → AllFine pieces → AreFirstLexemes (lexemes_from state pieces) (layout_from state pieces) []
text_cut state [] fine = last_cut state.begun
text_cut state (piece ∷ pieces) fine =
    let gap = gap_before state piece (piece ∷ pieces) in
    let later = after_piece state gap piece in
    gap_cut gap (piece.bytes ++ layout_from later pieces) (piece.bytes ∷ lexemes_from later pieces)
    (layout_from later pieces, stands piece.bytes piece.class (layout_from later pieces) fine.0 (goes later pieces fine.1 refl (λ comment. cond-false (is_comment_class piece.class) _ _ comment)), text_cut later pieces fine.1)

abbrev AllClosed : List (List ℕ) → Type 0
AllClosed lexemes = AllByRecursion (λ lexeme. ¬ IsUnclosedComment lexeme) lexemes

piece_closed : (bytes : List ℕ) (class : Class) → Fine bytes class → ¬ IsUnclosedComment bytes
piece_closed _ _ (token bytes lexeme gap white) (body, is, unclosed) = false≢true (sym gap ∙ ap is_gap is)
piece_closed _ _ (line body one_line kept) (other, is, unclosed) = false≢true (sym (ap (λ its. eqb (get_or its 1 0) 47) is))
piece_closed _ _ (block body none) (other, is, unclosed) = let same : body ++ (42 ∷ 47 ∷ []) ≡ other = cc in unclosed (body, [], sym same)

blank_closed : (byte : ℕ) → ¬ IsUnclosedComment (byte ∷ [])
blank_closed byte (body, is, unclosed) = cc

spaces_closed : (n : ℕ) (more : List (List ℕ)) → AllClosed more → AllClosed (spaces n more)
spaces_closed zero more all = all
spaces_closed (suc n) more all = (blank_closed 32, spaces_closed n more all)

gap_closed : (gap : Gap) (more : List (List ℕ)) → AllClosed more → AllClosed (gap_lexemes gap more)
gap_closed Nothing more all = all
gap_closed Space more all = (blank_closed 32, all)
gap_closed (Line indent) more all = (blank_closed 10, spaces_closed indent more all)
gap_closed (LineApart indent) more all = (blank_closed 10, (blank_closed 10, spaces_closed indent more all))

last_closed : (begun : Bool) → AllClosed (last_lexemes begun)
last_closed true = (blank_closed 10, tt)
last_closed false = tt

text_closed : (state : LayoutState) (pieces : List Piece) → AllFine pieces → AllClosed (lexemes_from state pieces)
text_closed state [] fine = last_closed state.begun
text_closed state (piece ∷ pieces) fine =
    let gap = gap_before state piece (piece ∷ pieces) in
    gap_closed gap (piece.bytes ∷ lexemes_from (after_piece state gap piece) pieces) (piece_closed piece.bytes piece.class fine.0, text_closed (after_piece state gap piece) pieces fine.1)

-- what is read of a gap
spaces_read : (n : ℕ) (start : PieceStart) (more : List (List ℕ)) → pieces_from start (spaces n more) ≡ pieces_from start more
spaces_read zero start more = refl
spaces_read (suc n) start more = spaces_read n start more

gap_read : (gap : Gap) (more : List (List ℕ)) → pieces_from Beside (gap_lexemes gap more) ≡ pieces_from (start_behind gap) more
gap_read Nothing more = refl
gap_read Space more = refl
gap_read (Line indent) more = spaces_read indent Below more
gap_read (LineApart indent) more = spaces_read indent Apart more

last_read : (begun : Bool) → pieces_from Beside (last_lexemes begun) ≡ []
last_read true = refl
last_read false = refl

text_read : (state : LayoutState) (pieces : List Piece) → AllFine pieces → pieces_from Beside (lexemes_from state pieces) ≡ settled_from state pieces
text_read state [] fine = last_read state.begun
text_read state (piece ∷ pieces) fine =
    let gap = gap_before state piece (piece ∷ pieces) in
    let more = lexemes_from (after_piece state gap piece) pieces in
    gap_read gap (piece.bytes ∷ more)
    ∙ cond-false (is_white piece.bytes) _ _ (no_white piece.bytes piece.class fine.0)
    ∙ (λ i. read_again piece.bytes piece.class (start_behind gap) fine.0 i ∷ text_read (after_piece state gap piece) pieces fine.1 i)

pub cut_again : (text : List ℕ) (pieces : List Piece) → IsCutInto text pieces → IsCutInto (layout pieces) (settled_pieces pieces)
cut_again text pieces cut =
    let fine : AllFine pieces = subst AllFine (sym cut.same) (fine_pieces Beside cut.lexemes text cut.cut cut.closed) in record {
      lexemes = lexemes_from before_pieces pieces;
      cut = text_cut before_pieces pieces fine;
      closed = text_closed before_pieces pieces fine;
      same = sym (text_read before_pieces pieces fine);
    }
