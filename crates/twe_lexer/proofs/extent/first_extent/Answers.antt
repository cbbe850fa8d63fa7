use Rattle.std.proofs.Common.{sym, ap, not, ◌∙◌, ◌∷◌, []}
use Rattle.std.proofs.lemmas.Bool.{false≢true}
use Rattle.std.proofs.lemmas.Bool.Decides.{Decides-eqb}
use Rattle.std.proofs.lemmas.Slice.Eq.{starts_is}
use Rattle.twe_lexer.proofs.Beginnings.{line_begins, word_begins, number_begins, symbol_begins, byte_begins}
use Rattle.twe_lexer.proofs.extent.first_extent.Goals as goal

pub returns-then-starts_with-2 : goal.returns-then-starts_with-2
returns-then-starts_with-2 c =
    let slashes = (starts_is Decides-eqb c.args.text.now (47 ∷ 47 ∷ []) _ c.starts_with-else-is_blank.ensures.value).0 c.if-starts_with-2.true in
    line_begins c.args.text.now _ _ slashes c.line_len.ensures

pub returns-then-is_letter : goal.returns-then-is_letter
returns-then-is_letter c = word_begins c.args.text.now _ c.requires (sym c.is_letter.ensures ∙ c.if-is_letter.true) c.word_len.ensures

pub returns-then-is_ascii_digit : goal.returns-then-is_ascii_digit
returns-then-is_ascii_digit c = number_begins c.args.text.now _ c.requires (sym c.is_ascii_digit.ensures.value ∙ c.if-is_ascii_digit.true) c.digits_len.ensures

pub returns-then-starts_with_long_symbol : goal.returns-then-starts_with_long_symbol
returns-then-starts_with_long_symbol c = symbol_begins c.args.text.now (sym c.starts_with_long_symbol.ensures ∙ c.if-starts_with_long_symbol.true)

-- no other lexeme begins here
pub returns-else-starts_with_long_symbol : goal.returns-else-starts_with_long_symbol
returns-else-starts_with_long_symbol c =
    let text = c.args.text.now in
    byte_begins text _ c.requires
    (sym (ap not (sym c.is_blank.ensures ∙ c.if-is_blank.false)))
    (sym c.is_letter.ensures ∙ c.if-is_letter.false)
    (sym c.is_ascii_digit.ensures.value ∙ c.if-is_ascii_digit.false)
    (sym c.starts_with_long_symbol.ensures ∙ c.if-starts_with_long_symbol.false)
    (λ rest split. false≢true (sym c.if-starts_with-2.false ∙ (starts_is Decides-eqb text (47 ∷ 47 ∷ []) _ c.starts_with-else-is_blank.ensures.value).1 rest split))
    (λ rest split. false≢true (sym c.if-starts_with.false ∙ (starts_is Decides-eqb text (47 ∷ 42 ∷ []) _ c.starts_with.ensures.value).1 rest split))
