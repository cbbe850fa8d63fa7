-- Texts of words one after the other.
use Rattle.std.proofs.Common.{◌≡◌, List, [], ◌∷◌, ◌++◌, refl, sym, ap, ◌∙◌, append_assoc}
use Rattle.twe_lexer.specs.declared.token.TokenKind.{TokenKind}
use Rattle.ast_printer.specs.Text.{bytes_of, gap_after, text_of}

pub append_text : (one other : List TokenKind) → text_of (one ++ other) ≡ text_of one ++ text_of other
append_text [] other = refl
append_text (word ∷ words) other =
    ap (λ more. bytes_of word ++ gap_after word ∷ more) (append_text words other) ∙ sym (append_assoc (bytes_of word) (gap_after word ∷ text_of words) (text_of other))
