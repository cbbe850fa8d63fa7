use Rattle.std.proofs.Common.{◌≤◌, ℕ, length, sym, subst}
use Rattle.std.proofs.lemmas.List.Sums.{suffix_len-le-length}
use Rattle.twe_lexer.specs.Lexeme.{is_blank}
use Rattle.text_pieces.proofs.piece.kept_bytes.Goals as goal

pub slice_bounds-result-count : goal.slice_bounds-result-count
slice_bounds-result-count c = subst (λ (n : ℕ). n ≤ length c.args.bytes.now) (sym c.last_blanks-blanks.ensures) (suffix_len-le-length is_blank c.args.bytes.now)
