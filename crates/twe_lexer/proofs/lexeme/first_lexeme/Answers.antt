use Rattle.std.proofs.Common.{sym, ap, ◌∙◌}
use Rattle.std.specs.List.{list_all}
use Rattle.twe_lexer.specs.Kinds.{kind_of}
use Rattle.twe_lexer.specs.Lexeme.{is_allowed}
use Rattle.twe_lexer.proofs.Fronts.{stops, all_allowed, IsAscii-allowed, token_found, gap_found}
use Rattle.twe_lexer.proofs.lexeme.first_lexeme.Goals as goal
use Rattle.twe_lexer.proofs.lexeme.first_lexeme.Goals.{then-extent+in_ok-new, else-extent}

pub returns-then-allowed-bytes-clause-hindered : goal.returns-then-allowed-bytes-clause-hindered
returns-then-allowed-bytes-clause-hindered c =
    stops _ _ _ _ c.in-Some.ensures c.split_at.ensures.front c.allowed_len-allowed.ensures c.if-allowed-bytes.true

pub new-requires : goal.new-requires
new-requires c = IsAscii-allowed _ (all_allowed _ _ c.allowed_len-allowed.ensures c.if-allowed-bytes.false)

pub returns-clause-found : goal.returns-clause-found
returns-clause-found c = record {
  fits = c.in-Some.ensures.fits;
  first = c.in-Some.ensures.first;
  allowed = ap (list_all is_allowed) (sym c.split_at.ensures.front) ∙ all_allowed _ _ c.allowed_len-allowed.ensures c.if-allowed-bytes.false;
  closed = c.in-Some.ensures.closed;
  token = elim c.if-extent.branch [
    | then-extent+in_ok-new w ↦ w.token-is ∙ token_found _ _ _ c.in-Some.ensures w.if-extent.true (w.in_ok-new.ensures ∙ ap kind_of c.split_at.ensures.front)
    | else-extent w ↦ w.token-is ∙ gap_found _ _ c.in-Some.ensures w.if-extent.false
  ];
}
