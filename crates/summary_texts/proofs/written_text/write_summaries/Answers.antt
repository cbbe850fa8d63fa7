use Rattle.std.proofs.Common.{length, sym, ◌∙◌}
use Rattle.std.proofs.lemmas.Bool.{eqb-true}
use Rattle.std.proofs.lemmas.List.{nil_from_length}
use Rattle.std.proofs.lemmas.Result.{IfOk-weaker}
use Rattle.summary_texts.proofs.AllowedBytes.{stops_never, closed_ever}
use Rattle.summary_texts.proofs.Taking.{one_taken, taken_whole, gap_class}
use Rattle.summary_texts.proofs.written_text.write_summaries.Goals as goal

-- in a text that fails no rule there is a next lexeme
pub next_lexeme-requires-clause-allowed : goal.next_lexeme-requires-clause-allowed
next_lexeme-requires-clause-allowed c = stops_never c.args.text.now c.loop-rest.rest.now c.loop-rest.invariant.lexemes c.requires c.loop-rest.invariant.cut

pub next_lexeme-requires-clause-closed : goal.next_lexeme-requires-clause-closed
next_lexeme-requires-clause-closed c = closed_ever c.args.text.now c.loop-rest.rest.now c.loop-rest.invariant.lexemes c.requires c.loop-rest.invariant.cut

pub take-requires : goal.take-requires
take-requires c =
    gap_class c.in_ok-lexeme.lexeme c.loop-rest.rest.now c.split_at.result.0.now c.is_none.result c.in_ok-lexeme.ensures c.split_at.ensures.front c.is_none.ensures

pub loop-rest-preserved-in_ok-take : goal.loop-rest-preserved-in_ok-take
loop-rest-preserved-in_ok-take c =
    one_taken c.args.news.now c.args.text.now c.loop-rest.rest.now c.split_at.result.0.now c.split_at.result.1.now c.in_ok-lexeme.lexeme c.loop-rest.writer c.take.new.self c.loop-rest.invariant
    c.in_ok-lexeme.ensures c.split_at.ensures.front c.split_at.ensures.back c.in_ok-take.ensures

pub loop-rest-preserved-in_ok-take-2 : goal.loop-rest-preserved-in_ok-take-2
loop-rest-preserved-in_ok-take-2 c =
    one_taken c.args.news.now c.args.text.now c.loop-rest.rest.now c.split_at.result.0.now c.split_at.result.1.now c.in_ok-lexeme.lexeme c.loop-rest.writer c.take.new.self c.loop-rest.invariant
    c.in_ok-lexeme.ensures c.split_at.ensures.front c.split_at.ensures.back c.in_ok-take.ensures

pub loop-rest-preserved : goal.loop-rest-preserved
loop-rest-preserved c =
    one_taken c.args.news.now c.args.text.now c.loop-rest.rest.now c.split_at.result.0.now c.split_at.result.1.now c.in_ok-lexeme.lexeme c.loop-rest.writer c.take.new.self c.loop-rest.invariant
    c.in_ok-lexeme.ensures c.split_at.ensures.front c.split_at.ensures.back c.in_ok-take.ensures

pub returns : goal.returns
returns c =
    let empty = nil_from_length c.loop-rest.rest.now (eqb-true (length c.loop-rest.rest.now) 0 (sym c.is_empty.ensures ∙ c.loop-rest-test.false)) in
    IfOk-weaker c.finish.result _ _ (λ written is. taken_whole c.args.news.now c.args.text.now c.loop-rest.rest.now written c.loop-rest.writer c.loop-rest.invariant empty is) c.finish.ensures
