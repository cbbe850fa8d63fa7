use Rattle.std.proofs.Common.{◌≡◌, ◌++◌, List, [], ◌∷◌, Some, length, ap, arith, length-append, refl, sym, subst}
use Rattle.std.specs.Prelude.{slice_get}
use Rattle.std.proofs.lemmas.Option.{slice_get_read}
use Rattle.twe_io.specs.declared.answer.Answer.{Answer}
use Rattle.twe_explore.proofs.GivenAnswers.{HaveAnswers, one_answer_more}
use Rattle.twe_explore.proofs.results.answers_for.Goals as goal

pub answer_ended-requires-clause-run : goal.answer_ended-requires-clause-run
answer_ended-requires-clause-run c =
    let runs = c.args.runs.now in
    (c.requires.each c.loop-run.run-index c.run-item.result (slice_get_read runs (length runs) c.loop-run.run-index c.run-item.result refl c.loop-run-test.true c.run-item.is)).is_run

pub answer_ended-requires-clause-end : goal.answer_ended-requires-clause-end
answer_ended-requires-clause-end c =
    let runs = c.args.runs.now in
    (c.requires.each c.loop-run.run-index c.run-item.result (slice_get_read runs (length runs) c.loop-run.run-index c.run-item.result refl c.loop-run-test.true c.run-item.is)).end

pub loop-run-preserved : goal.loop-run-preserved
loop-run-preserved c =
    let p = c.args.p.now in
    let runs = c.args.runs.now in
    let at = c.loop-run.run-index in
    let run = c.run-item.result in
    let there : slice_get runs at ≡ Some run = slice_get_read runs (length runs) at run refl c.loop-run-test.true c.run-item.is in
    let answer = c.in_ok-answer_ended.field-0 in
    let longer : c.push.new.self ≡ c.loop-run.answers ++ answer ∷ [] = c.in_ok-push.ensures.ok in
    let one = length-append c.loop-run.answers (answer ∷ []) in
    let count = c.loop-run.invariant.count in
    let grown = ap length longer in
    record {
      count = omega (arith, one, count, grown);
      each = subst (λ (answers : List Answer). HaveAnswers p c.args.lim runs answers) (sym longer)
          (one_answer_more p c.args.lim runs c.loop-run.answers at run answer c.loop-run.invariant.each count there c.in_ok-answer_ended.ensures);
    }
