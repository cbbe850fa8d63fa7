use Rattle.std.proofs.Common.{◌≡◌, ◌<◌, true, Some, drop, length, ap, rules, ◌∙◌}
use Rattle.twe_program.specs.Statement.{Return, Statement, statement, statements_of}
use Rattle.twe_program.specs.Expression.{is_plain}
use Rattle.seg_exec.proofs.strides.GoingOn.{next_is}
use Rattle.seg_exec.proofs.strides.plain.plain_return.Goals as goal

pub returns-then-is_plain : goal.returns-then-is_plain
returns-then-is_plain c =
    let plain : is_plain c.in-Return-Some.value ≡ true = search rules in
    let shape : c.index-stmts-0.result ≡ Return c.first.inside.point (Some c.in-Return-Some.value) = search rules in
    let within : 0 < length c.args.stmts.now = search rules in
    let others = statements_of (drop 1 c.args.stmts.now) in (
      plain,
      c.first.inside.point,
      others,
      ap statements_of (next_is c.args.stmts.now 0 c.index-stmts-0.result within c.index-stmts-0.is)
          ∙ ap (λ (s : Statement). statement s (statements_of (drop 1 c.args.stmts.now))) shape,
    )
