use Rattle.std.proofs.Common.{◌<◌, ◌∙◌, ℕ, sym, subst}
use Rattle.std.specs.Prelude.{IfOk}
use Rattle.std.proofs.lemmas.Result.{IfOk-weaker}
use Rattle.tree_admit.specs.serving.Alone.{ServesIfAlone}
use Rattle.tree_admit.specs.serving.Working.{HasServedBeside, SameTreeStand}
use Rattle.tree_admit.proofs.serving.Serving.{same_trees_twice}
use Rattle.tree_admit.proofs.serving.workshop.Workshop.serve.Goals as goal

pub serve_taken-requires : goal.serve_taken-requires
serve_taken-requires g c =
    let taken = c.in-Ok.ensures.taken in
    record {
      here = taken.same.table ∙ c.requires.here;
      task = subst (λ (t : ℕ). t < g.N.Named.lim.tasks) (sym taken.task) c.requires.task;
      holds = (taken.turn, taken.holds);
    }

pub returns-in-Ok-clause-served : goal.returns-in-Ok-clause-served
returns-in-Ok-clause-served g c =
    let taken = c.in-Ok.ensures.taken in
    let worker = c.args.worker in
    subst (λ (t : ℕ). IfOk c.serve_taken.result (λ x. HasServedBeside worker.me x.0.me t x.1)) taken.task
    (c.serve_taken.ensures.served worker.me taken.since)

pub returns-in-Ok-clause-alone : goal.returns-in-Ok-clause-alone
returns-in-Ok-clause-alone g c =
    let taken = c.in-Ok.ensures.taken in
    let worker = c.args.worker in
    subst (λ (t : ℕ). IfOk c.serve_taken.result (λ x. ServesIfAlone g.N.Named.prog g.N.Named.lim worker.me.0.floor t x.1)) taken.task
    (c.serve_taken.ensures.alone worker.me taken.since)

pub returns-in-Ok-clause-same : goal.returns-in-Ok-clause-same
returns-in-Ok-clause-same g c =
    let taken = c.in-Ok.ensures.taken in
    let worker = c.args.worker in
    let held = c.in-Ok.holding.stand in
    IfOk-weaker c.serve_taken.result (λ x. SameTreeStand held x.0) (λ x. SameTreeStand worker x.0)
    (λ x same. same_trees_twice worker held x.0 taken.same same) c.serve_taken.ensures.same
