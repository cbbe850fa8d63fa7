use Rattle.std.proofs.Common.{◌<◌, ◌∙◌, ℕ, sym, subst}
use Rattle.std.specs.Prelude.{IfOk}
use Rattle.std.proofs.lemmas.Result.{IfOk-weaker}
use Rattle.tree_admit.specs.serving.Alone.{AdmitsIfAlone}
use Rattle.tree_admit.specs.serving.Working.{HasTriedToAdmit, SameTreeStand}
use Rattle.tree_admit.proofs.serving.Serving.{same_trees_twice}
use Rattle.tree_admit.proofs.serving.workshop.Workshop.admit.Goals as goal

pub admit_taken-requires : goal.admit_taken-requires
admit_taken-requires g c =
    let taken = c.in-Ok.ensures.taken in
    record {
      here = taken.same.table ∙ c.requires.here;
      task = subst (λ (t : ℕ). t < g.N.Named.lim.tasks) (sym taken.task) c.requires.task;
      holds = (taken.turn, taken.holds);
    }

pub returns-in-Ok-clause-tried : goal.returns-in-Ok-clause-tried
returns-in-Ok-clause-tried g c =
    let taken = c.in-Ok.ensures.taken in
    let worker = c.args.worker in
    subst (λ (t : ℕ). IfOk c.admit_taken.result (λ x. HasTriedToAdmit g.N.Named.prog g.N.Named.lim worker.me x.0.me t x.1)) taken.task
    (c.admit_taken.ensures.tried worker.me taken.since)

pub returns-in-Ok-clause-alone : goal.returns-in-Ok-clause-alone
returns-in-Ok-clause-alone g c =
    let taken = c.in-Ok.ensures.taken in
    let worker = c.args.worker in
    subst (λ (t : ℕ). IfOk c.admit_taken.result (λ x. AdmitsIfAlone g.N.Named.prog g.N.Named.lim worker.me.0.floor t x.1)) taken.task
    (c.admit_taken.ensures.alone worker.me taken.since)

pub returns-in-Ok-clause-same : goal.returns-in-Ok-clause-same
returns-in-Ok-clause-same g c =
    let taken = c.in-Ok.ensures.taken in
    let worker = c.args.worker in
    let held = c.in-Ok.holding.stand in
    IfOk-weaker c.admit_taken.result (λ x. SameTreeStand held x.0) (λ x. SameTreeStand worker x.0)
    (λ x same. same_trees_twice worker held x.0 taken.same same) c.admit_taken.ensures.same
