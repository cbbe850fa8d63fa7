-- What was placed before the obstacle was taken out again.
use Rattle.std.proofs.Common.{◌<◌, subst, sym}
use Rattle.floor_laws.specs.declared.table.nodes.slot.ErrandKind.TheVariants.{Admission}
use Rattle.tree_admit.specs.declared.bars.Bar.{Bar}
use Rattle.tree_admit.specs.declared.placing.Obstacle.{Obstacle}
use Rattle.tree_admit.specs.Attempts.{IsObstacle, WasBarredFor}
use Rattle.tree_admit.proofs.Attempts.{backed_out, barred_forbids, barred_still, held_by, keeps_trans, placed_all}
use Rattle.tree_admit.proofs.admitting.try_admit.Goals as goal

pub place_all-requires-clause-unplaced : goal.place_all-requires-clause-unplaced
place_all-requires-clause-unplaced g c = λ is. c.requires.may.none

pub returns-in-Ok-clause-admitted : goal.returns-in-Ok-clause-admitted
returns-in-Ok-clause-admitted g c = λ same. placed_all g.N.Planted.nodes c.args.task c.args.effects.now c.args.stand.now.me c.place_all.new.stand.me c.requires.may c.in-Ok.ensures.all

pub returns-in-InTheWay-clause-held : goal.returns-in-InTheWay-clause-held
returns-in-InTheWay-clause-held g c =
    let nodes = g.N.Planted.nodes in
    let p = g.N.Named.prog in
    let lim = g.N.Named.lim in
    let t = c.args.task in
    let effects = c.args.effects.now in
    let before = c.args.stand.now.me in
    let middle = c.place_all.new.stand.me in
    let after = c.take_out_first.new.stand.me in
    let stopped = c.in-Err.ensures.stopped in
    let out = c.take_out_first.ensures.out in
    let met = subst (λ (o : Obstacle). IsObstacle p lim Admission before.0 middle.0 t effects o) c.in-InTheWay.is stopped.by in
    λ bar same. (
      backed_out nodes t effects c.in-Err.stopped.placed before middle after c.requires.may.none stopped.placed out,
      subst (λ (b : Bar). WasBarredFor p lim before.0 after.0 t effects b) (held_by c.in-InTheWay.bar bar same)
          (barred_still nodes t effects p lim before middle after c.in-InTheWay.bar out.keeps met.1),
    )

pub returns-in-InTheWay-clause-alone : goal.returns-in-InTheWay-clause-alone
returns-in-InTheWay-clause-alone g c =
    let p = g.N.Named.prog in
    let lim = g.N.Named.lim in
    let t = c.args.task in
    let effects = c.args.effects.now in
    let before = c.args.stand.now.me in
    let middle = c.place_all.new.stand.me in
    let met = subst (λ (o : Obstacle). IsObstacle p lim Admission before.0 middle.0 t effects o) c.in-InTheWay.is c.in-Err.ensures.stopped.by in
    λ bar same low.
    let one = held_by c.in-InTheWay.bar bar same in
    barred_forbids g.N.Planted.nodes t effects p lim before.0 middle.0 c.in-InTheWay.bar c.requires.may met.1 (subst (λ (b : Bar). b.by < lim.tasks) (sym one) low)

pub returns-in-InTheWay-clause-keeps : goal.returns-in-InTheWay-clause-keeps
returns-in-InTheWay-clause-keeps g c =
    keeps_trans c.args.task c.args.stand.now.me c.place_all.new.stand.me c.take_out_first.new.stand.me
    c.in-Err.ensures.stopped.placed.keeps c.take_out_first.ensures.out.keeps

pub returns-in-NoMemory-clause-memory : goal.returns-in-NoMemory-clause-memory
returns-in-NoMemory-clause-memory g c =
    backed_out g.N.Planted.nodes c.args.task c.args.effects.now c.in-Err.stopped.placed c.args.stand.now.me c.place_all.new.stand.me c.take_out_first.new.stand.me
    c.requires.may.none c.in-Err.ensures.stopped.placed c.take_out_first.ensures.out

pub returns-in-NoMemory-clause-keeps : goal.returns-in-NoMemory-clause-keeps
returns-in-NoMemory-clause-keeps g c =
    keeps_trans c.args.task c.args.stand.now.me c.place_all.new.stand.me c.take_out_first.new.stand.me
    c.in-Err.ensures.stopped.placed.keeps c.take_out_first.ensures.out.keeps
