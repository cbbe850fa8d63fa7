-- The worker goes down, looks around and places the record.
use Rattle.std.proofs.Common.{sym, ◌∙◌}
use Rattle.tree_admit.proofs.Learning.{worker_kept}
use Rattle.tree_admit.proofs.Owning.{stood_fresh}
use Rattle.tree_admit.proofs.errands.place_one.Goals as goal

pub look_around-requires-clause-may : goal.look_around-requires-clause-may
look_around-requires-clause-may g c =
    let start = c.args.stand.now.me in
    (start.0, start.1, record { has = c.in-Ok.ensures.there; knows = c.requires.knows.0; child = c.requires.knows.1; outside = c.requires.outside; own = c.in-Ok.ensures.own })

pub put-requires-clause-worker : goal.put-requires-clause-worker
put-requires-clause-worker g c =
    let start = c.args.stand.now.me in
    let ready = c.in-Ok-look_around.ensures.ready start.0 start.1
    (record { has = c.in-Ok.ensures.there; knows = c.requires.knows.0; child = c.requires.knows.1; outside = c.requires.outside; own = c.in-Ok.ensures.own }) in
    c.requires.worker ∙ sym (worker_kept start.0 c.look_around.new.stand.me.0 ready.1.has.learned)

pub put-requires-clause-may : goal.put-requires-clause-may
put-requires-clause-may g c =
    let start = c.args.stand.now.me in
    let ready = c.in-Ok-look_around.ensures.ready start.0 start.1
    (record { has = c.in-Ok.ensures.there; knows = c.requires.knows.0; child = c.requires.knows.1; outside = c.requires.outside; own = c.in-Ok.ensures.own }) in
    (start.0, start.1, ready.0, ready.1)

pub put-requires-clause-decides : goal.put-requires-clause-decides
put-requires-clause-decides g c = c.in-Ok-look_around.ensures.wait

pub put-requires-clause-unplaced : goal.put-requires-clause-unplaced
put-requires-clause-unplaced g c = λ is among.
    let nodes = g.N.Planted.nodes in
    let start = c.args.stand.now.me in
    let ready = c.in-Ok-look_around.ensures.ready start.0 start.1
    (record { has = c.in-Ok.ensures.there; knows = c.requires.knows.0; child = c.requires.knows.1; outside = c.requires.outside; own = c.in-Ok.ensures.own }) in
    c.requires.unplaced is
    (stood_fresh nodes g.N.Named.lim start.0 start.1 c.args.errand c.args.effect.now ready.0 c.in-Ok-look_around.content c.look_around.new.stand.me ready.1 among)

pub returns-in-Ok-look_around-clause-tried : goal.returns-in-Ok-look_around-clause-tried
returns-in-Ok-look_around-clause-tried g c =
    let start = c.args.stand.now.me in
    let ready = c.in-Ok-look_around.ensures.ready start.0 start.1
    (record { has = c.in-Ok.ensures.there; knows = c.requires.knows.0; child = c.requires.knows.1; outside = c.requires.outside; own = c.in-Ok.ensures.own }) in
    c.put.ensures.tried start.0 start.1 ready.0 ready.1

pub returns-in-Ok-look_around-clause-failed : goal.returns-in-Ok-look_around-clause-failed
returns-in-Ok-look_around-clause-failed g c =
    let start = c.args.stand.now.me in
    let ready = c.in-Ok-look_around.ensures.ready start.0 start.1
    (record { has = c.in-Ok.ensures.there; knows = c.requires.knows.0; child = c.requires.knows.1; outside = c.requires.outside; own = c.in-Ok.ensures.own }) in
    c.put.ensures.failed start.0 start.1 ready.0 ready.1

pub returns-in-Err-look_around-clause-tried : goal.returns-in-Err-look_around-clause-tried
returns-in-Err-look_around-clause-tried g c =
    let start = c.args.stand.now.me in
    c.in-Err-look_around.ensures.barred start.0 start.1
    (record { has = c.in-Ok.ensures.there; knows = c.requires.knows.0; child = c.requires.knows.1; outside = c.requires.outside; own = c.in-Ok.ensures.own })
