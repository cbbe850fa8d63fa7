use Rattle.std.proofs.Common.{◌≡◌, sym, subst, ◌∙◌, inl, inr, ⊎_elim, arith}
use Rattle.floor_laws.specs.declared.rule.view.TaskSlot.{TaskSlot}
use Rattle.task_floor.specs.Holding.{HoldsTaskBeside}
use Rattle.floor_laws.specs.declared.rule.view.Phase.TheVariants as phases
use Rattle.floor_laws.specs.rule.Rows.{phase_of}
use Rattle.task_floor.specs.steps.Resuming.{IsReadiness}
use Rattle.floor_laws.specs.table.nodes.FloorSeats.{floor_seat}
use Rattle.task_floor.proofs.ServedBeside.{holds_ready}
use Rattle.tree_admit.proofs.serving.Serving.{found_waiting, moved_part, run_since, still_held, was_found}
use Rattle.tree_admit.proofs.Alone.{alone_then}
use Rattle.tree_admit.proofs.serving.workshop.Workshop.serve_taken.Goals as goal

pub run_taken-requires-clause-holds : goal.run_taken-requires-clause-holds
run_taken-requires-clause-holds g c =
    let h = c.args.holding in
    let holds = c.requires.holds in
    let slot = c.deref_mut.result.now in
    let held = subst (λ (s : TaskSlot). HoldsTaskBeside g.N.Planted.nodes h.number h.stand.me h.log h.task s holds.0) (sym (c.deref_mut.ensures.value ∙ c.slot.view_is)) holds.1 in
    let b = c.make_ready-readiness.new.stand.me in
    let frame = c.make_ready-readiness.new.frame in
    let may = subst (IsReadiness holds.0 (floor_seat b) h.task frame) c.in-Runs.is (c.make_ready-readiness.ensures.found holds.0 held.in_hand) in
    (record holds.0 { phase = phases.Running }, holds_ready g.N.Planted.nodes h.number h.stand.me b h.log h.task slot holds.0 held c.make_ready-readiness.ensures.moves frame may)

pub give_back-requires-clause-holds : goal.give_back-requires-clause-holds
give_back-requires-clause-holds g c =
    let h = c.args.holding in
    let holds = c.requires.holds in
    let slot = c.deref_mut.result.now in
    let held = subst (λ (s : TaskSlot). HoldsTaskBeside g.N.Planted.nodes h.number h.stand.me h.log h.task s holds.0) (sym (c.deref_mut.ensures.value ∙ c.slot.view_is)) holds.1 in
    let b = c.make_ready-readiness.new.stand.me in
    let frame = c.make_ready-readiness.new.frame in
    let waits = subst (IsReadiness holds.0 (floor_seat b) h.task frame) c.in-Waits.is (c.make_ready-readiness.ensures.found holds.0 held.in_hand) in
    (holds.0, still_held g.N.Planted.nodes h.number h.stand.me b h.log h.task slot holds.0 frame held c.make_ready-readiness.ensures.moves waits.1 (c.make_ready-readiness.ensures.enough holds.0 held.in_hand))

pub returns-in-Waits-clause-served : goal.returns-in-Waits-clause-served
returns-in-Waits-clause-served g c = λ before since.
    let h = c.args.holding in
    let holds = c.requires.holds in
    let slot = c.deref_mut.result.now in
    let held = subst (λ (s : TaskSlot). HoldsTaskBeside g.N.Planted.nodes h.number h.stand.me h.log h.task s holds.0) (sym (c.deref_mut.ensures.value ∙ c.slot.view_is)) holds.1 in
    let b = c.make_ready-readiness.new.stand.me in
    let frame = c.make_ready-readiness.new.frame in
    let moves = c.make_ready-readiness.ensures.moves in
    let waits = subst (IsReadiness holds.0 (floor_seat b) h.task frame) c.in-Waits.is (c.make_ready-readiness.ensures.found holds.0 held.in_hand) in (
      was_found before h.stand.me h.task since holds.0 holds.1.in_hand.has b c.give_back.result.me (phases.Waits c.in-Waits.on) moves c.give_back.ensures.turns c.give_back.ensures.part waits.0,
      found_waiting before h.stand.me b c.give_back.result.me h.task c.in-Waits.on since (c.make_ready-readiness.ensures.waits c.in-Waits.on c.in-Waits.is) c.give_back.ensures.knows.2,
    )

pub give_back-requires-in-Made-clause-holds : goal.give_back-requires-in-Made-clause-holds
give_back-requires-in-Made-clause-holds g c =
    let h = c.args.holding in
    let holds = c.requires.holds in
    let slot = c.deref_mut.result.now in
    let held = subst (λ (s : TaskSlot). HoldsTaskBeside g.N.Planted.nodes h.number h.stand.me h.log h.task s holds.0) (sym (c.deref_mut.ensures.value ∙ c.slot.view_is)) holds.1 in
    let b = c.make_ready-readiness.new.stand.me in
    let frame = c.make_ready-readiness.new.frame in
    let made = subst (IsReadiness holds.0 (floor_seat b) h.task frame) c.in-Made.is (c.make_ready-readiness.ensures.found holds.0 held.in_hand) in
    (holds.0, still_held g.N.Planted.nodes h.number h.stand.me b h.log h.task slot holds.0 frame held c.make_ready-readiness.ensures.moves made.1 (c.make_ready-readiness.ensures.enough holds.0 held.in_hand))

pub returns-in-Made-clause-served : goal.returns-in-Made-clause-served
returns-in-Made-clause-served g c = λ before since.
    let h = c.args.holding in
    let holds = c.requires.holds in
    let slot = c.deref_mut.result.now in
    let held = subst (λ (s : TaskSlot). HoldsTaskBeside g.N.Planted.nodes h.number h.stand.me h.log h.task s holds.0) (sym (c.deref_mut.ensures.value ∙ c.slot.view_is)) holds.1 in
    let b = c.make_ready-readiness.new.stand.me in
    let frame = c.make_ready-readiness.new.frame in
    let moves = c.make_ready-readiness.ensures.moves in
    let made = subst (IsReadiness holds.0 (floor_seat b) h.task frame) c.in-Made.is (c.make_ready-readiness.ensures.found holds.0 held.in_hand) in
    was_found before h.stand.me h.task since holds.0 holds.1.in_hand.has b c.give_back-in-Made.result.me phases.Made moves c.give_back-in-Made.ensures.turns c.give_back-in-Made.ensures.part made.0

pub give_back-requires-in-Ended-clause-holds : goal.give_back-requires-in-Ended-clause-holds
give_back-requires-in-Ended-clause-holds g c =
    let h = c.args.holding in
    let holds = c.requires.holds in
    let slot = c.deref_mut.result.now in
    let held = subst (λ (s : TaskSlot). HoldsTaskBeside g.N.Planted.nodes h.number h.stand.me h.log h.task s holds.0) (sym (c.deref_mut.ensures.value ∙ c.slot.view_is)) holds.1 in
    let b = c.make_ready-readiness.new.stand.me in
    let frame = c.make_ready-readiness.new.frame in
    let ended = subst (IsReadiness holds.0 (floor_seat b) h.task frame) c.in-Ended.is (c.make_ready-readiness.ensures.found holds.0 held.in_hand) in
    (holds.0, still_held g.N.Planted.nodes h.number h.stand.me b h.log h.task slot holds.0 frame held c.make_ready-readiness.ensures.moves ended.1 (c.make_ready-readiness.ensures.enough holds.0 held.in_hand))

pub returns-in-Ended-clause-served : goal.returns-in-Ended-clause-served
returns-in-Ended-clause-served g c = λ before since.
    let h = c.args.holding in
    let holds = c.requires.holds in
    let slot = c.deref_mut.result.now in
    let held = subst (λ (s : TaskSlot). HoldsTaskBeside g.N.Planted.nodes h.number h.stand.me h.log h.task s holds.0) (sym (c.deref_mut.ensures.value ∙ c.slot.view_is)) holds.1 in
    let b = c.make_ready-readiness.new.stand.me in
    let frame = c.make_ready-readiness.new.frame in
    let moves = c.make_ready-readiness.ensures.moves in
    let ended = subst (IsReadiness holds.0 (floor_seat b) h.task frame) c.in-Ended.is (c.make_ready-readiness.ensures.found holds.0 held.in_hand) in
    ⊎_elim
    (λ (done : phase_of holds.0.row ≡ phases.Done). inl (was_found before h.stand.me h.task since holds.0 holds.1.in_hand.has b c.give_back-in-Ended.result.me phases.Done moves c.give_back-in-Ended.ensures.turns c.give_back-in-Ended.ensures.part done))
    (λ (faulted : phase_of holds.0.row ≡ phases.Faulted). inr (was_found before h.stand.me h.task since holds.0 holds.1.in_hand.has b c.give_back-in-Ended.result.me phases.Faulted moves c.give_back-in-Ended.ensures.turns c.give_back-in-Ended.ensures.part faulted))
    ended.0

pub returns-in_ok-worker-in-Runs-clause-served : goal.returns-in_ok-worker-in-Runs-clause-served
returns-in_ok-worker-in-Runs-clause-served g c = λ before since.
    let h = c.args.holding in
    let b = c.make_ready-readiness.new.stand.me in
    run_since before b c.in_ok-worker-in-Runs.worker.me h.task c.in_ok-worker-in-Runs.end (moved_part h.stand.me b h.task c.make_ready-readiness.ensures.moves ∙ since.part) c.in_ok-worker-in-Runs.ensures.ran

pub returns-in-Waits-clause-alone : goal.returns-in-Waits-clause-alone
returns-in-Waits-clause-alone g c = λ before since st alone done.
    let h = c.args.holding in
    let on = c.in-Waits.on in
    let above = c.make_ready-readiness.ensures.above on c.in-Waits.is in
    c.make_ready-readiness.ensures.alone on c.in-Waits.is st (alone_then g.N.Named.prog g.N.Named.lim h.task before.0.floor h.stand.me.0.floor st since.served alone)
    (c.requires.holds.1.one.others on (λ same. omega (arith, same, above))) done
