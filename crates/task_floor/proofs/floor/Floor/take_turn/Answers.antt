use Rattle.std.proofs.Common.{◌≡◌, ◌≢◌, ◌+◌, ℕ, Some, arith, sym, subst, ◌∙◌, ⊎_elim}
use Rattle.std.specs.Prelude.{◌==◌}
use mathlib.Core.Option.{none}
use prog.Atomic.{either}
use Rattle.atomic_table.specs.Table.{Allows, step}
use Rattle.floor_laws.proofs.rule.Puts.{none_some, some_one}
use Rattle.floor_laws.specs.rule.Rows.{slot_of}
use Rattle.floor_laws.specs.table.Layout.{free_word, taken_word, turn_place}
use Rattle.floor_laws.specs.declared.table.nodes.slot.TreeSlot.TheVariants as kinds
use Rattle.floor_laws.specs.table.nodes.Holds.{TreeKeeps}
use Rattle.floor_laws.specs.table.nodes.Layout.{tree_slot_count}
use Rattle.floor_laws.specs.declared.table.nodes.view.Look.TheVariants.{AtTurn}
use Rattle.floor_laws.specs.table.nodes.Looks.{looked_seat}
use Rattle.floor_laws.specs.table.nodes.TurnSeats.{TookTreeTurn, TriesTreeTurn}
use Rattle.floor_laws.proofs.table.nodes.Takes.{try_tree_turn}
use Rattle.task_floor.proofs.Taking.{has_taken_task, held_is, home_is, out_first, took_of}
use Rattle.task_floor.proofs.floor.Floor.take_turn.Goals as goal

pub compare_exchange-found-requires : goal.compare_exchange-found-requires
compare_exchange-found-requires g c =
    let nodes = g.N.Planted.nodes in
    let p = g.N.Named.prog in
    let lim = g.N.Named.lim in
    let me = c.args.stand.now.me in
    let id = c.args.stand.now.id in
    let place = c.turn_place-place.ensures in
    let words = c.self.invariant.3 in
    let below = c.requires.task in
    let here = c.requires.here in
    let same = c.self.view_is in
    let worker = c.requires.worker in
    let count = tree_slot_count nodes lim in
    let named : taken_word me.0.floor.worker ≡ c.args.worker + 2 = omega (arith, worker) in
    let P : ℕ → ℕ → ℕ → Type 0 = λ word slots x. Allows (TreeKeeps nodes p lim) slots id me word (λ n. either (n == free_word) x n) (TriesTreeTurn nodes p lim (step slots word free_word x none) me) in
    let allowed : P (turn_place p c.args.task) count (taken_word me.0.floor.worker) = try_tree_turn nodes p lim id me.0 me.1 c.requires.slots c.args.task below c.requires.live in
    let at_word : P c.turn_place-place.result count (taken_word me.0.floor.worker) = subst (λ (w : ℕ). P w count (taken_word me.0.floor.worker)) (sym place) allowed in
    let with_worker : P c.turn_place-place.result count (c.args.worker + 2) = subst (P c.turn_place-place.result count) named at_word in
    (cc (here, same), omega (arith, words, place, below), subst (λ (n : ℕ). P c.turn_place-place.result n (c.args.worker + 2)) (sym c.self.invariant.4) with_worker)

pub returns-then-found-ne0-clause-busy : goal.returns-then-found-ne0-clause-busy
returns-then-found-ne0-clause-busy g c =
    let nodes = g.N.Planted.nodes in
    let me = c.args.stand.now.me in
    let after = c.compare_exchange-found.new.seat.me in
    let found = c.compare_exchange-found.result in
    ⊎_elim (λ (took : (found ≡ free_word) × TookTreeTurn nodes me c.args.task after). absurd (c.if-found-ne0.true took.0))
    (λ (missed : (found ≢ free_word) × (after ≡ looked_seat me (AtTurn c.args.task found))). record { found = found; busy = missed.0; named = c.found_busy.ensures; seat = missed.1 })
    (c.compare_exchange-found.ensures.2 c.args.task c.turn_place-place.ensures).0

pub returns-then-found-ne0-clause-alone : goal.returns-then-found-ne0-clause-alone
returns-then-found-ne0-clause-alone g c st alone not made = c.if-found-ne0.true ((c.compare_exchange-found.ensures.2 c.args.task c.turn_place-place.ensures).1 st alone not made)

pub exchange-home-requires : goal.exchange-home-requires
exchange-home-requires g c =
    let nodes = g.N.Planted.nodes in
    let me = c.args.stand.now.me in
    let after = c.compare_exchange-found.new.seat.me in
    let here = c.requires.here in
    let same = c.self.view_is in
    let still = c.compare_exchange-found.ensures.0 in
    let took = took_of nodes me after c.args.task c.compare_exchange-found.result c.if-found-ne0.false (c.compare_exchange-found.ensures.2 c.args.task c.turn_place-place.ensures).0 in
    (cc (here, same, still), (kinds.Task (Some (slot_of took.turn.row)), out_first nodes me after c.args.task took))

pub task_in-requires : goal.task_in-requires
task_in-requires g c =
    let nodes = g.N.Planted.nodes in
    let me = c.args.stand.now.me in
    let after = c.compare_exchange-found.new.seat.me in
    let took = took_of nodes me after c.args.task c.compare_exchange-found.result c.if-found-ne0.false (c.compare_exchange-found.ensures.2 c.args.task c.turn_place-place.ensures).0 in
    (Some (slot_of took.turn.row), home_is nodes me after c.args.task c.exchange-home.result took c.exchange-home.ensures.2)

pub unreachable-requires : goal.unreachable-requires
unreachable-requires g c =
    let nodes = g.N.Planted.nodes in
    let me = c.args.stand.now.me in
    let after = c.compare_exchange-found.new.seat.me in
    let took = took_of nodes me after c.args.task c.compare_exchange-found.result c.if-found-ne0.false (c.compare_exchange-found.ensures.2 c.args.task c.turn_place-place.ensures).0 in
    none_some (sym c.in-None.is ∙ held_is nodes me after c.args.task c.exchange-home.result c.task_in.result took c.exchange-home.ensures.2 c.task_in.ensures)

pub returns-clause-taken : goal.returns-clause-taken
returns-clause-taken g c =
    let nodes = g.N.Planted.nodes in
    let me = c.args.stand.now.me in
    let after = c.compare_exchange-found.new.seat.me in
    let took = took_of nodes me after c.args.task c.compare_exchange-found.result c.if-found-ne0.false (c.compare_exchange-found.ensures.2 c.args.task c.turn_place-place.ensures).0 in
    let held = held_is nodes me after c.args.task c.exchange-home.result c.task_in.result took c.exchange-home.ensures.2 c.task_in.ensures in
    has_taken_task nodes me after c.exchange-home.new.seat.me c.args.task c.in-Some.slot took (some_one (sym c.in-Some.is ∙ held)) c.exchange-home.ensures.3
