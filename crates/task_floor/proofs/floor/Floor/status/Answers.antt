use Rattle.std.proofs.Common.{ℕ, arith, sym, subst}
use mathlib.Core.Option.{none}
use Rattle.atomic_table.specs.Table.{Allows, step}
use Rattle.floor_laws.specs.table.Layout.{phase_place}
use Rattle.floor_laws.specs.table.nodes.Alone.{LearnsAlone}
use Rattle.floor_laws.specs.table.nodes.Follows.{FollowedPhase, FollowsWait}
use Rattle.floor_laws.specs.table.nodes.Holds.{TreeKeeps}
use Rattle.floor_laws.specs.table.nodes.Layout.{tree_slot_count}
use Rattle.floor_laws.proofs.table.nodes.Following.{follow}
use Rattle.task_floor.proofs.floor.Floor.status.Goals as goal

pub load-word-requires : goal.load-word-requires
load-word-requires g c =
    let nodes = g.N.Planted.nodes in
    let p = g.N.Named.prog in
    let lim = g.N.Named.lim in
    let me = c.args.stand.now.me in
    let id = c.args.stand.now.id in
    let place = c.phase_place-place.ensures in
    let words = c.self.invariant.3 in
    let below = c.requires.task in
    let here = c.requires.here in
    let same = c.self.view_is in
    let count = tree_slot_count nodes lim in
    let P : ℕ → ℕ → Type 0 = λ word slots. Allows (TreeKeeps nodes p lim) slots id me word (λ n. n) (FollowsWait p lim (step slots word 0 0 none) me) in
    let allowed : P (phase_place p c.args.task) count = follow nodes p lim id c.args.task me.0 me.1 c.requires.live below in
    let at_word : P c.phase_place-place.result count = subst (λ (w : ℕ). P w count) (sym place) allowed in
    (cc (here, same), omega (arith, words, place, below), subst (P c.phase_place-place.result) (sym c.self.invariant.4) at_word)

pub phase_of-requires : goal.phase_of-requires
phase_of-requires g c = (c.load-word.ensures.2 c.args.task c.phase_place-place.ensures).0.1

pub returns-clause-found : goal.returns-clause-found
returns-clause-found g c =
    subst (λ (n : ℕ). FollowedPhase g.N.Named.lim c.args.stand.now.me c.args.task n c.load-word.new.seat.me) c.phase_of.ensures (c.load-word.ensures.2 c.args.task c.phase_place-place.ensures).0

pub returns-clause-alone : goal.returns-clause-alone
returns-clause-alone g c =
    subst (λ (n : ℕ). LearnsAlone g.N.Named.prog g.N.Named.lim c.args.stand.now.me.0 c.args.task n) c.phase_of.ensures (c.load-word.ensures.2 c.args.task c.phase_place-place.ensures).1
