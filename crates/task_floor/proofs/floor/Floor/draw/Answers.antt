use Rattle.std.proofs.Common.{ℕ, ◌+◌, ◌%◌, arith, sym, subst}
use Rattle.std.specs.Prelude.{◌^◌}
use Rattle.atomic_table.specs.Table.{Allows}
use Rattle.floor_laws.specs.table.Layout.{clock_place}
use Rattle.floor_laws.specs.table.Tells.{clock_step}
use Rattle.floor_laws.specs.table.nodes.EntrySeats.{DrewTreeEntry}
use Rattle.floor_laws.specs.table.nodes.Holds.{TreeKeeps}
use Rattle.floor_laws.specs.table.nodes.Layout.{tree_slot_count}
use Rattle.floor_laws.proofs.table.nodes.Entries.{draw_tree_entry}
use Rattle.task_floor.proofs.floor.Floor.draw.Goals as goal

pub fetch_add-requires : goal.fetch_add-requires
fetch_add-requires g c =
    let nodes = g.N.Planted.nodes in
    let p = g.N.Named.prog in
    let lim = g.N.Named.lim in
    let me = c.args.stand.now.me in
    let id = c.args.stand.now.id in
    let words = c.self.invariant.3 in
    let here = c.requires.here in
    let same = c.self.view_is in
    let may = c.requires.may in
    let P : ℕ → ℕ → Type 0 = λ slots step. Allows (TreeKeeps nodes p lim) slots id me clock_place (λ n. (n + step) % 2 ^ 64) (DrewTreeEntry p lim me) in
    let allowed : P (tree_slot_count nodes lim) (clock_step may.3) = draw_tree_entry nodes p lim (tree_slot_count nodes lim) id may.0 me.0 me.1 may.1 may.2 may.3 c.requires.slots c.requires.live may.4 may.5 may.6 in
    let with_step : P (tree_slot_count nodes lim) c.args.step = subst (P (tree_slot_count nodes lim)) (sym may.7) allowed in
    (cc (here, same), omega (arith, words), subst (λ (n : ℕ). P n c.args.step) (sym c.self.invariant.4) with_step)
