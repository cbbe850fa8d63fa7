use Rattle.std.proofs.Common.{ℕ, ◌+◌, ◌%◌, arith, sym, subst}
use Rattle.std.specs.Prelude.{◌^◌}
use Rattle.atomic_table.specs.Table.{Allows}
use Rattle.floor_laws.specs.table.Layout.{clock_place}
use Rattle.floor_laws.specs.table.nodes.EntrySeats.{DrewAdmission}
use Rattle.floor_laws.specs.table.nodes.Holds.{TreeKeeps}
use Rattle.floor_laws.specs.table.nodes.Layout.{tree_slot_count}
use Rattle.floor_laws.proofs.table.nodes.Admissions.{draw_admission}
use Rattle.task_floor.proofs.floor.Floor.draw_admission.Goals as goal

pub fetch_add-requires : goal.fetch_add-requires
fetch_add-requires g c =
    let nodes = g.N.Planted.nodes in
    let p = g.N.Named.prog in
    let lim = g.N.Named.lim in
    let me = c.args.stand.now.me in
    let id = c.args.stand.now.id in
    let words = c.self.invariant.3 in
    let here = c.requires.here in
    let same = c.self.view_is in
    let may = c.requires.may in
    let P : ℕ → Type 0 = λ slots. Allows (TreeKeeps nodes p lim) slots id me clock_place (λ n. (n + 1) % 2 ^ 64) (DrewAdmission nodes me) in
    let allowed : P (tree_slot_count nodes lim) = draw_admission nodes p lim (tree_slot_count nodes lim) id may.0 me.0 me.1 may.1 c.requires.live may.2 in
    (cc (here, same), omega (arith, words), subst P (sym c.self.invariant.4) allowed)
