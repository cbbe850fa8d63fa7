use Rattle.std.proofs.Common.{◌≡◌, ◌++◌, [], ◌∷◌, length, Some, sym, ap, subst, ◌∙◌}
use Rattle.floor_laws.specs.table.nodes.Seats.{MayGoOn, TreeSeat, unlocked_view}
use Rattle.floor_laws.specs.declared.table.nodes.view.TreeView.{TreeView}
use Rattle.task_floor.proofs.Givings.{same_behind, turned_hand}
use Rattle.task_floor.proofs.floor.Floor.leave_parent.Goals as goal

pub leave-requires-clause-may : goal.leave-requires-clause-may
leave-requires-clause-may g c =
    let may = c.requires.may in
    let view = ap (λ (m : TreeSeat). m.0) c.turn.ensures.2 in (
      may.0,
      may.2 ++ may.1 ∷ [],
      subst (λ (v : TreeView). MayGoOn g.N.Planted.nodes v c.args.node may.0) (sym view) may.3,
      turned_hand g.N.Named.lim c.args.stand.now.me c.turn.new.self.me c.args.node c.args.content may.1 may.2 may.4 c.turn.ensures.2,
    )

pub returns-clause-gave : goal.returns-clause-gave
returns-clause-gave g c next latest others may behind =
    let lim = g.N.Named.lim in
    let n = c.args.node in
    let me = c.args.stand.now.me in
    let mid = c.turn.new.self.me in
    let had = c.requires.may in
    let view : mid.0 ≡ me.0 = ap (λ (m : TreeSeat). m.0) c.turn.ensures.2 in
    let hand = turned_hand lim me mid n c.args.content latest others behind c.turn.ensures.2 in
    let gave = c.leave.ensures.gave next (others ++ latest ∷ []) (subst (λ (v : TreeView). MayGoOn g.N.Planted.nodes v n next) (sym view) may) hand in
    let count : c.args.others ≡ length others = had.5 ∙ ap length (same_behind lim me n c.args.content had.1 latest had.2 others had.4 behind) in
    let moved = c.turn_slots.ensures.turned others (latest ∷ []) (ap (λ (m : TreeSeat). m.1) gave) count in
    moved ∙ (λ k. ((ap (λ (m : TreeSeat). m.0) gave ∙ ap (λ (v : TreeView). unlocked_view v n (Some next)) view) k, latest ∷ others))
