use Rattle.std.proofs.Common.{List, [], ap, ◌∙◌}
use Rattle.std.specs.Prelude.{IfOk, Result, Ok, Err}
use Rattle.seg_journal.specs.declared.journal.Entry.{Entry}
use Rattle.twe_program.specs.Program.{Program}
use Rattle.machine_state.specs.Moves.{start_of}
use Rattle.floor_laws.specs.table.nodes.Holds.{first_tree_view}
use Rattle.task_floor.specs.steps.Waking.{log_of}
use Rattle.task_floor.proofs.Planted.{none_at_start}
use Rattle.task_floor.proofs.floor.Floor.new.Goals as goal

ok_three : {T E : Type 0} (r : Result T E) (P Q R S : T → Type 0) → ((x : T) → P x → Q x → R x → S x) → IfOk r P → IfOk r Q → IfOk r R → IfOk r S
ok_three (Ok x) P Q R S f p q r = f x p q r
ok_three (Err e) P Q R S f p q r = p

pub returns-clause-stand : goal.returns-clause-stand
returns-clause-stand g c =
    let p = g.N.Named.prog in
    let lim = g.N.Named.lim in
    let start = c.in_ok-state.ensures ∙ (ap (λ (q : Program). start_of q c.args.lim) c.requires.named.0 ∙ ap (start_of p) c.requires.named.2) in
    ok_three c.wake.result _ _ _ _
    (λ floor here stand part.
    let empty = part ∙ ap (λ (j : List Entry). log_of j c.in_ok-state.state.prints) c.new-journal.ensures in
    let none = none_at_start g.N.Planted.nodes p lim c.in_ok-state.state start stand.0 stand.1 in
    (here, stand.2 ∙ (λ k. (first_tree_view (empty k) (none k), []))))
    c.wake.ensures.here c.wake.ensures.stand c.wake.ensures.part
