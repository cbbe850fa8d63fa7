use Rattle.std.proofs.Common.{◌≡◌, true, false, sym, ap, ◌∙◌}
use Rattle.std.specs.List.{list_all}
use Rattle.machine_state.specs.Rows.{is_done_row}
use Rattle.machine_state.proofs.replays.AllDone.{all_are_done, all_done_told}
use Rattle.twe_machine.proofs.outcomes.outcome.Goals as goal

pub returns-then-all_done : goal.returns-then-all_done
returns-then-all_done c =
    let st = c.args.st.now in
    let all : list_all is_done_row st.tasks ≡ true = ap (list_all is_done_row) (sym c.as_slice.ensures) ∙ (sym c.all_done.ensures ∙ c.if-all_done.true) in
    (c.in_default.is, all_are_done st.tasks all)

pub returns-in-None : goal.returns-in-None
returns-in-None c =
    let st = c.args.st.now in
    let some : list_all is_done_row st.tasks ≡ false = ap (list_all is_done_row) (sym c.as_slice.ensures) ∙ (sym c.all_done.ensures ∙ c.if-all_done.false) in
    (c.in_default.is, λ all. cc (some, all_done_told st.tasks all), c.in-None.ensures.none)
