use Rattle.std.proofs.Common.{◌≡◌, sym, ap, ◌∙◌}
use Rattle.core.specs.Mem.Slots.{slots_items}
use Rattle.machine_state.specs.declared.state.State.{State}
use Rattle.machine_state.specs.Runs.{state_after}
use Rattle.task_floor.proofs.steps.Rested.{journal_shown, parts_numbered}
use Rattle.task_floor.proofs.floor.Floor.read_rest.Goals as goal

pub merge-requires : goal.merge-requires
merge-requires g c = parts_numbered g.N.Named.prog g.N.Named.lim c.args.parts.now (slots_items c.args.table.now.words) c.args.tasks c.requires.ended

pub read_state-requires-clause-accepted : goal.read_state-requires-clause-accepted
read_state-requires-clause-accepted g c =
    let quiet = c.requires.ended.ended.quiet in
    (quiet.well, quiet.within)

pub read_state-requires-clause-legal : goal.read_state-requires-clause-legal
read_state-requires-clause-legal g c =
    let m = c.in_ok-journal.ensures in
    (journal_shown g.N.Named.prog g.N.Named.lim c.args.parts.now (slots_items c.args.table.now.words) c.args.tasks c.requires.ended c.as_slice.result.now c.in_ok-journal.prints m.0 m.1
    (c.as_slice.ensures ∙ m.2) m.3).legal

pub read_state-requires-clause-shows : goal.read_state-requires-clause-shows
read_state-requires-clause-shows g c =
    let m = c.in_ok-journal.ensures in
    (journal_shown g.N.Named.prog g.N.Named.lim c.args.parts.now (slots_items c.args.table.now.words) c.args.tasks c.requires.ended c.as_slice.result.now c.in_ok-journal.prints m.0 m.1
    (c.as_slice.ensures ∙ m.2) m.3).shows

pub read_state-requires-clause-prints : goal.read_state-requires-clause-prints
read_state-requires-clause-prints g c =
    let m = c.in_ok-journal.ensures in
    (journal_shown g.N.Named.prog g.N.Named.lim c.args.parts.now (slots_items c.args.table.now.words) c.args.tasks c.requires.ended c.as_slice.result.now c.in_ok-journal.prints m.0 m.1
    (c.as_slice.ensures ∙ m.2) m.3).printed

pub returns : goal.returns
returns g c =
    let p = g.N.Named.prog in
    let lim = g.N.Named.lim in
    let m = c.in_ok-journal.ensures in
    let shown = journal_shown p lim c.args.parts.now (slots_items c.args.table.now.words) c.args.tasks c.requires.ended c.in_ok-journal.journal c.in_ok-journal.prints m.0 m.1 m.2 m.3 in
    let state : c.in_ok-state.state ≡ state_after p lim c.in_ok-journal.journal = c.in_ok-state.ensures ∙ ap (state_after p lim) c.as_slice.ensures in
    record {
      log = m.0;
      merge = m.1;
      journal = m.2;
      prints = ap (λ (s : State). s.prints) state ∙ (sym shown.printed ∙ m.3);
      run = record { legal = shown.legal; same = state };
    }
