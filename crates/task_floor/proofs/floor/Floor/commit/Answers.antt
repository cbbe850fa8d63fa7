use Rattle.std.proofs.Common.{◌≡◌, ◌+◌, ℕ, sym, ap, subst, ◌∙◌}
use Rattle.std.specs.Prelude.{option_map}
use Rattle.twe_base.specs.Limits.{Bounds}
use Rattle.seg_meaning.specs.declared.frame.Frame.{Frame}
use Rattle.seg_meaning.specs.Segment.{HasRoomToSpawn}
use Rattle.machine_state.specs.Moves.{frame_without_prints}
use Rattle.seg_journal.specs.declared.numbered.NumberedEntry.{NumberedEntry}
use Rattle.floor_laws.specs.rule.Rows.{slot_of}
use Rattle.floor_laws.specs.rule.Steps.{end_after}
use Rattle.floor_laws.specs.table.Layout.{asked_of_clock}
use Rattle.task_floor.specs.steps.Committing.{child_row, with_entry}
use Rattle.task_floor.specs.steps.inner.Bringing.{frame_after}
use Rattle.task_floor.proofs.steps.CommittedEntries.{entry_is, room_kept, slot_after}
use Rattle.floor_laws.specs.table.nodes.FloorSeats.{HasTaskSlots}
use Rattle.floor_laws.specs.table.nodes.Seats.{TreeSeat}
use Rattle.task_floor.specs.Committing.{with_made}
use Rattle.task_floor.specs.inner.Bringing.{MayBringBeside}
use Rattle.task_floor.proofs.DrawnBeside.{child_is_below, drawn, drawn_live, had_none_next, may_bring_beside, row, with_made_slots}
use Rattle.task_floor.proofs.floor.Floor.commit.Goals as goal

pub draw-clock-requires-clause-may : goal.draw-clock-requires-clause-may
draw-clock-requires-clause-may g c =
    let may = c.requires.may in
    (c.args.task, may.0, c.args.slot.now.frame, c.args.stop, may.1.floor.latest, may.1.floor.may, may.1.placed, c.clock_step.ensures)

pub settle-end-requires-clause-room : goal.settle-end-requires-clause-room
settle-end-requires-clause-room g c =
    subst (HasRoomToSpawn c.args.stop) (sym c.take_prints-prints.ensures.frame) (room_kept c.args.stop c.args.slot.now.frame c.requires.may.1.floor.room)

pub bring-child-requires-clause-live : goal.bring-child-requires-clause-live
bring-child-requires-clause-live g c =
    let may = c.requires.may in
    drawn_live g.N.Named.prog g.N.Named.lim c.args.stand.now.me c.draw-clock.new.stand.me c.draw-clock.result c.args.task may.0 c.args.slot.now c.args.stop may.1 c.requires.slots c.draw-clock.ensures.drew c.requires.live

pub bring-child-requires-clause-may : goal.bring-child-requires-clause-may
bring-child-requires-clause-may g c =
    let p = g.N.Named.prog in
    let lim = g.N.Named.lim in
    let may = c.requires.may in
    let me = c.args.stand.now.me in
    let mid = c.draw-clock.new.stand.me in
    let t = c.args.task in
    let stop = c.args.stop in
    let slot = c.args.slot.now in
    let clock = c.draw-clock.result in
    let asked_is = c.asked_of-asked.ensures.value in
    let held = c.push_keeping-kept.result in
    let holds : held ≡ option_map slot_of (child_row lim (asked_of_clock clock) t stop) =
    c.push_keeping-kept.ensures.kept ∙ c.settle-end.ensures.child ∙ ap (λ (l : Bounds). option_map slot_of (child_row l c.asked_of-asked.result t stop)) c.requires.lim
    ∙ ap (λ (n : ℕ). option_map slot_of (child_row lim n t stop)) asked_is in
    let seat = drawn p lim me mid clock t may.0 slot stop may.1 c.requires.slots c.draw-clock.ensures.drew in
    let made = row p lim me mid clock t may.0 slot stop may.1 c.requires.slots c.draw-clock.ensures.drew in
    (seat, made, subst (λ (n : ℕ). MayBringBeside lim mid (n + 1) held seat made) (sym asked_is) (may_bring_beside p lim me mid clock t may.0 slot stop may.1 c.requires.slots c.draw-clock.ensures.drew held holds))

pub returns-clause-committed : goal.returns-clause-committed
returns-clause-committed g c turn may =
    let p = g.N.Named.prog in
    let lim = g.N.Named.lim in
    let me = c.args.stand.now.me in
    let mid = c.draw-clock.new.stand.me in
    let t = c.args.task in
    let stop = c.args.stop in
    let slot = c.args.slot.now in
    let frame = slot.frame in
    let clock = c.draw-clock.result in
    let drew = c.draw-clock.ensures.drew in
    let has = c.requires.slots in
    let asked_is = c.asked_of-asked.ensures.value in
    let held = c.push_keeping-kept.result in
    let holds : held ≡ option_map slot_of (child_row lim (asked_of_clock clock) t stop) =
    c.push_keeping-kept.ensures.kept ∙ c.settle-end.ensures.child ∙ ap (λ (l : Bounds). option_map slot_of (child_row l c.asked_of-asked.result t stop)) c.requires.lim
    ∙ ap (λ (n : ℕ). option_map slot_of (child_row lim n t stop)) asked_is in
    let ends : c.settle-end.result.0 ≡ end_after lim (asked_of_clock clock) stop =
    c.settle-end.ensures.end ∙ ap (λ (l : Bounds). end_after l c.asked_of-asked.result stop) c.requires.lim ∙ ap (λ (n : ℕ). end_after lim n stop) asked_is in
    let frames : c.settle-end.new.frame ≡ frame_after lim (asked_of_clock clock) (frame_without_prints frame) stop =
    c.settle-end.ensures.frame
    ∙ ap (λ (l : Bounds). frame_after l c.asked_of-asked.result c.take_prints-prints.new.frame stop) c.requires.lim
    ∙ ap (λ (n : ℕ). frame_after lim n c.take_prints-prints.new.frame stop) asked_is
    ∙ ap (λ (f : Frame). frame_after lim (asked_of_clock clock) f stop) c.take_prints-prints.ensures.frame in
    let seat = drawn p lim me mid clock t turn slot stop may has drew in
    let made = row p lim me mid clock t turn slot stop may has drew in
    let brings : MayBringBeside lim mid (c.asked_of-asked.result + 1) held seat made =
    subst (λ (n : ℕ). MayBringBeside lim mid (n + 1) held seat made) (sym asked_is) (may_bring_beside p lim me mid clock t turn slot stop may has drew held holds) in
    let below = child_is_below p lim me mid clock t turn slot stop may has drew held holds in
    let brought = c.bring-child.ensures.brought seat made brings in
    record {
      clock = clock;
      number_is = c.entries_of-number.ensures;
      end_is = ends;
      slot_is = slot_after lim (asked_of_clock clock) turn.row slot stop c.settle-end.new.frame may.floor.rest frames;
      had_none = λ any is. had_none_next p lim me mid clock t turn slot stop may has drew (below any is);
      unplaced = λ any is. drew.1 (below any is);
      child_is = brought.1;
      seat = brought.0 ∙ ap (λ (n : ℕ). with_made seat (n + 1) made) asked_is;
      log = c.push_keeping-kept.ensures.entry
          ∙ ap (λ (e : NumberedEntry). with_entry e c.args.log.now)
          (entry_is lim clock t c.entries_of-number.result frame stop c.settle-end.result.0 c.take_prints-prints.result c.entries_of-number.ensures ends c.take_prints-prints.ensures.prints);
    }

pub returns-clause-slots : goal.returns-clause-slots
returns-clause-slots g c =
    let p = g.N.Named.prog in
    let lim = g.N.Named.lim in
    let may = c.requires.may in
    let turn = may.0 in
    let me = c.args.stand.now.me in
    let mid = c.draw-clock.new.stand.me in
    let t = c.args.task in
    let stop = c.args.stop in
    let slot = c.args.slot.now in
    let clock = c.draw-clock.result in
    let drew = c.draw-clock.ensures.drew in
    let has = c.requires.slots in
    let asked_is = c.asked_of-asked.ensures.value in
    let held = c.push_keeping-kept.result in
    let holds : held ≡ option_map slot_of (child_row lim (asked_of_clock clock) t stop) =
    c.push_keeping-kept.ensures.kept ∙ c.settle-end.ensures.child ∙ ap (λ (l : Bounds). option_map slot_of (child_row l c.asked_of-asked.result t stop)) c.requires.lim
    ∙ ap (λ (n : ℕ). option_map slot_of (child_row lim n t stop)) asked_is in
    let seat = drawn p lim me mid clock t turn slot stop may.1 has drew in
    let made = row p lim me mid clock t turn slot stop may.1 has drew in
    let brings : MayBringBeside lim mid (c.asked_of-asked.result + 1) held seat made =
    subst (λ (n : ℕ). MayBringBeside lim mid (n + 1) held seat made) (sym asked_is) (may_bring_beside p lim me mid clock t turn slot stop may.1 has drew held holds) in
    let below = child_is_below p lim me mid clock t turn slot stop may.1 has drew held holds in
    let now = (c.bring-child.ensures.brought seat made brings).0 ∙ ap (λ (n : ℕ). with_made seat (n + 1) made) asked_is in
    subst (λ (m : TreeSeat). HasTaskSlots lim.tasks m.1) (sym now) (with_made_slots lim.tasks seat (asked_of_clock clock + 1) made below has)
