use Rattle.std.proofs.Common.{◌≡◌, ◌++◌, [], ◌∷◌, arith, ap, refl, sym, ◌∙◌, subst}
use Rattle.std.specs.Prelude.{OnOk}
use Rattle.seg_journal.specs.declared.journal.End.{End}
use Rattle.twe_base.specs.Limits.{Bounds, IsWithin}
use Rattle.twe_program.specs.WellFormed.{IsWellFormed}
use Rattle.machine_state.specs.declared.state.State.{State}
use Rattle.span_profile.specs.Recorders.{node_with}
use Rattle.span_profile.specs.heaviest_chain.Built.{FrontHolds}
use Rattle.span_profile.specs.heaviest_chain.Nodes.{Node}
use Rattle.held_span.specs.inner.Noting.{noted}
use Rattle.held_span.specs.declared.spanning.Spanning.{Spanning}
use Rattle.held_span.proofs.Steps.{child_there, end_is, few_firsts, has_room, may, mover_known, reached, spans_back}
use Rattle.held_span.proofs.spanning.Spanning.take.Goals as goal

pub take-requires-clause-recorder : goal.take-requires-clause-recorder
take-requires-clause-recorder c = (c.requires.4.tree, c.requires.4.records)

pub take-requires-clause-reached : goal.take-requires-clause-reached
take-requires-clause-reached c =
    let well = subst IsWellFormed c.p.view_is c.p.invariant in
    let r = c.requires in
    reached c.args.p.now c.args.lim well c.args.marks.now r.0 r.1 c.args.mv r.2 r.3 c.args.self.now r.4

pub take-requires-clause-legal : goal.take-requires-clause-legal
take-requires-clause-legal c =
    let well = subst IsWellFormed c.p.view_is c.p.invariant in
    let r = c.requires in
    may c.args.p.now c.args.lim well c.args.marks.now r.0 r.1 c.args.mv r.2 r.3 c.args.self.now r.4

pub note-requires-clause-numbered : goal.note-requires-clause-numbered
note-requires-clause-numbered c = c.requires.4.plan.numbered

pub note-requires-clause-room : goal.note-requires-clause-room
note-requires-clause-room c = c.requires.4.held.room

pub note-requires-clause-ways : goal.note-requires-clause-ways
note-requires-clause-ways c = c.requires.4.led.are

pub note-requires-clause-there : goal.note-requires-clause-there
note-requires-clause-there c =
    let well = subst IsWellFormed c.p.view_is c.p.invariant in
    let r = c.requires in
    mover_known c.args.p.now c.args.lim well c.args.marks.now r.0 r.1 c.args.mv r.2 r.3 c.args.self.now r.4

pub note-requires-clause-few : goal.note-requires-clause-few
note-requires-clause-few c =
    let well = subst IsWellFormed c.p.view_is c.p.invariant in
    let r = c.requires in
    few_firsts c.args.p.now c.args.lim well c.args.marks.now r.0 r.1 c.args.mv r.2 r.3 c.args.self.now r.4

pub note-requires-clause-child : goal.note-requires-clause-child
note-requires-clause-child c = λ child made.
    let well = subst IsWellFormed c.p.view_is c.p.invariant in
    let r = c.requires in
    let moved = c.in_ok-keys.ensures.moved in
    let first_end : c.in_ok-keys.keys.end ≡ r.2 =
    ap (λ (x : State × End). x.1) moved ∙ end_is c.args.p.now c.args.lim well c.args.marks.now r.0 r.1 c.args.mv r.2 r.3 c.args.self.now r.4 in
    child_there c.args.p.now c.args.lim well c.args.marks.now r.0 r.1 c.args.mv r.2 r.3 c.args.self.now r.4 c.take.new.st (ap (λ (x : State × End). x.0) moved) child (sym first_end ∙ made)

pub add-requires-clause-some : goal.add-requires-clause-some
add-requires-clause-some c =
    let same = c.in_ok-low.ensures.weight in
    let some = c.in_ok-keys.ensures.some in
    omega (arith, same, some)

pub add-requires-clause-room : goal.add-requires-clause-room
add-requires-clause-room c =
    let well = subst IsWellFormed c.p.view_is c.p.invariant in
    let within = subst (λ (lim : Bounds). IsWithin lim.fuel lim.tasks) c.lim.view_is c.lim.invariant in
    let r = c.requires in
    let s = r.4 in
    let moved = c.in_ok-keys.ensures.moved in
    let first_end : c.in_ok-keys.keys.end ≡ r.2 =
    ap (λ (x : State × End). x.1) moved ∙ end_is c.args.p.now c.args.lim well c.args.marks.now r.0 r.1 c.args.mv r.2 r.3 c.args.self.now s in
    has_room c.args.p.now c.args.lim well c.args.marks.now r.0 r.1 c.args.mv r.2 r.3 c.args.self.now s c.in_ok-keys.keys c.note.new.keys c.note.new.self c.take.new.st
    (ap (λ (x : State × End). x.0) moved) first_end (c.in_ok-keys.ensures.keys s.tree s.records) c.in_ok-low.ensures.weight c.in_ok-low.ensures.room c.in_ok-low.low c.in_ok-low.ensures.noted within

pub returns : goal.returns
returns c = λ rows before end rest s.
    let well = subst IsWellFormed c.p.view_is c.p.invariant in
    let moved = c.in_ok-keys.ensures.moved in
    let last = c.note.new.keys in
    let first_end : c.in_ok-keys.keys.end ≡ end =
    ap (λ (x : State × End). x.1) moved ∙ end_is c.args.p.now c.args.lim well c.args.marks.now rows before c.args.mv end rest c.args.self.now s in
    let next : Spanning = record { st = c.take.new.st; recorder = c.take.new.self; freeing = c.note.new.self; notes = c.note_entry.new.self; chains = c.add.new.self } in
    let notes : c.note_entry.new.self ≡ noted c.args.self.now.notes end c.in_ok-low.low =
    c.in_ok-note_entry.ensures ∙ ap (λ (e : End). noted c.args.self.now.notes e c.in_ok-low.low) (c.in_ok-low.ensures.end ∙ first_end) in
    let node : record { weight = last.weight; asks = c.as_slice.result.now; gives = c.as_slice-2.result.now } ≡ node_with last =
    λ i. record { weight = last.weight; asks = c.as_slice.ensures i; gives = c.as_slice-2.ensures i } in
    spans_back c.args.p.now c.args.lim well c.args.marks.now rows before c.args.mv end rest c.args.self.now s c.add.result c.in_ok-keys.keys last c.note.new.self c.take.new.st
    (ap (λ (x : State × End). x.0) moved) first_end (c.in_ok-keys.ensures.keys s.tree s.records) c.in_ok-low.ensures.weight c.in_ok-low.ensures.room c.in_ok-low.low c.in_ok-low.ensures.noted
    next refl refl notes (c.in_ok-keys.ensures.records s.tree s.records)
    (subst (λ (n : Node). OnOk c.add.result (FrontHolds (s.nodes ++ n ∷ []) c.add.new.self)) node (c.add.ensures s.nodes s.front))
