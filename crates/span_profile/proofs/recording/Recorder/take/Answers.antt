use Rattle.std.proofs.Common.{ap, ◌∙◌, refl, subst}
use Rattle.twe_program.specs.WellFormed.{IsWellFormed}
use Rattle.span_profile.specs.inner.Sets.{no_cells}
use Rattle.span_profile.specs.inner.Deeds.{asked, given}
use Rattle.span_profile.proofs.EntryRecords.{keys_shown, recorded}
use Rattle.span_profile.proofs.recording.Recorder.take.Goals as goal

pub advance-requires-clause-reads : goal.advance-requires-clause-reads
advance-requires-clause-reads c = c.requires.recorder.1.reads

pub advance-requires-clause-writes : goal.advance-requires-clause-writes
advance-requires-clause-writes c = c.requires.recorder.1.writes

pub returns-clause-some : goal.returns-clause-some
returns-clause-some c =
    let well = subst IsWellFormed c.p.view_is c.p.invariant in
    (recorded c.args.p.now c.args.lim well c.args.st.now c.requires.reached c.args.mv c.requires.legal c.in_ok-deed.deed c.advance.new.watched c.in_ok-deed.ensures.did).some

pub returns-clause-keys : goal.returns-clause-keys
returns-clause-keys c = λ tree r.
    let well = subst IsWellFormed c.p.view_is c.p.invariant in
    let places = c.args.self.now.places in
    let deed = c.in_ok-deed.deed in
    keys_shown c.args.p.now c.args.lim well c.args.st.now c.requires.reached c.args.mv c.requires.legal deed c.advance.new.watched c.in_ok-deed.ensures.did c.args.self.now tree r _ refl refl
    (c.in_ok-asks.ensures ∙ (λ i. asked places deed (c.as_slice-reads.ensures i) (c.as_slice-writes.ensures i)))
    (c.in_ok-gives.ensures ∙ (λ i. given places deed (c.as_slice-reads.ensures i) (c.as_slice-writes.ensures i)))

pub returns-clause-records : goal.returns-clause-records
returns-clause-records c = λ tree r.
    let well = subst IsWellFormed c.p.view_is c.p.invariant in
    let did = recorded c.args.p.now c.args.lim well c.args.st.now c.requires.reached c.args.mv c.requires.legal c.in_ok-deed.deed c.advance.new.watched c.in_ok-deed.ensures.did in
    record { places = r.places; numbers = r.numbers; reads = c.clear.ensures ∙ ap no_cells did.reads; writes = c.clear-2.ensures ∙ ap no_cells did.writes }
