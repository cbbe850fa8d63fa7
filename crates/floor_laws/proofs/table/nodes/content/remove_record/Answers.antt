-- What is taken out at its place is the record, since it is there once.
use Rattle.std.proofs.Common.{◌≡◌, List, Some, refl, sym, subst, ◌∙◌}
use Rattle.std.specs.Prelude.{slice_get}
use Rattle.floor_laws.specs.admission.admission_core.States.{IsAmong, Record}
use Rattle.floor_laws.proofs.table.nodes.Contents.{at_among, none_of, removed_is, without_none}
use Rattle.floor_laws.proofs.table.nodes.content.remove_record.Goals as goal

pub returns-in_default-clause-found : goal.returns-in_default-clause-found
returns-in_default-clause-found c =
    let r : Record = record { task = c.args.task; effect = c.args.effect.now; node = c.args.node } in
    let missing = subst (λ (l : List Record). ¬ IsAmong r l) c.as_slice.ensures.value (c.place_of.ensures.none (none_of c.place_of.result c.in_default.is)) in
    (λ is. let no = is in absurd (cc (no)), λ among. absurd (missing among))

pub returns-in_default-clause-rest : goal.returns-in_default-clause-rest
returns-in_default-clause-rest c =
    let r : Record = record { task = c.args.task; effect = c.args.effect.now; node = c.args.node } in
    let missing = subst (λ (l : List Record). ¬ IsAmong r l) c.as_slice.ensures.value (c.place_of.ensures.none (none_of c.place_of.result c.in_default.is)) in
    sym (without_none r c.args.records.now.items missing)

pub returns-clause-found : goal.returns-clause-found
returns-clause-found c =
    let r : Record = record { task = c.args.task; effect = c.args.effect.now; node = c.args.node } in
    let there = subst (λ (l : List Record). slice_get l c.in-Some.at ≡ Some r) c.as_slice.ensures.value c.in-Some.ensures.there.1 in
    (λ is. at_among r c.args.records.now.items c.in-Some.at there, λ among. refl)

pub returns-clause-rest : goal.returns-clause-rest
returns-clause-rest c =
    let r : Record = record { task = c.args.task; effect = c.args.effect.now; node = c.args.node } in
    let there = subst (λ (l : List Record). slice_get l c.in-Some.at ≡ Some r) c.as_slice.ensures.value c.in-Some.ensures.there.1 in
    c.remove.ensures.items ∙ removed_is r c.args.records.now.items c.in-Some.at c.requires there
