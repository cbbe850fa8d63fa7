-- The record is looked for from the last one on.
use Rattle.std.proofs.Common.{◌≡◌, ◌≢◌, ◌-◌, ◌<◌, Some, length, refl, sym, ap, ◌∙◌, ⊎_elim, arith}
use Rattle.std.specs.Prelude.{slice_get}
use Rattle.std.proofs.lemmas.Bool.{cases_eq}
use Rattle.std.proofs.lemmas.Bool.Decides.{not_from_Decides}
use Rattle.std.proofs.lemmas.Option.{slice_get_past, slice_get_read}
use Rattle.floor_laws.specs.admission.admission_core.States.{Record}
use Rattle.floor_laws.proofs.rule.Puts.{none_some, some_one}
use Rattle.floor_laws.specs.table.nodes.Without.{same_record}
use Rattle.floor_laws.proofs.table.nodes.Contents.{place_in}
use Rattle.floor_laws.proofs.table.nodes.Withouts.{record_decided}
use Rattle.floor_laws.proofs.table.nodes.content.place_of.Goals as goal

pub loop-at-init : goal.loop-at-init
loop-at-init c = record {
  within = omega arith;
  none = λ k past is. none_some (sym (slice_get_past c.args.records.now k past) ∙ is);
}

pub loop-at-preserved : goal.loop-at-preserved
loop-at-preserved c =
    let r : Record = record { task = c.args.task; effect = c.args.effect.now; node = c.args.node } in
    let l = c.args.records.now in
    let here = c.loop-at.at - 1 in
    let found : Record = c.index-records-at.result in
    let low = c.loop-at.invariant.within in
    let within : here < length l = omega (arith, low, c.loop-at-test.true) in
    let there : slice_get l here ≡ Some found = slice_get_read l (length l) here found refl within c.index-records-at.is in
    let other : found ≢ r = not_from_Decides (same_record found r) (record_decided found r) (sym c.is_of.ensures ∙ c.if-is_of.false) in
    record {
      within = omega (arith, within);
      none = λ k from is.
          ⊎_elim (λ (same : k ≡ here). other (some_one (sym there ∙ (ap (slice_get l) (sym same) ∙ is))))
          (λ (apart : k ≢ here). c.loop-at.invariant.none k (omega (arith, apart, from)) is) (cases_eq k here);
    }

pub returns-then-is_of-clause-there : goal.returns-then-is_of-clause-there
returns-then-is_of-clause-there c =
    let r : Record = record { task = c.args.task; effect = c.args.effect.now; node = c.args.node } in
    let l = c.args.records.now in
    let at = c.loop-at.at - 1 in
    let found : Record = c.index-records-at.result in
    let low = c.loop-at.invariant.within in
    let within : at < length l = omega (arith, low, c.loop-at-test.true) in
    let same : found ≡ r = (record_decided found r).0 (sym c.is_of.ensures ∙ c.if-is_of.true) in
    (within, slice_get_read l (length l) at found refl within c.index-records-at.is ∙ ap (λ (x : Record). Some x) same)

pub returns-clause-none : goal.returns-clause-none
returns-clause-none c = λ none among.
    let r : Record = record { task = c.args.task; effect = c.args.effect.now; node = c.args.node } in
    let place = place_in r c.args.records.now among in
    c.loop-at.invariant.none place.0 (omega (arith, c.loop-at-test.false)) place.1
