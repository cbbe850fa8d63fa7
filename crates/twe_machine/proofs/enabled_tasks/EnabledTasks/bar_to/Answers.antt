-- Writes may be in the way of each effect, and reads of writes alone.
use Rattle.std.proofs.Common.{◌≡◌, true, inl, inr, sym, ◌∙◌}
use Rattle.std.proofs.lemmas.Bool.{cases_Bool, false≢true, or_cases}
use Rattle.region_paths.specs.Filled.{solid_prefix}
use Rattle.twe_machine.proofs.listing.Books.{none_then}
use Rattle.twe_machine.proofs.listing.InWay.{way_by}
use Rattle.twe_machine.proofs.enabled_tasks.EnabledTasks.bar_to.Goals as goal

pub returns-then-effect-clause-none : goal.returns-then-effect-clause-none
returns-then-effect-clause-none c =
    let path = c.args.effect.now.path in
    let is = c.as_slice-elems.ensures ∙ c.elems.ensures.part in
    none_then c.bar-then-effect.result
    (λ pass s e entered int.
    let way = way_by e.path path c.as_slice-elems.result.now c.star-star.result is c.star-star.ensures.part int.1 in
    elim (cases_Bool e.write) [
      | inl write ↦ c.in_default.ensures.none s (solid_prefix e.path) (entered.writes write) way
      | inr read ↦ pass s (solid_prefix e.path) (entered.reads read) way
    ])
    c.bar-then-effect.ensures.none

pub returns-else-effect-clause-none : goal.returns-else-effect-clause-none
returns-else-effect-clause-none c = λ s e entered int.
    let path = c.args.effect.now.path in
    let is = c.as_slice-elems.ensures ∙ c.elems.ensures.part in
    let way = way_by e.path path c.as_slice-elems.result.now c.star-star.result is c.star-star.ensures.part int.1 in
    let write : e.write ≡ true = elim (or_cases e.write c.args.effect.now.write int.0) [ inl own ↦ own | inr other ↦ absurd (false≢true (sym c.if-effect.false ∙ other)) ] in
    c.in_default.ensures.none s (solid_prefix e.path) (entered.writes write) way
