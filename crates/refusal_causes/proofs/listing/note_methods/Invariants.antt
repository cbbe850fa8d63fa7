use Rattle.std.proofs.Common.{take}
use Rattle.std.specs.List.{All}
use Rattle.twe_base.specs.declared.place.Place.{Place}
use Rattle.effect_check.specs.declared.rule.ERule.TheVariants.{E8}
use Rattle.refusal_causes.specs.inner.Found.{Grows, IsUnlisted}
use Rattle.refusal_causes.specs.inner.Keeping.{KeepsThere}
use Rattle.refusal_causes.proofs.listing.note_methods.Given as goal

-- what is found stays, and no method so far fails what is not listed
abbrev pub invariant-loop-method : goal.invariant-loop-method
invariant-loop-method l = record {
  grows : Grows l.p l.fn.found l.found;
  kept : (place : Place) → IsUnlisted l.found E8 place → All (KeepsThere l.p E8 place) (take l.method-index l.method-items);
}
