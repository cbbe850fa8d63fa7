use Rattle.std.proofs.Common.{take}
use Rattle.std.specs.List.{All}
use Rattle.twe_base.specs.declared.place.Place.{Place}
use Rattle.effect_check.specs.declared.rule.ERule.TheVariants.{E8}
use Rattle.refusal_causes.specs.inner.Found.{Grows, IsUnlisted}
use Rattle.refusal_causes.specs.inner.Keeping.{IsKept}
use Rattle.refusal_causes.proofs.listing.note_method.Given as goal

-- what is found stays, and by no act so far the method fails what is not listed
abbrev pub invariant-loop-act : goal.invariant-loop-act
invariant-loop-act l = record {
  grows : Grows l.p l.fn.found l.found;
  kept : (place : Place) → IsUnlisted l.found E8 place → All (IsKept l.p E8 place l.method) (take l.act-index l.act-items);
}
