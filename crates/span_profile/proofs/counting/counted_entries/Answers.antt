use Rattle.std.proofs.Common.{◌∙◌, sym}
use Rattle.span_profile.proofs.CountedParts.{fault_count, none_count}
use Rattle.span_profile.proofs.counting.counted_entries.Goals as goal

-- the first fault
pub returns-then-is_fault : goal.returns-then-is_fault
returns-then-is_fault c = fault_count c.args.journal.now c.loop-i.i _ c.loop-i.invariant c.loop-i-test.true (sym c.is_fault.ensures ∙ c.if-is_fault.true)

-- or none
pub returns : goal.returns
returns c = none_count c.args.journal.now c.loop-i.i c.loop-i.invariant c.loop-i-test.false
