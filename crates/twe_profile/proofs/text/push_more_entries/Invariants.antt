use Rattle.std.proofs.Common.{◌≡◌, ◌++◌, take}
use Rattle.twe_profile.specs.Texts.{more_entries}
use Rattle.twe_profile.proofs.text.push_more_entries.Given as goal

-- the entries up to here were written
abbrev pub invariant-loop-entry : goal.invariant-loop-entry
invariant-loop-entry l = l.text ≡ l.fn.text ++ more_entries (take l.entry-index l.entries)
