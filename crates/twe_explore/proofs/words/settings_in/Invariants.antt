use Rattle.std.proofs.Common.{◌≡◌, drop}
use Rattle.std.specs.List.{fold}
use Rattle.twe_explore.specs.Words.{settings_after, no_settings}
use Rattle.twe_explore.proofs.words.settings_in.Given as goal

-- what the words so far ask for, with those that are left
abbrev pub invariant-loop-word : goal.invariant-loop-word
invariant-loop-word l = fold settings_after l.settings (drop l.word-index l.words) ≡ fold settings_after no_settings l.words
