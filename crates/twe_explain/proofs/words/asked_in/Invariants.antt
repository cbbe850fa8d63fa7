use Rattle.std.proofs.Common.{◌≡◌, drop}
use Rattle.std.specs.List.{fold}
use Rattle.twe_explain.specs.Words.{asked_first, word_taken}
use Rattle.twe_explain.proofs.words.asked_in.Given as goal

-- what the words so far ask for, with those that are left
abbrev pub invariant-loop-word : goal.invariant-loop-word
invariant-loop-word l = fold word_taken l.asked (drop l.word-index l.words) ≡ fold word_taken asked_first l.words
