-- Answers to runs of one text.
use Rattle.std.specs.Prelude.{◌≡◌, Bool, List}
use Rattle.seg_journal.specs.declared.journal.Entry.{Entry}
use Rattle.twe_base.specs.Limits.{Bounds}
use Rattle.twe_io.specs.declared.answer.Answer.{Answer}
use Rattle.text_answers.specs.Answers.{with_journal}

-- The answers to two runs under these limits are the same but for their journals: both are this one, each with the journal of its
-- run after it if that was asked for.
pub record SameButForJournals (lim : Bounds) (asked also : Bool) (journal later : List Entry) (answer other : Answer)
    : Type 0 where
  pub plain : Answer
  pub one : answer ≡ with_journal asked lim journal plain
  pub second : other ≡ with_journal also lim later plain
