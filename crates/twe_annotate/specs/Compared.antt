-- The answer that has the lines on declared summaries which are wider than what is needed.
use Rattle.std.specs.Prelude.{ℕ, List, [], ◌∷◌, ◌++◌, codes}
use Rattle.twe_io.specs.declared.answer.Answer.{Answer}
use Rattle.twe_io.specs.declared.status.Status.{Status}
use Rattle.twe_io.specs.declared.status.Status.TheVariants.{Done, TooMany}
use Rattle.summary_comparing.specs.declared.lines.CompareLines.{CompareLines}

-- the status: none needs too many effects, or some declaration does
abbrev pub compare_status : List ℕ → Status
compare_status [] = Done
compare_status (byte ∷ bytes) = TooMany

-- the lines of wider summaries on out, and those of declarations that need too many effects on err
abbrev pub compare_answer : CompareLines → Answer
compare_answer lines = record { status = compare_status lines.many; out = lines.wider; err = lines.many }

-- no method and no task has the name
abbrev pub unknown_text : List ℕ → List ℕ
unknown_text name = codes "no method or task: " ++ (name ++ 10 ∷ [])
