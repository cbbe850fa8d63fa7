-- From what the parts of a call ensure to the cause of its answer.
use Rattle.std.proofs.Common.{◌≡◌, ℕ, List, Result, Ok, Err, Option, Some, IfOk}
use Rattle.twe_base.specs.declared.memory.Memory as out_of
use Rattle.twe_io.specs.declared.answer.Answer.{Answer}
use Rattle.twe_io.specs.Ends.{SourceTells, WasRead}
use Rattle.twe_report.specs.Causes.{TextCause}

-- the answer to a text that was read
pub cause_text : {W : Type 0} (asked : List (List ℕ) → Option W) (usage : List ℕ) (Due : W → List ℕ → Answer → Type 0) {S : Type 0} (tells : SourceTells S)
    (words : List (List ℕ)) (wanted : W) (before after : S) (text : List ℕ) (made : Result Answer out_of.Memory) → asked words ≡ Some wanted
    → WasRead tells before (Ok text) after → IfOk made (Due wanted text) → IfOk made (TextCause asked usage Due tells words before after)
cause_text asked usage Due tells words wanted before after text (Ok answer) is was due = TextCause.text wanted text is was due
cause_text asked usage Due tells words wanted before after text (Err memory) is was due = tt
