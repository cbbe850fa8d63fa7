-- The results as JSON: one object, on one line.
use Rattle.std.specs.Prelude.{◌≡◌, ◌++◌, ℕ, Bool, List, [], ◌∷◌, Some, codes}
use Rattle.std.specs.Str.Lossy.{utf8_lossy}
use Rattle.serde_json.specs.Data.{Data, array, boolean, number, unsigned, string, object, member, no_members}
use Rattle.serde_json.specs.Read.{read}
use Rattle.serde_json.specs.View.{items_of}
use Rattle.serde_json.specs.Written.{compact_text}
use Rattle.twe_base.specs.Limits.{Bounds}
use Rattle.flat_sched.specs.declared.ending.WholeRun.{WholeRun}
use Rattle.twe_io.specs.declared.answer.Answer.{Answer}
use Rattle.twe_io.specs.Codes.{code_of}
use Rattle.twe_report.specs.Texts.{journal_part_text}

-- A result: the status, what `twe run` would write to out and to err, and the journal that leads to it. Bytes that are no text stand for
-- themselves as far as they are UTF-8, as all that `twe run` writes is.
abbrev pub result_data : Answer → List ℕ → Data
result_data answer journal = object
    (member (codes "err") (string (utf8_lossy answer.err))
    (member (codes "journal") (string (utf8_lossy journal))
    (member (codes "out") (string (utf8_lossy answer.out))
    (member (codes "status") (number (unsigned (code_of answer.status))) no_members))))

-- the results of these runs, which have these answers
abbrev pub results_data : Bounds → List WholeRun → List Answer → List Data
results_data lim [] answers = []
results_data lim (run ∷ runs) [] = []
results_data lim (run ∷ runs) (answer ∷ answers) =
    result_data answer (journal_part_text lim run.journal) ∷ results_data lim runs answers

-- whether all runs were looked at, the results, and how many states were found
abbrev pub explored_data : Bool → List Data → ℕ → Data
explored_data whole results states = object
    (member (codes "all") (boolean whole)
    (member (codes "results") (array (items_of results))
    (member (codes "states") (number (unsigned states)) no_members)))

-- The text is this data as JSON, without spaces, and the end of a line. The JSON reads back to the data.
pub record IsJsonLine (written : Data) (text : List ℕ) : Type 0 where
  pub json : List ℕ
  pub text_is : text ≡ json ++ 10 ∷ []
  pub json_is : json ≡ compact_text written
  pub reads_back : read json ≡ Some written
