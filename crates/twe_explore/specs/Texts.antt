-- The lines that are written.
use Rattle.std.specs.Prelude.{◌+◌, ◌==◌, ℕ, Bool, List, [], ◌∷◌, ◌++◌, length, codes, decimal, if◌then◌else◌}
use Rattle.twe_io.specs.declared.answer.Answer.{Answer}
use Rattle.twe_io.specs.Codes.{code_of}
use Rattle.twe_report.specs.Texts.{line}

-- the usage line
abbrev pub explore_usage_text : List ℕ
explore_usage_text = line (codes "usage: twe_explore [--states N] [--fuel N] [--tasks N] [--journal K | --json]")

-- `1 result`, or `3 results`
abbrev pub count_text : ℕ → List ℕ
count_text results = if results == 1 then codes "1 result" else decimal results ++ codes " results"

-- whether all runs were looked at, and if so, whether each gives the same
abbrev pub extent_text : Bool → ℕ → List ℕ
extent_text whole results =
    if whole then (if results == 1 then codes ", all: every run gives this" else codes ", all") else codes ", not all"

-- `3 results on 12 states, all`
abbrev pub extent_line : ℕ → ℕ → Bool → List ℕ
extent_line results states whole =
    line (count_text results ++ (codes " on " ++ (decimal states ++ (codes " states" ++ extent_text whole results))))

-- `result 1: status 0`, and below it what `twe run` would write, on out and then on err
abbrev pub result_part : ℕ → Answer → List ℕ
result_part number answer =
    line (codes "result " ++ (decimal number ++ (codes ": status " ++ decimal (code_of answer.status))))
    ++ (answer.out ++ answer.err)

-- the results from this number on
abbrev pub result_parts : ℕ → List Answer → List ℕ
result_parts number [] = []
result_parts number (answer ∷ answers) = result_part number answer ++ result_parts (number + 1) answers

-- all of it
abbrev pub results_text : ℕ → Bool → List Answer → List ℕ
results_text states whole answers = extent_line (length answers) states whole ++ result_parts 1 answers

-- there are fewer results than the one whose journal is wanted
abbrev pub no_result_text : ℕ → List ℕ
no_result_text number = line (codes "no result: " ++ decimal number)
