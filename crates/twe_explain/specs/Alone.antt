-- The texts that are asked for by one word.
use Rattle.twe_report.specs.Texts.{line}
use Rattle.std.specs.Prelude.{ℕ, List, [], ◌∷◌, ◌++◌, Option, None, Some, codes, bytes_eq, if◌then◌else◌}

-- how the program is called, for a text or a journal, for a run, and for a text by itself
abbrev pub call_of_text : List ℕ
call_of_text = codes "usage: twe_explain [--name FILE] [--lines] [--all] < TEXT\n"

abbrev pub call_of_run : List ℕ
call_of_run = codes "       twe_explain --run [--fuel N] [--tasks N] [--name FILE] [--lines] [--all] < TEXT\n"

abbrev pub call_alone : List ℕ
call_alone = codes "       twe_explain --help | --version\n\n"

abbrev pub call_text : List ℕ
call_text = call_of_text ++ (call_of_run ++ call_alone)

-- what it does
abbrev pub purpose_text : List ℕ
purpose_text =
    codes "Says why a TWEJava program is refused: the answer of twe check, the lines of the\n"
    ++ codes "text with a caret under the place, and what the rule asks.\n\n"

-- the words for a text
abbrev pub name_option : List ℕ
name_option = codes "  --name FILE  the name of the text; it is shown before places\n"

abbrev pub lines_option : List ℕ
lines_option = codes "  --lines      each note in one line, FILE:LINE:COLUMN: TEXT, for editors\n"

abbrev pub all_option : List ℕ
all_option = codes "  --all        each rule on effects that fails, at each place where it does\n"

-- the words for a run
abbrev pub run_options : List ℕ
run_options =
    codes "  --run        runs the text, and says why the run goes no further\n"
    ++ (codes "  --fuel N     with --run: how much fuel each task has, from 0 to 100000000\n"
    ++ codes "  --tasks N    with --run: how many tasks may be made, from 1 to 100000\n")

-- the words that stand alone, and the status
abbrev pub alone_text : List ℕ
alone_text =
    codes "  --help       this text\n  --version    the version\n\n"
    ++ codes "The status is that of twe check: 0 if the text is accepted, 1 if it is refused.\n"

-- the status if there is a journal, and if the text is run
abbrev pub journal_status : List ℕ
journal_status = codes "If a line %% and a journal come after the text, it is that of twe replay.\n"

abbrev pub run_status : List ℕ
run_status = codes "With --run it is that of twe run without workers.\n"

abbrev pub replay_text : List ℕ
replay_text = journal_status ++ run_status

-- what the program does, and its words
unfoldable pub help_text : List ℕ
help_text =
    call_text ++ (purpose_text ++ (name_option ++ (lines_option ++ (all_option ++ (run_options ++ (alone_text ++ replay_text))))))

-- the version of the program
abbrev pub version_text : List ℕ
version_text = codes "twe_explain 0.1\n"

-- `--help` and `--version` ask for a text
abbrev pub text_of_word : List ℕ → Option (List ℕ)
text_of_word word =
    if bytes_eq word (codes "--help") then Some help_text
    else if bytes_eq word (codes "--version") then Some version_text
    else None

-- the text that one word asks for
abbrev pub text_alone : List (List ℕ) → Option (List ℕ)
text_alone [] = None
text_alone (word ∷ []) = text_of_word word
text_alone (word ∷ next ∷ others) = None

-- the usage line
abbrev pub explain_usage_text : List ℕ
explain_usage_text =
    line (codes "usage: twe_explain [--name FILE] [--lines] [--all] [--run [--fuel N] [--tasks N]] | --help | --version")
