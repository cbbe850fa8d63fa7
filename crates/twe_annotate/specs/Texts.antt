-- The lines of the matrix.
use Rattle.std.specs.Prelude.{ℕ, Bool, true, false, List, [], ◌∷◌, ◌++◌, ◌==◌, length, suc, Option, None, Some, slice_get, codes, if◌then◌else◌}
use Rattle.std.specs.Fmt.{signed_decimal}
use Rattle.effect_sets.specs.declared.effects.Summary.{Summary}
use Rattle.twe_ast.specs.declared.name.Name as written
use Rattle.twe_ast.specs.declared.item.Decl as declared
use Rattle.twe_ast.specs.declared.item.Item.{Item}
use Rattle.twe_ast.specs.declared.item.Item.TheVariants.{Regions, Cell, Method, Task}
use Rattle.twe_program.specs.declared.program.Decl.{Decl}
use Rattle.twe_frontend.specs.meaning.PathTexts.{parameter_at, starred_path_text}
use Rattle.effect_meeting.specs.declared.equality.Term.{Term}
use Rattle.effect_meeting.specs.declared.equality.Term.TheVariants.{Literal, First, Second}
use Rattle.effect_meeting.specs.declared.equality.Equality.{Equality}
use Rattle.effect_meeting.specs.declared.all_meetings.Meeting.{Meeting}
use Rattle.effect_meeting.specs.MeetingsOf.{meetings_of}

-- a literal, a parameter of the first declaration, or one of the second, with a prime after its name
abbrev pub term_text : List written.Name → List written.Name → Term → List ℕ
term_text first second (Literal i) = signed_decimal i
term_text first second (First k) = parameter_at first k
term_text first second (Second k) = parameter_at second k ++ codes "'"

-- `i = j'`
abbrev pub equality_text : List written.Name → List written.Name → Equality → List ℕ
equality_text first second e = term_text first second e.left ++ (codes " = " ++ term_text first second e.right)

-- the equalities, each after ` and `
abbrev pub more_equalities : List written.Name → List written.Name → List Equality → List ℕ
more_equalities first second [] = []
more_equalities first second (e ∷ es) = codes " and " ++ (equality_text first second e ++ more_equalities first second es)

-- the equalities, with ` and ` between them
abbrev pub equalities_text : List written.Name → List written.Name → List Equality → List ℕ
equalities_text first second [] = []
equalities_text first second (e ∷ es) = equality_text first second e ++ more_equalities first second es

-- the meetings, each after ` or `
abbrev pub more_meetings : List written.Name → List written.Name → List Meeting → List ℕ
more_meetings first second [] = []
more_meetings first second (m ∷ ms) = codes " or " ++ (equalities_text first second m.equalities ++ more_meetings first second ms)

-- the meetings, with ` or ` between them
abbrev pub meetings_text : List written.Name → List written.Name → List Meeting → List ℕ
meetings_text first second [] = []
meetings_text first second (m ∷ ms) = equalities_text first second m.equalities ++ more_meetings first second ms

-- there are no equalities
abbrev pub holds_always : List Equality → Bool
holds_always [] = true
holds_always (e ∷ es) = false

-- how many meetings stand before the first that has no equalities
abbrev pub always_place : List Meeting → ℕ
always_place [] = 0
always_place (m ∷ ms) = if holds_always m.equalities then 0 else suc (always_place ms)

-- the first meeting that has no equalities
abbrev pub first_always : List Meeting → Option Meeting
first_always meetings = slice_get meetings (always_place meetings)

-- `interfere on A:*`: the path of a meeting that has no equalities
abbrev pub always_text : List (List ℕ) → List written.Name → Meeting → List ℕ
always_text regions first meeting = codes "interfere on " ++ starred_path_text regions first meeting.path

-- `apart unless i = j'`
abbrev pub unless_text : List written.Name → List written.Name → List Meeting → List ℕ
unless_text first second meetings = codes "apart unless " ++ meetings_text first second meetings

-- where there are meetings, they are written; if one has no equalities, its path is
abbrev pub meeting_text : List (List ℕ) → List written.Name → List written.Name → List Meeting → Option Meeting → List ℕ
meeting_text regions first second meetings None = unless_text first second meetings
meeting_text regions first second meetings (Some m) = always_text regions first m

-- `apart`, if there is none
abbrev pub verdict_text : List (List ℕ) → List written.Name → List written.Name → List Meeting → List ℕ
verdict_text regions first second meetings =
    if length meetings == 0
    then codes "apart"
    else meeting_text regions first second meetings (first_always meetings)

-- `put get: apart unless i = j'`
abbrev pub pair_line : List (List ℕ) → declared.Decl → Summary → declared.Decl → Summary → List ℕ
pair_line regions first its second other =
    first.name.text ++ (codes " " ++ (second.name.text ++ (codes ": "
    ++ (verdict_text regions first.params second.params (meetings_of its.effects other.effects) ++ 10 ∷ []))))

-- a line for the task with each of these tasks, in the order of the declarations
abbrev pub row_lines : List (List ℕ) → declared.Decl → Summary → List Item → List Decl → List ℕ
row_lines regions first its [] tasks = []
row_lines regions first its (Regions names ∷ items) tasks = row_lines regions first its items tasks
row_lines regions first its (Cell cell ∷ items) tasks = row_lines regions first its items tasks
row_lines regions first its (Method decl ∷ items) tasks = row_lines regions first its items tasks
row_lines regions first its (Task deterministic decl ∷ items) [] = row_lines regions first its items []
row_lines regions first its (Task deterministic decl ∷ items) (task ∷ tasks) =
    pair_line regions first its decl task.summary ++ row_lines regions first its items tasks

-- the lines of each task with itself and with those after it
abbrev pub matrix_lines : List (List ℕ) → List Item → List Decl → List ℕ
matrix_lines regions [] tasks = []
matrix_lines regions (Regions names ∷ items) tasks = matrix_lines regions items tasks
matrix_lines regions (Cell cell ∷ items) tasks = matrix_lines regions items tasks
matrix_lines regions (Method decl ∷ items) tasks = matrix_lines regions items tasks
matrix_lines regions (Task deterministic decl ∷ items) [] = matrix_lines regions items []
matrix_lines regions (Task deterministic decl ∷ items) (task ∷ tasks) =
    row_lines regions decl task.summary (Task deterministic decl ∷ items) (task ∷ tasks) ++ matrix_lines regions items tasks

-- the usage line of `twe_annotate`
abbrev pub annotate_usage_text : List ℕ
annotate_usage_text = codes "usage: twe_annotate matrix | write | compare [NAME]" ++ 10 ∷ []
