-- What is said of where two effects meet.
use Rattle.std.specs.Prelude.{◌≡◌, ◌↔◌, ℕ, Bool, IsTrue, List, [], ◌∷◌, ◌++◌, Option, None, Some, codes, slice_get, if◌then◌else◌}
use Rattle.std.specs.Fmt.{signed_decimal}
use Rattle.std.specs.List.{All, flat_map}
use Rattle.twe_base.specs.declared.place.Place.{Place}
use Rattle.region_paths.specs.declared.elements.Elem.{Elem}
use Rattle.region_paths.specs.declared.elements.Elem.TheVariants.{Name, Index, Var, AnyIndex}
use Rattle.region_paths.specs.Written.{WrittenPath}
use Rattle.effect_sets.specs.declared.effects.Effect.{Effect}
use Rattle.twe_ast.specs.declared.name.Name as written
use Rattle.twe_program.specs.declared.program.CellDecl.{CellDecl}
use Rattle.twe_program.specs.declared.program.Decl.{Decl}
use Rattle.twe_program.specs.Program.{Program}
use Rattle.effect_meeting.specs.declared.cells.CellMet.{CellMet}
use Rattle.effect_meeting.specs.declared.met.Met.{Met}
use Rattle.effect_meeting.specs.declared.values.ParamValue.{ParamValue}
use Rattle.effect_meeting.specs.Always.{AlwaysInterfere, deciding_local}
use Rattle.effect_meeting.specs.Meeting.{IsWhereMet, NeverMeet}
use Rattle.effect_meeting.specs.Cells.{IsFirstMet, IsNeverMet}
use Rattle.twe_frontend.specs.meaning.PathTexts.{in_brackets, parameter_at, path_text, starred_path_text}
use Rattle.explain_pages.specs.names.Variables.{is_same_place}
use Rattle.refusal_causes.specs.declared.cause.RuleCause.{RuleCause}
use Rattle.refusal_causes.specs.declared.cause.RuleCause.TheVariants.{Undeclared, Out, NotOut, OutAgain, OrderOpen, NotDeterministic}

-- how many parameters the first of the declarations has whose name is at the place
abbrev pub params_at : List Decl → Place → ℕ
params_at [] place = 0
params_at (decl ∷ decls) place = if is_same_place decl.place place then decl.params else params_at decls place

-- which of both effects writes: the one that is needed, that of the spawned task, or both
abbrev pub writers_text : Bool → Bool → List ℕ
writers_text need other =
    if need then (if other then codes ", and both write it" else codes ", and what is needed here writes it")
    else codes ", and the spawned task writes it"

-- an index of a cell in brackets
abbrev pub cell_index_text : Elem → List ℕ
cell_index_text (Name n) = []
cell_index_text (Index i) = in_brackets (signed_decimal i)
cell_index_text (Var k) = []
cell_index_text AnyIndex = []

-- the name of a declaration of cells, if there is one
abbrev pub declared_name : Option CellDecl → List ℕ
declared_name None = []
declared_name (Some decl) = decl.name

-- `x`, `d[3]` or `g[1][2]`
abbrev pub cell_met_text : List CellDecl → CellMet → List ℕ
cell_met_text cells met = declared_name (slice_get cells met.decl) ++ flat_map cell_index_text met.indexes

-- the name of a variable between accents
abbrev pub named_text : List written.Name → ℕ → List ℕ
named_text variables number = codes "`" ++ (parameter_at variables number ++ codes "`")

-- a parameter and its value
abbrev pub given_text : List written.Name → ParamValue → List ℕ
given_text variables given = named_text variables given.param ++ (codes " is " ++ signed_decimal given.value)

-- the other parameters with their values
abbrev pub more_given_texts : List written.Name → List ParamValue → List ℕ
more_given_texts variables values = flat_map (λ given. codes " and " ++ given_text variables given) values

-- for which values of parameters, if there are any: " if `i` is 3 and `j` is 0"
abbrev pub condition_text : List written.Name → List ParamValue → List ℕ
condition_text variables [] = []
condition_text variables (given ∷ values) = codes " if " ++ (given_text variables given ++ more_given_texts variables values)

-- the names of the other parameters
abbrev pub more_named_texts : List written.Name → List ParamValue → List ℕ
more_named_texts variables values = flat_map (λ given. codes " and " ++ named_text variables given.param) values

-- that the effects meet whatever this parameter is
unfoldable pub whatever_one : List written.Name → ParamValue → List ℕ
whatever_one variables given = codes "whatever " ++ named_text variables given.param

-- the same of a parameter and of others
unfoldable pub whatever_all : List written.Name → ParamValue → List ParamValue → List ℕ
whatever_all variables given values = whatever_one variables given ++ more_named_texts variables values

-- the verb after the names of one parameter and of these
unfoldable pub verb_text : List ParamValue → List ℕ
verb_text [] = codes " is, the effects meet: "
verb_text (given ∷ values) = codes " are, the effects meet: "

-- that the effects meet for all values of a parameter and of others: "whatever `i` and `j` are, the effects meet: "
unfoldable pub all_values_of : List written.Name → ParamValue → List ParamValue → List ℕ
all_values_of variables given values = whatever_all variables given values ++ verb_text values

-- the same of these parameters, if there are any
abbrev pub all_values_text : List written.Name → List ParamValue → List ℕ
all_values_text variables [] = []
all_values_text variables (given ∷ values) = all_values_of variables given values

-- the same, if it is so
abbrev pub whatever_text : List written.Name → Bool → List ParamValue → List ℕ
whatever_text variables always values = if always then all_values_text variables values else []

-- whether the effects meet for all values, what both may touch for which values, and who writes it
abbrev pub touch_text : List written.Name → Bool → List ℕ → List ParamValue → Effect → Effect → List ℕ
touch_text variables always what values need other =
    whatever_text variables always values
    ++ (codes "both may touch " ++ (what ++ (condition_text variables values ++ writers_text need.write other.write)))

-- a path between accents
abbrev pub quoted_path : List (List ℕ) → List Elem → List ℕ
quoted_path regions elems = codes "`" ++ (path_text regions [] elems ++ codes "`")

-- a path between accents, with its variables and its star
unfoldable pub quoted_written : List (List ℕ) → List written.Name → WrittenPath → List ℕ
quoted_written regions variables path = codes "`" ++ (starred_path_text regions variables path ++ codes "`")

-- the paths of both effects: that of the spawned task, and that of what is needed
unfoldable pub both_paths_text : List (List ℕ) → List written.Name → Effect → Effect → List ℕ
both_paths_text regions variables need other =
    quoted_written regions variables other.path ++ (codes " and " ++ quoted_written regions variables need.path)

-- what the rule does not know
unfoldable pub undecided_end : List written.Name → ℕ → List ℕ
undecided_end variables local = codes " apart: it takes " ++ (named_text variables local ++ codes " as unknown")

-- the effects meet, or not, by the value of this local, which the rule does not know
abbrev pub undecided_text : List (List ℕ) → List written.Name → ℕ → Effect → Effect → List ℕ
undecided_text regions variables local need other =
    codes "the rule cannot tell " ++ (both_paths_text regions variables need other ++ undecided_end variables local)

-- the effects meet nowhere
abbrev pub nowhere_text : List ℕ
nowhere_text = codes "no place is in both: the rule compares paths index by index"

-- No local decides whether the effects meet, and this is whether they do for all values of the parameters.
pub record ParametersDecide (shared : ℕ) (need other : Effect) (always : Bool) : Type 0 where
  pub no_local : deciding_local shared need other ≡ None
  pub always_is : IsTrue always ↔ AlwaysInterfere shared need other

-- What is said of where two effects meet. Their variables have these names, and the first of them, as many as are shared, are the
-- parameters of the task.
pub data MeetingDue (regions : List (List ℕ)) (cells : List CellDecl) (variables : List written.Name) (shared : ℕ)
    (need other : Effect) : List ℕ → Type 0 where
  -- a local decides whether they meet, and they do for some values
  unknown : (local : ℕ) (met : Met) → deciding_local shared need other ≡ Some local → IsWhereMet shared need.path other.path met
      → MeetingDue regions cells variables shared need other (undecided_text regions variables local need other)
  -- the parameters decide; for these values of theirs they meet at a cell, and it is of the first declaration that has such a cell
  at_cell : (always : Bool) (met : CellMet) → ParametersDecide shared need other always
      → IsFirstMet shared need.path other.path cells met
      → MeetingDue regions cells variables shared need other
      (touch_text variables always (cell_met_text cells met) met.values need other)
  -- the parameters decide; for these values of theirs they meet at a path, and at no cell for any values
  at_path : (always : Bool) (met : Met) → ParametersDecide shared need other always
      → IsWhereMet shared need.path other.path met
      → All (IsNeverMet shared need.path other.path) cells
      → MeetingDue regions cells variables shared need other
      (touch_text variables always (quoted_path regions met.elems) met.values need other)
  -- they meet nowhere
  nowhere : NeverMeet shared need.path other.path
      → MeetingDue regions cells variables shared need other nowhere_text

-- after these remarks comes what is said of where the effects of a cause meet, if it has two, whose variables have these names
abbrev pub IsMeetingTold : Program → List written.Name → RuleCause → List (List ℕ) → List (List ℕ) → Type 0
IsMeetingTold p variables (Undeclared need declared decl_place) old new = new ≡ old
IsMeetingTold p variables (Out need other future_place way decl_place) old new =
    (remark : List ℕ) × (new ≡ old ++ remark ∷ [])
    × MeetingDue p.regions p.cells variables (params_at p.tasks decl_place) need other remark
IsMeetingTold p variables (NotOut future_place way) old new = new ≡ old
IsMeetingTold p variables (OutAgain way) old new = new ≡ old
IsMeetingTold p variables (OrderOpen makes decl_place) old new = new ≡ old
IsMeetingTold p variables (NotDeterministic decl_place) old new = new ≡ old
