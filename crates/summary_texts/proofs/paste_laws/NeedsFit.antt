-- What a method needs names regions and parameters that are there.
use Rattle.std.proofs.Common.{◌≡◌, ◌<◌, ℕ, zero, suc, Bool, true, false, List, [], ◌∷◌, ◌++◌, map, length, Option, None, Some, if◌then◌else◌, refl}
use Rattle.std.specs.Prelude.{nat_lt, slice_get, slice_index_or}
use Rattle.std.specs.List.{AllByRecursion, Contains}
use Rattle.std.proofs.lemmas.Bool.{ltb-true}
use Rattle.region_paths.specs.declared.elements.Elem.{Elem}
use Rattle.region_paths.specs.declared.elements.Elem.TheVariants.{Name, Index, Var, AnyIndex}
use Rattle.region_paths.specs.Filled.{fill_elem}
use Rattle.twe_program.specs.declared.program.CellDecl.{CellDecl}
use Rattle.twe_program.specs.declared.program.Decl.{Decl}
use Rattle.twe_program.specs.Program.{Program}
use Rattle.twe_program.specs.WellFormed.{ElementFits}
use Rattle.twe_program.specs.Expression.{Expression, Literal, Truth, Variable, CellValue, ArrayElement, GridElement, CallValue, Negative, Negation, Binary, Arguments, argument}
use Rattle.twe_program.specs.Expression as args
use Rattle.twe_program.specs.Statement.{Statement, Block, Let, Set, SetCell, SetArray, SetGrid, If, While, Return, Print, Call, Make, Wait, Statements, no_more, statement, Arms, arm, otherwise, no_else}
use Rattle.effect_check.specs.Standing.{element_of_index, elements_of, elements_from}
use Rattle.effect_infer.specs.declared.needs.need.Need.{Need}
use Rattle.effect_infer.specs.declared.needs.need.BodyStep.{BodyStep}
use Rattle.effect_infer.specs.declared.needs.need.BodyStep.TheVariants as kinds
use Rattle.effect_infer.specs.needs.Steps.{declared_cell, steps_of, steps_of_all, steps_of_value, steps_in, steps_in_all, steps_in_one}
use Rattle.effect_infer.specs.needs.Needs.{settled_elem, IsNeed, own, called}
use Rattle.twe_base.proofs.Members.{contains-in, all-in, all-append}

-- a region of which there are so many
abbrev pub RegionFits : ℕ → Elem → Type 0
RegionFits regions (Name n) = n < regions
RegionFits regions _ = Unit {0}

abbrev pub RegionsFit : ℕ → List Elem → Type 0
RegionsFit regions elems = AllByRecursion (RegionFits regions) elems

-- an index is no region
index-fits : (regions : ℕ) (e : Expression) → RegionFits regions (element_of_index e)
index-fits regions (Literal value) = tt
index-fits regions (Truth value) = tt
index-fits regions (Variable var true) = tt
index-fits regions (Variable var false) = tt
index-fits regions (CellValue cell place) = tt
index-fits regions (ArrayElement array index place) = tt
index-fits regions (GridElement array row column place) = tt
index-fits regions (CallValue method given place) = tt
index-fits regions (Negative operand) = tt
index-fits regions (Negation operand) = tt
index-fits regions (Binary op left right place) = tt

indexes-fit : (regions : ℕ) (es : Arguments) → RegionsFit regions (elements_of es)
indexes-fit regions args.no_more = tt
indexes-fit regions (argument first others) = (index-fits regions first, indexes-fit regions others)

abbrev StepFits : ℕ → BodyStep → Type 0
StepFits regions (kinds.Touch need) = RegionsFit regions need.elems
StepFits regions (kinds.Call method given) = RegionsFit regions given

abbrev StepsFit : ℕ → List BodyStep → Type 0
StepsFit regions steps = AllByRecursion (StepFits regions) steps

module _ (regions : ℕ) (some : 0 < regions) (cells : List CellDecl) (fit : (cell : ℕ) → RegionsFit regions (elements_from (slice_get cells cell))) where
  both : (xs ys : List BodyStep) → StepsFit regions xs → StepsFit regions ys → StepsFit regions (xs ++ ys)
  both xs ys h k = all-append (StepFits regions) xs ys h k

  at-fits : (cell : ℕ) (indexes : List Elem) → RegionsFit regions indexes → RegionsFit regions (declared_cell cells cell indexes)
  at-fits cell indexes h = all-append (RegionFits regions) (elements_from (slice_get cells cell)) indexes (fit cell) h

  mutual
    expression-fits : (e : Expression) → StepsFit regions (steps_of cells e)
    expression-fits (Literal value) = tt
    expression-fits (Truth value) = tt
    expression-fits (Variable var fixed) = tt
    expression-fits (CellValue cell place) = (at-fits cell [] tt, tt)
    expression-fits (ArrayElement array index place) = (at-fits array (element_of_index index ∷ []) (index-fits regions index, tt), expression-fits index)
    expression-fits (GridElement array row column place) = (
      at-fits array (element_of_index row ∷ element_of_index column ∷ []) (index-fits regions row, (index-fits regions column, tt)),
      both (steps_of cells row) (steps_of cells column) (expression-fits row) (expression-fits column),
    )
    expression-fits (CallValue method given place) = (indexes-fit regions given, arguments-fit given)
    expression-fits (Negative operand) = expression-fits operand
    expression-fits (Negation operand) = expression-fits operand
    expression-fits (Binary op left right place) = both (steps_of cells left) (steps_of cells right) (expression-fits left) (expression-fits right)

    arguments-fit : (es : Arguments) → StepsFit regions (steps_of_all cells es)
    arguments-fit args.no_more = tt
    arguments-fit (argument first others) = both (steps_of cells first) (steps_of_all cells others) (expression-fits first) (arguments-fit others)

  value-fits : (value : Option Expression) → StepsFit regions (steps_of_value cells value)
  value-fits None = tt
  value-fits (Some value) = expression-fits value

  mutual
    statement-fits : (s : Statement) → StepsFit regions (steps_in cells s)
    statement-fits (Block point body) = statements-fit body
    statement-fits (Let point var value) = expression-fits value
    statement-fits (Set point var value) = expression-fits value
    statement-fits (SetCell point cell value place) = (at-fits cell [] tt, expression-fits value)
    statement-fits (SetArray point array index value place) = (
      at-fits array (element_of_index index ∷ []) (index-fits regions index, tt),
      both (steps_of cells index) (steps_of cells value) (expression-fits index) (expression-fits value),
    )
    statement-fits (SetGrid point array row column value place) = (
      at-fits array (element_of_index row ∷ element_of_index column ∷ []) (index-fits regions row, (index-fits regions column, tt)),
      both (steps_of cells row) (steps_of cells column ++ steps_of cells value) (expression-fits row)
          (both (steps_of cells column) (steps_of cells value) (expression-fits column) (expression-fits value)),
    )
    statement-fits (If point arms) = arms-fit arms
    statement-fits (While point condition body place) = both (steps_of cells condition) (steps_in_all cells body) (expression-fits condition) (statements-fit body)
    statement-fits (Return point value) = value-fits value
    statement-fits (Print point value place) = ((some, tt), expression-fits value)
    statement-fits (Call point method given place) = (indexes-fit regions given, arguments-fit given)
    statement-fits (Make point future task given spawned future_place place) = arguments-fit given
    statement-fits (Wait point future join into place) = tt

    pub statements-fit : (s : Statements) → StepsFit regions (steps_in_all cells s)
    statements-fit no_more = tt
    statements-fit (statement first others) = both (steps_in cells first) (steps_in_all cells others) (statement-fits first) (statements-fit others)

    arms-fit : (s : Arms) → StepsFit regions (steps_in_one cells s)
    arms-fit (arm condition body others) =
        both (steps_of cells condition) (steps_in_all cells body ++ steps_in_one cells others) (expression-fits condition)
        (both (steps_in_all cells body) (steps_in_one cells others) (statements-fit body) (arms-fit others))
    arms-fit (otherwise body) = statements-fit body
    arms-fit no_else = tt

-- arguments in the place of parameters
filled-fits : (regions : ℕ) (given : List Elem) (e : Elem) → RegionsFit regions given → RegionFits regions e → RegionFits regions (fill_elem given e)
filled-fits regions given (Name n) h k = k
filled-fits regions given (Index i) h k = tt
filled-fits regions given (Var k) h u = given-fits given k h
  where
    given-fits : (es : List Elem) (j : ℕ) → RegionsFit regions es → RegionFits regions (slice_index_or es j (Var k))
    given-fits [] j h = tt
    given-fits (e ∷ es) zero h = h.0
    given-fits (e ∷ es) (suc j) h = given-fits es j h.1
filled-fits regions given AnyIndex h k = tt

settled-one : (regions params : ℕ) (e : Elem) → RegionFits regions e → ElementFits regions params (settled_elem params e)
settled-one regions params (Name n) h = h
settled-one regions params (Index i) h = tt
settled-one regions params (Var k) h = by (nat_lt k params) refl
  where
    by : (b : Bool) → nat_lt k params ≡ b → ElementFits regions params (if b then Var k else AnyIndex)
    by true is = ltb-true k params is
    by false is = tt
settled-one regions params AnyIndex h = tt

-- each element as the method says it
settled-fits : (regions params : ℕ) (es : List Elem) → RegionsFit regions es → AllByRecursion (ElementFits regions params) (map (settled_elem params) es)
settled-fits regions params [] h = tt
settled-fits regions params (e ∷ es) h = (settled-one regions params e h.0, settled-fits regions params es h.1)

all-filled : (regions : ℕ) (given es : List Elem) → RegionsFit regions given → RegionsFit regions es → RegionsFit regions (map (fill_elem given) es)
all-filled regions given [] h k = tt
all-filled regions given (e ∷ es) h k = (filled-fits regions given e h k.0, all-filled regions given es h k.1)

-- what fits names regions that are there
region-part : (regions params : ℕ) (e : Elem) → ElementFits regions params e → RegionFits regions e
region-part regions params (Name n) h = h
region-part regions params (Index i) h = tt
region-part regions params (Var k) h = tt
region-part regions params AnyIndex h = tt

region-parts : (regions params : ℕ) (es : List Elem) → AllByRecursion (ElementFits regions params) es → RegionsFit regions es
region-parts regions params [] h = tt
region-parts regions params (e ∷ es) h = (region-part regions params e h.0, region-parts regions params es h.1)

-- the elements of a need name regions, and parameters of its method, that are there
pub record NeedFits (p : Program) (m : ℕ) (need : Need) : Type 0 where
  pub decl : Decl
  pub there : slice_get p.methods m ≡ Some decl
  pub elems : AllByRecursion (ElementFits (length p.regions) decl.params) need.elems

module _ (p : Program) (some : 0 < length p.regions) (fit : (cell : ℕ) → RegionsFit (length p.regions) (elements_from (slice_get p.cells cell))) where
  step-fits : (decl : Decl) (step : BodyStep) → Contains (steps_in_all p.cells decl.body.block) step → StepFits (length p.regions) step
  step-fits decl step there =
      all-in (StepFits (length p.regions)) (steps_in_all p.cells decl.body.block) (statements-fit (length p.regions) some p.cells fit decl.body.block) step
      (contains-in (steps_in_all p.cells decl.body.block) step there)

  pub need-fits : (m : ℕ) (need : Need) → IsNeed p m need → NeedFits p m need
  need-fits m need (own n decl inner has) = record {
    decl = decl;
    there = has.0;
    elems = settled-fits (length p.regions) decl.params inner.elems (step-fits decl (kinds.Touch inner) has.1);
  }
  need-fits m need (called n decl callee given inner has needed) =
      let below = need-fits callee inner needed in
      record {
        decl = decl;
        there = has.0;
        elems = settled-fits (length p.regions) decl.params (map (fill_elem given) inner.elems)
            (all-filled (length p.regions) given inner.elems (step-fits decl (kinds.Call callee given) has.1)
            (region-parts (length p.regions) below.decl.params inner.elems below.elems));
      }
