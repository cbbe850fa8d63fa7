-- The steps of a body are what the rules on effects see in it, with the effects of called methods left out.
use Rattle.std.proofs.Common.{◌≡◌, ◌⊎◌, ℕ, Bool, true, false, List, [], ◌∷◌, ◌++◌, map, Option, None, Some, inl, inr, refl, sym, ap, ◌∙◌, subst, append_assoc}
use Rattle.std.proofs.lemmas.List.{map-append}
use Rattle.std.specs.Prelude.{slice_get, ◌&&◌}
use Rattle.twe_base.specs.declared.place.Place.{Place}
use Rattle.region_paths.specs.declared.elements.Elem.{Elem}
use Rattle.region_paths.specs.declared.elements.Elem.TheVariants as elements
use Rattle.effect_sets.specs.declared.effects.Effect.{Effect}
use Rattle.effect_sets.specs.declared.effects.Summary.{Summary}
use Rattle.twe_program.specs.declared.program.CellDecl.{CellDecl}
use Rattle.twe_program.specs.Program.{Program}
use Rattle.twe_program.specs.Expression.{Expression, Literal, Truth, Variable, CellValue, ArrayElement, GridElement, CallValue, Negative, Negation, Binary, Arguments, argument}
use Rattle.twe_program.specs.Expression as args
use Rattle.twe_program.specs.Statement.{Statement, Block, Let, Set, SetCell, SetArray, SetGrid, If, While, Return, Print, Call, Make, Wait, Statements, no_more, statement, Arms, arm, otherwise, no_else}
use Rattle.effect_check.specs.declared.act.Act.{Act}
use Rattle.effect_check.specs.declared.act.ActKind.{ActKind}
use Rattle.effect_check.specs.declared.act.ActKind.TheVariants as acts
use Rattle.effect_check.specs.Standing.{element_of_index, elements_of, path_at, console_element}
use Rattle.effect_check.specs.Acts.{filled_summary, acts_of, acts_of_all, acts_of_value, acts_in, acts_in_all, acts_in_one}
use Rattle.effect_check.specs.Acts as done
use Rattle.effect_infer.specs.declared.needs.need.BodyStep.{BodyStep}
use Rattle.effect_infer.specs.declared.needs.need.BodyStep.TheVariants as steps
use Rattle.effect_infer.specs.needs.Steps.{declared_cell, touch_step, call_step, print, steps_of, steps_of_all, steps_of_value, steps_in, steps_in_all, steps_in_one}
use Rattle.effect_infer.specs.needs.Needs.{effect_of}
use Rattle.twe_base.proofs.Members.{IsIn, in-left, in-right, in-cases, both-true, true-both}
use Rattle.effect_infer.proofs.needs.Within.{is_index, are_indexes}

-- what the rule on methods sees of an act: an effect, or the effects of a called method
pub data Seen : Type 0 where
  touched : (effect : Effect) → Seen
  called : (effects : Summary) → Seen

-- it sees nothing of the making of tasks
abbrev pub seen_of : ActKind → List Seen
seen_of (acts.Touch effect place) = touched effect ∷ []
seen_of (acts.Call effects place) = called effects ∷ []
seen_of (acts.Make future spawned deterministic effects future_place place) = []
seen_of (acts.Wait future join place) = []

abbrev pub seen : List Act → List Seen
seen [] = []
seen (a ∷ others) = seen_of a.kind ++ seen others

-- a step, with the effects that the program's summaries give to called methods
abbrev pub shown : Program → BodyStep → Seen
shown q (steps.Touch need) = touched (effect_of need)
shown q (steps.Call method args) = called (filled_summary (slice_get q.methods method) args)

seen-append : (xs ys : List Act) → seen (xs ++ ys) ≡ seen xs ++ seen ys
seen-append [] ys = refl
seen-append (x ∷ xs) ys = ap (λ (zs : List Seen). seen_of x.kind ++ zs) (seen-append xs ys) ∙ sym (append_assoc (seen_of x.kind) (seen xs) (seen ys))

-- two parts, each of which is seen as its steps
joined : (q : Program) (xs ys : List Act) (us vs : List BodyStep) → seen xs ≡ map (shown q) us → seen ys ≡ map (shown q) vs → seen (xs ++ ys) ≡ map (shown q) (us ++ vs)
joined q xs ys us vs e f =
    seen-append xs ys ∙ ap (λ (zs : List Seen). zs ++ seen ys) e ∙ ap (λ (zs : List Seen). map (shown q) us ++ zs) f ∙ sym (map-append (shown q) us vs)

after : (s : Seen) (xs ys : List Seen) → xs ≡ ys → ◌≡◌ {A = List Seen} (s ∷ xs) (s ∷ ys)
after s xs ys e = ap (λ (zs : List Seen). s ∷ zs) e

mutual
  seen-expression : (q : Program) (point : ℕ) (e : Expression) → seen (acts_of q point e) ≡ map (shown q) (steps_of q.cells e)
  seen-expression q point (Literal value) = refl
  seen-expression q point (Truth value) = refl
  seen-expression q point (Variable var fixed) = refl
  seen-expression q point (CellValue cell place) = refl
  seen-expression q point (ArrayElement array index place) = after _ _ _ (seen-expression q point index)
  seen-expression q point (GridElement array row column place) =
      after _ _ _ (joined q (acts_of q point row) (acts_of q point column) (steps_of q.cells row) (steps_of q.cells column) (seen-expression q point row) (seen-expression q point column))
  seen-expression q point (CallValue method args place) = after _ _ _ (seen-arguments q point args)
  seen-expression q point (Negative operand) = seen-expression q point operand
  seen-expression q point (Negation operand) = seen-expression q point operand
  seen-expression q point (Binary op left right place) =
      joined q (acts_of q point left) (acts_of q point right) (steps_of q.cells left) (steps_of q.cells right) (seen-expression q point left) (seen-expression q point right)

  seen-arguments : (q : Program) (point : ℕ) (es : Arguments) → seen (acts_of_all q point es) ≡ map (shown q) (steps_of_all q.cells es)
  seen-arguments q point args.no_more = refl
  seen-arguments q point (argument first others) =
      joined q (acts_of q point first) (acts_of_all q point others) (steps_of q.cells first) (steps_of_all q.cells others) (seen-expression q point first) (seen-arguments q point others)

seen-value : (q : Program) (point : ℕ) (value : Option Expression) → seen (acts_of_value q point value) ≡ map (shown q) (steps_of_value q.cells value)
seen-value q point None = refl
seen-value q point (Some value) = seen-expression q point value

mutual
  pub seen-statement : (q : Program) (s : Statement) → seen (acts_in q s) ≡ map (shown q) (steps_in q.cells s)
  seen-statement q (Block point body) = seen-statements q body
  seen-statement q (Let point var value) = seen-expression q point value
  seen-statement q (Set point var value) = seen-expression q point value
  seen-statement q (SetCell point cell value place) = after _ _ _ (seen-expression q point value)
  seen-statement q (SetArray point array index value place) =
      after _ _ _ (joined q (acts_of q point index) (acts_of q point value) (steps_of q.cells index) (steps_of q.cells value) (seen-expression q point index) (seen-expression q point value))
  seen-statement q (SetGrid point array row column value place) =
      after _ _ _ (joined q (acts_of q point row) (acts_of q point column ++ acts_of q point value) (steps_of q.cells row) (steps_of q.cells column ++ steps_of q.cells value)
      (seen-expression q point row)
      (joined q (acts_of q point column) (acts_of q point value) (steps_of q.cells column) (steps_of q.cells value) (seen-expression q point column) (seen-expression q point value)))
  seen-statement q (If point arms) = seen-arms q point arms
  seen-statement q (While point condition body place) =
      joined q (acts_of q point condition) (acts_in_all q body) (steps_of q.cells condition) (steps_in_all q.cells body) (seen-expression q point condition) (seen-statements q body)
  seen-statement q (Return point value) = seen-value q point value
  seen-statement q (Print point value place) = after _ _ _ (seen-expression q point value)
  seen-statement q (Call point method args place) = after _ _ _ (seen-arguments q point args)
  seen-statement q (Make point future task args spawned future_place place) = seen-arguments q point args
  seen-statement q (Wait point future join into place) = refl

  pub seen-statements : (q : Program) (ss : Statements) → seen (acts_in_all q ss) ≡ map (shown q) (steps_in_all q.cells ss)
  seen-statements q no_more = refl
  seen-statements q (statement first others) =
      joined q (acts_in q first) (acts_in_all q others) (steps_in q.cells first) (steps_in_all q.cells others) (seen-statement q first) (seen-statements q others)

  pub seen-arms : (q : Program) (point : ℕ) (arms : Arms) → seen (acts_in_one q point arms) ≡ map (shown q) (steps_in_one q.cells arms)
  seen-arms q point (arm condition body others) =
      joined q (acts_of q point condition) (acts_in_all q body ++ acts_in_one q point others) (steps_of q.cells condition) (steps_in_all q.cells body ++ steps_in_one q.cells others)
      (seen-expression q point condition)
      (joined q (acts_in_all q body) (acts_in_one q point others) (steps_in_all q.cells body) (steps_in_one q.cells others) (seen-statements q body) (seen-arms q point others))
  seen-arms q point (otherwise body) = seen-statements q body
  seen-arms q point no_else = refl

-- the arguments of each call are indexes
abbrev pub is_regular : BodyStep → Bool
is_regular (steps.Touch need) = true
is_regular (steps.Call method args) = are_indexes args

abbrev pub regular : List BodyStep → Bool
regular [] = true
regular (s ∷ others) = is_regular s && regular others

regular-append : (xs ys : List BodyStep) → regular xs ≡ true → regular ys ≡ true → regular (xs ++ ys) ≡ true
regular-append [] ys h k = k
regular-append (x ∷ xs) ys h k =
    let parts = both-true (is_regular x) (regular xs) h in
    true-both (is_regular x) (regular (xs ++ ys)) parts.0 (regular-append xs ys parts.1 k)

element-index : (e : Expression) → is_index (element_of_index e) ≡ true
element-index (Literal value) = refl
element-index (Truth value) = refl
element-index (Variable var true) = refl
element-index (Variable var false) = refl
element-index (CellValue cell place) = refl
element-index (ArrayElement array index place) = refl
element-index (GridElement array row column place) = refl
element-index (CallValue method args place) = refl
element-index (Negative operand) = refl
element-index (Negation operand) = refl
element-index (Binary op left right place) = refl

pub elements-indexes : (es : Arguments) → are_indexes (elements_of es) ≡ true
elements-indexes args.no_more = refl
elements-indexes (argument first others) = true-both (is_index (element_of_index first)) (are_indexes (elements_of others)) (element-index first) (elements-indexes others)

call-regular : (method : ℕ) (es : Arguments) (steps : List BodyStep) → regular steps ≡ true → regular (call_step method es ∷ steps) ≡ true
call-regular method es steps h = true-both (are_indexes (elements_of es)) (regular steps) (elements-indexes es) h

mutual
  regular-expression : (cells : List CellDecl) (e : Expression) → regular (steps_of cells e) ≡ true
  regular-expression cells (Literal value) = refl
  regular-expression cells (Truth value) = refl
  regular-expression cells (Variable var fixed) = refl
  regular-expression cells (CellValue cell place) = refl
  regular-expression cells (ArrayElement array index place) = regular-expression cells index
  regular-expression cells (GridElement array row column place) =
      regular-append (steps_of cells row) (steps_of cells column) (regular-expression cells row) (regular-expression cells column)
  regular-expression cells (CallValue method args place) = call-regular method args (steps_of_all cells args) (regular-arguments cells args)
  regular-expression cells (Negative operand) = regular-expression cells operand
  regular-expression cells (Negation operand) = regular-expression cells operand
  regular-expression cells (Binary op left right place) =
      regular-append (steps_of cells left) (steps_of cells right) (regular-expression cells left) (regular-expression cells right)

  regular-arguments : (cells : List CellDecl) (es : Arguments) → regular (steps_of_all cells es) ≡ true
  regular-arguments cells args.no_more = refl
  regular-arguments cells (argument first others) =
      regular-append (steps_of cells first) (steps_of_all cells others) (regular-expression cells first) (regular-arguments cells others)

regular-value : (cells : List CellDecl) (value : Option Expression) → regular (steps_of_value cells value) ≡ true
regular-value cells None = refl
regular-value cells (Some value) = regular-expression cells value

mutual
  pub regular-statement : (cells : List CellDecl) (s : Statement) → regular (steps_in cells s) ≡ true
  regular-statement cells (Block point body) = regular-statements cells body
  regular-statement cells (Let point var value) = regular-expression cells value
  regular-statement cells (Set point var value) = regular-expression cells value
  regular-statement cells (SetCell point cell value place) = regular-expression cells value
  regular-statement cells (SetArray point array index value place) =
      regular-append (steps_of cells index) (steps_of cells value) (regular-expression cells index) (regular-expression cells value)
  regular-statement cells (SetGrid point array row column value place) =
      regular-append (steps_of cells row) (steps_of cells column ++ steps_of cells value) (regular-expression cells row)
      (regular-append (steps_of cells column) (steps_of cells value) (regular-expression cells column) (regular-expression cells value))
  regular-statement cells (If point arms) = regular-arms cells arms
  regular-statement cells (While point condition body place) =
      regular-append (steps_of cells condition) (steps_in_all cells body) (regular-expression cells condition) (regular-statements cells body)
  regular-statement cells (Return point value) = regular-value cells value
  regular-statement cells (Print point value place) = regular-expression cells value
  regular-statement cells (Call point method args place) = call-regular method args (steps_of_all cells args) (regular-arguments cells args)
  regular-statement cells (Make point future task args spawned future_place place) = regular-arguments cells args
  regular-statement cells (Wait point future join into place) = refl

  pub regular-statements : (cells : List CellDecl) (ss : Statements) → regular (steps_in_all cells ss) ≡ true
  regular-statements cells no_more = refl
  regular-statements cells (statement first others) =
      regular-append (steps_in cells first) (steps_in_all cells others) (regular-statement cells first) (regular-statements cells others)

  pub regular-arms : (cells : List CellDecl) (arms : Arms) → regular (steps_in_one cells arms) ≡ true
  regular-arms cells (arm condition body others) =
      regular-append (steps_of cells condition) (steps_in_all cells body ++ steps_in_one cells others) (regular-expression cells condition)
      (regular-append (steps_in_all cells body) (steps_in_one cells others) (regular-statements cells body) (regular-arms cells others))
  regular-arms cells (otherwise body) = regular-statements cells body
  regular-arms cells no_else = refl
