-- What a body does moves with its places.
use Rattle.twe_base.specs.declared.place.Place.{Place}
use Rattle.std.proofs.Common.{◌≡◌, ℕ, Bool, true, false, List, [], ◌∷◌, ◌++◌, map, Option, None, Some, zero, suc, refl, sym, ap, ◌∙◌}
use Rattle.std.specs.Prelude.{slice_get}
use Rattle.std.proofs.lemmas.List.{map-append}
use Rattle.region_paths.specs.declared.elements.Elem.{Elem}
use Rattle.region_paths.specs.Written.{WrittenPath}
use Rattle.effect_sets.specs.declared.effects.Summary.{Summary}
use Rattle.twe_program.specs.declared.program.CellDecl.{CellDecl}
use Rattle.twe_program.specs.declared.program.Decl.{Decl}
use Rattle.twe_program.specs.Program.{Program}
use Rattle.twe_program.specs.Expression.{Expression, Literal, Truth, Variable, CellValue, ArrayElement, GridElement, CallValue, Negative, Negation, Binary, Arguments, argument}
use Rattle.twe_program.specs.Expression as args
use Rattle.twe_program.specs.Statement.{Statement, Block, Let, Set, SetCell, SetArray, SetGrid, If, While, Return, Print, Call, Make, Wait, Statements, no_more, statement, Arms, arm, otherwise, no_else}
use Rattle.effect_check.specs.declared.act.Act.{Act}
use Rattle.effect_check.specs.declared.act.ActKind.TheVariants as kinds
use Rattle.effect_check.specs.Standing.{element_of_index, elements_of, elements_from, path_at}
use Rattle.effect_check.specs.Acts.{filled_summary, is_deterministic, touch, call, make, acts_of, acts_of_all, acts_of_value, acts_in, acts_in_all, acts_in_one}
use Rattle.moved_places.specs.MovedProgram.{moved_expression, moved_arguments, moved_value, moved_statement, moved_statements, moved_arms, moved_cell, moved_decl, moved_program}
use Rattle.moved_places.proofs.MovedActs.{moved_act}

module _ (to : Place → Place) where
  -- what the rules see of an expression has no place
  pub same_element : (e : Expression) → element_of_index (moved_expression to e) ≡ element_of_index e
  same_element (Literal value) = refl
  same_element (Truth value) = refl
  same_element (Variable var true) = refl
  same_element (Variable var false) = refl
  same_element (CellValue cell place) = refl
  same_element (ArrayElement array index place) = refl
  same_element (GridElement array row column place) = refl
  same_element (CallValue method args place) = refl
  same_element (Negative operand) = refl
  same_element (Negation operand) = refl
  same_element (Binary op left right place) = refl

  pub same_elements : (es : Arguments) → elements_of (moved_arguments to es) ≡ elements_of es
  same_elements args.no_more = refl
  same_elements (argument first others) =
      ap (λ (e : Elem). e ∷ elements_of (moved_arguments to others)) (same_element first) ∙ ap (λ (es : List Elem). element_of_index first ∷ es) (same_elements others)

  -- nor have the paths of cells and the effects of declarations
  pub same_cell : (cells : List CellDecl) (n : ℕ) → elements_from (slice_get (map (moved_cell to) cells) n) ≡ elements_from (slice_get cells n)
  same_cell [] n = refl
  same_cell (cell ∷ cells) zero = refl
  same_cell (cell ∷ cells) (suc n) = same_cell cells n

  same_effects : (decls : List Decl) (n : ℕ) (es : List Elem) → filled_summary (slice_get (map (moved_decl to) decls) n) es ≡ filled_summary (slice_get decls n) es
  same_effects [] n es = refl
  same_effects (decl ∷ decls) zero es = refl
  same_effects (decl ∷ decls) (suc n) es = same_effects decls n es

  same_determinism : (decls : List Decl) (n : ℕ) → is_deterministic (slice_get (map (moved_decl to) decls) n) ≡ is_deterministic (slice_get decls n)
  same_determinism [] n = refl
  same_determinism (decl ∷ decls) zero = refl
  same_determinism (decl ∷ decls) (suc n) = same_determinism decls n

  module _ (p : Program) where
    touched : (point : ℕ) (write : Bool) (cell : ℕ) (xs ys : List Elem) (place : Place) → xs ≡ ys
        → touch point write (path_at (moved_program to p) cell xs) (to place) ≡ moved_act to (touch point write (path_at p cell ys) place)
    touched point write cell xs ys place e =
        ap (λ (es : List Elem). let path : WrittenPath = record { elems = es ++ xs; star = false; tail = [] } in touch point write path (to place)) (same_cell p.cells cell)
        ∙ ap (λ (es : List Elem). touch point write (path_at p cell es) (to place)) e

    called : (point method : ℕ) (given : Arguments) (place : Place)
        → call (moved_program to p) point method (moved_arguments to given) (to place) ≡ moved_act to (call p point method given place)
    called point method given place =
        let with : Summary → Act = λ effects. record { point = point; kind = kinds.Call effects (to place) } in
        ap with (same_effects p.methods method (elements_of (moved_arguments to given)) ∙ ap (filled_summary (slice_get p.methods method)) (same_elements given))

    made : (point future task : ℕ) (given : Arguments) (spawned : Bool) (future_place place : Place)
        → make (moved_program to p) point future task (moved_arguments to given) spawned (to future_place) (to place)
        ≡ moved_act to (make p point future task given spawned future_place place)
    made point future task given spawned future_place place =
        let with : Bool → Summary → Act = λ deterministic effects. record {
          point = point;
          kind = kinds.Make future spawned deterministic effects (to future_place) (to place);
        } in
        ap (λ (b : Bool). with b (filled_summary (slice_get (map (moved_decl to) p.tasks) task) (elements_of (moved_arguments to given)))) (same_determinism p.tasks task)
        ∙ ap (with (is_deterministic (slice_get p.tasks task)))
        (same_effects p.tasks task (elements_of (moved_arguments to given)) ∙ ap (filled_summary (slice_get p.tasks task)) (same_elements given))

    -- an act and those after it, and two parts
    first : (a b : Act) (xs ys : List Act) → a ≡ b → xs ≡ ys → ◌≡◌ {A = List Act} (a ∷ xs) (b ∷ ys)
    first a b xs ys e f = ap (λ (c : Act). c ∷ xs) e ∙ ap (λ (zs : List Act). b ∷ zs) f

    both : (xs ys us vs : List Act) → xs ≡ map (moved_act to) us → ys ≡ map (moved_act to) vs → xs ++ ys ≡ map (moved_act to) (us ++ vs)
    both xs ys us vs e f =
        ap (λ (zs : List Act). zs ++ ys) e ∙ ap (λ (zs : List Act). map (moved_act to) us ++ zs) f ∙ sym (map-append (moved_act to) us vs)

    mutual
      of-expression : (point : ℕ) (e : Expression) → acts_of (moved_program to p) point (moved_expression to e) ≡ map (moved_act to) (acts_of p point e)
      of-expression point (Literal value) = refl
      of-expression point (Truth value) = refl
      of-expression point (Variable var fixed) = refl
      of-expression point (CellValue cell place) = first _ _ _ _ (touched point false cell [] [] place refl) refl
      of-expression point (ArrayElement array index place) =
          first _ _ _ _ (touched point false array _ _ place (ap (λ (e : Elem). e ∷ []) (same_element index))) (of-expression point index)
      of-expression point (GridElement array row column place) =
          first _ _ _ _ (touched point false array _ _ place (ap (λ (e : Elem). e ∷ element_of_index (moved_expression to column) ∷ []) (same_element row) ∙ ap (λ (e : Elem). element_of_index row ∷ e ∷ []) (same_element column)))
          (both _ _ (acts_of p point row) (acts_of p point column) (of-expression point row) (of-expression point column))
      of-expression point (CallValue method given place) = first _ _ _ _ (called point method given place) (of-arguments point given)
      of-expression point (Negative operand) = of-expression point operand
      of-expression point (Negation operand) = of-expression point operand
      of-expression point (Binary op left right place) =
          both _ _ (acts_of p point left) (acts_of p point right) (of-expression point left) (of-expression point right)

      of-arguments : (point : ℕ) (es : Arguments) → acts_of_all (moved_program to p) point (moved_arguments to es) ≡ map (moved_act to) (acts_of_all p point es)
      of-arguments point args.no_more = refl
      of-arguments point (argument one others) = both _ _ (acts_of p point one) (acts_of_all p point others) (of-expression point one) (of-arguments point others)

    of-value : (point : ℕ) (value : Option Expression) → acts_of_value (moved_program to p) point (moved_value to value) ≡ map (moved_act to) (acts_of_value p point value)
    of-value point None = refl
    of-value point (Some value) = of-expression point value

    mutual
      of-statement : (s : Statement) → acts_in (moved_program to p) (moved_statement to s) ≡ map (moved_act to) (acts_in p s)
      of-statement (Block point body) = of-statements body
      of-statement (Let point var value) = of-expression point value
      of-statement (Set point var value) = of-expression point value
      of-statement (SetCell point cell value place) = first _ _ _ _ (touched point true cell [] [] place refl) (of-expression point value)
      of-statement (SetArray point array index value place) =
          first _ _ _ _ (touched point true array _ _ place (ap (λ (e : Elem). e ∷ []) (same_element index)))
          (both _ _ (acts_of p point index) (acts_of p point value) (of-expression point index) (of-expression point value))
      of-statement (SetGrid point array row column value place) =
          first _ _ _ _ (touched point true array _ _ place (ap (λ (e : Elem). e ∷ element_of_index (moved_expression to column) ∷ []) (same_element row) ∙ ap (λ (e : Elem). element_of_index row ∷ e ∷ []) (same_element column)))
          (both _ _ (acts_of p point row) (acts_of p point column ++ acts_of p point value) (of-expression point row)
          (both _ _ (acts_of p point column) (acts_of p point value) (of-expression point column) (of-expression point value)))
      of-statement (If point arms) = of-arms point arms
      of-statement (While point condition body place) =
          both _ _ (acts_of p point condition) (acts_in_all p body) (of-expression point condition) (of-statements body)
      of-statement (Return point value) = of-value point value
      of-statement (Print point value place) = first _ _ _ _ refl (of-expression point value)
      of-statement (Call point method given place) = first _ _ _ _ (called point method given place) (of-arguments point given)
      of-statement (Make point future task given spawned future_place place) = first _ _ _ _ (made point future task given spawned future_place place) (of-arguments point given)
      of-statement (Wait point future join into place) = refl

      pub of-statements : (ss : Statements) → acts_in_all (moved_program to p) (moved_statements to ss) ≡ map (moved_act to) (acts_in_all p ss)
      of-statements no_more = refl
      of-statements (statement one others) = both _ _ (acts_in p one) (acts_in_all p others) (of-statement one) (of-statements others)

      of-arms : (point : ℕ) (arms : Arms) → acts_in_one (moved_program to p) point (moved_arms to arms) ≡ map (moved_act to) (acts_in_one p point arms)
      of-arms point (arm condition body others) =
          both _ _ (acts_of p point condition) (acts_in_all p body ++ acts_in_one p point others) (of-expression point condition)
          (both _ _ (acts_in_all p body) (acts_in_one p point others) (of-statements body) (of-arms point others))
      of-arms point (otherwise body) = of-statements body
      of-arms point no_else = refl
