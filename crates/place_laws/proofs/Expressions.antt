-- An expression without its places has the same value, and meets the same fault, whatever the place of that.
use Rattle.std.proofs.Common.{◌≡◌, ℕ, ℤ, Bool, true, false, List, ◌∷◌, length, Option, None, Some, refl, ap, ◌∙◌}
use Rattle.std.specs.Prelude.{nat_le, slice_get, option_map}
use Rattle.std.proofs.lemmas.List.{length-map}
use Rattle.twe_base.specs.declared.place.Place.{Place}
use Rattle.twe_base.specs.Language.{max_active_calls}
use Rattle.twe_ast.specs.declared.expr.BinOp.{BinOp}
use Rattle.twe_program.specs.declared.program.Decl.{Decl}
use Rattle.twe_program.specs.Program.{Program}
use Rattle.twe_program.specs.Expression.{Expression, Literal, Truth, Variable, CellValue, ArrayElement, GridElement, CallValue, Negative, Negation, Binary, Arguments, argument}
use Rattle.twe_program.specs.Expression as args
use Rattle.twe_program.specs.Statement.{Statement, Statements, Block}
use Rattle.seg_meaning.specs.declared.active.ActiveCall.{ActiveCall}
use Rattle.seg_meaning.specs.declared.fault.FaultCause.{FaultCause}
use Rattle.seg_meaning.specs.declared.fault.FaultCause.TheVariants.{Index, GridIndex}
use Rattle.seg_meaning.specs.Arithmetic.{decided, is_true, operated, negative, negation}
use Rattle.seg_meaning.specs.Cells.{element_number, grid_element_number}
use Rattle.seg_meaning.specs.Meaning.{Below, called, element_read, entered, given_back, right_given, value_of, value_or_fault, values_of, vars_at_start, body_of}
use Rattle.seg_meaning.specs.Store.{Store, Given, gives, Flow, cell_read, then_give, unit_taken}
use Rattle.summary_texts.specs.paste_laws.places.Places.{bare_arguments, bare_expression, bare_program, bare_statement, bare_statements, no_place, placeless_decl}
use Rattle.place_laws.proofs.Declarations.{body_bare, method_at, same_cell, same_element, same_grid_element, vars_bare}
use Rattle.place_laws.proofs.Stores.{bare_call, bare_flow, bare_given, bare_store, give_on, given_back_bare, unit_bare}

-- the meaning of what follows a unit of fuel is the same without places
abbrev pub IsBareBelow : Below → Below → Type 0
IsBareBelow below other = (stmt : Statement) (s : Store) → other (bare_statement stmt) (bare_store s) ≡ bare_flow (below stmt s)

read_bare : (cell : Option ℕ) (missing : FaultCause) (place : Place) (s : Store)
    → element_read cell missing no_place (bare_store s) ≡ bare_given (element_read cell missing place s)
read_bare None missing place s = refl
read_bare (Some cell) missing place s = refl

fault_bare : (value : Option ℤ) (place : Place) (s : Store) → value_or_fault value no_place (bare_store s) ≡ bare_given (value_or_fault value place s)
fault_bare None place s = refl
fault_bare (Some value) place s = refl

right_bare : (known : Option ℤ) (op : BinOp) (left : ℤ) (place : Place) (right its : Given ℤ) (s : Store) → its ≡ bare_given right
    → right_given known op left no_place its (bare_store s) ≡ bare_given (right_given known op left place right s)
right_bare (Some value) op left place right its s same = refl
right_bare None op left place right its s same =
    give_on (λ value s1. value_or_fault (operated op left value) place s1) (λ value s1. value_or_fault (operated op left value) no_place s1)
    (λ value s1. fault_bare (operated op left value) place s1) right its same

module _ (below other : Below) (meets : IsBareBelow below other) where
  -- the body of a method, as it is entered
  abbrev inside : Below → Statements → List ℤ → ActiveCall → Store → Flow
  inside run body vars call s = run (Block 0 body) (record s { vars = vars; calls = call ∷ s.calls })

  entered_bare : (full : Bool) (decl : Option Decl) (args : List ℤ) (call : ActiveCall) (s : Store)
      → entered full other (option_map placeless_decl decl) args (bare_call call) (bare_store s) ≡ bare_given (entered full below decl args call s)
  entered_bare true decl args call s = refl
  entered_bare false decl args call s =
      ap (λ (b : Statements). given_back s.vars (inside other b (vars_at_start (option_map placeless_decl decl) args) (bare_call call) (bare_store s))) (body_bare decl)
      ∙ ap (λ (vars : List ℤ). given_back s.vars (inside other (bare_statements (body_of decl)) vars (bare_call call) (bare_store s))) (vars_bare decl args)
      ∙ ap (given_back s.vars) (meets (Block 0 (body_of decl)) (record s { vars = vars_at_start decl args; calls = call ∷ s.calls }))
      ∙ given_back_bare s.vars (inside below (body_of decl) (vars_at_start decl args) call s)

  module _ (p : Program) where
    entry_bare : (method : ℕ) (values : List ℤ) (place : Place) (s : Store)
        → entered (nat_le max_active_calls (length (bare_store s).calls)) other (slice_get (bare_program p).methods method) values
        (record { method = method; place = no_place }) (bare_store s)
        ≡ bare_given (entered (nat_le max_active_calls (length s.calls)) below (slice_get p.methods method) values (record { method = method; place = place }) s)
    entry_bare method values place s =
        let call : ActiveCall = record { method = method; place = no_place } in
        ap (λ (n : ℕ). entered (nat_le max_active_calls n) other (slice_get (bare_program p).methods method) values call (bare_store s)) (length-map s.calls bare_call)
        ∙ ap (λ (d : Option Decl). entered (nat_le max_active_calls (length s.calls)) other d values call (bare_store s)) (method_at p method)
        ∙ entered_bare (nat_le max_active_calls (length s.calls)) (slice_get p.methods method) values (record { method = method; place = place }) s

    pub called_bare : (method : ℕ) (values : List ℤ) (place : Place) (s : Store)
        → called other (bare_program p) method values no_place (bare_store s) ≡ bare_given (called below p method values place s)
    called_bare method values place s =
        give_on
        (λ unit s1. entered (nat_le max_active_calls (length s1.calls)) below (slice_get p.methods method) values (record { method = method; place = place }) s1)
        (λ unit s1. entered (nat_le max_active_calls (length s1.calls)) other (slice_get (bare_program p).methods method) values (record { method = method; place = no_place }) s1)
        (λ unit s1. entry_bare method values place s1) (unit_taken place s) (unit_taken no_place (bare_store s)) (unit_bare s.fuel place s)

    abbrev its_value : Expression → Store → Given ℤ
    its_value e s = value_of other (bare_program p) (bare_expression e) s

    mutual
      pub value_bare : (e : Expression) (s : Store)
          → value_of other (bare_program p) (bare_expression e) (bare_store s) ≡ bare_given (value_of below p e s)
      value_bare (Literal value) s = refl
      value_bare (Truth value) s = refl
      value_bare (Variable var fixed) s = refl
      value_bare (CellValue cell place) s = ap (λ (c : ℕ). cell_read c (bare_store s)) (same_cell p cell)
      value_bare (ArrayElement array index place) s =
          give_on (λ i s1. element_read (element_number p array i) (Index i) place s1)
          (λ i s1. element_read (element_number (bare_program p) array i) (Index i) no_place s1)
          (λ i s1. ap (λ (c : Option ℕ). element_read c (Index i) no_place (bare_store s1)) (same_element p array i)
          ∙ read_bare (element_number p array i) (Index i) place s1)
          (value_of below p index s) (its_value index (bare_store s)) (value_bare index s)
      value_bare (GridElement array row column place) s =
          give_on
          (λ i s1. then_give (value_of below p column s1) (λ j s2. element_read (grid_element_number p array i j) (GridIndex i j) place s2))
          (λ i s1. then_give (its_value column s1) (λ j s2. element_read (grid_element_number (bare_program p) array i j) (GridIndex i j) no_place s2))
          (λ i s1.
          give_on (λ j s2. element_read (grid_element_number p array i j) (GridIndex i j) place s2)
          (λ j s2. element_read (grid_element_number (bare_program p) array i j) (GridIndex i j) no_place s2)
          (λ j s2. ap (λ (c : Option ℕ). element_read c (GridIndex i j) no_place (bare_store s2)) (same_grid_element p array i j)
          ∙ read_bare (grid_element_number p array i j) (GridIndex i j) place s2)
          (value_of below p column s1) (its_value column (bare_store s1)) (value_bare column s1))
          (value_of below p row s) (its_value row (bare_store s)) (value_bare row s)
      value_bare (CallValue method args place) s =
          give_on (λ values s1. called below p method values place s1) (λ values s1. called other (bare_program p) method values no_place s1)
          (λ values s1. called_bare method values place s1)
          (values_of below p args s) (values_of other (bare_program p) (bare_arguments args) (bare_store s)) (values_bare args s)
      value_bare (Negative operand) s =
          give_on (λ value s1. gives (negative value) s1) (λ value s1. gives (negative value) s1) (λ value s1. refl)
          (value_of below p operand s) (its_value operand (bare_store s)) (value_bare operand s)
      value_bare (Negation operand) s =
          give_on (λ value s1. gives (negation value) s1) (λ value s1. gives (negation value) s1) (λ value s1. refl)
          (value_of below p operand s) (its_value operand (bare_store s)) (value_bare operand s)
      value_bare (Binary op left right place) s =
          give_on (λ value s1. right_given (decided op (is_true value)) op value place (value_of below p right s1) s1)
          (λ value s1. right_given (decided op (is_true value)) op value no_place (its_value right s1) s1)
          (λ value s1. right_bare (decided op (is_true value)) op value place (value_of below p right s1) (its_value right (bare_store s1)) s1 (value_bare right s1))
          (value_of below p left s) (its_value left (bare_store s)) (value_bare left s)

      pub values_bare : (list : Arguments) (s : Store)
          → values_of other (bare_program p) (bare_arguments list) (bare_store s) ≡ bare_given (values_of below p list s)
      values_bare args.no_more s = refl
      values_bare (argument first others) s =
          give_on (λ value s1. then_give (values_of below p others s1) (λ values s2. gives (value ∷ values) s2))
          (λ value s1. then_give (values_of other (bare_program p) (bare_arguments others) s1) (λ values s2. gives (value ∷ values) s2))
          (λ value s1.
          give_on (λ values s2. gives (value ∷ values) s2) (λ values s2. gives (value ∷ values) s2) (λ values s2. refl)
          (values_of below p others s1) (values_of other (bare_program p) (bare_arguments others) (bare_store s1)) (values_bare others s1))
          (value_of below p first s) (its_value first (bare_store s)) (value_bare first s)
