-- The value of each kind of expression, by the steps that evaluate it.
use Rattle.std.proofs.Common.{◌≡◌, ◌&&◌, ℕ, ℤ, Bool, true, false, Option, None, Some, Result, Ok, Err, List, ◌∷◌, refl, ap, sym, ◌∙◌, subst}
use Rattle.std.specs.Prelude.{IsErrAnd, slice_get}
use Rattle.twe_base.specs.declared.place.Place.{Place}
use Rattle.twe_ast.specs.declared.expr.BinOp.{BinOp}
use Rattle.twe_program.specs.Program.{Program}
use Rattle.twe_program.specs.Expression.{Expression, Literal, Truth, Variable, CellValue, ArrayElement, GridElement, CallValue, Negative, Negation, Binary}
use Rattle.seg_meaning.specs.declared.active.ActiveCall.{ActiveCall}
use Rattle.seg_exec.specs.declared.strides.value.Fault.{Fault}
use Rattle.seg_meaning.specs.Access.{HasRead, Ways, value_in}
use Rattle.seg_meaning.specs.Arithmetic.{decided, is_true, negation, negative, number_of, operated}
use Rattle.seg_meaning.specs.Cells.{cell_number, element_number, grid_element_number}
use Rattle.seg_exec.specs.inner.steps.Continuations.{Continuation, Config, Apply, Evaluate, Invert, Negate, ReadElement, ReadGridElement, Right}
use Rattle.seg_exec.specs.inner.strides.Leaves.{decided_or, leaf_value, pair_value, value_on}
use Rattle.twe_program.specs.Expression.{is_plain}
use Rattle.seg_exec.specs.inner.steps.Reached.{MayRequest, Served, Standing}
use Rattle.seg_meaning.specs.declared.fault.FaultCause.{FaultCause}
use Rattle.seg_meaning.specs.declared.fault.FaultCause.TheVariants.{Index, GridIndex}
use Rattle.seg_exec.specs.inner.steps.Steps.{Step, applied, read_at, right_by, step_of}
use Rattle.seg_exec.specs.inner.strides.Strides.{Ends, EvaluatesTo, Gives, Goes, MayEvaluate, MayReadAt, ReadsAt, fault_ending, quotient_or, stand}
use Rattle.seg_exec.proofs.strides.Strides.{ended, ends_alike, may_now, may_then, one_step, silent, then_ends, then_goes}

module _ {C : Type 0} (p : Program) (ways : Ways C) (vars : List ℤ) where
  pub literal : (value : ℤ) (cells : C) → EvaluatesTo p ways (Literal value) vars cells (Ok value) cells
  literal value cells work operands fuel calls prints = silent p ways (stand (Evaluate (Literal value) ∷ work) operands vars fuel calls cells prints) _ refl

  pub truth : (value : Bool) (cells : C) → EvaluatesTo p ways (Truth value) vars cells (Ok (number_of value)) cells
  truth value cells work operands fuel calls prints = silent p ways (stand (Evaluate (Truth value) ∷ work) operands vars fuel calls cells prints) _ refl

  pub variable : (var : ℕ) (fixed : Bool) (cells : C) → EvaluatesTo p ways (Variable var fixed) vars cells (Ok (value_in (slice_get vars var))) cells
  variable var fixed cells work operands fuel calls prints = silent p ways (stand (Evaluate (Variable var fixed) ∷ work) operands vars fuel calls cells prints) _ refl

  pub cell_may : (cell : ℕ) (place : Place) (cells : C) → MayEvaluate p ways (CellValue cell place) vars cells → ways.may_read cells (cell_number p cell)
  cell_may cell place cells m = may_now p ways (stand (Evaluate (CellValue cell place) ∷ m.work) m.operands vars m.fuel m.calls cells m.prints) m.may

  pub cell_read : (cell : ℕ) (place : Place) (old new : C) (value : ℤ) → HasRead ways old (cell_number p cell) value new → EvaluatesTo p ways (CellValue cell place) vars old (Ok value) new
  cell_read cell place old new value has work operands fuel calls prints =
      one_step p ways (stand (Evaluate (CellValue cell place) ∷ work) operands vars fuel calls old prints) (stand work (value ∷ operands) vars fuel calls new prints)
      (value, refl, refl, has, refl)

  -- a literal or a variable
  pub leaf : (e : Expression) (value : ℤ) (cells : C) → leaf_value e vars ≡ Some value → EvaluatesTo p ways e vars cells (Ok value) cells
  leaf (Literal found) value cells is = subst (λ (v : ℤ). EvaluatesTo p ways (Literal found) vars cells (Ok v) cells) (let same : found ≡ value = cc in same) (literal found cells)
  leaf (Variable var fixed) value cells is =
      subst (λ (v : ℤ). EvaluatesTo p ways (Variable var fixed) vars cells (Ok v) cells) (let same : value_in (slice_get vars var) ≡ value = cc in same) (variable var fixed cells)
  leaf (Truth found) value cells is = absurd (cc)
  leaf (CellValue cell place) value cells is = absurd (cc)
  leaf (ArrayElement array index place) value cells is = absurd (cc)
  leaf (GridElement array row column place) value cells is = absurd (cc)
  leaf (CallValue method args place) value cells is = absurd (cc)
  leaf (Negative operand) value cells is = absurd (cc)
  leaf (Negation operand) value cells is = absurd (cc)
  leaf (Binary op left right place) value cells is = absurd (cc)

  -- what comes after some steps
  gives_after : (from mid : Standing C) (work : List Continuation) (operands : List ℤ) (fuel : ℕ) (calls : List ActiveCall) (prints : List ℤ) (result : Result ℤ Fault) (new : C)
      → Goes p ways from mid → Gives p ways mid work operands vars fuel calls prints result new → Gives p ways from work operands vars fuel calls prints result new
  gives_after from mid work operands fuel calls prints (Ok value) new first second = then_goes p ways from mid _ first second
  gives_after from mid work operands fuel calls prints (Err fault) new first second = then_ends p ways from mid _ _ first second

  -- the step that reads an element
  gives_read : (cell : Option ℕ) (missing : FaultCause) (place : Place) (from : Config) (work : List Continuation) (operands : List ℤ) (fuel : ℕ) (calls : List ActiveCall) (prints : List ℤ) (old new : C) (result : Result ℤ Fault)
      → step_of p from ≡ read_at cell missing place (record { work = work; operands = operands; vars = vars; fuel = fuel; calls = calls })
      → ReadsAt ways cell missing place old result new → Gives p ways (record { config = from; cells = old; prints = prints }) work operands vars fuel calls prints result new
  gives_read None missing place from work operands fuel calls prints old new result is h =
      subst (λ (r : Result ℤ Fault). Gives p ways (record { config = from; cells = old; prints = prints }) work operands vars fuel calls prints r new) (sym h.0)
      (subst (λ (c : C). Ends p ways (record { config = from; cells = old; prints = prints }) (fault_ending (record { cause = missing; place = place })) (stand work operands vars fuel calls c prints)) (sym h.1)
      (ended p ways (record { config = from; cells = old; prints = prints }) _ _ is))
  gives_read (Some cell) missing place from work operands fuel calls prints old new result is h =
      subst (λ (r : Result ℤ Fault). Gives p ways (record { config = from; cells = old; prints = prints }) work operands vars fuel calls prints r new) (sym h.1)
      (one_step p ways (record { config = from; cells = old; prints = prints }) (stand work (h.0 ∷ operands) vars fuel calls new prints)
      (subst (λ (step : Step). Served ways step.0 (record { config = step.1; cells = old; prints = prints }) None (stand work (h.0 ∷ operands) vars fuel calls new prints)) (sym is)
      (h.0, refl, refl, h.2, refl)))

  may_read_at : (cell : Option ℕ) (missing : FaultCause) (place : Place) (cells : C) (config : Config) → MayRequest ways cells (read_at cell missing place config).0 → MayReadAt ways cells cell
  may_read_at None missing place cells config h k is = absurd (cc)
  may_read_at (Some cell) missing place cells config h k is = let same : cell ≡ k = cc in subst (λ (i : ℕ). ways.may_read cells i) same h

  -- an element of an array
  module _ (array : ℕ) (index : Expression) (place : Place) where
    first_of_element : (work : List Continuation) (operands : List ℤ) (fuel : ℕ) (calls : List ActiveCall) (cells : C) (prints : List ℤ)
        → Goes p ways (stand (Evaluate (ArrayElement array index place) ∷ work) operands vars fuel calls cells prints) (stand (Evaluate index ∷ (ReadElement array place ∷ work)) operands vars fuel calls cells prints)
    first_of_element work operands fuel calls cells prints = silent p ways (stand (Evaluate (ArrayElement array index place) ∷ work) operands vars fuel calls cells prints) _ refl

    pub element_may : (cells : C) → MayEvaluate p ways (ArrayElement array index place) vars cells → MayEvaluate p ways index vars cells
    element_may cells m = record {
      work = ReadElement array place ∷ m.work;
      operands = m.operands;
      fuel = m.fuel;
      calls = m.calls;
      prints = m.prints;
      may = may_then p ways _ _ m.may (first_of_element m.work m.operands m.fuel m.calls cells m.prints);
    }

    pub element_fault : (old new : C) (fault : Fault) → EvaluatesTo p ways index vars old (Err fault) new → EvaluatesTo p ways (ArrayElement array index place) vars old (Err fault) new
    element_fault old new fault h work operands fuel calls prints =
        ends_alike p ways _ (fault_ending fault) (ReadElement array place ∷ work) work operands operands vars fuel calls new prints
        (then_ends p ways _ _ _ _ (first_of_element work operands fuel calls old prints) (h (ReadElement array place ∷ work) operands fuel calls prints))

    pub element_may_read : (old mid : C) (i : ℤ) → MayEvaluate p ways (ArrayElement array index place) vars old → EvaluatesTo p ways index vars old (Ok i) mid → MayReadAt ways mid (element_number p array i)
    element_may_read old mid i m h =
        may_read_at (element_number p array i) (Index i) place mid _ (may_now p ways _ (may_then p ways _ _ m.may (then_goes p ways _ _ _ (first_of_element m.work m.operands m.fuel m.calls old m.prints) (h (ReadElement array place ∷ m.work) m.operands m.fuel m.calls m.prints))))

    pub element_read : (old mid new : C) (i : ℤ) (result : Result ℤ Fault) → EvaluatesTo p ways index vars old (Ok i) mid → ReadsAt ways (element_number p array i) (Index i) place mid result new
        → EvaluatesTo p ways (ArrayElement array index place) vars old result new
    element_read old mid new i result h has work operands fuel calls prints =
        gives_after _ _ work operands fuel calls prints result new
        (then_goes p ways _ _ _ (first_of_element work operands fuel calls old prints) (h (ReadElement array place ∷ work) operands fuel calls prints))
        (gives_read (element_number p array i) (Index i) place _ work operands fuel calls prints mid new result refl has)

  -- an element of a grid
  module _ (array : ℕ) (row column : Expression) (place : Place) where
    first_of_grid : (work : List Continuation) (operands : List ℤ) (fuel : ℕ) (calls : List ActiveCall) (cells : C) (prints : List ℤ)
        → Goes p ways (stand (Evaluate (GridElement array row column place) ∷ work) operands vars fuel calls cells prints)
        (stand (Evaluate row ∷ (Evaluate column ∷ (ReadGridElement array place ∷ work))) operands vars fuel calls cells prints)
    first_of_grid work operands fuel calls cells prints = silent p ways (stand (Evaluate (GridElement array row column place) ∷ work) operands vars fuel calls cells prints) _ refl

    to_column : (old mid : C) (i : ℤ) (work : List Continuation) (operands : List ℤ) (fuel : ℕ) (calls : List ActiveCall) (prints : List ℤ) → EvaluatesTo p ways row vars old (Ok i) mid
        → Goes p ways (stand (Evaluate (GridElement array row column place) ∷ work) operands vars fuel calls old prints)
        (stand (Evaluate column ∷ (ReadGridElement array place ∷ work)) (i ∷ operands) vars fuel calls mid prints)
    to_column old mid i work operands fuel calls prints h =
        then_goes p ways _ _ _ (first_of_grid work operands fuel calls old prints) (h (Evaluate column ∷ (ReadGridElement array place ∷ work)) operands fuel calls prints)

    to_read : (old mid next : C) (i j : ℤ) (work : List Continuation) (operands : List ℤ) (fuel : ℕ) (calls : List ActiveCall) (prints : List ℤ) → EvaluatesTo p ways row vars old (Ok i) mid → EvaluatesTo p ways column vars mid (Ok j) next
        → Goes p ways (stand (Evaluate (GridElement array row column place) ∷ work) operands vars fuel calls old prints)
        (stand (ReadGridElement array place ∷ work) (j ∷ (i ∷ operands)) vars fuel calls next prints)
    to_read old mid next i j work operands fuel calls prints h g =
        then_goes p ways _ _ _ (to_column old mid i work operands fuel calls prints h) (g (ReadGridElement array place ∷ work) (i ∷ operands) fuel calls prints)

    pub row_may : (cells : C) → MayEvaluate p ways (GridElement array row column place) vars cells → MayEvaluate p ways row vars cells
    row_may cells m = record {
      work = Evaluate column ∷ (ReadGridElement array place ∷ m.work);
      operands = m.operands;
      fuel = m.fuel;
      calls = m.calls;
      prints = m.prints;
      may = may_then p ways _ _ m.may (first_of_grid m.work m.operands m.fuel m.calls cells m.prints);
    }

    pub column_may : (old mid : C) (i : ℤ) → MayEvaluate p ways (GridElement array row column place) vars old → EvaluatesTo p ways row vars old (Ok i) mid → MayEvaluate p ways column vars mid
    column_may old mid i m h = record {
      work = ReadGridElement array place ∷ m.work;
      operands = i ∷ m.operands;
      fuel = m.fuel;
      calls = m.calls;
      prints = m.prints;
      may = may_then p ways _ _ m.may (to_column old mid i m.work m.operands m.fuel m.calls m.prints h);
    }

    pub row_fault : (old new : C) (fault : Fault) → EvaluatesTo p ways row vars old (Err fault) new → EvaluatesTo p ways (GridElement array row column place) vars old (Err fault) new
    row_fault old new fault h work operands fuel calls prints =
        ends_alike p ways _ (fault_ending fault) (Evaluate column ∷ (ReadGridElement array place ∷ work)) work operands operands vars fuel calls new prints
        (then_ends p ways _ _ _ _ (first_of_grid work operands fuel calls old prints) (h (Evaluate column ∷ (ReadGridElement array place ∷ work)) operands fuel calls prints))

    pub column_fault : (old mid new : C) (i : ℤ) (fault : Fault) → EvaluatesTo p ways row vars old (Ok i) mid → EvaluatesTo p ways column vars mid (Err fault) new
        → EvaluatesTo p ways (GridElement array row column place) vars old (Err fault) new
    column_fault old mid new i fault h g work operands fuel calls prints =
        ends_alike p ways _ (fault_ending fault) (ReadGridElement array place ∷ work) work (i ∷ operands) operands vars fuel calls new prints
        (then_ends p ways _ _ _ _ (to_column old mid i work operands fuel calls prints h) (g (ReadGridElement array place ∷ work) (i ∷ operands) fuel calls prints))

    pub grid_may_read : (old mid next : C) (i j : ℤ) → MayEvaluate p ways (GridElement array row column place) vars old → EvaluatesTo p ways row vars old (Ok i) mid → EvaluatesTo p ways column vars mid (Ok j) next
        → MayReadAt ways next (grid_element_number p array i j)
    grid_may_read old mid next i j m h g =
        may_read_at (grid_element_number p array i j) (GridIndex i j) place next _ (may_now p ways _ (may_then p ways _ _ m.may (to_read old mid next i j m.work m.operands m.fuel m.calls m.prints h g)))

    pub grid_read : (old mid next new : C) (i j : ℤ) (result : Result ℤ Fault) → EvaluatesTo p ways row vars old (Ok i) mid → EvaluatesTo p ways column vars mid (Ok j) next
        → ReadsAt ways (grid_element_number p array i j) (GridIndex i j) place next result new → EvaluatesTo p ways (GridElement array row column place) vars old result new
    grid_read old mid next new i j result h g has work operands fuel calls prints =
        gives_after _ _ work operands fuel calls prints result new
        (to_read old mid next i j work operands fuel calls prints h g)
        (gives_read (grid_element_number p array i j) (GridIndex i j) place _ work operands fuel calls prints next new result refl has)

  -- a sign and a negation
  module _ (operand : Expression) where
    first_of_negative : (work : List Continuation) (operands : List ℤ) (fuel : ℕ) (calls : List ActiveCall) (cells : C) (prints : List ℤ)
        → Goes p ways (stand (Evaluate (Negative operand) ∷ work) operands vars fuel calls cells prints) (stand (Evaluate operand ∷ (Negate ∷ work)) operands vars fuel calls cells prints)
    first_of_negative work operands fuel calls cells prints = silent p ways (stand (Evaluate (Negative operand) ∷ work) operands vars fuel calls cells prints) _ refl

    first_of_negation : (work : List Continuation) (operands : List ℤ) (fuel : ℕ) (calls : List ActiveCall) (cells : C) (prints : List ℤ)
        → Goes p ways (stand (Evaluate (Negation operand) ∷ work) operands vars fuel calls cells prints) (stand (Evaluate operand ∷ (Invert ∷ work)) operands vars fuel calls cells prints)
    first_of_negation work operands fuel calls cells prints = silent p ways (stand (Evaluate (Negation operand) ∷ work) operands vars fuel calls cells prints) _ refl

    pub negative_may : (cells : C) → MayEvaluate p ways (Negative operand) vars cells → MayEvaluate p ways operand vars cells
    negative_may cells m = record {
      work = Negate ∷ m.work;
      operands = m.operands;
      fuel = m.fuel;
      calls = m.calls;
      prints = m.prints;
      may = may_then p ways _ _ m.may (first_of_negative m.work m.operands m.fuel m.calls cells m.prints);
    }

    pub negation_may : (cells : C) → MayEvaluate p ways (Negation operand) vars cells → MayEvaluate p ways operand vars cells
    negation_may cells m = record {
      work = Invert ∷ m.work;
      operands = m.operands;
      fuel = m.fuel;
      calls = m.calls;
      prints = m.prints;
      may = may_then p ways _ _ m.may (first_of_negation m.work m.operands m.fuel m.calls cells m.prints);
    }

    pub negative_fault : (old new : C) (fault : Fault) → EvaluatesTo p ways operand vars old (Err fault) new → EvaluatesTo p ways (Negative operand) vars old (Err fault) new
    negative_fault old new fault h work operands fuel calls prints =
        ends_alike p ways _ (fault_ending fault) (Negate ∷ work) work operands operands vars fuel calls new prints
        (then_ends p ways _ _ _ _ (first_of_negative work operands fuel calls old prints) (h (Negate ∷ work) operands fuel calls prints))

    pub negation_fault : (old new : C) (fault : Fault) → EvaluatesTo p ways operand vars old (Err fault) new → EvaluatesTo p ways (Negation operand) vars old (Err fault) new
    negation_fault old new fault h work operands fuel calls prints =
        ends_alike p ways _ (fault_ending fault) (Invert ∷ work) work operands operands vars fuel calls new prints
        (then_ends p ways _ _ _ _ (first_of_negation work operands fuel calls old prints) (h (Invert ∷ work) operands fuel calls prints))

    pub negative_value : (old new : C) (value : ℤ) → EvaluatesTo p ways operand vars old (Ok value) new → EvaluatesTo p ways (Negative operand) vars old (Ok (negative value)) new
    negative_value old new value h work operands fuel calls prints =
        then_goes p ways _ _ _ (first_of_negative work operands fuel calls old prints)
        (then_goes p ways _ _ _ (h (Negate ∷ work) operands fuel calls prints) (silent p ways (stand (Negate ∷ work) (value ∷ operands) vars fuel calls new prints) _ refl))

    pub negation_value : (old new : C) (value : ℤ) → EvaluatesTo p ways operand vars old (Ok value) new → EvaluatesTo p ways (Negation operand) vars old (Ok (negation value)) new
    negation_value old new value h work operands fuel calls prints =
        then_goes p ways _ _ _ (first_of_negation work operands fuel calls old prints)
        (then_goes p ways _ _ _ (h (Invert ∷ work) operands fuel calls prints) (silent p ways (stand (Invert ∷ work) (value ∷ operands) vars fuel calls new prints) _ refl))

  -- an operator
  module _ (op : BinOp) (left right : Expression) (place : Place) where
    first_of_binary : (work : List Continuation) (operands : List ℤ) (fuel : ℕ) (calls : List ActiveCall) (cells : C) (prints : List ℤ)
        → Goes p ways (stand (Evaluate (Binary op left right place) ∷ work) operands vars fuel calls cells prints) (stand (Evaluate left ∷ (Right op right place ∷ work)) operands vars fuel calls cells prints)
    first_of_binary work operands fuel calls cells prints = silent p ways (stand (Evaluate (Binary op left right place) ∷ work) operands vars fuel calls cells prints) _ refl

    pub left_may : (cells : C) → MayEvaluate p ways (Binary op left right place) vars cells → MayEvaluate p ways left vars cells
    left_may cells m = record {
      work = Right op right place ∷ m.work;
      operands = m.operands;
      fuel = m.fuel;
      calls = m.calls;
      prints = m.prints;
      may = may_then p ways _ _ m.may (first_of_binary m.work m.operands m.fuel m.calls cells m.prints);
    }

    pub left_fault : (old new : C) (fault : Fault) → EvaluatesTo p ways left vars old (Err fault) new → EvaluatesTo p ways (Binary op left right place) vars old (Err fault) new
    left_fault old new fault h work operands fuel calls prints =
        ends_alike p ways _ (fault_ending fault) (Right op right place ∷ work) work operands operands vars fuel calls new prints
        (then_ends p ways _ _ _ _ (first_of_binary work operands fuel calls old prints) (h (Right op right place ∷ work) operands fuel calls prints))

    to_operator : (old mid : C) (x : ℤ) (work : List Continuation) (operands : List ℤ) (fuel : ℕ) (calls : List ActiveCall) (prints : List ℤ) → EvaluatesTo p ways left vars old (Ok x) mid
        → Goes p ways (stand (Evaluate (Binary op left right place) ∷ work) operands vars fuel calls old prints) (stand (Right op right place ∷ work) (x ∷ operands) vars fuel calls mid prints)
    to_operator old mid x work operands fuel calls prints h =
        then_goes p ways _ _ _ (first_of_binary work operands fuel calls old prints) (h (Right op right place ∷ work) operands fuel calls prints)

    pub left_decides : (old mid : C) (x value : ℤ) → EvaluatesTo p ways left vars old (Ok x) mid → decided op (is_true x) ≡ Some value → EvaluatesTo p ways (Binary op left right place) vars old (Ok value) mid
    left_decides old mid x value h is work operands fuel calls prints =
        then_goes p ways _ _ _ (to_operator old mid x work operands fuel calls prints h)
        (silent p ways (stand (Right op right place ∷ work) (x ∷ operands) vars fuel calls mid prints) _
        (ap (λ (d : Option ℤ). right_by d op x right place (record { work = work; operands = operands; vars = vars; fuel = fuel; calls = calls })) is))

    to_right : (old mid : C) (x : ℤ) (work : List Continuation) (operands : List ℤ) (fuel : ℕ) (calls : List ActiveCall) (prints : List ℤ) → EvaluatesTo p ways left vars old (Ok x) mid → decided op (is_true x) ≡ None
        → Goes p ways (stand (Evaluate (Binary op left right place) ∷ work) operands vars fuel calls old prints) (stand (Evaluate right ∷ (Apply op place ∷ work)) (x ∷ operands) vars fuel calls mid prints)
    to_right old mid x work operands fuel calls prints h is =
        then_goes p ways _ _ _ (to_operator old mid x work operands fuel calls prints h)
        (silent p ways (stand (Right op right place ∷ work) (x ∷ operands) vars fuel calls mid prints) _
        (ap (λ (d : Option ℤ). right_by d op x right place (record { work = work; operands = operands; vars = vars; fuel = fuel; calls = calls })) is))

    pub right_may : (old mid : C) (x : ℤ) → MayEvaluate p ways (Binary op left right place) vars old → EvaluatesTo p ways left vars old (Ok x) mid → decided op (is_true x) ≡ None → MayEvaluate p ways right vars mid
    right_may old mid x m h is = record {
      work = Apply op place ∷ m.work;
      operands = x ∷ m.operands;
      fuel = m.fuel;
      calls = m.calls;
      prints = m.prints;
      may = may_then p ways _ _ m.may (to_right old mid x m.work m.operands m.fuel m.calls m.prints h is);
    }

    pub right_fault : (old mid new : C) (x : ℤ) (fault : Fault) → EvaluatesTo p ways left vars old (Ok x) mid → decided op (is_true x) ≡ None → EvaluatesTo p ways right vars mid (Err fault) new
        → EvaluatesTo p ways (Binary op left right place) vars old (Err fault) new
    right_fault old mid new x fault h is g work operands fuel calls prints =
        ends_alike p ways _ (fault_ending fault) (Apply op place ∷ work) work (x ∷ operands) operands vars fuel calls new prints
        (then_ends p ways _ _ _ _ (to_right old mid x work operands fuel calls prints h is) (g (Apply op place ∷ work) (x ∷ operands) fuel calls prints))

    gives_applied : (value : Option ℤ) (from : Config) (work : List Continuation) (operands : List ℤ) (fuel : ℕ) (calls : List ActiveCall) (prints : List ℤ) (cells : C)
        → step_of p from ≡ applied value place (record { work = work; operands = operands; vars = vars; fuel = fuel; calls = calls })
        → Gives p ways (record { config = from; cells = cells; prints = prints }) work operands vars fuel calls prints (quotient_or value place) cells
    gives_applied None from work operands fuel calls prints cells is = ended p ways (record { config = from; cells = cells; prints = prints }) _ _ is
    gives_applied (Some value) from work operands fuel calls prints cells is = silent p ways (record { config = from; cells = cells; prints = prints }) _ is

    pub operator_value : (old mid new : C) (x y : ℤ) (result : Result ℤ Fault) → EvaluatesTo p ways left vars old (Ok x) mid → decided op (is_true x) ≡ None → EvaluatesTo p ways right vars mid (Ok y) new
        → result ≡ quotient_or (operated op x y) place → EvaluatesTo p ways (Binary op left right place) vars old result new
    operator_value old mid new x y result h is g same work operands fuel calls prints =
        subst (λ (r : Result ℤ Fault). Gives p ways (stand (Evaluate (Binary op left right place) ∷ work) operands vars fuel calls old prints) work operands vars fuel calls prints r new) (sym same)
        (gives_after _ _ work operands fuel calls prints (quotient_or (operated op x y) place) new
        (then_goes p ways _ _ _ (to_right old mid x work operands fuel calls prints h is) (g (Apply op place ∷ work) (x ∷ operands) fuel calls prints))
        (gives_applied (operated op x y) _ work operands fuel calls prints new refl))

    -- both operands are literals or variables
    pair_by : (cells : C) (x y value : ℤ) (d : Option ℤ) → EvaluatesTo p ways left vars cells (Ok x) cells → EvaluatesTo p ways right vars cells (Ok y) cells
        → decided op (is_true x) ≡ d → decided_or d (operated op x y) ≡ Some value → EvaluatesTo p ways (Binary op left right place) vars cells (Ok value) cells
    pair_by cells x y value (Some v) h g is e = left_decides cells cells x value h (is ∙ e)
    pair_by cells x y value None h g is e = operator_value cells cells cells x y (Ok value) h is g (sym (ap (λ (o : Option ℤ). quotient_or o place) e))

    pair_on : (cells : C) (value : ℤ) (x y : Option ℤ) → leaf_value left vars ≡ x → leaf_value right vars ≡ y → value_on op x y ≡ Some value → EvaluatesTo p ways (Binary op left right place) vars cells (Ok value) cells
    pair_on cells value (Some x) (Some y) is-x is-y e = pair_by cells x y value (decided op (is_true x)) (leaf left x cells is-x) (leaf right y cells is-y) refl e
    pair_on cells value (Some x) None is-x is-y e = absurd (cc)
    pair_on cells value None y is-x is-y e = absurd (cc)

  -- an operator on literals and variables
  pub pair : (e : Expression) (value : ℤ) (cells : C) → pair_value e vars ≡ Some value → EvaluatesTo p ways e vars cells (Ok value) cells
  pair (Binary op left right place) value cells is = pair_on op left right place cells value (leaf_value left vars) (leaf_value right vars) refl refl is
  pair (Literal found) value cells is = absurd (cc)
  pair (Variable var fixed) value cells is = absurd (cc)
  pair (Truth found) value cells is = absurd (cc)
  pair (CellValue cell place) value cells is = absurd (cc)
  pair (ArrayElement array index place) value cells is = absurd (cc)
  pair (GridElement array row column place) value cells is = absurd (cc)
  pair (CallValue method args place) value cells is = absurd (cc)
  pair (Negative operand) value cells is = absurd (cc)
  pair (Negation operand) value cells is = absurd (cc)

  -- the same under other names
  pub evaluates_as : (e e' : Expression) (old new : C) (r r' : Result ℤ Fault) → e ≡ e' → r ≡ r' → EvaluatesTo p ways e' vars old r' new → EvaluatesTo p ways e vars old r new
  evaluates_as e e' old new r r' same is h =
      subst (λ (x : Expression). EvaluatesTo p ways x vars old r new) (sym same) (subst (λ (x : Result ℤ Fault). EvaluatesTo p ways e' vars old x new) (sym is) h)

  pub may_as : (e e' : Expression) (cells : C) → e ≡ e' → MayEvaluate p ways e' vars cells → MayEvaluate p ways e vars cells
  may_as e e' cells same h = subst (λ (x : Expression). MayEvaluate p ways x vars cells) (sym same) h

pub plain_as : (e e' : Expression) → e ≡ e' → is_plain e' ≡ true → is_plain e ≡ true
plain_as e e' same h = ap is_plain same ∙ h

pub both_first : (a b : Bool) → (a && b) ≡ true → a ≡ true
both_first true b h = refl
both_first false b h = absurd (cc)

pub both_second : (a b : Bool) → (a && b) ≡ true → b ≡ true
both_second true b h = h
both_second false b h = absurd (cc)

pub passed_on : (r : Result ℤ Fault) (fault : Fault) → IsErrAnd r (λ y. y ≡ fault) → r ≡ Err fault
passed_on (Ok value) fault h = absurd h
passed_on (Err other) fault h = ap Err h
