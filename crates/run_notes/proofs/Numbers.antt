-- What the variables of a body are numbered by, and what they are named by, count in one order.
use Rattle.std.proofs.Common.{◌≡◌, ℕ, ◌+◌, List, [], ◌∷◌, ◌++◌, Bool, Option, None, Some, map, length, take, refl, sym, ap, ◌∙◌, subst, arith, append_assoc, append-nil, length-append, slice_get}
use Rattle.std.proofs.Math.Seq.{get_or-append_seam, take-append_seam}
use Rattle.std.proofs.lemmas.Option.{slice_get_read}
use Rattle.twe_base.specs.declared.place.Place.{Place}
use Rattle.twe_ast.specs.declared.item.Decl as written
use Rattle.twe_ast.specs.declared.name.Name.{Name}
use Rattle.twe_ast.specs.Statement.{Statement, Block, Let, Set, SetArray, SetGrid, If, While, Return, Print, Call, Make, Wait, LetWait, Statements, end_of_block, statement, Arms, arm, otherwise, no_else}
use Rattle.twe_ast.specs.Expression as written_expr
use Rattle.name_check.specs.declared.binding.Local.TheVariants as local_kinds
use Rattle.name_check.specs.declared.binding.Binding.{Binding}
use Rattle.name_check.specs.declared.binding.Binding.TheVariants as bindings
use Rattle.name_check.specs.declared.names.GlobalName.{GlobalName}
use Rattle.name_check.specs.declared.scope.BodyScope.{BodyScope}
use Rattle.name_check.specs.Sites.{at_body}
use Rattle.name_check.specs.Ends.{close_of}
use Rattle.name_check.specs.Names.{binding_of}
use Rattle.name_check.specs.BodyScope.{counted_binding, after, after_all, after_arms, after_block}
use Rattle.twe_names.specs.Meaning.{decl_of}
use Rattle.twe_names.specs.BodyMeaning.{set_of, statement_of, statements_of, arms_of, expression_of}
use Rattle.explain_pages.specs.names.Variables.{locals_named, locals_named_in, locals_named_by, variables_of}
use Rattle.run_notes.specs.BodyVariables.{locals_of, locals_in, locals_by, parameter, body_variables_of}
use Rattle.run_notes.specs.VariableNumbers.{variable_names, IsNamed, AreNamed, AreNamedIn, AreNamedBy, NamesVariables}
use Rattle.run_notes.specs.declared.body_variables.BodyVariable.{BodyVariable}

names-append : (xs ys : List BodyVariable) → variable_names (xs ++ ys) ≡ variable_names xs ++ variable_names ys
names-append [] ys = refl
names-append (x ∷ xs) ys = ap (λ (l : List Name). x.name ∷ l) (names-append xs ys)

names-join : (xs ys : List BodyVariable) (ns ms : List Name) → variable_names xs ≡ ns → variable_names ys ≡ ms → variable_names (xs ++ ys) ≡ ns ++ ms
names-join xs ys ns ms e f = names-append xs ys ∙ (ap (λ (l : List Name). l ++ variable_names ys) e ∙ ap (λ (l : List Name). ns ++ l) f)

-- the names of the locals do not rest on the place at which they are looked for
mutual
  pub names_of_locals : (place close : Place) (s : Statement) → variable_names (locals_of place close s) ≡ locals_named s
  names_of_locals place close (Block body) = names_of_all place body
  names_of_locals place close (Let is_final local_type name value) = refl
  names_of_locals place close (Set name value) = refl
  names_of_locals place close (SetArray array index value) = refl
  names_of_locals place close (SetGrid array row column value) = refl
  names_of_locals place close (If arms) = names_of_arms place arms
  names_of_locals place close (While word condition body) = names_of_all place body
  names_of_locals place close (Return word value) = refl
  names_of_locals place close (Print word value) = refl
  names_of_locals place close (Call method args) = refl
  names_of_locals place close (Make future task spawned args) = refl
  names_of_locals place close (Wait wait) = refl
  names_of_locals place close (LetWait is_final name wait) = refl

  pub names_of_all : (place : Place) (s : Statements) → variable_names (locals_in place s) ≡ locals_named_in s
  names_of_all place (end_of_block close) = refl
  names_of_all place (statement first others) =
      names-join (locals_of place (close_of others) first) (locals_in place others) (locals_named first) (locals_named_in others)
      (names_of_locals place (close_of others) first) (names_of_all place others)

  pub names_of_arms : (place : Place) (s : Arms) → variable_names (locals_by place s) ≡ locals_named_by s
  names_of_arms place (arm condition body others) =
      names-join (locals_in place body) (locals_by place others) (locals_named_in body) (locals_named_by others)
      (names_of_all place body) (names_of_arms place others)
  names_of_arms place (otherwise body) = names_of_all place body
  names_of_arms place no_else = refl

names_of_parameters : (names : List Name) → variable_names (map parameter names) ≡ names
names_of_parameters [] = refl
names_of_parameters (name ∷ names) = ap (λ (l : List Name). name ∷ l) (names_of_parameters names)

-- the names of the variables of a declaration are those by which its effects are shown
pub names_of_declared : (place : Place) (decl : written.Decl) → variable_names (body_variables_of place decl) ≡ variables_of decl
names_of_declared place decl =
    names-join (map parameter decl.params) (locals_in place decl.body) decl.params (locals_named_in decl.body)
    (names_of_parameters decl.params) (names_of_all place decl.body)

vars-join : (n m k : ℕ) (xs ys : List Name) → m ≡ n + length xs → k ≡ m + length ys → k ≡ n + length (xs ++ ys)
vars-join n m k xs ys e f = simp length-append (omega arith)

at_seam : (before rest : List Name) (name : Name) (n : ℕ) → n ≡ length before → slice_get (before ++ name ∷ rest) n ≡ Some name
at_seam before rest name n e =
    rw e (slice_get_read (before ++ name ∷ rest) (length (before ++ name ∷ rest)) (length before) name refl
    (simp length-append (omega arith)) (sym (get_or-append_seam before name rest name)))

seam_of : (names before rest : List Name) (name : Name) (n : ℕ) → n ≡ length before → names ≡ before ++ name ∷ rest → IsNamed names n name
seam_of names before rest name n e f = rw f (at_seam before rest name n e)

-- the next number after more names
next_is : (before one : List Name) (n m : ℕ) → n ≡ length before → m ≡ n + length one → m ≡ length (before ++ one)
next_is before one n m e f = simp length-append (omega arith)

-- the first names, moved to those that come before
parts_shift : (names before one more rest : List Name) → names ≡ before ++ ((one ++ more) ++ rest)
    → names ≡ (before ++ one) ++ (more ++ rest)
parts_shift names before one more rest f =
    f ∙ (ap (λ (l : List Name). before ++ l) (append_assoc one more rest) ∙ sym (append_assoc before one (more ++ rest)))

module _ (globals : List GlobalName) where
  -- the number of the next local
  mutual
    pub vars_after : (here : BodyScope) (s : Statement) → (after globals here s).vars ≡ here.vars + length (locals_named s)
    vars_after here (Block body) = vars_after_all (counted_binding here) body
    vars_after here (Let is_final local_type name value) = refl
    vars_after here (Set name value) = omega arith
    vars_after here (SetArray array index value) = omega arith
    vars_after here (SetGrid array row column value) = omega arith
    vars_after here (If arms) = vars_after_arms (counted_binding here) arms
    vars_after here (While word condition body) = vars_after_all (counted_binding here) body
    vars_after here (Return word value) = omega arith
    vars_after here (Print word value) = omega arith
    vars_after here (Call method args) = omega arith
    vars_after here (Make future task spawned args) = omega arith
    vars_after here (Wait wait) = omega arith
    vars_after here (LetWait is_final name wait) = refl

    pub vars_after_all : (here : BodyScope) (s : Statements) → (after_all globals here s).vars ≡ here.vars + length (locals_named_in s)
    vars_after_all here (end_of_block close) = omega arith
    vars_after_all here (statement first others) =
        let next : BodyScope = after globals here first in
        vars-join here.vars next.vars (after_all globals next others).vars (locals_named first) (locals_named_in others)
        (vars_after here first) (vars_after_all next others)

    pub vars_after_arms : (here : BodyScope) (s : Arms) → (after_arms globals here s).vars ≡ here.vars + length (locals_named_by s)
    vars_after_arms here (arm condition body others) =
        let next : BodyScope = after_block globals here body in
        vars-join here.vars next.vars (after_arms globals next others).vars (locals_named_in body) (locals_named_by others)
        (vars_after_all here body) (vars_after_arms next others)
    vars_after_arms here (otherwise body) = vars_after_all here body
    vars_after_arms here no_else = omega arith

  -- an assignment declares nothing, whatever its name is bound to
  set_named : (names : List Name) (here : BodyScope) (name : Name) (o : Option Binding) (value : written_expr.Expression)
      → AreNamed names (Set name value) (set_of here.points o (expression_of globals here.locals value) name.place)
  set_named names here name None value = (refl, refl)
  set_named names here name (Some (bindings.Global global)) value = (refl, refl)
  set_named names here name (Some (bindings.Local (local_kinds.Variable number type constant))) value = (refl, refl)
  set_named names here name (Some (bindings.Local (local_kinds.Future number spawned void))) value = (refl, refl)

  -- where what comes before is known, statements name the locals that they declare
  mutual
    pub named : (names before rest : List Name) (here : BodyScope) (s : Statement) → here.vars ≡ length before
        → names ≡ before ++ (locals_named s ++ rest) → AreNamed names s (statement_of globals here s)
    named names before rest here (Block body) e f = named_all names before rest (counted_binding here) body e f
    named names before rest here (Let is_final local_type name value) e f = seam_of names before rest name here.vars e f
    named names before rest here (Set name value) e f =
        set_named names here name (binding_of globals here.locals name.text) value
    named names before rest here (SetArray array index value) e f = (refl, refl)
    named names before rest here (SetGrid array row column value) e f = (refl, refl)
    named names before rest here (If arms) e f = named_arms names before rest (counted_binding here) arms e f
    named names before rest here (While word condition body) e f =
        named_all names before rest (counted_binding here) body e f
    named names before rest here (Return word value) e f = (refl, refl)
    named names before rest here (Print word value) e f = (refl, refl)
    named names before rest here (Call method args) e f = (refl, refl)
    named names before rest here (Make future task spawned args) e f = (refl, refl)
    named names before rest here (Wait wait) e f = (refl, refl)
    named names before rest here (LetWait is_final name wait) e f = seam_of names before rest name here.vars e f

    pub named_all : (names before rest : List Name) (here : BodyScope) (s : Statements) → here.vars ≡ length before
        → names ≡ before ++ (locals_named_in s ++ rest) → AreNamedIn names s (statements_of globals here s)
    named_all names before rest here (end_of_block close) e f = tt
    named_all names before rest here (statement first others) e f =
        let one : List Name = locals_named first in
        let more : List Name = locals_named_in others in (
          named names before (more ++ rest) here first e (f ∙ ap (λ (l : List Name). before ++ l) (append_assoc one more rest)),
          named_all names (before ++ one) rest (after globals here first) others
              (next_is before one here.vars (after globals here first).vars e (vars_after here first))
              (parts_shift names before one more rest f),
        )

    pub named_arms : (names before rest : List Name) (here : BodyScope) (s : Arms) → here.vars ≡ length before
        → names ≡ before ++ (locals_named_by s ++ rest) → AreNamedBy names s (arms_of globals here s)
    named_arms names before rest here (arm condition body others) e f =
        let one : List Name = locals_named_in body in
        let more : List Name = locals_named_by others in (
          named_all names before (more ++ rest) here body e (f ∙ ap (λ (l : List Name). before ++ l) (append_assoc one more rest)),
          named_arms names (before ++ one) rest (after_block globals here body) others
              (next_is before one here.vars (after_block globals here body).vars e (vars_after_all here body))
              (parts_shift names before one more rest f),
        )
    named_arms names before rest here (otherwise body) e f = named_all names before rest here body e f
    named_arms names before rest here no_else e f = tt

take_length : (xs ys : List Name) → take (length xs) (xs ++ ys) ≡ xs
take_length xs ys = take-append_seam xs ys

-- the names of the variables of a declaration, by the numbers that its meaning gives them
variables_named : (globals : List GlobalName) (deterministic : Bool) (decl : written.Decl)
    → NamesVariables (variables_of decl) decl (decl_of globals deterministic decl)
variables_named globals deterministic decl = record {
  parameters = take_length decl.params (locals_named_in decl.body);
  locals =
      named_all globals (variables_of decl) decl.params [] (at_body decl) decl.body refl
      (ap (λ (l : List Name). decl.params ++ l) (sym (append-nil (locals_named_in decl.body))));
  each = length-append decl.params (locals_named_in decl.body) ∙ sym (vars_after_all globals (at_body decl) decl.body);
}

pub declared_names : (globals : List GlobalName) (deterministic : Bool) (place : Place) (decl : written.Decl)
    → NamesVariables (variable_names (body_variables_of place decl)) decl (decl_of globals deterministic decl)
declared_names globals deterministic place decl =
    subst (λ (names : List Name). NamesVariables names decl (decl_of globals deterministic decl))
    (sym (names_of_declared place decl)) (variables_named globals deterministic decl)
