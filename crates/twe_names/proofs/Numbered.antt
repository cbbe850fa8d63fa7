-- What statements mean is numbered on from where they stand.
use Rattle.std.proofs.Common.{◌≡◌, ℕ, suc, ◌+◌, Bool, List, [], ◌∷◌, ◌++◌, Option, None, Some, map, length, refl, sym, ap, ◌∙◌, subst, arith, length-append}
use Rattle.twe_ast.specs.declared.stmt.LocalType.{LocalType}
use Rattle.twe_ast.specs.declared.stmt.LocalType.TheVariants as types
use Rattle.twe_ast.specs.Statement.{Statement, Block, Let, Set, SetArray, SetGrid, If, While, Return, Print, Call, Make, Wait, LetWait, Statements, end_of_block, statement, Arms, arm, otherwise, no_else}
use Rattle.twe_base.specs.declared.place.Place.{Place}
use Rattle.twe_program.specs.Expression.{Expression}
use Rattle.twe_program.specs.Numbering.{CountUp, Declared, points_of, points_of_all, points_of_arms, locals_of, locals_of_all, locals_of_arms, futures_of, futures_of_all, futures_of_arms}
use Rattle.name_check.specs.declared.names.GlobalName.{GlobalName}
use Rattle.name_check.specs.declared.scope.BodyScope.{BodyScope}
use Rattle.name_check.specs.declared.binding.Local.TheVariants as local_kinds
use Rattle.name_check.specs.declared.binding.Binding.{Binding}
use Rattle.name_check.specs.declared.binding.Binding.TheVariants as bindings
use Rattle.name_check.specs.Names.{binding_of}
use Rattle.name_check.specs.BodyScope.{counted_binding, leaving, with_variable, after, after_all, after_arms, after_block}
use Rattle.twe_names.specs.BodyMeaning.{set_of, statement_of, statements_of, arms_of, expression_of}
use Rattle.twe_names.proofs.Lists.{count_up-append}

abbrev pub numbers_of : List Declared → List ℕ
numbers_of futures = map (λ (f : Declared). f.future) futures

-- between two places of a body these points, locals and futures are numbered
pub record Numbered (from to : BodyScope) (points locals : List ℕ) (futures : List Declared) : Type 0 where
  pub points_up : CountUp from.points points
  pub points_end : to.points ≡ from.points + length points
  pub locals_up : CountUp from.vars locals
  pub locals_end : to.vars ≡ from.vars + length locals
  pub futures_up : CountUp from.futures (numbers_of futures)
  pub futures_end : to.futures ≡ from.futures + length futures

numbers-append : (xs ys : List Declared) → numbers_of (xs ++ ys) ≡ numbers_of xs ++ numbers_of ys
numbers-append [] ys = refl
numbers-append (x ∷ xs) ys = ap (λ ns. x.future ∷ ns) (numbers-append xs ys)

numbers-length : (xs : List Declared) → length (numbers_of xs) ≡ length xs
numbers-length [] = refl
numbers-length (x ∷ xs) = ap suc (numbers-length xs)

up-join : (n m : ℕ) (xs ys : List ℕ) → CountUp n xs → m ≡ n + length xs → CountUp m ys → CountUp n (xs ++ ys)
up-join n m xs ys h e k = count_up-append n xs ys h (subst (λ k. CountUp k ys) e k)

end-join : {X : Type 0} (n m k : ℕ) (xs ys : List X) → m ≡ n + length xs → k ≡ m + length ys → k ≡ n + length (xs ++ ys)
end-join n m k xs ys e f = simp length-append (omega arith)

numbered-join : (a b c : BodyScope) (ps qs ls ms : List ℕ) (fs gs : List Declared)
    → Numbered a b ps ls fs → Numbered b c qs ms gs → Numbered a c (ps ++ qs) (ls ++ ms) (fs ++ gs)
numbered-join a b c ps qs ls ms fs gs h k = record {
  points_up = up-join a.points b.points ps qs h.points_up h.points_end k.points_up;
  points_end = end-join a.points b.points c.points ps qs h.points_end k.points_end;
  locals_up = up-join a.vars b.vars ls ms h.locals_up h.locals_end k.locals_up;
  locals_end = end-join a.vars b.vars c.vars ls ms h.locals_end k.locals_end;
  futures_up =
      let e : b.futures ≡ a.futures + length (numbers_of fs) = h.futures_end ∙ ap (λ n. a.futures + n) (sym (numbers-length fs)) in
      subst (CountUp a.futures) (sym (numbers-append fs gs)) (up-join a.futures b.futures (numbers_of fs) (numbers_of gs) h.futures_up e k.futures_up);
  futures_end = end-join a.futures b.futures c.futures fs gs h.futures_end k.futures_end;
}

-- where nothing is declared
numbered-none : (here : BodyScope) → Numbered here here [] [] []
numbered-none here = record {
  points_up = tt;
  points_end = omega arith;
  locals_up = tt;
  locals_end = omega arith;
  futures_up = tt;
  futures_end = omega arith;
}

-- one statement that declares nothing
numbered-one : (here : BodyScope) → Numbered here (counted_binding here) (here.points ∷ []) [] []
numbered-one here = record {
  points_up = (refl, tt);
  points_end = refl;
  locals_up = tt;
  locals_end = omega arith;
  futures_up = tt;
  futures_end = omega arith;
}

numbered-leaving : (outside a b : BodyScope) (ps ls : List ℕ) (fs : List Declared) → Numbered a b ps ls fs → Numbered a (leaving outside b) ps ls fs
numbered-leaving outside a b ps ls fs h = record {
  points_up = h.points_up;
  points_end = h.points_end;
  locals_up = h.locals_up;
  locals_end = h.locals_end;
  futures_up = h.futures_up;
  futures_end = h.futures_end;
}

-- the statement, and then what is inside it
numbered-inside : (here to : BodyScope) (ps ls : List ℕ) (fs : List Declared) → Numbered (counted_binding here) to ps ls fs → Numbered here to (here.points ∷ ps) ls fs
numbered-inside here to ps ls fs h = numbered-join here (counted_binding here) to (here.points ∷ []) ps [] ls [] fs (numbered-one here) h

numbered-block : (here to : BodyScope) (ps ls : List ℕ) (fs : List Declared)
    → Numbered (counted_binding here) to ps ls fs → Numbered here (leaving (counted_binding here) to) (here.points ∷ ps) ls fs
numbered-block here to ps ls fs h =
    numbered-inside here (leaving (counted_binding here) to) ps ls fs (numbered-leaving (counted_binding here) (counted_binding here) to ps ls fs h)

numbered-variable : (here : BodyScope) (text : List ℕ) (type : LocalType) (constant : Bool)
    → Numbered here (with_variable (counted_binding here) text type constant) (here.points ∷ []) (here.vars ∷ []) []
numbered-variable here text type constant = record {
  points_up = (refl, tt);
  points_end = refl;
  locals_up = (refl, tt);
  locals_end = refl;
  futures_up = tt;
  futures_end = omega arith;
}

numbered-set : (here : BodyScope) (o : Option Binding) (value : Expression) (place : Place)
    → Numbered here (counted_binding here) (points_of (set_of here.points o value place)) (locals_of (set_of here.points o value place)) (futures_of (set_of here.points o value place))
numbered-set here None value place = numbered-one here
numbered-set here (Some (bindings.Global global)) value place = numbered-one here
numbered-set here (Some (bindings.Local (local_kinds.Variable number type constant))) value place = numbered-one here
numbered-set here (Some (bindings.Local (local_kinds.Future number spawned void))) value place = numbered-one here

module _ (globals : List GlobalName) where
  mutual
    pub numbered : (here : BodyScope) (s : Statement)
        → Numbered here (after globals here s) (points_of (statement_of globals here s)) (locals_of (statement_of globals here s)) (futures_of (statement_of globals here s))
    numbered here (Block body) =
        let inner = statements_of globals (counted_binding here) body in
        numbered-block here (after_all globals (counted_binding here) body) (points_of_all inner) (locals_of_all inner) (futures_of_all inner) (numbered_all (counted_binding here) body)
    numbered here (Let is_final local_type name value) = numbered-variable here name.text local_type is_final
    numbered here (Set name value) =
        numbered-set here (binding_of globals here.locals name.text) (expression_of globals here.locals value) name.place
    numbered here (SetArray array index value) = numbered-one here
    numbered here (SetGrid array row column value) = numbered-one here
    numbered here (If arms) =
        let inner = arms_of globals (counted_binding here) arms in
        numbered-inside here (after_arms globals (counted_binding here) arms) (points_of_arms inner) (locals_of_arms inner) (futures_of_arms inner) (numbered_arms (counted_binding here) arms)
    numbered here (While place condition body) =
        let inner = statements_of globals (counted_binding here) body in
        numbered-block here (after_all globals (counted_binding here) body) (points_of_all inner) (locals_of_all inner) (futures_of_all inner) (numbered_all (counted_binding here) body)
    numbered here (Return place value) = numbered-one here
    numbered here (Print place value) = numbered-one here
    numbered here (Call method args) = numbered-one here
    numbered here (Make future task spawned args) = record {
      points_up = (refl, tt);
      points_end = refl;
      locals_up = tt;
      locals_end = omega arith;
      futures_up = (refl, tt);
      futures_end = refl;
    }
    numbered here (Wait wait) = numbered-one here
    numbered here (LetWait is_final name wait) = numbered-variable here name.text types.Int is_final

    pub numbered_all : (here : BodyScope) (s : Statements)
        → Numbered here (after_all globals here s) (points_of_all (statements_of globals here s)) (locals_of_all (statements_of globals here s)) (futures_of_all (statements_of globals here s))
    numbered_all here (end_of_block close) = numbered-none here
    numbered_all here (statement first others) =
        let next = after globals here first in
        let one = statement_of globals here first in
        let more = statements_of globals next others in
        numbered-join here next (after_all globals next others) (points_of one) (points_of_all more) (locals_of one) (locals_of_all more)
        (futures_of one) (futures_of_all more) (numbered here first) (numbered_all next others)

    pub numbered_arms : (here : BodyScope) (s : Arms)
        → Numbered here (after_arms globals here s) (points_of_arms (arms_of globals here s)) (locals_of_arms (arms_of globals here s)) (futures_of_arms (arms_of globals here s))
    numbered_arms here (arm condition body others) =
        let next = after_block globals here body in
        let one = statements_of globals here body in
        let more = arms_of globals next others in
        numbered-join here next (after_arms globals next others) (points_of_all one) (points_of_arms more) (locals_of_all one) (locals_of_arms more)
        (futures_of_all one) (futures_of_arms more)
        (numbered-leaving here here (after_all globals here body) (points_of_all one) (locals_of_all one) (futures_of_all one) (numbered_all here body))
        (numbered_arms next others)
    numbered_arms here (otherwise body) =
        let one = statements_of globals here body in
        numbered-leaving here here (after_all globals here body) (points_of_all one) (locals_of_all one) (futures_of_all one) (numbered_all here body)
    numbered_arms here no_else = numbered-none here
