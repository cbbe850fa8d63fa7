-- A walk over statements counts each of them, at most as many variables and futures, and keeps what was seen before.
use Rattle.std.proofs.Common.{◌≡◌, ℕ, ◌+◌, ◌≤◌, List, [], ◌∷◌, ◌++◌, length, take, append_assoc, refl, ap, ◌∙◌, arith}
use Rattle.std.proofs.Math.Seq.{take-append_seam}
use Rattle.twe_ast.specs.Statement.{Statement, Block, Let, Set, SetArray, SetGrid, If, While, Return, Print, Call, Make, Wait, LetWait, Statements, end_of_block, statement, Arms, arm, otherwise, no_else}
use Rattle.name_check.specs.declared.names.GlobalName.{GlobalName}
use Rattle.name_check.specs.declared.scope.LocalName.{LocalName}
use Rattle.name_check.specs.declared.scope.BodyScope.{BodyScope}
use Rattle.name_check.specs.BodyScope.{counted_binding, leaving, after, after_all, after_arms}
use Rattle.name_check.specs.Size.{statements_in, statements_in_all, statements_in_arms}

-- from one place to a later one there are so many statements
pub record Passes (before later : BodyScope) (count : ℕ) : Type 0 where
  pub points : later.points ≡ before.points + count
  pub vars_more : before.vars ≤ later.vars
  pub vars : later.vars ≤ before.vars + count
  pub futures_more : before.futures ≤ later.futures
  pub futures : later.futures ≤ before.futures + count
  pub more : List LocalName
  pub locals : later.locals ≡ before.locals ++ more

append-nothing : (xs : List LocalName) → xs ≡ xs ++ []
append-nothing [] = refl
append-nothing (x ∷ xs) = ap (λ ys. x ∷ ys) (append-nothing xs)

pub passes-none : (here : BodyScope) → Passes here here 0
passes-none here = record {
  points = omega arith;
  vars_more = omega arith;
  vars = omega arith;
  futures_more = omega arith;
  futures = omega arith;
  more = [];
  locals = append-nothing here.locals;
}

-- one way after another
pub passes-then : (a b c : BodyScope) (first second count : ℕ) → count ≡ first + second → Passes a b first → Passes b c second → Passes a c count
passes-then a b c first second count sum p q = record {
  points = omega (arith, p.points, q.points);
  vars_more = omega (arith, p.vars_more, q.vars_more);
  vars = omega (arith, p.vars, q.vars);
  futures_more = omega (arith, p.futures_more, q.futures_more);
  futures = omega (arith, p.futures, q.futures);
  more = p.more ++ q.more;
  locals = q.locals ∙ (ap (λ xs. xs ++ q.more) p.locals ∙ append_assoc a.locals p.more q.more);
}

-- a block is passed, and what it declares is seen no more
pub passes-block : (here inside : BodyScope) (count : ℕ) → Passes here inside count → Passes here (leaving here inside) count
passes-block here inside count p = record {
  points = p.points;
  vars_more = p.vars_more;
  vars = p.vars;
  futures_more = p.futures_more;
  futures = p.futures;
  more = [];
  locals = append-nothing here.locals;
}

passes-one : (here : BodyScope) → Passes here (counted_binding here) 1
passes-one here = record {
  points = refl;
  vars_more = omega arith;
  vars = omega arith;
  futures_more = omega arith;
  futures = omega arith;
  more = [];
  locals = append-nothing here.locals;
}

passes-variable : (here : BodyScope) (name : LocalName) → Passes here (record (counted_binding here) { locals = here.locals ++ name ∷ []; vars = here.vars + 1 }) 1
passes-variable here name = record {
  points = refl;
  vars_more = omega arith;
  vars = omega arith;
  futures_more = omega arith;
  futures = omega arith;
  more = name ∷ [];
  locals = refl;
}

passes-future : (here : BodyScope) (name : LocalName) → Passes here (record (counted_binding here) { locals = here.locals ++ name ∷ []; futures = here.futures + 1 }) 1
passes-future here name = record {
  points = refl;
  vars_more = omega arith;
  vars = omega arith;
  futures_more = omega arith;
  futures = omega arith;
  more = name ∷ [];
  locals = refl;
}

passes-nested : (here later : BodyScope) (count : ℕ) → Passes (counted_binding here) later count → Passes here later (count + 1)
passes-nested here later count p = passes-then here (counted_binding here) later 1 count (count + 1) (omega arith) (passes-one here) p

mutual
  pub passes : (globals : List GlobalName) (here : BodyScope) (s : Statement) → Passes here (after globals here s) (statements_in s)
  passes globals here (Block body) = passes-nested here _ _ (passes-block (counted_binding here) _ _ (passes_all globals (counted_binding here) body))
  passes globals here (Let is_final local_type name value) = passes-variable here _
  passes globals here (If arms) = passes-nested here _ _ (passes_arms globals (counted_binding here) arms)
  passes globals here (While place condition body) = passes-nested here _ _ (passes-block (counted_binding here) _ _ (passes_all globals (counted_binding here) body))
  passes globals here (Make future task spawned args) = passes-future here _
  passes globals here (LetWait is_final name wait) = passes-variable here _
  passes globals here (Set name value) = passes-one here
  passes globals here (SetArray array index value) = passes-one here
  passes globals here (SetGrid array row column value) = passes-one here
  passes globals here (Return place value) = passes-one here
  passes globals here (Print place value) = passes-one here
  passes globals here (Call method args) = passes-one here
  passes globals here (Wait wait) = passes-one here

  pub passes_all : (globals : List GlobalName) (here : BodyScope) (body : Statements) → Passes here (after_all globals here body) (statements_in_all body)
  passes_all globals here (end_of_block close) = passes-none here
  passes_all globals here (statement first others) =
      passes-then here (after globals here first) (after_all globals (after globals here first) others) (statements_in first) (statements_in_all others) _ refl
      (passes globals here first) (passes_all globals (after globals here first) others)

  pub passes_arms : (globals : List GlobalName) (here : BodyScope) (arms : Arms) → Passes here (after_arms globals here arms) (statements_in_arms arms)
  passes_arms globals here (arm condition body others) =
      let next : BodyScope = leaving here (after_all globals here body) in
      passes-then here next (after_arms globals next others) (statements_in_all body) (statements_in_arms others) _ refl
      (passes-block here (after_all globals here body) (statements_in_all body) (passes_all globals here body)) (passes_arms globals next others)
  passes_arms globals here (otherwise body) = passes-block here (after_all globals here body) (statements_in_all body) (passes_all globals here body)
  passes_arms globals here no_else = passes-none here

-- what was seen before is what is seen first later
pub passes-take : (before later : BodyScope) (count : ℕ) → Passes before later count → take (length before.locals) later.locals ≡ before.locals
passes-take before later count p = ap (take (length before.locals)) p.locals ∙ take-append_seam before.locals p.more
