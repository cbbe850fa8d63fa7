-- Bodies that assign to no parameter: each variable that they set comes after the parameters.
use Rattle.std.proofs.Common.{ℕ, ◌+◌, ◌≤◌, List, [], ◌∷◌, Option, None, Some, arith}
use Rattle.std.specs.Prelude.{option_to_list}
use Rattle.std.specs.List.{AllByRecursion}
use Rattle.twe_program.specs.Statement.{Statement, Block, Let, Set, SetCell, SetArray, SetGrid, If, While, Return, Print, Call, Make, Wait, Statements, no_more, statement, Arms, arm, otherwise, no_else}
use Rattle.twe_program.specs.Numbering.{CountUp, locals_of, locals_of_all, locals_of_arms}
use Rattle.twe_program.specs.Params.{SetsFrom, AllSetFrom, ArmsSetFrom}
use Rattle.effect_check.proofs.Members.{all-front, all-back}
use Rattle.isolation_laws.specs.soundness.RunsWith.{IntoFrom}

-- each variable that the statement sets is this one or a later one
abbrev mutual
  pub AssignsFrom : ℕ → Statement → Type 0
  AssignsFrom n (Block point body) = AllAssignFrom n body
  AssignsFrom n (Let point var value) = n ≤ var
  AssignsFrom n (Set point var value) = n ≤ var
  AssignsFrom n (SetCell point cell value place) = Unit {0}
  AssignsFrom n (SetArray point array index value place) = Unit {0}
  AssignsFrom n (SetGrid point array row column value place) = Unit {0}
  AssignsFrom n (If point arms) = ArmsAssignFrom n arms
  AssignsFrom n (While point condition body place) = AllAssignFrom n body
  AssignsFrom n (Return point value) = Unit {0}
  AssignsFrom n (Print point value place) = Unit {0}
  AssignsFrom n (Call point method args place) = Unit {0}
  AssignsFrom n (Make point future task args spawned future_place place) = Unit {0}
  AssignsFrom n (Wait point future join into place) = IntoFrom n into

  pub AllAssignFrom : ℕ → Statements → Type 0
  AllAssignFrom n no_more = Unit {0}
  AllAssignFrom n (statement first others) = AssignsFrom n first × AllAssignFrom n others

  pub ArmsAssignFrom : ℕ → Arms → Type 0
  ArmsAssignFrom n no_else = Unit {0}
  ArmsAssignFrom n (otherwise body) = AllAssignFrom n body
  ArmsAssignFrom n (arm condition body others) = AllAssignFrom n body × ArmsAssignFrom n others

abbrev pub AllFrom : ℕ → List ℕ → Type 0
AllFrom n xs = AllByRecursion (λ x. n ≤ x) xs

pub counted_from : (n m : ℕ) (xs : List ℕ) → n ≤ m → CountUp m xs → AllFrom n xs
counted_from n m [] le up = tt
counted_from n m (x ∷ xs) le up = (omega (arith, up.0), counted_from n (m + 1) xs (omega arith) up.1)

into_from : (n : ℕ) (into : Option ℕ) → AllFrom n (option_to_list into) → IntoFrom n into
into_from n None h = tt
into_from n (Some var) h = h.0

mutual
  assigns : (n : ℕ) (s : Statement) → SetsFrom n s → AllFrom n (locals_of s) → AssignsFrom n s
  assigns n (Block point body) sets locals = all_assign n body sets locals
  assigns n (Let point var value) sets locals = locals.0
  assigns n (Set point var value) sets locals = sets
  assigns n (SetCell point cell value place) sets locals = tt
  assigns n (SetArray point array index value place) sets locals = tt
  assigns n (SetGrid point array row column value place) sets locals = tt
  assigns n (If point arms) sets locals = arms_assign n arms sets locals
  assigns n (While point condition body place) sets locals = all_assign n body sets locals
  assigns n (Return point value) sets locals = tt
  assigns n (Print point value place) sets locals = tt
  assigns n (Call point method args place) sets locals = tt
  assigns n (Make point future task args spawned future_place place) sets locals = tt
  assigns n (Wait point future join into place) sets locals = into_from n into locals

  pub all_assign : (n : ℕ) (body : Statements) → AllSetFrom n body → AllFrom n (locals_of_all body) → AllAssignFrom n body
  all_assign n no_more sets locals = tt
  all_assign n (statement first others) sets locals =
      (assigns n first sets.0 (all-front _ (locals_of first) (locals_of_all others) locals), all_assign n others sets.1 (all-back _ (locals_of first) (locals_of_all others) locals))

  arms_assign : (n : ℕ) (arms : Arms) → ArmsSetFrom n arms → AllFrom n (locals_of_arms arms) → ArmsAssignFrom n arms
  arms_assign n no_else sets locals = tt
  arms_assign n (otherwise body) sets locals = all_assign n body sets locals
  arms_assign n (arm condition body others) sets locals =
      (all_assign n body sets.0 (all-front _ (locals_of_all body) (locals_of_arms others) locals), arms_assign n others sets.1 (all-back _ (locals_of_all body) (locals_of_arms others) locals))
