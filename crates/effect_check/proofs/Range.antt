-- What a body does is at points that it has, with futures that it has.
use Rattle.std.proofs.Common.{◌≡◌, ◌<◌, ◌≤◌, ℕ, ◌+◌, Bool, List, [], ◌∷◌, ◌++◌, Option, None, Some, length, map, slice_get, inl, inr, subst, arith}
use Rattle.std.specs.List.{AllByRecursion}
use Rattle.std.proofs.lemmas.Option.{slice_get_cases}
use Rattle.twe_program.specs.declared.program.Decl.{Decl}
use Rattle.twe_program.specs.Program.{Program}
use Rattle.twe_program.specs.Expression.{Expression, Literal, Truth, Variable, CellValue, ArrayElement, GridElement, CallValue, Negative, Negation, Binary, Arguments, argument}
use Rattle.twe_program.specs.Expression as args
use Rattle.twe_program.specs.Statement.{Statement, Block, Let, Set, SetCell, SetArray, SetGrid, If, While, Return, Print, Call, Make, Wait, Statements, no_more, statement, Arms, arm, otherwise, no_else}
use Rattle.twe_program.specs.Numbering.{Declared, CountUp, points_of, points_of_all, points_of_arms, futures_of, futures_of_all, futures_of_arms}
use Rattle.twe_program.specs.Fitting.{Scope, StatementFits, StatementsFit, ArmsFit, WaitFits}
use Rattle.twe_program.specs.WellFormed.{DeclFits, scope_of}
use Rattle.effect_check.specs.declared.act.Act.{Act}
use Rattle.effect_check.specs.declared.act.ActKind.{ActKind}
use Rattle.effect_check.specs.declared.act.ActKind.TheVariants as kinds
use Rattle.effect_check.specs.Acts.{acts_of, acts_of_all, acts_of_value, acts_in, acts_in_all, acts_in_one}
use Rattle.twe_base.proofs.Members.{all-append, all-front, all-back}

-- the future is below the number, where it is of one
abbrev pub FutureBelow : ℕ → ActKind → Type 0
FutureBelow futures (kinds.Make future spawned deterministic effects future_place place) = future < futures
FutureBelow futures (kinds.Wait future join place) = future < futures
FutureBelow futures _ = Unit {0}

-- the point and the future are below the numbers
abbrev pub IsInRange : ℕ → ℕ → Act → Type 0
IsInRange points futures act = (act.point < points) × FutureBelow futures act.kind

abbrev pub AllInRange : ℕ → ℕ → List Act → Type 0
AllInRange points futures acts = AllByRecursion (IsInRange points futures) acts

abbrev PointsBelow : ℕ → List ℕ → Type 0
PointsBelow points = AllByRecursion (λ point. point < points)

abbrev FuturesBelow : ℕ → List Declared → Type 0
FuturesBelow futures = AllByRecursion (λ f. f.future < futures)

module _ (p : Program) (points futures : ℕ) where
  join : (xs ys : List Act) → AllInRange points futures xs → AllInRange points futures ys → AllInRange points futures (xs ++ ys)
  join xs ys h k = all-append (IsInRange points futures) xs ys h k

  mutual
    of-in_range : (point : ℕ) → point < points → (e : Expression) → AllInRange points futures (acts_of p point e)
    of-in_range point here (Literal value) = tt
    of-in_range point here (Truth value) = tt
    of-in_range point here (Variable var fixed) = tt
    of-in_range point here (CellValue cell place) = ((here, tt), tt)
    of-in_range point here (ArrayElement array index place) = ((here, tt), of-in_range point here index)
    of-in_range point here (GridElement array row column place) =
        ((here, tt), join (acts_of p point row) (acts_of p point column) (of-in_range point here row) (of-in_range point here column))
    of-in_range point here (CallValue method args place) = ((here, tt), of_all-in_range point here args)
    of-in_range point here (Negative operand) = of-in_range point here operand
    of-in_range point here (Negation operand) = of-in_range point here operand
    of-in_range point here (Binary op left right place) =
        join (acts_of p point left) (acts_of p point right) (of-in_range point here left) (of-in_range point here right)

    of_all-in_range : (point : ℕ) → point < points → (es : Arguments) → AllInRange points futures (acts_of_all p point es)
    of_all-in_range point here args.no_more = tt
    of_all-in_range point here (argument first others) =
        join (acts_of p point first) (acts_of_all p point others) (of-in_range point here first) (of_all-in_range point here others)

  of_value-in_range : (point : ℕ) → point < points → (value : Option Expression) → AllInRange points futures (acts_of_value p point value)
  of_value-in_range point here None = tt
  of_value-in_range point here (Some value) = of-in_range point here value

  module _ (scope : Scope) (count : length scope.futures ≤ futures) where
    waits_below : (future : ℕ) (awaited : Bool) (into : Option ℕ) → WaitFits scope (slice_get scope.futures future) awaited into → future < futures
    waits_below future awaited into h = elim (slice_get_cases scope.futures future).1 [
      | inl there ↦ let below : future < length scope.futures = there.1 in omega arith
      | inr past ↦ absurd (subst (λ o. WaitFits scope o awaited into) past.1 h)
    ]

    mutual
      in-in_range : (s : Statement) → StatementFits scope s → PointsBelow points (points_of s) → FuturesBelow futures (futures_of s)
          → AllInRange points futures (acts_in p s)
      in-in_range (Block point body) fits at of = in_all-in_range body fits at.1 of
      in-in_range (Let point var value) fits at of = of-in_range point at.0 value
      in-in_range (Set point var value) fits at of = of-in_range point at.0 value
      in-in_range (SetCell point cell value place) fits at of = ((at.0, tt), of-in_range point at.0 value)
      in-in_range (SetArray point array index value place) fits at of =
          ((at.0, tt), join (acts_of p point index) (acts_of p point value) (of-in_range point at.0 index) (of-in_range point at.0 value))
      in-in_range (SetGrid point array row column value place) fits at of = (
        (at.0, tt),
        join (acts_of p point row) (acts_of p point column ++ acts_of p point value) (of-in_range point at.0 row)
            (join (acts_of p point column) (acts_of p point value) (of-in_range point at.0 column) (of-in_range point at.0 value)),
      )
      in-in_range (If point arms) fits at of = in_one-in_range point at.0 arms fits at.1 of
      in-in_range (While point condition body place) fits at of =
          join (acts_of p point condition) (acts_in_all p body) (of-in_range point at.0 condition) (in_all-in_range body fits.1 at.1 of)
      in-in_range (Return point value) fits at of = of_value-in_range point at.0 value
      in-in_range (Print point value place) fits at of = ((at.0, tt), of-in_range point at.0 value)
      in-in_range (Call point method args place) fits at of = ((at.0, tt), of_all-in_range point at.0 args)
      in-in_range (Make point future task args spawned future_place place) fits at of = ((at.0, of.0), of_all-in_range point at.0 args)
      in-in_range (Wait point future awaited into place) fits at of = ((at.0, waits_below future awaited into fits), tt)

      in_all-in_range : (s : Statements) → StatementsFit scope s → PointsBelow points (points_of_all s) → FuturesBelow futures (futures_of_all s)
          → AllInRange points futures (acts_in_all p s)
      in_all-in_range no_more fits at of = tt
      in_all-in_range (statement first others) fits at of =
          join (acts_in p first) (acts_in_all p others)
          (in-in_range first fits.0 (all-front (λ point. point < points) (points_of first) (points_of_all others) at) (all-front (λ f. f.future < futures) (futures_of first) (futures_of_all others) of))
          (in_all-in_range others fits.1 (all-back (λ point. point < points) (points_of first) (points_of_all others) at) (all-back (λ f. f.future < futures) (futures_of first) (futures_of_all others) of))

      in_one-in_range : (point : ℕ) → point < points → (s : Arms) → ArmsFit scope s → PointsBelow points (points_of_arms s) → FuturesBelow futures (futures_of_arms s)
          → AllInRange points futures (acts_in_one p point s)
      in_one-in_range point here no_else fits at of = tt
      in_one-in_range point here (otherwise body) fits at of = in_all-in_range body fits at of
      in_one-in_range point here (arm condition body others) fits at of =
          join (acts_of p point condition) (acts_in_all p body ++ acts_in_one p point others) (of-in_range point here condition)
          (join (acts_in_all p body) (acts_in_one p point others)
          (in_all-in_range body fits.1 (all-front (λ q. q < points) (points_of_all body) (points_of_arms others) at) (all-front (λ f. f.future < futures) (futures_of_all body) (futures_of_arms others) of))
          (in_one-in_range point here others fits.2 (all-back (λ q. q < points) (points_of_all body) (points_of_arms others) at) (all-back (λ f. f.future < futures) (futures_of_all body) (futures_of_arms others) of)))

points_below : (n : ℕ) (xs : List ℕ) (m : ℕ) → CountUp n xs → n + length xs ≤ m → PointsBelow m xs
points_below n [] m h b = tt
points_below n (x ∷ xs) m h b = let e : x ≡ n = h.0 in (omega arith, points_below (n + 1) xs m h.1 (omega arith))

futures_below : (n : ℕ) (xs : List Declared) (m : ℕ) → CountUp n (map (λ f. f.future) xs) → n + length xs ≤ m → FuturesBelow m xs
futures_below n [] m h b = tt
futures_below n (x ∷ xs) m h b = let e : x.future ≡ n = h.0 in (omega arith, futures_below (n + 1) xs m h.1 (omega arith))

-- all that a body does is at its points and of its futures
pub body-in_range : (p : Program) (decl : Decl) → DeclFits p decl → AllInRange decl.body.points decl.body.futures (acts_in_all p decl.body.block)
body-in_range p decl fits =
    let block = decl.body.block in
    let point_count : decl.body.points ≡ length (points_of_all block) + 1 = fits.numbered.point_count in
    let future_count : decl.body.futures ≡ length (futures_of_all block) = fits.numbered.future_count in
    let count : length (futures_of_all block) ≤ decl.body.futures = omega arith in
    in_all-in_range p decl.body.points decl.body.futures (scope_of p decl) count block fits.body
    (points_below 0 (points_of_all block) decl.body.points fits.numbered.points (omega arith))
    (futures_below 0 (futures_of_all block) decl.body.futures fits.numbered.futures (omega arith))
