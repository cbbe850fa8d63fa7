-- What a body does in two programs that differ in the summaries of methods alone: the same, but for the effects of called methods.
use Rattle.std.proofs.Common.{◌≡◌, ◌⊎◌, ℕ, Bool, true, false, List, [], ◌∷◌, ◌++◌, Option, None, Some, inl, inr, refl}
use Rattle.twe_base.specs.declared.place.Place.{Place}
use Rattle.effect_sets.specs.declared.effects.Summary.{Summary}
use Rattle.twe_program.specs.Program.{Program}
use Rattle.twe_program.specs.Expression.{Expression, Literal, Truth, Variable, CellValue, ArrayElement, GridElement, CallValue, Negative, Negation, Binary, Arguments, argument}
use Rattle.twe_program.specs.Expression as args
use Rattle.twe_program.specs.Statement.{Statement, Block, Let, Set, SetCell, SetArray, SetGrid, If, While, Return, Print, Call, Make, Wait, Statements, no_more, statement, Arms, arm, otherwise, no_else}
use Rattle.effect_check.specs.declared.act.Act.{Act}
use Rattle.effect_check.specs.Acts.{call, acts_of, acts_of_all, acts_of_value, acts_in, acts_in_all, acts_in_one}
use Rattle.effect_infer.specs.needs.Choices.{with_summaries}
use Rattle.twe_base.proofs.Members.{IsIn}

-- the acts of one body in two programs
pub data Alike (p q : Program) : List Act → List Act → Type 0 where
  none : Alike p q [] []
  same : (act : Act) (xs ys : List Act) → Alike p q xs ys → Alike p q (act ∷ xs) (act ∷ ys)
  calls : (point method : ℕ) (given : Arguments) (place : Place) (xs ys : List Act) → Alike p q xs ys
      → Alike p q (call p point method given place ∷ xs) (call q point method given place ∷ ys)

-- the act is a call of this method, which the other body makes too
pub record IsCallIn (p q : Program) (act : Act) (others : List Act) : Type 0 where
  pub point : ℕ
  pub method : ℕ
  pub given : Arguments
  pub place : Place
  pub is : act ≡ call p point method given place
  pub there : IsIn (call q point method given place) others

later : (p q : Program) (act other : Act) (others : List Act) → IsIn act others ⊎ IsCallIn p q act others → IsIn act (other ∷ others) ⊎ IsCallIn p q act (other ∷ others)
later p q act other others (inl h) = inl (inr h)
later p q act other others (inr c) = inr (record { point = c.point; method = c.method; given = c.given; place = c.place; is = c.is; there = inr c.there })

-- each act of the first is one of the second, but for its effects if it is a call
pub alike-in : (p q : Program) (xs ys : List Act) → Alike p q xs ys → (act : Act) → IsIn act xs → IsIn act ys ⊎ IsCallIn p q act ys
alike-in p q _ _ none act h = absurd h
alike-in p q _ _ (same x xs ys others) act (inl e) = inl (inl e)
alike-in p q _ _ (same x xs ys others) act (inr h) = later p q act x ys (alike-in p q xs ys others act h)
alike-in p q _ _ (calls point method given place xs ys others) act (inl e) =
    inr (record { point = point; method = method; given = given; place = place; is = e; there = inl refl })
alike-in p q _ _ (calls point method given place xs ys others) act (inr h) = later p q act (call q point method given place) ys (alike-in p q xs ys others act h)

-- and the other way round
pub alike-back : (p q : Program) (xs ys : List Act) → Alike p q xs ys → Alike q p ys xs
alike-back p q _ _ none = none
alike-back p q _ _ (same x xs ys others) = same x ys xs (alike-back p q xs ys others)
alike-back p q _ _ (calls point method given place xs ys others) = calls point method given place ys xs (alike-back p q xs ys others)

both : (p q : Program) (xs ys us vs : List Act) → Alike p q xs ys → Alike p q us vs → Alike p q (xs ++ us) (ys ++ vs)
both p q _ _ us vs none rest = rest
both p q _ _ us vs (same x xs ys others) rest = same x (xs ++ us) (ys ++ vs) (both p q xs ys us vs others rest)
both p q _ _ us vs (calls point method given place xs ys others) rest =
    calls point method given place (xs ++ us) (ys ++ vs) (both p q xs ys us vs others rest)

module _ (p : Program) (summaries : List Summary) where
  other : Program
  other = with_summaries summaries p

  mutual
    alike-expression : (point : ℕ) (e : Expression) → Alike (with_summaries summaries p) p (acts_of (with_summaries summaries p) point e) (acts_of p point e)
    alike-expression point (Literal value) = none
    alike-expression point (Truth value) = none
    alike-expression point (Variable var fixed) = none
    alike-expression point (CellValue cell place) = same _ _ _ none
    alike-expression point (ArrayElement array index place) = same _ _ _ (alike-expression point index)
    alike-expression point (GridElement array row column place) = same _ _ _ (both _ _ _ _ _ _ (alike-expression point row) (alike-expression point column))
    alike-expression point (CallValue method args place) = calls point method args place _ _ (alike-arguments point args)
    alike-expression point (Negative operand) = alike-expression point operand
    alike-expression point (Negation operand) = alike-expression point operand
    alike-expression point (Binary op left right place) = both _ _ _ _ _ _ (alike-expression point left) (alike-expression point right)

    alike-arguments : (point : ℕ) (es : Arguments) → Alike (with_summaries summaries p) p (acts_of_all (with_summaries summaries p) point es) (acts_of_all p point es)
    alike-arguments point args.no_more = none
    alike-arguments point (argument first others) = both _ _ _ _ _ _ (alike-expression point first) (alike-arguments point others)

  alike-value : (point : ℕ) (value : Option Expression) → Alike (with_summaries summaries p) p (acts_of_value (with_summaries summaries p) point value) (acts_of_value p point value)
  alike-value point None = none
  alike-value point (Some value) = alike-expression point value

  mutual
    alike-statement : (s : Statement) → Alike (with_summaries summaries p) p (acts_in (with_summaries summaries p) s) (acts_in p s)
    alike-statement (Block point body) = alike-statements body
    alike-statement (Let point var value) = alike-expression point value
    alike-statement (Set point var value) = alike-expression point value
    alike-statement (SetCell point cell value place) = same _ _ _ (alike-expression point value)
    alike-statement (SetArray point array index value place) = same _ _ _ (both _ _ _ _ _ _ (alike-expression point index) (alike-expression point value))
    alike-statement (SetGrid point array row column value place) =
        same _ _ _ (both _ _ _ _ _ _ (alike-expression point row) (both _ _ _ _ _ _ (alike-expression point column) (alike-expression point value)))
    alike-statement (If point arms) = alike-arms point arms
    alike-statement (While point condition body place) = both _ _ _ _ _ _ (alike-expression point condition) (alike-statements body)
    alike-statement (Return point value) = alike-value point value
    alike-statement (Print point value place) = same _ _ _ (alike-expression point value)
    alike-statement (Call point method args place) = calls point method args place _ _ (alike-arguments point args)
    alike-statement (Make point future task args spawned future_place place) = same _ _ _ (alike-arguments point args)
    alike-statement (Wait point future join into place) = same _ _ _ none

    pub alike-statements : (ss : Statements) → Alike (with_summaries summaries p) p (acts_in_all (with_summaries summaries p) ss) (acts_in_all p ss)
    alike-statements no_more = none
    alike-statements (statement first others) = both _ _ _ _ _ _ (alike-statement first) (alike-statements others)

    alike-arms : (point : ℕ) (arms : Arms) → Alike (with_summaries summaries p) p (acts_in_one (with_summaries summaries p) point arms) (acts_in_one p point arms)
    alike-arms point (arm condition body others) =
        both _ _ _ _ _ _ (alike-expression point condition) (both _ _ _ _ _ _ (alike-statements body) (alike-arms point others))
    alike-arms point (otherwise body) = alike-statements body
    alike-arms point no_else = none
