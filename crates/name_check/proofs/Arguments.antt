-- How many arguments there are.
use Rattle.std.proofs.Common.{◌≡◌, ◌+◌, List, [], ◌∷◌, length, get_or, drop, ℕ, ◌<◌, refl, ap, ◌∙◌, arith}
use Rattle.std.proofs.lemmas.List.{drop_more}
use Rattle.twe_ast.specs.Expression.{Expression, argument}
use Rattle.twe_ast.specs.inner.ExpressionView.{arguments_of}
use Rattle.name_check.specs.Types.{argument_count}

pub count_is : (items : List Expression) → argument_count (arguments_of items) ≡ length items
count_is [] = refl
count_is (first ∷ others) = let rest = count_is others in omega arith

-- the argument at a place, and those after it
pub next_argument : (items : List Expression) (i : ℕ) (item : Expression) → i < length items → get_or items i item ≡ item
    → arguments_of (drop i items) ≡ argument item (arguments_of (drop (i + 1) items))
next_argument items i item below is = ap arguments_of (drop_more items i item below ∙ ap (λ x. x ∷ drop (i + 1) items) is)
