-- The end of a body.
use Rattle.std.proofs.Common.{◌≡◌, ◌<◌, ◌+◌, ◌^◌, List, [], ◌∷◌, refl, ap, ◌∙◌, arith}
use Rattle.twe_base.specs.declared.place.Place.{Place}
use Rattle.twe_ast.specs.declared.item.Decl.{Decl}
use Rattle.twe_ast.specs.Statement.{Statement, Statements}
use Rattle.twe_ast.specs.inner.StatementView.{statements_of}
use Rattle.name_check.specs.declared.names.GlobalName.{GlobalName}
use Rattle.name_check.specs.declared.scope.BodyScope.{BodyScope}
use Rattle.name_check.specs.Ends.{close_of}
use Rattle.name_check.specs.BodyScope.{after_all}
use Rattle.name_check.specs.Sites.{at_body}
use Rattle.name_check.proofs.Walks.{passes_all}
use Rattle.twe_names.specs.inner.Numbers.{IsSmallDecl}

close_of-statements_of : (items : List Statement) (close : Place) → close ≡ close_of (statements_of items close)
close_of-statements_of [] close = refl
close_of-statements_of (first ∷ others) close = close_of-statements_of others close

-- a block is closed at the place that its view ends with
pub close_is : (items : List Statement) (close : Place) (body : Statements) → statements_of items close ≡ body → close ≡ close_of body
close_is items close body is = close_of-statements_of items close ∙ ap close_of is

-- the point at the end of a body can be numbered
pub points_fit : (globals : List GlobalName) (decl : Decl) (start end : BodyScope) → IsSmallDecl decl → start ≡ at_body decl
    → end ≡ after_all globals start decl.body → end.points + 1 < 2 ^ 32
points_fit globals decl start end small start-is end-is =
    let walked = passes_all globals start decl.body in
    let all = ap (λ (here : BodyScope). here.points) end-is in
    let none = ap (λ (here : BodyScope). here.points) start-is in
    omega (arith, walked.points, all, none, small.size)
