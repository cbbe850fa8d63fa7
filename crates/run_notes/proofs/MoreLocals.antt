-- The locals of a block, statement by statement.
use Rattle.std.proofs.Common.{◌≡◌, ◌<◌, ◌+◌, ◌++◌, ℕ, List, length, get_or, drop, sym, ap, ◌∙◌, append_assoc}
use Rattle.twe_ast.specs.Statement.{Statement, Statements}
use Rattle.twe_ast.specs.inner.StatementView.{statements_of}
use Rattle.twe_base.specs.declared.place.Place.{Place}
use Rattle.name_check.proofs.Bodies.{close_is, next_statement}
use Rattle.run_notes.specs.BodyVariables.{locals_in, locals_of}
use Rattle.run_notes.specs.declared.body_variables.BodyVariable.{BodyVariable}

-- the locals up to a statement of a block that ends at `close`, with those of the statement
pub one_statement_more : (place close : Place) (items : List Statement) (i : ℕ) (item : Statement) (old new all : List BodyVariable) → i < length items → get_or items i item ≡ item
    → new ≡ old ++ locals_of place close item → old ++ locals_in place (statements_of (drop i items) close) ≡ all
    → new ++ locals_in place (statements_of (drop (i + 1) items) close) ≡ all
one_statement_more place close items i item old new all below is added so_far =
    let rest : Statements = statements_of (drop (i + 1) items) close in
    ap (λ (l : List BodyVariable). l ++ locals_in place rest) added
    ∙ (append_assoc old (locals_of place close item) (locals_in place rest)
    ∙ (ap (λ (c : Place). old ++ (locals_of place c item ++ locals_in place rest)) (sym (close_is (drop (i + 1) items) close))
    ∙ (ap (λ (b : Statements). old ++ locals_in place b) (sym (next_statement items close i item below is)) ∙ so_far)))
