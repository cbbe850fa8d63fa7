use Rattle.std.proofs.Common.{ℕ, List, ◌∷◌, ◌++◌, length, sym, ap, ◌∙◌, subst}
use Rattle.std.proofs.lemmas.Bool.{eqb-true}
use Rattle.std.proofs.lemmas.List.{nil_from_length}
use Rattle.text_pieces.specs.Pieces.{pieces_from}
use Rattle.text_pieces.specs.inner.Cutting.{HasCut}
use Rattle.text_pieces.proofs.Cutting.{more_cut, whole_cut}
use Rattle.text_pieces.proofs.cut.cut_text.Goals as goal

pub loop-rest-preserved-in_ok-start : goal.loop-rest-preserved-in_ok-start
loop-rest-preserved-in_ok-start c =
    let lexeme = c.in_ok-lexeme.lexeme in
    let pieces = c.loop-rest.pieces in
    let start = c.loop-rest.start in
    let rest = c.loop-rest.rest.now in
    subst (λ (left : List ℕ). HasCut c.args.text.now c.add_lexeme.new.pieces c.in_ok-start.start left) (sym c.split_at.ensures.back)
    (more_cut c.args.text.now pieces c.add_lexeme.new.pieces start c.in_ok-start.start rest lexeme c.loop-rest.invariant c.in_ok-lexeme.ensures.found
    (λ more. ap (λ (bytes : List ℕ). pieces ++ pieces_from start (bytes ∷ more)) (sym c.split_at.ensures.front) ∙ c.in_ok-start.ensures more))

pub loop-rest-preserved-in_ok-start-2 : goal.loop-rest-preserved-in_ok-start-2
loop-rest-preserved-in_ok-start-2 c =
    let lexeme = c.in_ok-lexeme.lexeme in
    let pieces = c.loop-rest.pieces in
    let start = c.loop-rest.start in
    let rest = c.loop-rest.rest.now in
    subst (λ (left : List ℕ). HasCut c.args.text.now c.add_lexeme.new.pieces c.in_ok-start.start left) (sym c.split_at.ensures.back)
    (more_cut c.args.text.now pieces c.add_lexeme.new.pieces start c.in_ok-start.start rest lexeme c.loop-rest.invariant c.in_ok-lexeme.ensures.found
    (λ more. ap (λ (bytes : List ℕ). pieces ++ pieces_from start (bytes ∷ more)) (sym c.split_at.ensures.front) ∙ c.in_ok-start.ensures more))

pub loop-rest-preserved : goal.loop-rest-preserved
loop-rest-preserved c =
    let lexeme = c.in_ok-lexeme.lexeme in
    let pieces = c.loop-rest.pieces in
    let start = c.loop-rest.start in
    let rest = c.loop-rest.rest.now in
    subst (λ (left : List ℕ). HasCut c.args.text.now c.add_lexeme.new.pieces c.in_ok-start.start left) (sym c.split_at.ensures.back)
    (more_cut c.args.text.now pieces c.add_lexeme.new.pieces start c.in_ok-start.start rest lexeme c.loop-rest.invariant c.in_ok-lexeme.ensures.found
    (λ more. ap (λ (bytes : List ℕ). pieces ++ pieces_from start (bytes ∷ more)) (sym c.split_at.ensures.front) ∙ c.in_ok-start.ensures more))

pub returns-clause-pieces : goal.returns-clause-pieces
returns-clause-pieces c =
    let empty = nil_from_length c.loop-rest.rest.now (eqb-true (length c.loop-rest.rest.now) 0 (sym c.is_empty.ensures ∙ c.loop-rest-test.false)) in
    whole_cut c.args.text.now c.loop-rest.pieces c.loop-rest.start (subst (λ (rest : List ℕ). HasCut c.args.text.now c.loop-rest.pieces c.loop-rest.start rest) empty c.loop-rest.invariant)
