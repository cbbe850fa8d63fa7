use Rattle.std.proofs.Common.{List, length, sym, ◌∙◌, subst}
use Rattle.std.proofs.lemmas.Bool.{eqb-true}
use Rattle.std.proofs.lemmas.List.{nil_from_length}
use Rattle.refusal_notes.specs.declared.spots.Spot.{Spot}
use Rattle.refusal_notes.specs.Spots.{EndsCut}
use Rattle.refusal_notes.specs.inner.Cutting.{HasSpots, IsFront}
use Rattle.refusal_notes.proofs.Cutting.{column_fits, more_cut, none_cut, whole_cut}
use Rattle.refusal_notes.proofs.spots.spots_of.Goals as goal

-- nothing is cut off yet
pub loop-rest-init : goal.loop-rest-init
loop-rest-init c =
    subst (λ (spots : List Spot). HasSpots c.args.text.now spots c.first_mark-start.result c.args.text.now) (sym c.new-spots.ensures)
    (none_cut c.args.text.now c.first_mark-start.result c.first_mark-start.ensures)

-- nothing more can be cut off
pub returns-in_default : goal.returns-in_default
returns-in_default c =
    whole_cut c.args.text.now c.loop-rest.spots c.loop-rest.start c.loop-rest.rest.now c.loop-rest.invariant
    (subst (IsFront c.loop-rest.rest.now) c.in_default.is c.in_ok-lexeme.ensures)

-- the place can be counted
pub mark_past-start-requires-clause-column : goal.mark_past-start-requires-clause-column
mark_past-start-requires-clause-column c = column_fits c.args.text.now c.loop-rest.spots c.loop-rest.start c.loop-rest.rest.now c.loop-rest.invariant

-- one more lexeme is cut off
pub loop-rest-preserved-in_ok-add_lexeme : goal.loop-rest-preserved-in_ok-add_lexeme
loop-rest-preserved-in_ok-add_lexeme c =
    let rest = c.loop-rest.rest.now in
    subst (HasSpots c.args.text.now c.add_lexeme.new.spots c.mark_past-start.result) (sym c.split_at.ensures.back)
    (more_cut c.args.text.now c.loop-rest.spots c.add_lexeme.new.spots c.loop-rest.start c.mark_past-start.result rest c.split_at.result.0.now
    c.in-Some.lexeme c.loop-rest.invariant (subst (IsFront rest) c.in-Some.is c.in_ok-lexeme.ensures) c.split_at.ensures.front
    c.in_ok-add_lexeme.ensures c.mark_past-start.ensures)

pub loop-rest-preserved-in_ok-add_lexeme-2 : goal.loop-rest-preserved-in_ok-add_lexeme-2
loop-rest-preserved-in_ok-add_lexeme-2 c =
    let rest = c.loop-rest.rest.now in
    subst (HasSpots c.args.text.now c.add_lexeme.new.spots c.mark_past-start.result) (sym c.split_at.ensures.back)
    (more_cut c.args.text.now c.loop-rest.spots c.add_lexeme.new.spots c.loop-rest.start c.mark_past-start.result rest c.split_at.result.0.now
    c.in-Some.lexeme c.loop-rest.invariant (subst (IsFront rest) c.in-Some.is c.in_ok-lexeme.ensures) c.split_at.ensures.front
    c.in_ok-add_lexeme.ensures c.mark_past-start.ensures)

pub loop-rest-preserved : goal.loop-rest-preserved
loop-rest-preserved c =
    let rest = c.loop-rest.rest.now in
    subst (HasSpots c.args.text.now c.add_lexeme.new.spots c.mark_past-start.result) (sym c.split_at.ensures.back)
    (more_cut c.args.text.now c.loop-rest.spots c.add_lexeme.new.spots c.loop-rest.start c.mark_past-start.result rest c.split_at.result.0.now
    c.in-Some.lexeme c.loop-rest.invariant (subst (IsFront rest) c.in-Some.is c.in_ok-lexeme.ensures) c.split_at.ensures.front
    c.in_ok-add_lexeme.ensures c.mark_past-start.ensures)

-- the text is at its end
pub returns : goal.returns
returns c =
    let empty = nil_from_length c.loop-rest.rest.now (eqb-true (length c.loop-rest.rest.now) 0 (sym c.is_empty.ensures ∙ c.loop-rest-test.false)) in
    whole_cut c.args.text.now c.loop-rest.spots c.loop-rest.start c.loop-rest.rest.now c.loop-rest.invariant
    (subst EndsCut (sym empty) EndsCut.at_end)
