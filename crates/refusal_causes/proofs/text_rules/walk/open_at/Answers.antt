use Rattle.std.proofs.Common.{length, sym, ◌∙◌, subst, arith}
use Rattle.std.proofs.lemmas.Bool.{eqb-true, false≢true}
use Rattle.std.proofs.lemmas.List.{nil_from_length}
use Rattle.refusal_causes.proofs.text_rules.Walks.{columns_fit, lines_fit, stands}
use Rattle.refusal_causes.proofs.text_rules.Ways.{begins, broken, goes_on, none_ahead}
use Rattle.refusal_causes.specs.text_rules.inner.Walked.{IsFrontOf}
use Rattle.refusal_causes.proofs.text_rules.walk.open_at.Goals as goal

-- nothing is passed yet
pub loop-rest-init : goal.loop-rest-init
loop-rest-init c = begins c.args.text.now c.first_walk-walk.result c.args.place c.first_walk-walk.ensures

-- lines and columns can be counted
pub pass_lexeme-requires-clause-lines : goal.pass_lexeme-requires-clause-lines
pass_lexeme-requires-clause-lines c =
    let way = c.loop-rest.invariant in
    let fits = lines_fit c.args.text.now c.loop-rest.rest.now way.lexemes c.loop-rest.walk way.walked in
    let short = c.requires in
    omega arith

pub pass_lexeme-requires-clause-columns : goal.pass_lexeme-requires-clause-columns
pass_lexeme-requires-clause-columns c =
    let way = c.loop-rest.invariant in
    let fits = columns_fit c.args.text.now c.loop-rest.rest.now way.lexemes c.loop-rest.walk way.walked in
    let short = c.requires in
    omega arith

-- the walk has come to the place
pub returns-then-is_at : goal.returns-then-is_at
returns-then-is_at c =
    let way = c.loop-rest.invariant in
    stands c.args.text.now c.loop-rest.rest.now way.lexemes c.loop-rest.walk c.args.place way.walked (c.is_at.ensures.here c.if-is_at.true)

pub returns-then-is_at-2 : goal.returns-then-is_at-2
returns-then-is_at-2 c =
    let way = c.loop-rest.invariant in
    stands c.args.text.now c.loop-rest.rest.now way.lexemes c.loop-rest.walk c.args.place way.walked (c.is_at-2.ensures.here c.if-is_at-2.true)

-- nothing more can be passed
pub returns-in_default : goal.returns-in_default
returns-in_default c =
    let way = c.loop-rest.invariant in
    broken c.args.text.now c.loop-rest.rest.now way.lexemes c.loop-rest.walk c.args.place way.walked way.ahead
    (λ is. false≢true (sym c.if-is_at.false ∙ c.is_at.ensures.elsewhere is))
    (subst (IsFrontOf c.loop-rest.rest.now) c.in_default.is c.in_ok-lexeme.ensures)

pub returns-else-is_at-2 : goal.returns-else-is_at-2
returns-else-is_at-2 c =
    let way = c.loop-rest.invariant in
    let empty = nil_from_length c.loop-rest.rest.now (eqb-true (length c.loop-rest.rest.now) 0 (sym c.is_empty.ensures ∙ c.loop-rest-test.false)) in
    none_ahead c.args.text.now c.loop-rest.rest.now way.lexemes c.loop-rest.walk c.args.place way.walked way.ahead
    (λ is. false≢true (sym c.if-is_at-2.false ∙ c.is_at-2.ensures.elsewhere is)) empty

-- one lexeme is passed
pub loop-rest-preserved : goal.loop-rest-preserved
loop-rest-preserved c =
    goes_on c.args.text.now c.loop-rest.rest.now c.split_at.result.1.now c.loop-rest.walk c.pass_lexeme.new.walk c.args.place c.loop-rest.invariant
    (λ is. false≢true (sym c.if-is_at.false ∙ c.is_at.ensures.elsewhere is)) c.in-Some.lexeme
    (subst (IsFrontOf c.loop-rest.rest.now) c.in-Some.is c.in_ok-lexeme.ensures) c.split_at.ensures.back c.in_ok-pass_lexeme.ensures

pub loop-rest-preserved-in_ok-pass_lexeme : goal.loop-rest-preserved-in_ok-pass_lexeme
loop-rest-preserved-in_ok-pass_lexeme c =
    goes_on c.args.text.now c.loop-rest.rest.now c.split_at.result.1.now c.loop-rest.walk c.pass_lexeme.new.walk c.args.place c.loop-rest.invariant
    (λ is. false≢true (sym c.if-is_at.false ∙ c.is_at.ensures.elsewhere is)) c.in-Some.lexeme
    (subst (IsFrontOf c.loop-rest.rest.now) c.in-Some.is c.in_ok-lexeme.ensures) c.split_at.ensures.back c.in_ok-pass_lexeme.ensures

pub loop-rest-preserved-in_ok-pass_lexeme-2 : goal.loop-rest-preserved-in_ok-pass_lexeme-2
loop-rest-preserved-in_ok-pass_lexeme-2 c =
    goes_on c.args.text.now c.loop-rest.rest.now c.split_at.result.1.now c.loop-rest.walk c.pass_lexeme.new.walk c.args.place c.loop-rest.invariant
    (λ is. false≢true (sym c.if-is_at.false ∙ c.is_at.ensures.elsewhere is)) c.in-Some.lexeme
    (subst (IsFrontOf c.loop-rest.rest.now) c.in-Some.is c.in_ok-lexeme.ensures) c.split_at.ensures.back c.in_ok-pass_lexeme.ensures
