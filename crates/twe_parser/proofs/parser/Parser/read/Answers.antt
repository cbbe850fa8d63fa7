use Rattle.std.proofs.Common.{◌≡◌, ℕ, ◌+◌, ◌<◌, List, ◌++◌, length, take, drop, Some, sym, ap, ◌∙◌, subst, arith}
use Rattle.std.proofs.lemmas.Bool.{eqb-true}
use Rattle.std.proofs.lemmas.List.{nil_from_length}
use Rattle.std.proofs.lemmas.Result.{err_from_is_err_and}
use Rattle.twe_lexer.specs.Places.{place_after}
use Rattle.twe_parser.specs.declared.parser.Parser.{Parser}
use Rattle.twe_parser.specs.inner.Reading.{HasRead}
use Rattle.twe_parser.proofs.Refusals.{nothing_read, lines_fit, columns_fit, front_refused, token_refused, gap_read, token_read, shrinks, bytes_fit, none_left}
use Rattle.twe_parser.proofs.parser.Parser.read.Goals as goal
use Rattle.twe_parser.proofs.parser.Parser.read.Goals.{in-Some+in_ok-take, in_default}

pub loop-rest-init : goal.loop-rest-init
loop-rest-init c = nothing_read c.args.text.now c.first_place-place.result c.args.self.now c.first_place-place.ensures c.requires.machine c.requires.sofar

pub lexeme_at-requires-clause-lines : goal.lexeme_at-requires-clause-lines
lexeme_at-requires-clause-lines c = let fits = lines_fit c.args.text.now c.loop-rest.place c.loop-rest.rest.now c.loop-rest.self c.loop-rest.invariant in let short = c.requires.short in omega arith

pub lexeme_at-requires-clause-columns : goal.lexeme_at-requires-clause-columns
lexeme_at-requires-clause-columns c = let fits = columns_fit c.args.text.now c.loop-rest.place c.loop-rest.rest.now c.loop-rest.self c.loop-rest.invariant in let short = c.requires.short in omega arith

pub returns-in_err-lexeme-clause-refused : goal.returns-in_err-lexeme-clause-refused
returns-in_err-lexeme-clause-refused c =
    let p = err_from_is_err_and c.from_residual.result c.from_residual.ensures.1 in
    rw (p.1, p.2) (front_refused c.args.text.now c.loop-rest.place c.loop-rest.rest.now c.loop-rest.self c.loop-rest.invariant _ c.in_err-lexeme.ensures.refused)

pub take-requires-clause-brackets : goal.take-requires-clause-brackets
take-requires-clause-brackets c = c.loop-rest.invariant.brackets

pub take-requires-clause-operators : goal.take-requires-clause-operators
take-requires-clause-operators c = c.loop-rest.invariant.operators

pub returns-in_err-take-clause-refused : goal.returns-in_err-take-clause-refused
returns-in_err-take-clause-refused c =
    let p = err_from_is_err_and c.from_residual-in_err-take.result c.from_residual-in_err-take.ensures.1 in
    rw (p.1, p.2) (token_refused c.args.text.now c.loop-rest.place c.loop-rest.rest.now c.loop-rest.self c.loop-rest.invariant c.in_ok-lexeme.lexeme c.in_ok-lexeme.ensures.found _ _ (c.in-Some.is ∙ ap (λ kind. Some kind) (sym c.in-Some.kind-is)) c.in_err-take.ensures.refused)

pub place_past-place-requires-clause-lines : goal.place_past-place-requires-clause-lines
place_past-place-requires-clause-lines c =
    let fits = lines_fit c.args.text.now c.loop-rest.place c.loop-rest.rest.now c.loop-rest.self c.loop-rest.invariant in
    let bounded = bytes_fit c.loop-rest.place.line (length c.args.text.now + 1) c.loop-rest.rest.now c.split_at.result.0.now c.in_ok-lexeme.lexeme c.in_ok-lexeme.ensures.found c.split_at.ensures.front fits in
    let short = c.requires.short in omega arith

pub place_past-place-requires-clause-columns : goal.place_past-place-requires-clause-columns
place_past-place-requires-clause-columns c =
    let fits = columns_fit c.args.text.now c.loop-rest.place c.loop-rest.rest.now c.loop-rest.self c.loop-rest.invariant in
    let bounded = bytes_fit c.loop-rest.place.col (length c.args.text.now + 1) c.loop-rest.rest.now c.split_at.result.0.now c.in_ok-lexeme.lexeme c.in_ok-lexeme.ensures.found c.split_at.ensures.front fits in
    let short = c.requires.short in omega arith

pub loop-rest-smaller : goal.loop-rest-smaller
loop-rest-smaller c = subst (λ (rest : List ℕ). length rest < length c.loop-rest.rest.now) (sym c.split_at.ensures.back) (shrinks c.loop-rest.rest.now c.in_ok-lexeme.lexeme c.in_ok-lexeme.ensures.found)

pub loop-rest-preserved : goal.loop-rest-preserved
loop-rest-preserved c =
    let lexeme = c.in_ok-lexeme.lexeme in
    let rest = c.loop-rest.rest.now in
    let moves : (before : List ℕ) → c.loop-rest.place ≡ place_after before → c.place_past-place.result ≡ place_after (before ++ take c.in_ok-lexeme.lexeme.len c.loop-rest.rest.now) =
    λ before is. c.place_past-place.ensures before is ∙ ap (λ bytes. place_after (before ++ bytes)) c.split_at.ensures.front in
    subst (λ (left : List ℕ). HasRead c.args.text.now c.place_past-place.result left c.match-lexeme.self) (sym c.split_at.ensures.back)
    (elim c.match-lexeme.branch [
      | in-Some+in_ok-take w ↦
          subst (λ (parser : Parser). HasRead c.args.text.now c.place_past-place.result (drop lexeme.len rest) parser) (sym w.self-is)
          (token_read c.args.text.now c.loop-rest.place rest c.loop-rest.self c.loop-rest.invariant lexeme c.in_ok-lexeme.ensures.found c.place_past-place.result moves _ _ (w.in-Some.is ∙ ap (λ kind. Some kind) (sym w.in-Some.kind-is)) w.in_ok-take.ensures.taken)
      | in_default w ↦
          subst (λ (parser : Parser). HasRead c.args.text.now c.place_past-place.result (drop lexeme.len rest) parser) (sym w.self-is)
          (gap_read c.args.text.now c.loop-rest.place rest c.loop-rest.self c.loop-rest.invariant lexeme c.in_ok-lexeme.ensures.found c.place_past-place.result moves (none_left lexeme.token w.in_default.not-Some))
    ])

pub returns-clause-read : goal.returns-clause-read
returns-clause-read c =
    let empty = nil_from_length c.loop-rest.rest.now (eqb-true (length c.loop-rest.rest.now) 0 (sym c.is_empty.ensures ∙ c.loop-rest-test.false)) in
    subst (λ (rest : List ℕ). HasRead c.args.text.now c.loop-rest.place rest c.loop-rest.self) empty c.loop-rest.invariant
