-- The parser's steps through a text, and its results.
use Rattle.std.proofs.Common.{◌≡◌, ℕ, ◌+◌, ◌-◌, ◌<◌, ◌≤◌, ◌⊎◌, inl, inr, Bool, true, false, not, ◌&&◌, ◌||◌, nat_le, nat_lt, List, [], ◌∷◌, ◌++◌, Option, None, Some, Result, Ok, Err, suc, length, get_or, take, drop, drop-cons, refl, sym, ap, ◌∙◌, subst, arith}
use Rattle.std.specs.Prelude.{if◌then◌else◌, count_by, IfOk, IfErr}
use Rattle.std.specs.List.{list_all, suffix_len}
use Rattle.std.proofs.lemmas.Bool.{false≢true, and_from, cond-true, cond-false}
use Rattle.std.proofs.lemmas.Bool.Decides.{nat_tests}
use Rattle.std.proofs.lemmas.List.{append_assoc, append-nil, length-append, take-append-drop}
use Rattle.std.proofs.lemmas.List.Folds.{list_all-append}
use Rattle.std.proofs.lemmas.List.Sums.{fold-append, count_by-le-length, suffix_len-le-length}
use Rattle.twe_base.specs.declared.place.Place.{Place}
use Rattle.twe_ast.specs.declared.item.Ast.{Ast}
use Rattle.twe_ast.specs.declared.item.Item.{Item}
use Rattle.twe_lexer.specs.declared.lexeme.Lexeme.{Lexeme}
use Rattle.twe_lexer.specs.declared.token.Token.{Token}
use Rattle.twe_lexer.specs.declared.token.TokenKind.{TokenKind}
use Rattle.twe_lexer.specs.Front.{Opens}
use Rattle.twe_lexer.specs.Kinds.{kind_of, token_kind}
use Rattle.twe_lexer.specs.Lexeme.{is_allowed, is_line_end, IsLexeme, IsUnclosedComment}
use Rattle.twe_lexer.specs.Places.{place_after, is_gap}
use Rattle.twe_lexer.specs.Tokens.{AreFirstLexemes, tokens_from, BeginsWith}
use Rattle.twe_parser.specs.declared.fail.ParseFail.{ParseFail}
use Rattle.twe_parser.specs.declared.fail.ParseFail.TheVariants as fails
use Rattle.twe_parser.specs.declared.fail.SRule.{SRule}
use Rattle.twe_parser.specs.declared.fail.SRule.TheVariants.{S1, S2, S3, S4, S5, S6}
use Rattle.twe_parser.specs.declared.limits.Sofar.{Sofar}
use Rattle.twe_parser.specs.declared.parser.Parser.{Parser}
use Rattle.twe_parser.specs.Fails.{Fails, byte, stray, unfinished, too_large, too_deep, unclosed, rule_rank, ComesFirst, IsSyntaxFailure, Refuses}
use Rattle.twe_parser.specs.Limits.{opens, closes, is_operator, ends_statement, sofar_after, sofar_of, limits_at_start, is_too_large, is_too_deep}
use Rattle.twe_parser.specs.Viable.{IsProgram, IsViable}
use Rattle.twe_parser.specs.Writes.{Writes, WritesItems}
use Rattle.twe_parser.specs.inner.Fine.{fine}
use Rattle.twe_parser.specs.inner.Machine.{Machine, start, after, result_from}
use Rattle.twe_parser.specs.inner.Parsing.{RefusesFront, RefusesLexeme}
use Rattle.twe_parser.specs.inner.Reading.{concat, HasTaken, HasRead, EndsEarly, EndsWhole}
use Rattle.twe_parser.specs.inner.Taking.{Takes, RefusesBy, RefusesToken}
use Rattle.twe_parser.proofs.Cuts.{no_lexeme, cut_split, cut_append, tokens_from_append, all_snoc}
use Rattle.twe_parser.proofs.Located.{FailsToken, token_of, Located, at_byte, at_token, at_end, at_comment, located, concat_append, empty_front}
use Rattle.twe_parser.proofs.Order.{comment_first, token_first, byte_first, lexeme_some}
use Rattle.twe_parser.proofs.State.{viable, stray_token, token_more, not_whole, whole_program}

no_token : (before : List Token) (token : Token) (others : List Token) → ◌≡◌ {A = List Token} [] (before ++ token ∷ others) → ⊥
no_token [] token others is = cc
no_token (first ∷ before) token others is = cc

-- nothing is read yet
pub nothing_read : (text : List ℕ) (place : Place) (parser : Parser) → place ≡ place_after [] → ◌≡◌ {A = Machine} (parser.machine.stack, parser.machine.values) start → parser.sofar ≡ limits_at_start → HasRead text place text parser
nothing_read text place parser place_is machine sofar = record {
  lexemes = [];
  cut = refl;
  place_is = place_is;
  allowed = refl;
  closed = tt;
  taken = record {
    takes = λ more. ap (λ (m : Machine). result_from more m.0 m.1) (sym machine);
    can_end = ap (λ (m : Machine). fine m.0) machine;
  };
  limits = sofar;
  brackets = subst (λ (s : Sofar). s.open_brackets ≤ 200) (sym sofar) (omega arith);
  operators = subst (λ (s : Sofar). s.operators ≤ 200) (sym sofar) (omega arith);
  passes = λ before token others is. absurd (no_token before token others is);
}

concat_snoc : (lexemes : List (List ℕ)) (bytes : List ℕ) → concat (lexemes ++ bytes ∷ []) ≡ concat lexemes ++ bytes
concat_snoc lexemes bytes = concat_append lexemes (bytes ∷ []) ∙ ap (λ more. concat lexemes ++ more) (append-nil bytes)

sofar_snoc : (tokens : List Token) (token : Token) → sofar_of (tokens ++ token ∷ []) ≡ sofar_after (sofar_of tokens) token.kind
sofar_snoc tokens token = fold-append (λ sofar t. sofar_after sofar t.kind) limits_at_start tokens (token ∷ [])

-- the places that are left can be counted
pub lines_fit : (text : List ℕ) (place : Place) (rest : List ℕ) (parser : Parser) → HasRead text place rest parser → place.line + length rest ≤ length text + 1
lines_fit text place rest parser read =
    let line_is : place.line ≡ 1 + count_by is_line_end (concat read.lexemes) = ap (λ at. at.line) read.place_is in
    let counted : length text ≡ length (concat read.lexemes) + length rest = ap length (cut_split read.lexemes text rest read.cut) ∙ length-append (concat read.lexemes) rest in
    let bounded = count_by-le-length is_line_end (concat read.lexemes) in
    omega arith

pub columns_fit : (text : List ℕ) (place : Place) (rest : List ℕ) (parser : Parser) → HasRead text place rest parser → place.col + length rest ≤ length text + 1
columns_fit text place rest parser read =
    let col_is : place.col ≡ 1 + suffix_len (λ code. not (is_line_end code)) (concat read.lexemes) = ap (λ at. at.col) read.place_is in
    let counted : length text ≡ length (concat read.lexemes) + length rest = ap length (cut_split read.lexemes text rest read.cut) ∙ length-append (concat read.lexemes) rest in
    let bounded = suffix_len-le-length (λ code. not (is_line_end code)) (concat read.lexemes) in
    omega arith

some_kind : (bytes : List ℕ) (gap : Bool) (kind : TokenKind) → is_gap bytes ≡ gap → Some kind ≡ token_kind bytes → (is_gap bytes ≡ false) × (kind ≡ kind_of bytes)
some_kind bytes true kind is found = let none : ◌≡◌ {A = Option TokenKind} (Some kind) None = found ∙ cond-true (is_gap bytes) None (Some (kind_of bytes)) is in cc
some_kind bytes false kind is found = let some : ◌≡◌ {A = Option TokenKind} (Some kind) (Some (kind_of bytes)) = found ∙ cond-false (is_gap bytes) None (Some (kind_of bytes)) is in (is, cc)

no_kind : (bytes : List ℕ) (gap : Bool) → is_gap bytes ≡ gap → None ≡ token_kind bytes → is_gap bytes ≡ true
no_kind bytes true is found = is
no_kind bytes false is found = let some : ◌≡◌ {A = Option TokenKind} None (Some (kind_of bytes)) = found ∙ cond-false (is_gap bytes) None (Some (kind_of bytes)) is in cc

last_or_not : (before : List Token) (t : Token) (others all : List Token) (x : Token) → all ++ x ∷ [] ≡ before ++ t ∷ others → ((before ≡ all) × (t ≡ x)) ⊎ ((more : List Token) × (all ≡ before ++ t ∷ more))
last_or_not [] t others [] x is = inl (refl, cc)
last_or_not [] t others (first ∷ all) x is = let same : first ≡ t = cc in inr (all, λ i. same i ∷ all)
last_or_not (second ∷ before) t others [] x is = let none : ◌≡◌ {A = List Token} [] (before ++ t ∷ others) = cc in absurd (no_token before t others none)
last_or_not (second ∷ before) t others (first ∷ all) x is =
    let rest : all ++ x ∷ [] ≡ before ++ t ∷ others = cc in
    let head : first ≡ second = cc in
    join head (last_or_not before t others all x rest)
  where
    join : first ≡ second → ((before ≡ all) × (t ≡ x)) ⊎ ((more : List Token) × (all ≡ before ++ t ∷ more)) → ((second ∷ before ≡ first ∷ all) × (t ≡ x)) ⊎ ((more : List Token) × (first ∷ all ≡ second ∷ (before ++ t ∷ more)))
    join head (inl (same, here)) = inl ((λ i. sym head i ∷ same i), here)
    join head (inr (more, same)) = inr (more, λ i. head i ∷ same i)

opened_small : (opening close deep : Bool) (n : ℕ) → deep ≡ false → n ≤ 200 → (opening ≡ true → deep ≡ false → n < 200) → (if opening then n + 1 else if close then n - 1 else n) ≤ 200
opened_small true close deep n shallow small room = let r = room refl shallow in omega arith
opened_small false true deep n shallow small room = omega arith
opened_small false false deep n shallow small room = small

counted_small : (ends counts : Bool) (n : ℕ) → n ≤ 200 → (counts ≡ true → n < 200) → (if ends then 0 else if counts then n + 1 else n) ≤ 200
counted_small true counts n small room = omega arith
counted_small false true n small room = let r = room refl in omega arith
counted_small false false n small room = small

room_left : (opening : Bool) (n : ℕ) (others : Bool) → ((opening && nat_le 200 n) || others) ≡ false → opening ≡ true → n < 200
room_left true n others shallow is = grind (arith, nat_tests)
room_left false n others shallow is = absurd (false≢true is)

room_counted : (first operator inside : Bool) (n : ℕ) → (first || ((operator && inside) && nat_le 200 n)) ≡ false → (operator && inside) ≡ true → n < 200
room_counted true operator inside n shallow is = absurd (false≢true (sym shallow))
room_counted false true true n shallow is = grind (arith, nat_tests)
room_counted false true false n shallow is = absurd (false≢true is)
room_counted false false inside n shallow is = absurd (false≢true is)

-- the counts stay within the limits if none is exceeded
small_after : (sofar : Sofar) (kind : TokenKind) → is_too_deep sofar kind ≡ false → sofar.open_brackets ≤ 200 → sofar.operators ≤ 200 → ((sofar_after sofar kind).open_brackets ≤ 200) × ((sofar_after sofar kind).operators ≤ 200)
small_after sofar kind shallow brackets operators = (
  opened_small (opens kind) (closes kind) (is_too_deep sofar kind) sofar.open_brackets shallow brackets (λ is deep. room_left (opens kind) sofar.open_brackets _ shallow is),
  counted_small (ends_statement kind) (is_operator kind && nat_lt 0 sofar.open_brackets) sofar.operators operators (λ is. room_counted (opens kind && nat_le 200 sofar.open_brackets) (is_operator kind) (nat_lt 0 sofar.open_brackets) sofar.operators shallow is),
)

-- the tokens after one more lexeme
gap_tokens : (lexemes : List (List ℕ)) (bytes : List ℕ) → is_gap bytes ≡ true → tokens_from [] (lexemes ++ bytes ∷ []) ≡ tokens_from [] lexemes
gap_tokens lexemes bytes gap =
    tokens_from_append [] lexemes (bytes ∷ []) ∙ ap (λ more. tokens_from [] lexemes ++ more) (cond-true (is_gap bytes) _ _ gap) ∙ append-nil (tokens_from [] lexemes)

token_tokens : (lexemes : List (List ℕ)) (bytes : List ℕ) → is_gap bytes ≡ false → tokens_from [] (lexemes ++ bytes ∷ []) ≡ tokens_from [] lexemes ++ token_of (concat lexemes) bytes ∷ []
token_tokens lexemes bytes token = tokens_from_append [] lexemes (bytes ∷ []) ∙ ap (λ more. tokens_from [] lexemes ++ more) (cond-false (is_gap bytes) _ _ token)

module _ (text : List ℕ) (place : Place) (rest : List ℕ) (parser : Parser) (read : HasRead text place rest parser) (lexeme : Lexeme) (opens_it : Opens lexeme rest) where
  -- the place after the lexeme
  abbrev Moves : Place → Type 0
  Moves next = (before : List ℕ) → place ≡ place_after before → next ≡ place_after (before ++ take lexeme.len rest)

  next_is : (next : Place) → Moves next → next ≡ place_after (concat (read.lexemes ++ take lexeme.len rest ∷ []))
  next_is next moves = moves (concat read.lexemes) read.place_is ∙ ap place_after (sym (concat_snoc read.lexemes (take lexeme.len rest)))

  cut_more : AreFirstLexemes (read.lexemes ++ take lexeme.len rest ∷ []) text (drop lexeme.len rest)
  cut_more = cut_append read.lexemes (take lexeme.len rest ∷ []) text rest (drop lexeme.len rest) read.cut (drop lexeme.len rest, opens_it.first, refl)

  allowed_more : list_all is_allowed (concat (read.lexemes ++ take lexeme.len rest ∷ [])) ≡ true
  allowed_more =
      ap (list_all is_allowed) (concat_snoc read.lexemes (take lexeme.len rest)) ∙ list_all-append is_allowed (concat read.lexemes) (take lexeme.len rest)
      ∙ and_from (list_all is_allowed (concat read.lexemes)) (list_all is_allowed (take lexeme.len rest)) read.allowed opens_it.allowed

  -- one more blank or comment
  pub gap_read : (next : Place) → Moves next → lexeme.token ≡ None → HasRead text next (drop lexeme.len rest) parser
  gap_read next moves none =
      let gap = no_kind (take lexeme.len rest) (is_gap (take lexeme.len rest)) refl (sym none ∙ opens_it.token) in
      let same = gap_tokens read.lexemes (take lexeme.len rest) gap in record {
        lexemes = read.lexemes ++ take lexeme.len rest ∷ [];
        cut = cut_more;
        place_is = next_is next moves;
        allowed = allowed_more;
        closed = all_snoc (λ l. ¬ IsUnclosedComment l) read.lexemes (take lexeme.len rest) read.closed opens_it.closed;
        taken = subst (λ (tokens : List Token). HasTaken tokens parser.machine.stack parser.machine.values) (sym same) read.taken;
        limits = read.limits ∙ ap sofar_of (sym same);
        brackets = read.brackets;
        operators = read.operators;
        passes = λ before token others is. read.passes before token others (sym same ∙ is);
      }

  -- which token the lexeme is
  the_token : (kind : TokenKind) → lexeme.token ≡ Some kind → (is_gap (take lexeme.len rest) ≡ false) × (kind ≡ kind_of (take lexeme.len rest))
  the_token kind is = some_kind (take lexeme.len rest) (is_gap (take lexeme.len rest)) kind refl (sym is ∙ opens_it.token)

  same_token : (kind : TokenKind) → lexeme.token ≡ Some kind → ◌≡◌ {A = Token} (record { kind = kind; place = place }) (token_of (concat read.lexemes) (take lexeme.len rest))
  same_token kind is = λ i. record { kind = (the_token kind is).1 i; place = read.place_is i }

  -- one more token
  pub token_read : (next : Place) → Moves next → (kind : TokenKind) (parser' : Parser) → lexeme.token ≡ Some kind → Takes (record { kind = kind; place = place }) parser parser' → HasRead text next (drop lexeme.len rest) parser'
  token_read next moves kind parser' is takes =
      let token = (the_token kind is).0 in
      let here = token_of (concat read.lexemes) (take lexeme.len rest) in
      let same : tokens_from [] (read.lexemes ++ take lexeme.len rest ∷ []) ≡ tokens_from [] read.lexemes ++ (record { kind = kind; place = place }) ∷ [] =
      token_tokens read.lexemes (take lexeme.len rest) token ∙ ap (λ (t : Token). tokens_from [] read.lexemes ++ t ∷ []) (sym (same_token kind is)) in
      let small : (is_too_large (sofar_of (tokens_from [] read.lexemes)) kind ≡ false) × (is_too_deep (sofar_of (tokens_from [] read.lexemes)) kind ≡ false) =
      (ap (λ (s : Sofar). is_too_large s kind) (sym read.limits) ∙ takes.small, ap (λ (s : Sofar). is_too_deep s kind) (sym read.limits) ∙ takes.shallow) in
      let bounds = small_after parser.sofar kind takes.shallow read.brackets read.operators in record {
        lexemes = read.lexemes ++ take lexeme.len rest ∷ [];
        cut = cut_more;
        place_is = next_is next moves;
        allowed = allowed_more;
        closed = all_snoc (λ l. ¬ IsUnclosedComment l) read.lexemes (take lexeme.len rest) read.closed opens_it.closed;
        taken = subst (λ (tokens : List Token). HasTaken tokens parser'.machine.stack parser'.machine.values) (sym same)
            (token_more (tokens_from [] read.lexemes) parser.machine.stack parser.machine.values (record { kind = kind; place = place }) (parser'.machine.stack, parser'.machine.values) read.taken takes.machine);
        limits = takes.sofar ∙ ap (λ (s : Sofar). sofar_after s kind) read.limits ∙ sym (ap sofar_of same ∙ sofar_snoc (tokens_from [] read.lexemes) (record { kind = kind; place = place }));
        brackets = subst (λ (s : Sofar). s.open_brackets ≤ 200) (sym takes.sofar) bounds.0;
        operators = subst (λ (s : Sofar). s.operators ≤ 200) (sym takes.sofar) bounds.1;
        passes = λ before t others split. passes_more before t others (sym same ∙ split) small;
      }
    where
      passes_more : (before : List Token) (t : Token) (others : List Token) → tokens_from [] read.lexemes ++ (record { kind = kind; place = place }) ∷ [] ≡ before ++ t ∷ others
          → ((is_too_large (sofar_of (tokens_from [] read.lexemes)) kind ≡ false) × (is_too_deep (sofar_of (tokens_from [] read.lexemes)) kind ≡ false))
          → (is_too_large (sofar_of before) t.kind ≡ false) × (is_too_deep (sofar_of before) t.kind ≡ false)
      passes_more before t others split small = by_last (last_or_not before t others (tokens_from [] read.lexemes) (record { kind = kind; place = place }) split)
        where
          by_last : ((before ≡ tokens_from [] read.lexemes) × (t ≡ record { kind = kind; place = place })) ⊎ ((more : List Token) × (tokens_from [] read.lexemes ≡ before ++ t ∷ more)) → (is_too_large (sofar_of before) t.kind ≡ false) × (is_too_deep (sofar_of before) t.kind ≡ false)
          by_last (inl (all, here)) = (
            subst (λ (b : List Token). is_too_large (sofar_of b) t.kind ≡ false) (sym all) (subst (λ (x : Token). is_too_large (sofar_of (tokens_from [] read.lexemes)) x.kind ≡ false) (sym here) small.0),
            subst (λ (b : List Token). is_too_deep (sofar_of b) t.kind ≡ false) (sym all) (subst (λ (x : Token). is_too_deep (sofar_of (tokens_from [] read.lexemes)) x.kind ≡ false) (sym here) small.1),
          )
          by_last (inr (more, is)) = read.passes before t more is

  begins_here : (kind : TokenKind) → lexeme.token ≡ Some kind → BeginsWith text (tokens_from [] read.lexemes ++ (record { kind = kind; place = place }) ∷ []) (drop lexeme.len rest)
  begins_here kind is = record {
    lexemes = read.lexemes ++ take lexeme.len rest ∷ [];
    cut = cut_more;
    same = ap (λ (t : Token). tokens_from [] read.lexemes ++ t ∷ []) (same_token kind is) ∙ sym (token_tokens read.lexemes (take lexeme.len rest) (the_token kind is).0);
  }

  -- a rule fails at the token, and none of a lower number
  refusal_at : (kind : TokenKind) (rule : SRule) → lexeme.token ≡ Some kind → Fails text rule place
      → ((other : SRule) → FailsToken other (tokens_from [] read.lexemes) (record { kind = kind; place = place }) → rule_rank rule ≤ rule_rank other) → IsSyntaxFailure text rule place
  refusal_at kind rule is fails lowest = record {
    fails = fails;
    first = λ other its found.
        subst (λ (at : Place). ComesFirst rule at other its) (sym read.place_is)
        (token_first text rest read.lexemes (cut_split read.lexemes text rest read.cut) (take lexeme.len rest) (drop lexeme.len rest) opens_it.first (the_token kind is).0 opens_it.allowed opens_it.closed rule
        (λ its_rule its_fails. lowest its_rule (subst (λ (t : Token). FailsToken its_rule (tokens_from [] read.lexemes) t) (sym (same_token kind is)) its_fails)) other its (located text place rest parser read other its found));
  }

  viable_so : (kind : TokenKind) (machine : Machine) → after (record { kind = kind; place = place }) parser.machine.stack parser.machine.values ≡ Some machine → IsViable (tokens_from [] read.lexemes ++ (record { kind = kind; place = place }) ∷ [])
  viable_so kind machine is =
      viable (tokens_from [] read.lexemes ++ (record { kind = kind; place = place }) ∷ []) machine.0 machine.1 (token_more (tokens_from [] read.lexemes) parser.machine.stack parser.machine.values (record { kind = kind; place = place }) machine read.taken is)

  token_by : (kind : TokenKind) (rule : SRule) → lexeme.token ≡ Some kind → RefusesBy rule (record { kind = kind; place = place }) parser → IsSyntaxFailure text rule place
  token_by kind S2 is none = refusal_at kind S2 is
      (stray (tokens_from [] read.lexemes) (record { kind = kind; place = place }) (drop lexeme.len rest) (begins_here kind is)
      (viable (tokens_from [] read.lexemes) parser.machine.stack parser.machine.values read.taken) (stray_token (tokens_from [] read.lexemes) parser.machine.stack parser.machine.values (record { kind = kind; place = place }) read.taken none))
      lowest
    where
      lowest : (other : SRule) → FailsToken other (tokens_from [] read.lexemes) (record { kind = kind; place = place }) → 2 ≤ rule_rank other
      lowest S2 fails = omega arith
      lowest S4 fails = omega arith
      lowest S5 fails = omega arith
      lowest _ fails = absurd fails
  token_by kind S4 is (taken, large) = refusal_at kind S4 is
      (too_large (tokens_from [] read.lexemes) (record { kind = kind; place = place }) (drop lexeme.len rest) (begins_here kind is) (ap (λ (s : Sofar). is_too_large s kind) (sym read.limits) ∙ large))
      lowest
    where
      lowest : (other : SRule) → FailsToken other (tokens_from [] read.lexemes) (record { kind = kind; place = place }) → 4 ≤ rule_rank other
      lowest S2 fails = absurd (fails.1 (viable_so kind taken.0 taken.1))
      lowest S4 fails = omega arith
      lowest S5 fails = omega arith
      lowest _ fails = absurd fails
  token_by kind S5 is (taken, small, deep) = refusal_at kind S5 is
      (too_deep (tokens_from [] read.lexemes) (record { kind = kind; place = place }) (drop lexeme.len rest) (begins_here kind is) (ap (λ (s : Sofar). is_too_deep s kind) (sym read.limits) ∙ deep))
      lowest
    where
      lowest : (other : SRule) → FailsToken other (tokens_from [] read.lexemes) (record { kind = kind; place = place }) → 5 ≤ rule_rank other
      lowest S2 fails = absurd (fails.1 (viable_so kind taken.0 taken.1))
      lowest S4 fails = absurd (false≢true (sym (ap (λ (s : Sofar). is_too_large s kind) (sym read.limits) ∙ small) ∙ fails))
      lowest S5 fails = omega arith
      lowest _ fails = absurd fails
  token_by kind _ is none = absurd none

  pub token_refused : (kind : TokenKind) (fail : ParseFail) → lexeme.token ≡ Some kind → RefusesToken fail (record { kind = kind; place = place }) parser → Refuses fail text
  token_refused kind (fails.Syntax rule at) is (here, by) = subst (λ (p : Place). IsSyntaxFailure text rule p) (sym here) (token_by kind rule is by)
  token_refused kind (fails.OutOfMemory memory) is refuses = tt

module _ (text : List ℕ) (place : Place) (rest : List ℕ) (parser : Parser) (read : HasRead text place rest parser) where
  whole_split : text ≡ concat read.lexemes ++ rest
  whole_split = cut_split read.lexemes text rest read.cut

  front_by : (rule : SRule) (at : Place) → RefusesFront rule at rest place → IsSyntaxFailure text rule at
  front_by S1 at (n, stops, at_is) =
      let code = get_or rest n 0 in
      let within : n < length rest = let both = ap length stops.first.split ∙ length-append stops.bytes stops.rest in let w = stops.within in omega arith in
      let cut : text ≡ (concat read.lexemes ++ take n rest) ++ (code ∷ drop (suc n) rest) =
      whole_split ∙ ap (λ r. concat read.lexemes ++ r) (sym (take-append-drop n rest) ∙ ap (λ r. take n rest ++ r) (drop-cons rest n 0 within)) ∙ sym (append_assoc (concat read.lexemes) (take n rest) (code ∷ drop (suc n) rest)) in
      subst (λ (p : Place). IsSyntaxFailure text S1 p) (sym (at_is (concat read.lexemes) read.place_is)) (record {
        fails = byte (concat read.lexemes ++ take n rest) (drop (suc n) rest) code cut stops.here;
        first = λ other its found. byte_first text rest read.lexemes whole_split n stops other its (located text place rest parser read other its found);
      })
  front_by S6 at (at_is, comment) =
      subst (λ (p : Place). IsSyntaxFailure text S6 p) (sym (at_is ∙ read.place_is)) (record {
        fails = unclosed (concat read.lexemes) rest (tokens_from [] read.lexemes) whole_split (record { lexemes = read.lexemes; cut = read.cut; same = refl }) comment;
        first = λ other its found. comment_first text rest read.lexemes whole_split comment other its (located text place rest parser read other its found);
      })
  front_by _ at refuses = absurd refuses

  pub front_refused : (fail : ParseFail) → RefusesLexeme fail rest place → Refuses fail text
  front_refused (fails.Syntax rule at) refuses = front_by rule at refuses
  front_refused (fails.OutOfMemory memory) refuses = tt

module _ (text : List ℕ) (end : Place) (parser : Parser) (read : HasRead text end [] parser) where
  all_text : concat read.lexemes ≡ text
  all_text = sym (append-nil (concat read.lexemes)) ∙ sym (cut_split read.lexemes text [] read.cut)

  pub end_is : end ≡ place_after text
  end_is = read.place_is ∙ ap place_after all_text

  -- after the end nothing fails but the third rule
  only_at_end : (rule : SRule) (at : Place) → Located text [] read.lexemes rule at → (rule ≡ S3) × (at ≡ place_after text) × ¬ IsProgram (tokens_from [] read.lexemes)
  only_at_end rule at (at_byte [] after code is bad) = let none : ◌≡◌ {A = List ℕ} [] (code ∷ after) = is in cc
  only_at_end rule at (at_byte (first ∷ front) after code is bad) = let none : ◌≡◌ {A = List ℕ} [] (first ∷ (front ++ code ∷ after)) = is in cc
  only_at_end rule at (at_token its_rule [] bytes middle later is first token fails) = absurd (no_lexeme (subst IsLexeme (empty_front bytes later (sym first.split ∙ sym is)) first.lexeme))
  only_at_end rule at (at_token its_rule (one ∷ skipped) bytes middle later (after, found, cut) first token fails) = absurd (no_lexeme (subst IsLexeme (empty_front one after (sym found.split)) found.lexeme))
  only_at_end rule at (at_end [] cut not) = (refl, refl, subst (λ (all : List Token). ¬ IsProgram all) (append-nil (tokens_from [] read.lexemes)) not)
  only_at_end rule at (at_end (one ∷ more) (after, found, cut) not) = absurd (no_lexeme (subst IsLexeme (empty_front one after (sym found.split)) found.lexeme))
  only_at_end rule at (at_comment [] its is comment) = let clash : ◌≡◌ {A = List ℕ} [] (47 ∷ 42 ∷ comment.0) = is ∙ comment.1 in cc
  only_at_end rule at (at_comment (one ∷ skipped) its (after, found, cut) comment) = absurd (no_lexeme (subst IsLexeme (empty_front one after (sym found.split)) found.lexeme))

  pub end_refused : (fail : ParseFail) → EndsEarly fail end parser → Refuses fail text
  end_refused (fails.Syntax S3 place) (is, none) = subst (λ (p : Place). IsSyntaxFailure text S3 p) (sym (is ∙ end_is)) (record {
    fails = unfinished (tokens_from [] read.lexemes) (record { lexemes = read.lexemes; cut = read.cut; same = refl }) (viable (tokens_from [] read.lexemes) parser.machine.stack parser.machine.values read.taken)
        (not_whole (tokens_from [] read.lexemes) parser.machine.stack parser.machine.values read.taken none);
    first = λ other its found. let only = only_at_end other its (located text end [] parser read other its found) in inr (sym only.1, subst (λ (r : SRule). 3 ≤ rule_rank r) (sym only.0) (omega arith));
  })
  end_refused (fails.Syntax _ place) early = absurd early
  end_refused (fails.OutOfMemory memory) early = tt

  pub end_accepted : (tree : Ast) → EndsWhole tree end parser → ((tokens : List Token) × BeginsWith text tokens [] × Writes tree tokens)
  end_accepted tree whole = (
    tokens_from [] read.lexemes,
    record { lexemes = read.lexemes; cut = read.cut; same = refl },
    subst (λ (all : List Item). WritesItems all (tokens_from [] read.lexemes)) (sym whole.items) (whole_program (tokens_from [] read.lexemes) parser.machine.stack parser.machine.values whole.values read.taken whole.whole),
  )

  pub end_fails_nothing : (tree : Ast) → EndsWhole tree end parser → (rule : SRule) (place : Place) → ¬ Fails text rule place
  end_fails_nothing tree whole rule place fails_so =
      let only = only_at_end rule place (located text end [] parser read rule place fails_so) in
      only.2 (record { items = whole.values.items; end = end }, whole_program (tokens_from [] read.lexemes) parser.machine.stack parser.machine.values whole.values read.taken whole.whole)

-- the first lexeme has some bytes
pub shrinks : (rest : List ℕ) (lexeme : Lexeme) → Opens lexeme rest → length (drop lexeme.len rest) < length rest
shrinks rest lexeme opens_it =
    let some = lexeme_some (take lexeme.len rest) rest (drop lexeme.len rest) opens_it.first in
    let both = ap length opens_it.first.split ∙ length-append (take lexeme.len rest) (drop lexeme.len rest) in
    omega arith

pub bytes_fit : (n limit : ℕ) (rest bytes : List ℕ) (lexeme : Lexeme) → Opens lexeme rest → bytes ≡ take lexeme.len rest → n + length rest ≤ limit → n + length bytes ≤ limit
bytes_fit n limit rest bytes lexeme opens_it bytes_are fits =
    let both = ap length opens_it.first.split ∙ length-append (take lexeme.len rest) (drop lexeme.len rest) in
    let same = ap length bytes_are in
    omega arith

pub none_left : (token : Option TokenKind) → ((kind : TokenKind) → token ≡ Some kind → ⊥) → token ≡ None
none_left None not = refl
none_left (Some kind) not = absurd (not kind refl)

pub if_ok_map : {T E : Type 0} {P Q : T → Type 0} (r : Result T E) → ((x : T) → P x → Q x) → IfOk r P → IfOk r Q
if_ok_map (Ok x) so holds = so x holds
if_ok_map (Err fail) so holds = tt

pub if_err_map : {T E : Type 0} {P Q : E → Type 0} (r : Result T E) → ((x : E) → P x → Q x) → IfErr r P → IfErr r Q
if_err_map (Ok x) so holds = tt
if_err_map (Err fail) so holds = so fail holds
