-- The limits on tokens: where those of a text keep them, the words that it is printed as keep them.
use Rattle.std.proofs.Common.{◌≡◌, ℕ, ◌+◌, ◌-◌, ◌≤◌, suc, pred, Bool, true, false, ◌&&◌, ◌||◌, not, List, [], ◌∷◌, cond, nat_le, nat_lt, ◌==◌, refl, sym, ap, ◌∙◌, subst, ◌++◌, append_assoc, arith}
use Rattle.std.specs.Prelude.{if◌then◌else◌}
use Rattle.std.proofs.lemmas.Bool.{false≢true, true≢false, ltb-true, leb-true, lt-ltb, le-leb}
use Rattle.std.proofs.Math.Numerals.{sub-one}
use Rattle.twe_base.specs.declared.place.Place.{Place}
use Rattle.twe_lexer.specs.declared.fixed.Fixed.TheVariants as fixed
use Rattle.twe_lexer.specs.declared.token.Token.{Token}
use Rattle.twe_lexer.specs.declared.token.TokenKind.{TokenKind}
use Rattle.twe_lexer.specs.declared.token.TokenKind.TheVariants as kinds
use Rattle.twe_lexer.specs.Kinds.{kind_of}
use Rattle.twe_parser.specs.declared.limits.Sofar.{Sofar}
use Rattle.twe_parser.specs.Limits.{opens, closes, is_operator, ends_statement, ends_operand, is_minus, sofar_after, is_too_large, is_too_deep}
use Rattle.twe_parser.specs.Written.{word}
use Rattle.ast_printer.proofs.Supply.{kinds_in}

-- a name that is read as a name
abbrev pub Sound : TokenKind → Type 0
Sound (kinds.Name text) = kind_of text ≡ kinds.Name text
Sound _ = Unit {0}

pub record Passes (sofar : Sofar) (kind : TokenKind) : Type 0 where
  pub sound : Sound kind
  pub small : is_too_large sofar kind ≡ false
  pub shallow : is_too_deep sofar kind ≡ false

abbrev pub AllPass : Sofar → List TokenKind → Type 0
AllPass sofar [] = Unit {0}
AllPass sofar (kind ∷ kinds) = Passes sofar kind × AllPass (sofar_after sofar kind) kinds

-- How what the tokens of a text come to stands to what the words come to: so many brackets are open, in the text and in
-- the print, where there are no more; no more operators are counted; an operand ended just now or not in both; and a
-- unary minus stood just now in both, or in the print alone.
pub record Beside (o p : ℕ) (ended minus : Bool) (text print : Sofar) : Type 0 where
  pub brackets : text.open_brackets ≡ o
  pub printed : print.open_brackets ≡ p
  pub fewer : p ≤ o
  pub count : print.operators ≤ text.operators
  pub text_ended : text.operand_ended ≡ ended
  pub print_ended : print.operand_ended ≡ ended
  pub text_minus : text.unary_minus ≡ minus
  pub print_minus : minus ≡ true → print.unary_minus ≡ true

-- where the tokens keep the limits from here on, the words do
pub record Passed (o p : ℕ) (ended minus : Bool) (tokens : List Token) (words : List TokenKind) : Type 0 where
  pub pass : (text print : Sofar) → Beside o p ended minus text print → AllPass text (kinds_in tokens) → AllPass print words

-- the words in another grouping
pub regrouped : {o p : ℕ} {ended minus : Bool} {tokens : List Token} (one two more : List TokenKind) → Passed o p ended minus tokens (one ++ (two ++ more)) → Passed o p ended minus tokens ((one ++ two) ++ more)
regrouped {o = o} {p = p} {ended = ended} {minus = minus} {tokens = tokens} one two more passed =
    subst (λ (words : List TokenKind). Passed o p ended minus tokens words) (sym (append_assoc one two more)) passed

-- whatever the last token was
abbrev pub FromAny : ℕ → ℕ → List Token → List TokenKind → Type 0
FromAny o p tokens words = (ended minus : Bool) → Passed o p ended minus tokens words

abbrev pub open_after : TokenKind → ℕ → ℕ
open_after kind n = cond (opens kind) (suc n) (cond (closes kind) (pred n) n)

brackets_after : (up down : Bool) (n o : ℕ) → n ≡ o → (if up then n + 1 else if down then n - 1 else n) ≡ cond up (suc o) (cond down (pred o) o)
brackets_after true down n o same = omega arith
brackets_after false true n o same = omega (arith, sub-one o)
brackets_after false false n o same = same

fewer_after : (up down : Bool) (o p : ℕ) → p ≤ o → cond up (suc p) (cond down (pred p) p) ≤ cond up (suc o) (cond down (pred o) o)
fewer_after true down o p le = omega arith
fewer_after false true o p le = omega (arith, sub-one o, sub-one p)
fewer_after false false o p le = le

operators_after : (ends counts some fewer : Bool) (n m : ℕ) → m ≤ n → (fewer ≡ true → some ≡ true) → (if ends then 0 else if counts && fewer then m + 1 else m) ≤ (if ends then 0 else if counts && some then n + 1 else n)
operators_after true counts some fewer n m le more = omega arith
operators_after false false some fewer n m le more = le
operators_after false true true true n m le more = omega arith
operators_after false true true false n m le more = omega arith
operators_after false true false true n m le more = absurd (false≢true (more refl))
operators_after false true false false n m le more = le

some_open : (o p : ℕ) → p ≤ o → nat_lt 0 p ≡ true → nat_lt 0 o ≡ true
some_open o p le is = let positive = ltb-true 0 p is in lt-ltb 0 o (omega arith)

at_limit : (o p : ℕ) → p ≤ o → nat_le 200 p ≡ true → nat_le 200 o ≡ true
at_limit o p le is = let above = leb-true 200 p is in le-leb 200 o (omega arith)

-- a conjunction that is false stays so where its parts are no truer
less_true : (x y z : Bool) → (y ≡ true → x ≡ true) → (z && x) ≡ false → (z && y) ≡ false
less_true x y false imp is = refl
less_true true true true imp is = is
less_true true false true imp is = refl
less_true false true true imp is = absurd (false≢true (imp refl))
less_true false false true imp is = refl

less_true_or : (a b c d : Bool) → (c ≡ true → a ≡ true) → (d ≡ true → b ≡ true) → (a || b) ≡ false → (c || d) ≡ false
less_true_or a b true d first second is = absurd (true≢false (sym (ap (λ x. x || b) (first refl)) ∙ is))
less_true_or true b false d first second is = absurd (true≢false is)
less_true_or false b false false first second is = refl
less_true_or false b false true first second is = absurd (true≢false (sym (second refl) ∙ is))

and_true : (x y z w : Bool) → (y ≡ true → x ≡ true) → (w ≡ true → z ≡ true) → (y && w) ≡ true → (x && z) ≡ true
and_true x false z w first second is = absurd (false≢true is)
and_true true true z w first second is = second is
and_true false true z w first second is = absurd (false≢true (first refl))

still_shallow : (kind : TokenKind) (text print : Sofar) → print.open_brackets ≤ text.open_brackets → print.operators ≤ text.operators → is_too_deep text kind ≡ false → is_too_deep print kind ≡ false
still_shallow kind text print fewer count is =
    less_true_or (opens kind && nat_le 200 text.open_brackets) ((is_operator kind && nat_lt 0 text.open_brackets) && nat_le 200 text.operators)
    (opens kind && nat_le 200 print.open_brackets) ((is_operator kind && nat_lt 0 print.open_brackets) && nat_le 200 print.operators)
    (and_true (opens kind) (opens kind) _ _ (λ h. h) (at_limit text.open_brackets print.open_brackets fewer))
    (and_true _ _ _ _ (and_true (is_operator kind) (is_operator kind) _ _ (λ h. h) (some_open text.open_brackets print.open_brackets fewer)) (at_limit text.operators print.operators count))
    is

still_small : (kind : TokenKind) (text print : Sofar) → (text.unary_minus ≡ true → print.unary_minus ≡ true) → is_too_large text kind ≡ false → is_too_large print kind ≡ false
still_small (kinds.Literal value) text print minus is = small (nat_lt 2147483647 value) (value == 2147483648) text.unary_minus print.unary_minus minus is
  where
    small : (above same one other : Bool) → (one ≡ true → other ≡ true) → (above && not (same && one)) ≡ false → (above && not (same && other)) ≡ false
    small false same one other minus is = refl
    small true false one other minus is = is
    small true true true other minus is = ap not (minus refl)
    small true true false other minus is = absurd (true≢false is)
still_small _ text print minus is = refl

-- one token that stands in both
pub step : {o p : ℕ} {ended minus : Bool} {token : Token} {tokens : List Token} {words : List TokenKind}
    → Passed (open_after token.kind o) (open_after token.kind p) (ends_operand token.kind) (is_minus token.kind && not ended) tokens words
    → Passed o p ended minus (token ∷ tokens) (token.kind ∷ words)
step {o = o} {p = p} {ended = ended} {minus = minus} {token = token} follows = record {
  pass = λ text print beside passes. (
    record {
      sound = passes.0.sound;
      small = still_small token.kind text print (λ h. beside.print_minus (sym beside.text_minus ∙ h)) passes.0.small;
      shallow = still_shallow token.kind text print (omega (arith, beside.fewer, beside.brackets, beside.printed)) beside.count passes.0.shallow;
    },
    follows.pass (sofar_after text token.kind) (sofar_after print token.kind) (record {
      brackets = brackets_after (opens token.kind) (closes token.kind) text.open_brackets o beside.brackets;
      printed = brackets_after (opens token.kind) (closes token.kind) print.open_brackets p beside.printed;
      fewer = fewer_after (opens token.kind) (closes token.kind) o p beside.fewer;
      count = operators_after (ends_statement token.kind) (is_operator token.kind) (nat_lt 0 text.open_brackets) (nat_lt 0 print.open_brackets) text.operators print.operators beside.count
          (some_open text.open_brackets print.open_brackets (omega (arith, beside.fewer, beside.brackets, beside.printed)));
      text_ended = refl;
      print_ended = refl;
      text_minus = ap (λ e. is_minus token.kind && not e) beside.text_ended;
      print_minus = λ h. ap (λ e. is_minus token.kind && not e) beside.print_ended ∙ h;
    }) passes.1,
  );
}

-- a keyword or symbol of the text that is no bracket and no operator, before an operand, and is not printed
pub skip : {o p : ℕ} {minus : Bool} {token : Token} {tokens : List Token} {words : List TokenKind} → opens token.kind ≡ false → closes token.kind ≡ false → is_operator token.kind ≡ false → ends_statement token.kind ≡ false
    → ends_operand token.kind ≡ false → is_minus token.kind ≡ false → Passed o p false false tokens words → Passed o p false minus (token ∷ tokens) words
skip {o = o} {token = token} up down counts ends operand sign follows = record {
  pass = λ text print beside passes. follows.pass (sofar_after text token.kind) print (record {
    brackets = rw (up, down) beside.brackets;
    printed = beside.printed;
    fewer = beside.fewer;
    count = rw (ends, counts) beside.count;
    text_ended = operand;
    print_ended = beside.print_ended;
    text_minus = rw sign refl;
    print_minus = λ h. absurd (false≢true h);
  }) passes.1;
}

-- a parenthesis of the text that is not printed
pub skip_open : {o p : ℕ} {minus : Bool} {place : Place} {tokens : List Token} {words : List TokenKind} → Passed (suc o) p false false tokens words → Passed o p false minus (word fixed.OpenParen place ∷ tokens) words
skip_open follows = record {
  pass = λ text print beside passes. follows.pass (sofar_after text (kinds.Fixed fixed.OpenParen)) print (record {
    brackets = omega (arith, beside.brackets);
    printed = beside.printed;
    fewer = omega (arith, beside.fewer);
    count = beside.count;
    text_ended = refl;
    print_ended = beside.print_ended;
    text_minus = refl;
    print_minus = λ h. absurd (false≢true h);
  }) passes.1;
}

pub skip_close : {o p : ℕ} {minus : Bool} {place : Place} {tokens : List Token} {words : List TokenKind} → p ≤ o → Passed o p true false tokens words → Passed (suc o) p true minus (word fixed.CloseParen place ∷ tokens) words
skip_close le follows = record {
  pass = λ text print beside passes. follows.pass (sofar_after text (kinds.Fixed fixed.CloseParen)) print (record {
    brackets = omega (arith, beside.brackets);
    printed = beside.printed;
    fewer = le;
    count = beside.count;
    text_ended = refl;
    print_ended = beside.print_ended;
    text_minus = refl;
    print_minus = λ h. absurd (false≢true h);
  }) passes.1;
}
