-- Texts whose tokens have the same kinds fail the same of the rules that speak of tokens.
use Rattle.std.proofs.Common.{◌≡◌, ℕ, ◌⊎◌, inl, inr, Bool, true, false, List, [], ◌∷◌, ◌++◌, append_assoc, append-nil, refl, sym, ap, ◌∙◌, subst}
use Rattle.std.specs.Prelude.{fold}
use Rattle.std.proofs.lemmas.Bool.{cond-true, cond-false}
use Rattle.twe_base.specs.declared.place.Place.{Place}
use Rattle.twe_lexer.specs.declared.token.Token.{Token}
use Rattle.twe_lexer.specs.declared.token.TokenKind.{TokenKind}
use Rattle.twe_lexer.specs.Kinds.{kind_of}
use Rattle.twe_lexer.specs.Lexeme.{IsFirstLexeme, IsLexeme}
use Rattle.twe_lexer.specs.Places.{is_gap, place_after}
use Rattle.twe_lexer.specs.Tokens.{AreFirstLexemes, tokens_from, BeginsWith}
use Rattle.twe_parser.specs.declared.fail.SRule.{SRule}
use Rattle.twe_parser.specs.declared.fail.SRule.TheVariants.{S1, S6}
use Rattle.twe_parser.specs.declared.limits.Sofar.{Sofar}
use Rattle.twe_parser.specs.Fails.{Fails, byte, stray, unfinished, too_large, too_deep, unclosed}
use Rattle.twe_parser.specs.Limits.{sofar_after, sofar_of, limits_at_start, is_too_large, is_too_deep}
use Rattle.twe_parser.specs.Viable.{IsProgram, IsViable}
use Rattle.twe_parser.specs.inner.Reading.{concat}
use Rattle.twe_parser.proofs.Cuts.{no_lexeme, compare_cuts, tokens_from_append}
use Rattle.twe_parser.proofs.Located.{empty_front}
use Rattle.text_layout.specs.Kinds.{HasKinds}
use Rattle.layout_laws.proofs.OneCut.{same_tokens}
use Rattle.layout_laws.proofs.SameTree.{kinds_of, same_tree}

-- A text up to one of its tokens.

record UpTo (at text : List ℕ) (before : List Token) (token : Token) : Type 0 where
  front : List (List ℕ)
  rest : List ℕ
  cut : AreFirstLexemes front text rest
  same : tokens_from at front ≡ before ++ token ∷ []

no_token : (before : List Token) (token : Token) (others : List Token) → ◌≡◌ {A = List Token} [] (before ++ token ∷ others) → ⊥
no_token [] token others is = cc
no_token (first ∷ before) token others is = cc

one_lexeme : (at first : List ℕ) (lexemes : List (List ℕ)) (text later : List ℕ) (token : Token) (others : List Token) → IsFirstLexeme first text later
    → ((before : List Token) → tokens_from (at ++ first) lexemes ≡ before ++ token ∷ others → UpTo (at ++ first) later before token)
    → (gap : Bool) (before : List Token) → is_gap first ≡ gap → tokens_from at (first ∷ lexemes) ≡ before ++ token ∷ others → UpTo at text before token
one_lexeme at first lexemes text later token others found more true before gap is =
    let its = more before (sym (cond-true (is_gap first) _ _ gap) ∙ is) in record {
      front = first ∷ its.front;
      rest = its.rest;
      cut = (later, found, its.cut);
      same = cond-true (is_gap first) _ _ gap ∙ its.same;
    }
one_lexeme at first lexemes text later token others found more false [] gap is =
    let here : Token = record { kind = kind_of first; place = place_after at } in
    let all : here ∷ tokens_from (at ++ first) lexemes ≡ token ∷ others = sym (cond-false (is_gap first) _ _ gap) ∙ is in
    let head : here ≡ token = cc in record {
      front = first ∷ [];
      rest = later;
      cut = (later, found, refl);
      same = cond-false (is_gap first) [] (here ∷ []) gap ∙ (λ i. head i ∷ []);
    }
one_lexeme at first lexemes text later token others found more false (one ∷ before) gap is =
    let here : Token = record { kind = kind_of first; place = place_after at } in
    let all : here ∷ tokens_from (at ++ first) lexemes ≡ one ∷ (before ++ token ∷ others) = sym (cond-false (is_gap first) _ _ gap) ∙ is in
    let head : here ≡ one = cc in
    let tail : tokens_from (at ++ first) lexemes ≡ before ++ token ∷ others = cc in
    let its = more before tail in record {
      front = first ∷ its.front;
      rest = its.rest;
      cut = (later, found, its.cut);
      same = cond-false (is_gap first) _ _ gap ∙ (λ i. head i ∷ its.same i);
    }

up_to : (at : List ℕ) (lexemes : List (List ℕ)) (text : List ℕ) (before : List Token) (token : Token) (others : List Token) → AreFirstLexemes lexemes text []
    → tokens_from at lexemes ≡ before ++ token ∷ others → UpTo at text before token
up_to at [] text before token others cut is = absurd (no_token before token others is)
up_to at (first ∷ lexemes) text before token others (later, found, cut) is =
    one_lexeme at first lexemes text later token others found (λ earlier same. up_to (at ++ first) lexemes later earlier token others cut same) (is_gap first) before refl is

-- Tokens of the same kinds.

kinds_append : (one other more : List Token) → kinds_of one ≡ kinds_of other → kinds_of (one ++ more) ≡ kinds_of (other ++ more)
kinds_append [] [] more same = refl
kinds_append [] (second ∷ other) more same = cc
kinds_append (first ∷ one) [] more same = cc
kinds_append (first ∷ one) (second ∷ other) more same =
    let head : first.kind ≡ second.kind = cc in
    let tail : kinds_of one ≡ kinds_of other = cc in
    let rest = kinds_append one other more tail in λ i. head i ∷ rest i

viable_alike : (one other : List Token) → kinds_of one ≡ kinds_of other → IsViable one → IsViable other
viable_alike one other same (tree, more, writes) =
    let found = same_tree (one ++ more) (other ++ more) tree (kinds_append one other more same) writes in (found.0, more, found.1)

program_alike : (one other : List Token) → kinds_of one ≡ kinds_of other → IsProgram one → IsProgram other
program_alike one other same (tree, writes) = let found = same_tree one other tree same writes in (found.0, found.1)

sofar_from : (sofar : Sofar) (one other : List Token) → kinds_of one ≡ kinds_of other
    → fold (λ s (t : Token). sofar_after s t.kind) sofar one ≡ fold (λ s (t : Token). sofar_after s t.kind) sofar other
sofar_from sofar [] [] same = refl
sofar_from sofar [] (second ∷ other) same = cc
sofar_from sofar (first ∷ one) [] same = cc
sofar_from sofar (first ∷ one) (second ∷ other) same =
    let head : first.kind ≡ second.kind = cc in
    let tail : kinds_of one ≡ kinds_of other = cc in
    ap (λ kind. fold (λ s (t : Token). sofar_after s t.kind) (sofar_after sofar kind) one) head ∙ sofar_from (sofar_after sofar second.kind) one other tail

-- the tokens at which others of the same kinds are parted
record Parted (all before : List Token) (token : Token) : Type 0 where
  its_before : List Token
  its_token : Token
  its_more : List Token
  split : all ≡ its_before ++ its_token ∷ its_more
  kinds : kinds_of before ≡ kinds_of its_before
  kind : token.kind ≡ its_token.kind

parted : (all before : List Token) (token : Token) (more : List Token) → kinds_of (before ++ token ∷ more) ≡ kinds_of all → Parted all before token
parted [] [] token more same = cc
parted (first ∷ all) [] token more same =
    let head : token.kind ≡ first.kind = cc in
    record { its_before = []; its_token = first; its_more = all; split = refl; kinds = refl; kind = head }
parted [] (one ∷ before) token more same = cc
parted (first ∷ all) (one ∷ before) token more same =
    let head : one.kind ≡ first.kind = cc in
    let tail : kinds_of (before ++ token ∷ more) ≡ kinds_of all = cc in
    let its = parted all before token more tail in record {
      its_before = first ∷ its.its_before;
      its_token = its.its_token;
      its_more = its.its_more;
      split = ap (λ those. first ∷ those) its.split;
      kinds = λ i. head i ∷ its.kinds i;
      kind = its.kind;
    }

none_more : (more : List (List ℕ)) (rest : List ℕ) → AreFirstLexemes more [] rest → ◌≡◌ {A = List (List ℕ)} more []
none_more [] rest cut = refl
none_more (first ∷ others) rest (later, found, cut) = absurd (no_lexeme (subst IsLexeme (empty_front first later (sym found.split)) found.lexeme))

-- the tokens of the whole text begin with those of any front of it
goes_on : (text rest : List ℕ) (before all : List Token) → BeginsWith text before rest → BeginsWith text all [] → (more : List Token) × (all ≡ before ++ more)
goes_on text rest before all front whole = by_cut (compare_cuts front.lexemes whole.lexemes text rest [] front.cut whole.cut)
  where
    by_cut : ((more : List (List ℕ)) × (whole.lexemes ≡ front.lexemes ++ more) × AreFirstLexemes more rest []) ⊎ ((more : List (List ℕ)) × (front.lexemes ≡ whole.lexemes ++ more) × AreFirstLexemes more [] rest) → (more : List Token) × (all ≡ before ++ more)
    by_cut (inl (more, is, cut)) = (tokens_from (concat front.lexemes) more, whole.same ∙ ap (tokens_from []) is ∙ tokens_from_append [] front.lexemes more ∙ ap (λ tokens. tokens ++ tokens_from (concat front.lexemes) more) (sym front.same))
    by_cut (inr (more, is, cut)) =
        let same : front.lexemes ≡ whole.lexemes = is ∙ ap (λ m. whole.lexemes ++ m) (none_more more rest cut) ∙ append-nil whole.lexemes in
        ([], whole.same ∙ ap (tokens_from []) (sym same) ∙ sym front.same ∙ sym (append-nil before))

-- The other text has such a token, too, and what is known of the one holds of the other.

record TokenThere (other : List ℕ) (before : List Token) (token : Token) : Type 0 where
  its_before : List Token
  its_token : Token
  its_rest : List ℕ
  begins : BeginsWith other (its_before ++ its_token ∷ []) its_rest
  kinds : kinds_of before ≡ kinds_of its_before
  kind : token.kind ≡ its_token.kind

module _ (text other : List ℕ) (kinds : List TokenKind) (has : HasKinds text kinds) (also : HasKinds other kinds) where
  same_kinds : kinds_of has.tokens ≡ kinds_of also.tokens
  same_kinds = has.same ∙ sym also.same

  there : (before : List Token) (token : Token) (rest : List ℕ) → BeginsWith text (before ++ token ∷ []) rest → TokenThere other before token
  there before token rest begins =
      let found = goes_on text rest (before ++ token ∷ []) has.tokens begins has.cut in
      let all : kinds_of (before ++ token ∷ found.0) ≡ kinds_of also.tokens =
      ap kinds_of (sym (found.1 ∙ append_assoc before (token ∷ []) found.0)) ∙ same_kinds in
      let its = parted also.tokens before token found.0 all in
      let front = up_to [] also.cut.lexemes other its.its_before its.its_token its.its_more also.cut.cut (sym also.cut.same ∙ its.split) in record {
        its_before = its.its_before;
        its_token = its.its_token;
        its_rest = front.rest;
        begins = record { lexemes = front.front; cut = front.cut; same = sym front.same };
        kinds = its.kinds;
        kind = its.kind;
      }

  limit_alike : (test : Sofar → TokenKind → Bool) (before : List Token) (token : Token) (its : TokenThere other before token)
      → test (sofar_of before) token.kind ≡ true → test (sofar_of its.its_before) its.its_token.kind ≡ true
  limit_alike test before token its is =
      (λ i. test (sym (sofar_from limits_at_start before its.its_before its.kinds) i) (sym its.kind i)) ∙ is

  pub fail_alike : (rule : SRule) (place : Place) → ¬ (rule ≡ S1) → ¬ (rule ≡ S6) → Fails text rule place → (its : Place) × Fails other rule its
  fail_alike rule place no_byte no_comment (byte before after code is bad) = absurd (no_byte refl)
  fail_alike rule place no_byte no_comment (stray before token rest begins viable not) =
      let its = there before token rest begins in
      let more : kinds_of (before ++ token ∷ []) ≡ kinds_of (its.its_before ++ its.its_token ∷ []) =
      kinds_append before its.its_before (token ∷ []) its.kinds ∙ last_kind its.its_before token its.its_token its.kind in (
        its.its_token.place,
        stray its.its_before its.its_token its.its_rest its.begins (viable_alike before its.its_before its.kinds viable)
            (λ its_viable. not (viable_alike (its.its_before ++ its.its_token ∷ []) (before ++ token ∷ []) (sym more) its_viable)),
      )
    where
      last_kind : (before : List Token) (one two : Token) → one.kind ≡ two.kind → kinds_of (before ++ one ∷ []) ≡ kinds_of (before ++ two ∷ [])
      last_kind [] one two same = λ i. same i ∷ []
      last_kind (first ∷ before) one two same = ap (λ those. first.kind ∷ those) (last_kind before one two same)
  fail_alike rule place no_byte no_comment (unfinished tokens begins viable not) =
      let same : kinds_of tokens ≡ kinds_of also.tokens = ap kinds_of (same_tokens text tokens has.tokens begins has.cut) ∙ same_kinds in (
        place_after other,
        unfinished also.tokens also.cut (viable_alike tokens also.tokens same viable) (λ program. not (program_alike also.tokens tokens (sym same) program)),
      )
  fail_alike rule place no_byte no_comment (too_large before token rest begins is) =
      let its = there before token rest begins in
      (its.its_token.place, too_large its.its_before its.its_token its.its_rest its.begins (limit_alike is_too_large before token its is))
  fail_alike rule place no_byte no_comment (too_deep before token rest begins is) =
      let its = there before token rest begins in
      (its.its_token.place, too_deep its.its_before its.its_token its.its_rest its.begins (limit_alike is_too_deep before token its is))
  fail_alike rule place no_byte no_comment (unclosed before rest tokens is begins comment) = absurd (no_comment refl)
