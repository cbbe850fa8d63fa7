-- The tokens of an accepted text keep the limits, and a text whose tokens keep them and are a program's is accepted.
use Rattle.std.proofs.Common.{◌≡◌, ℕ, ◌⊎◌, inl, inr, Bool, true, false, List, [], ◌∷◌, ◌++◌, Option, None, Some, refl, sym, ap, ◌∙◌, subst, min, ◌+◌, length, take, arith}
use Rattle.std.specs.Prelude.{if◌then◌else◌, fold}
use Rattle.std.specs.List.{list_all, AllByRecursion}
use Rattle.std.proofs.lemmas.Bool.{false≢true, false_from_ne_true, cond-true, cond-false}
use Rattle.std.proofs.lemmas.List.{append_assoc, append-nil, length-append, take_at}
use Rattle.twe_base.specs.declared.place.Place.{Place}
use Rattle.twe_ast.specs.declared.item.Ast.{Ast}
use Rattle.twe_lexer.specs.declared.fixed.Fixed.{Fixed}
use Rattle.twe_lexer.specs.declared.token.Token.{Token}
use Rattle.twe_lexer.specs.declared.token.TokenKind.{TokenKind}
use Rattle.twe_lexer.specs.declared.token.TokenKind.TheVariants as kinds
use Rattle.twe_lexer.specs.Kinds.{number_of_kind, kind_of, kind_unless}
use Rattle.twe_lexer.specs.Lexeme.{is_allowed, is_word, is_number, IsLexeme, IsFirstLexeme, IsUnclosedComment}
use Rattle.twe_lexer.specs.Places.{is_gap, place_after}
use Rattle.twe_lexer.specs.Spelling.{spelled}
use Rattle.twe_lexer.specs.Tokens.{AreFirstLexemes, tokens_from, BeginsWith}
use Rattle.twe_parser.specs.declared.fail.SRule.{SRule}
use Rattle.twe_parser.specs.declared.fail.SRule.TheVariants.{S4, S5}
use Rattle.twe_parser.specs.declared.limits.Sofar.{Sofar}
use Rattle.twe_parser.specs.Fails.{Fails, byte, stray, unfinished, too_large, too_deep, unclosed}
use Rattle.twe_parser.specs.Limits.{limits_at_start, sofar_after, sofar_of, is_too_large, is_too_deep}
use Rattle.twe_parser.specs.Writes.{Writes}
use Rattle.twe_parser.specs.inner.Reading.{concat}
use Rattle.twe_parser.proofs.Cuts.{no_lexeme, cut_append, compare_cuts, tokens_from_append, all_at}
use Rattle.twe_parser.proofs.Located.{not_inside, first_unclosed, empty_front, concat_append}
use Rattle.ast_printer.proofs.Supply.{kinds_in}
use Rattle.ast_printer.proofs.Passing.{Sound, Passes, AllPass}

abbrev pub Accepted : List ℕ → Type 0
Accepted text = (rule : SRule) (place : Place) → ¬ Fails text rule place

-- what a lexeme is as a token is sound
sound_unless : (bytes : List ℕ) (found : Option Fixed) (name : Bool) → is_number bytes ≡ false → spelled bytes ≡ found → is_word bytes ≡ name → Sound (kind_unless found bytes)
sound_unless bytes (Some f) name number is word = tt
sound_unless bytes None name number is word = by_name name word
  where
    by_name : (name : Bool) → is_word bytes ≡ name → Sound (if is_word bytes then kinds.Name bytes else kinds.Stray)
    by_name false word = subst Sound (sym (cond-false (is_word bytes) (kinds.Name bytes) kinds.Stray word)) tt
    by_name true word =
        let as_name : (if is_word bytes then kinds.Name bytes else kinds.Stray) ≡ kinds.Name bytes = cond-true (is_word bytes) (kinds.Name bytes) kinds.Stray word in
        subst Sound (sym as_name) (cond-false (is_number bytes) _ _ number ∙ ap (λ found. kind_unless found bytes) is ∙ as_name)

sound_kind : (bytes : List ℕ) → Sound (kind_of bytes)
sound_kind bytes = by_number (is_number bytes) refl
  where
    by_number : (number : Bool) → is_number bytes ≡ number → Sound (if is_number bytes then kinds.Literal (min (number_of_kind bytes) 2147483649) else kind_unless (spelled bytes) bytes)
    by_number true is = subst Sound (sym (cond-true (is_number bytes) (kinds.Literal (min (number_of_kind bytes) 2147483649)) (kind_unless (spelled bytes) bytes) is)) tt
    by_number false is =
        subst Sound (sym (cond-false (is_number bytes) (kinds.Literal (min (number_of_kind bytes) 2147483649)) (kind_unless (spelled bytes) bytes) is)) (sound_unless bytes (spelled bytes) (is_word bytes) is refl refl)

fold_append : (one other : List Token) (sofar : Sofar) → fold (λ s (t : Token). sofar_after s t.kind) sofar (one ++ other) ≡ fold (λ s (t : Token). sofar_after s t.kind) (fold (λ s (t : Token). sofar_after s t.kind) sofar one) other
fold_append [] other sofar = refl
fold_append (token ∷ one) other sofar = fold_append one other (sofar_after sofar token.kind)

moved : (one other : Sofar) (its their : List TokenKind) → one ≡ other → its ≡ their → AllPass one its → AllPass other their
moved one other its their same also pass = subst (λ (s : Sofar). AllPass s their) same (subst (λ (kinds : List TokenKind). AllPass one kinds) also pass)

-- of two lists each of which goes on where the other ends
same_both : (one other front back : List Token) → one ≡ other ++ front → other ≡ one ++ back → one ≡ other
same_both one other front back first second =
    let lengths : length one ≡ length other + length front = ap length first ∙ length-append other front in
    let also : length other ≡ length one + length back = ap length second ∙ length-append one back in
    sym (take_at one [] (length one) refl) ∙ ap (take (length one)) (append-nil one ∙ first) ∙ take_at other front (length one) (omega arith)

-- one lexeme more of an accepted text
module _ (text : List ℕ) (accepted : Accepted text) (front : List (List ℕ)) (first : List ℕ) (others : List (List ℕ)) (middle later : List ℕ) (cut_front : AreFirstLexemes front text middle) (found : IsFirstLexeme first middle later) where
  here : Token
  here = record { kind = kind_of first; place = place_after (concat front) }

  whole : AreFirstLexemes (front ++ first ∷ []) text later
  whole = cut_append front (first ∷ []) text middle later cut_front (later, found, refl)

  bytes : concat (front ++ first ∷ []) ≡ concat front ++ first
  bytes = concat_append front (first ∷ []) ∙ ap (λ more. concat front ++ more) (append-nil first)

  tokens : (its : List Token) → tokens_from (concat front) (first ∷ []) ≡ its → tokens_from [] (front ++ first ∷ []) ≡ tokens_from [] front ++ its
  tokens its is = tokens_from_append [] front (first ∷ []) ∙ ap (λ more. tokens_from [] front ++ more) is

  token_passes : tokens_from [] (front ++ first ∷ []) ≡ tokens_from [] front ++ here ∷ [] → Passes (sofar_of (tokens_from [] front)) (kind_of first)
  unfolding here
  token_passes front_is =
      let begins : BeginsWith text (tokens_from [] front ++ here ∷ []) later = record { lexemes = front ++ first ∷ []; cut = whole; same = sym front_is } in
      record {
        sound = sound_kind first;
        small = false_from_ne_true (is_too_large (sofar_of (tokens_from [] front)) (kind_of first)) (λ is. accepted S4 (place_after (concat front)) (too_large (tokens_from [] front) here later begins is));
        shallow = false_from_ne_true (is_too_deep (sofar_of (tokens_from [] front)) (kind_of first)) (λ is. accepted S5 (place_after (concat front)) (too_deep (tokens_from [] front) here later begins is));
      }

  by_gap : (gap : Bool) → is_gap first ≡ gap → AllPass (sofar_of (tokens_from [] (front ++ first ∷ []))) (kinds_in (tokens_from (concat (front ++ first ∷ [])) others))
      → AllPass (sofar_of (tokens_from [] front)) (kinds_in (tokens_from (concat front) (first ∷ others)))
  unfolding here
  by_gap true gap more =
      moved (sofar_of (tokens_from [] (front ++ first ∷ []))) (sofar_of (tokens_from [] front)) (kinds_in (tokens_from (concat (front ++ first ∷ [])) others)) (kinds_in (tokens_from (concat front) (first ∷ others)))
      (ap sofar_of (tokens [] (cond-true (is_gap first) [] (here ∷ []) gap) ∙ append-nil (tokens_from [] front)))
      (ap (λ at. kinds_in (tokens_from at others)) bytes ∙ ap kinds_in (sym (cond-true (is_gap first) (tokens_from (concat front ++ first) others) (here ∷ tokens_from (concat front ++ first) others) gap))) more
  by_gap false gap more =
      let front_is : tokens_from [] (front ++ first ∷ []) ≡ tokens_from [] front ++ here ∷ [] = tokens (here ∷ []) (cond-false (is_gap first) [] (here ∷ []) gap) in
      moved (sofar_of (tokens_from [] front)) (sofar_of (tokens_from [] front)) (kind_of first ∷ kinds_in (tokens_from (concat front ++ first) others)) (kinds_in (tokens_from (concat front) (first ∷ others))) refl
      (ap kinds_in (sym (cond-false (is_gap first) (tokens_from (concat front ++ first) others) (here ∷ tokens_from (concat front ++ first) others) gap))) (
        token_passes front_is,
        moved (sofar_of (tokens_from [] (front ++ first ∷ []))) (sofar_after (sofar_of (tokens_from [] front)) (kind_of first)) (kinds_in (tokens_from (concat (front ++ first ∷ [])) others)) (kinds_in (tokens_from (concat front ++ first) others))
            (ap sofar_of front_is ∙ fold_append (tokens_from [] front) (here ∷ []) limits_at_start) (ap (λ at. kinds_in (tokens_from at others)) bytes) more,
      )

-- the tokens of an accepted text from some lexeme on
passes_from : (text : List ℕ) → Accepted text → (front back : List (List ℕ)) (middle : List ℕ) → AreFirstLexemes front text middle → AreFirstLexemes back middle [] → AllPass (sofar_of (tokens_from [] front)) (kinds_in (tokens_from (concat front) back))
passes_from text accepted front [] middle cut_front cut = tt
passes_from text accepted front (first ∷ others) middle cut_front (later, found, cut) =
    by_gap text accepted front first others middle later cut_front found (is_gap first) refl
    (passes_from text accepted (front ++ first ∷ []) others later (cut_append front (first ∷ []) text middle later cut_front (later, found, refl)) cut)

pub tokens_pass : (text : List ℕ) (tokens : List Token) → Accepted text → BeginsWith text tokens [] → AllPass limits_at_start (kinds_in tokens)
tokens_pass text tokens accepted begins = subst (λ (all : List Token). AllPass limits_at_start (kinds_in all)) (sym begins.same) (passes_from text accepted [] begins.lexemes text refl begins.cut)

-- a token among those that keep the limits
passes_at : (before : List Token) (token : Token) (others : List Token) (sofar : Sofar) → AllPass sofar (kinds_in (before ++ token ∷ others)) → Passes (fold (λ s (t : Token). sofar_after s t.kind) sofar before) token.kind
passes_at [] token others sofar pass = pass.0
passes_at (first ∷ before) token others sofar pass = passes_at before token others (sofar_after sofar first.kind) pass.1

none_more : (more : List (List ℕ)) (rest : List ℕ) → AreFirstLexemes more [] rest → (◌≡◌ {A = List (List ℕ)} more []) × (◌≡◌ {A = List ℕ} [] rest)
none_more [] rest cut = (refl, cut)
none_more (first ∷ others) rest (later, found, cut) = absurd (no_lexeme (subst IsLexeme (empty_front first later (sym found.split)) found.lexeme))

-- a front of the text is cut into the first lexemes of the whole
front_of : (text rest : List ℕ) (front whole : List (List ℕ)) → AreFirstLexemes front text rest → AreFirstLexemes whole text [] → (more : List (List ℕ)) × (whole ≡ front ++ more) × AreFirstLexemes more rest []
front_of text rest front whole cut all = by_cut (compare_cuts front whole text rest [] cut all)
  where
    by_cut : ((more : List (List ℕ)) × (whole ≡ front ++ more) × AreFirstLexemes more rest []) ⊎ ((more : List (List ℕ)) × (front ≡ whole ++ more) × AreFirstLexemes more [] rest) → (more : List (List ℕ)) × (whole ≡ front ++ more) × AreFirstLexemes more rest []
    by_cut (inl found) = found
    by_cut (inr (more, is, more_cut)) =
        let none = none_more more rest more_cut in
        ([], sym (is ∙ ap (λ m. whole ++ m) none.0 ∙ append-nil whole) ∙ sym (append-nil front), sym none.1)

goes_on : (text rest : List ℕ) (before all : List Token) → BeginsWith text before rest → BeginsWith text all [] → (more : List Token) × (all ≡ before ++ more)
goes_on text rest before all front whole =
    let found = front_of text rest front.lexemes whole.lexemes front.cut whole.cut in (
      tokens_from (concat front.lexemes) found.0,
      whole.same ∙ ap (tokens_from []) found.1 ∙ tokens_from_append [] front.lexemes found.0 ∙ ap (λ tokens. tokens ++ tokens_from (concat front.lexemes) found.0) (sym front.same),
    )

module _ (text : List ℕ) (tree : Ast) (tokens : List Token) (whole : BeginsWith text tokens []) (writes : Writes tree tokens) (pass : AllPass limits_at_start (kinds_in tokens))
    (allowed : list_all is_allowed text ≡ true) (closed : AllByRecursion (λ lexeme. ¬ IsUnclosedComment lexeme) whole.lexemes) where
  limits : (before : List Token) (token : Token) (rest : List ℕ) → BeginsWith text (before ++ token ∷ []) rest → Passes (sofar_of before) token.kind
  limits before token rest begins =
      let found = goes_on text rest (before ++ token ∷ []) tokens begins whole in
      passes_at before token found.0 limits_at_start (subst (λ (all : List Token). AllPass limits_at_start (kinds_in all)) (found.1 ∙ append_assoc before (token ∷ []) found.0) pass)

  no_comment : (rest : List ℕ) (front more : List (List ℕ)) → whole.lexemes ≡ front ++ more → AreFirstLexemes more rest [] → ¬ IsUnclosedComment rest
  no_comment rest front [] is cut comment = let start = comment.1 in let none : rest ≡ [] = cut in cc
  no_comment rest front (first ∷ more) is (later, found, cut) comment =
      all_at (λ lexeme. ¬ IsUnclosedComment lexeme) front first more (subst (λ (all : List (List ℕ)). AllByRecursion (λ lexeme. ¬ IsUnclosedComment lexeme) all) is closed) (first_unclosed first rest later found comment)

  no_byte : (before after : List ℕ) (code : ℕ) → text ≡ before ++ code ∷ after → is_allowed code ≡ false → ⊥
  no_byte before after code is bad = nothing_left (not_inside text [] before after code allowed (append-nil text ∙ is) bad)
    where
      nothing_left : (more : List ℕ) × (before ≡ text ++ more) × ([] ≡ more ++ code ∷ after) → ⊥
      nothing_left ([], front, none) = cc
      nothing_left (first ∷ more, front, none) = cc

  -- no rule fails in such a text
  pub is_accepted : Accepted text
  is_accepted rule place (byte before after code is bad) = no_byte before after code is bad
  is_accepted rule place (stray before token rest begins viable not) =
      let found = goes_on text rest (before ++ token ∷ []) tokens begins whole in
      not (tree, found.0, subst (λ (all : List Token). Writes tree all) found.1 writes)
  is_accepted rule place (unfinished its begins viable not) =
      let found = goes_on text [] its tokens begins whole in
      let back = goes_on text [] tokens its whole begins in
      not (tree, subst (λ (all : List Token). Writes tree all) (same_both tokens its found.0 back.0 found.1 back.1) writes)
  is_accepted rule place (too_large before token rest begins is) = false≢true (sym (limits before token rest begins).small ∙ is)
  is_accepted rule place (too_deep before token rest begins is) = false≢true (sym (limits before token rest begins).shallow ∙ is)
  is_accepted rule place (unclosed before rest its is begins comment) =
      let found = front_of text rest begins.lexemes whole.lexemes begins.cut whole.cut in no_comment rest begins.lexemes found.0 found.1 found.2 comment
