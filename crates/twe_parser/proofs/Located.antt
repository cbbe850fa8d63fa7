-- The places of failures in a text of which a part has been read without a failure.
use Rattle.std.proofs.Common.{◌≡◌, ℕ, ◌+◌, ◌⊎◌, inl, inr, true, false, List, [], ◌∷◌, ◌++◌, length, take, refl, sym, ap, ◌∙◌, subst, arith}
use Rattle.std.specs.List.{AllByRecursion, list_all}
use Rattle.std.proofs.lemmas.Bool.{false≢true, and_parts}
use Rattle.std.proofs.lemmas.List.{append_assoc, append-nil, length-append, take_at}
use Rattle.twe_base.specs.declared.place.Place.{Place}
use Rattle.twe_lexer.specs.declared.token.Token.{Token}
use Rattle.twe_lexer.specs.Kinds.{kind_of}
use Rattle.twe_lexer.specs.Lexeme.{is_allowed, IsLexeme, unclosed_comment, IsFirstLexeme, IsUnclosedComment}
use Rattle.twe_lexer.specs.Places.{place_after, is_gap}
use Rattle.twe_lexer.specs.Tokens.{AreFirstLexemes, tokens_from, BeginsWith}
use Rattle.twe_parser.specs.declared.fail.SRule.{SRule}
use Rattle.twe_parser.specs.declared.fail.SRule.TheVariants.{S1, S2, S3, S4, S5, S6}
use Rattle.twe_parser.specs.declared.parser.Parser.{Parser}
use Rattle.twe_parser.specs.Fails.{Fails, byte, stray, unfinished, too_large, too_deep, unclosed}
use Rattle.twe_parser.specs.Limits.{sofar_of, is_too_large, is_too_deep}
use Rattle.twe_parser.specs.Viable.{IsProgram, IsViable}
use Rattle.twe_parser.specs.Writes.{WritesItems}
use Rattle.twe_parser.specs.inner.Reading.{concat, HasRead}
use Rattle.twe_parser.proofs.Cuts.{no_lexeme, one_first, cut_split, cut_append, compare_cuts, tokens_from_append, LastToken, none, last, last_token, snoc_parts, all_at}
use Rattle.twe_parser.proofs.State.{viable}

-- a token fails one of the three rules that tokens can fail
abbrev pub FailsToken : SRule → List Token → Token → Type 0
FailsToken S2 before token = IsViable before × ¬ IsViable (before ++ token ∷ [])
FailsToken S4 before token = is_too_large (sofar_of before) token.kind ≡ true
FailsToken S5 before token = is_too_deep (sofar_of before) token.kind ≡ true
FailsToken _ before token = ⊥

abbrev pub token_of : List ℕ → List ℕ → Token
token_of before bytes = record { kind = kind_of bytes; place = place_after before }

-- A failure in the rest of the text: at a byte, at a token, at the end, or at a comment.
pub data Located (text : List ℕ) (rest : List ℕ) (lexemes : List (List ℕ)) : SRule → Place → Type 0 where
  at_byte : (front after : List ℕ) (code : ℕ) → rest ≡ front ++ code ∷ after → is_allowed code ≡ false → Located text rest lexemes S1 (place_after (concat lexemes ++ front))
  at_token : (rule : SRule) (skipped : List (List ℕ)) (bytes middle later : List ℕ) → AreFirstLexemes skipped rest middle → IsFirstLexeme bytes middle later → is_gap bytes ≡ false
      → FailsToken rule (tokens_from [] lexemes ++ tokens_from (concat lexemes) skipped) (token_of (concat lexemes ++ concat skipped) bytes) → Located text rest lexemes rule (place_after (concat lexemes ++ concat skipped))
  at_end : (more : List (List ℕ)) → AreFirstLexemes more rest [] → ¬ IsProgram (tokens_from [] lexemes ++ tokens_from (concat lexemes) more) → Located text rest lexemes S3 (place_after text)
  at_comment : (skipped : List (List ℕ)) (its : List ℕ) → AreFirstLexemes skipped rest its → IsUnclosedComment its → Located text rest lexemes S6 (place_after (concat lexemes ++ concat skipped))

-- an allowed part has no byte that is not allowed
pub not_inside : (before rest front after : List ℕ) (code : ℕ) → list_all is_allowed before ≡ true → before ++ rest ≡ front ++ code ∷ after → is_allowed code ≡ false → (more : List ℕ) × (front ≡ before ++ more) × (rest ≡ more ++ code ∷ after)
not_inside [] rest front after code allowed split bad = (front, refl, split)
not_inside (first ∷ before) rest [] after code allowed split bad =
    let same : first ≡ code = cc in
    let good : is_allowed first ≡ true = (and_parts (is_allowed first) (list_all is_allowed before) allowed).0 in
    absurd (false≢true (sym bad ∙ ap is_allowed (sym same) ∙ good))
not_inside (first ∷ before) rest (next ∷ front) after code allowed split bad =
    let same : first ≡ next = cc in
    let others : before ++ rest ≡ front ++ code ∷ after = cc in
    let found = not_inside before rest front after code (and_parts (is_allowed first) (list_all is_allowed before) allowed).1 others bad in
    (found.0, (λ i. sym same i ∷ found.1 i), found.2)

pub first_unclosed : (bytes text later : List ℕ) → IsFirstLexeme bytes text later → IsUnclosedComment text → IsUnclosedComment bytes
first_unclosed bytes text later first comment =
    let whole : IsFirstLexeme text text [] = record { split = sym (append-nil text); lexeme = unclosed_comment comment; longest = λ other beyond is split. omega (arith, ap length split ∙ length-append other beyond) } in
    subst IsUnclosedComment (one_first text bytes text [] later whole first).0 comment

pub empty_front : (front rest : List ℕ) → front ++ rest ≡ [] → front ≡ []
empty_front [] rest empty = refl
empty_front (first ∷ front) rest empty = cc

same_front : (one other its : List ℕ) → one ++ its ≡ other ++ its → one ≡ other
same_front one other its same =
    let lengths : length one + length its ≡ length other + length its = sym (length-append one its) ∙ ap length same ∙ length-append other its in
    let same_len : length other ≡ length one = omega arith in
    sym (take_at one its (length one) refl) ∙ ap (take (length one)) same ∙ take_at other its (length one) same_len

pub concat_append : (one other : List (List ℕ)) → concat (one ++ other) ≡ concat one ++ concat other
concat_append [] other = refl
concat_append (first ∷ others) other = ap (λ more. first ++ more) (concat_append others other) ∙ sym (append_assoc first (concat others) (concat other))

module _ (text : List ℕ) (place : Place) (rest : List ℕ) (parser : Parser) (read : HasRead text place rest parser) where
  lexemes_read : List (List ℕ)
  lexemes_read = read.lexemes

  -- no token that was read fails
  no_failure : (rule : SRule) (before : List Token) (token : Token) (others : List Token) → tokens_from [] read.lexemes ≡ before ++ token ∷ others → FailsToken rule before token → ⊥
  no_failure S2 before token others is fails =
      let begins = viable (tokens_from [] read.lexemes) parser.machine.stack parser.machine.values read.taken in
      fails.1 (
        begins.0,
        others ++ begins.1,
        subst (λ (all : List Token). WritesItems begins.0.items all)
            (ap (λ all. all ++ begins.1) is ∙ ap (λ all. all ++ begins.1) (sym (append_assoc before (token ∷ []) others)) ∙ append_assoc (before ++ token ∷ []) others begins.1) begins.2,
      )
  no_failure S4 before token others is fails = false≢true (sym (read.passes before token others is).0 ∙ fails)
  no_failure S5 before token others is fails = false≢true (sym (read.passes before token others is).1 ∙ fails)
  no_failure _ before token others is fails = fails

  token_found : (rule : SRule) (before : List Token) (token : Token) (more : List (List ℕ)) (later : List ℕ) → AreFirstLexemes more rest later → before ++ token ∷ [] ≡ tokens_from [] read.lexemes ++ tokens_from (concat read.lexemes) more
      → FailsToken rule before token → LastToken (concat read.lexemes) more → Located text rest read.lexemes rule token.place
  token_found rule before token more later cut same fails (none empty) =
      absurd (no_failure rule before token [] (sym (append-nil (tokens_from [] read.lexemes)) ∙ ap (λ all. tokens_from [] read.lexemes ++ all) (sym empty) ∙ sym same) fails)
  token_found rule before token more later cut same fails (last skipped bytes gaps split is_token ends) =
      let here = token_of (concat read.lexemes ++ concat skipped) bytes in
      let parts = snoc_parts before (tokens_from [] read.lexemes ++ tokens_from (concat read.lexemes) skipped) token here
      (same ∙ ap (λ all. tokens_from [] read.lexemes ++ all) ends ∙ sym (append_assoc (tokens_from [] read.lexemes) (tokens_from (concat read.lexemes) skipped) (here ∷ []))) in
      let places = middle_of skipped bytes gaps rest later (subst (λ (all : List (List ℕ)). AreFirstLexemes all rest later) split cut) in
      subst (λ (t : Token). Located text rest read.lexemes rule t.place) (sym parts.1)
      (at_token rule skipped bytes places.0 places.1 places.2 places.3 is_token
      (subst (λ (t : Token). FailsToken rule (tokens_from [] read.lexemes ++ tokens_from (concat read.lexemes) skipped) t) parts.1 (subst (λ (all : List Token). FailsToken rule all token) parts.0 fails)))
    where
      middle_of : (skipped : List (List ℕ)) (bytes : List ℕ) (gaps : List (List ℕ)) (from later : List ℕ) → AreFirstLexemes (skipped ++ bytes ∷ gaps) from later
          → (middle after : List ℕ) × AreFirstLexemes skipped from middle × IsFirstLexeme bytes middle after
      middle_of [] bytes gaps from later (after, first, cut) = (from, after, refl, first)
      middle_of (one ∷ skipped) bytes gaps from later (after, first, cut) = let found = middle_of skipped bytes gaps after later cut in (found.0, found.1, (after, first, found.2), found.3)

  token_located : (rule : SRule) (before : List Token) (token : Token) (its : List ℕ) → BeginsWith text (before ++ token ∷ []) its → FailsToken rule before token → Located text rest read.lexemes rule token.place
  token_located rule before token its begins fails = by_cuts (compare_cuts read.lexemes begins.lexemes text rest its read.cut begins.cut)
    where
      by_cuts : ((more : List (List ℕ)) × (begins.lexemes ≡ read.lexemes ++ more) × AreFirstLexemes more rest its) ⊎ ((more : List (List ℕ)) × (read.lexemes ≡ begins.lexemes ++ more) × AreFirstLexemes more its rest)
          → Located text rest read.lexemes rule token.place
      by_cuts (inl (more, is, cut)) =
          token_found rule before token more its cut (begins.same ∙ ap (tokens_from []) is ∙ tokens_from_append [] read.lexemes more) fails (last_token (concat read.lexemes) more)
      by_cuts (inr (more, is, cut)) =
          absurd (no_failure rule before token (tokens_from (concat begins.lexemes) more)
          (ap (tokens_from []) is ∙ tokens_from_append [] begins.lexemes more ∙ ap (λ all. all ++ tokens_from (concat begins.lexemes) more) (sym begins.same) ∙ append_assoc before (token ∷ []) (tokens_from (concat begins.lexemes) more)) fails)

  comment_located : (before its : List ℕ) (tokens : List Token) → text ≡ before ++ its → BeginsWith text tokens its → IsUnclosedComment its → Located text rest read.lexemes S6 (place_after before)
  comment_located before its tokens split begins comment = by_cuts (compare_cuts read.lexemes begins.lexemes text rest its read.cut begins.cut)
    where
      before_is : (all : List (List ℕ)) → AreFirstLexemes all text its → before ≡ concat all
      before_is all cut = same_front before (concat all) its (sym split ∙ cut_split all text its cut)

      by_cuts : ((more : List (List ℕ)) × (begins.lexemes ≡ read.lexemes ++ more) × AreFirstLexemes more rest its) ⊎ ((more : List (List ℕ)) × (read.lexemes ≡ begins.lexemes ++ more) × AreFirstLexemes more its rest)
          → Located text rest read.lexemes S6 (place_after before)
      by_cuts (inl (more, is, cut)) =
          let from : before ≡ concat read.lexemes ++ concat more = before_is (read.lexemes ++ more) (cut_append read.lexemes more text rest its read.cut cut) ∙ concat_append read.lexemes more in
          subst (λ (at : List ℕ). Located text rest read.lexemes S6 (place_after at)) (sym from) (at_comment more its cut comment)
      by_cuts (inr ([], is, same)) =
          let all_is : read.lexemes ≡ begins.lexemes = is ∙ append-nil begins.lexemes in
          let from : before ≡ concat read.lexemes ++ [] = before_is begins.lexemes begins.cut ∙ ap concat (sym all_is) ∙ sym (append-nil (concat read.lexemes)) in
          subst (λ (at : List ℕ). Located text rest read.lexemes S6 (place_after at)) (sym from) (at_comment [] its (sym same) comment)
      by_cuts (inr (first ∷ more, is, (later, found, cut))) =
          absurd (all_at (λ lexeme. ¬ IsUnclosedComment lexeme) begins.lexemes first more (subst (λ (all : List (List ℕ)). AllByRecursion (λ lexeme. ¬ IsUnclosedComment lexeme) all) is read.closed) (first_unclosed first its later found comment))

  -- every failure is in the rest
  pub located : (rule : SRule) (at : Place) → Fails text rule at → Located text rest read.lexemes rule at
  located rule at (byte before after code split bad) = in_rest (not_inside (concat read.lexemes) rest before after code read.allowed (sym (cut_split read.lexemes text rest read.cut) ∙ split) bad)
    where
      in_rest : (more : List ℕ) × (before ≡ concat read.lexemes ++ more) × (rest ≡ more ++ code ∷ after) → Located text rest read.lexemes S1 (place_after before)
      in_rest (more, is, found) = subst (λ (front : List ℕ). Located text rest read.lexemes S1 (place_after front)) (sym is) (at_byte more after code found bad)
  located rule at (stray before token its begins is not) = token_located S2 before token its begins (is, not)
  located rule at (unfinished tokens begins is not) = by_cuts (compare_cuts read.lexemes begins.lexemes text rest [] read.cut begins.cut)
    where
      by_cuts : ((more : List (List ℕ)) × (begins.lexemes ≡ read.lexemes ++ more) × AreFirstLexemes more rest []) ⊎ ((more : List (List ℕ)) × (read.lexemes ≡ begins.lexemes ++ more) × AreFirstLexemes more [] rest)
          → Located text rest read.lexemes S3 (place_after text)
      by_cuts (inl (more, is, cut)) =
          at_end more cut (subst (λ (all : List Token). ¬ IsProgram all) (begins.same ∙ ap (tokens_from []) is ∙ tokens_from_append [] read.lexemes more) not)
      by_cuts (inr ([], is, same)) =
          at_end [] (sym same) (subst (λ (all : List Token). ¬ IsProgram all) (begins.same ∙ ap (tokens_from []) (sym (is ∙ append-nil begins.lexemes)) ∙ sym (append-nil (tokens_from [] read.lexemes))) not)
      by_cuts (inr (first ∷ more, is, (later, found, cut))) = absurd (no_lexeme (subst IsLexeme (empty_front first later (sym found.split)) found.lexeme))
  located rule at (too_large before token its begins is) = token_located S4 before token its begins is
  located rule at (too_deep before token its begins is) = token_located S5 before token its begins is
  located rule at (unclosed before its tokens split begins comment) = comment_located before its tokens split begins comment
