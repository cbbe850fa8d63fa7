-- A walk to a place: it does not pass the place, and so finds what is open there.
use Rattle.std.proofs.Common.{◌≡◌, ℕ, ◌+◌, ◌<◌, ◌⊎◌, inl, inr, List, [], ◌∷◌, ◌++◌, suc, length, get_or, take, drop, drop-cons, None, refl, sym, ap, ◌∙◌, subst, length-append, arith}
use Rattle.std.proofs.lemmas.List.{append_assoc, append-nil, take-append-drop, take-append-le, take_at}
use Rattle.twe_base.specs.declared.place.Place.{Place}
use Rattle.twe_lexer.specs.declared.lexeme.Lexeme.{Lexeme}
use Rattle.twe_lexer.specs.declared.token.Token.{Token}
use Rattle.twe_lexer.specs.Front.{Opens}
use Rattle.twe_lexer.specs.Lexeme.{IsFirstLexeme}
use Rattle.twe_lexer.specs.Places.{place_after, Precedes}
use Rattle.twe_lexer.specs.Tokens.{AreFirstLexemes, tokens_from}
use Rattle.twe_parser.specs.declared.fail.SRule.TheVariants.{S1, S3, S6}
use Rattle.twe_parser.specs.Fails.{ComesFirst, Fails, IsSyntaxFailure}
use Rattle.twe_parser.specs.inner.Reading.{concat}
use Rattle.twe_parser.proofs.Cuts.{compare_cuts, cut_split, no_lexeme, one_first, precedes}
use Rattle.twe_parser.proofs.Located.{concat_append}
use Rattle.refusal_causes.proofs.text_rules.Counting.{later_by}
use Rattle.refusal_causes.proofs.text_rules.Tokens.{not_both, not_itself, stop_fails}
use Rattle.refusal_causes.specs.text_rules.Open.{AreFoundAt, AreOpenAt, IsBrokenBefore, open_of}
use Rattle.refusal_causes.specs.text_rules.inner.Walked.{HasWalked, IsAhead, IsHindered, IsOnItsWay}
use Rattle.refusal_causes.specs.declared.text_rules.walk.BracketWalk.{BracketWalk}

-- what comes before a part of a text that is left
same_front : (one other its : List ℕ) → one ++ its ≡ other ++ its → one ≡ other
same_front one other its same =
    let lengths : length one + length its ≡ length other + length its = sym (length-append one its) ∙ ap length same ∙ length-append other its in
    let same_len : length other ≡ length one = omega arith in
    sym (take_at one its (length one) refl) ∙ ap (take (length one)) same ∙ take_at other its (length one) same_len

-- the lexemes that end where brackets are open
ends_at : (text : List ℕ) (place : Place) (places : List Place) (open_there : AreOpenAt text place places) → place_after (concat open_there.cut.lexemes) ≡ place
ends_at text place places open_there =
    let front = same_front open_there.before (concat open_there.cut.lexemes) open_there.rest
    (sym open_there.split ∙ cut_split open_there.cut.lexemes text open_there.rest open_there.cut.cut) in
    ap place_after (sym front) ∙ open_there.at

-- at the beginning all of the text is ahead
pub all_ahead : (text : List ℕ) (place : Place) → IsAhead text text [] place
all_ahead text place its others cut at = (others, refl, cut)

module _ (text rest : List ℕ) (lexemes : List (List ℕ)) (walk : BracketWalk) (place : Place) (walked : HasWalked text rest lexemes walk)
    (ahead : IsAhead text rest lexemes place) (elsewhere : ¬ (walk.place ≡ place)) where
  -- at least one lexeme more comes before the place
  pub data IsFurther (its : List ℕ) (others : List (List ℕ)) : Type 0 where
    further : (first : List ℕ) (more : List (List ℕ)) (later : List ℕ) → others ≡ lexemes ++ first ∷ more → IsFirstLexeme first rest later
        → AreFirstLexemes more later its → IsFurther its others

  is_further : (its : List ℕ) (others : List (List ℕ)) → AreFirstLexemes others text its → place_after (concat others) ≡ place → IsFurther its others
  is_further its others cut at = by_more (ahead its others cut at).0 (ahead its others cut at).1 (ahead its others cut at).2
    where
      by_more : (more : List (List ℕ)) → others ≡ lexemes ++ more → AreFirstLexemes more rest its → IsFurther its others
      by_more [] same left = absurd (elsewhere (walked.place_is ∙ ap (λ (all : List (List ℕ)). place_after (concat all)) (sym (same ∙ append-nil lexemes)) ∙ at))
      by_more (first ∷ more) same (later, one, left) = further first more later same one left

  -- one lexeme is passed
  pub still_ahead : (lexeme : Lexeme) → Opens lexeme rest → IsAhead text (drop lexeme.len rest) (lexemes ++ take lexeme.len rest ∷ []) place
  still_ahead lexeme front its others cut at = by_further (is_further its others cut at)
    where
      by_further : IsFurther its others → (more : List (List ℕ)) × (others ≡ (lexemes ++ take lexeme.len rest ∷ []) ++ more) × AreFirstLexemes more (drop lexeme.len rest) its
      by_further (further first more later same one left) =
          let first_is = one_first (take lexeme.len rest) first rest (drop lexeme.len rest) later front.first one in (
            more,
            same ∙ ap (λ (t : List ℕ). lexemes ++ t ∷ more) (sym first_is.0) ∙ sym (append_assoc lexemes (take lexeme.len rest ∷ []) more),
            subst (λ (t : List ℕ). AreFirstLexemes more t its) (sym first_is.1) left,
          )

  -- nothing is left
  pub none_ahead : rest ≡ [] → AreFoundAt text place None
  none_ahead empty places there = by_further (is_further there.rest there.cut.lexemes there.cut.cut (ends_at text place places there))
    where
      by_further : IsFurther there.rest there.cut.lexemes → IsBrokenBefore text place
      by_further (further [] more later same one left) = absurd (no_lexeme one.lexeme)
      by_further (further (code ∷ first) more later same one left) = let none : ◌≡◌ {A = List ℕ} [] (code ∷ (first ++ later)) = sym empty ∙ one.split in cc

  -- the first lexeme that is left may not stand in a text
  pub broken : IsHindered rest → AreFoundAt text place None
  broken hindered places there = by_further (is_further there.rest there.cut.lexemes there.cut.cut (ends_at text place places there))
    where
      split : text ≡ concat lexemes ++ rest
      split = cut_split lexemes text rest walked.cut

      place_by : (first : List ℕ) (more : List (List ℕ)) → there.cut.lexemes ≡ lexemes ++ first ∷ more → place ≡ place_after (concat lexemes ++ (first ++ concat more))
      place_by first more same =
          sym (ends_at text place places there) ∙ ap (λ (all : List (List ℕ)). place_after (concat all)) same ∙ ap place_after (concat_append lexemes (first ∷ more))

      by_hindered : (first : List ℕ) (more : List (List ℕ)) (later : List ℕ) → place ≡ place_after (concat lexemes ++ (first ++ concat more)) → IsFirstLexeme first rest later
          → IsHindered rest → IsBrokenBefore text place
      by_hindered first more later at one (IsHindered.unclosed comment) = record {
        rule = S6;
        at = place_after (concat lexemes);
        of_bytes = inr refl;
        fails = Fails.unclosed (concat lexemes) rest (tokens_from [] lexemes) split (record { lexemes = lexemes; cut = walked.cut; same = refl }) comment;
        earlier = subst (λ (p : Place). Precedes (place_after (concat lexemes)) p) (sym at) (later_by (concat lexemes) first (concat more) rest later one);
      }
      by_hindered first more later at one (IsHindered.stops n stops) =
          let same = (one_first stops.bytes first rest stops.rest later stops.first one).0 in
          let within : n < length first = subst (λ (t : List ℕ). n < length t) same stops.within in
          let front : take n rest ≡ take n first = ap (take n) one.split ∙ take-append-le n first later (omega (arith, within)) in
          let code = get_or first n 0 in
          let tail = drop (suc n) first in
          let whole : first ≡ take n rest ++ code ∷ tail =
          sym (take-append-drop n first) ∙ ap (λ (t : List ℕ). take n first ++ t) (drop-cons first n 0 within) ∙ ap (λ (t : List ℕ). t ++ code ∷ tail) (sym front) in
          let there_is : concat lexemes ++ (first ++ concat more) ≡ (concat lexemes ++ take n rest) ++ code ∷ (tail ++ concat more) =
          ap (λ (t : List ℕ). concat lexemes ++ (t ++ concat more)) whole
          ∙ ap (λ (t : List ℕ). concat lexemes ++ t) (append_assoc (take n rest) (code ∷ tail) (concat more))
          ∙ sym (append_assoc (concat lexemes) (take n rest) (code ∷ (tail ++ concat more))) in record {
            rule = S1;
            at = place_after (concat lexemes ++ take n rest);
            of_bytes = inl refl;
            fails = stop_fails text (concat lexemes) rest n split stops;
            earlier = subst (λ (p : Place). Precedes (place_after (concat lexemes ++ take n rest)) p) (sym (at ∙ ap place_after there_is))
                (precedes (concat lexemes ++ take n rest) code (tail ++ concat more));
          }

      by_further : IsFurther there.rest there.cut.lexemes → IsBrokenBefore text place
      by_further (further first more later same one left) = by_hindered first more later (place_by first more same) one hindered

-- all tokens of a text that ends too early come before its end
at_end : (text : List ℕ) (end : Place) → Fails text S3 end → (tokens : List Token) × AreOpenAt text end (open_of tokens)
at_end text end (Fails.unfinished tokens begins viable not) = (
  tokens,
  record {
    before = text;
    rest = [];
    tokens = tokens;
    split = sym (append-nil text);
    at = refl;
    cut = begins;
    same = refl;
  },
)

-- nothing before it is broken, since that would have failed first
not_broken : (text : List ℕ) (end : Place) → IsSyntaxFailure text S3 end → IsBrokenBefore text end → ⊥
not_broken text end failure broken_there = by_first (failure.first broken_there.rule broken_there.at broken_there.fails)
  where
    by_first : ComesFirst S3 end broken_there.rule broken_there.at → ⊥
    by_first (inl earlier) = not_both end broken_there.at earlier broken_there.earlier
    by_first (inr (same, low)) = not_itself end (subst (λ (p : Place). Precedes p end) (sym same) broken_there.earlier)

-- where a text ends too early, the brackets that are open there are found
pub found_at_end : (text : List ℕ) (end : Place) → IsSyntaxFailure text S3 end → AreFoundAt text end None → ⊥
found_at_end text end failure none =
    let found = at_end text end failure.fails in
    not_broken text end failure (none (open_of found.0) found.1)

-- lexemes that go on behind others do not end at the same place
no_more : (lexemes others more : List (List ℕ)) (rest its : List ℕ) (place : Place) → others ≡ lexemes ++ more → AreFirstLexemes more rest its
    → place_after (concat lexemes) ≡ place → place_after (concat others) ≡ place → others ≡ lexemes
no_more lexemes others [] rest its place same cut one other = same ∙ append-nil lexemes
no_more lexemes others (first ∷ more) rest its place same (later, front, cut) one other =
    let beyond : place_after (concat lexemes ++ (first ++ concat more)) ≡ place =
    ap place_after (sym (concat_append lexemes (first ∷ more))) ∙ ap (λ (all : List (List ℕ)). place_after (concat all)) (sym same) ∙ other in
    absurd (not_itself place (subst (λ (p : Place). Precedes p place) one
    (subst (λ (p : Place). Precedes (place_after (concat lexemes)) p) beyond (later_by (concat lexemes) first (concat more) rest later front))))

-- at a place of a text no other brackets are open
pub one_answer : (text : List ℕ) (place : Place) (places others : List Place) → AreOpenAt text place places → AreOpenAt text place others → places ≡ others
one_answer text place places others one other =
    one.same ∙ ap open_of (one.cut.same ∙ ap (tokens_from []) lexemes ∙ sym other.cut.same) ∙ sym other.same
  where
    here : place_after (concat one.cut.lexemes) ≡ place
    here = ends_at text place places one

    there : place_after (concat other.cut.lexemes) ≡ place
    there = ends_at text place others other

    by_cuts : ((more : List (List ℕ)) × (other.cut.lexemes ≡ one.cut.lexemes ++ more) × AreFirstLexemes more one.rest other.rest)
        ⊎ ((more : List (List ℕ)) × (one.cut.lexemes ≡ other.cut.lexemes ++ more) × AreFirstLexemes more other.rest one.rest)
        → one.cut.lexemes ≡ other.cut.lexemes
    by_cuts (inl (more, same, cut)) = sym (no_more one.cut.lexemes other.cut.lexemes more one.rest other.rest place same cut here there)
    by_cuts (inr (more, same, cut)) = no_more other.cut.lexemes one.cut.lexemes more other.rest one.rest place same cut there here

    lexemes : one.cut.lexemes ≡ other.cut.lexemes
    lexemes = by_cuts (compare_cuts one.cut.lexemes other.cut.lexemes text one.rest other.rest one.cut.cut other.cut.cut)

-- one lexeme is passed on the way
pub goes_on : (text rest left : List ℕ) (walk after : BracketWalk) (place : Place) → IsOnItsWay text rest walk place → ¬ (walk.place ≡ place)
    → (lexeme : Lexeme) → Opens lexeme rest → left ≡ drop lexeme.len rest
    → ((whole : List ℕ) (lexemes : List (List ℕ)) → HasWalked whole rest lexemes walk → HasWalked whole (drop lexeme.len rest) (lexemes ++ take lexeme.len rest ∷ []) after)
    → IsOnItsWay text left after place
goes_on text rest left walk after place way elsewhere lexeme front same passes =
    subst (λ (t : List ℕ). IsOnItsWay text t after place) (sym same) (record {
      lexemes = way.lexemes ++ take lexeme.len rest ∷ [];
      walked = passes text way.lexemes way.walked;
      ahead = still_ahead text rest way.lexemes walk place way.walked way.ahead elsewhere lexeme front;
    })

-- nothing has been passed
pub begins : (text : List ℕ) (walk : BracketWalk) (place : Place) → HasWalked text text [] walk → IsOnItsWay text text walk place
begins text walk place walked = record { lexemes = []; walked = walked; ahead = all_ahead text place }
