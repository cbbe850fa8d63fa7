-- From what the parts of a call ensure to what it ensures.
use Rattle.std.proofs.Common.{◌≡◌, ◌<◌, ◌≤◌, ◌+◌, ℕ, zero, suc, Bool, true, false, List, [], ◌∷◌, ◌++◌, length, drop, Option, Some, Result, Ok, Err, refl, sym, ap, ◌∙◌, subst, arith}
use Rattle.std.specs.Prelude.{bytes_eq, slice_get, IfErr, IsErrAnd}
use Rattle.std.proofs.lemmas.Bool.{false≢true}
use Rattle.std.proofs.lemmas.Grind.{flat_map-append}
use Rattle.std.proofs.lemmas.List.{length-append}
use Rattle.std.proofs.lemmas.Slice.Eq.{bytes_eq-Decides}
use Rattle.twe_base.specs.Language.{max_text_bytes}
use Rattle.effect_sets.specs.declared.effects.Summary.{Summary}
use Rattle.twe_ast.specs.declared.item.Ast.{Ast}
use Rattle.twe_ast.specs.declared.item.Decl.{Decl}
use Rattle.twe_ast.specs.declared.item.Item.{Item}
use Rattle.twe_ast.specs.declared.item.Item.TheVariants.{Method}
use Rattle.twe_program.specs.Program.{Program}
use Rattle.twe_names.specs.Meaning.{program_of}
use Rattle.ast_printer.specs.ItemTokens.{printed_tokens}
use Rattle.twe_frontend.specs.meaning.Meaning.{TextMeans}
use Rattle.summary_texts.specs.Written.{HasSummaries}
use Rattle.summary_texts.specs.News.{bytes_of_new, bytes_of_news, new_of, news_of}
use Rattle.summary_texts.specs.declared.fail.PasteFail.{PasteFail}
use Rattle.summary_texts.specs.declared.fail.PasteFail.TheVariants.{TooLong, Differs, OutOfMemory}
use Rattle.summary_texts.specs.Items.{tree_with}
use Rattle.summary_texts.specs.Pasted.{AgainHasCause, Changes, HasSummariesOf, IsOtherwise, IsPastedText, IsReadAgain, IsReadOtherwise, IsTooLong, NewsHaveCause, PasteHasCause, SettledHasCause}

-- a failure that is passed on has its cause
pub passed-on : {T : Type 0} (made : Result T PasteFail) (fail : PasteFail) (Cause : PasteFail → Type 0) → IsErrAnd made (λ e. e ≡ fail) → Cause fail → IfErr made Cause
passed-on (Ok value) fail Cause same cause = absurd same
passed-on (Err other) fail Cause same cause = subst Cause (sym same) cause

-- a text that was read is the tree again, or not
module _ (pasted tree : Ast) (p : Program) (written : List ℕ) (means : TextMeans written tree p) (test : Bool) (is : test ≡ bytes_eq (printed_tokens pasted) (printed_tokens tree)) where
  pub read-alike : test ≡ true → IsReadAgain pasted written
  read-alike passed = record { tree = tree; program = p; means = means; alike = (bytes_eq-Decides (printed_tokens pasted) (printed_tokens tree)).0 (sym is ∙ passed) }

  pub read-unlike : test ≡ false → IsOtherwise pasted written
  read-unlike failed = IsOtherwise.unlike tree p means (λ same. false≢true (sym failed ∙ is ∙ (bytes_eq-Decides (printed_tokens pasted) (printed_tokens tree)).1 same))

-- a text that is written again stays as it is, or not
module _ (news : List (Option (List ℕ))) (written twice : List ℕ) (has : HasSummaries news written twice) (test : Bool) (is : test ≡ bytes_eq twice written) where
  pub stays-same : test ≡ true → HasSummaries news written written
  stays-same passed = subst (λ (text : List ℕ). HasSummaries news written text) ((bytes_eq-Decides twice written).0 (sym is ∙ passed)) has

  pub changes-then : test ≡ false → Changes news written
  changes-then failed = (twice, has, λ same. false≢true (sym failed ∙ is ∙ (bytes_eq-Decides twice written).1 same))

-- what is left of a list from one of its items on
drop-at : {X : Type 0} (xs : List X) (n : ℕ) (x : X) → slice_get xs n ≡ Some x → drop n xs ≡ x ∷ drop (suc n) xs
drop-at [] n x e = absurd (cc)
drop-at (y ∷ xs) zero x e = let is : y ≡ x = cc in ap (λ z. z ∷ xs) is
drop-at (y ∷ xs) (suc n) x e = drop-at xs n x e

-- the new bytes so far, and those of one method more, are too many: all are
pub too-many-bytes : (regions : List (List ℕ)) (each : List (Option Summary)) (items : List Item) (news : List (Option (List ℕ))) (at index total count : ℕ) (its : Option Summary) (decl : Decl)
    → news ++ news_of regions (drop at each) (drop index items) ≡ news_of regions each items → slice_get each at ≡ Some its → slice_get items index ≡ Some (Method decl)
    → total ≡ length (bytes_of_news news) → count ≡ length (bytes_of_new (new_of regions decl.params its)) → max_text_bytes < total + count
    → max_text_bytes < length (bytes_of_news (news_of regions each items))
too-many-bytes regions each items news at index total count its decl rest given is total_is count_is many =
    let new = new_of regions decl.params its in
    let others = news_of regions (drop (suc at) each) (drop (suc index) items) in
    let step : news_of regions (drop at each) (drop index items) ≡ new ∷ others = λ i. news_of regions (drop-at each at its given i) (drop-at items index (Method decl) is i) in
    let whole : news ++ (new ∷ others) ≡ news_of regions each items = ap (λ (more : List (Option (List ℕ))). news ++ more) (sym step) ∙ rest in
    let long : length (bytes_of_news (news ++ (new ∷ others))) ≡ length (bytes_of_news news) + length (bytes_of_new new ++ bytes_of_news others) =
    ap (λ (bytes : List ℕ). length bytes) (flat_map-append bytes_of_new news (new ∷ others)) ∙ length-append (bytes_of_news news) (bytes_of_new new ++ bytes_of_news others) in
    let more = length-append (bytes_of_new new) (bytes_of_news others) in
    subst (λ (all : List (Option (List ℕ))). max_text_bytes < length (bytes_of_news all)) whole (omega (arith, long, more, total_is, count_is, many))

-- the same text, written with what these summaries give
module _ (each : List (Option Summary)) (tree : Ast) (text : List ℕ) (regions : List (List ℕ)) (items : List Item) (regions_are : regions ≡ (program_of tree).regions) (items_are : items ≡ tree.items) where
  abbrev its-news : List (Option (List ℕ))
  its-news = news_of (program_of tree).regions each tree.items

  same-news : news_of regions each items ≡ its-news
  same-news = λ i. news_of (regions_are i) each (items_are i)

  -- the new bytes alone are too many
  pub from-news : (fail : PasteFail) → NewsHaveCause regions each items fail → PasteHasCause each tree text fail
  from-news TooLong many = IsTooLong.clauses (subst (λ (news : List (Option (List ℕ))). max_text_bytes < length (bytes_of_news news)) same-news many)
  from-news Differs none = absurd none
  from-news (OutOfMemory memory) given = given

  module _ (news : List (Option (List ℕ))) (written : List ℕ) (pasted : Ast) (news_are : news ≡ news_of regions each items) (has : HasSummaries news text written) where
    news-is : news ≡ its-news
    news-is = news_are ∙ same-news

    pub has-of : HasSummariesOf each tree text written
    has-of = subst (λ (its : List (Option (List ℕ))). HasSummaries its text written) news-is has

    -- it is read otherwise
    pub from-again : pasted ≡ tree_with each tree → (fail : PasteFail) → AgainHasCause pasted written fail → PasteHasCause each tree text fail
    from-again is TooLong none = absurd none
    from-again is Differs otherwise = IsReadOtherwise.otherwise written has-of (subst (λ (its : Ast). IsOtherwise its written) is otherwise)
    from-again is (OutOfMemory memory) given = given

    -- it changes when it is written again
    pub from-settled : (fail : PasteFail) → SettledHasCause news written fail → PasteHasCause each tree text fail
    from-settled TooLong none = absurd none
    from-settled Differs changes = IsReadOtherwise.changes written has-of (subst (λ (its : List (Option (List ℕ))). Changes its written) news-is changes)
    from-settled (OutOfMemory memory) given = given

    -- all is well
    pub is-pasted : pasted ≡ tree_with each tree → length written ≤ max_text_bytes → IsReadAgain pasted written → HasSummaries news written written → IsPastedText each tree text written
    is-pasted is short again settled = record {
      bytes = has-of;
      short = short;
      again = subst (λ (its : Ast). IsReadAgain its written) is again;
      settled = subst (λ (its : List (Option (List ℕ))). HasSummaries its written written) news-is settled;
    }
