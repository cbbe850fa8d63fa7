-- A text that was written with its least summaries does not change when it is written with its least summaries again.
use Rattle.std.proofs.Common.{◌≡◌, ℕ, suc, true, false, List, [], ◌∷◌, map, length, Option, None, Some, refl, sym, ap, ◌∙◌, subst, arith}
use Rattle.std.specs.Prelude.{slice_get}
use Rattle.std.specs.List.{AllZip, list_all}
use Rattle.effect_sets.specs.declared.effects.Summary.{Summary}
use Rattle.twe_ast.specs.declared.item.Ast.{Ast}
use Rattle.twe_ast.specs.declared.item.Item.{Item}
use Rattle.twe_program.specs.Program.{Program}
use Rattle.twe_names.specs.Meaning.{program_of}
use Rattle.ast_printer.specs.BareItem.{bare_item}
use Rattle.effect_infer.specs.needs.Choices.{with_summaries}
use Rattle.effect_infer.specs.Inferred.{AreEachLeast, AreLeast, IsLeast, IsLeastIfFew}
use Rattle.summary_texts.specs.paste_laws.places.Places.{SameButPlaces}
use Rattle.summary_texts.specs.paste_laws.Clauses.{pasted, pasted_items}
use Rattle.summary_texts.specs.paste_laws.Pasted.{IsPasted}
use Rattle.twe_frontend.specs.meaning.Meaning.{TextMeans}
use Rattle.summary_texts.specs.Written.{HasSummaries}
use Rattle.summary_texts.proofs.Whole.{one_text}
use Rattle.summary_texts.specs.Pasting.{in_line}
use Rattle.summary_texts.proofs.OneLine.{not-least, same-clause}
use Rattle.summary_texts.proofs.SameTree.{OneTree, same_tree}
use Rattle.summary_texts.specs.News.{news_of}
use Rattle.summary_texts.specs.Pasted.{HasSummariesOf, IsPastedText}
use Rattle.summary_texts.specs.Writable.{is_writable}
use Rattle.summary_texts.proofs.Accepted.{alike, is-meant}
use Rattle.summary_texts.proofs.SameNeeds.{as-many, least-from, many-from, same-regions}
use Rattle.summary_texts.proofs.SameNews.{WritesSame, bare-params, method_params, new_from, pasted-params, same-news}

-- the same is written for two least summaries of a method
module _ (p q : Program) (summaries : List Summary) (same : SameButPlaces q (with_summaries summaries p)) where
  writes-same : (m : ℕ) (its : Option Summary) (summary : Summary) → IsLeastIfFew q m its → IsLeast p m summary → WritesSame its (Some summary)
  writes-same m None summary many least regions params = absurd (not-least p m summary (many-from p q summaries same m many) least)
  writes-same m (Some its) summary also least regions params =
      let mine = least-from p q summaries same m its also in
      λ i. new_from regions params (same-clause p m its summary false mine least i) (same-clause p m its summary true mine least i)

each-same : (each : List (Option Summary)) (all : List Summary) → length each ≡ length all
    → ((m : ℕ) (its : Option Summary) (summary : Summary) → slice_get each m ≡ Some its → slice_get all m ≡ Some summary → WritesSame its (Some summary)) → AllZip WritesSame each (map Some all)
each-same [] [] long h = tt
each-same [] (summary ∷ all) long h = absurd (omega (arith, long))
each-same (its ∷ each) [] long h = absurd (omega (arith, long))
each-same (its ∷ each) (summary ∷ all) long h = (h 0 its summary refl refl, each-same each all (omega (arith, long)) (λ m one other e f. h (suc m) one other e f))

module _ (one : OneTree) (text written : List ℕ) (tree its : Ast) (p q : Program) (all : List Summary) (each : List (Option Summary)) (means : TextMeans text tree p) (least : AreLeast p all)
    (can : list_all is_writable all ≡ true) (is : IsPastedText (map Some all) tree text written) (also : TextMeans written its q) (again : AreEachLeast q each) where
  pasted-in : IsPasted all p q
  pasted-in =
      let meant = is-meant one text written tree p all means least can is in
      let same : meant.0 ≡ q = meant.1.meaning ∙ ap program_of (same_tree one written meant.1.tree its meant.1.parsed also.parsed) ∙ sym also.meaning in
      subst (λ (r : Program). IsPasted all p r) same meant.2

  same-each : AllZip WritesSame each (map Some all)
  same-each =
      let same = pasted-in.same_otherwise in
      let long = again.one_each ∙ as-many p q pasted-in.written same ∙ sym least.one_each in
      each-same each all long (λ m one_is summary e f. writes-same p q pasted-in.written same m one_is summary (again.least m one_is e) (least.least m summary f))

  same-params : method_params its.items ≡ method_params tree.items
  same-params =
      let regions = (program_of tree).regions in
      let trees : map bare_item (pasted_items regions (map in_line all) tree.items) ≡ map bare_item its.items =
      alike one text written tree p all means least can is ∙ ap (λ (t : Ast). map bare_item t.items) (same_tree one written is.again.tree its is.again.means.parsed also.parsed) in
      sym (bare-params its.items) ∙ ap method_params (sym trees) ∙ bare-params (pasted_items regions (map in_line all) tree.items) ∙ pasted-params regions (map in_line all) tree.items

  regions-are : (program_of its).regions ≡ (program_of tree).regions
  regions-are = ap (λ (r : Program). r.regions) (sym also.meaning) ∙ same-regions p q pasted-in.written pasted-in.same_otherwise ∙ ap (λ (r : Program). r.regions) means.meaning

  pub unchanged : (twice : List ℕ) → HasSummariesOf each its written twice → twice ≡ written
  unchanged twice has =
      let news : news_of (program_of its).regions each its.items ≡ news_of (program_of tree).regions (map Some all) tree.items =
      ap (λ (regions : List (List ℕ)). news_of regions each its.items) regions-are
      ∙ same-news (program_of tree).regions each (map Some all) its.items tree.items same-each same-params in
      one_text (news_of (program_of tree).regions (map Some all) tree.items) written twice written
      (subst (λ (new : List (Option (List ℕ))). HasSummaries new written twice) news has) is.settled
