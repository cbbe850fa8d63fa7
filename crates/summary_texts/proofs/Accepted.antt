-- A text that was written with the least summaries and read again is the text with these summaries.
use Rattle.std.proofs.Common.{◌≡◌, ℕ, Bool, true, List, map, Some, ap, ◌∙◌, subst}
use Rattle.std.specs.List.{list_all}
use Rattle.effect_sets.specs.declared.effects.Summary.{Summary}
use Rattle.twe_ast.specs.declared.item.Ast.{Ast}
use Rattle.twe_program.specs.Program.{Program}
use Rattle.twe_frontend.specs.Accepted.{Accepted, IsMeaningOf, IsTreeOf}
use Rattle.ast_printer.specs.BareItem.{EqualButForPlaces, bare_item}
use Rattle.ast_printer.specs.ItemTokens.{printed_tokens}
use Rattle.ast_printer.specs.ParsesAgain.{IsTextOf, ParsesAgain}
use Rattle.ast_printer.proofs.ParsedAgain.{parses_again}
use Rattle.effect_infer.specs.needs.Choices.{NoRuleFails, with_summaries}
use Rattle.effect_infer.specs.Inferred.{AreLeast}
use Rattle.summary_texts.specs.paste_laws.Clauses.{pasted}
use Rattle.summary_texts.specs.paste_laws.Pasted.{CanBePasted, IsPasted}
use Rattle.summary_texts.proofs.paste_laws.Whole.{least-printed, least-meant, least-accepted}
use Rattle.twe_frontend.specs.meaning.Meaning.{TextMeans}
use Rattle.summary_texts.specs.Pasting.{in_line}
use Rattle.summary_texts.proofs.SameEffects.{lines-same}
use Rattle.summary_texts.proofs.SameTree.{OneTree, same_tree}
use Rattle.summary_texts.specs.Items.{tree_with}
use Rattle.summary_texts.specs.Pasted.{IsPastedText, IsReadAgain}
use Rattle.summary_texts.specs.Writable.{is_writable}
use Rattle.summary_texts.proofs.PastedTree.{tree-pasted}
use Rattle.summary_texts.proofs.Fitting.{all-can}

-- the tree of a text that is printed as another text is, is that tree but for places
as-text : (text : List ℕ) (tree : Ast) → IsTreeOf text tree → IsTextOf text tree
as-text text tree parsed = record { tokens = parsed.tokens; cut = parsed.cut; writes = parsed.writes; accepted = parsed.keeps }

as-tree : (text : List ℕ) (tree : Ast) (again : ParsesAgain text tree) → IsTreeOf text again.again
as-tree text tree again =
    record { tokens = again.parsed.tokens; cut = again.parsed.cut; writes = again.parsed.writes; end = again.end; keeps = again.parsed.accepted }

alike-trees : OneTree → (written : List ℕ) (pasted_tree its tree : Ast) → IsTreeOf (printed_tokens pasted_tree) its → EqualButForPlaces pasted_tree its
    → IsTreeOf written tree → printed_tokens pasted_tree ≡ printed_tokens tree → EqualButForPlaces pasted_tree tree
alike-trees one written pasted_tree its tree parsed same again alike =
    let printed = parses_again written tree (as-text written tree again) in
    let one_is : its ≡ printed.again = same_tree one (printed_tokens tree) its printed.again (subst (λ (t : List ℕ). IsTreeOf t its) alike parsed) (as-tree (printed_tokens tree) tree printed) in
    same ∙ ap (λ (t : Ast). map bare_item t.items) one_is ∙ printed.same

module _ (one : OneTree) (text written : List ℕ) (tree : Ast) (p : Program) (all : List Summary) (means : TextMeans text tree p) (least : AreLeast p all)
    (can : list_all is_writable all ≡ true) (is : IsPastedText (map Some all) tree text written) where
  abbrev meaning : IsMeaningOf text p
  meaning = record { tree = tree; parsed = means.parsed; keeps = means.keeps; meaning = means.meaning }

  pastable : CanBePasted (map in_line all) all
  pastable = record { same = lines-same p all least; can = all-can all can }

  pub alike : EqualButForPlaces (pasted (map in_line all) tree) is.again.tree
  alike =
      let printed = least-printed text p meaning all (map in_line all) least pastable in
      alike-trees one written (pasted (map in_line all) tree) printed.0 is.again.tree printed.1 printed.2 is.again.means.parsed
      (subst (λ (t : Ast). printed_tokens t ≡ printed_tokens is.again.tree) (tree-pasted tree all can) is.again.alike)

  pub is-meant : (q : Program) × IsMeaningOf written q × IsPasted all p q
  is-meant = least-meant text p meaning all (map in_line all) least pastable written is.again.tree is.again.means.parsed alike

  pub is-accepted : NoRuleFails (with_summaries all p) → (q : Program) × Accepted written q × IsPasted all p q
  is-accepted passes = least-accepted text p meaning all (map in_line all) least pastable written is.again.tree is.again.means.parsed alike passes
