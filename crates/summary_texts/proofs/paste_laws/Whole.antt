-- A tree with the clauses of such summaries, and the program that it means.
use Rattle.std.proofs.Common.{◌≡◌, ℕ, false, List, [], ◌∷◌, map, length, sym, ap, ◌∙◌, subst}
use Rattle.std.specs.List.{AllByRecursion, AllZip}
use Rattle.effect_sets.specs.declared.effects.Summary.{Summary}
use Rattle.twe_ast.specs.declared.item.Ast.{Ast}
use Rattle.twe_program.specs.Program.{Program}
use Rattle.twe_parser.specs.Limits.{limits_at_start}
use Rattle.twe_names.specs.Meaning.{program_of}
use Rattle.twe_frontend.specs.Accepted.{IsTreeOf, IsMeaningOf, Accepted}
use Rattle.ast_printer.specs.ItemTokens.{items_tokens, printed_tokens}
use Rattle.ast_printer.specs.ParsesAgain.{ParsesAgain}
use Rattle.ast_printer.proofs.Supply.{kinds_in}
use Rattle.ast_printer.proofs.Passing.{AllPass}
use Rattle.ast_printer.proofs.PassesItem as printer
use Rattle.ast_printer.proofs.Accepted.{tokens_pass}
use Rattle.ast_printer.proofs.ParsedAgain.{both_start, from_words}
use Rattle.summary_texts.proofs.paste_laws.places.Texts.{meant-alike}
use Rattle.effect_infer.specs.needs.Needs.{effect_of}
use Rattle.effect_infer.specs.needs.Choices.{HasNeeds, NoRuleFails, with_summaries}
use Rattle.effect_infer.specs.Inferred.{AreLeast}
use Rattle.twe_base.proofs.Members.{IsIn, contains-in, in-contains}
use Rattle.ast_printer.specs.BareItem as trees
use Rattle.moved_places.proofs.Lists.{map-in}
use Rattle.summary_texts.specs.paste_laws.places.Places.{bare_program}
use Rattle.summary_texts.specs.paste_laws.Clauses.{CanBeWritten, pasted}
use Rattle.summary_texts.specs.paste_laws.Pasted.{HaveSameEffects, IsPasted, CanBePasted}
use Rattle.summary_texts.proofs.paste_laws.places.Alike.{fails-alike}
use Rattle.summary_texts.proofs.paste_laws.Orders.{order-apart}
use Rattle.summary_texts.proofs.paste_laws.Names.{Keeps}
use Rattle.summary_texts.proofs.paste_laws.Clauses.{in_clauses, clauses-in, in-clauses}
use Rattle.summary_texts.proofs.paste_laws.PastedItems.{reordered}
use Rattle.summary_texts.proofs.paste_laws.PastedNames.{names-kept, pasted-means}
use Rattle.summary_texts.proofs.paste_laws.Fitting.{all-needed, all-meant, all-within, all-read}
use Rattle.summary_texts.proofs.paste_laws.Sounds.{Sounds, all-sound}
use Rattle.summary_texts.proofs.paste_laws.Words.{items-pass}
use Rattle.summary_texts.proofs.paste_laws.Written.{items-written}

-- the order of the clauses has the same effects
same-order : (written summaries : List Summary) → AllZip HaveSameEffects written summaries → AllZip HaveSameEffects (map reordered written) summaries
same-order [] [] h = tt
same-order [] (summary ∷ summaries) h = absurd h
same-order (one ∷ written) [] h = absurd h
same-order (one ∷ written) (summary ∷ summaries) h = (
  λ effect. (
    λ there. (h.0 effect).0 (in-contains one.effects effect (clauses-in one.effects effect (contains-in (in_clauses one.effects) effect there))),
    λ there. in-contains (in_clauses one.effects) effect (in-clauses one.effects effect (contains-in one.effects effect ((h.0 effect).1 there))),
  ),
  same-order written summaries h.1,
)

module _ (tree : Ast) (keeps : Keeps tree) (summaries written : List Summary) (needs : HasNeeds (program_of tree) summaries)
    (same : AllZip HaveSameEffects written summaries) (can : AllByRecursion CanBeWritten written) where
  pub tree-kept : Keeps (pasted written tree)
  tree-kept = names-kept tree keeps written (all-needed tree keeps summaries written needs same can) (all-within tree keeps summaries written needs same can)

  pub tree-means : IsPasted summaries (program_of tree) (program_of (pasted written tree))
  tree-means = record {
    written = map reordered written;
    same_effects = same-order written summaries same;
    same_otherwise = ap bare_program (pasted-means tree keeps written (all-meant tree keeps summaries written needs same can));
  }

  pub tree-pasted : Keeps (pasted written tree) × IsPasted summaries (program_of tree) (program_of (pasted written tree))
  tree-pasted = (tree-kept, tree-means)

-- the rules on effects that the program with these summaries keeps
pub rules-kept : (summaries : List Summary) (p q : Program) → IsPasted summaries p q → length summaries ≡ length p.methods
    → NoRuleFails (with_summaries summaries p) → NoRuleFails q
rules-kept summaries p q pasted long passes rule place fails =
    let was = fails-alike q (with_summaries pasted.written p) pasted.same_otherwise rule place fails in
    order-apart p summaries pasted.written long pasted.same_effects passes rule was.0 was.1

-- The texts of the pasted tree.
module _ (text : List ℕ) (p : Program) (meaning : IsMeaningOf text p) (summaries written : List Summary) (needs : HasNeeds (program_of meaning.tree) summaries)
    (same : AllZip HaveSameEffects written summaries) (can : AllByRecursion CanBeWritten written) where
  abbrev tree : Ast
  tree = meaning.tree

  source-pass : AllPass limits_at_start (kinds_in meaning.parsed.tokens)
  source-pass = tokens_pass text meaning.parsed.tokens meaning.parsed.keeps meaning.parsed.cut

  tree-sounds : Sounds (items_tokens tree.items)
  tree-sounds = all-sound (items_tokens tree.items) limits_at_start ((printer.items_pass meaning.parsed.writes false false).pass limits_at_start limits_at_start both_start source-pass)

  new-pass : AllPass limits_at_start (items_tokens (pasted written tree).items)
  new-pass =
      (items-pass meaning.parsed.writes (program_of tree).regions written (all-read tree meaning.keeps summaries written needs same can tree-sounds) false false).pass
      limits_at_start limits_at_start both_start source-pass

  parses : ParsesAgain (printed_tokens (pasted written tree)) (pasted written tree)
  parses = from_words (pasted written tree) new-pass (items-written meaning.parsed.writes (program_of tree).regions written)

  -- the printed text parses, and its tree is the pasted one but for places
  pub text-printed : (its : Ast) × IsTreeOf (printed_tokens (pasted written tree)) its × trees.EqualButForPlaces (pasted written tree) its
  text-printed = (
    parses.again,
    record {
      tokens = parses.parsed.tokens;
      cut = parses.parsed.cut;
      writes = parses.parsed.writes;
      end = parses.end;
      keeps = parses.parsed.accepted;
    },
    sym parses.same,
  )

  -- each text with this tree means the program with these summaries
  pub text-meant : (other : List ℕ) (its : Ast) → IsTreeOf other its → trees.EqualButForPlaces (pasted written tree) its → (q : Program) × IsMeaningOf other q × IsPasted summaries p q
  text-meant other its parsed alike =
      let kept = tree-kept tree meaning.keeps summaries written needs same can in
      let moved = meant-alike (pasted written tree) its other alike parsed kept in
      let means = tree-means tree meaning.keeps summaries written needs same can in (
        moved.0,
        moved.1,
        record {
          written = means.written;
          same_effects = means.same_effects;
          same_otherwise = sym moved.2 ∙ means.same_otherwise ∙ ap (λ (r : Program). bare_program (with_summaries means.written r)) (sym meaning.meaning);
        },
      )

-- least summaries are made of needs
least-needs : (p : Program) (summaries : List Summary) → AreLeast p summaries → HasNeeds p summaries
least-needs p summaries least m summary effect at there =
    let its = least.least m summary at in
    let found = map-in effect_of its.0 effect (subst (λ (s : Summary). IsIn effect s.effects) its.3 (contains-in summary.effects effect there)) in
    (found.0, ((its.1.exact found.0).0 (in-contains its.0 found.0 found.1)).needed, found.2)

-- the same of least summaries
module _ (text : List ℕ) (p : Program) (meaning : IsMeaningOf text p) (summaries written : List Summary) (least : AreLeast p summaries) (can : CanBePasted written summaries) where
  needed : HasNeeds (program_of meaning.tree) summaries
  needed = subst (λ (r : Program). HasNeeds r summaries) meaning.meaning (least-needs p summaries least)

  pub least-printed : (its : Ast) × IsTreeOf (printed_tokens (pasted written meaning.tree)) its × trees.EqualButForPlaces (pasted written meaning.tree) its
  least-printed = text-printed text p meaning summaries written needed can.same can.can

  pub least-meant : (other : List ℕ) (its : Ast) → IsTreeOf other its → trees.EqualButForPlaces (pasted written meaning.tree) its
      → (q : Program) × IsMeaningOf other q × IsPasted summaries p q
  least-meant other its parsed alike = text-meant text p meaning summaries written needed can.same can.can other its parsed alike

  pub least-accepted : (other : List ℕ) (its : Ast) → IsTreeOf other its → trees.EqualButForPlaces (pasted written meaning.tree) its
      → NoRuleFails (with_summaries summaries p) → (q : Program) × Accepted other q × IsPasted summaries p q
  least-accepted other its parsed alike passes =
      let found = least-meant other its parsed alike in
      (found.0, record { meant = found.1; keeps = rules-kept summaries p found.0 found.2 least.one_each passes }, found.2)
