-- Summaries that are made of needs, and that a text can have, fit into the text.
use Rattle.std.proofs.Common.{◌≡◌, ◌<◌, ◌≤◌, ℕ, ◌+◌, zero, suc, false, List, [], ◌∷◌, map, length, Option, None, Some, inl, inr, refl, sym, ap, ◌∙◌, subst, arith}
use Rattle.std.specs.Prelude.{slice_get}
use Rattle.std.specs.List.{AllByRecursion, AllZip, flat_map}
use Rattle.std.proofs.lemmas.List.{length-map}
use Rattle.twe_base.specs.Language.{max_path_elements}
use Rattle.region_paths.specs.Written.{WrittenPath}
use Rattle.effect_sets.specs.declared.effects.Effect.{Effect}
use Rattle.effect_sets.specs.declared.effects.Summary.{Summary}
use Rattle.twe_ast.specs.declared.item.Ast.{Ast}
use Rattle.twe_ast.specs.declared.item.CellDecl as written_cell
use Rattle.twe_ast.specs.declared.item.Decl.{Decl}
use Rattle.twe_ast.specs.declared.item.Item.{Item}
use Rattle.twe_ast.specs.declared.item.Item.TheVariants as items
use Rattle.twe_ast.specs.declared.name.Name.{Name}
use Rattle.twe_ast.specs.declared.path.CellElem.{CellElem}
use Rattle.twe_ast.specs.declared.path.CellElemKind.{CellElemKind}
use Rattle.twe_ast.specs.declared.path.CellElemKind.TheVariants as cell_kinds
use Rattle.twe_program.specs.declared.program.Decl as resolved
use Rattle.twe_program.specs.Program.{Program, size_of}
use Rattle.twe_program.specs.WellFormed.{ElementFits}
use Rattle.name_check.specs.declared.binding.Global.{Global}
use Rattle.name_check.specs.declared.binding.Global.TheVariants as global_kinds
use Rattle.name_check.specs.declared.names.GlobalName.{GlobalName}
use Rattle.name_check.specs.Names.{globals_of, global_of, seen_as_global}
use Rattle.name_check.specs.BodyScope.{params_of}
use Rattle.name_check.specs.Limits.{decls_of_item, decls_of}
use Rattle.name_check.specs.cell_limits.GoesOver.{cells_of}
use Rattle.effect_check.specs.Standing.{elements_from}
use Rattle.twe_names.specs.PathMeaning.{region_number, elem_of_cell_kind}
use Rattle.twe_names.specs.Meaning.{dims_of, cells_from, decl_of, methods_of_item, program_of}
use Rattle.twe_names.proofs.There.{GlobalsThere, SeenThere, global-there}
use Rattle.twe_names.proofs.Globals.{globals-there}
use Rattle.effect_infer.specs.declared.needs.need.Need.{Need}
use Rattle.effect_infer.specs.needs.Needs.{IsNeed, effect_of}
use Rattle.effect_infer.specs.needs.Choices.{HasNeeds}
use Rattle.twe_base.proofs.Members.{IsIn, in-contains, in-cases, all-in, all-front, all-back}
use Rattle.ast_printer.specs.ItemTokens.{item_tokens, items_tokens}
use Rattle.ast_printer.proofs.Passing.{Sound}
use Rattle.summary_texts.specs.paste_laws.Clauses.{texts_of, elements_written, CanBeWritten}
use Rattle.summary_texts.specs.paste_laws.Pasted.{HaveSameEffects}
use Rattle.summary_texts.proofs.paste_laws.Names.{Keeps, region-bound, region-in-scope, param-bound}
use Rattle.summary_texts.proofs.paste_laws.NeedsFit.{RegionFits, RegionsFit, NeedFits, need-fits}
use Rattle.summary_texts.proofs.paste_laws.Clauses.{Fits, all-from, clauses-mean, clauses-fit, IsPlainEffect}
use Rattle.summary_texts.proofs.paste_laws.PastedItems.{methods_in, Aligned, aligned, Needed, Meant}
use Rattle.summary_texts.proofs.paste_laws.PastedNames.{IsWithin}
use Rattle.summary_texts.proofs.paste_laws.Sounds.{IsRead, Sounds, program-regions, item-params}
use Rattle.summary_texts.proofs.paste_laws.Words.{Read, clauses-read}

-- one item of a list, and of two lists
at-all : {X : Type 0} (P : X → Type 0) (xs : List X) → AllByRecursion P xs → (m : ℕ) (x : X) → slice_get xs m ≡ Some x → P x
at-all P [] h m x e = absurd (let none : None ≡ Some x = e in cc)
at-all P (y ∷ xs) h zero x e = let same : y ≡ x = cc in subst P same h.0
at-all P (y ∷ xs) h (suc m) x e = at-all P xs h.1 m x e

at-both : {X Y : Type 0} (R : X → Y → Type 0) (xs : List X) (ys : List Y) → AllZip R xs ys → (m : ℕ) (x : X) → slice_get xs m ≡ Some x
    → (y : Y) × (slice_get ys m ≡ Some y) × R x y
at-both R [] [] h m x e = absurd (let none : None ≡ Some x = e in cc)
at-both R [] (y ∷ ys) h m x e = absurd h
at-both R (z ∷ xs) [] h m x e = absurd h
at-both R (z ∷ xs) (y ∷ ys) h zero x e = let same : z ≡ x = cc in (y, refl, subst (λ w. R w y) same h.0)
at-both R (z ∷ xs) (y ∷ ys) h (suc m) x e = at-both R xs ys h.1 m x e

-- the methods of a text and of its program
module _ (globals : List GlobalName) where
  method-at : (all : List Item) (m : ℕ) (decl : Decl) → slice_get (flat_map methods_in all) m ≡ Some decl
      → slice_get (flat_map (methods_of_item globals) all) m ≡ Some (decl_of globals false decl)
  method-at [] m decl e = absurd (let none : None ≡ Some decl = e in cc)
  method-at (items.Regions names ∷ others) m decl e = method-at others m decl e
  method-at (items.Cell cell ∷ others) m decl e = method-at others m decl e
  method-at (items.Task deterministic its ∷ others) m decl e = method-at others m decl e
  method-at (items.Method its ∷ others) zero decl e = let same : its ≡ decl = cc in ap (λ (d : Decl). Some (decl_of globals false d)) same
  method-at (items.Method its ∷ others) (suc m) decl e = method-at others m decl e

method-in : (all : List Item) (m : ℕ) (decl : Decl) → slice_get (flat_map methods_in all) m ≡ Some decl → IsIn decl (flat_map decls_of_item all)
method-in [] m decl e = absurd (let none : None ≡ Some decl = e in cc)
method-in (items.Regions names ∷ others) m decl e = method-in others m decl e
method-in (items.Cell cell ∷ others) m decl e = method-in others m decl e
method-in (items.Task deterministic its ∷ others) m decl e = inr (method-in others m decl e)
method-in (items.Method its ∷ others) zero decl e = let same : its ≡ decl = cc in inl (sym same)
method-in (items.Method its ∷ others) (suc m) decl e = inr (method-in others m decl e)

-- the paths of cells name regions that are there
region-below : (p : Program) (o : Option Global) → 0 < length p.regions → SeenThere p 0 [] (seen_as_global o) → region_number o < length p.regions
region-below p None some there = some
region-below p (Some (global_kinds.Region number)) some there = there
region-below p (Some (global_kinds.Cells number indexes)) some there = some
region-below p (Some (global_kinds.Method number params returns)) some there = some
region-below p (Some (global_kinds.Task number params returns)) some there = some

module _ (p : Program) (globals : List GlobalName) (there : GlobalsThere p globals) where
  kind-fits : (kind : CellElemKind) → RegionFits (length p.regions) (elem_of_cell_kind globals kind)
  kind-fits (cell_kinds.Name text) = region-below p (global_of globals text) there.console (global-there p 0 [] globals there text)
  kind-fits (cell_kinds.Index index) = tt

  elems-fit : (elems : List CellElem) → RegionsFit (length p.regions) (map (λ (elem : CellElem). elem_of_cell_kind globals elem.kind) elems)
  elems-fit [] = tt
  elems-fit (elem ∷ elems) = (kind-fits elem.kind, elems-fit elems)

  cells-fit : (first : ℕ) (cells : List written_cell.CellDecl) (n : ℕ) → RegionsFit (length p.regions) (elements_from (slice_get (cells_from globals first cells) n))
  cells-fit first [] n = tt
  cells-fit first (cell ∷ cells) zero = elems-fit cell.path.elems
  cells-fit first (cell ∷ cells) (suc n) = cells-fit (first + size_of (dims_of cell.shape)) cells n

-- the names of the parameters of a declaration are read as names
params-read : (all : List Item) → Sounds (items_tokens all) → (decl : Decl) → IsIn decl (flat_map decls_of_item all) → AllByRecursion IsRead (texts_of decl.params)
params-read [] sounds decl there = absurd there
params-read (item ∷ others) sounds decl there = elim (in-cases decl (decls_of_item item) (flat_map decls_of_item others) there) [
  | inl here ↦ item-params item (all-front Sound (item_tokens item) (items_tokens others) sounds) decl here
  | inr later ↦ params-read others (all-back Sound (item_tokens item) (items_tokens others) sounds) decl later
]

module _ (tree : Ast) (keeps : Keeps tree) (summaries written : List Summary) (needs : HasNeeds (program_of tree) summaries)
    (same : AllZip HaveSameEffects written summaries) (can : AllByRecursion CanBeWritten written) where
  abbrev p : Program
  p = program_of tree

  -- a need of a method fits into its text
  need-in : (m : ℕ) (need : Need) → IsNeed p m need → NeedFits p m need
  need-in m need is =
      let there = globals-there tree in
      need-fits p there.console (λ cell. cells-fit p (globals_of tree) there 0 (cells_of tree.items) cell) m need is

  -- the effect of a need has no star
  plain-need : (need : Need) (effect : Effect) → effect ≡ effect_of need → IsPlainEffect effect
  plain-need need effect is = subst (λ (x : Effect). IsPlainEffect x) (sym is) refl

  effect-fits : (m : ℕ) (summary : Summary) (decl : Decl) → slice_get written m ≡ Some summary → slice_get (flat_map methods_in tree.items) m ≡ Some decl
      → (effect : Effect) → IsIn effect summary.effects → Fits (length p.regions) (length decl.params) effect
  effect-fits m summary decl e f effect there =
      let can_be = at-all CanBeWritten written can m summary e in
      let other = at-both HaveSameEffects written summaries same m summary e in
      let among = (other.2 effect).0 (in-contains summary.effects effect there) in
      let need = needs m other.0 effect other.1 among in
      let fits = need-in m need.0 need.1 in
      let both : Some fits.decl ≡ Some (decl_of (globals_of tree) false decl) = sym fits.there ∙ method-at (globals_of tree) tree.items m decl f in
      let its : fits.decl ≡ decl_of (globals_of tree) false decl = cc in
      let params : fits.decl.params ≡ length decl.params = ap (λ (d : resolved.Decl). d.params) its in
      record {
        plain = plain-need need.0 effect need.2;
        elems = subst (λ (x : Effect). AllByRecursion (ElementFits (length p.regions) (length decl.params)) x.path.elems) (sym need.2)
            (subst (λ n. AllByRecursion (ElementFits (length p.regions) n) need.0.elems) params fits.elems);
        literals = all-in _ summary.effects can_be.literals effect there;
        short = subst (λ (path : WrittenPath). elements_written path ≤ max_path_elements) (plain-need need.0 effect need.2) (all-in _ summary.effects can_be.short effect there);
      }

  many-texts : (decl : Decl) → length (texts_of decl.params) ≡ length decl.params
  many-texts decl = length-map decl.params (λ (name : Name). name.text)

  below-params : (decl : Decl) (k : ℕ) → k < length (texts_of decl.params) → k < length decl.params
  below-params decl k below = omega (arith, below, many-texts decl)

  all-fit : (m : ℕ) (summary : Summary) (decl : Decl) → slice_get written m ≡ Some summary → slice_get (flat_map methods_in tree.items) m ≡ Some decl
      → AllByRecursion (Fits (length p.regions) (length (texts_of decl.params))) summary.effects
  all-fit m summary decl e f =
      subst (λ n. AllByRecursion (Fits (length p.regions) n) summary.effects) (sym (many-texts decl)) (all-from _ summary.effects (effect-fits m summary decl e f))

  pub all-needed : Aligned (Needed p.regions (globals_of tree)) written tree.items
  all-needed = aligned (Needed p.regions (globals_of tree)) written tree.items (λ m summary decl e f.
      let there = in-contains (decls_of tree) decl (method-in tree.items m decl f) in
      clauses-fit (globals_of tree) p.regions (params_of decl) (texts_of decl.params) (region-bound tree keeps) (region-in-scope tree keeps decl there)
      (λ k below. param-bound tree keeps decl there k (below-params decl k below)) summary (all-fit m summary decl e f))

  pub all-meant : Aligned (Meant p.regions (globals_of tree)) written tree.items
  all-meant = aligned (Meant p.regions (globals_of tree)) written tree.items (λ m summary decl e f.
      let there = in-contains (decls_of tree) decl (method-in tree.items m decl f) in
      clauses-mean (globals_of tree) p.regions (params_of decl) (texts_of decl.params) (region-bound tree keeps) (region-in-scope tree keeps decl there)
      (λ k below. param-bound tree keeps decl there k (below-params decl k below)) summary (all-fit m summary decl e f))

  pub all-within : Aligned IsWithin written tree.items
  all-within = aligned IsWithin written tree.items (λ m summary decl e f.
      let can_be = at-all CanBeWritten written can m summary e in
      let fits = effect-fits m summary decl e f in
      record {
        few = can_be.few;
        plain = all-from _ summary.effects (λ effect there. (fits effect there).plain);
        short = all-from _ summary.effects (λ effect there. (fits effect there).short);
      })

  -- the names in the clauses are read as names
  pub all-read : Sounds (items_tokens tree.items) → Aligned (Read p.regions) written tree.items
  all-read sounds = aligned (Read p.regions) written tree.items (λ m summary decl e f.
      clauses-read p.regions (texts_of decl.params) (program-regions tree.items sounds) (params-read tree.items sounds decl (method-in tree.items m decl f)) summary
      (all-fit m summary decl e f))
