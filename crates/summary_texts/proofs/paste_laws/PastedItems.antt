-- The items of a text with other clauses: what they declare, and what they need.
use Rattle.std.proofs.Common.{◌≡◌, ◌⊎◌, ℕ, suc, Bool, true, false, List, [], ◌∷◌, ◌++◌, map, None, Some, inl, inr, refl, sym, ap, ◌∙◌, subst}
use Rattle.std.specs.Prelude.{slice_get}
use Rattle.std.specs.List.{AllByRecursion, flat_map}
use Rattle.std.proofs.lemmas.Grind.{flat_map-append}
use Rattle.std.proofs.lemmas.List.{map-append}
use Rattle.effect_sets.specs.declared.effects.Summary.{Summary}
use Rattle.twe_ast.specs.declared.item.Clause.{Clause}
use Rattle.twe_ast.specs.declared.item.Decl.{Decl}
use Rattle.twe_ast.specs.declared.item.Item.{Item}
use Rattle.twe_ast.specs.declared.item.Item.TheVariants as items
use Rattle.twe_program.specs.declared.program.Decl as resolved
use Rattle.name_check.specs.declared.names.GlobalName.{GlobalName}
use Rattle.name_check.specs.Names.{Before, declared_by, past, globals_from}
use Rattle.name_check.specs.BodyScope.{params_of}
use Rattle.name_check.specs.Asks.{Ask}
use Rattle.name_check.specs.Sites.{Site, sites_at, sites_in_all, sites_of_params, asks_of_clause, at_body, sites_of_decl, sites_of_item}
use Rattle.name_check.specs.Limits.{decls_of_item, paths_of}
use Rattle.name_check.specs.cell_limits.GoesOver.{cells_of}
use Rattle.twe_names.specs.PathMeaning.{effects_of_clause}
use Rattle.twe_names.specs.Meaning.{regions_of_item, decl_of, methods_of_item, tasks_of_item}
use Rattle.effect_infer.specs.needs.Choices.{with_each}
use Rattle.twe_base.proofs.Members.{IsIn, in-cases, in-left, in-right}
use Rattle.summary_texts.specs.paste_laws.Clauses.{texts_of, clause_path_of, clause_of, reads_of, writes_of, clauses_of, with_clauses, pasted_items}
use Rattle.summary_texts.proofs.paste_laws.Clauses.{AskFits, in_clauses, clause-paths}

-- the methods, in the order of the text
abbrev pub methods_in : Item → List Decl
methods_in (items.Method decl) = decl ∷ []
methods_in _ = []

-- for each method that has a summary
abbrev pub Aligned : (Summary → Decl → Type 0) → List Summary → List Item → Type 0
Aligned P summaries [] = Unit {0}
Aligned P summaries (items.Regions names ∷ others) = Aligned P summaries others
Aligned P summaries (items.Cell cell ∷ others) = Aligned P summaries others
Aligned P summaries (items.Task deterministic decl ∷ others) = Aligned P summaries others
Aligned P [] (items.Method decl ∷ others) = Aligned P [] others
Aligned P (summary ∷ summaries) (items.Method decl ∷ others) = P summary decl × Aligned P summaries others

pub aligned : (P : Summary → Decl → Type 0) (summaries : List Summary) (all : List Item)
    → ((m : ℕ) (summary : Summary) (decl : Decl) → slice_get summaries m ≡ Some summary → slice_get (flat_map methods_in all) m ≡ Some decl → P summary decl)
    → Aligned P summaries all
aligned P summaries [] h = tt
aligned P summaries (items.Regions names ∷ others) h = aligned P summaries others h
aligned P summaries (items.Cell cell ∷ others) h = aligned P summaries others h
aligned P summaries (items.Task deterministic decl ∷ others) h = aligned P summaries others h
aligned P [] (items.Method decl ∷ others) h = aligned P [] others (λ m summary its e f. absurd (let none : None ≡ Some summary = e in cc))
aligned P (summary ∷ summaries) (items.Method decl ∷ others) h = (h 0 summary decl refl refl, aligned P summaries others (λ m its their e f. h (suc m) its their e f))

-- the paths of a declaration with a summary's clauses
pub pasted-paths : (regions : List (List ℕ)) (summary : Summary) (decl : Decl)
    → paths_of (with_clauses regions summary decl) ≡ map (clause_path_of regions (texts_of decl.params)) (in_clauses summary.effects)
pasted-paths regions summary decl =
    let params = texts_of decl.params in
    let reads = clause_of regions params false (reads_of summary.effects) in
    let writes = clause_of regions params true (writes_of summary.effects) in
    flat_map-append (λ (clause : Clause). clause.paths) reads writes
    ∙ (λ i. clause-paths regions params false (reads_of summary.effects) i ++ clause-paths regions params true (writes_of summary.effects) i)
    ∙ sym (map-append (clause_path_of regions params) (reads_of summary.effects) (writes_of summary.effects))

-- the summary in the order of its clauses
abbrev pub reordered : Summary → Summary
reordered summary = record { effects = in_clauses summary.effects }

module _ (regions : List (List ℕ)) where
  pub pasted-globals : (before : Before) (summaries : List Summary) (all : List Item) → globals_from before (pasted_items regions summaries all) ≡ globals_from before all
  pasted-globals before summaries [] = refl
  pasted-globals before summaries (items.Regions names ∷ others) =
      ap (λ more. declared_by before (items.Regions names) ++ more) (pasted-globals (past before (items.Regions names)) summaries others)
  pasted-globals before summaries (items.Cell cell ∷ others) =
      ap (λ more. declared_by before (items.Cell cell) ++ more) (pasted-globals (past before (items.Cell cell)) summaries others)
  pasted-globals before summaries (items.Task deterministic decl ∷ others) =
      ap (λ more. declared_by before (items.Task deterministic decl) ++ more) (pasted-globals (past before (items.Task deterministic decl)) summaries others)
  pasted-globals before [] (items.Method decl ∷ others) =
      ap (λ more. declared_by before (items.Method decl) ++ more) (pasted-globals (past before (items.Method decl)) [] others)
  pasted-globals before (summary ∷ summaries) (items.Method decl ∷ others) =
      ap (λ more. declared_by before (items.Method decl) ++ more) (pasted-globals (past before (items.Method decl)) summaries others)

  pub pasted-cells : (summaries : List Summary) (all : List Item) → cells_of (pasted_items regions summaries all) ≡ cells_of all
  pasted-cells summaries [] = refl
  pasted-cells summaries (items.Regions names ∷ others) = pasted-cells summaries others
  pasted-cells summaries (items.Cell cell ∷ others) = ap (λ more. cell ∷ more) (pasted-cells summaries others)
  pasted-cells summaries (items.Task deterministic decl ∷ others) = pasted-cells summaries others
  pasted-cells [] (items.Method decl ∷ others) = pasted-cells [] others
  pasted-cells (summary ∷ summaries) (items.Method decl ∷ others) = pasted-cells summaries others

  pub pasted-regions : (summaries : List Summary) (all : List Item) → flat_map regions_of_item (pasted_items regions summaries all) ≡ flat_map regions_of_item all
  pasted-regions summaries [] = refl
  pasted-regions summaries (items.Regions names ∷ others) = ap (λ more. regions_of_item (items.Regions names) ++ more) (pasted-regions summaries others)
  pasted-regions summaries (items.Cell cell ∷ others) = pasted-regions summaries others
  pasted-regions summaries (items.Task deterministic decl ∷ others) = pasted-regions summaries others
  pasted-regions [] (items.Method decl ∷ others) = pasted-regions [] others
  pasted-regions (summary ∷ summaries) (items.Method decl ∷ others) = pasted-regions summaries others

  -- a task stays as it is
  pub pasted-task : (summaries : List Summary) (all : List Item) (deterministic : Bool) (decl : Decl) → IsIn (items.Task deterministic decl) all
      → IsIn (items.Task deterministic decl) (pasted_items regions summaries all)
  pasted-task summaries [] deterministic decl h = absurd h
  pasted-task summaries (items.Regions names ∷ others) deterministic decl (inl e) = absurd (cc)
  pasted-task summaries (items.Regions names ∷ others) deterministic decl (inr h) = inr (pasted-task summaries others deterministic decl h)
  pasted-task summaries (items.Cell cell ∷ others) deterministic decl (inl e) = absurd (cc)
  pasted-task summaries (items.Cell cell ∷ others) deterministic decl (inr h) = inr (pasted-task summaries others deterministic decl h)
  pasted-task summaries (items.Task its their ∷ others) deterministic decl (inl e) = inl e
  pasted-task summaries (items.Task its their ∷ others) deterministic decl (inr h) = inr (pasted-task summaries others deterministic decl h)
  pasted-task [] (items.Method its ∷ others) deterministic decl (inl e) = absurd (cc)
  pasted-task [] (items.Method its ∷ others) deterministic decl (inr h) = inr (pasted-task [] others deterministic decl h)
  pasted-task (summary ∷ summaries) (items.Method its ∷ others) deterministic decl (inl e) = absurd (cc)
  pasted-task (summary ∷ summaries) (items.Method its ∷ others) deterministic decl (inr h) = inr (pasted-task summaries others deterministic decl h)

  -- a declaration with the clauses of its summary
  pub record IsPastedDecl (P : Summary → Decl → Type 0) (all : List Item) (decl : Decl) : Type 0 where
    pub its : Decl
    pub summary : Summary
    pub there : IsIn its (flat_map decls_of_item all)
    pub holds : P summary its
    pub same : decl ≡ with_clauses regions summary its

  later-decl : (P : Summary → Decl → Type 0) (first : Item) (others : List Item) (decl : Decl) → IsIn decl (flat_map decls_of_item others) ⊎ IsPastedDecl P others decl
      → IsIn decl (flat_map decls_of_item (first ∷ others)) ⊎ IsPastedDecl P (first ∷ others) decl
  later-decl P first others decl (inl there) = inl (in-right decl (decls_of_item first) (flat_map decls_of_item others) there)
  later-decl P first others decl (inr pasted) =
      inr (record {
        its = pasted.its;
        summary = pasted.summary;
        there = in-right pasted.its (decls_of_item first) (flat_map decls_of_item others) pasted.there;
        holds = pasted.holds;
        same = pasted.same;
      })

  pub pasted-decl : (P : Summary → Decl → Type 0) (summaries : List Summary) (all : List Item) → Aligned P summaries all → (decl : Decl)
      → IsIn decl (flat_map decls_of_item (pasted_items regions summaries all)) → IsIn decl (flat_map decls_of_item all) ⊎ IsPastedDecl P all decl
  pasted-decl P summaries [] h decl there = absurd there
  pasted-decl P summaries (items.Regions names ∷ others) h decl there = later-decl P (items.Regions names) others decl (pasted-decl P summaries others h decl there)
  pasted-decl P summaries (items.Cell cell ∷ others) h decl there = later-decl P (items.Cell cell) others decl (pasted-decl P summaries others h decl there)
  pasted-decl P summaries (items.Task deterministic its ∷ others) h decl (inl e) = inl (inl e)
  pasted-decl P summaries (items.Task deterministic its ∷ others) h decl (inr there) = later-decl P (items.Task deterministic its) others decl (pasted-decl P summaries others h decl there)
  pasted-decl P [] (items.Method its ∷ others) h decl (inl e) = inl (inl e)
  pasted-decl P [] (items.Method its ∷ others) h decl (inr there) = later-decl P (items.Method its) others decl (pasted-decl P [] others h decl there)
  pasted-decl P (summary ∷ summaries) (items.Method its ∷ others) h decl (inl e) =
      inr (record { its = its; summary = summary; there = inl refl; holds = h.0; same = e })
  pasted-decl P (summary ∷ summaries) (items.Method its ∷ others) h decl (inr there) =
      later-decl P (items.Method its) others decl (pasted-decl P summaries others h.1 decl there)

  module _ (globals : List GlobalName) where
    -- what the clauses of the summary need is there
    abbrev pub Needed : Summary → Decl → Type 0
    Needed summary decl = AllByRecursion (AskFits globals (params_of decl)) (flat_map asks_of_clause (clauses_of regions (texts_of decl.params) summary))

    at-site : (decl : Decl) (asks : List Ask) → AllByRecursion (AskFits globals (params_of decl)) asks → (site : Site) → IsIn site (sites_at (params_of decl) decl.returns asks)
        → AskFits globals site.locals site.ask
    at-site decl [] h site there = absurd there
    at-site decl (ask ∷ asks) h site (inl e) = subst (λ (s : Site). AskFits globals s.locals s.ask) (sym e) h.0
    at-site decl (ask ∷ asks) h site (inr there) = at-site decl asks h.1 site there

    decl-site : (summary : Summary) (decl : Decl) → Needed summary decl → (site : Site) → IsIn site (sites_of_decl globals (with_clauses regions summary decl))
        → IsIn site (sites_of_decl globals decl) ⊎ AskFits globals site.locals site.ask
    decl-site summary decl needed site there =
        let params = sites_of_params decl.returns [] 0 decl.params in
        let asks = flat_map asks_of_clause (clauses_of regions (texts_of decl.params) summary) in
        let old = sites_at (params_of decl) decl.returns (flat_map asks_of_clause decl.effects) in
        let body = sites_in_all globals decl.returns (at_body decl) decl.body in
        elim (in-cases site params (sites_at (params_of decl) decl.returns asks ++ body) there) [
          | inl param ↦ inl (in-left site params (old ++ body) param)
          | inr later ↦ elim (in-cases site (sites_at (params_of decl) decl.returns asks) body later) [
            | inl clause ↦ inr (at-site decl asks needed site clause)
            | inr inside ↦ inl (in-right site params (old ++ body) (in-right site old body inside))
          ]
        ]

    joined-site : (one other new : List Site) (site : Site) → (IsIn site new → IsIn site other ⊎ AskFits globals site.locals site.ask) → IsIn site (one ++ new)
        → IsIn site (one ++ other) ⊎ AskFits globals site.locals site.ask
    joined-site one other new site more there = elim (in-cases site one new there) [
      | inl here ↦ inl (in-left site one other here)
      | inr later ↦ elim (more later) [ inl old ↦ inl (in-right site one other old) | inr fits ↦ inr fits ]
    ]

    pub pasted-site : (summaries : List Summary) (all : List Item) → Aligned Needed summaries all → (site : Site)
        → IsIn site (flat_map (sites_of_item globals) (pasted_items regions summaries all)) → IsIn site (flat_map (sites_of_item globals) all) ⊎ AskFits globals site.locals site.ask
    pasted-site summaries [] h site there = absurd there
    pasted-site summaries (items.Regions names ∷ others) h site there = pasted-site summaries others h site there
    pasted-site summaries (items.Cell cell ∷ others) h site there =
        joined-site (sites_of_item globals (items.Cell cell)) _ _ site (pasted-site summaries others h site) there
    pasted-site summaries (items.Task deterministic decl ∷ others) h site there =
        joined-site (sites_of_item globals (items.Task deterministic decl)) _ _ site (pasted-site summaries others h site) there
    pasted-site [] (items.Method decl ∷ others) h site there = joined-site (sites_of_decl globals decl) _ _ site (pasted-site [] others h site) there
    pasted-site (summary ∷ summaries) (items.Method decl ∷ others) h site there =
        let more = flat_map (sites_of_item globals) others in
        elim (in-cases site (sites_of_decl globals (with_clauses regions summary decl)) (flat_map (sites_of_item globals) (pasted_items regions summaries others)) there) [
          | inl here ↦ elim (decl-site summary decl h.0 site here) [
            | inl old ↦ inl (in-left site (sites_of_decl globals decl) more old)
            | inr fits ↦ inr fits
          ]
          | inr later ↦ elim (pasted-site summaries others h.1 site later) [
            | inl old ↦ inl (in-right site (sites_of_decl globals decl) more old)
            | inr fits ↦ inr fits
          ]
        ]

    -- the clauses mean the effects of the summary
    abbrev pub Meant : Summary → Decl → Type 0
    Meant summary decl = flat_map (effects_of_clause globals (params_of decl)) (clauses_of regions (texts_of decl.params) summary) ≡ in_clauses summary.effects

    with-none : (decls : List resolved.Decl) → with_each [] decls ≡ decls
    with-none [] = refl
    with-none (decl ∷ decls) = refl

    pub pasted-methods : (summaries : List Summary) (all : List Item) → Aligned Meant summaries all
        → flat_map (methods_of_item globals) (pasted_items regions summaries all) ≡ with_each (map reordered summaries) (flat_map (methods_of_item globals) all)
    pasted-methods summaries [] h = refl
    pasted-methods summaries (items.Regions names ∷ others) h = pasted-methods summaries others h
    pasted-methods summaries (items.Cell cell ∷ others) h = pasted-methods summaries others h
    pasted-methods summaries (items.Task deterministic decl ∷ others) h = pasted-methods summaries others h
    pasted-methods [] (items.Method decl ∷ others) h =
        ap (λ more. decl_of globals false decl ∷ more) (pasted-methods [] others h ∙ with-none (flat_map (methods_of_item globals) others))
    pasted-methods (summary ∷ summaries) (items.Method decl ∷ others) h =
        λ i. (record (decl_of globals false decl) { summary = record { effects = h.0 i } }) ∷ pasted-methods summaries others h.1 i

    pub pasted-tasks : (summaries : List Summary) (all : List Item)
        → flat_map (tasks_of_item globals) (pasted_items regions summaries all) ≡ flat_map (tasks_of_item globals) all
    pasted-tasks summaries [] = refl
    pasted-tasks summaries (items.Regions names ∷ others) = pasted-tasks summaries others
    pasted-tasks summaries (items.Cell cell ∷ others) = pasted-tasks summaries others
    pasted-tasks summaries (items.Task deterministic decl ∷ others) = ap (λ more. decl_of globals deterministic decl ∷ more) (pasted-tasks summaries others)
    pasted-tasks [] (items.Method decl ∷ others) = pasted-tasks [] others
    pasted-tasks (summary ∷ summaries) (items.Method decl ∷ others) = pasted-tasks summaries others
