-- What is written for methods depends on the texts of their parameters and on the paths of their summaries alone.
use Rattle.std.proofs.Common.{◌≡◌, ℕ, true, false, List, [], ◌∷◌, ◌++◌, map, codes, Option, None, Some, refl, sym, ap, ◌∙◌}
use Rattle.std.specs.Prelude.{if◌then◌else◌}
use Rattle.std.specs.List.{AllZip}
use Rattle.region_paths.specs.declared.elements.Elem.{Elem}
use Rattle.region_paths.specs.declared.elements.Elem.TheVariants as elems
use Rattle.effect_sets.specs.declared.effects.Summary.{Summary}
use Rattle.twe_ast.specs.declared.item.Decl.{Decl}
use Rattle.twe_ast.specs.declared.item.Item.{Item}
use Rattle.twe_ast.specs.declared.item.Item.TheVariants.{Regions, Cell, Method, Task}
use Rattle.twe_ast.specs.declared.name.Name as written
use Rattle.ast_printer.specs.BareExpression.{bare_name, nowhere}
use Rattle.ast_printer.specs.BareItem.{bare_item}
use Rattle.twe_frontend.specs.meaning.PathTexts.{element_text, in_brackets, more_elements, name_at_number, path_text}
use Rattle.summary_texts.specs.paste_laws.Clauses.{pasted_items, texts_of}
use Rattle.summary_texts.specs.Order.{summary_paths_of}
use Rattle.summary_texts.specs.Texts.{clauses_text, more_paths, paths_text}
use Rattle.summary_texts.specs.News.{new_of, news_of}
use Rattle.summary_texts.specs.Writable.{are_writable}

-- names with the same texts give the same clauses
module _ (regions : List (List ℕ)) (one other : List written.Name) (same : texts_of one ≡ texts_of other) where
  same-element : (e : Elem) → element_text regions one e ≡ element_text regions other e
  same-element (elems.Name n) = refl
  same-element (elems.Index i) = refl
  same-element (elems.Var k) = ap (λ (texts : List (List ℕ)). in_brackets (name_at_number texts k)) same
  same-element elems.AnyIndex = refl

  same-more : (es : List Elem) → more_elements regions one es ≡ more_elements regions other es
  same-more [] = refl
  same-more (e ∷ es) = λ i. codes ":" ++ (same-element e i ++ same-more es i)

  same-path : (es : List Elem) → path_text regions one es ≡ path_text regions other es
  same-path [] = refl
  same-path (elems.Name n ∷ es) = ap (λ (more : List ℕ). element_text regions one (elems.Name n) ++ more) (same-more es)
  same-path (elems.Index i ∷ es) = ap (λ (more : List ℕ). codes "Root" ++ more) (same-more (elems.Index i ∷ es))
  same-path (elems.Var k ∷ es) = ap (λ (more : List ℕ). codes "Root" ++ more) (same-more (elems.Var k ∷ es))
  same-path (elems.AnyIndex ∷ es) = ap (λ (more : List ℕ). codes "Root" ++ more) (same-more (elems.AnyIndex ∷ es))

  same-more-paths : (paths : List (List Elem)) → more_paths regions one paths ≡ more_paths regions other paths
  same-more-paths [] = refl
  same-more-paths (path ∷ paths) = λ i. codes ", " ++ (same-path path i ++ same-more-paths paths i)

  same-paths : (paths : List (List Elem)) → paths_text regions one paths ≡ paths_text regions other paths
  same-paths [] = refl
  same-paths (path ∷ paths) = λ i. same-path path i ++ same-more-paths paths i

  same-clauses : (reads writes : List (List Elem)) → clauses_text regions one reads writes ≡ clauses_text regions other reads writes
  same-clauses [] [] = refl
  same-clauses (r ∷ reads) [] = ap (λ (more : List ℕ). codes "reads " ++ more) (same-paths (r ∷ reads))
  same-clauses [] (w ∷ writes) = ap (λ (more : List ℕ). codes "writes " ++ more) (same-paths (w ∷ writes))
  same-clauses (r ∷ reads) (w ∷ writes) = λ i. codes "reads " ++ (same-paths (r ∷ reads) i ++ (codes " writes " ++ same-paths (w ∷ writes) i))

-- what is written for these paths
abbrev pub new_from : List (List ℕ) → List written.Name → List (List Elem) → List (List Elem) → Option (List ℕ)
new_from regions params reads writes = if are_writable reads writes then Some (clauses_text regions params reads writes) else None

same-new : (regions : List (List ℕ)) (one other : List written.Name) → texts_of one ≡ texts_of other → (its : Option Summary) → new_of regions one its ≡ new_of regions other its
same-new regions one other same None = refl
same-new regions one other same (Some summary) =
    ap (λ (text : List ℕ). if are_writable (summary_paths_of false summary.effects) (summary_paths_of true summary.effects) then Some text else None)
    (same-clauses regions one other same (summary_paths_of false summary.effects) (summary_paths_of true summary.effects))

-- names with these texts
abbrev named : List ℕ → written.Name
named text = record { text = text; place = nowhere }

names-with : (texts : List (List ℕ)) → texts_of (map named texts) ≡ texts
names-with [] = refl
names-with (text ∷ texts) = ap (λ (more : List (List ℕ)). text ∷ more) (names-with texts)

-- the texts of the parameters of each method
abbrev pub method_params : List Item → List (List (List ℕ))
method_params [] = []
method_params (Regions names ∷ items) = method_params items
method_params (Cell cell ∷ items) = method_params items
method_params (Task deterministic decl ∷ items) = method_params items
method_params (Method decl ∷ items) = texts_of decl.params ∷ method_params items

bare-texts : (names : List written.Name) → texts_of (map bare_name names) ≡ texts_of names
bare-texts [] = refl
bare-texts (name ∷ names) = ap (λ (more : List (List ℕ)). name.text ∷ more) (bare-texts names)

pub bare-params : (items : List Item) → method_params (map bare_item items) ≡ method_params items
bare-params [] = refl
bare-params (Regions names ∷ items) = bare-params items
bare-params (Cell cell ∷ items) = bare-params items
bare-params (Task deterministic decl ∷ items) = bare-params items
bare-params (Method decl ∷ items) = λ i. bare-texts decl.params i ∷ bare-params items i

pub pasted-params : (regions : List (List ℕ)) (summaries : List Summary) (items : List Item) → method_params (pasted_items regions summaries items) ≡ method_params items
pasted-params regions summaries [] = refl
pasted-params regions summaries (Regions names ∷ items) = pasted-params regions summaries items
pasted-params regions summaries (Cell cell ∷ items) = pasted-params regions summaries items
pasted-params regions summaries (Task deterministic decl ∷ items) = pasted-params regions summaries items
pasted-params regions [] (Method decl ∷ items) = ap (λ (more : List (List (List ℕ))). texts_of decl.params ∷ more) (pasted-params regions [] items)
pasted-params regions (summary ∷ summaries) (Method decl ∷ items) = ap (λ (more : List (List (List ℕ))). texts_of decl.params ∷ more) (pasted-params regions summaries items)

-- what is written for each method, by the texts of its parameters
abbrev news_from : List (List ℕ) → List (Option Summary) → List (List (List ℕ)) → List (Option (List ℕ))
news_from regions each [] = []
news_from regions [] (texts ∷ others) = news_from regions [] others
news_from regions (its ∷ each) (texts ∷ others) = new_of regions (map named texts) its ∷ news_from regions each others

by-params : (regions : List (List ℕ)) (each : List (Option Summary)) (items : List Item) → news_of regions each items ≡ news_from regions each (method_params items)
by-params regions each [] = refl
by-params regions each (Regions names ∷ items) = by-params regions each items
by-params regions each (Cell cell ∷ items) = by-params regions each items
by-params regions each (Task deterministic decl ∷ items) = by-params regions each items
by-params regions [] (Method decl ∷ items) = by-params regions [] items
by-params regions (its ∷ each) (Method decl ∷ items) =
    λ i. same-new regions decl.params (map named (texts_of decl.params)) (sym (names-with (texts_of decl.params))) its i ∷ by-params regions each items i

-- for both the same is written, whatever the parameters
abbrev pub WritesSame : Option Summary → Option Summary → Type 0
WritesSame one other = (regions : List (List ℕ)) (params : List written.Name) → new_of regions params one ≡ new_of regions params other

same-each : (regions : List (List ℕ)) (one other : List (Option Summary)) (texts : List (List (List ℕ))) → AllZip WritesSame one other → news_from regions one texts ≡ news_from regions other texts
same-each regions one other [] same = refl
same-each regions [] [] (first ∷ texts) same = same-each regions [] [] texts same
same-each regions [] (its ∷ other) (first ∷ texts) same = absurd same
same-each regions (its ∷ one) [] (first ∷ texts) same = absurd same
same-each regions (its ∷ one) (theirs ∷ other) (first ∷ texts) same = λ i. same.0 regions (map named first) i ∷ same-each regions one other texts same.1 i

pub same-news : (regions : List (List ℕ)) (one other : List (Option Summary)) (items others : List Item) → AllZip WritesSame one other → method_params items ≡ method_params others
    → news_of regions one items ≡ news_of regions other others
same-news regions one other items others same params =
    by-params regions one items ∙ ap (news_from regions one) params ∙ same-each regions one other (method_params others) same ∙ sym (by-params regions other others)
