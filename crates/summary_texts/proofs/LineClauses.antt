-- The clauses of a summary, path by path, are those of the summary in the order of its line.
use Rattle.std.proofs.Common.{◌≡◌, ℕ, Bool, true, false, List, [], ◌∷◌, ◌++◌, map, refl, sym, ap, ◌∙◌}
use Rattle.region_paths.specs.declared.elements.Elem.{Elem}
use Rattle.effect_sets.specs.declared.effects.Summary.{Summary}
use Rattle.twe_ast.specs.declared.item.Clause.{Clause}
use Rattle.twe_ast.specs.declared.name.Name as written
use Rattle.twe_ast.specs.declared.path.Path.{Path}
use Rattle.summary_texts.specs.paste_laws.Clauses.{clause_of, clause_path_of, clauses_of, texts_of}
use Rattle.summary_texts.specs.Order.{summary_paths_of}
use Rattle.summary_texts.specs.Pasting.{effect_on, in_line}
use Rattle.summary_texts.proofs.Blanks.{only-reads, only-writes}
use Rattle.summary_texts.specs.inner.LineClauses.{line_clause, line_clauses, line_path}

module _ (regions : List (List ℕ)) (params : List written.Name) where
  same-paths : (write : Bool) (paths : List (List Elem)) → map (line_path regions params) paths ≡ map (clause_path_of regions (texts_of params)) (map (effect_on write) paths)
  same-paths write [] = refl
  same-paths write (path ∷ paths) = ap (λ (more : List Path). line_path regions params path ∷ more) (same-paths write paths)

  abbrev clause-with : Bool → List Path → List Clause
  clause-with write paths = record { write = write; paths = paths } ∷ []

  same-clause : (write : Bool) (paths : List (List Elem)) → line_clause regions params write paths ≡ clause_of regions (texts_of params) write (map (effect_on write) paths)
  same-clause write [] = refl
  same-clause write (path ∷ paths) = ap (clause-with write) (same-paths write (path ∷ paths))

  pub same-clauses : (summary : Summary) → line_clauses regions params summary ≡ clauses_of regions (texts_of params) (in_line summary)
  same-clauses summary =
      let reads = summary_paths_of false summary.effects in
      let writes = summary_paths_of true summary.effects in
      (λ i. same-clause false reads i ++ same-clause true writes i)
      ∙ (λ i. clause_of regions (texts_of params) false (sym (only-reads reads writes) i) ++ clause_of regions (texts_of params) true (sym (only-writes reads writes) i))
