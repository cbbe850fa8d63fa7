-- The numbers of each declaration of a tree of a text fit 32 bits.
use Rattle.std.proofs.Common.{◌≤◌, ℕ, List, [], ◌∷◌, ◌++◌, get_or, All, Contains, ap, sym, subst, ◌∙◌, arith}
use Rattle.std.specs.List.{flat_map, sum_by}
use Rattle.std.proofs.lemmas.Grind.{flat_map-append}
use Rattle.std.proofs.lemmas.List.Elements.{All-contains_itself, Contains-append_left, Contains-append_right}
use Rattle.std.proofs.lemmas.List.Sums.{sum_by-append, sum_by-cons}
use Rattle.twe_ast.specs.declared.item.Ast.{Ast}
use Rattle.twe_ast.specs.declared.item.Clause.{Clause}
use Rattle.twe_ast.specs.declared.item.Decl.{Decl}
use Rattle.twe_ast.specs.declared.item.Item.{Item}
use Rattle.twe_ast.specs.declared.item.Item.TheVariants as items
use Rattle.name_check.specs.cell_limits.GoesOver.{cells_of_item}
use Rattle.name_check.specs.Limits.{decls_of, decls_of_item}
use Rattle.name_check.specs.Size.{size_of_decl, size_of_item}
use Rattle.twe_names.specs.FromText.{IsFromText}
use Rattle.twe_names.specs.inner.Numbers.{IsSmallPath, IsSmallClause, IsSmallDecl, IsSmallItem}
use Rattle.twe_names.proofs.Lists.{contains-split, contains-middle}

contained-each : {X : Type 0} (P : X → Type 0) (xs : List X) → ((x : X) → Contains xs x → P x) → All P xs
contained-each P xs h = λ k d below. h (get_or xs k d) (All-contains_itself xs k d below)

contains-flat : {X A : Type 0} (f : X → List A) (xs : List X) (x : X) (a : A) → Contains xs x → Contains (f x) a → Contains (flat_map f xs) a
contains-flat f xs x a c d =
    let s = contains-split xs x c in
    let there = Contains-append_right (flat_map f s.before) (f x ++ flat_map f s.after) a (Contains-append_left (f x) (flat_map f s.after) a d) in
    subst (λ zs. Contains zs a) (sym (ap (flat_map f) s.list ∙ flat_map-append f s.before (x ∷ s.after))) there

part-of-sum : {X : Type 0} (f : X → ℕ) (xs : List X) (x : X) → Contains xs x → f x ≤ sum_by f xs
part-of-sum f xs x c =
    let s = contains-split xs x c in
    let sum = ap (sum_by f) s.list ∙ sum_by-append f s.before (x ∷ s.after) in
    let first = sum_by-cons f x s.after in
    omega (arith, sum, first)

module _ (ast : Ast) (h : IsFromText ast) where
  small-decl : (decl : Decl) → Contains (decls_of ast) decl → size_of_decl decl ≤ sum_by size_of_item ast.items → IsSmallDecl decl
  small-decl decl c size = record {
    indexes =
        contained-each IsSmallClause decl.effects (λ clause d. contained-each IsSmallPath clause.paths (λ path e.
        h.indexes decl path c (contains-flat (λ (clause : Clause). clause.paths) decl.effects clause path d e)));
    size = omega (arith, h.countable);
  }

  small-item : (item : Item) → Contains ast.items item → IsSmallItem item
  small-item (items.Regions names) c = tt
  small-item (items.Cell cell) c = h.cell_indexes cell (contains-flat cells_of_item ast.items (items.Cell cell) cell c (contains-middle [] cell []))
  small-item (items.Method decl) c =
      small-decl decl (contains-flat decls_of_item ast.items (items.Method decl) decl c (contains-middle [] decl [])) (part-of-sum size_of_item ast.items (items.Method decl) c)
  small-item (items.Task deterministic decl) c =
      small-decl decl (contains-flat decls_of_item ast.items (items.Task deterministic decl) decl c (contains-middle [] decl []))
      (part-of-sum size_of_item ast.items (items.Task deterministic decl) c)

pub small_items : (ast : Ast) → IsFromText ast → All IsSmallItem ast.items
small_items ast h = contained-each IsSmallItem ast.items (small-item ast h)
