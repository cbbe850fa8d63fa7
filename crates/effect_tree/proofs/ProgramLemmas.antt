-- What a well-formed program gives: each cell's path is solid, and there are few nodes.
use Rattle.std.proofs.Common.{◌≡◌, ℕ, ◌<◌, ◌≤◌, ◌↔◌, List, [], ◌∷◌, length, get_or, refl, sym, ap, subst, ◌∙◌, inl, inr, ⊎_elim, arith}
use Rattle.std.specs.Prelude.{take_while}
use Rattle.std.specs.List.{All, AllByRecursion}
use Rattle.std.proofs.lemmas.List.{get_or_default}
use Rattle.std.proofs.lemmas.List.Elements.{All-from_recursion}
use Rattle.twe_base.specs.Language.{max_nodes}
use Rattle.region_paths.specs.declared.elements.Elem.{Elem}
use Rattle.region_paths.specs.declared.elements.Elem.TheVariants.{Name, Index, Var, AnyIndex}
use Rattle.region_paths.specs.Filled.{is_solid, solid_prefix}
use Rattle.prefix_tree.specs.Nodes.{IsTreeOfPaths}
use Rattle.twe_program.specs.declared.program.CellDecl.{CellDecl}
use Rattle.twe_program.specs.Program.{Program}
use Rattle.twe_program.specs.Nodes.{IsPrefixOfDeclared, IsNodePath}
use Rattle.twe_program.specs.WellFormed.{IsWellFormed, CellFits, CellElementFits}
use Rattle.effect_tree.specs.inner.Growth.{HasPaths, IsFrontPath}
use Rattle.effect_tree.proofs.SolidLemmas.{take_while-solid}

solid_elems : (regions : ℕ) (elems : List Elem) → AllByRecursion (CellElementFits regions) elems → take_while is_solid elems ≡ elems
solid_elems regions [] h = refl
solid_elems regions (Name n ∷ es) h = take_while-solid (Name n) es refl ∙ ap (λ (xs : List Elem). Name n ∷ xs) (solid_elems regions es h.1)
solid_elems regions (Index i ∷ es) h = take_while-solid (Index i) es refl ∙ ap (λ (xs : List Elem). Index i ∷ xs) (solid_elems regions es h.1)
solid_elems regions (Var k ∷ es) h = absurd h.0
solid_elems regions (AnyIndex ∷ es) h = absurd h.0

-- each cell's path is its own solid prefix
abbrev IsSolidCell : CellDecl → Type 0
IsSolidCell cell = solid_prefix cell.path ≡ cell.path.elems

solid_each : (regions : ℕ) (cells : List CellDecl) → AllByRecursion (CellFits regions) cells → AllByRecursion IsSolidCell cells
solid_each regions [] h = tt
solid_each regions (cell ∷ cells) h = (solid_elems regions cell.path.elems h.0.elems, solid_each regions cells h.1)

-- so what a cell declares is declared below its whole path
pub front_is_whole : (p : Program) → IsWellFormed p → (path : List Elem) → IsFrontPath p.cells path ↔ IsNodePath p path
front_is_whole p fits path =
    let solid : All IsSolidCell p.cells = All-from_recursion IsSolidCell p.cells (solid_each (length p.regions) p.cells fits.cells) in
    let solid_at : (k : ℕ) (cell : CellDecl) → k < length p.cells → get_or p.cells k cell ≡ cell → IsSolidCell cell =
    λ k cell there is. subst IsSolidCell is (solid k cell there) in (
      λ h.
          ⊎_elim (λ c. inl c)
          (λ a. inr (a.0, a.1, a.2, a.3, subst (λ (at : List Elem). IsPrefixOfDeclared at a.1.dims path) (solid_at a.0 a.1 a.2 a.3) a.4))
          h,
      λ h.
          ⊎_elim (λ c. inl c)
          (λ a. inr (a.0, a.1, a.2, a.3, subst (λ (at : List Elem). IsPrefixOfDeclared at a.1.dims path) (sym (solid_at a.0 a.1 a.2 a.3)) a.4))
          h,
    )

-- the nodes for the cells are those for the program
pub HasPaths-whole : (nodes : List (List Elem)) (p : Program) (cells : List CellDecl) → IsWellFormed p → cells ≡ p.cells → HasPaths nodes (IsFrontPath cells) → HasPaths nodes (IsNodePath p)
HasPaths-whole nodes p cells fits same has path =
    let whole = front_is_whole p fits path in
    let all = subst (λ (cs : List CellDecl). HasPaths nodes (IsFrontPath cs)) same has in
    (λ node. whole.0 ((all path).0 node), λ h. (all path).1 (whole.1 h))

-- there are no more nodes than a program may have
pub few-nodes : (nodes : List (List Elem)) (p : Program) → IsWellFormed p → HasPaths nodes (IsNodePath p) → IsTreeOfPaths nodes → length nodes ≤ max_nodes
few-nodes nodes p fits has t =
    fits.few_nodes nodes
    (λ i j d below within same.
    let i_there : i < length nodes = omega arith in
    let one = t.once i j i_there within (get_or_default nodes i [] d i_there ∙ same ∙ get_or_default nodes j d [] within) in
    omega arith)
    (λ path c. (has path).0 (c.0, c.1, get_or_default nodes c.0 [] path c.1 ∙ c.2))
