-- The nodes of a program are no more than those of its text, where they are counted by the text of the names.
use Rattle.std.proofs.Common.{◌≡◌, ◌⊎◌, ◌<◌, ◌≤◌, ℕ, zero, suc, ◌+◌, pos, List, [], ◌∷◌, ◌++◌, length, get_or, take, map, codes, inl, inr, ⊎_elim, refl, sym, ap, ◌∙◌, subst, arith}
use Rattle.std.specs.Prelude.{Contains}
use Rattle.std.proofs.lemmas.Bool.{cases_lt}
use Rattle.std.proofs.lemmas.List.{map-append, length-take-le, get_or-take}
use Rattle.region_paths.specs.declared.elements.Elem.{Elem}
use Rattle.twe_base.specs.Language.{max_nodes}
use Rattle.twe_ast.specs.declared.item.Ast.{Ast}
use Rattle.twe_ast.specs.declared.item.CellDecl as written
use Rattle.twe_ast.specs.declared.item.CellShape.{CellShape}
use Rattle.twe_ast.specs.declared.item.CellShape.TheVariants as shapes
use Rattle.twe_ast.specs.declared.path.CellElem.{CellElem}
use Rattle.twe_ast.specs.declared.path.CellElemKind.{CellElemKind}
use Rattle.twe_ast.specs.declared.path.CellElemKind.TheVariants.{Name, Index}
use Rattle.twe_program.specs.declared.program.CellDecl.{CellDecl}
use Rattle.twe_program.specs.Program.{size_of}
use Rattle.twe_program.specs.Nodes as program
use Rattle.name_check.specs.cell_limits.Nodes as text
use Rattle.name_check.specs.cell_limits.Nodes.{written_path, IsPathNode, of_console, of_cell, HasNodes}
use Rattle.name_check.specs.cell_limits.GoesOver.{cells_of}
use Rattle.name_check.proofs.cell_limits.Distinct.{Contains-here, Contains-later, choose}
use Rattle.name_check.specs.declared.names.GlobalName.{GlobalName}
use Rattle.name_check.specs.Names.{globals_of}
use Rattle.twe_names.specs.PathMeaning.{elem_of_cell_kind, cell_path_of}
use Rattle.twe_names.specs.Meaning.{dims_of, cells_from, program_of}

-- a list of different nodes can be made shorter
HasNodes-fewer : (cells : List written.CellDecl) (count fewer : ℕ) → HasNodes cells count → fewer ≤ count → HasNodes cells fewer
HasNodes-fewer cells count fewer h le =
    let nodes = h.nodes in
    let many = h.many in
    let short : length (take fewer nodes) ≡ fewer = length-take-le fewer nodes (omega arith) in
    record {
      nodes = take fewer nodes;
      many = short;
      distinct = λ i j d below within same.
          let first : i < fewer = omega arith in
          let second : j < fewer = omega arith in
          h.distinct i j d below (omega arith) (sym (get_or-take fewer nodes i d first) ∙ same ∙ get_or-take fewer nodes j d second);
      each = λ path c.
          let inside = c.1 in
          let first : c.0 < fewer = omega arith in
          h.each path (c.0, omega arith, sym (get_or-take fewer nodes c.0 path first) ∙ c.2);
    }

module _ (globals : List GlobalName) where
  -- what a path of a text means
  abbrev meaning : List CellElemKind → List Elem
  meaning path = map (elem_of_cell_kind globals) path

  meaning-written : (elems : List CellElem) → map (λ (elem : CellElem). elem_of_cell_kind globals elem.kind) elems ≡ meaning (map (λ (elem : CellElem). elem.kind) elems)
  meaning-written [] = refl
  meaning-written (e ∷ es) = ap (λ (path : List Elem). elem_of_cell_kind globals e.kind ∷ path) (meaning-written es)

  -- a prefix of what a path means is what a prefix of the path means
  front-meaning : (path : List CellElemKind) (front rest : List Elem) → meaning path ≡ front ++ rest
      → (begin : List CellElemKind) × (end : List CellElemKind) × (path ≡ begin ++ end) × (meaning begin ≡ front)
  front-meaning path [] rest e = ([], path, refl, refl)
  front-meaning [] (f ∷ fs) rest e = cc
  front-meaning (k ∷ ks) (f ∷ fs) rest e =
      let same : elem_of_cell_kind globals k ≡ f = cc in
      let tail : meaning ks ≡ fs ++ rest = cc in
      let others = front-meaning ks fs rest tail in (
        k ∷ others.0,
        others.1,
        ap (λ (path : List CellElemKind). k ∷ path) others.2,
        ap (λ (path : List Elem). elem_of_cell_kind globals k ∷ path) others.3 ∙ ap (λ (g : Elem). g ∷ fs) same,
      )

  -- what a declaration of the program declares is what one of the text declares
  declared-meaning : (at : List CellElemKind) (shape : CellShape) (declared : List Elem) → program.Declares (meaning at) (dims_of shape) declared
      → (path : List CellElemKind) × text.DeclaresCells at shape path × (declared ≡ meaning path)
  declared-meaning at (shapes.Scalar initial) declared e = (at, refl, e)
  declared-meaning at (shapes.Array elements) declared (inl e) = (at, inl refl, e)
  declared-meaning at (shapes.Array elements) declared (inr (i, below, e)) = (
    at ++ Index i ∷ [],
    inr (i, below, refl),
    e ∙ sym (map-append (elem_of_cell_kind globals) at (Index i ∷ [])),
  )
  declared-meaning at (shapes.Grid rows columns) declared (inl e) = (at, inl refl, e)
  declared-meaning at (shapes.Grid rows columns) declared (inr (i, j, row, column, e)) = (
    at ++ Index i ∷ Index j ∷ [],
    inr (i, j, row, column, refl),
    e ∙ sym (map-append (elem_of_cell_kind globals) at (Index i ∷ Index j ∷ [])),
  )

  -- each declaration of the program is that of one of the text
  from-written : (first : ℕ) (cells : List written.CellDecl) (k : ℕ) (cell : CellDecl) → k < length (cells_from globals first cells)
      → get_or (cells_from globals first cells) k cell ≡ cell → (path : List Elem) → program.IsPrefixOfDeclared cell.path.elems cell.dims path
      → (one : written.CellDecl) × Contains cells one × program.IsPrefixOfDeclared (cell_path_of globals one.path).elems (dims_of one.shape) path
  from-written first [] k cell there e path h = absurd (omega arith)
  from-written first (one ∷ cells) zero cell there e path h = (
    one,
    Contains-here one cells,
    subst (λ (c : CellDecl). program.IsPrefixOfDeclared c.path.elems c.dims path) (sym e) h,
  )
  from-written first (one ∷ cells) (suc k) cell there e path h =
      let found = from-written (first + size_of (dims_of one.shape)) cells k cell (omega arith) e path h in
      (found.0, Contains-later one cells found.0 found.1, found.2)

  -- so is each node
  node-of-cell : (cells : List written.CellDecl) (one : written.CellDecl) → Contains cells one → (path : List Elem)
      → program.IsPrefixOfDeclared (cell_path_of globals one.path).elems (dims_of one.shape) path → (node : List CellElemKind) × IsPathNode cells node × (meaning node ≡ path)
  node-of-cell cells one there path (declared, is, (rest, e)) =
      let at = written_path one in
      let written_at : program.Declares (meaning at) (dims_of one.shape) declared =
      subst (λ (p : List Elem). program.Declares p (dims_of one.shape) declared) (meaning-written one.path.elems) is in
      let d = declared-meaning at one.shape declared written_at in
      let front = front-meaning d.0 path rest (sym d.2 ∙ e) in
      (front.0, of_cell one d.0 front.1 there d.1 front.2, front.3)

  node-of-console : (cells : List written.CellDecl) (path : List Elem) → program.PathBeginsWith program.console path → (node : List CellElemKind) × IsPathNode cells node × (meaning node ≡ path)
  node-of-console cells path (rest, e) =
      let front = front-meaning text.console_name path rest e in
      (front.0, of_console front.1 front.2, front.3)

module _ (ast : Ast) where
  node-meaning : (path : List Elem) → program.IsNodePath (program_of ast) path
      → (node : List CellElemKind) × IsPathNode (cells_of ast.items) node × (meaning (globals_of ast) node ≡ path)
  node-meaning path h =
      let globals = globals_of ast in
      let cells = cells_of ast.items in
      ⊎_elim
      (λ console. node-of-console globals cells path console)
      (λ a.
      let one = from-written globals 0 cells a.0 a.1 a.2 a.3 path a.4 in
      node-of-cell globals cells one.0 one.1 path one.2)
      h

  -- if the text has few nodes, the program has few
  pub few-nodes : ¬ HasNodes (cells_of ast.items) (max_nodes + 1) → program.HasNodesAtMost (program_of ast) max_nodes
  few-nodes few nodes distinct each =
      let chosen = choose (meaning (globals_of ast)) (IsPathNode (cells_of ast.items)) nodes distinct (λ path c. node-meaning path (each path c)) in
      ⊎_elim
      (λ (many : max_nodes < length nodes).
      absurd
      (few
      (HasNodes-fewer (cells_of ast.items) (length nodes) (max_nodes + 1)
      (record { nodes = chosen.items; many = chosen.many; distinct = chosen.distinct; each = chosen.each }) (omega arith))))
      (λ within. within)
      (cases_lt max_nodes (length nodes))
