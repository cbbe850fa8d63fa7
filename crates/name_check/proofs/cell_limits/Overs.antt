-- Which declaration goes over a limit.
use Rattle.std.proofs.Common.{◌≡◌, ℕ, suc, ◌+◌, ◌<◌, ◌≤◌, false, List, [], ◌∷◌, ◌++◌, length, get_or, take, drop, Some, refl, sym, ap, subst, ◌∙◌, ◌⊎◌, inl, inr, ⊎_elim, arith, append_assoc, add-one, drop-cons}
use Rattle.std.specs.Prelude.{codes}
use Rattle.std.specs.List.{All, Contains}
use Rattle.std.proofs.lemmas.List.{take-append-drop}
use Rattle.std.proofs.lemmas.List.Concat.{flat_map-append}
use Rattle.twe_base.specs.Language.{max_cells, max_nodes}
use Rattle.twe_ast.specs.declared.item.CellDecl.{CellDecl}
use Rattle.twe_ast.specs.declared.item.Item.{Item}
use Rattle.name_check.specs.declared.cell_limits.count.Count.{Count}
use Rattle.name_check.specs.cell_limits.Nodes.{cells_of_text, written_path, HasNodes}
use Rattle.name_check.specs.cell_limits.GoesOver.{cells_of_item, cells_of, GoesOver}
use Rattle.name_check.specs.cell_limits.FirstOver.{IsFirstOver}
use Rattle.name_check.specs.cell_limits.inner.Parts.{IsKnown}
use Rattle.name_check.specs.cell_limits.inner.Counting.{HasCounted, CountsOn}
use Rattle.name_check.proofs.cell_limits.Known.{AreKnown}
use Rattle.name_check.proofs.cell_limits.KnownNodes.{All-front}
use Rattle.name_check.proofs.cell_limits.Counts.{IsNode-more, cells_made-append, exact-more, HasNodes-le, le-HasNodes}

-- more declarations have no fewer nodes
HasNodes-append : (cells more : List CellDecl) (count : ℕ) → HasNodes cells count → HasNodes (cells ++ more) count
HasNodes-append cells more count h = record {
  nodes = h.nodes;
  many = h.many;
  distinct = h.distinct;
  each = λ path c. IsNode-more cells more path (h.each path c);
}

-- what goes over a limit stays over it with more declarations
over-stays : (before after : List CellDecl) → (max_cells < cells_of_text before) ⊎ HasNodes before (max_nodes + 1) → cells_of_text (before ++ after) ≤ max_cells → ¬ HasNodes (before ++ after) (max_nodes + 1) → ⊥
over-stays before after over cells nodes =
    ⊎_elim
    (λ many. let both = cells_made-append before after in absurd (omega arith))
    (λ many. nodes (HasNodes-append before after (max_nodes + 1) many))
    over

-- an element and what comes after it, once more
one_more : (before : List CellDecl) (cell : CellDecl) (after : List CellDecl) → before ++ cell ∷ after ≡ (before ++ cell ∷ []) ++ after
one_more before cell after = sym (append_assoc before (cell ∷ []) after)

-- of two places in a list one comes first, or they are one
places : (b : List CellDecl) (x : CellDecl) (a b' : List CellDecl) (x' : CellDecl) (a' : List CellDecl) → b ++ x ∷ a ≡ b' ++ x' ∷ a'
    → (x ≡ x') ⊎ ((m : List CellDecl) × (b' ≡ b ++ x ∷ m)) ⊎ ((m : List CellDecl) × (b ≡ b' ++ x' ∷ m))
places [] x a [] x' a' e = inl (cc)
places [] x a (y' ∷ ys') x' a' e = let same : x ≡ y' = cc in inr (inl (ys', ap (λ (z : CellDecl). z ∷ ys') (sym same)))
places (y ∷ ys) x a [] x' a' e = let same : y ≡ x' = cc in inr (inr (ys, ap (λ (z : CellDecl). z ∷ ys) same))
places (y ∷ ys) x a (y' ∷ ys') x' a' e =
    let same : y ≡ y' = cc in
    let rest : ys ++ x ∷ a ≡ ys' ++ x' ∷ a' = cc in
    ⊎_elim
    (λ one. inl one)
    (λ apart.
    inr
    (⊎_elim
    (λ later. inl (later.0, ap (λ (zs : List CellDecl). y' ∷ zs) later.1 ∙ ap (λ (z : CellDecl). z ∷ (ys ++ x ∷ later.0)) (sym same)))
    (λ earlier. inr (earlier.0, ap (λ (zs : List CellDecl). y ∷ zs) earlier.1 ∙ ap (λ (z : CellDecl). z ∷ (ys' ++ x' ∷ earlier.0)) same))
    apart))
    (places ys x a ys' x' a' rest)

not_before : (cells : List CellDecl) (one other : CellDecl) (m : List CellDecl) → (g : GoesOver cells one) (h : GoesOver cells other) → ¬ (h.before ≡ g.before ++ one ∷ m)
not_before cells one other m g h e =
    let split = e ∙ one_more g.before one m in
    over-stays (g.before ++ one ∷ []) m g.over
    (subst (λ (cs : List CellDecl). cells_of_text cs ≤ max_cells) split h.few_cells)
    (λ many. h.few_nodes (subst (λ (cs : List CellDecl). HasNodes cs (max_nodes + 1)) (sym split) many))

-- at most one declaration goes over
pub GoesOver-once : (cells : List CellDecl) (one other : CellDecl) → GoesOver cells one → GoesOver cells other → one ≡ other
GoesOver-once cells one other g h =
    ⊎_elim
    (λ same. same)
    (λ apart.
    ⊎_elim
    (λ later. absurd (not_before cells one other later.0 g h later.1))
    (λ earlier. absurd (not_before cells other one earlier.0 h g earlier.1))
    apart)
    (places g.before one g.after h.before other h.after (sym g.list ∙ h.list))

pub IsFirstOver-some : (its : List Item) (cell : CellDecl) → GoesOver (cells_of its) cell → IsFirstOver its (Some cell.name.place)
IsFirstOver-some its cell over =
    ((cell, over, refl), λ other also. ap (λ (c : CellDecl). c.name.place) (GoesOver-once (cells_of its) other cell also over))

module _ (names : List (List ℕ)) (has : Contains names (codes "Console")) where
  few_nodes : (cells : List CellDecl) (count : Count) → AreKnown names cells → HasCounted names cells count → ¬ HasNodes cells (max_nodes + 1)
  few_nodes cells count known counted many =
      let le = HasNodes-le names cells count.tree (max_nodes + 1) has known counted.exact many in
      let few = counted.few_nodes in
      omega arith

  -- if all was counted, none goes over
  pub IsFirstOver-none : (its : List Item) (count : Count) → AreKnown names (cells_of its) → HasCounted names (cells_of its) count → (cell : CellDecl) → ¬ GoesOver (cells_of its) cell
  IsFirstOver-none its count known counted cell over =
      let split = over.list ∙ one_more over.before cell over.after in
      let few : cells_of_text (cells_of its) ≤ max_cells = let is = counted.cells in let small = counted.few_cells in omega arith in
      over-stays (over.before ++ cell ∷ []) over.after over.over
      (subst (λ (cs : List CellDecl). cells_of_text cs ≤ max_cells) split few)
      (λ many. few_nodes (cells_of its) count known counted (subst (λ (cs : List CellDecl). HasNodes cs (max_nodes + 1)) (sym split) many))

  over-now : (before : List CellDecl) (cell : CellDecl) (old new : Count) → HasCounted names before old → CountsOn names old new cell false → (max_cells < cells_of_text (before ++ cell ∷ [])) ⊎ HasNodes (before ++ cell ∷ []) (max_nodes + 1)
  over-now before cell old new was on =
      ⊎_elim
      (λ cells. let both = cells_made-append before (cell ∷ []) in let is = was.cells in inl (omega arith))
      (λ nodes.
      let many = nodes.1 in
      inr (le-HasNodes names (before ++ cell ∷ []) new.tree (max_nodes + 1) nodes.0.tree (exact-more names before cell old.tree new.tree was.exact nodes.0.grows) (omega arith)))
      on

  -- if the numbers don't stay within the limits, this declaration goes over
  pub goes-over : (before : List CellDecl) (cell : CellDecl) (after : List CellDecl) (old new : Count) → AreKnown names (before ++ cell ∷ after) → HasCounted names before old → CountsOn names old new cell false → GoesOver (before ++ cell ∷ after) cell
  goes-over before cell after old new known was on = record {
    before = before;
    after = after;
    list = refl;
    few_cells = let is = was.cells in let few = was.few_cells in omega arith;
    few_nodes = few_nodes before old (All-front (λ (c : CellDecl). All (IsKnown names) (written_path c)) before (cell ∷ after) known) was;
    over = over-now before cell old new was on;
  }

-- the cells around those of an item
pub cells_of-around : (its : List Item) (i : ℕ) (item : Item) (cell : CellDecl) → i < length its → item ≡ get_or its i item → cells_of_item item ≡ cell ∷ [] → cells_of its ≡ cells_of (take i its) ++ cell ∷ cells_of (drop (i + 1) its)
cells_of-around its i item cell there is at =
    let rest : drop i its ≡ item ∷ drop (i + 1) its = rw (add-one, drop-cons its i item) (ap (λ (x : Item). x ∷ drop (suc i) its) (sym is)) in
    sym (ap cells_of (take-append-drop i its))
    ∙ flat_map-append cells_of_item (take i its) (drop i its)
    ∙ ap (λ (xs : List Item). cells_of (take i its) ++ cells_of xs) rest
    ∙ ap (λ (cs : List CellDecl). cells_of (take i its) ++ (cs ++ cells_of (drop (i + 1) its))) at
