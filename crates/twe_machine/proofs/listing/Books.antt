-- Where tasks stand in a book, over what its nodes and its tree of places gain.
use Rattle.std.proofs.Common.{◌≡◌, ◌≢◌, ◌≤◌, ◌<◌, ◌⊎◌, inl, inr, ℕ, Bool, true, List, [], ◌∷◌, ◌++◌, length, map, Option, None, Some, refl, sym, ap, ◌∙◌, subst, arith}
use Rattle.std.specs.Prelude.{IfNone, slice_get, slice_set, take_while}
use Rattle.std.proofs.lemmas.Bool.{cases_eq}
use Rattle.region_paths.specs.declared.elements.Elem.{Elem}
use Rattle.prefix_tree.specs.declared.part.Part.{Part}
use Rattle.region_paths.specs.Filled.{is_solid}
use Rattle.prefix_tree.specs.Nodes.{IsNode, IsTreeOfPaths, path_of}
use Rattle.prefix_tree.proofs.PrefixLemmas.{IsPrefix-refl, IsPrefix-snoc, IsPrefix-trans}
use Rattle.prefix_tree.proofs.SnocLemmas.{snoc-same}
use Rattle.prefix_tree.specs.Prefix.{IsPrefix}
use Rattle.effect_tree.specs.inner.Parts.{elem_of, elem_paths}
use Rattle.effect_tree.proofs.PartPaths.{IsTreeOfPaths-elems, elems-snoc, length-elems, path_of-elems}
use Rattle.wait_graph.specs.declared.tasks.Link.{Link}
use Rattle.twe_machine.specs.declared.book.TaskBook.{TaskBook}
use Rattle.twe_machine.specs.declared.book.NodeTasks.{NodeTasks}
use Rattle.machine_state.specs.declared.state.State.{State}
use Rattle.machine_state.specs.declared.state.TaskStatus.TheVariants.{Enabled}
use Rattle.twe_machine.specs.Books.{NodeIs, IsAtOrBelow, IsInWay, NodeHas, NodesAreDecided, IsPlacedIn}
use Rattle.twe_machine.specs.inner.Nodes.{EntriesKeep, NodesKeep}
use Rattle.twe_machine.specs.Queues.{IsQueued, IsDecided, IsNoBar}
use Rattle.machine_state.specs.Rows.{HasStatus}
use Rattle.machine_state.proofs.lists.Places.{got_one, set_cases, set_other, set_same}

-- Nodes.

pub keep_same : (st : State) (nodes : List NodeTasks) → NodesKeep st nodes nodes
keep_same st nodes n node at = record { node = node; at = at; has = (λ s has h. h, λ s has h. h) }

pub keep_more : (st : State) (nodes more : List NodeTasks) → ((n : ℕ) (node : NodeTasks) → slice_get nodes n ≡ Some node → slice_get more n ≡ Some node) → NodesKeep st nodes more
keep_more st nodes more kept n node at = record { node = node; at = kept n node at; has = (λ s has h. h, λ s has h. h) }

pub keep_trans : (st : State) (one two three : List NodeTasks) → NodesKeep st one two → NodesKeep st two three → NodesKeep st one three
keep_trans st one two three first second n node at =
    let h = first n node at in
    let k = second n h.node h.at in
    record { node = k.node; at = k.at; has = (λ s has t. k.has.0 s has (h.has.0 s has t), λ s has t. k.has.1 s has (h.has.1 s has t)) }

-- a node was set
pub keep_set : (st : State) (nodes : List NodeTasks) (at : ℕ) (old new : NodeTasks) → slice_get nodes at ≡ Some old
    → EntriesKeep st old.here.entries new.here.entries → EntriesKeep st old.below.entries new.below.entries → NodesKeep st nodes (slice_set nodes at new)
keep_set st nodes at old new was here below n node got =
    elim (cases_eq n at) [
      | inl is ↦
          let one : node ≡ old = got_one (slice_get nodes at) (subst (λ (m : ℕ). slice_get nodes m ≡ Some node) is got) was in
          record {
            node = new;
            at = ap (slice_get (slice_set nodes at new)) is ∙ set_same nodes at old new was;
            has = (
              λ s has h. here s has (subst (λ (x : NodeTasks). IsQueued x.here.entries s) one h),
              λ s has h. below s has (subst (λ (x : NodeTasks). IsQueued x.below.entries s) one h),
            );
          }
      | inr ne ↦ record { node = node; at = set_other nodes at n new ne ∙ got; has = (λ s has h. h, λ s has h. h) }
    ]

pub decided_set : (links : List Link) (nodes : List NodeTasks) (at : ℕ) (new : NodeTasks) → NodesAreDecided links nodes
    → IsDecided links new.here.entries → IsDecided links new.below.entries → NodesAreDecided links (slice_set nodes at new)
decided_set links nodes at new old here below n node got =
    elim (set_cases nodes at n new node got) [
      | inl same ↦ subst (λ (x : NodeTasks). IsDecided links x.here.entries × IsDecided links x.below.entries) same.1 (here, below)
      | inr other ↦ old n node other.1
    ]

-- Places.

-- a prefix of a path is the path, or goes on by one more element
pub prefix_or_next : (a b : List Elem) → IsPrefix a b → (a ≡ b) ⊎ ((e : Elem) × IsPrefix (a ++ e ∷ []) b)
prefix_or_next [] [] h = inl refl
prefix_or_next [] (y ∷ ys) h = inr (y, (refl, tt))
prefix_or_next (x ∷ xs) [] h = absurd h
prefix_or_next (x ∷ xs) (y ∷ ys) h =
    elim (prefix_or_next xs ys h.1) [
      | inl same ↦ let first = h.0 in inl (cc)
      | inr next ↦ inr (next.0, (h.0, next.1))
    ]

module _ (st : State) (old new : TaskBook) (longer : length old.tree ≤ length new.tree)
    (paths : (n : ℕ) → n < length old.tree → path_of (elem_paths new.tree) n ≡ path_of (elem_paths old.tree) n)
    (keep : NodesKeep st old.nodes new.nodes) where
  here_keeps : (path : List Elem) (s : ℕ) → HasStatus st s Enabled → NodeHas old path (λ (node : NodeTasks). IsQueued node.here.entries s)
      → NodeHas new path (λ (node : NodeTasks). IsQueued node.here.entries s)
  here_keeps path s has h =
      let there = h.1 in
      let k = keep h.0 h.3.node h.3.at in
      (h.0, omega (arith, there, longer), paths h.0 h.1 ∙ h.2, record { node = k.node; at = k.at; has = k.has.0 s has h.3.has })

  pub above_keeps : (path : List Elem) (s : ℕ) → HasStatus st s Enabled → NodeHas old path (IsAtOrBelow s) → NodeHas new path (IsAtOrBelow s)
  above_keeps path s has h =
      let there = h.1 in
      let k = keep h.0 h.3.node h.3.at in (
        h.0,
        omega (arith, there, longer),
        paths h.0 h.1 ∙ h.2,
        record { node = k.node; at = k.at; has = elim h.3.has [ inl here ↦ inl (k.has.0 s has here) | inr below ↦ inr (k.has.1 s has below) ] },
      )

  -- who stands in a book still does
  pub stands_keeps : (front : List Elem) (s : ℕ) → HasStatus st s Enabled → IsPlacedIn old s front → IsPlacedIn new s front
  stands_keeps front s has stands = record {
    placed = here_keeps front s has stands.placed;
    above = λ prefix h. above_keeps prefix s has (stands.above prefix h);
  }

-- more tasks stand in the nodes
pub stands_nodes : (st : State) (book : TaskBook) (nodes : List NodeTasks) → NodesKeep st book.nodes nodes → (front : List Elem) (s : ℕ) → HasStatus st s Enabled
    → IsPlacedIn book s front → IsPlacedIn (record book { nodes = nodes }) s front
stands_nodes st book nodes keep front s has stands =
    stands_keeps st book (record book { nodes = nodes }) (omega arith) (λ n low. refl) keep front s has stands

-- the paths of the nodes of a tree that grows, as elements
pub paths_kept : (old new : List (List Part)) → ((n : ℕ) → n < length old → path_of new n ≡ path_of old n)
    → (n : ℕ) → n < length old → path_of (elem_paths new) n ≡ path_of (elem_paths old) n
paths_kept old new kept n low = path_of-elems new n ∙ (ap (map elem_of) (kept n low) ∙ sym (path_of-elems old n))

pub path_grown : (old new : List (List Part)) (at n : ℕ) (p : Part) → path_of new n ≡ path_of old at ++ p ∷ []
    → path_of (elem_paths new) n ≡ path_of (elem_paths old) at ++ elem_of p ∷ []
path_grown old new at n p is =
    path_of-elems new n ∙ (ap (map elem_of) is ∙ (elems-snoc (path_of old at) p ∙ ap (λ (xs : List Elem). xs ++ elem_of p ∷ []) (sym (path_of-elems old at))))

-- A task that is entered.

-- each node above this one knows of t
abbrev pub KnowAbove : TaskBook → ℕ → ℕ → Type 0
KnowAbove book at t =
    (prefix : List Elem) (e : Elem) → IsPrefix (prefix ++ e ∷ []) (path_of (elem_paths book.tree) at) → NodeHas book prefix (IsAtOrBelow t)

-- the path of the root has no elements, so no node is above it
pub root_path : (tree : List (List Part)) (n : ℕ) → n ≡ 0 → IsTreeOfPaths tree → path_of (elem_paths tree) n ≡ []
root_path tree n zero is = path_of-elems tree n ∙ ap (map elem_of) (ap (path_of tree) zero ∙ is.root)

not_below_nothing : (prefix : List Elem) (e : Elem) → IsPrefix (prefix ++ e ∷ []) [] → ⊥
not_below_nothing [] e h = h
not_below_nothing (x ∷ xs) e h = h

pub nothing_above : (book : TaskBook) (at t : ℕ) → path_of (elem_paths book.tree) at ≡ [] → KnowAbove book at t
nothing_above book at t empty prefix e h = absurd (not_below_nothing prefix e (subst (λ (xs : List Elem). IsPrefix (prefix ++ e ∷ []) xs) empty h))

-- it stands in the book once it is placed
pub stands_new : (st : State) (book : TaskBook) (nodes : List NodeTasks) (at t : ℕ) (front : List Elem) → at < length book.tree → path_of (elem_paths book.tree) at ≡ front
    → HasStatus st t Enabled → NodesKeep st book.nodes nodes → NodeIs nodes at (λ (node : NodeTasks). IsQueued node.here.entries t) → KnowAbove book at t
    → IsPlacedIn (record book { nodes = nodes }) t front
stands_new st book nodes at t front there is enabled keep has above = record {
  placed = (at, there, is, has);
  above = λ prefix h.
      elim (prefix_or_next prefix front h) [
        | inl same ↦ (at, there, is ∙ sym same, record { node = has.node; at = has.at; has = inl has.has })
        | inr next ↦
            above_keeps st book (record book { nodes = nodes }) (omega arith) (λ n low. refl) keep prefix t enabled
            (above prefix next.0 (subst (λ (path : List Elem). IsPrefix (prefix ++ next.0 ∷ []) path) (sym is) next.1))
      ];
}

-- one node more knows of it
pub know_next : (st : State) (book : TaskBook) (tree : List (List Part)) (nodes : List NodeTasks) (at n t : ℕ) (p : Part) → at < length book.tree → HasStatus st t Enabled
    → length book.tree ≤ length tree → ((k : ℕ) → k < length book.tree → path_of tree k ≡ path_of book.tree k) → NodesKeep st book.nodes nodes
    → path_of tree n ≡ path_of book.tree at ++ p ∷ [] → NodeIs nodes at (λ (node : NodeTasks). IsQueued node.below.entries t) → KnowAbove book at t
    → KnowAbove (record book { tree = tree; nodes = nodes }) n t
know_next st book tree nodes at n t p there enabled longer kept keep is has above prefix e h =
    let paths = paths_kept book.tree tree kept in
    let path = path_grown book.tree tree at n p is in
    let longer_path = subst (λ (xs : List Elem). IsPrefix (prefix ++ e ∷ []) xs) path h in
    elim ((IsPrefix-snoc (prefix ++ e ∷ []) (path_of (elem_paths book.tree) at) (elem_of p)).0 longer_path) [
      | inl before ↦ above_keeps st book (record book { tree = tree; nodes = nodes }) longer paths keep prefix t enabled (above prefix e before)
      | inr whole ↦
          let same = (snoc-same prefix (path_of (elem_paths book.tree) at) e (elem_of p) whole).0 in
          (at, omega (arith, there, longer), paths at there ∙ sym same, record { node = has.node; at = has.at; has = inr has.has })
    ]

module _ (book : TaskBook) (tree : IsTreeOfPaths book.tree) (at : ℕ) (within : at < length book.tree) where
  one_node : (n : ℕ) → n < length book.tree → path_of (elem_paths book.tree) n ≡ path_of (elem_paths book.tree) at → n ≡ at
  one_node n there same =
      let all = length-elems book.tree in
      (IsTreeOfPaths-elems book.tree tree).once n at (omega (arith, there, all)) (omega (arith, within, all)) same

  -- the node with the path of one is that one
  pub node_at : (path : List Elem) (Has : NodeTasks → Type 0) → NodeHas book path Has → path ≡ path_of (elem_paths book.tree) at → NodeIs book.nodes at Has
  node_at path Has h is = subst (λ (n : ℕ). NodeIs book.nodes n Has) (one_node h.0 h.1 (h.2 ∙ is)) h.3

-- Bars on the way to a node.

-- a list goes on by one element, and then by others
prefix_append : (a b rest : List Elem) (e : Elem) → IsPrefix a (b ++ e ∷ rest) → IsPrefix a b ⊎ IsPrefix (b ++ e ∷ []) a
prefix_append [] b rest e h = inl tt
prefix_append (x ∷ xs) [] rest e h = inr (sym h.0, tt)
prefix_append (x ∷ xs) (y ∷ ys) rest e h =
    elim (prefix_append xs ys rest e h.1) [ inl less ↦ inl (h.0, less) | inr more ↦ inr (sym h.0, more) ]

prefix_first : (a rest : List Elem) (e : Elem) → IsPrefix (a ++ e ∷ []) (a ++ e ∷ rest)
prefix_first [] rest e = (refl, tt)
prefix_first (x ∷ xs) rest e = (refl, prefix_first xs rest e)

pub none_then : {A P Q : Type 0} (o : Option A) → (P → Q) → IfNone o P → IfNone o Q
none_then None f p = f p
none_then (Some x) f p = p

-- the tasks that are placed above this node are no bars
abbrev pub AbovePass : State → ℕ → TaskBook → ℕ → Type 0
AbovePass st t book at =
    (s : ℕ) (front : List Elem) (e : Elem) → IsPlacedIn book s front → IsPrefix (front ++ e ∷ []) (path_of (elem_paths book.tree) at) → IsNoBar st t s

module _ (st : State) (t : ℕ) (book : TaskBook) (tree : IsTreeOfPaths book.tree) (at : ℕ) (within : at < length book.tree) (passed : AbovePass st t book at) where
  abbrev path : List Elem
  path = path_of (elem_paths book.tree) at

  module _ (here : (s : ℕ) (node : NodeTasks) → slice_get book.nodes at ≡ Some node → IsQueued node.here.entries s → IsNoBar st t s) where
    -- nor those that are placed at it
    up_to : (s : ℕ) (front : List Elem) → IsPlacedIn book s front → IsPrefix front path → IsNoBar st t s
    up_to s front stands h =
        elim (prefix_or_next front path h) [
          | inl same ↦
              let has = node_at book tree at within front (λ (node : NodeTasks). IsQueued node.here.entries s) stands.placed same in
              here s has.node has.at has.has
          | inr next ↦ passed s front next.0 stands next.1
        ]

    pub passed_next : (n : ℕ) (p : Part) → path_of book.tree n ≡ path_of book.tree at ++ p ∷ [] → AbovePass st t book n
    passed_next n p is s front e stands h =
        let longer = subst (λ (xs : List Elem). IsPrefix (front ++ e ∷ []) xs) (path_grown book.tree book.tree at n p is) h in
        elim ((IsPrefix-snoc (front ++ e ∷ []) path (elem_of p)).0 longer) [
          | inl before ↦ passed s front e stands before
          | inr whole ↦
              let same = (snoc-same front path e (elem_of p) whole).0 in
              up_to s front stands (subst (λ (xs : List Elem). IsPrefix xs path) (sym same) (IsPrefix-refl path))
        ]

    -- the way ends at this node
    pub plain_end : (elems : List Elem) (star : Bool) → path ≡ take_while is_solid elems → ¬ ((star ≡ true) ⊎ (take_while is_solid elems ≢ elems))
        → (s : ℕ) (front : List Elem) → IsPlacedIn book s front → IsInWay front elems star → IsNoBar st t s
    plain_end elems star is plain s front stands way =
        elim way [
          | inl above ↦ up_to s front stands (subst (λ (xs : List Elem). IsPrefix front xs) (sym is) above)
          | inr wide ↦ absurd (plain wide.0)
        ]

    -- it leads on to where nothing stands
    pub way_ends : (elems : List Elem) (star : Bool) (e : Elem) (rest : List Elem) → path ++ e ∷ rest ≡ take_while is_solid elems
        → ¬ IsNode (elem_paths book.tree) (path ++ e ∷ [])
        → (s : ℕ) (front : List Elem) → IsPlacedIn book s front → IsInWay front elems star → IsNoBar st t s
    way_ends elems star e rest is absent s front stands way =
        let no : IsPrefix (path ++ e ∷ []) front → ⊥ = λ h.
        let node = stands.above (path ++ e ∷ []) h in
        let all = length-elems book.tree in
        let low = node.1 in
        absent (node.0, omega (arith, low, all), node.2) in
        elim way [
          | inl above ↦
              elim (prefix_append front path rest e (subst (λ (xs : List Elem). IsPrefix front xs) (sym is) above)) [
                | inl less ↦ up_to s front stands less
                | inr more ↦ absurd (no more)
              ]
          | inr wide ↦
              absurd (no (IsPrefix-trans (path ++ e ∷ []) (take_while is_solid elems) front
              (subst (λ (xs : List Elem). IsPrefix (path ++ e ∷ []) xs) is (prefix_first path rest e)) wide.1))
        ]

  -- it ends here with a wildcard
  pub wide_end : (elems : List Elem) (star : Bool) → path ≡ take_while is_solid elems
      → ((s : ℕ) (node : NodeTasks) → slice_get book.nodes at ≡ Some node → IsAtOrBelow s node → IsNoBar st t s)
      → (s : ℕ) (front : List Elem) → IsPlacedIn book s front → IsInWay front elems star → IsNoBar st t s
  wide_end elems star is below s front stands way =
      elim way [
        | inl above ↦
            up_to (λ r node got has. below r node got (inl has)) s front stands (subst (λ (xs : List Elem). IsPrefix front xs) (sym is) above)
        | inr wide ↦
            let has = node_at book tree at within (take_while is_solid elems) (IsAtOrBelow s) (stands.above (take_while is_solid elems) wide.1) (sym is) in
            below s has.node has.at has.has
      ]

pub none_above : (st : State) (t : ℕ) (book : TaskBook) (at : ℕ) → path_of (elem_paths book.tree) at ≡ [] → AbovePass st t book at
none_above st t book at empty s front e stands h = absurd (not_below_nothing front e (subst (λ (xs : List Elem). IsPrefix (front ++ e ∷ []) xs) empty h))
