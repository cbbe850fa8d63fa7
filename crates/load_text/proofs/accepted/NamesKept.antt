-- The tree keeps the rules of names, but for the limits on cells and nodes.
use Rattle.std.proofs.Common.{◌≡◌, ℕ, ◌+◌, ◌<◌, ◌≤◌, zero, suc, Bool, true, false, ◌&&◌, ◌||◌, List, [], ◌∷◌, ◌++◌, None, Some, is_some, eqb, refl, ap, ◌∙◌, arith}
use Rattle.std.specs.Prelude.{decimal, codes, bytes_eq, if◌then◌else◌}
use Rattle.std.specs.List.{list_any, flat_map}
use Rattle.std.proofs.lemmas.Bool.{false≢true, cond-false}
use Rattle.twe_base.specs.declared.place.Place.{Place}
use Rattle.twe_ast.specs.declared.item.ReturnType.TheVariants as returns
use Rattle.twe_lexer.specs.Lexeme.{is_number}
use Rattle.name_check.specs.declared.binding.Global.TheVariants as global_kinds
use Rattle.name_check.specs.declared.names.GlobalName.{GlobalName}
use Rattle.name_check.specs.declared.scope.LocalName.{LocalName}
use Rattle.name_check.specs.declared.scope.BodyScope.{BodyScope}
use Rattle.name_check.specs.Names.{Before, globals_from, globals_of, first_local}
use Rattle.name_check.specs.BodyScope.{after}
use Rattle.name_check.specs.Sites.{sites_in_all}
use Rattle.name_check.specs.declared.rule.NRule.TheVariants.{N2}
use Rattle.name_check.specs.declared.binding.NameUse.TheVariants as name_use
use Rattle.name_check.specs.Names.{binding_of}
use Rattle.twe_base.specs.First.{failure_if}
use Rattle.name_check.specs.inner.Failures.{failures_at, failures_of_use}
use Rattle.name_check.specs.inner.Whole.{again_failures, is_main_item}
use Rattle.name_check.proofs.Gathered.{failures_in_item, failures_in}
use Rattle.load_text.proofs.accepted.Numbered.{numbered_name, cell_name, child_name, parent_name, future_name, decimal_number, other_number}
use Rattle.load_text.proofs.accepted.Bindings.{after_head, past_cell, numbered_apart, Bound, bound}
use Rattle.load_text.proofs.accepted.Trees.{Places, later, sum_item, cell_item, child_item, parent_item, start, starts, items_from, load_tree}

-- the name is none of these locals
add_local : (text : List ℕ) (locals : List LocalName) (more : LocalName) → first_local text locals ≡ None → bytes_eq text more.text ≡ false
    → first_local text (locals ++ more ∷ []) ≡ None
add_local text [] more none differ = cond-false (bytes_eq text more.text) _ _ differ
add_local text (local ∷ locals) more none differ = by_test (bytes_eq text local.text) none (λ others. add_local text locals more others differ)
  where
    by_test : (test : Bool) → (if test then Some local.local else first_local text locals) ≡ None
        → (first_local text locals ≡ None → first_local text (locals ++ more ∷ []) ≡ None)
        → (if test then Some local.local else first_local text (locals ++ more ∷ [])) ≡ None
    by_test true none rest = cc
    by_test false none rest = rest none

-- the futures in scope are those before this number
record FuturesBefore (i : ℕ) (locals : List LocalName) : Type 0 where
  parents : (j : ℕ) → first_local (parent_name j) locals ≡ None
  futures : (j : ℕ) → i ≤ j → j < 10000 → first_local (future_name j) locals ≡ None

one_more : (i : ℕ) (locals : List LocalName) (more : LocalName) → more.text ≡ future_name i → i < 10000 → FuturesBefore i locals
    → FuturesBefore (suc i) (locals ++ more ∷ [])
one_more i locals more is small before = record {
  parents = λ j. add_local (parent_name j) locals more (before.parents j) (ap (bytes_eq (parent_name j)) is);
  futures = λ j above also.
      add_local (future_name j) locals more (before.futures j (omega arith) also)
      (ap (bytes_eq (future_name j)) is ∙ numbered_apart 102 102 j i (other_number j i also small (λ same. omega arith)));
}

-- the scope at the start of a body without parameters
abbrev pub at_body_start : BodyScope
at_body_start = record { locals = []; points = 0; vars = 0; futures = 0 }

both_none : {X : Type 0} (one other : List X) → one ≡ [] → other ≡ [] → one ++ other ≡ []
both_none one other first second = λ k. first k ++ second k

module _ (globals : List GlobalName) (n : ℕ) (most : n ≤ 2000) (bindings : Bound globals n) where
  sum_clean : (at : Places) → failures_in_item globals (sum_item at) ≡ []
  sum_clean at = rw bindings.second refl

  cell_clean : (at : Places) (i : ℕ) → failures_in_item globals (cell_item at i) ≡ []
  cell_clean at i = rw bindings.region refl

  child_clean : (at : Places) (i : ℕ) → i < n → failures_in_item globals (child_item at i) ≡ []
  child_clean at i below = rw (bindings.region, bindings.cell i below) refl

  parent_clean : (at : Places) (i : ℕ) → i < n → failures_in_item globals (parent_item at i) ≡ []
  parent_clean at i below =
      rw (bindings.region, bindings.second, bindings.sum, bindings.cell i below, bindings.child i below, bindings.future []) refl

  starts_clean : (count i : ℕ) (at : Places) (here : BodyScope) → i + count ≡ n → FuturesBefore i here.locals
      → flat_map (failures_at globals) (sites_in_all globals returns.Void here (starts at i count)) ≡ []
  starts_clean zero i at here all before = refl
  starts_clean (suc count) i at here all before =
      let below : i < n = omega arith in
      let more = starts_clean count (suc i) (later 9 at) (after globals here (start at i)) (omega arith)
      (one_more i here.locals _ refl (omega arith) before) in
      both_none (failure_if (is_some (binding_of globals here.locals (future_name i))) N2 (at 1)) _
      (rw (before.futures i (omega arith) (omega arith), bindings.future (decimal i)) refl)
      (both_none (failures_of_use (name_use.Task 0) (binding_of globals here.locals (parent_name i)) (at 3)) _
      (rw (before.parents i, bindings.parent i below) refl) more)

  main_clean : (at : Places)
      → flat_map (failures_at globals) (sites_in_all globals returns.Void at_body_start (starts at 0 n)) ≡ []
  main_clean at = starts_clean n 0 at at_body_start (omega arith) (record { parents = λ j. refl; futures = λ j above also. refl })

  items_clean : (count i : ℕ) (at : Places) → i + count ≡ n → flat_map (failures_in_item globals) (items_from at i count n) ≡ []
  items_clean zero i at all = both_none _ [] (both_none _ [] (main_clean (later 7 at)) refl) refl
  items_clean (suc count) i at all =
      let below : i < n = omega arith in
      both_none _ _ (cell_clean at i) (both_none _ _ (child_clean (later 11 at) i below) (both_none _ _ (parent_clean (later 33 at) i below)
      (items_clean count (suc i) (later 69 at) (omega arith))))

-- no name is declared twice
abbrev has_name : List ℕ → GlobalName → Bool
has_name text = λ e. bytes_eq text e.text

any_more : (text : List ℕ) (names : List GlobalName) (more : GlobalName) → list_any (has_name text) names ≡ false → bytes_eq text more.text ≡ false
    → list_any (has_name text) (names ++ more ∷ []) ≡ false
any_more text [] more none differ = ap (λ (t : Bool). t || false) differ
any_more text (name ∷ names) more none differ = by_test (bytes_eq text name.text) none (λ others. any_more text names more others differ)
  where
    by_test : (test : Bool) → (test || list_any (has_name text) names) ≡ false
        → (list_any (has_name text) names ≡ false → list_any (has_name text) (names ++ more ∷ []) ≡ false)
        → (test || list_any (has_name text) (names ++ more ∷ [])) ≡ false
    by_test true none rest = none
    by_test false none rest = rest none

-- the numbered names before are those below this number, and `main` is not before
record NamesBefore (i : ℕ) (names : List GlobalName) : Type 0 where
  numbered : (letter j : ℕ) → i ≤ j → j < 10000 → list_any (has_name (numbered_name letter j)) names ≡ false
  main : list_any (has_name (codes "main")) names ≡ false

-- the names of one cell more
three_more : (i : ℕ) (names : List GlobalName) (one two three : GlobalName) → one.text ≡ cell_name i → two.text ≡ child_name i
    → three.text ≡ parent_name i → i < 10000 → NamesBefore i names
    → NamesBefore (suc i) (((names ++ one ∷ []) ++ two ∷ []) ++ three ∷ [])
three_more i names one two three first second third small before = record {
  numbered = λ letter j above also.
      (let differ = other_number j i also small (λ same. omega arith) in
      any_more (numbered_name letter j) ((names ++ one ∷ []) ++ two ∷ []) three
      (any_more (numbered_name letter j) (names ++ one ∷ []) two
      (any_more (numbered_name letter j) names one (before.numbered letter j (omega arith) also)
      (ap (bytes_eq (numbered_name letter j)) first ∙ numbered_apart letter 99 j i differ))
      (ap (bytes_eq (numbered_name letter j)) second ∙ numbered_apart letter 117 j i differ))
      (ap (bytes_eq (numbered_name letter j)) third ∙ numbered_apart letter 116 j i differ));
  main =
      any_more (codes "main") ((names ++ one ∷ []) ++ two ∷ []) three
      (any_more (codes "main") (names ++ one ∷ []) two (any_more (codes "main") names one before.main (ap (bytes_eq (codes "main")) first))
      (ap (bytes_eq (codes "main")) second))
      (ap (bytes_eq (codes "main")) third);
}

once_from : (n count i : ℕ) (at : Places) (before : Before) (names : List GlobalName) → i + count ≤ 2000 → NamesBefore i names
    → again_failures names (globals_from before (items_from at i count n)) ≡ []
once_from n zero i at before names few fresh = both_none _ [] (ap (λ (t : Bool). failure_if t N2 (at 2)) fresh.main) refl
once_from n (suc count) i at before names few fresh =
    let one : GlobalName = record { text = cell_name i; place = at 1; global = global_kinds.Cells before.cells 0 } in
    let two : GlobalName = record { text = child_name i; place = at 14; global = global_kinds.Task before.tasks 0 returns.Void } in
    let three : GlobalName = record { text = parent_name i; place = at 35; global = global_kinds.Task (before.tasks + 1) 0 returns.Void } in
    let next : NamesBefore (suc i) (((names ++ one ∷ []) ++ two ∷ []) ++ three ∷ []) = three_more i names one two three refl refl refl (omega arith) fresh in
    let child : list_any (has_name (child_name i)) (names ++ one ∷ []) ≡ false = any_more (child_name i) names one
    (fresh.numbered 117 i (omega arith) (omega arith)) refl in
    let parent : list_any (has_name (parent_name i)) ((names ++ one ∷ []) ++ two ∷ []) ≡ false =
    any_more (parent_name i) (names ++ one ∷ []) two (any_more (parent_name i) names one (fresh.numbered 116 i (omega arith) (omega arith)) refl) refl in
    both_none _ _ (ap (λ (t : Bool). failure_if t N2 (at 1)) (fresh.numbered 99 i (omega arith) (omega arith)))
    (both_none _ _ (ap (λ (t : Bool). failure_if t N2 (at 14)) child)
    (both_none _ _ (ap (λ (t : Bool). failure_if t N2 (at 35)) parent)
    (once_from n count (suc i) (later 69 at) (past_cell before) (((names ++ one ∷ []) ++ two ∷ []) ++ three ∷ []) (omega arith) next)))

no_empty : (bytes : List ℕ) → is_number bytes ≡ true → bytes_eq bytes [] ≡ false
no_empty [] is = absurd (false≢true is)
no_empty (first ∷ others) is = refl

no_short : (letter other i : ℕ) → i < 10000 → bytes_eq (numbered_name letter i) (other ∷ []) ≡ false
no_short letter other i small = by_letter (eqb letter other)
  where
    by_letter : (same : Bool) → (same && bytes_eq (decimal i) []) ≡ false
    by_letter true = no_empty (decimal i) (decimal_number i small)
    by_letter false = refl

once : (at : Places) (end : Place) (n : ℕ) → n ≤ 2000 → again_failures [] (globals_of (load_tree at end n)) ≡ []
once at end n most =
    let first : GlobalName = record { text = codes "R"; place = at 1; global = global_kinds.Region 1 } in
    let second : GlobalName = record { text = codes "S"; place = at 3; global = global_kinds.Region 2 } in
    let third : GlobalName = record { text = codes "s"; place = at 6; global = global_kinds.Cells 0 0 } in
    once_from n n 0 (later 10 at) after_head (first ∷ second ∷ third ∷ []) (omega arith)
    (record {
      numbered = λ letter j above also. (λ k. no_short letter 82 j also k || (no_short letter 83 j also k || (no_short letter 115 j also k || false)));
      main = refl;
    })

has_main : (n count i : ℕ) (at : Places) → list_any is_main_item (items_from at i count n) ≡ true
has_main n zero i at = refl
has_main n (suc count) i at = has_main n count (suc i) (later 69 at)

-- the tree has no failure in the list of all
pub none_listed : (at : Places) (end : Place) (n : ℕ) → n ≤ 2000 → failures_in (load_tree at end n) ≡ []
none_listed at end n most =
    let globals = globals_of (load_tree at end n) in
    let bindings = bound at end n most in
    both_none (flat_map (failures_in_item globals) (load_tree at end n).items) _
    (both_none (failures_in_item globals (sum_item (later 5 at))) _ (sum_clean globals n most bindings (later 5 at))
    (items_clean globals n most bindings n 0 (later 10 at) (omega arith)))
    (both_none (again_failures [] globals) _ (once at end n most) (rw (has_main n n 0 (later 10 at)) refl))
