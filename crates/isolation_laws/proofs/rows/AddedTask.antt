-- A made task is added after the others, and leaves them as they are.
use Rattle.std.proofs.Common.{◌≡◌, ◌⊎◌, ◌<◌, ◌++◌, ℕ, List, [], ◌∷◌, Option, None, Some, inl, inr, length, map, refl, sym, ap, ◌∙◌, arith}
use Rattle.std.proofs.lemmas.Option.{slice_get_within}
use Rattle.wait_graph.specs.declared.tasks.Link.{Link}
use Rattle.wait_graph.specs.Link.{new_link}
use Rattle.wait_graph.specs.Waiting.{DescendsFrom, YieldsTo}
use Rattle.wait_graph.proofs.ChainLemmas.{Chain-map}
use Rattle.wait_graph.proofs.AddingLemmas.{SpawnedBy-added, WaitsOn-added}
use Rattle.machine_state.specs.declared.state.State.{State}
use Rattle.machine_state.specs.declared.state.TaskRow.{TaskRow}
use Rattle.machine_state.specs.declared.state.TaskStatus.TheVariants.{Enabled, Made}
use Rattle.machine_state.specs.Legal.{Isolated}
use Rattle.machine_state.specs.Rows.{HasStatus, IsRow, LinksAgree, link_of_row}
use Rattle.isolation_laws.specs.Within.{SpawnedWithin}
use Rattle.isolation_laws.proofs.rows.RowsLater.{SiblingsApart}
use Rattle.isolation_laws.proofs.rows.ListElements.{get_added}

-- chains of waits and of descent stay
pub descends_added : (links : List Link) (parent : Option ℕ) (c u : ℕ) → DescendsFrom links c u → DescendsFrom (links ++ new_link parent ∷ []) c u
descends_added links parent c u chain = Chain-map (λ x y by. (SpawnedBy-added links parent x y).1 (inl by)) chain

pub yields_added : (links : List Link) (parent : Option ℕ) (s c : ℕ) → YieldsTo links s c → YieldsTo (links ++ new_link parent ∷ []) s c
yields_added links parent s c yields =
    (yields.0, (WaitsOn-added links parent s yields.0).1 yields.1, descends_added links parent c yields.0 yields.2)

-- the state with one more row
abbrev pub with_row : State → TaskRow → State
with_row st row = record st { tasks = st.tasks ++ row ∷ []; links = st.links ++ new_link row.parent ∷ [] }

-- the parent of each task has a row
abbrev pub ParentsAreThere : State → Type 0
ParentsAreThere st = (c p : ℕ) (a : TaskRow) → IsRow st c a → a.parent ≡ Some p → p < length st.tasks

-- the links agreed with the rows before the task was added
links_before : (links : List Link) (rows : List TaskRow) (link : Link) (row : TaskRow) → links ++ link ∷ [] ≡ map link_of_row (rows ++ row ∷ []) → links ≡ map link_of_row rows
links_before [] [] link row e = refl
links_before [] (r ∷ []) link row e = absurd (cc)
links_before [] (r ∷ s ∷ rows) link row e = absurd (cc)
links_before (l ∷ []) [] link row e = absurd (cc)
links_before (l ∷ k ∷ links) [] link row e = absurd (cc)
links_before (l ∷ links) (r ∷ rows) link row e =
    let first : l ≡ link_of_row r = cc in
    let others : links ++ link ∷ [] ≡ map link_of_row (rows ++ row ∷ []) = cc in
    let rest = links_before links rows link row others in
    λ i. first i ∷ rest i

pub agree_before : (st : State) (row : TaskRow) → LinksAgree (with_row st row) → LinksAgree st
agree_before st row agree = links_before st.links st.tasks (new_link row.parent) row agree

module _ (st : State) (row : TaskRow) where
  pub row_added : (s : ℕ) (b : TaskRow) → IsRow (with_row st row) s b → ((s ≡ length st.tasks) × (b ≡ row)) ⊎ IsRow st s b
  row_added s b is = get_added st.tasks s row b is

  pub before_length : (s : ℕ) (b : TaskRow) → IsRow st s b → s < length st.tasks
  before_length s b is = slice_get_within st.tasks s b is

  -- a task of `executeLater` has no parent and is not enabled yet
  module _ (no_parent : row.parent ≡ None) (made : row.status ≡ Made) where
    old_enabled : (s : ℕ) → HasStatus (with_row st row) s Enabled → HasStatus st s Enabled
    old_enabled s may = elim (row_added s may.0 may.1) [
      | inl here ↦ let both : Made ≡ Enabled = sym made ∙ (sym (ap (λ (r : TaskRow). r.status) here.1) ∙ may.2) in absurd (cc)
      | inr before ↦ (may.0, before, may.2)
    ]

    not_new : (s : ℕ) (b : TaskRow) → HasStatus st s Enabled → IsRow (with_row st row) s b → IsRow st s b
    not_new s b may is = elim (row_added s b is) [
      | inl here ↦ let below = before_length s may.0 may.1 in absurd (omega (arith, here.0))
      | inr before ↦ before
    ]

    pub isolated_made : Isolated st → Isolated (with_row st row)
    isolated_made isolated s t differ may_s may_t i =
        let one = old_enabled s may_s in
        let other = old_enabled t may_t in
        elim (isolated s t differ one other (i.0, i.1, not_new s i.0 one i.2, not_new t i.1 other i.3, i.4)) [
          | inl yields ↦ inl (yields_added st.links row.parent s t yields)
          | inr yields ↦ inr (yields_added st.links row.parent t s yields)
        ]

    has_parent : (c p : ℕ) (b : TaskRow) → IsRow (with_row st row) c b → b.parent ≡ Some p → IsRow st c b
    has_parent c p b is parent = elim (row_added c b is) [
      | inl here ↦ let both : None ≡ Some p = sym no_parent ∙ (sym (ap (λ (r : TaskRow). r.parent) here.1) ∙ parent) in absurd (cc)
      | inr before ↦ before
    ]

    pub within_made : ParentsAreThere st → SpawnedWithin st → SpawnedWithin (with_row st row)
    within_made there within t q child parent is_child is_parent of =
        let old = has_parent t q child is_child of in
        elim (row_added q parent is_parent) [
          | inl here ↦ absurd (omega (arith, here.0, there t q child old of))
          | inr before ↦ within t q child parent old before of
        ]

    pub siblings_made : SiblingsApart st → SiblingsApart (with_row st row)
    siblings_made apart c d t a b differ is_a is_b of_a of_b free_a free_b =
        apart c d t a b differ (has_parent c t a is_a of_a) (has_parent d t b is_b of_b) of_a of_b free_a free_b
