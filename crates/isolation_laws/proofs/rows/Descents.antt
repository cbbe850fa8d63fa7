-- The effects of a descendant lie within those of its ancestors; and a chain of descent has a last step.
use Rattle.std.proofs.Common.{◌≢◌, ℕ, refl, subst}
use Rattle.wait_graph.specs.Chain.{Chain, none, more}
use Rattle.wait_graph.specs.Waiting.{DescendsFrom}
use Rattle.machine_state.specs.declared.state.State.{State}
use Rattle.machine_state.specs.declared.state.TaskRow.{TaskRow}
use Rattle.machine_state.specs.Rows.{IsRow, LinksAgree}
use Rattle.isolation_laws.specs.Within.{EffectsWithin, SpawnedWithin}
use Rattle.isolation_laws.proofs.rows.ListElements.{one_there}
use Rattle.isolation_laws.proofs.effects.Interference.{within_itself, within_more}
use Rattle.isolation_laws.proofs.rows.LinksOfRows.{spawned_row}

last_of : {Step : ℕ → ℕ → Type 0} {y b : ℕ} → Chain Step y b → (x : ℕ) → Step x y → (d : ℕ) × Chain Step x d × Step d b
last_of none x first = (x, none, first)
last_of (more {a = y} second chain) x first = let found = last_of chain y second in (found.0, more first found.1, found.2)

-- a chain between two different tasks has a last step
pub last_step : {Step : ℕ → ℕ → Type 0} {a b : ℕ} → Chain Step a b → a ≢ b → (d : ℕ) × Chain Step a d × Step d b
last_step none differ = absurd (differ refl)
last_step {a = a} (more first chain) differ = last_of chain a first

module _ (st : State) (agree : LinksAgree st) (within : SpawnedWithin st) where
  -- each ancestor of a task that has a row has a row too
  row_along : (s d : ℕ) (b : TaskRow) → IsRow st d b → DescendsFrom st.links s d → (a : TaskRow) × IsRow st s a
  row_along s d b is none = (b, is)
  row_along s d b is (more {b = p} by chain) = let found = spawned_row st agree s p by in (found.0, found.1)

  pub within_along : (s d : ℕ) (a b : TaskRow) → IsRow st s a → IsRow st d b → DescendsFrom st.links s d → EffectsWithin a b
  within_along s d a b is_a is_b none =
      subst (λ (x : TaskRow). EffectsWithin a x) (one_there st.tasks s a b is_a is_b) (within_itself a.effects.effects)
  within_along s d a b is_a is_b (more {b = p} by chain) =
      let found = spawned_row st agree s p by in
      let parent = row_along p d b is_b chain in
      let first = within s p found.0 parent.0 found.1 parent.1 found.2 in
      let same = one_there st.tasks s found.0 a found.1 is_a in
      within_more a.effects.effects parent.0.effects.effects b.effects.effects
      (subst (λ (x : TaskRow). EffectsWithin x parent.0) same first) (within_along p d parent.0 b parent.1 is_b chain)
