-- What a move keeps of each row, and what holds after a move because it held before.
use Rattle.std.proofs.Common.{◌≡◌, ◌≢◌, ℕ, false, Some, inl, inr, refl, sym, ◌∙◌, subst}
use Rattle.effect_sets.specs.declared.effects.Summary.{Summary}
use Rattle.effect_sets.specs.Interference.{SomeInterfere}
use Rattle.machine_state.specs.declared.state.State.{State}
use Rattle.machine_state.specs.declared.state.TaskRow.{TaskRow}
use Rattle.machine_state.specs.declared.state.TaskStatus.TheVariants.{Enabled}
use Rattle.machine_state.specs.Legal.{Interfere, Isolated}
use Rattle.machine_state.specs.Rows.{HasStatus, IsRow}
use Rattle.wait_graph.specs.Waiting.{YieldsTo}
use Rattle.isolation_laws.specs.Within.{EffectsWithin, SpawnedWithin}

-- the first row became the second: the task's declaration, arguments, effects and parent stay, and a joined task stays
-- joined
pub record Became (a b : TaskRow) : Type 0 where
  pub decl : b.decl ≡ a.decl
  pub args : b.args ≡ a.args
  pub effects : b.effects ≡ a.effects
  pub parent : b.parent ≡ a.parent
  pub unjoined : b.joined ≡ false → a.joined ≡ false

pub became_itself : (a : TaskRow) → Became a a
became_itself a = record { decl = refl; args = refl; effects = refl; parent = refl; unjoined = λ h. h }

pub became_later : (a b c : TaskRow) → Became a b → Became b c → Became a c
became_later a b c first second = record {
  decl = second.decl ∙ first.decl;
  args = second.args ∙ first.args;
  effects = second.effects ∙ first.effects;
  parent = second.parent ∙ first.parent;
  unjoined = λ h. first.unjoined (second.unjoined h);
}

-- each row of the new state came from one of the old state
abbrev pub Continues : State → State → Type 0
Continues old new = (s : ℕ) (b : TaskRow) → IsRow new s b → (a : TaskRow) × IsRow old s a × Became a b

-- two unjoined children of one task do not interfere, said of their rows
abbrev pub SiblingsApart : State → Type 0
SiblingsApart st = (c d t : ℕ) (a b : TaskRow) → c ≢ d → IsRow st c a → IsRow st d b → a.parent ≡ Some t → b.parent ≡ Some t
    → a.joined ≡ false → b.joined ≡ false → ¬ SomeInterfere a.effects.effects b.effects.effects

-- whether rows interfere depends on their effects alone
pub same_interfere : (a b c d : TaskRow) → b.effects ≡ a.effects → d.effects ≡ c.effects → SomeInterfere b.effects.effects d.effects.effects → SomeInterfere a.effects.effects c.effects.effects
same_interfere a b c d first second some =
    subst (λ (x : Summary). SomeInterfere x.effects c.effects.effects) first (subst (λ (x : Summary). SomeInterfere b.effects.effects x.effects) second some)

-- each task that is enabled was enabled before
abbrev pub EnabledBefore : State → State → Type 0
EnabledBefore old new = (s : ℕ) → HasStatus new s Enabled → HasStatus old s Enabled

-- if one enabled task yielded to another, it still does
abbrev pub StillYields : State → State → Type 0
StillYields old new = (s t : ℕ) → HasStatus new s Enabled → HasStatus new t Enabled → YieldsTo old.links s t → YieldsTo new.links s t

module _ (old new : State) (continues : Continues old new) where
  pub within_later : SpawnedWithin old → SpawnedWithin new
  within_later within t q child parent is_child is_parent parent_is e here =
      let a = continues t child is_child in
      let b = continues q parent is_parent in
      let effects : a.0.effects ≡ child.effects = sym a.2.effects in
      let inner = subst (λ (x : Summary). EffectsWithin (record a.0 { effects = x }) b.0) effects (within t q a.0 b.0 a.1 b.1 (sym a.2.parent ∙ parent_is)) in
      subst (λ (x : Summary). EffectsWithin child (record b.0 { effects = x })) (sym b.2.effects) inner e here

  pub siblings_later : SiblingsApart old → SiblingsApart new
  siblings_later apart c d t a b differ is_a is_b of_a of_b free_a free_b some =
      let x = continues c a is_a in
      let y = continues d b is_b in
      apart c d t x.0 y.0 differ x.1 y.1 (sym x.2.parent ∙ of_a) (sym y.2.parent ∙ of_b) (x.2.unjoined free_a) (y.2.unjoined free_b)
      (same_interfere x.0 a y.0 b x.2.effects y.2.effects some)

  pub interfere_before : (s t : ℕ) → Interfere new s t → Interfere old s t
  interfere_before s t i =
      let x = continues s i.0 i.2 in
      let y = continues t i.1 i.3 in
      (x.0, y.0, x.1, y.1, same_interfere x.0 i.0 y.0 i.1 x.2.effects y.2.effects i.4)

  pub isolated_later : EnabledBefore old new → StillYields old new → Isolated old → Isolated new
  isolated_later before still isolated s t differ may_s may_t i =
      elim (isolated s t differ (before s may_s) (before t may_t) (interfere_before s t i)) [
        | inl one ↦ inl (still s t may_s may_t one)
        | inr other ↦ inr (still t s may_t may_s other)
      ]
