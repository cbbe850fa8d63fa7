-- Chains of waits, followed from phase word to phase word.
use Rattle.std.specs.Prelude.{◌≡◌, ◌≢◌, ◌++◌, ℕ, List, [], ◌∷◌}
use Rattle.floor_laws.specs.declared.rule.view.Phase.TheVariants.{Waits}
use Rattle.floor_laws.specs.table.Added.{HasGrown}
use Rattle.floor_laws.specs.table.Layout.{phase_of_word}
use Rattle.floor_laws.specs.declared.table.nodes.view.Look.{Look}
use Rattle.floor_laws.specs.declared.table.nodes.view.Look.TheVariants.{AtPhase}

-- These looks, the latest first, were at the phase word of task s, and then of each task that the one before it was found to wait
-- for. So whoever looked so has come to task u, at whose phase it has not looked yet.
pub data CameTo (s : ℕ) : ℕ → List Look → Type 0 where
  starts : CameTo s s []
  goes_on : {u w found : ℕ} {looks : List Look} → CameTo s u looks → phase_of_word found ≡ Waits w
      → CameTo s w (AtPhase u found ∷ looks)

-- The chain of waits that these looks show from task s on ended at task u, whose phase was no wait.
pub record EndedAt (s u : ℕ) (looks : List Look) : Type 0 where
  pub before : List Look
  pub found : ℕ
  pub last : looks ≡ AtPhase u found ∷ before
  pub came : CameTo s u before
  pub no_wait : (w : ℕ) → phase_of_word found ≢ Waits w

-- Among the looks that were added, one after the other, are those of such a chain.
pub record HasFollowedTo (before after : List Look) (s u : ℕ) : Type 0 where
  pub start : List Look
  pub chain : List Look
  pub earlier : HasGrown before start
  pub ended : EndedAt s u chain
  pub later : HasGrown (chain ++ start) after
