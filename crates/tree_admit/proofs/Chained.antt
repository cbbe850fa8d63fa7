-- Chains of waits that a seat followed by its looks.
use Rattle.std.proofs.Common.{◌≡◌, ◌≢◌, ◌<◌, ◌++◌, ℕ, List, ◌∷◌, refl, ap, sym, ◌∙◌}
use Rattle.twe_base.specs.Limits.{Bounds}
use Rattle.floor_laws.specs.declared.rule.view.Phase.{Phase}
use Rattle.floor_laws.specs.declared.rule.view.Phase.TheVariants.{Waits}
use Rattle.floor_laws.specs.table.Layout.{word_of_phase}
use Rattle.floor_laws.specs.declared.table.nodes.view.Look.{Look}
use Rattle.floor_laws.specs.declared.table.nodes.view.Look.TheVariants.{AtPhase}
use Rattle.floor_laws.specs.table.nodes.Chains.{CameTo, HasFollowedTo, goes_on}
use Rattle.floor_laws.specs.table.nodes.Follows.{FollowedPhase}
use Rattle.floor_laws.specs.table.nodes.Seats.{TreeSeat}
use Rattle.floor_laws.proofs.table.Added.{grown_is, grown_same}
use Rattle.floor_laws.proofs.table.Steps.{phase_again}
use Rattle.task_floor.proofs.Looking.{latest_look}

module _ (lim : Bounds) (old : List Look) (before after : TreeSeat) (s u : ℕ) where
  -- one look more is in front of those since the start
  one_look : (found : ℕ) (looks : List Look) → before.0.looks ≡ looks ++ old → FollowedPhase lim before u found after → after.0.looks ≡ AtPhase u found ∷ (looks ++ old)
  one_look found looks so_far follows = latest_look lim before after u found follows ∙ ap (λ (l : List Look). AtPhase u found ∷ l) so_far

  -- the chain goes on to the task that u waits for, which is one of the run
  pub chain_longer : (on : ℕ) (looks : List Look) → before.0.looks ≡ looks ++ old → CameTo s u looks → FollowedPhase lim before u (word_of_phase (Waits on)) after
      → (more : List Look) × (after.0.looks ≡ more ++ old) × CameTo s on more × (on < lim.tasks)
  chain_longer on looks so_far came follows = (
    AtPhase u (word_of_phase (Waits on)) ∷ looks,
    one_look (word_of_phase (Waits on)) looks so_far follows,
    goes_on came refl,
    (follows.2 on refl).1,
  )

  -- it ended
  pub chain_ended : (phase : Phase) (looks : List Look) → before.0.looks ≡ looks ++ old → CameTo s u looks → FollowedPhase lim before u (word_of_phase phase) after
      → ((w : ℕ) → phase ≢ Waits w) → HasFollowedTo old after.0.looks s u
  chain_ended phase looks so_far came follows other = record {
    start = old;
    chain = AtPhase u (word_of_phase phase) ∷ looks;
    earlier = grown_same old;
    ended = record {
      before = looks;
      found = word_of_phase phase;
      last = refl;
      came = came;
      no_wait = λ w is. other w (sym (phase_again phase) ∙ is);
    };
    later = grown_is (AtPhase u (word_of_phase phase) ∷ (looks ++ old)) after.0.looks (one_look (word_of_phase phase) looks so_far follows);
  }
