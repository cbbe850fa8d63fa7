-- A run at rest goes on from what it was.
use Rattle.std.proofs.Common.{◌≡◌, ◌≤◌, ◌+◌, ◌++◌, List, refl, [], ◌∷◌, length, length-append, ap, sym, ◌∙◌, subst, arith}
use Rattle.std.proofs.lemmas.List.{append-nil}
use mathlib.Core.List.{IsPrefix}
use Rattle.seg_journal.specs.declared.journal.Entry.{Entry}
use Rattle.twe_base.specs.Limits.{Bounds}
use Rattle.twe_program.specs.Program.{Program}
use Rattle.machine_state.specs.Runs.{state_after}
use Rattle.twe_rounds.proofs.Beginnings.{prefix_self, prefix_trans}
use Rattle.floor_crew.specs.declared.at_rest.RunAtRest.{RunAtRest}
use Rattle.floor_crew.specs.inner.GoingOn.{HasGoneOn, IsSound}

no_more : (xs rest : List Entry) → length (xs ++ rest) ≤ length xs → rest ≡ []
no_more xs [] short = refl
no_more xs (entry ∷ rest) short = let whole = length-append xs (entry ∷ rest) in absurd (omega (arith, whole, short))

-- what begins with a list and is no longer is that list
no_longer : (xs ys : List Entry) → IsPrefix xs ys → length ys ≤ length xs → xs ≡ ys
no_longer xs ys begins short =
    sym (append-nil xs) ∙ (ap (λ (rest : List Entry). xs ++ rest) (sym (no_more xs begins.0 (subst (λ (l : List Entry). length l ≤ length xs) (sym begins.1) short))) ∙ begins.1)

-- what begins with a list is no shorter
pub prefix_length : (xs ys : List Entry) → IsPrefix xs ys → length xs ≤ length ys
prefix_length xs ys begins =
    let whole : length (xs ++ begins.0) ≡ length xs + length begins.0 = length-append xs begins.0 in
    let is : length (xs ++ begins.0) ≡ length ys = ap length begins.1 in
    omega (arith, whole, is)

module _ (p : Program) (lim : Bounds) where
  -- each run goes on from itself
  pub still_there : (run : RunAtRest) → IsSound p lim run → HasGoneOn p lim run.rest.journal run
  still_there run sound = record { sound = sound; begins = prefix_self run.rest.journal }

  -- a run that has gone on twice has gone on
  pub gone_on : (earlier : List Entry) (mid new : RunAtRest) → HasGoneOn p lim earlier mid → HasGoneOn p lim mid.rest.journal new → HasGoneOn p lim earlier new
  gone_on earlier mid new first second =
      record { sound = second.sound; begins = prefix_trans earlier mid.rest.journal new.rest.journal first.begins second.begins }

  -- the same journal leads to the same state
  pub same_state : (run after : RunAtRest) → IsSound p lim run → IsSound p lim after → run.rest.journal ≡ after.rest.journal → run.rest.state ≡ after.rest.state
  same_state run after old new same = old.run_is.same ∙ (ap (state_after p lim) same ∙ sym new.run_is.same)

  -- if the journal of a run that has gone on is no longer, it stands still
  pub stands_still : (run after : RunAtRest) → IsSound p lim run → HasGoneOn p lim run.rest.journal after → length after.rest.journal ≤ length run.rest.journal → run.rest.state ≡ after.rest.state
  stands_still run after old gone short = same_state run after old gone.sound (no_longer run.rest.journal after.rest.journal gone.begins short)
