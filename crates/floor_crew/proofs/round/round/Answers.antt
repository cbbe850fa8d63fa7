use Rattle.std.proofs.Common.{◌≡◌, ◌++◌, ◌∷◌, [], List, sym, ap, subst, ◌∙◌}
use Rattle.std.proofs.lemmas.Result.{IfOk-weaker}
use mathlib.Core.List.{IsPrefix}
use Rattle.seg_journal.specs.declared.numbered.NumberedEntry.{NumberedEntry}
use Rattle.task_floor.specs.declared.steps.rest.Rest.{Rest}
use Rattle.task_floor.specs.steps.Resting.{IsRestOf}
use Rattle.task_floor.specs.steps.Waking.{log_of}
use Rattle.floor_crew.proofs.FirstEntries.{rest_begins}
use Rattle.floor_crew.proofs.round.round.Goals as goal

-- the first part is the journal from before
pub returns-clause-begins : goal.returns-clause-begins
returns-clause-begins g c =
    let old = c.args.rest in
    let log = log_of old.journal old.state.prints in
    let parts = c.as_slice.result.now in
    let first : c.push.new.self ≡ log ∷ [] =
    c.in_ok-push.ensures.ok
    ∙ (ap (λ (l : List (List NumberedEntry)). l ++ c.in_ok-floor.part ∷ []) c.new-parts.ensures ∙ ap (λ (l : List NumberedEntry). l ∷ []) c.in_ok-floor.ensures.part) in
    let kept : IsPrefix (log ∷ []) parts =
    subst (λ (l : List (List NumberedEntry)). IsPrefix l parts) first (subst (IsPrefix c.push.new.self) (sym c.as_slice.ensures) c.in_ok-stand.ensures.kept) in
    IfOk-weaker c.rest.result (IsRestOf g.N.Named.prog g.N.Named.lim parts) (λ (after : Rest). IsPrefix old.journal after.journal)
    (λ after is. rest_begins g.N.Named.prog g.N.Named.lim old.journal old.state.prints parts after kept is) c.rest.ensures
