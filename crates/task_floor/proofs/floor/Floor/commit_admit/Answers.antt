use Rattle.std.proofs.Common.{ℕ, ℤ, List, ap, ◌∙◌}
use Rattle.seg_journal.specs.declared.journal.End.TheVariants.{Admitted}
use Rattle.seg_journal.specs.declared.moves.Kind.TheVariants.{Admit}
use Rattle.seg_journal.specs.declared.numbered.NumberedEntry.{NumberedEntry}
use Rattle.task_floor.specs.steps.Committing.{with_entry}
use Rattle.task_floor.proofs.floor.Floor.commit_admit.Goals as goal

pub draw_admission-clock-requires-clause-may : goal.draw_admission-clock-requires-clause-may
draw_admission-clock-requires-clause-may g c = let may = c.requires.may in (c.args.task, may.0, may.1)

pub returns-clause-admitted : goal.returns-clause-admitted
returns-clause-admitted g c turn may =
    let clock = c.draw_admission-clock.result in
    let entry : (n : ℕ) → List ℤ → NumberedEntry = λ n prints. record { number = n; entry = record { mv = record { kind = Admit; task = c.args.task }; end = Admitted }; prints = prints } in
    record {
      clock = clock;
      number_is = c.entries_of-number.ensures;
      seat = c.draw_admission-clock.ensures.drew c.args.task turn may;
      log = c.push_within.ensures ∙ ap (λ (e : NumberedEntry). with_entry e c.args.log.now) (λ k. entry (c.entries_of-number.ensures k) (c.new-prints.ensures k));
    }
