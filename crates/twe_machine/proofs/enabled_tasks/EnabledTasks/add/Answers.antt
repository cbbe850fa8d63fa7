-- The effect was entered among the writes or among the reads.
use Rattle.std.proofs.Common.{List, sym, ◌∙◌, subst}
use Rattle.std.specs.Prelude.{take_while}
use Rattle.std.proofs.lemmas.Bool.{false≢true}
use Rattle.region_paths.specs.declared.elements.Elem.{Elem}
use Rattle.region_paths.specs.Filled.{is_solid, solid_prefix}
use Rattle.twe_machine.specs.Books.{IsPlacedIn}
use Rattle.twe_machine.proofs.enabled_tasks.EnabledTasks.add.Goals as goal

pub returns-then-effect-clause-added : goal.returns-then-effect-clause-added
returns-then-effect-clause-added c =
    let is = c.as_slice-elems.ensures ∙ c.elems.ensures.part in
    record {
      reads = λ read. absurd (false≢true (sym read ∙ c.if-effect.true));
      writes = λ write. subst (λ (xs : List Elem). IsPlacedIn c.add.new.self c.args.t (take_while is_solid xs)) is c.in_ok-add.ensures.added;
    }

pub returns-then-effect-clause-kept : goal.returns-then-effect-clause-kept
returns-then-effect-clause-kept c = λ s e has entered. record {
  reads = entered.reads;
  writes = λ write. c.in_ok-add.ensures.kept s (solid_prefix e.path) has (entered.writes write);
}

pub returns-clause-added : goal.returns-clause-added
returns-clause-added c =
    let is = c.as_slice-elems.ensures ∙ c.elems.ensures.part in
    record {
      reads = λ read. subst (λ (xs : List Elem). IsPlacedIn c.add-2.new.self c.args.t (take_while is_solid xs)) is c.in_ok-add-2.ensures.added;
      writes = λ write. absurd (false≢true (sym c.if-effect.false ∙ write));
    }

pub returns-clause-kept : goal.returns-clause-kept
returns-clause-kept c = λ s e has entered. record {
  reads = λ read. c.in_ok-add-2.ensures.kept s (solid_prefix e.path) has (entered.reads read);
  writes = entered.writes;
}
