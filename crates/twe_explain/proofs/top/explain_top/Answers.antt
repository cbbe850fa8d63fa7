use Rattle.std.proofs.Common.{sym, refl, ◌∙◌}
use Rattle.twe_io.specs.Answers.{IsAnswered}
use Rattle.twe_explain.proofs.top.explain_top.Goals as goal

-- the words ask for no text by themselves
pub tell_of_text-requires : goal.tell_of_text-requires
tell_of_text-requires g c = sym c.in-Ok-None.ensures ∙ c.in-Ok-None.field-0-is

-- they ask for this one
pub tell_alone-requires : goal.tell_alone-requires
tell_alone-requires g c = sym c.in-Ok-Some.ensures ∙ c.in-Ok-Some.field-0-is

-- memory ran out
pub returns-in-Err : goal.returns-in-Err
returns-in-Err g c = IsAnswered.out_of_memory refl refl
