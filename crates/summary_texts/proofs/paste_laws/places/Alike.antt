-- Of two trees, or programs, that are equal except for places, one fails a rule if the other does.
use Rattle.std.proofs.Common.{◌≡◌, sym, ap, ◌∙◌}
use Rattle.twe_base.specs.declared.place.Place.{Place}
use Rattle.twe_ast.specs.declared.item.Ast.{Ast}
use Rattle.name_check.specs.declared.rule.NRule.{NRule}
use Rattle.name_check.specs.FailsName.{FailsName}
use Rattle.twe_names.specs.Meaning.{program_of}
use Rattle.twe_program.specs.Program.{Program}
use Rattle.effect_check.specs.declared.rule.ERule.{ERule}
use Rattle.effect_check.specs.FailsEffect.{FailsEffect}
use Rattle.ast_printer.specs.BareExpression.{nowhere}
use Rattle.ast_printer.specs.BareItem.{EqualButForPlaces}
use Rattle.moved_places.specs.MovedProgram.{moved_program}
use Rattle.moved_places.specs.MovedTree.{moved_tree}
use Rattle.moved_places.proofs.Meanings.{moved-means}
use Rattle.moved_places.proofs.NameRules as moved_names
use Rattle.moved_places.proofs.Rules as moved_rules
use Rattle.summary_texts.specs.paste_laws.places.Places.{bare_program}
use Rattle.summary_texts.proofs.paste_laws.places.BareTrees.{away, items-bare}
use Rattle.summary_texts.proofs.paste_laws.places.BarePrograms.{program-bare}

-- such trees become equal when all places become one
trees-moved : (one other : Ast) → EqualButForPlaces one other → moved_tree away one ≡ moved_tree away other
trees-moved one other same = λ i. record { items = (items-bare one.items ∙ same ∙ sym (items-bare other.items)) i; end = nowhere }

pub names-alike : (one other : Ast) → EqualButForPlaces one other → (rule : NRule) (place : Place) → FailsName one rule place
    → (at : Place) × FailsName other rule at
names-alike one other same rule place fails =
    let found = moved_names.names-alike away away one other (trees-moved one other same) rule place fails in (found.0, found.1)

-- the programs that they mean are equal except for places
pub meanings-alike : (one other : Ast) → EqualButForPlaces one other → bare_program (program_of one) ≡ bare_program (program_of other)
meanings-alike one other same =
    sym (moved-means away one ∙ program-bare (program_of one)) ∙ ap program_of (trees-moved one other same) ∙ moved-means away other
    ∙ program-bare (program_of other)

pub fails-alike : (p q : Program) → bare_program p ≡ bare_program q → (rule : ERule) (place : Place) → FailsEffect p rule place
    → (at : Place) × FailsEffect q rule at
fails-alike p q same rule place fails =
    let moved : moved_program away p ≡ moved_program away q = program-bare p ∙ same ∙ sym (program-bare q) in
    let found = moved_rules.fails-alike away away p q moved rule place fails in (found.0, found.1)
