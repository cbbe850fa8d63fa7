-- What places have to do with whether a text is accepted: nothing.
use Rattle.std.proofs.Common.{ℕ, List, refl, sym, ap, ◌∙◌}
use Rattle.twe_base.specs.declared.place.Place.{Place}
use Rattle.twe_ast.specs.declared.item.Ast.{Ast}
use Rattle.name_check.specs.declared.rule.NRule.{NRule}
use Rattle.name_check.specs.FailsName.{FailsName}
use Rattle.twe_program.specs.Program.{Program}
use Rattle.twe_names.specs.Meaning.{program_of}
use Rattle.twe_frontend.specs.Accepted.{IsTreeOf, IsMeaningOf, Accepted}
use Rattle.ast_printer.specs.BareItem.{EqualButForPlaces}
use Rattle.ast_printer.specs.ItemTokens.{printed_tokens}
use Rattle.ast_printer.proofs.ParsedAgain.{parses_again}
use Rattle.summary_texts.specs.paste_laws.places.Places as programs
use Rattle.summary_texts.proofs.paste_laws.places.Alike.{names-alike, meanings-alike, fails-alike}

-- a text means a program, if its tree is equal except for places to one that does
pub meant-alike : (tree its : Ast) (other : List ℕ) → EqualButForPlaces tree its → IsTreeOf other its
    → ((rule : NRule) (place : Place) → ¬ FailsName tree rule place)
    → (q : Program) × IsMeaningOf other q × programs.SameButPlaces (program_of tree) q
meant-alike tree its other same again keeps = (
  program_of its,
  record {
    tree = its;
    parsed = again;
    keeps = λ rule place fails. let was = names-alike its tree (sym same) rule place fails in keeps rule was.0 was.1;
    meaning = refl;
  },
  meanings-alike tree its same,
)

pub accepted-alike : (text other : List ℕ) (p : Program) (its : Ast) (accepted : Accepted text p) → IsTreeOf other its → EqualButForPlaces accepted.meant.tree its
    → (q : Program) × Accepted other q × programs.SameButPlaces p q
accepted-alike text other p its accepted again same =
    let moved = meant-alike accepted.meant.tree its other same again accepted.meant.keeps in
    let alike : programs.SameButPlaces p moved.0 = ap programs.bare_program accepted.meant.meaning ∙ moved.2 in (
      moved.0,
      record {
        meant = moved.1;
        keeps = λ rule place fails. let was = fails-alike moved.0 p (sym alike) rule place fails in accepted.keeps rule was.0 was.1;
      },
      alike,
    )

-- the printed text has such a tree
tree-again : (text : List ℕ) (tree : Ast) → IsTreeOf text tree → (again : Ast) × IsTreeOf (printed_tokens tree) again × EqualButForPlaces tree again
tree-again text tree parsed =
    let found = parses_again text tree (record { tokens = parsed.tokens; cut = parsed.cut; writes = parsed.writes; accepted = parsed.keeps }) in (
      found.again,
      record { tokens = found.parsed.tokens; cut = found.parsed.cut; writes = found.parsed.writes; end = found.end; keeps = found.parsed.accepted },
      sym found.same,
    )

pub printed-accepted : (text : List ℕ) (p : Program) (accepted : Accepted text p) → (q : Program) × Accepted (printed_tokens accepted.meant.tree) q × programs.SameButPlaces p q
printed-accepted text p accepted =
    let again = tree-again text accepted.meant.tree accepted.meant.parsed in
    accepted-alike text (printed_tokens accepted.meant.tree) p again.0 accepted again.1 again.2
