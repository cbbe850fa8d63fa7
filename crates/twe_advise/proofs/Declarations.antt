-- A text that breaks a rule of the text has no declarations.
use Rattle.std.proofs.Common.{ℕ, List, []}
use Rattle.twe_base.specs.declared.place.Place.{Place}
use Rattle.twe_frontend.specs.Reads.{IsTextFailure}
use Rattle.twe_frontend.specs.declared.refusal.RuleName.{RuleName}
use Rattle.twe_frontend.specs.declared.refusal.RuleName.TheVariants.{Text, Name, Effect}
use Rattle.twe_advise.specs.Parameters.{AreDeclarations}

pub refused_has_none : (text : List ℕ) (rule : RuleName) (place : Place) → IsTextFailure text rule place → AreDeclarations text []
refused_has_none text (Text rule) place fails = AreDeclarations.of_none rule place fails
refused_has_none text (Name rule) place fails = absurd fails
refused_has_none text (Effect rule) place fails = absurd fails
