-- The causes of the errors of `read_tree` and `read_program`.
use Rattle.std.specs.Prelude.{ℕ, List}
use Rattle.twe_base.specs.declared.place.Place.{Place}
use Rattle.twe_parser.specs.Fails.{IsSyntaxFailure}
use Rattle.twe_frontend.specs.declared.read.FrontFail.{FrontFail}
use Rattle.twe_frontend.specs.declared.read.FrontFail.TheVariants.{Refused, OutOfMemory}
use Rattle.twe_frontend.specs.declared.refusal.RuleName.{RuleName}
use Rattle.twe_frontend.specs.declared.refusal.RuleName.TheVariants.{Text, Name, Effect}
use Rattle.twe_frontend.specs.Accepted.{IsRefusal}

-- it is a rule of the text, and its failure at this place is the first one in the text
abbrev pub IsTextFailure : List ℕ → RuleName → Place → Type 0
IsTextFailure text (Text rule) place = IsSyntaxFailure text rule place
IsTextFailure text (Name rule) place = ⊥
IsTextFailure text (Effect rule) place = ⊥

-- the cause of an error where only the tree is read: a rule of the text fails; nothing is said of want of memory
abbrev pub TreeHasCause : List ℕ → FrontFail → Type 0
TreeHasCause text (Refused refusal) = IsTextFailure text refusal.rule refusal.place
TreeHasCause text (OutOfMemory memory) = Unit {0}

-- the cause of an error: the refusal of the text; nothing is said of want of memory
abbrev pub HasCause : List ℕ → FrontFail → Type 0
HasCause text (Refused refusal) = IsRefusal text refusal
HasCause text (OutOfMemory memory) = Unit {0}
