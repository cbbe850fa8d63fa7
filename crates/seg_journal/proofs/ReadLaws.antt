-- What the answer of a reader of journals says, from what it is spelled so and which bad line it names.
use Rattle.std.proofs.Common.{◌≡◌, ◌⊎◌, ℕ, List, Option, Result, Ok, Err, IfOk, IsErrOf, IsErrAnd, MatchResult, ap, ◌∙◌, sym, refl, inl, inr}
use Rattle.twe_base.specs.Limits.{Bounds}
use Rattle.seg_journal.specs.declared.moves.Move.{Move}
use Rattle.seg_journal.specs.declared.text.JournalText.{JournalText}
use Rattle.seg_journal.specs.declared.text.JournalFail.{JournalFail}
use Rattle.seg_journal.specs.declared.text.JournalFail.TheVariants.{BadLine, OutOfMemory}
use Rattle.seg_journal.specs.Fail.{IsOutOfMemory}
use Rattle.seg_journal.specs.Spelling.{Spells}
use Rattle.seg_journal.specs.Lines.{IsFirstBadLine}
use Rattle.seg_journal.proofs.BadLines.{none_bad, one_first_bad}
use Rattle.seg_journal.proofs.OneSpelling.{one_journal}

-- what is spelled is read, unless memory runs out
pub reads_spelled : (text : List ℕ) (answer : Result JournalText JournalFail) → IfOk answer (λ found. Spells text found.head found.moves)
    → ((n : ℕ) → IsErrOf answer (BadLine n) → IsFirstBadLine text n) → (head : Option Bounds) (moves : List Move) → Spells text head moves
    → MatchResult answer (λ found. (found.head ≡ head) × (found.moves ≡ moves)) IsOutOfMemory
reads_spelled text (Ok found) spelled bad head moves spells = one_journal found.head head found.moves moves text spelled spells
reads_spelled text (Err (BadLine n)) spelled bad head moves spells = absurd (none_bad text head moves n spells (bad n refl))
reads_spelled text (Err (OutOfMemory memory)) spelled bad head moves spells = tt

-- the first bad line is named, unless memory runs out
pub names_first : (text : List ℕ) (answer : Result JournalText JournalFail) → IfOk answer (λ found. Spells text found.head found.moves)
    → ((n : ℕ) → IsErrOf answer (BadLine n) → IsFirstBadLine text n) → (n : ℕ) → IsFirstBadLine text n
    → MatchResult answer (λ _. ⊥) (λ fail. (fail ≡ BadLine n) ⊎ IsOutOfMemory fail)
names_first text (Ok found) spelled bad n first = absurd (none_bad text found.head found.moves n spelled first)
names_first text (Err (BadLine m)) spelled bad n first = inl (ap (λ (k : ℕ). BadLine k) (one_first_bad text m n (bad m refl) first))
names_first text (Err (OutOfMemory memory)) spelled bad n first = inr tt

-- an error that is passed on stays the same
pub passed_on : {T : Type 0} (answer : Result T JournalFail) (fail other : JournalFail) → IsErrAnd answer (λ e. e ≡ fail) → IsErrOf answer other → fail ≡ other
passed_on (Ok x) fail other known e = absurd known
passed_on (Err x) fail other known e = let same : x ≡ other = cc in sym known ∙ same
