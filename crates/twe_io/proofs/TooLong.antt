-- An answer that is not `TooLong`, where fewer bytes were given.
use Rattle.std.proofs.Common.{◌≡◌, ◌↔◌, ℕ, ◌+◌, List, [], ◌++◌, Option, None, Some, IfSome, Result, Ok, Err, IsErrOf, IsErrAnd, length, ap, sym, ◌∙◌, arith, length-append}
use Rattle.std.proofs.KnownBytes.{Consumes-nil}
use Rattle.twe_io.specs.declared.whole.ReadFail.{ReadFail}
use Rattle.twe_io.specs.declared.whole.ReadFail.TheVariants.{TooLong}
use Rattle.twe_io.specs.Told.{Gives}
use Rattle.twe_io.specs.inner.Filling.{GivesLess}

-- a source that gave fewer bytes didn't give that many
GivesLess-not-Gives : (before after : Option (List ℕ)) (n : ℕ) → GivesLess before after n → IfSome before (λ _. Gives before after n → ⊥)
GivesLess-not-Gives None after n less = tt
GivesLess-not-Gives (Some x) None n less = absurd less.1
GivesLess-not-Gives (Some x) (Some y) n (given, split, fewer) = λ (other, split', many).
    let same : length (given ++ y) ≡ length (other ++ y) = ap length (sym split ∙ split') in
    omega (arith, same, length-append given y, length-append other y, fewer, many)

-- no byte is fewer than one byte
pub GivesLess-none : (told : Option (List ℕ)) (n : ℕ) → GivesLess told told (n + 1)
GivesLess-none told n = ([], Consumes-nil told, omega arith)

pub too_long-not : {T : Type 0} (answer : Result T ReadFail) (before after : Option (List ℕ)) (n : ℕ) → (IsErrOf answer TooLong → ⊥)
    → GivesLess before after n → IfSome before (λ _. IsErrOf answer TooLong ↔ Gives before after n)
too_long-not answer None after n other less = tt
too_long-not answer (Some x) after n other less =
    let never : Gives (Some x) after n → ⊥ = GivesLess-not-Gives (Some x) after n less in
    ((λ e. absurd (other e)), (λ gives. absurd (never gives)))

-- what the answer is where its error is known
pub answer_is : {T : Type 0} (answer : Result T ReadFail) (fail : ReadFail) → IsErrAnd answer (λ e. e ≡ fail) → answer ≡ Err fail
answer_is (Ok t) fail known = absurd known
answer_is (Err e) fail known = ap Err known
