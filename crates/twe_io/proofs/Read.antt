-- From what a call of `read_all` ensures to how the source was read.
use Rattle.std.proofs.Common.{◌≡◌, ◌↔◌, ◌+◌, ◌≤◌, ℕ, List, length, Option, None, Some, Result, Ok, Err, IfOk, OnOk, IfSome, IsErrOf, refl}
use Rattle.std.specs.Io.KnownBytes.{IsAtEnd}
use Rattle.twe_io.specs.Faults.{Rose}
use Rattle.twe_io.specs.Told.{Gives}
use Rattle.twe_io.specs.Runs.{ReadsWhole}
use Rattle.twe_io.specs.declared.whole.ReadFail.{ReadFail}
use Rattle.twe_io.specs.declared.whole.ReadFail.TheVariants.{ReadFault, TooLong, OutOfMemory}
use Rattle.twe_base.specs.Language.{max_text_bytes}
use Rattle.twe_io.specs.Ends.{SourceTells, WasRead}

some_weaker : {A : Type 0} (P Q : Type 0) (o : Option A) → (P → Q) → IfSome o (λ _. P) → IfSome o (λ _. Q)
some_weaker P Q None f h = tt
some_weaker P Q (Some x) f h = f h

pub was_read : {S : Type 0} (tells : SourceTells S) (before after : S) (result : Result (List ℕ) ReadFail)
    → IfOk result (λ text. IfSome (tells.left before) (λ left. text ≡ left)) → OnOk result (IsAtEnd (tells.left after)) → IfOk result (λ text. length text ≤ max_text_bytes)
    → (IsErrOf result ReadFault → Rose (tells.faults before) (tells.faults after))
    → IfSome (tells.left before) (λ _. IsErrOf result TooLong ↔ Gives (tells.left before) (tells.left after) (max_text_bytes + 1))
    → ReadsWhole tells.gives max_text_bytes before result after → WasRead tells before result after
was_read tells before after (Ok text) whole ended short fault too_long reads = record { reads = reads; told = (whole, ended, short) }
was_read tells before after (Err ReadFault) whole ended short fault too_long reads = record { reads = reads; told = fault refl }
was_read tells before after (Err TooLong) whole ended short fault too_long reads = record {
  reads = reads;
  told = some_weaker _ _ (tells.left before) (λ iff. iff.0 refl) too_long;
}
was_read tells before after (Err (OutOfMemory memory)) whole ended short fault too_long reads = record { reads = reads; told = tt }
