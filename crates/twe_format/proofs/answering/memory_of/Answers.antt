use Rattle.std.proofs.Common.{◌≡◌, ℕ, ◌⊎◌, inl, inr, sym, ◌∙◌}
use Rattle.twe_base.specs.declared.memory.Memory.{Memory}
use Rattle.twe_lexer.specs.declared.lexeme.LexemeFail.{LexemeFail}
use Rattle.twe_lexer.specs.declared.lexeme.LexemeFail.TheVariants as fails
use Rattle.layout_laws.proofs.Stopping.{only_memory}
use Rattle.twe_format.proofs.answering.memory_of.Goals as goal

neither : (fail : LexemeFail) (memory : Memory) → fail ≡ fails.OutOfMemory memory → ((at : ℕ) × (fail ≡ fails.NotAllowed at)) ⊎ (fail ≡ fails.Unclosed) → ⊥
neither fail memory is (inl (at, other)) = let clash : fails.OutOfMemory memory ≡ fails.NotAllowed at = sym is ∙ other in cc
neither fail memory is (inr other) = let clash : fails.OutOfMemory memory ≡ fails.Unclosed = sym is ∙ other in cc

-- a text that fails no rule has no byte that is not allowed and no comment without an end
pub unreachable-requires : goal.unreachable-requires
unreachable-requires c =
    let found = only_memory c.args.text.now c.args.fail c.requires.keeps c.requires.stops in neither c.args.fail found.0 found.1 c.in-NotAllowed.is
