use Rattle.std.proofs.Common.{ℕ, refl, subst}
use Rattle.twe_program.specs.Program.{Program}
use Rattle.twe_names.specs.Meaning.{program_of}
use Rattle.load_text.specs.Text.{load_text_of}
use Rattle.load_text.specs.accepted.Sum.{BeginsWithSum}
use Rattle.load_text.proofs.accepted.Read.{read_tree}
use Rattle.load_text.proofs.accepted.Whole.{text_accepted}
use Rattle.load_text.proofs.accepted.load_texts_are_accepted.Goals as goal

its_sum : (n : ℕ) → BeginsWithSum (program_of (read_tree n))
its_sum n = record { cell = _; first = refl; named = refl; number = refl; scalar = refl }

pub returns : goal.returns
returns c = record {
  accepted = λ n most. (program_of (read_tree n), text_accepted n most);
  never_refused = λ n most refusal.
      c.refused_or_accepted.ensures.never_both (load_text_of n) (program_of (read_tree n)) refusal (text_accepted n most);
  sum = λ n p most accepted.
      subst (λ (q : Program). BeginsWithSum q)
      (c.one_program.ensures (load_text_of n) (program_of (read_tree n)) p (text_accepted n most) accepted) (its_sum n);
}
