-- One value or one row more is written.
use Rattle.std.proofs.Common.{◌≡◌, ◌+◌, ◌++◌, ℕ, suc, ℤ, List, ap, ◌∙◌, subst, append_assoc}
use Rattle.std.specs.Prelude.{codes}
use Rattle.twe_report.specs.Texts.{value_text, more_values, row_text, more_rows}

module _ (values : List ℤ) (left rest : ℕ) (one_less : left ≡ suc rest) (text next all : List ℕ) where
  pub value_written : (at : ℕ) → next ≡ (text ++ codes ", ") ++ value_text values at → text ++ more_values values at left ≡ all
      → next ++ more_values values (at + 1) rest ≡ all
  value_written at same before =
      ap (λ (t : List ℕ). t ++ more_values values (at + 1) rest) same
      ∙ (append_assoc (text ++ codes ", ") (value_text values at) (more_values values (at + 1) rest)
      ∙ (append_assoc text (codes ", ") (value_text values at ++ more_values values (at + 1) rest)
      ∙ subst (λ (n : ℕ). text ++ more_values values at n ≡ all) one_less before))

  pub row_written : (at columns : ℕ) → next ≡ (text ++ codes ", ") ++ row_text values at columns → text ++ more_rows values at left columns ≡ all
      → next ++ more_rows values (at + columns) rest columns ≡ all
  row_written at columns same before =
      ap (λ (t : List ℕ). t ++ more_rows values (at + columns) rest columns) same
      ∙ (append_assoc (text ++ codes ", ") (row_text values at columns) (more_rows values (at + columns) rest columns)
      ∙ (append_assoc text (codes ", ") (row_text values at columns ++ more_rows values (at + columns) rest columns)
      ∙ subst (λ (n : ℕ). text ++ more_rows values at n columns ≡ all) one_less before))
