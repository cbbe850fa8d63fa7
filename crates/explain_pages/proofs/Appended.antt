-- Texts to which two or three pieces were appended.
use Rattle.std.proofs.Common.{◌≡◌, ◌++◌, ℕ, List, ap, ◌∙◌, append_assoc}

pub then_one : (text one other between after : List ℕ) → between ≡ text ++ one → after ≡ between ++ other → after ≡ text ++ (one ++ other)
then_one text one other between after first last = last ∙ (ap (λ (t : List ℕ). t ++ other) first ∙ append_assoc text one other)

pub then_two : (text one two three between later after : List ℕ) → between ≡ text ++ one → later ≡ between ++ two → after ≡ later ++ three
    → after ≡ text ++ (one ++ (two ++ three))
then_two text one two three between later after first second last =
    then_one text one (two ++ three) between after first (then_one between two three later after second last)
