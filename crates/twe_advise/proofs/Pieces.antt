-- Texts that were written piece by piece.
use Rattle.std.proofs.Common.{◌≡◌, ◌++◌, ℕ, List, ap, ◌∙◌, append_assoc}

pub two_pieces : (old a b first last : List ℕ) → first ≡ old ++ a → last ≡ first ++ b → last ≡ old ++ (a ++ b)
two_pieces old a b first last is_first is_last = is_last ∙ (ap (λ (l : List ℕ). l ++ b) is_first ∙ append_assoc old a b)

pub three_left : (old a b c first second last : List ℕ) → first ≡ old ++ a → second ≡ first ++ b → last ≡ second ++ c → last ≡ old ++ ((a ++ b) ++ c)
three_left old a b c first second last is_first is_second is_last = two_pieces old (a ++ b) c second last (two_pieces old a b first second is_first is_second) is_last

pub three_right : (old a b c first second last : List ℕ) → first ≡ old ++ a → second ≡ first ++ b → last ≡ second ++ c → last ≡ old ++ (a ++ (b ++ c))
three_right old a b c first second last is_first is_second is_last =
    two_pieces old a (b ++ c) first last is_first (two_pieces first b c second last is_second is_last)

pub four_right : (old a b c d first second third last : List ℕ) → first ≡ old ++ a → second ≡ first ++ b → third ≡ second ++ c → last ≡ third ++ d → last ≡ old ++ (a ++ (b ++ (c ++ d)))
four_right old a b c d first second third last is_first is_second is_third is_last =
    two_pieces old a (b ++ (c ++ d)) first last is_first (three_right first b c d second third last is_second is_third is_last)

pub four_pieces : (old a b c d first second third last : List ℕ) → first ≡ old ++ a → second ≡ first ++ b → third ≡ second ++ c → last ≡ third ++ d → last ≡ old ++ ((a ++ b) ++ (c ++ d))
four_pieces old a b c d first second third last is_first is_second is_third is_last =
    two_pieces old (a ++ b) (c ++ d) second last (two_pieces old a b first second is_first is_second) (two_pieces second c d third last is_third is_last)

pub four_left : (old a b c d first second third last : List ℕ) → first ≡ old ++ a → second ≡ first ++ b → third ≡ second ++ c → last ≡ third ++ d → last ≡ old ++ (((a ++ b) ++ c) ++ d)
four_left old a b c d first second third last is_first is_second is_third is_last =
    two_pieces old ((a ++ b) ++ c) d third last (two_pieces old (a ++ b) c second third (two_pieces old a b first second is_first is_second) is_third) is_last

-- five pieces, of which two and two belong together
pub five_pieces : (old a b c d e first second third fourth last : List ℕ) → first ≡ old ++ a → second ≡ first ++ b → third ≡ second ++ c → fourth ≡ third ++ d → last ≡ fourth ++ e
    → last ≡ old ++ ((a ++ b) ++ ((c ++ d) ++ e))
five_pieces old a b c d e first second third fourth last is_first is_second is_third is_fourth is_last =
    let flat : ((((old ++ a) ++ b) ++ c) ++ d) ++ e ≡ old ++ ((a ++ b) ++ ((c ++ d) ++ e)) = simp append_assoc in
    is_last
    ∙ (ap (λ (l : List ℕ). l ++ e)
    (is_fourth ∙ ap (λ (l : List ℕ). l ++ d) (is_third ∙ ap (λ (l : List ℕ). l ++ c) (is_second ∙ ap (λ (l : List ℕ). l ++ b) is_first)))
    ∙ flat)
