-- The tests on lists of elements as the chains over the pairs of their elements say them.
use Rattle.std.proofs.Common.{◌≡◌, ℕ, suc, Bool, true, false, leb, ◌&&◌, List, [], ◌∷◌, length, zip, refl, sym, ap, ◌∙◌, arith, le-leb}
use Rattle.std.specs.List.{list_all}
use Rattle.std.proofs.lemmas.List.{length-reverse}
use Rattle.std.proofs.lemmas.Bool.{lt-leb}
use Rattle.std.proofs.lemmas.Bool.Decides.{nat_tests}
use Rattle.region_paths.specs.declared.elements.Elem.{Elem}
use Rattle.region_paths.specs.Inside.{within, starts_within}

-- each pair of elements is within
abbrev pub pairs_within : List Elem → List Elem → Bool
pairs_within xs ys = list_all (λ p. within p.0 p.1) (zip xs ys)

swap_tests : (b c d : Bool) → (b && (c && d)) ≡ (c && (b && d))
swap_tests true c d = refl
swap_tests false true d = refl
swap_tests false false d = refl

leb-suc : (m n : ℕ) → leb (suc m) (suc n) ≡ leb m n
leb-suc m n = grind (arith, nat_tests)

pub starts_within-pairs : (xs ys : List Elem) → starts_within xs ys ≡ (leb (length ys) (length xs) && pairs_within xs ys)
starts_within-pairs [] [] = refl
starts_within-pairs (x ∷ xs) [] = ap (λ b. b && true) (sym (le-leb 0 (suc (length xs)) (omega arith)))
starts_within-pairs [] (y ∷ ys) = ap (λ b. b && true) (sym (lt-leb (suc (length ys)) 0 (omega arith)))
starts_within-pairs (x ∷ xs) (y ∷ ys) =
    ap (λ b. within x y && b) (starts_within-pairs xs ys)
    ∙ swap_tests (within x y) (leb (length ys) (length xs)) (pairs_within xs ys)
    ∙ ap (λ b. b && (within x y && pairs_within xs ys)) (sym (leb-suc (length ys) (length xs)))

-- what the chains over pairs say, for the goals of the functions that call them
pub ruleset by_pairs = (starts_within-pairs, length-reverse)
