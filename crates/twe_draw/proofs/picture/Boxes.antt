-- A box with something inside, as it is written part by part.
use Rattle.std.proofs.Common.{◌≡◌, ◌++◌, ℕ, List, [], ◌∷◌, refl, sym, ap, ◌∙◌, append_assoc}
use Rattle.std.specs.Prelude.{codes}
use Rattle.twe_draw.specs.picture.Elements.{Attribute, after_attributes, attribute_text, closing_tag}
use Rattle.twe_draw.specs.picture.Shapes.{box_around, box_attributes}

-- what stands after attributes, in two parts
pub after_two : (attributes : List Attribute) (first second : List ℕ)
    → after_attributes attributes (first ++ second) ≡ after_attributes attributes first ++ second
after_two [] first second = refl
after_two (attribute ∷ attributes) first second =
    ap (λ (l : List ℕ). attribute_text attribute ++ l) (after_two attributes first second)
    ∙ sym (append_assoc (attribute_text attribute) (after_attributes attributes first) second)

six_in_a_row : (a b c d e f : List ℕ) → ((((a ++ b) ++ c) ++ d) ++ e) ++ f ≡ a ++ (b ++ (c ++ (d ++ (e ++ f))))
six_in_a_row a b c d e f = simp append_assoc

five_in_a_row : (a b c d e : List ℕ) → (a ++ (b ++ (c ++ d))) ++ e ≡ a ++ (b ++ (c ++ (d ++ e)))
five_in_a_row a b c d e = simp append_assoc

-- the box, with its attributes as they were written
in_parts : (old attributes inside : List ℕ)
    → ((((old ++ codes "<rect") ++ attributes) ++ codes ">") ++ inside) ++ codes "</rect>\n"
    ≡ old ++ (codes "<rect" ++ ((attributes ++ (codes ">" ++ (inside ++ closing_tag (codes "rect")))) ++ codes "\n"))
in_parts old attributes inside =
    six_in_a_row old (codes "<rect") attributes (codes ">") inside (codes "</rect>\n")
    ∙ ap (λ (l : List ℕ). old ++ (codes "<rect" ++ l))
    (sym (five_in_a_row attributes (codes ">") inside (closing_tag (codes "rect")) (codes "\n")))

pub around_in_parts : (class inside old opened placed begun filled new : List ℕ) (left top width : ℕ)
    → opened ≡ old ++ codes "<rect" → placed ≡ opened ++ after_attributes (box_attributes class left top width) []
    → begun ≡ placed ++ codes ">" → filled ≡ begun ++ inside → new ≡ filled ++ codes "</rect>\n"
    → new ≡ old ++ box_around class left top width inside
unfolding box_around
around_in_parts class inside old opened placed begun filled new left top width opens places begins fills closes =
    closes
    ∙ (ap (λ (l : List ℕ). l ++ codes "</rect>\n") (fills
    ∙ ap (λ (l : List ℕ). l ++ inside) (begins
    ∙ ap (λ (l : List ℕ). l ++ codes ">") (places
    ∙ ap (λ (l : List ℕ). l ++ after_attributes (box_attributes class left top width) []) opens)))
    ∙ (in_parts old (after_attributes (box_attributes class left top width) []) inside
    ∙ ap (λ (l : List ℕ). old ++ (codes "<rect" ++ (l ++ codes "\n")))
    (sym (after_two (box_attributes class left top width) [] (codes ">" ++ (inside ++ closing_tag (codes "rect")))))))
