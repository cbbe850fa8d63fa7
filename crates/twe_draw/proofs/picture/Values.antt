-- What may stand in the value of an attribute: the digits of every number.
use Rattle.std.proofs.Common.{◌≡◌, ◌<◌, ◌++◌, ◌/◌, ◌%◌, ℕ, zero, suc, Bool, true, false, List, [], ◌∷◌, refl, ◌∙◌, arith}
use Rattle.std.specs.Prelude.{◌==◌, ◌&&◌, codes, decimal, if◌then◌else◌}
use Rattle.std.specs.Fmt.{digit_glyph, digits, digits_onto}
use Rattle.std.specs.List.{list_all}
use Rattle.std.proofs.lemmas.List.Folds.{list_all-append}
use Rattle.twe_draw.specs.picture.Markup.{is_value_byte}
use Rattle.twe_draw.specs.picture.Shapes.{row_path, upright_path}

-- both of two tests
pub both_pass : (a b : Bool) → a ≡ true → b ≡ true → (a && b) ≡ true
both_pass a b x y = λ i. x i && y i

glyph_is_value : (d : ℕ) → d < 10 → is_value_byte (digit_glyph false d) ≡ true
glyph_is_value zero h = refl
glyph_is_value (suc zero) h = refl
glyph_is_value (suc (suc zero)) h = refl
glyph_is_value (suc (suc (suc zero))) h = refl
glyph_is_value (suc (suc (suc (suc zero)))) h = refl
glyph_is_value (suc (suc (suc (suc (suc zero))))) h = refl
glyph_is_value (suc (suc (suc (suc (suc (suc zero)))))) h = refl
glyph_is_value (suc (suc (suc (suc (suc (suc (suc zero))))))) h = refl
glyph_is_value (suc (suc (suc (suc (suc (suc (suc (suc zero)))))))) h = refl
glyph_is_value (suc (suc (suc (suc (suc (suc (suc (suc (suc zero))))))))) h = refl
glyph_is_value (suc (suc (suc (suc (suc (suc (suc (suc (suc (suc d)))))))))) h = absurd (omega arith)

either : (b : Bool) (x y : List ℕ) → list_all is_value_byte x ≡ true → list_all is_value_byte y ≡ true
    → list_all is_value_byte (if b then x else y) ≡ true
either true x y p q = p
either false x y p q = q

onto_is_value : (k n : ℕ) (acc : List ℕ) → list_all is_value_byte acc ≡ true
    → list_all is_value_byte (digits_onto k 10 false n acc) ≡ true
onto_is_value zero n acc all = all
onto_is_value (suc k) n acc all =
    let small : n % 10 < 10 = omega arith in
    let more : list_all is_value_byte (digit_glyph false (n % 10) ∷ acc) ≡ true =
    both_pass (is_value_byte (digit_glyph false (n % 10))) (list_all is_value_byte acc) (glyph_is_value (n % 10) small) all in
    either (n / 10 == 0) (digit_glyph false (n % 10) ∷ acc)
    (digits_onto k 10 false (n / 10) (digit_glyph false (n % 10) ∷ acc))
    more (onto_is_value k (n / 10) (digit_glyph false (n % 10) ∷ acc) more)

-- a number may stand in a value
pub number_is_value : (n : ℕ) → list_all is_value_byte (decimal n) ≡ true
unfolding digits
number_is_value n = onto_is_value 64 n [] refl

-- so may one value after another
pub joined_is_value : (first second : List ℕ) → list_all is_value_byte first ≡ true
    → list_all is_value_byte second ≡ true
    → list_all is_value_byte (first ++ second) ≡ true
joined_is_value first second p q =
    list_all-append is_value_byte first second
    ∙ both_pass (list_all is_value_byte first) (list_all is_value_byte second) p q

-- and the way of a line
pub upright_is_value : (left from until : ℕ) → list_all is_value_byte (upright_path left from until) ≡ true
upright_is_value left from until =
    joined_is_value (decimal left) (codes " " ++ (decimal from ++ (codes "V" ++ decimal until))) (number_is_value left)
    (joined_is_value (decimal from) (codes "V" ++ decimal until) (number_is_value from) (number_is_value until))

pub row_is_value : (height : ℕ) → list_all is_value_byte (row_path height) ≡ true
row_is_value height = joined_is_value (decimal height) (codes "h1000") (number_is_value height) refl
