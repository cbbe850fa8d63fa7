-- Each text can be cut into lexemes to its end. What can't be is a text that has no such cut.
use Rattle.std.proofs.Common.{◌≡◌, ◌⊎◌, ◌<◌, ◌≤◌, ℕ, zero, suc, ◌+◌, List, [], ◌∷◌, ◌++◌, length, inl, inr, refl, sym, ap, ◌∙◌, arith}
use Rattle.std.proofs.lemmas.List.{length-append}
use Rattle.twe_lexer.specs.Lexeme.{IsLexeme, IsFirstLexeme, one_byte}
use Rattle.twe_lexer.specs.Tokens.{AreFirstLexemes}
use Rattle.twe_parser.proofs.Cuts.{no_lexeme}

-- the text begins with a lexeme of at least so many bytes
abbrev BeginsLong : List ℕ → ℕ → Type 0
BeginsLong text n = (bytes : List ℕ) × (rest : List ℕ) × IsLexeme bytes × (text ≡ bytes ++ rest) × (n ≤ length bytes)

abbrev HasFirst : List ℕ → Type 0
HasFirst text = (bytes : List ℕ) × (rest : List ℕ) × IsFirstLexeme bytes text rest

above : (a b : ℕ) → (a ≤ b) ⊎ (b < a)
above a b = grind arith

-- without a longest lexeme there is none of any length
none_long : (text : List ℕ) → ¬ HasFirst text → (m n : ℕ) → n + m ≡ suc (length text) → ¬ BeginsLong text n
none_long text none zero n e (bytes, rest, lexeme, split, long) =
    let whole = ap length split ∙ length-append bytes rest in omega arith
none_long text none (suc m) n e (bytes, rest, lexeme, split, long) =
    let no_longer : ¬ BeginsLong text (suc n) = none_long text none m (suc n) (omega arith) in
    none (
      bytes,
      rest,
      record {
        split = split;
        lexeme = lexeme;
        longest = λ other later its also. elim (above (length other) n) [
          | inl most ↦ omega arith
          | inr more ↦ absurd (no_longer (other, later, its, also, omega arith))
        ];
      },
    )

first_lexeme : (code : ℕ) (others : List ℕ) → ¬ ¬ HasFirst (code ∷ others)
first_lexeme code others none =
    none_long (code ∷ others) none (suc (suc (length others))) 0 (omega arith)
    (code ∷ [], others, one_byte refl, refl, omega arith)

abbrev pub IsCut : List ℕ → Type 0
IsCut text = (lexemes : List (List ℕ)) × AreFirstLexemes lexemes text []

-- a text is cut if what comes after its first lexeme is
cut_more : (code : ℕ) (others : List ℕ) → ((rest : List ℕ) → length rest ≤ length others → ¬ ¬ IsCut rest) → ¬ IsCut (code ∷ others) → ¬ HasFirst (code ∷ others)
cut_more code others shorter none ([], rest, first) = no_lexeme first.lexeme
cut_more code others shorter none (byte ∷ bytes, rest, first) =
    let whole = ap length first.split ∙ length-append (byte ∷ bytes) rest in
    shorter rest (omega arith) (λ (lexemes, cut). none ((byte ∷ bytes) ∷ lexemes, (rest, first, cut)))

cut_within : (fuel : ℕ) (text : List ℕ) → length text ≤ fuel → ¬ ¬ IsCut text
cut_within fuel [] few none = none ([], refl)
cut_within zero (code ∷ others) few none = absurd (omega arith)
cut_within (suc fuel) (code ∷ others) few none =
    first_lexeme code others (cut_more code others (λ rest shorter. cut_within fuel rest (omega arith)) none)

pub whole_cut : (text : List ℕ) → ¬ ¬ IsCut text
whole_cut text = cut_within (length text) text (omega arith)
