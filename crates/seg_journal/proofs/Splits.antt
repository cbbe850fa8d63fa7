-- Texts in two parts: a word and what stands after it, and what stands before and after the first byte of a value.
use Rattle.std.proofs.Common.{◌≡◌, ◌≢◌, ◌==◌, ℕ, ◌+◌, List, [], ◌∷◌, ◌++◌, length, get_or, take, drop, Option, None, Some, IfSome, IsSomeAnd, MatchOption, true, false, sym, ap, ◌∙◌, refl, arith, take-append-drop, take_at, drop_at, length-append, add-one}
use Rattle.std.proofs.Math.Seq.{drop-cons, drop-drop}
use Rattle.std.proofs.lemmas.Bool.{eq-eqb, ne_eqb, lt-ltb}
use Rattle.std.proofs.lemmas.List.{append_cancel_left}
use Rattle.std.proofs.lemmas.List.Quantifiers.{position-Some}
use Rattle.std.specs.List.{AllByRecursion, position, position_or_len}
use denote.Ref.{Bor}

-- what a stripped word leaves
pub record Strips (text word : List ℕ) (result : Option (Bor (List ℕ))) : Type 0 where
  pub found : IfSome result (λ rest. text ≡ word ++ rest.now)
  pub only : (rest : List ℕ) → text ≡ word ++ rest → IsSomeAnd result (λ x. x.now ≡ rest)

pub strips : (text word : List ℕ) (result : Option (Bor (List ℕ)))
    → MatchOption result ((rest : List ℕ) → text ≢ word ++ rest) (λ x. text ≡ word ++ x.now) → Strips text word result
strips text word None never = record { found = tt; only = λ rest e. absurd (never rest e) }
strips text word (Some x) e = record { found = e; only = λ rest e'. append_cancel_left word x.now rest (sym e ∙ e') }

-- the first place of a byte that the front hasn't
position_or_len-front : (front rest : List ℕ) (byte : ℕ) → AllByRecursion (λ b. b ≢ byte) front
    → position_or_len (λ b. b == byte) (front ++ byte ∷ rest) ≡ length front
position_or_len-front [] rest byte none =
    let same : (byte == byte) ≡ true = eq-eqb byte byte refl in
    rw same refl
position_or_len-front (b ∷ bs) rest byte (other, others) =
    let differs : (b == byte) ≡ false = ne_eqb b byte other in
    let more = position_or_len-front bs rest byte others in
    rw (differs, more) (omega arith)

pub position-front : (front rest : List ℕ) (byte : ℕ) → AllByRecursion (λ b. b ≢ byte) front
    → position (λ b. b == byte) (front ++ byte ∷ rest) ≡ Some (length front)
position-front front rest byte none =
    let at = position_or_len-front front rest byte none in
    let within = lt-ltb (length front) (length (front ++ byte ∷ rest)) (omega (arith, length-append front (byte ∷ rest))) in
    rw (at, within) refl

-- no place is found only where no such front is
pub position-none : (text front rest : List ℕ) (byte : ℕ) → AllByRecursion (λ b. b ≢ byte) front → text ≡ front ++ byte ∷ rest
    → position (λ b. b == byte) text ≡ None → ⊥
position-none text front rest byte none e nowhere =
    let found : position (λ b. b == byte) text ≡ Some (length front) = ap (position (λ b. b == byte)) e ∙ position-front front rest byte none in
    cc

-- what stands before and after the place that is found
pub position-parts : (text : List ℕ) (byte at : ℕ) → position (λ b. b == byte) text ≡ Some at
    → text ≡ take at text ++ byte ∷ drop (at + 1) text
position-parts text byte at found =
    let (within, here, before) = position-Some (λ b. b == byte) text at 0 found in
    let same : get_or text at 0 ≡ byte = grind arith in
    let after : drop at text ≡ get_or text at 0 ∷ drop (at + 1) text = rw add-one (drop-cons text at 0 within) in
    sym (take-append-drop at text) ∙ ap (λ (xs : List ℕ). take at text ++ xs) (after ∙ ap (λ (b : ℕ). b ∷ drop (at + 1) text) same)

-- and nothing else
pub record AreParts (text front rest : List ℕ) (at : ℕ) : Type 0 where
  pub before : take at text ≡ front
  pub after : drop (at + 1) text ≡ rest

pub position-only : (text front rest : List ℕ) (byte at : ℕ) → AllByRecursion (λ b. b ≢ byte) front → text ≡ front ++ byte ∷ rest
    → position (λ b. b == byte) text ≡ Some at → AreParts text front rest at
position-only text front rest byte at none e found =
    let first : position (λ b. b == byte) text ≡ Some (length front) = ap (position (λ b. b == byte)) e ∙ position-front front rest byte none in
    let place : at ≡ length front = cc in
    let after : drop 1 (drop at text) ≡ rest = ap (λ (xs : List ℕ). drop 1 (drop at xs)) e ∙ ap (drop 1) (drop_at front (byte ∷ rest) at (sym place)) in
    record {
      before = ap (take at) e ∙ take_at front (byte ∷ rest) at (sym place);
      after = sym (drop-drop 1 at text) ∙ after;
    }
