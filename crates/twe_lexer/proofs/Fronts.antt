-- What the lexer finds at the front of a text.
use Rattle.std.proofs.Common.{◌≡◌, ℕ, ◌+◌, ◌<◌, ◌≤◌, Bool, true, false, List, [], ◌∷◌, length, get_or, take, drop, zero, suc, None, Some, IsAscii, sym, refl, ap, ◌∙◌, arith}
use Rattle.std.specs.List.{list_all, prefix_len}
use Rattle.std.proofs.Math.Numerals.{one-add}
use Rattle.std.proofs.lemmas.Bool.{and_parts, cond_both, cond-true, cond-false, not-false, not-true}
use Rattle.std.proofs.lemmas.Bool.Decides.{nat_tests}
use Rattle.std.proofs.lemmas.List.{length-take-le, take_all, get_or-take}
use Rattle.twe_lexer.specs.declared.extent.Extent.{Extent}
use Rattle.twe_lexer.specs.declared.token.TokenKind.{TokenKind}
use Rattle.twe_lexer.specs.Front.{StopsAt}
use Rattle.twe_lexer.specs.Kinds.{kind_of, token_kind}
use Rattle.twe_lexer.specs.Lexeme.{is_allowed}
use Rattle.twe_lexer.specs.Places.{is_gap}
use Rattle.twe_lexer.specs.inner.Extents.{Begins}
use Rattle.twe_lexer.proofs.Heads.{run_passes}

-- a run ends at a byte that doesn't pass
run_ends : (passes : ℕ → Bool) (bytes : List ℕ) → prefix_len passes bytes < length bytes → passes (get_or bytes (prefix_len passes bytes) 0) ≡ false
run_ends passes [] short = absurd (omega arith)
run_ends passes (first ∷ others) short =
    cond_both (passes first) (1 + prefix_len passes others) 0 (λ n. n < suc (length others) → passes (get_or (first ∷ others) n 0) ≡ false)
    (λ pass. rw one-add (λ below. run_ends passes others (omega arith)))
    (λ fail below. fail)
    short

take_take : (m n : ℕ) (bytes : List ℕ) → m ≤ n → take m (take n bytes) ≡ take m bytes
take_take zero n bytes le = refl
take_take (suc m) zero bytes le = absurd (omega arith)
take_take (suc m) (suc n) [] le = refl
take_take (suc m) (suc n) (first ∷ others) le = ap (λ more. first ∷ more) (take_take m n others (omega arith))

-- the first byte that is not allowed stands in the first lexeme
pub stops : (extent : Extent) (text bytes : List ℕ) (at : ℕ) → Begins extent text → bytes ≡ take extent.len text → at ≡ prefix_len is_allowed bytes → at < length bytes → StopsAt at text
stops extent text bytes at begins bytes_are at_is short =
    let n = extent.len in
    let bytes_len : length (take n text) ≡ n = length-take-le n text begins.fits in
    let same : at ≡ prefix_len is_allowed (take n text) = at_is ∙ ap (prefix_len is_allowed) bytes_are in
    let within : at < length (take n text) = rw bytes_are at short in
    let below : at < n = omega arith in record {
      bytes = take n text;
      rest = drop n text;
      first = begins.first;
      closed = begins.closed;
      within = within;
      before =
          let passes : list_all is_allowed (take at (take n text)) ≡ true = rw same (run_passes is_allowed (take n text)) in
          ap (list_all is_allowed) (sym (take_take at n text (omega arith))) ∙ passes;
      here =
          let ends : is_allowed (get_or (take n text) at 0) ≡ false = rw same (run_ends is_allowed (take n text) (let k = within in rw same at k)) in
          ap is_allowed (sym (get_or-take n text at 0 below)) ∙ ends;
    }

-- the whole of the first lexeme is allowed
pub all_allowed : (bytes : List ℕ) (at : ℕ) → at ≡ prefix_len is_allowed bytes → length bytes ≤ at → list_all is_allowed bytes ≡ true
all_allowed bytes at at_is long =
    let whole : take (prefix_len is_allowed bytes) bytes ≡ bytes = take_all (prefix_len is_allowed bytes) bytes (omega arith) in
    ap (list_all is_allowed) (sym whole) ∙ run_passes is_allowed bytes

allowed_below : (byte : ℕ) → is_allowed byte ≡ true → byte < 128
allowed_below byte allowed = grind (arith, nat_tests)

-- what may stand in a text is ASCII
pub IsAscii-allowed : (bytes : List ℕ) → list_all is_allowed bytes ≡ true → IsAscii bytes
IsAscii-allowed [] allowed i = omega arith
IsAscii-allowed (first ∷ others) allowed zero = allowed_below first (and_parts (is_allowed first) (list_all is_allowed others) allowed).0
IsAscii-allowed (first ∷ others) allowed (suc i) = IsAscii-allowed others (and_parts (is_allowed first) (list_all is_allowed others) allowed).1 i

-- a lexeme that is a token, and one that is none
pub token_found : (extent : Extent) (text : List ℕ) (kind : TokenKind) → Begins extent text → extent.is_token ≡ true → kind ≡ kind_of (take extent.len text) → Some kind ≡ token_kind (take extent.len text)
token_found extent text kind begins token kind_is =
    ap (λ k. Some k) kind_is ∙ sym (cond-false (is_gap (take extent.len text)) None (Some (kind_of (take extent.len text))) (not-true (is_gap (take extent.len text)) (sym begins.class ∙ token)))

pub gap_found : (extent : Extent) (text : List ℕ) → Begins extent text → extent.is_token ≡ false → None ≡ token_kind (take extent.len text)
gap_found extent text begins gap =
    sym (cond-true (is_gap (take extent.len text)) None (Some (kind_of (take extent.len text))) (not-false (is_gap (take extent.len text)) (sym begins.class ∙ gap)))
