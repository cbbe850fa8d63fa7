-- Where `*/` stands, by index and as a part of the bytes.
use Rattle.std.proofs.Common.{◌≡◌, ℕ, ◌+◌, ◌-◌, ◌<◌, ◌≤◌, List, ◌∷◌, ◌++◌, length, get_or, take, drop, sym, ap, ◌∙◌, arith, get_or-take, add-zero, suc}
use Rattle.std.proofs.lemmas.List.{length-append, length-take-le, get_or-append-add, drop_more, take_all}
use Rattle.twe_lexer.specs.Lexeme.{HasClose}

-- `*/` stands at no place whose two bytes are below n
abbrev pub NoCloseBelow : List ℕ → ℕ → Type 0
NoCloseBelow body n = (k : ℕ) → k + 1 < n → get_or body k 0 ≡ 42 → get_or body (k + 1) 0 ≡ 47 → ⊥

-- so it stands nowhere in the first n bytes
pub HasClose-take : (body : List ℕ) (n : ℕ) → n ≤ length body → NoCloseBelow body n → ¬ HasClose (take n body)
HasClose-take body n fits none (before, after, split) =
    let k = length before in
    let counted : n ≡ k + suc (suc (length after)) = sym (length-take-le n body fits) ∙ ap length split ∙ length-append before (42 ∷ 47 ∷ after) in
    let star : get_or body k 0 ≡ 42 = sym (get_or-take n body k 0 (omega arith)) ∙ ap (λ bytes. get_or bytes k 0) split ∙ ap (λ i. get_or (before ++ (42 ∷ 47 ∷ after)) i 0) (sym (add-zero k)) ∙ get_or-append-add before (42 ∷ 47 ∷ after) 0 0 in
    let slash : get_or body (k + 1) 0 ≡ 47 = sym (get_or-take n body (k + 1) 0 (omega arith)) ∙ ap (λ bytes. get_or bytes (k + 1) 0) split ∙ get_or-append-add before (42 ∷ 47 ∷ after) 1 0 in
    none k (omega arith) star slash

-- where the bytes at n and after it are `*/`, it stands there
pub close_from_reads : (body : List ℕ) (n : ℕ) → n + 1 < length body → get_or body n 0 ≡ 42 → get_or body (n + 1) 0 ≡ 47 → drop n body ≡ 42 ∷ 47 ∷ drop (n + 1 + 1) body
close_from_reads body n fits star slash =
    drop_more body n 0 (omega arith) ∙ (λ i. star i ∷ drop (n + 1) body) ∙ ap (λ bytes. 42 ∷ bytes) (drop_more body (n + 1) 0 fits ∙ (λ i. slash i ∷ drop (n + 1 + 1) body))

-- the first `*/` ends before the byte at `at`, where none ends earlier
pub first_close : (body : List ℕ) (at : ℕ) → 1 ≤ at → at < length body → NoCloseBelow body at → get_or body (at - 1) 0 ≡ 42 → get_or body at 0 ≡ 47 →
    (at - 1 + 2 ≤ length body) × (drop (at - 1) body ≡ 42 ∷ 47 ∷ drop (at - 1 + 2) body) × ¬ HasClose (take (at - 1) body)
first_close body at positive fits none star slash =
    let next : at - 1 + 1 ≡ at = omega arith in
    let later : at - 1 + 1 + 1 ≡ at - 1 + 2 = omega arith in (
      omega arith,
      close_from_reads body (at - 1) (omega arith) star (ap (λ i. get_or body i 0) next ∙ slash) ∙ ap (λ i. 42 ∷ 47 ∷ drop i body) later,
      HasClose-take body (at - 1) (omega arith) (λ k below. none k (omega arith)),
    )

-- where `*/` ends nowhere, it stands nowhere
pub no_close : (body : List ℕ) (n : ℕ) → length body ≤ n → NoCloseBelow body n → ¬ HasClose body
no_close body n long none = let whole = HasClose-take body (length body) (omega arith) (λ k below. none k (omega arith)) in rw (take_all (length body) body (omega arith)) at whole
