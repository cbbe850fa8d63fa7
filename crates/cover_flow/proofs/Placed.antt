-- A turn that is put where a place was kept for it.
use Rattle.std.proofs.Common.{◌≡◌, ℕ, [], ◌∷◌, ◌++◌, length, set, refl, ap, ◌∙◌}
use Rattle.cover_flow.specs.declared.transfer.Transfer.{Transfer}
use Rattle.cover_flow.specs.inner.Transfers.{Turns}
use Rattle.cover_flow.proofs.Lanes.{append-assoc}

set-at : (xs : Turns) (kept turn : Transfer) (ys : Turns) → set (xs ++ (kept ∷ ys)) (length xs) turn ≡ xs ++ (turn ∷ ys)
set-at [] kept turn ys = refl
set-at (x ∷ xs) kept turn ys = ap (λ (q : Turns). x ∷ q) (set-at xs kept turn ys)

pub placed : (before : Turns) (kept turn : Transfer) (inner whole : Turns) → whole ≡ (before ++ (kept ∷ [])) ++ inner
    → set whole (length before) turn ≡ before ++ (turn ∷ inner)
placed before kept turn inner whole e =
    ap (λ q. set q (length before) turn) (e ∙ append-assoc before (kept ∷ []) inner) ∙ set-at before kept turn inner

-- the same, by what was pushed and what was added after it
pub placed-at : (before : Turns) (at : ℕ) (kept turn wanted : Transfer) (pushed inner whole : Turns) → at ≡ length before → pushed ≡ before ++ (kept ∷ [])
    → whole ≡ pushed ++ inner → turn ≡ wanted → set whole at turn ≡ before ++ (wanted ∷ inner)
placed-at before at kept turn wanted pushed inner whole at_end push added is =
    ap (λ n. set whole n turn) at_end
    ∙ placed before kept turn inner whole (added ∙ ap (λ q. q ++ inner) push)
    ∙ ap (λ t. before ++ (t ∷ inner)) is
