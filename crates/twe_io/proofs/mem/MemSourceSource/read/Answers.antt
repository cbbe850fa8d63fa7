use Rattle.std.proofs.Common.{◌≡◌, ℕ, ◌+◌, List, ◌++◌, length, take, drop, sym, ap, ◌∙◌, le_refl, take-append-drop}
use Rattle.std.proofs.Math.Seq.{drop-drop}
use Rattle.std.proofs.lemmas.Slice.{between_to_end}
use Rattle.twe_io.proofs.mem.MemSourceSource.read.Goals as goal

-- the bytes given are the first of those that were left
given_first : (bytes from to : List ℕ) (at given : ℕ) → from ≡ drop at bytes → take given to ≡ take given from
    → drop at bytes ≡ take given to ++ drop (at + given) bytes
given_first bytes from to at given e copied =
    let front : take given (drop at bytes) ≡ take given to = ap (take given) (sym e) ∙ sym copied in
    let rest = drop-drop given at bytes in
    sym (take-append-drop given (drop at bytes)) ∙ cc (front, rest)

pub returns-clause-given : goal.returns-clause-given
returns-clause-given c =
    let at = c.self.inside.at in
    let whole = between_to_end c.as_slice.result.now at (length c.as_slice.result.now) (le_refl _) in
    rw (← c.self.view_is) (given_first _ _ _ _ _ (whole ∙ ap (drop at) c.as_slice.ensures) c.copy_front-given.ensures.copied)
