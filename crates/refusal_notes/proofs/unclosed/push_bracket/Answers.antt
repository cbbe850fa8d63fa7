use Rattle.std.proofs.Common.{◌≡◌, ◌++◌, ℕ, List, [], ◌∷◌, OnOk, subst}
use Rattle.explain_pages.specs.places.Notes.{note_at}
use Rattle.refusal_notes.proofs.unclosed.push_bracket.Goals as goal

-- the note has its caption
pub returns : goal.returns
returns c =
    subst (λ (caption : List ℕ). OnOk c.push.result (c.push.new.self ≡ c.args.notes.now ++ note_at c.args.place caption ∷ []))
    c.in_ok-from_slice.ensures c.push.ensures.ok
