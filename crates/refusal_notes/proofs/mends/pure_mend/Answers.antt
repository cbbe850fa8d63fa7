use Rattle.std.proofs.Common.{List, ℕ, [], ◌∙◌, ap}
use Rattle.refusal_notes.specs.declared.mends.Mend.{Mend}
use Rattle.refusal_notes.specs.Mends.{pure_words, said_at}
use Rattle.refusal_notes.proofs.mends.pure_mend.Goals as goal

abbrev made : List ℕ → List ℕ → List ℕ → Mend
made said comes text = record { said = said; comes = comes; text = text }

-- part by part
pub returns : goal.returns
returns c =
    ap (λ (said : List ℕ). made said c.new.result c.in_ok-edited.field-0) c.in_ok-said_at.ensures
    ∙ ap (λ (comes : List ℕ). made (said_at c.args.effect.now pure_words c.args.mark.place) comes c.in_ok-edited.field-0) c.new.ensures
    ∙ ap (λ (text : List ℕ). made (said_at c.args.effect.now pure_words c.args.mark.place) [] text) c.in_ok-edited.ensures
