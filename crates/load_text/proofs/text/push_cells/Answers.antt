use Rattle.std.proofs.Common.{◌≡◌, ℕ, ◌+◌, List, ◌++◌, ap, ◌∙◌, add-one, append_assoc}
use Rattle.load_text.specs.Text.{each_below, cell_lines}
use Rattle.load_text.proofs.text.push_cells.Goals as goal

-- the text of one number more
each_more : (text : ℕ → List ℕ) (old now new : List ℕ) (i : ℕ) → now ≡ old ++ each_below text i → new ≡ now ++ text i → new ≡ old ++ each_below text (i + 1)
each_more text old now new i before here = rw add-one (here ∙ ap (λ (xs : List ℕ). xs ++ text i) before ∙ append_assoc old (each_below text i) (text i))

pub loop-i-preserved : goal.loop-i-preserved
loop-i-preserved c = each_more cell_lines _ _ _ _ c.loop-i.invariant c.in_ok-push_cell_lines.ensures
