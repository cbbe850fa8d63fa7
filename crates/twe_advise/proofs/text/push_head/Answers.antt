use Rattle.std.proofs.Common.{◌++◌, ℕ, ap, ◌∙◌}
use Rattle.std.specs.Prelude.{codes}
use Rattle.std.proofs.lemmas.Result.{on_ok_weaker}
use Rattle.span_profile.specs.Advice.{parallelism_of}
use Rattle.twe_advise.specs.Texts.{head_text, hundredths_text, word_number}
use Rattle.twe_advise.proofs.Pieces.{five_pieces}
use Rattle.twe_advise.proofs.text.push_head.Goals as goal

pub returns : goal.returns
unfolding head_text
returns c =
    on_ok_weaker c.push_all-2.result
    (five_pieces c.args.text.now (word_number (codes "work ") c.args.work) (word_number (codes ", span ") c.args.span) (codes ", parallelism ")
    (hundredths_text (parallelism_of c.args.work c.args.span)) (codes "\n") c.push_number.new.text c.push_number-2.new.text c.push_all.new.self
    c.push_hundredths.new.text c.push_all-2.new.self
    (c.in_ok-push_number.ensures ∙ ap (λ (n : ℕ). c.args.text.now ++ word_number (codes "work ") n) c.from.ensures)
    (c.in_ok-push_number-2.ensures ∙ ap (λ (n : ℕ). c.push_number.new.text ++ word_number (codes ", span ") n) c.from-2.ensures) c.in_ok-push_all.ensures.ok
    (c.in_ok-push_hundredths.ensures ∙ ap (λ (n : ℕ). c.push_all.new.self ++ hundredths_text n) c.parallelism_of.ensures))
    c.push_all-2.ensures.ok
