use Rattle.std.proofs.Common.{◌≡◌, ◌≤◌, ℕ, List, length, sym, subst, rules, append_assoc}
use Rattle.load_text.specs.Text.{load_text_of}
use Rattle.load_text.proofs.Lengths.{text_fits}
use Rattle.load_text.proofs.text.load_text.Goals as goal

pub returns : goal.returns
returns c =
    let written : c.push_all-3.new.self ≡ load_text_of c.args.n = search (rules, append_assoc) in
    record { written = written; fits = let Fits : List ℕ → Type 0 = λ text. length text ≤ 1048576 in subst Fits (sym written) (text_fits c.args.n c.requires.most) }
