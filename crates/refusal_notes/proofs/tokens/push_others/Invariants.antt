use Rattle.std.proofs.Common.{◌≡◌, ◌++◌, drop}
use Rattle.std.specs.List.{flat_map}
use Rattle.refusal_notes.specs.Tokens.{behind_comma}
use Rattle.refusal_notes.proofs.tokens.push_others.Given as goal

-- the text so far, with what is left
abbrev pub invariant-loop-token : goal.invariant-loop-token
invariant-loop-token l =
    l.text ++ flat_map behind_comma (drop l.token-index l.tokens) ≡ l.fn.text ++ flat_map behind_comma l.tokens
