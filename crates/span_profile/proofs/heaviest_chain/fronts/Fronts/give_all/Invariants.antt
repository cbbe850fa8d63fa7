use Rattle.std.proofs.Common.{◌≡◌, take}
use Rattle.std.specs.List.{list_any}
use Rattle.span_profile.specs.declared.heaviest_chain.key.Key.{Key}
use Rattle.span_profile.specs.heaviest_chain.BestChains.{key_eq}
use Rattle.span_profile.specs.heaviest_chain.inner.Fronts.{front_after, front_at}
use Rattle.span_profile.proofs.heaviest_chain.fronts.Fronts.give_all.Given as goal

-- the node counts for the keys up to here
abbrev pub invariant-loop-key : goal.invariant-loop-key
invariant-loop-key l = (k : Key) → front_at l.self k ≡ front_after (list_any (key_eq k) (take l.key-index l.keys)) (front_at l.initial.self k) l.top
