use Rattle.std.proofs.Common.{◌≡◌, length}
use Rattle.floor_crew.specs.inner.Lent.{IsNewOn}
use Rattle.floor_crew.proofs.splitting.split_all.Given as goal

-- a stand was split off for each hand, and the hands are as many as the workers before
abbrev pub invariant-loop-before : goal.invariant-loop-before
invariant-loop-before g l =
    IsNewOn g.F.Located.table l.stand (length l.hands.items) × (l.stand.me.0.floor.part ≡ l.fn.stand.me.0.floor.part) × (length l.hands.items ≡ l.before)
