use Rattle.std.proofs.Common.{◌≡◌, ◌++◌, take}
use Rattle.twe_parser.proofs.symbols.Symbols.followed_by.Given as goal

-- the symbols so far have been appended
abbrev pub invariant-loop-symbol : goal.invariant-loop-symbol
invariant-loop-symbol l = l.self ≡ l.fn.self ++ take l.symbol-index l.more
