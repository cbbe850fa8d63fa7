-- Pairs in the order of their times.
use Rattle.std.specs.Prelude.{ℕ, List, [], fold, insert, nat_lt}
use Rattle.std.specs.List.{position_or_len}
use Rattle.held_span.specs.declared.pair.HeldPair.{HeldPair}

-- how many of the first pairs held no shorter than so long
abbrev pub place_of : List HeldPair → ℕ → ℕ
place_of pairs time = position_or_len (λ (pair : HeldPair). nat_lt pair.time time) pairs

-- the pairs with one more, after those before it that held no shorter
abbrev pub with_pair : List HeldPair → HeldPair → List HeldPair
with_pair pairs pair = insert pairs (place_of pairs pair.time) pair

-- the pairs by their times; of those that held as long the earlier one comes first
abbrev pub ranked : List HeldPair → List HeldPair
ranked pairs = fold with_pair [] pairs
