-- The table of pairs, if there are some.
use Rattle.std.proofs.Common.{◌≡◌, ◌<◌, ◌++◌, ◌∷◌, [], List, length, refl, arith}
use Rattle.std.specs.Prelude.{codes}
use Rattle.std.specs.List.{flat_map}
use Rattle.twe_ast.specs.declared.item.Item.{Item}
use Rattle.twe_program.specs.Program.{Program}
use Rattle.held_span.specs.declared.pair.HeldPair.{HeldPair}
use Rattle.twe_advise.specs.Holds.{holds_text, pair_row}

pub some_holds : (p : Program) (items : List Item) (pairs : List HeldPair) → 0 < length pairs
    → codes "\n        held  admissions  effects that held most\n" ++ flat_map (pair_row p items) pairs ≡ holds_text p items pairs
some_holds p items [] some = absurd (omega arith)
some_holds p items (pair ∷ pairs) some = refl
