-- What remains to be executed of a body, by the positions of its open blocks.
use Rattle.std.specs.Prelude.{ℕ, zero, suc, List, [], ◌∷◌, Option, None, Some}
use Rattle.twe_program.specs.Program.{Program}
use Rattle.twe_program.specs.Statement.{Statement, Block, If, While, Statements, no_more, statement, Arms, arm, otherwise, no_else}
use Rattle.seg_meaning.specs.declared.frame.Position.{Position}
use Rattle.seg_meaning.specs.Meaning.{Below, done_all, stopped_at}
use Rattle.seg_meaning.specs.Store.{Store, Flow, goes, then_go}

-- the statements after the first n
abbrev pub after_first : ℕ → Statements → Statements
after_first zero stmts = stmts
after_first (suc n) no_more = no_more
after_first (suc n) (statement first others) = after_first n others

-- the last of the first n statements; none if n is 0 or above the number of statements
abbrev pub last_of_first : ℕ → Statements → Option Statement
last_of_first zero stmts = None
last_of_first (suc n) no_more = None
last_of_first (suc zero) (statement first others) = Some first
last_of_first (suc (suc n)) (statement first others) = last_of_first (suc n) others

-- the block of this number among the branches of an `if`; empty if there is none
abbrev pub branch_of : ℕ → Arms → Statements
branch_of zero (arm condition body others) = body
branch_of (suc n) (arm condition body others) = branch_of n others
branch_of n (otherwise body) = body
branch_of n no_else = no_more

-- the block of this number of a statement: only an `if` has several. Empty if the statement has no block.
abbrev pub block_of : ℕ → Option Statement → Statements
block_of n (Some (Block point body)) = body
block_of n (Some (While point condition body place)) = body
block_of n (Some (If point arms)) = branch_of n arms
block_of n _ = no_more

-- the number of the block of the first position
abbrev pub block_at : List Position → ℕ
block_at [] = 0
block_at (position ∷ inner) = position.block

-- after what remains inside a statement: the next test if it is a `while`, and nothing otherwise
abbrev pub turned_again : Below → List Position → Option Statement → Flow → Flow
turned_again below (position ∷ inner) (Some (While point condition body place)) inside =
    then_go inside (below (While point condition body place))
turned_again below _ _ inside = inside

-- the meaning of what remains of a block, from the inside out: first what remains inside the statement before the
-- position, then the statements after it
abbrev pub resumed : Below → Program → Statements → List Position → Store → Flow
resumed below p stmts [] s = goes s
resumed below p stmts (position ∷ inner) s =
    let stmt = last_of_first position.after stmts in
    then_go
    (stopped_at position.block position.after
    (turned_again below inner stmt (resumed below p (block_of (block_at inner) stmt) inner s)))
    (λ s1. done_all below p position.block position.after (after_first position.after stmts) s1)
