-- Control paths, one step at a time.
use Rattle.std.specs.Prelude.{◌≡◌, ◌⊎◌, ℕ, zero, suc, ◌∷◌}
use Rattle.twe_program.specs.Statement.{Statement, Block, If, While, Return, Statements, no_more, statement, Arms, arm, otherwise, no_else}
use Rattle.cover_flow.specs.ControlPath.{Path, point_of}

-- the statements of the first list, and then those of the second
abbrev pub followed_by : Statements → Statements → Statements
followed_by no_more more = more
followed_by (statement first others) more = statement first (followed_by others more)

-- the statements are those of a branch, or none if there is no `else`
abbrev pub IsBranch : Arms → Statements → Type 0
IsBranch (arm condition body others) taken = (taken ≡ body) ⊎ IsBranch others taken
IsBranch (otherwise body) taken = taken ≡ body
IsBranch no_else taken = taken ≡ no_more

-- one step from a statement with `others` after it: what is left to be carried out then, and the path
abbrev pub StepsOn : Statement → Statements → Path → Statements → Path → Type 0
StepsOn (Block point body) others path left later = (left ≡ followed_by body others) × (later ≡ path)
StepsOn (If point arms) others path left later =
    (taken : Statements) × IsBranch arms taken × (left ≡ followed_by taken others) × (later ≡ path)
StepsOn (While point condition body place) others path left later =
    ((left ≡ others) ⊎ (left ≡ followed_by body (statement (While point condition body place) others))) × (later ≡ path)
StepsOn (Return point value) others path left later = (left ≡ no_more) × (later ≡ path)
StepsOn s others path left later = (left ≡ others) × (later ≡ s ∷ path)

-- one step from what is left to be carried out
abbrev pub Steps : Statements → Path → Statements → Path → Type 0
Steps no_more path left later = ⊥
Steps (statement first others) path left later = StepsOn first others path left later

-- any number of steps
abbrev pub StepsFar : ℕ → Statements → Path → Statements → Path → Type 0
StepsFar zero from path left later = (left ≡ from) × (later ≡ path)
StepsFar (suc n) from path left later =
    (next : Statements) × (between : Path) × Steps from path next between × StepsFar n next between left later

-- the point at which this is left to be carried out
abbrev pub point_before : ℕ → Statements → ℕ
point_before end no_more = end
point_before end (statement first others) = point_of first
