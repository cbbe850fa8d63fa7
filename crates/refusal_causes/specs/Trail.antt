-- Trails: control paths with the tests of loops by which they enter a turn.
use Rattle.std.specs.Prelude.{◌≡◌, ◌⊎◌, ℕ, Bool, true, false, if◌then◌else◌, [], ◌∷◌}
use Rattle.twe_program.specs.declared.program.Body.{Body}
use Rattle.twe_program.specs.Statement.{Statement, Block, If, While, Return, Statements, no_more, statement, Arms, arm, otherwise, no_else}
use Rattle.cover_flow.specs.ControlPath.{Path, Repeated, IsAt, point_of, end_of}

-- The trail, just before a statement, goes on through all of it as `later`. A turn of a `while` begins with its test, which
-- is put on the trail as the `while`; the test after the last turn is not.
abbrev mutual
  pub Goes : Statement → Path → Path → Type 0
  Goes (Block point body) trail later = GoesAll body trail later
  Goes (If point arms) trail later = GoesOne arms trail later
  Goes (While point condition body place) trail later =
      (turns : ℕ) × Repeated (λ before. GoesAll body (While point condition body place ∷ before)) turns trail later
  Goes (Return point value) trail later = ⊥
  Goes s trail later = later ≡ s ∷ trail

  pub GoesAll : Statements → Path → Path → Type 0
  GoesAll no_more trail later = later ≡ trail
  GoesAll (statement first others) trail later = (between : Path) × Goes first trail between × GoesAll others between later

  pub GoesOne : Arms → Path → Path → Type 0
  GoesOne (arm condition body others) trail later = GoesAll body trail later ⊎ GoesOne others trail later
  GoesOne (otherwise body) trail later = GoesAll body trail later
  GoesOne no_else trail later = later ≡ trail

-- the trail, just before a statement, comes as `later` to the point `to`, as a control path does
abbrev mutual
  pub Reaches : ℕ → Statement → ℕ → Path → Path → Type 0
  Reaches end (Block point body) to trail later = IsAt point to trail later ⊎ ReachesAll end body to trail later
  Reaches end (If point arms) to trail later = IsAt point to trail later ⊎ ReachesOne end arms to trail later
  Reaches end (While point condition body place) to trail later =
      (turned : Path) × Goes (While point condition body place) trail turned
      × (IsAt point to turned later ⊎ ReachesAll end body to (While point condition body place ∷ turned) later)
  Reaches end (Return point value) to trail later = IsAt point to trail later ⊎ IsAt end to trail later
  Reaches end s to trail later = IsAt (point_of s) to trail later

  pub ReachesAll : ℕ → Statements → ℕ → Path → Path → Type 0
  ReachesAll end no_more to trail later = ⊥
  ReachesAll end (statement first others) to trail later =
      Reaches end first to trail later ⊎ ((between : Path) × Goes first trail between × ReachesAll end others to between later)

  pub ReachesOne : ℕ → Arms → ℕ → Path → Path → Type 0
  ReachesOne end (arm condition body others) to trail later =
      ReachesAll end body to trail later ⊎ ReachesOne end others to trail later
  ReachesOne end (otherwise body) to trail later = ReachesAll end body to trail later
  ReachesOne end no_else to trail later = ⊥

-- `trail` is that of a control path from the start of the body to the point
abbrev pub ControlTrail : Body → ℕ → Path → Type 0
ControlTrail body to trail =
    ReachesAll (end_of body) body.block to [] trail ⊎ ((end_of body ≡ to) × GoesAll body.block [] trail)

-- the statement is a loop, and so stands for a test of it
abbrev pub is_test : Statement → Bool
is_test (While point condition body place) = true
is_test s = false

-- the trail without its tests
abbrev pub carried_out : Path → Path
carried_out [] = []
carried_out (s ∷ earlier) = if is_test s then carried_out earlier else s ∷ carried_out earlier
