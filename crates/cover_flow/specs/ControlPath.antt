-- Control paths: in which orders the statements of a body may be carried out, whatever its conditions are.
use Rattle.std.specs.Prelude.{◌≡◌, ◌⊎◌, ℕ, zero, suc, ◌-◌, List, [], ◌∷◌}
use Rattle.twe_program.specs.declared.program.Body.{Body}
use Rattle.twe_program.specs.Statement.{Statement, Block, Let, Set, SetCell, SetArray, SetGrid, If, While, Return, Print, Call, Make, Wait, Statements, no_more, statement, Arms, arm, otherwise, no_else}

-- what a control path has carried out: statements that have no others inside them, the latest first
abbrev pub Path : Type 0
Path = List Statement

-- any number of steps, one after the other
abbrev pub Repeated : (Path → Path → Type 0) → ℕ → Path → Path → Type 0
Repeated Step zero path later = later ≡ path
Repeated Step (suc n) path later = (between : Path) × Step path between × Repeated Step n between later

-- `path`, just before a statement, goes on through all of it as `later`: through one of the branches of an `if`,
-- through any number of turns of a `while`, whatever the conditions are, and through no return
abbrev mutual
  pub Through : Statement → Path → Path → Type 0
  Through (Block point body) path later = ThroughAll body path later
  Through (If point arms) path later = ThroughOne arms path later
  Through (While point condition body place) path later = (turns : ℕ) × Repeated (ThroughAll body) turns path later
  Through (Return point value) path later = ⊥
  Through s path later = later ≡ s ∷ path

  pub ThroughAll : Statements → Path → Path → Type 0
  ThroughAll no_more path later = later ≡ path
  ThroughAll (statement first others) path later = (between : Path) × Through first path between × ThroughAll others between later

  pub ThroughOne : Arms → Path → Path → Type 0
  ThroughOne (arm condition body others) path later = ThroughAll body path later ⊎ ThroughOne others path later
  ThroughOne (otherwise body) path later = ThroughAll body path later
  ThroughOne no_else path later = later ≡ path

-- the point just before a statement
abbrev pub point_of : Statement → ℕ
point_of (Block point body) = point
point_of (Let point var value) = point
point_of (Set point var value) = point
point_of (SetCell point cell value place) = point
point_of (SetArray point array index value place) = point
point_of (SetGrid point array row column value place) = point
point_of (If point arms) = point
point_of (While point condition body place) = point
point_of (Return point value) = point
point_of (Print point value place) = point
point_of (Call point method args place) = point
point_of (Make point future task args spawned future_place place) = point
point_of (Wait point future join into place) = point

-- `path` is at the point already
abbrev pub IsAt : ℕ → ℕ → Path → Path → Type 0
IsAt point to path later = (point ≡ to) × (later ≡ path)

-- `path`, just before a statement, comes as `later` to the point `to`: just before it or within it, before a test of a
-- `while` after any number of turns, or by a return at the body's end
abbrev mutual
  pub Comes : ℕ → Statement → ℕ → Path → Path → Type 0
  Comes end (Block point body) to path later = IsAt point to path later ⊎ ComesAll end body to path later
  Comes end (If point arms) to path later = IsAt point to path later ⊎ ComesOne end arms to path later
  Comes end (While point condition body place) to path later =
      (turned : Path) × Through (While point condition body place) path turned
      × (IsAt point to turned later ⊎ ComesAll end body to turned later)
  Comes end (Return point value) to path later = IsAt point to path later ⊎ IsAt end to path later
  Comes end s to path later = IsAt (point_of s) to path later

  pub ComesAll : ℕ → Statements → ℕ → Path → Path → Type 0
  ComesAll end no_more to path later = ⊥
  ComesAll end (statement first others) to path later =
      Comes end first to path later ⊎ ((between : Path) × Through first path between × ComesAll end others to between later)

  pub ComesOne : ℕ → Arms → ℕ → Path → Path → Type 0
  ComesOne end (arm condition body others) to path later = ComesAll end body to path later ⊎ ComesOne end others to path later
  ComesOne end (otherwise body) to path later = ComesAll end body to path later
  ComesOne end no_else to path later = ⊥

-- the point at the end of a body, which has the last number
abbrev pub end_of : Body → ℕ
end_of body = body.points - 1

-- `path` is a control path from the start of the body to the point: it comes to it within the statements, or to the
-- end by a return, or it goes through all of them to the end
abbrev pub ControlPath : Body → ℕ → Path → Type 0
ControlPath body to path =
    ComesAll (end_of body) body.block to [] path ⊎ ((end_of body ≡ to) × ThroughAll body.block [] path)
