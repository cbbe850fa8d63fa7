-- What an act does not fail if its failures are listed, apart from futures and by 128 futures at once.
use Rattle.std.specs.Prelude.{◌≡◌, ℕ, Bool, false, IsTrue, List, Option, None, Some, if◌then◌else◌}
use Rattle.std.specs.List.{All, filter}
use Rattle.twe_base.specs.declared.place.Place.{Place}
use Rattle.twe_program.specs.declared.program.Decl.{Decl}
use Rattle.twe_program.specs.Program.{Program}
use Rattle.cover_flow.specs.declared.answers.Points.{Points}
use Rattle.cover_flow.specs.Flow.{IsFlowOf, is_among}
use Rattle.effect_check.specs.declared.act.Act.{Act}
use Rattle.effect_check.specs.declared.act.ActKind.{ActKind}
use Rattle.effect_check.specs.declared.act.ActKind.TheVariants.{Touch, Call, Make, Wait}
use Rattle.effect_check.specs.declared.rule.ERule.{ERule}
use Rattle.effect_check.specs.declared.rule.ERule.TheVariants.{E1, E2, E3, E4, E5, E6, E7, E8}
use Rattle.effect_check.specs.Acts.{acts_in_all}
use Rattle.refusal_causes.specs.Seeking.{needs_of}
use Rattle.refusal_causes.specs.inner.Keeping.{IsDeclaredFor, IsNoBar, JoinsSurely, KeepsOrder, SpawnsAlike, SpawnsAnew, need_at}

-- the tasks or the methods of the program
abbrev pub decls_of : Program → Bool → List Decl
decls_of p of_methods = if of_methods then p.methods else p.tasks

-- the place at which an act fails most rules
abbrev pub place_of : ActKind → Place
place_of (Touch effect place) = place
place_of (Call effects place) = place
place_of (Make future spawned deterministic effects future_place place) = place
place_of (Wait future join place) = place

-- by what the task does here, it does not fail the rule at the place, whatever its futures are
abbrev pub KeepsAlone : ERule → Place → Decl → ActKind → Type 0
KeepsAlone E1 place task kind = IsDeclaredFor false E1 place task kind
KeepsAlone E2 place task kind = IsDeclaredFor false E2 place task kind
KeepsAlone E3 place task kind = IsDeclaredFor false E3 place task kind
KeepsAlone E4 place task kind = Unit {0}
KeepsAlone E5 place task kind = Unit {0}
KeepsAlone E6 place task kind = KeepsOrder task place kind
KeepsAlone E7 place task kind = SpawnsAlike task place kind
KeepsAlone E8 place task kind = Unit {0}

-- this makes the task of one of the 128 futures
abbrev pub makes_among : ℕ → ActKind → Bool
makes_among first (Touch effect place) = false
makes_among first (Call effects place) = false
makes_among first (Make future spawned deterministic effects future_place place) = is_among first future
makes_among first (Wait future join place) = false

-- this waits for one of them
abbrev pub waits_among : ℕ → ActKind → Bool
waits_among first (Touch effect place) = false
waits_among first (Call effects place) = false
waits_among first (Make future spawned deterministic effects future_place place) = false
waits_among first (Wait future join place) = is_among first future

-- the acts that make their tasks
abbrev pub makes_of : ℕ → List Act → List Act
makes_of first acts = filter (λ act. makes_among first act.kind) acts

-- the act, if it is one of these
abbrev pub make_if : ℕ → Act → Option Act
make_if first act = if makes_among first act.kind then Some act else None

-- these are facts of the task's body, and the acts that make the tasks of the futures that are followed
pub record IsGroup (p : Program) (task : Decl) (points : Points) (makes : List Act) : Type 0 where
  pub facts : IsFlowOf points task.body
  pub are : makes ≡ makes_of points.first (acts_in_all p task.body.block)

-- if by this a task fails the rule at the place where an effect lacks, none of these spawns bars one
abbrev pub IsFreeFor : Decl → List Act → ERule → Place → Act → Type 0
IsFreeFor task makes rule place act =
    need_at false act.kind ≡ Some (record { rule = rule; place = place })
    → All (IsNoBar task act.point (needs_of act.kind)) makes

-- if this joins one of the 128 futures at the place, it is surely out
abbrev pub JoinsInGroup : Decl → ℕ → Place → Act → Type 0
JoinsInGroup task first place act = IsTrue (waits_among first act.kind) → JoinsSurely task place act.point act.kind

-- if this spawns into one of them, whose name is at the place, it is not out
abbrev pub SpawnsInGroup : Decl → ℕ → Place → Act → Type 0
SpawnsInGroup task first place act = IsTrue (makes_among first act.kind) → SpawnsAnew task place act.point act.kind

-- since one of the 128 futures may be out or is not surely out, the task does not fail the rule at the place by the act
abbrev pub KeepsGroup : Program → Decl → ℕ → ERule → Place → Act → Type 0
KeepsGroup p task first E1 place act = IsFreeFor task (makes_of first (acts_in_all p task.body.block)) E1 place act
KeepsGroup p task first E2 place act = IsFreeFor task (makes_of first (acts_in_all p task.body.block)) E2 place act
KeepsGroup p task first E3 place act = IsFreeFor task (makes_of first (acts_in_all p task.body.block)) E3 place act
KeepsGroup p task first E4 place act = JoinsInGroup task first place act
KeepsGroup p task first E5 place act = SpawnsInGroup task first place act
KeepsGroup p task first E6 place act = Unit {0}
KeepsGroup p task first E7 place act = Unit {0}
KeepsGroup p task first E8 place act = Unit {0}
