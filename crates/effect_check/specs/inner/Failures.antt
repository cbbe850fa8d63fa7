-- The failures of a body, listed from what it does and from the answers on its futures.
use Rattle.std.specs.Prelude.{◌≡◌, ◌<◌, ◌==◌, nat_lt, ℕ, Bool, true, false, not, ◌&&◌, ◌||◌, if◌then◌else◌, IsTrue, List, [], ◌∷◌, ◌++◌, Option, None, Some}
use Rattle.twe_base.specs.declared.place.Place.{Place}
use Rattle.std.specs.List.{list_any, list_all, AllByRecursion}
use Rattle.twe_base.specs.First.{failure_if}
use Rattle.twe_base.specs.First as failures
use Rattle.effect_sets.specs.declared.effects.Effect.{Effect}
use Rattle.effect_sets.specs.declared.effects.Summary.{Summary}
use Rattle.effect_sets.specs.Covers.{covers}
use Rattle.effect_sets.specs.Interference.{statically_interferes}
use Rattle.twe_program.specs.declared.program.Body.{Body}
use Rattle.twe_program.specs.declared.program.Decl.{Decl}
use Rattle.twe_program.specs.Program.{Program}
use Rattle.cover_flow.specs.declared.answers.Points.{Points}
use Rattle.cover_flow.specs.Flow.{IsFlowOf, is_among, may_at, surely_at}
use Rattle.effect_check.specs.declared.act.Act.{Act}
use Rattle.effect_check.specs.declared.act.ActKind.{ActKind}
use Rattle.effect_check.specs.declared.act.ActKind.TheVariants.{Touch, Call, Make, Wait}
use Rattle.effect_check.specs.declared.rule.ERule.TheVariants.{E1, E2, E3, E4, E5, E6, E7, E8}
use Rattle.effect_check.specs.declared.futures.Spawn.{Spawn}
use Rattle.effect_check.specs.declared.futures.Futures.{Futures}
use Rattle.effect_check.specs.declared.marks.Marks.{Marks}
use Rattle.effect_check.specs.Acts.{acts_in_all}
use Rattle.effect_check.specs.inner.Marks.{marks_of, marks_of_all, marks_over, meet, no_marks}
use Rattle.effect_check.specs.FailsEffect.{EffectFailure, effect_rule_number}

-- the act as a spawn, if it is one
abbrev pub spawn_of : ActKind → List Spawn
spawn_of (Make future true deterministic effects future_place place) = record {
  future = future;
  effects = effects;
  marks = marks_over false no_marks effects.effects;
} ∷ []
spawn_of _ = []

-- the spawns among the acts, in their order
abbrev pub spawns_among : List Act → List Spawn
spawns_among [] = []
spawns_among (act ∷ acts) = spawn_of act.kind ++ spawns_among acts

-- the spawns into futures that are followed
abbrev pub followed : Points → List Spawn → List Spawn
followed points [] = []
followed points (spawn ∷ spawns) =
    if is_among points.first spawn.future then spawn ∷ followed points spawns
    else followed points spawns

-- it has the marks of the effects of the spawned tasks, and of those that write
pub record HasMarks (futures : Futures) : Type 0 where
  pub all : futures.all ≡ marks_of_all false no_marks futures.spawns
  pub writes : futures.writes ≡ marks_of_all true no_marks futures.spawns

-- the marks of the effects that may interfere with the effect: a read interferes with no read
abbrev pub others_of : Futures → Effect → Marks
others_of futures effect = if effect.write then futures.all else futures.writes

-- the spawned task may be out, and interferes with the effect, which has these marks
abbrev pub bars : Points → ℕ → Effect → Marks → Spawn → Bool
bars points point effect marks spawn =
    may_at points point spawn.future
    && (meet spawn.marks marks && list_any (λ other. statically_interferes effect other) spawn.effects.effects)

-- no spawned task that may be out interferes with the effect, which has these marks
abbrev pub free_by : Futures → ℕ → Effect → Marks → Bool
free_by futures point effect marks = list_all (λ spawn. not (bars futures.points point effect marks spawn)) futures.spawns

-- no spawned task that may be out interferes with the effect
abbrev pub free : Futures → ℕ → Effect → Bool
free futures point effect = free_by futures point effect (marks_of effect)

-- no spawned task that may be out interferes with one of these effects
abbrev pub all_free : Futures → ℕ → Summary → Bool
all_free futures point effects = list_all (λ effect. free futures point effect) effects.effects

-- each of these effects lies inside one of the summary, which writes if it writes
abbrev pub all_inside : Summary → Summary → Bool
all_inside summary effects = list_all (λ effect. covers summary effect) effects.effects

-- the failures of a task at something that it does, apart from those that futures make
abbrev pub declared_failures_at : Decl → ActKind → List EffectFailure
declared_failures_at task (Touch effect place) = failure_if (not (covers task.summary effect)) E1 place
declared_failures_at task (Call effects place) = failure_if (not (all_inside task.summary effects)) E2 place
declared_failures_at task (Make future true deterministic effects future_place place) =
    failure_if (not (all_inside task.summary effects)) E3 place ++ failure_if (task.deterministic && not deterministic) E7 place
declared_failures_at task (Make future false deterministic effects future_place place) = failure_if task.deterministic E6 place
declared_failures_at task (Wait future true place) = []
declared_failures_at task (Wait future false place) = failure_if task.deterministic E6 place

-- the failures of a task at all these acts, apart from those that futures make
abbrev pub declared_failures : Decl → List Act → List EffectFailure
declared_failures task [] = []
declared_failures task (act ∷ acts) = declared_failures_at task act.kind ++ declared_failures task acts

-- the failures that the futures make at something that a task does
abbrev pub future_failures_at : Futures → ℕ → ActKind → List EffectFailure
future_failures_at futures point (Touch effect place) = failure_if (not (free futures point effect)) E1 place
future_failures_at futures point (Call effects place) = failure_if (not (all_free futures point effects)) E2 place
future_failures_at futures point (Make future true deterministic effects future_place place) =
    failure_if (may_at futures.points point future) E5 future_place ++ failure_if (not (all_free futures point effects)) E3 place
future_failures_at futures point (Make future false deterministic effects future_place place) = []
future_failures_at futures point (Wait future true place) = failure_if (not (surely_at futures.points point future)) E4 place
future_failures_at futures point (Wait future false place) = []

-- the failures that the futures make at all these acts
abbrev pub future_failures : Futures → List Act → List EffectFailure
future_failures futures [] = []
future_failures futures (act ∷ acts) = future_failures_at futures act.point act.kind ++ future_failures futures acts

-- the failures of a task, with those that groups of futures make
abbrev pub task_failures : Decl → List Futures → List Act → List EffectFailure
task_failures task [] acts = declared_failures task acts
task_failures task (futures ∷ groups) acts = task_failures task groups acts ++ future_failures futures acts

-- the failures of a method at something that it does
abbrev pub method_failures_at : Decl → ActKind → List EffectFailure
method_failures_at method (Touch effect place) = failure_if (not (covers method.summary effect)) E8 place
method_failures_at method (Call effects place) = failure_if (not (all_inside method.summary effects)) E8 place
method_failures_at method _ = []

-- the failures of a method at all these acts
abbrev pub method_failures : Decl → List Act → List EffectFailure
method_failures method [] = []
method_failures method (act ∷ acts) = method_failures_at method act.kind ++ method_failures method acts

-- the first of all, of the first so far and these
abbrev pub first_from : Option EffectFailure → List EffectFailure → Option EffectFailure
first_from first others = failures.first_from effect_rule_number first others

-- the first so far is at an earlier place, so none at this place comes before it
abbrev pub is_settled : Option EffectFailure → Place → Bool
is_settled None place = false
is_settled (Some first) place =
    nat_lt first.place.line place.line
    || ((first.place.line == place.line) && nat_lt first.place.col place.col)

-- what the analysis of the task's body says of 128 futures, and the spawns into them
pub record IsGroupOf (p : Program) (task : Decl) (futures : Futures) : Type 0 where
  pub flow : IsFlowOf futures.points task.body
  pub spawns : futures.spawns ≡ followed futures.points (spawns_among (acts_in_all p task.body.block))

-- the first failure after those are reported that these 128 futures make at the acts of a body
pub record JudgesGroup (body : Body) (acts : List Act) (spawns : List Spawn) (start : ℕ)
    (first later : Option EffectFailure) : Type 0 where
  pub futures : Futures
  pub flow : IsFlowOf futures.points body
  pub start_is : futures.points.first ≡ start
  pub spawns_are : futures.spawns ≡ followed futures.points spawns
  pub judged : later ≡ first_from first (future_failures futures acts)

-- each is a group of the task's futures
abbrev pub AreGroupsOf : Program → Decl → List Futures → Type 0
AreGroupsOf p task groups = AllByRecursion (IsGroupOf p task) groups

-- each of the first futures is followed in one of the groups
abbrev pub AreFollowed : ℕ → List Futures → Type 0
AreFollowed count groups = (f : ℕ) → f < count → IsTrue (list_any (λ futures. is_among futures.points.first f) groups)

-- the first failure after those of a task are reported that are declared, and those that the first futures make
pub record JudgesFirst (p : Program) (task : Decl) (count : ℕ) (first later : Option EffectFailure) : Type 0 where
  pub groups : List Futures
  pub are : AreGroupsOf p task groups
  pub followed : AreFollowed count groups
  pub judged : later ≡ first_from first (task_failures task groups (acts_in_all p task.body.block))

-- the first failure after those of a task are reported
abbrev pub JudgesTask : Program → Decl → Option EffectFailure → Option EffectFailure → Type 0
JudgesTask p task first later = JudgesFirst p task task.body.futures first later

-- the first failure after those of a method are reported
abbrev pub JudgesMethod : Program → Decl → Option EffectFailure → Option EffectFailure → Type 0
JudgesMethod p method first later = later ≡ first_from first (method_failures method (acts_in_all p method.body.block))
