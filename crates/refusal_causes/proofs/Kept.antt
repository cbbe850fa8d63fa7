-- What an act does not fail if its failures are listed: elsewhere, apart from futures, by a group of futures, and by all groups.
use Rattle.std.proofs.Common.{◌≡◌, ◌∙◌, ◌<◌, ◌≤◌, ◌+◌, ◌*◌, ◌-◌, ℕ, Bool, true, false, IsTrue, List, [], ◌∷◌, Option, None, Some, get_or, length, refl, sym, ap, subst, arith}
use Rattle.std.specs.Prelude.{◌++◌, ◌/◌, cond, if◌then◌else◌, nat_le, nat_lt, option_to_list, take}
use Rattle.std.specs.List.{All, filter}
use Rattle.std.proofs.lemmas.Bool.{and_from, false≢true, le-leb, lt-ltb}
use Rattle.std.proofs.lemmas.List.Elements.{All-cons, All-contains, All-contains_itself, All-filter, All-head, All-nil, All-tail, All-weaker, Contains-get_or, filter_more, filter_passes}
use Rattle.std.proofs.lemmas.Option.{none-some, same_Some}
use Rattle.twe_base.specs.declared.place.Place.{Place}
use Rattle.effect_sets.specs.declared.effects.Effect.{Effect}
use Rattle.twe_program.specs.declared.program.Decl.{Decl}
use Rattle.twe_program.specs.Program.{Program}
use Rattle.twe_program.specs.WellFormed.{DeclFits}
use Rattle.cover_flow.specs.declared.answers.Points.{Points}
use Rattle.cover_flow.specs.Flow.{IsFlowOf, is_among, may_at}
use Rattle.effect_check.specs.declared.act.Act.{Act}
use Rattle.effect_check.specs.declared.act.ActKind.{ActKind}
use Rattle.effect_check.specs.declared.act.ActKind.TheVariants.{Touch, Call, Make, Wait}
use Rattle.effect_check.specs.declared.rule.ERule.{ERule}
use Rattle.effect_check.specs.declared.rule.ERule.TheVariants.{E1, E2, E3, E4, E5, E6, E7, E8}
use Rattle.effect_check.specs.Acts.{acts_in_all}
use Rattle.effect_check.specs.Covered.{CoveredAt, Does}
use Rattle.effect_check.specs.FailsEffect as rules
use Rattle.refusal_causes.specs.declared.found.FoundFailures.{FoundFailures}
use Rattle.refusal_causes.specs.Seeking.{decls_for, is_at, is_of_methods, is_of_needs, needs_at, needs_of}
use Rattle.refusal_causes.specs.inner.Found.{Grows, IsUnlisted}
use Rattle.refusal_causes.specs.inner.Keeping.{BarsNone, IsDeclared, IsDeclaredFor, IsDone, IsFollowed, IsKept, IsNoBar, JoinsSurely, KeepsOrder, KeepsThere, SpawnsAlike, SpawnsAnew, need_at}
use Rattle.refusal_causes.specs.inner.Listed.{IsFreeFor, JoinsInGroup, KeepsAlone, KeepsGroup, SpawnsInGroup, make_if, makes_among, makes_of, place_of}
use Rattle.refusal_causes.proofs.Covering.{all_covered, in_range}
use Rattle.refusal_causes.proofs.Needs.{is_there, same_place}

-- what follows from two places if they are one, and if they are not
by_places : (P : Type 0) (place other : Place) (same : Bool) → same ≡ is_at place other → (place ≡ other → P) → (is_at place other ≡ false → P) → P
by_places P place other true is here elsewhere = here (same_place place other (sym is))
by_places P place other false is here elsewhere = elsewhere (sym is)

-- ---- where a rule does not ask for effects, an act fails it at its own place alone
apart_order : (task : Decl) (place : Place) (kind : ActKind) → is_at (place_of kind) place ≡ false → KeepsOrder task place kind
apart_order task place (Touch effect at) apart = λ _. (refl, refl)
apart_order task place (Call effects at) apart = λ _. (refl, refl)
apart_order task place (Make future true deterministic effects future_place at) apart = λ _. (refl, refl)
apart_order task place (Make future false deterministic effects future_place at) apart = λ _. (apart, refl)
apart_order task place (Wait future true at) apart = λ _. (refl, refl)
apart_order task place (Wait future false at) apart = λ _. (refl, apart)

apart_child : (task : Decl) (place : Place) (kind : ActKind) → is_at (place_of kind) place ≡ false → SpawnsAlike task place kind
apart_child task place (Touch effect at) apart = λ _. refl
apart_child task place (Call effects at) apart = λ _. refl
apart_child task place (Make future true true effects future_place at) apart = λ _. refl
apart_child task place (Make future true false effects future_place at) apart = λ _. apart
apart_child task place (Make future false deterministic effects future_place at) apart = λ _. refl
apart_child task place (Wait future join at) apart = λ _. refl

pub order_by : (task : Decl) (place : Place) (kind : ActKind) → (place_of kind ≡ place → KeepsOrder task place kind) → KeepsOrder task place kind
order_by task place kind here =
    by_places (KeepsOrder task place kind) (place_of kind) place (is_at (place_of kind) place) refl here (apart_order task place kind)

pub child_by : (task : Decl) (place : Place) (kind : ActKind) → (place_of kind ≡ place → SpawnsAlike task place kind) → SpawnsAlike task place kind
child_by task place kind here =
    by_places (SpawnsAlike task place kind) (place_of kind) place (is_at (place_of kind) place) refl here (apart_child task place kind)

-- ---- the rules that ask for effects
there_at : (of_methods : Bool) (kind : ActKind) (rule : ERule) (place : Place)
    → need_at of_methods kind ≡ Some (record { rule = rule; place = place }) → IsTrue (needs_at place kind)
there_at of_methods (Touch effect at) rule place is =
    subst (λ (q : Place). is_at at q ≡ true) (ap (λ (f : rules.EffectFailure). f.place) (same_Some _ _ is)) (is_there at)
there_at of_methods (Call effects at) rule place is =
    subst (λ (q : Place). is_at at q ≡ true) (ap (λ (f : rules.EffectFailure). f.place) (same_Some _ _ is)) (is_there at)
there_at true (Make future true deterministic effects future_place at) rule place is = absurd (none-some _ is)
there_at false (Make future true deterministic effects future_place at) rule place is =
    subst (λ (q : Place). is_at at q ≡ true) (ap (λ (f : rules.EffectFailure). f.place) (same_Some _ _ is)) (is_there at)
there_at of_methods (Make future false deterministic effects future_place at) rule place is = absurd (none-some _ is)
there_at of_methods (Wait future join at) rule place is = absurd (none-some _ is)

-- if what is needed at the place is covered, the act keeps the rule there
pub kept_if : (p : Program) (rule : ERule) (place : Place) (decl : Decl) (act : Act) → IsTrue (is_of_needs rule)
    → (IsTrue (needs_at place act.kind) → All (CoveredAt p decl act.point) (needs_of act.kind)) → IsKept p rule place decl act
kept_if p E1 place decl act of all = λ is. all (there_at false act.kind E1 place is)
kept_if p E2 place decl act of all = λ is. all (there_at false act.kind E2 place is)
kept_if p E3 place decl act of all = λ is. all (there_at false act.kind E3 place is)
kept_if p E4 place decl act of all = absurd (false≢true of)
kept_if p E5 place decl act of all = absurd (false≢true of)
kept_if p E6 place decl act of all = absurd (false≢true of)
kept_if p E7 place decl act of all = absurd (false≢true of)
kept_if p E8 place decl act of all = λ is.
    All-weaker (CoveredAt p decl act.point) (IsDeclared decl.summary) (λ need covered. covered.declared) (needs_of act.kind)
    (all (there_at true act.kind E8 place is))

-- ---- what is noted in turn
module _ (p : Program) (task : Decl) (a b c : FoundFailures) (first : Grows p a b) (second : Grows p b c) where
  -- apart from futures
  pub alone_by : (kind : ActKind) → ((rule : ERule) (place : Place) → IsUnlisted a rule place → IsDeclaredFor false rule place task kind)
      → ((place : Place) → IsUnlisted b E6 place → KeepsOrder task place kind)
      → ((place : Place) → IsUnlisted c E7 place → SpawnsAlike task place kind)
      → (rule : ERule) (place : Place) → IsUnlisted c rule place → KeepsAlone rule place task kind
  alone_by kind needs order child E1 place none = needs E1 place (first.keeps E1 place (second.keeps E1 place none))
  alone_by kind needs order child E2 place none = needs E2 place (first.keeps E2 place (second.keeps E2 place none))
  alone_by kind needs order child E3 place none = needs E3 place (first.keeps E3 place (second.keeps E3 place none))
  alone_by kind needs order child E4 place none = tt
  alone_by kind needs order child E5 place none = tt
  alone_by kind needs order child E6 place none = order place (second.keeps E6 place none)
  alone_by kind needs order child E7 place none = child place none
  alone_by kind needs order child E8 place none = tt

  -- by a group of futures
  pub group_by : (start : ℕ) (act : Act)
      → ((rule : ERule) (place : Place) → IsUnlisted a rule place
      → IsFreeFor task (makes_of start (acts_in_all p task.body.block)) rule place act)
      → ((place : Place) → IsUnlisted b E4 place → JoinsInGroup task start place act)
      → ((place : Place) → IsUnlisted c E5 place → SpawnsInGroup task start place act)
      → (rule : ERule) (place : Place) → IsUnlisted c rule place → KeepsGroup p task start rule place act
  group_by start act free joins spawns E1 place none = free E1 place (first.keeps E1 place (second.keeps E1 place none))
  group_by start act free joins spawns E2 place none = free E2 place (first.keeps E2 place (second.keeps E2 place none))
  group_by start act free joins spawns E3 place none = free E3 place (first.keeps E3 place (second.keeps E3 place none))
  group_by start act free joins spawns E4 place none = joins place (second.keeps E4 place none)
  group_by start act free joins spawns E5 place none = spawns place none
  group_by start act free joins spawns E6 place none = tt
  group_by start act free joins spawns E7 place none = tt
  group_by start act free joins spawns E8 place none = tt

-- ---- the spawns of a group
-- what holds of those that pass
filtered : {X : Type 0} (test : X → Bool) (P : X → Type 0) (x : X) (xs : List X)
    → (All P (filter test xs) → All (λ x. test x ≡ true → P x) xs) → (b : Bool) → b ≡ test x
    → All P (cond b (x ∷ filter test xs) (filter test xs)) → All (λ x. test x ≡ true → P x) (x ∷ xs)
filtered {X} test P x xs rest true is h =
    All-cons (λ (y : X). test y ≡ true → P y) x xs (λ _. All-head P x (filter test xs) h) (rest (All-tail P x (filter test xs) h))
filtered {X} test P x xs rest false is h =
    All-cons (λ (y : X). test y ≡ true → P y) x xs (λ passes. absurd (false≢true (is ∙ passes))) (rest h)

pub unfiltered : {X : Type 0} (test : X → Bool) (P : X → Type 0) (xs : List X) → All P (filter test xs) → All (λ x. test x ≡ true → P x) xs
unfiltered {X} test P [] all = All-nil (λ (x : X). test x ≡ true → P x)
unfiltered {X} test P (x ∷ xs) all = filtered test P x xs (unfiltered test P xs) (test x) refl all

-- a spawn among them is into a future that is followed
followed_if : (first : ℕ) (kind : ActKind) → makes_among first kind ≡ true → IsFollowed first kind
followed_if first (Touch effect at) is = tt
followed_if first (Call effects at) is = tt
followed_if first (Make future true deterministic effects future_place at) is = is
followed_if first (Make future false deterministic effects future_place at) is = tt
followed_if first (Wait future join at) is = tt

pub all_followed : (first : ℕ) (acts : List Act) → All (λ (act : Act). IsFollowed first act.kind) (makes_of first acts)
all_followed first acts =
    All-weaker (λ (act : Act). makes_among first act.kind ≡ true) (λ (act : Act). IsFollowed first act.kind)
    (λ act is. followed_if first act.kind is) (makes_of first acts) (filter_passes (λ (act : Act). makes_among first act.kind) acts)

-- they are acts of the task
pub makes_done : (p : Program) (task : Decl) (first : ℕ) (makes : List Act) → makes ≡ makes_of first (acts_in_all p task.body.block)
    → All (IsDone p task) makes
makes_done p task first makes are =
    subst (λ (xs : List Act). All (IsDone p task) xs) (sym are)
    (All-filter (λ (act : Act). makes_among first act.kind) (IsDone p task) (acts_in_all p task.body.block)
    (All-contains_itself (acts_in_all p task.body.block)))

pub makes_followed : (first : ℕ) (acts makes : List Act) → makes ≡ makes_of first acts
    → All (λ (act : Act). IsFollowed first act.kind) makes
makes_followed first acts makes are =
    subst (λ (xs : List Act). All (λ (act : Act). IsFollowed first act.kind) xs) (sym are) (all_followed first acts)

-- one act more is looked at
if_some : (b : Bool) (act : Act) → option_to_list (if b then Some act else None) ≡ cond b (act ∷ []) []
if_some true act = refl
if_some false act = refl

pub makes_more : (first : ℕ) (acts : List Act) (i : ℕ) (act : Act) → i < length acts → act ≡ get_or acts i act
    → (makes later : List Act) (copy : Option Act) → makes ≡ makes_of first (take i acts) → copy ≡ make_if first act
    → later ≡ makes ++ option_to_list copy → later ≡ makes_of first (take (i + 1) acts)
makes_more first acts i act below is makes later copy so_far copied added =
    added ∙ ap (λ (o : Option Act). makes ++ option_to_list o) copied
    ∙ ap (λ (xs : List Act). makes ++ xs) (if_some (makes_among first act.kind) act)
    ∙ ap (λ (xs : List Act). xs ++ cond (makes_among first act.kind) (act ∷ []) []) so_far
    ∙ ap (λ (a : Act). makes_of first (take i acts) ++ cond (makes_among first a.kind) (a ∷ []) []) is
    ∙ sym (filter_more (λ (a : Act). makes_among first a.kind) acts i act below)

-- where no future may be out, no spawn bars an effect
module _ (p : Program) (task : Decl) (fits : DeclFits p task) (points : Points) (facts : IsFlowOf points task.body) (point : ℕ)
    (here : point < task.body.points) (none : (future : ℕ) → may_at points point future ≡ false) (needs : List Effect) where
  no_bar : (at : ℕ) (kind : ActKind) → Does p task at kind → IsFollowed points.first kind → BarsNone task point needs kind
  no_bar at (Touch effect place) does followed = tt
  no_bar at (Call effects place) does followed = tt
  no_bar at (Make future true deterministic effects future_place place) does followed = λ out.
      let there : future < task.body.futures =
      (in_range p task fits at (Make future true deterministic effects future_place place) does).1 in
      absurd (false≢true (sym (none future) ∙ (facts.may point future here there followed).1 out))
  no_bar at (Make future false deterministic effects future_place place) does followed = tt
  no_bar at (Wait future join place) does followed = tt

  pub none_bars : (makes : List Act) → All (IsDone p task) makes → All (λ (act : Act). IsFollowed points.first act.kind) makes
      → All (IsNoBar task point needs) makes
  none_bars makes done followed = λ k d below.
      let act : Act = get_or makes k d in
      no_bar act.point act.kind (done k d below) (followed k d below)

-- ---- all groups of futures
among_its_group : (f : ℕ) → is_among (f / 128 * 128) f ≡ true
among_its_group f =
    and_from (nat_le (f / 128 * 128) f) (nat_lt (f - f / 128 * 128) 128) (le-leb (f / 128 * 128) f (omega arith))
    (lt-ltb (f - f / 128 * 128) 128 (omega arith))

module _ (p : Program) (task : Decl) (fits : DeclFits p task) (count : ℕ) (enough : task.body.futures ≤ count * 128) where
  abbrev pub acts : List Act
  acts = acts_in_all p task.body.block

  -- the group of a future is one of them
  in_groups : (f : ℕ) → f < task.body.futures → f / 128 < count
  in_groups f below = omega (arith, below, enough)

  module _ (point : ℕ) (needs : List Effect)
      (free : (g : ℕ) → g < count → All (IsNoBar task point needs) (makes_of (g * 128) acts)) where
    free_of : (at : ℕ) (kind : ActKind) → Does p task at kind → BarsNone task point needs kind
    free_of at (Touch effect place) does = tt
    free_of at (Call effects place) does = tt
    free_of at (Make future true deterministic effects future_place place) does =
        let kind : ActKind = Make future true deterministic effects future_place place in
        let there : future < task.body.futures = (in_range p task fits at kind does).1 in
        let g = future / 128 in
        All-contains (λ (act : Act). makes_among (g * 128) act.kind ≡ true → IsNoBar task point needs act) acts (record { point = at; kind = kind })
        (unfiltered (λ (act : Act). makes_among (g * 128) act.kind) (IsNoBar task point needs) acts (free g (in_groups future there))) does
        (among_its_group future)
    free_of at (Make future false deterministic effects future_place place) does = tt
    free_of at (Wait future join place) does = tt

    none_at_all : All (IsNoBar task point needs) acts
    none_at_all = λ k d below.
        let act : Act = get_or acts k d in
        free_of act.point act.kind (Contains-get_or acts k d below)

  joins_by : (place : Place) (at : ℕ) (kind : ActKind) → Does p task at kind
      → ((g : ℕ) → g < count → JoinsInGroup task (g * 128) place (record { point = at; kind = kind })) → JoinsSurely task place at kind
  joins_by place at (Touch effect other) does groups = tt
  joins_by place at (Call effects other) does groups = tt
  joins_by place at (Make future spawned deterministic effects future_place other) does groups = tt
  joins_by place at (Wait future join other) does groups =
      groups (future / 128) (in_groups future (in_range p task fits at (Wait future join other) does).1) (among_its_group future)

  spawns_by : (place : Place) (at : ℕ) (kind : ActKind) → Does p task at kind
      → ((g : ℕ) → g < count → SpawnsInGroup task (g * 128) place (record { point = at; kind = kind })) → SpawnsAnew task place at kind
  spawns_by place at (Touch effect other) does groups = tt
  spawns_by place at (Call effects other) does groups = tt
  spawns_by place at (Make future spawned deterministic effects future_place other) does groups =
      groups (future / 128) (in_groups future (in_range p task fits at (Make future spawned deterministic effects future_place other) does).1)
      (among_its_group future)
  spawns_by place at (Wait future join other) does groups = tt

  act_kept : (rule : ERule) (place : Place) → is_of_methods rule ≡ false → (act : Act) → Does p task act.point act.kind
      → KeepsAlone rule place task act.kind → ((g : ℕ) → g < count → KeepsGroup p task (g * 128) rule place act) → IsKept p rule place task act
  act_kept E1 place of act does alone groups = λ is.
      all_covered p task act.point (needs_of act.kind) (alone is) (none_at_all act.point (needs_of act.kind) (λ g below. groups g below is))
  act_kept E2 place of act does alone groups = λ is.
      all_covered p task act.point (needs_of act.kind) (alone is) (none_at_all act.point (needs_of act.kind) (λ g below. groups g below is))
  act_kept E3 place of act does alone groups = λ is.
      all_covered p task act.point (needs_of act.kind) (alone is) (none_at_all act.point (needs_of act.kind) (λ g below. groups g below is))
  act_kept E4 place of act does alone groups = joins_by place act.point act.kind does groups
  act_kept E5 place of act does alone groups = spawns_by place act.point act.kind does groups
  act_kept E6 place of act does alone groups = alone
  act_kept E7 place of act does alone groups = alone
  act_kept E8 place of act does alone groups = absurd (false≢true (sym of))

  -- a task of which all groups are done keeps each rule where nothing is listed
  pub task_kept : (rule : ERule) (place : Place) → is_of_methods rule ≡ false → All (λ (act : Act). KeepsAlone rule place task act.kind) acts
      → ((g : ℕ) → g < count → All (KeepsGroup p task (g * 128) rule place) acts) → KeepsThere p rule place task
  task_kept rule place of alone groups = λ k d below.
      act_kept rule place of (get_or acts k d) (Contains-get_or acts k d below) (alone k d below) (λ g less. groups g less k d below)

-- ---- all declarations
-- what holds of tasks and of methods holds of the declarations that a rule is for
pub all_keep : (p : Program) (a b : FoundFailures) → Grows p a b
    → ((rule : ERule) (place : Place) → is_of_methods rule ≡ false → IsUnlisted a rule place → All (KeepsThere p rule place) p.tasks)
    → ((place : Place) → IsUnlisted b E8 place → All (KeepsThere p E8 place) p.methods)
    → (rule : ERule) (place : Place) → IsUnlisted b rule place → All (KeepsThere p rule place) (decls_for p rule)
all_keep p a b grows tasks methods E1 place none = tasks E1 place refl (grows.keeps E1 place none)
all_keep p a b grows tasks methods E2 place none = tasks E2 place refl (grows.keeps E2 place none)
all_keep p a b grows tasks methods E3 place none = tasks E3 place refl (grows.keeps E3 place none)
all_keep p a b grows tasks methods E4 place none = tasks E4 place refl (grows.keeps E4 place none)
all_keep p a b grows tasks methods E5 place none = tasks E5 place refl (grows.keeps E5 place none)
all_keep p a b grows tasks methods E6 place none = tasks E6 place refl (grows.keeps E6 place none)
all_keep p a b grows tasks methods E7 place none = tasks E7 place refl (grows.keeps E7 place none)
all_keep p a b grows tasks methods E8 place none = methods place none
