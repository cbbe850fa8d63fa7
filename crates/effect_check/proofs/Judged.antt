-- The failures that a body is judged by are those of the rules.
use Rattle.std.proofs.Common.{◌≡◌, ◌⊎◌, ◌<◌, ◌-◌, ℕ, Bool, true, false, not, ◌&&◌, ◌++◌, if◌then◌else◌, IsTrue, List, [], ◌∷◌, inl, inr, refl, sym, ap, ◌∙◌, subst}
use Rattle.std.proofs.lemmas.Bool.{false≢true}
use Rattle.std.specs.List.{Contains, list_all, list_any}
use Rattle.twe_base.specs.declared.place.Place.{Place}
use Rattle.effect_sets.specs.declared.effects.Effect.{Effect}
use Rattle.effect_sets.specs.declared.effects.Summary.{Summary}
use Rattle.effect_sets.specs.Covers.{covers}
use Rattle.effect_sets.specs.Interference.{statically_interferes}
use Rattle.twe_program.specs.declared.program.Decl.{Decl}
use Rattle.twe_program.specs.Program.{Program}
use Rattle.cover_flow.specs.declared.answers.Points.{Points}
use Rattle.cover_flow.specs.declared.facts.Fact.{Fact}
use Rattle.cover_flow.specs.Flow.{may_at, surely_at, is_among, fact_of, facts_at}
use Rattle.cover_flow.specs.Out.{MayBeOut, SurelyOut}
use Rattle.effect_check.specs.declared.act.Act.{Act}
use Rattle.effect_check.specs.declared.act.ActKind.{ActKind}
use Rattle.effect_check.specs.declared.act.ActKind.TheVariants.{Touch, Call, Make, Wait}
use Rattle.effect_check.specs.declared.rule.ERule.{ERule}
use Rattle.effect_check.specs.declared.rule.ERule.TheVariants.{E1, E2, E3, E4, E5, E6, E7, E8}
use Rattle.effect_check.specs.FailsEffect.{EffectFailure}
use Rattle.effect_check.specs.declared.futures.Spawn.{Spawn}
use Rattle.effect_check.specs.declared.futures.Futures.{Futures}
use Rattle.effect_check.specs.Acts.{acts_in_all}
use Rattle.effect_check.specs.Covered.{Does, CoveredAt}
use Rattle.effect_check.specs.FailsEffect.{TaskFails, MethodFails}
use Rattle.effect_check.specs.FailsEffect as rules
use Rattle.effect_check.specs.inner.Failures.{spawn_of, spawns_among, followed, bars, free, all_free, all_inside, declared_failures_at, declared_failures, future_failures_at, future_failures, task_failures, method_failures_at, method_failures, IsGroupOf, AreGroupsOf, AreFollowed}
use Rattle.twe_base.specs.First.{failure_if}
use Rattle.twe_base.proofs.Firsts.{if-in, in-if}
use Rattle.twe_base.proofs.Members.{IsIn, in-left, in-right, in-cases, contains-in, in-contains, both-true, true-both, list_all-in, in-list_all, list_any-in, in-list_any, all-in}
use Rattle.effect_check.specs.inner.Marks.{marks_of, marks_over, no_marks, meet}
use Rattle.effect_check.proofs.Range.{IsInRange, AllInRange}
use Rattle.effect_check.proofs.Regions.{own-meet}

-- what is gathered from acts, one after the other, comes from one of them
module _ {Y : Type 0} (g : Act → List Y) (h : List Act → List Y) (nil : h [] ≡ []) (cons : (a : Act) (as' : List Act) → h (a ∷ as') ≡ g a ++ h as') where
  gathered-in : (acts : List Act) (y : Y) → IsIn y (h acts) → (act : Act) × IsIn act acts × IsIn y (g act)
  gathered-in [] y i = absurd (subst (IsIn y) nil i)
  gathered-in (a ∷ others) y i = elim (in-cases y (g a) (h others) (subst (IsIn y) (cons a others) i)) [
    | inl here ↦ (a, inl refl, here)
    | inr later ↦ let found = gathered-in others y later in (found.0, inr found.1, found.2)
  ]

  in-gathered : (acts : List Act) (y : Y) (act : Act) → IsIn act acts → IsIn y (g act) → IsIn y (h acts)
  in-gathered [] y act there i = absurd there
  in-gathered (a ∷ others) y act (inl e) i =
      subst (IsIn y) (sym (cons a others)) (in-left y (g a) (h others) (subst (λ b. IsIn y (g b)) e i))
  in-gathered (a ∷ others) y act (inr there) i =
      subst (IsIn y) (sym (cons a others)) (in-right y (g a) (h others) (in-gathered others y act there i))

-- a test that fails, and passes
not_both : (b : Bool) → not b ≡ true → b ≡ true → ⊥
not_both true n y = false≢true n
not_both false n y = false≢true y

fails_cons : {X : Type 0} (t : X → Bool) (x : X) (xs : List X) (b : Bool) → t x ≡ b → not (b && list_all t xs) ≡ true
    → (not (list_all t xs) ≡ true → (y : X) × IsIn y xs × (not (t y) ≡ true)) → (y : X) × IsIn y (x ∷ xs) × (not (t y) ≡ true)
fails_cons t x xs true e n later = let found = later n in (found.0, inr found.1, found.2)
fails_cons t x xs false e n later = (x, inl refl, ap not e)

one_fails : {X : Type 0} (t : X → Bool) (xs : List X) → not (list_all t xs) ≡ true → (x : X) × IsIn x xs × (not (t x) ≡ true)
one_fails t [] n = absurd (false≢true n)
one_fails t (x ∷ xs) n = fails_cons t x xs (t x) refl n (one_fails t xs)

all_fails : {X : Type 0} (t : X → Bool) (xs : List X) (x : X) → IsIn x xs → not (t x) ≡ true → not (list_all t xs) ≡ true
all_fails t xs x i n = whole (list_all t xs) refl where
  whole : (b : Bool) → list_all t xs ≡ b → not b ≡ true
  whole true e = absurd (not_both (t x) n (list_all-in t xs e x i))
  whole false e = refl

-- what a spawn is made from
spawn-made : (kind : ActKind) (s : Spawn) → IsIn s (spawn_of kind)
    → (deterministic : Bool) × (future_place : Place) × (place : Place) × (kind ≡ Make s.future true deterministic s.effects future_place place)
spawn-made (Touch effect place) s i = absurd i
spawn-made (Call effects place) s i = absurd i
spawn-made (Make future true deterministic effects future_place place) s (inl e) =
    (deterministic, future_place, place, ap (λ (q : Spawn). Make q.future true deterministic q.effects future_place place) (sym e))
spawn-made (Make future true deterministic effects future_place place) s (inr none) = absurd none
spawn-made (Make future false deterministic effects future_place place) s i = absurd i
spawn-made (Wait future join place) s i = absurd i

-- the fact of a future that is not followed
abbrev absent : Fact
absent = record { out = false; not_out = false }

-- the spawns into followed futures, by whether the first is one
in_cons : (points : Points) (spawn : Spawn) (spawns : List Spawn) (s : Spawn) → is_among points.first s.future ≡ true
    → (IsIn s spawns → IsIn s (followed points spawns)) → (b : Bool) → is_among points.first spawn.future ≡ b
    → IsIn s (spawn ∷ spawns) → IsIn s (if b then spawn ∷ followed points spawns else followed points spawns)
in_cons points spawn spawns s e more true h i = elim i [ inl same ↦ inl same | inr later ↦ inr (more later) ]
in_cons points spawn spawns s e more false h i = elim i [
  | inl same ↦ absurd (false≢true (sym h ∙ ap (λ (q : Spawn). is_among points.first q.future) (sym same) ∙ e))
  | inr later ↦ more later
]

in-followed : (points : Points) (spawns : List Spawn) (s : Spawn) → IsIn s spawns → is_among points.first s.future ≡ true → IsIn s (followed points spawns)
in-followed points [] s i e = absurd i
in-followed points (spawn ∷ spawns) s i e =
    in_cons points spawn spawns s e (λ later. in-followed points spawns s later e) (is_among points.first spawn.future) refl i

cons_in : (points : Points) (spawn : Spawn) (spawns : List Spawn) (s : Spawn)
    → (IsIn s (followed points spawns) → IsIn s spawns × (is_among points.first s.future ≡ true)) → (b : Bool) → is_among points.first spawn.future ≡ b
    → IsIn s (if b then spawn ∷ followed points spawns else followed points spawns) → IsIn s (spawn ∷ spawns) × (is_among points.first s.future ≡ true)
cons_in points spawn spawns s more true h i = elim i [
  | inl same ↦ (inl same, ap (λ (q : Spawn). is_among points.first q.future) same ∙ h)
  | inr later ↦ let found = more later in (inr found.0, found.1)
]
cons_in points spawn spawns s more false h i = let found = more i in (inr found.0, found.1)

followed-in : (points : Points) (spawns : List Spawn) (s : Spawn) → IsIn s (followed points spawns) → IsIn s spawns × (is_among points.first s.future ≡ true)
followed-in points [] s i = absurd i
followed-in points (spawn ∷ spawns) s i =
    cons_in points spawn spawns s (λ j. followed-in points spawns s j) (is_among points.first spawn.future) refl i

module _ (p : Program) (task : Decl) (range : AllInRange task.body.points task.body.futures (acts_in_all p task.body.block)) where
  in_range : (point : ℕ) (kind : ActKind) → Does p task point kind → IsInRange task.body.points task.body.futures (record { point = point; kind = kind })
  in_range point kind does =
      let act : Act = record { point = point; kind = kind } in
      all-in (IsInRange task.body.points task.body.futures) (acts_in_all p task.body.block) range act (contains-in (acts_in_all p task.body.block) act does)

  spawned_in : (s : Spawn) → IsIn s (spawns_among (acts_in_all p task.body.block)) → (act : Act) × IsIn act (acts_in_all p task.body.block) × IsIn s (spawn_of act.kind)
  spawned_in s i = gathered-in (λ act. spawn_of act.kind) spawns_among refl (λ a others. refl) (acts_in_all p task.body.block) s i

  at_rule : (f : EffectFailure) (rule : ERule) (place : Place) → f ≡ record { rule = rule; place = place } → TaskFails p task rule place → TaskFails p task f.rule f.place
  at_rule f rule place e fails = subst (λ (g : EffectFailure). TaskFails p task g.rule g.place) (sym e) fails

  not_declared : (point : ℕ) (effect : Effect) → not (covers task.summary effect) ≡ true → ¬ CoveredAt p task point effect
  not_declared point effect n c = not_both (covers task.summary effect) n c.declared

  -- one group of futures
  module _ (fs : Futures) (group : IsGroupOf p task fs) where
    free_from : (point : ℕ) (effect : Effect) → point < task.body.points → CoveredAt p task point effect → free fs point effect ≡ true
    free_from point effect here c =
        in-list_all (λ s. not (bars fs.points point effect (marks_of effect) s)) fs.spawns (λ s i. unbarred s i (bars fs.points point effect (marks_of effect) s) refl) where
          barred : (s : Spawn) → IsIn s fs.spawns → bars fs.points point effect (marks_of effect) s ≡ true → ⊥
          barred s i e =
              let among = followed-in fs.points (spawns_among (acts_in_all p task.body.block)) s (subst (IsIn s) group.spawns i) in
              let made = spawned_in s among.0 in
              let kind = spawn-made made.0.kind s made.2 in
              let at : ActKind → Act = λ k. record { point = made.0.point; kind = k } in
              let there : IsIn (at (Make s.future true kind.0 s.effects kind.1 kind.2)) (acts_in_all p task.body.block) =
              subst (λ k. IsIn (at k) (acts_in_all p task.body.block)) kind.3 made.1 in
              let does : Does p task made.0.point (Make s.future true kind.0 s.effects kind.1 kind.2) = in-contains (acts_in_all p task.body.block) (at (Make s.future true kind.0 s.effects kind.1 kind.2)) there in
              let below = in_range made.0.point (Make s.future true kind.0 s.effects kind.1 kind.2) does in
              let parts = both-true (may_at fs.points point s.future)
              (meet s.marks (marks_of effect) && list_any (λ other. statically_interferes effect other) s.effects.effects) e in
              let inner = both-true (meet s.marks (marks_of effect)) (list_any (λ other. statically_interferes effect other) s.effects.effects) parts.1 in
              let found = list_any-in (λ other. statically_interferes effect other) s.effects.effects inner.1 in
              c.free made.0.point s.future kind.0 s.effects kind.1 kind.2 does ((group.flow.may point s.future here below.1 among.1).0 parts.0)
              found.0 (in-contains s.effects.effects found.0 found.1) found.2

          unbarred : (s : Spawn) → IsIn s fs.spawns → (b : Bool) → bars fs.points point effect (marks_of effect) s ≡ b → not b ≡ true
          unbarred s i true e = absurd (barred s i e)
          unbarred s i false e = refl

    not_free : (point : ℕ) (effect : Effect) → point < task.body.points → not (free fs point effect) ≡ true → ¬ CoveredAt p task point effect
    not_free point effect here n c = not_both (free fs point effect) n (free_from point effect here c)

    -- no future that is followed and may be out interferes
    nothing_bars : (point : ℕ) (effect : Effect) → point < task.body.points → free fs point effect ≡ true
        → (at future : ℕ) (deterministic : Bool) (effects : Summary) (future_place place : Place)
        → Does p task at (Make future true deterministic effects future_place place) → is_among fs.points.first future ≡ true → MayBeOut task.body point future
        → (other : Effect) → Contains effects.effects other → ¬ IsTrue (statically_interferes effect other)
    nothing_bars point effect here h at future deterministic effects future_place place does among out other contained interferes =
        let act : Act = record { point = at; kind = Make future true deterministic effects future_place place } in
        let own = marks_over false no_marks effects.effects in
        let s : Spawn = record { future = future; effects = effects; marks = own } in
        let i : IsIn act (acts_in_all p task.body.block) = contains-in (acts_in_all p task.body.block) act does in
        let j : IsIn s (spawns_among (acts_in_all p task.body.block)) =
        in-gathered (λ a. spawn_of a.kind) spawns_among refl (λ a others. refl) (acts_in_all p task.body.block) s act i (inl refl) in
        let k : IsIn s (followed fs.points (spawns_among (acts_in_all p task.body.block))) = in-followed fs.points (spawns_among (acts_in_all p task.body.block)) s j among in
        let unbarred : not (bars fs.points point effect (marks_of effect) s) ≡ true =
        list_all-in (λ q. not (bars fs.points point effect (marks_of effect) q)) fs.spawns h s (subst (IsIn s) (sym group.spawns) k) in
        let below = in_range at (Make future true deterministic effects future_place place) does in
        let held : IsIn other effects.effects = contains-in effects.effects other contained in
        let barred : bars fs.points point effect (marks_of effect) s ≡ true =
        true-both (may_at fs.points point future) (meet own (marks_of effect) && list_any (λ b. statically_interferes effect b) effects.effects)
        ((group.flow.may point future here below.1 among).1 out)
        (true-both (meet own (marks_of effect)) (list_any (λ b. statically_interferes effect b) effects.effects)
        (own-meet effects.effects effect other held interferes)
        (in-list_any (λ b. statically_interferes effect b) effects.effects other held interferes)) in
        not_both (bars fs.points point effect (marks_of effect) s) unbarred barred

    -- what is said of a future, also if it is not followed
    not_surely_by : (point future : ℕ) → point < task.body.points → future < task.body.futures → (b : Bool) → is_among fs.points.first future ≡ b
        → not (surely_at fs.points point future) ≡ true → ¬ SurelyOut task.body point future
    not_surely_by point future here below true e n surely = not_both (surely_at fs.points point future) n ((group.flow.surely point future here below e).1 surely)
    not_surely_by point future here below false e n surely =
        not_both (surely_at fs.points point future) n (ap (λ b. not (if b then fact_of (facts_at fs.points point) (future - fs.points.first) else absent).not_out) e)

    may_by : (point future : ℕ) → point < task.body.points → future < task.body.futures → (b : Bool) → is_among fs.points.first future ≡ b
        → may_at fs.points point future ≡ true → MayBeOut task.body point future
    may_by point future here below true e h = (group.flow.may point future here below e).0 h
    may_by point future here below false e h =
        absurd (false≢true (sym (ap (λ b. (if b then fact_of (facts_at fs.points point) (future - fs.points.first) else absent).out) e) ∙ h))

    future_fails_at : (point : ℕ) (kind : ActKind) → Does p task point kind → (f : EffectFailure) → IsIn f (future_failures_at fs point kind) → TaskFails p task f.rule f.place
    future_fails_at point (Touch effect place) does f i =
        let q = if-in (not (free fs point effect)) E1 place f i in
        let here = (in_range point (Touch effect place) does).0 in
        at_rule f E1 place q.1 (rules.access point effect place does (not_free point effect here q.0))
    future_fails_at point (Call effects place) does f i =
        let q = if-in (not (all_free fs point effects)) E2 place f i in
        let here = (in_range point (Call effects place) does).0 in
        let one = one_fails (λ e. free fs point e) effects.effects q.0 in
        at_rule f E2 place q.1 (rules.called point effects one.0 place does (in-contains effects.effects one.0 one.1) (not_free point one.0 here one.2))
    future_fails_at point (Make future true deterministic effects future_place place) does f i =
        let there = in_range point (Make future true deterministic effects future_place place) does in
        elim (in-cases f (failure_if (may_at fs.points point future) E5 future_place) (failure_if (not (all_free fs point effects)) E3 place) i) [
          | inl j ↦
              let q = if-in (may_at fs.points point future) E5 future_place f j in
              at_rule f E5 future_place q.1 (rules.spawned_again point future deterministic effects future_place place does
              (may_by point future there.0 there.1 (is_among fs.points.first future) refl q.0))
          | inr j ↦
              let q = if-in (not (all_free fs point effects)) E3 place f j in
              let one = one_fails (λ e. free fs point e) effects.effects q.0 in
              at_rule f E3 place q.1 (rules.spawned point future deterministic effects one.0 future_place place does (in-contains effects.effects one.0 one.1) (not_free point one.0 there.0 one.2))
        ]
    future_fails_at point (Make future false deterministic effects future_place place) does f i = absurd i
    future_fails_at point (Wait future true place) does f i =
        let q = if-in (not (surely_at fs.points point future)) E4 place f i in
        let there = in_range point (Wait future true place) does in
        at_rule f E4 place q.1 (rules.joined point future place does (not_surely_by point future there.0 there.1 (is_among fs.points.first future) refl q.0))
    future_fails_at point (Wait future false place) does f i = absurd i

    future_listed-fails : (f : EffectFailure) → IsIn f (future_failures fs (acts_in_all p task.body.block)) → TaskFails p task f.rule f.place
    future_listed-fails f i =
        let found = gathered-in (λ act. future_failures_at fs act.point act.kind) (future_failures fs) refl (λ a others. refl) (acts_in_all p task.body.block) f i in
        future_fails_at found.0.point found.0.kind (in-contains (acts_in_all p task.body.block) found.0 found.1) f found.2

    surely_not : (point future : ℕ) → point < task.body.points → future < task.body.futures → is_among fs.points.first future ≡ true
        → ¬ SurelyOut task.body point future → not (surely_at fs.points point future) ≡ true
    surely_not point future here below among n = by_test (surely_at fs.points point future) refl where
      by_test : (b : Bool) → surely_at fs.points point future ≡ b → not b ≡ true
      by_test true e = absurd (n ((group.flow.surely point future here below among).0 e))
      by_test false e = refl

  declared_fails_at : (point : ℕ) (kind : ActKind) → Does p task point kind → (f : EffectFailure) → IsIn f (declared_failures_at task kind) → TaskFails p task f.rule f.place
  declared_fails_at point (Touch effect place) does f i =
      let q = if-in (not (covers task.summary effect)) E1 place f i in
      at_rule f E1 place q.1 (rules.access point effect place does (not_declared point effect q.0))
  declared_fails_at point (Call effects place) does f i =
      let q = if-in (not (all_inside task.summary effects)) E2 place f i in
      let one = one_fails (λ e. covers task.summary e) effects.effects q.0 in
      at_rule f E2 place q.1 (rules.called point effects one.0 place does (in-contains effects.effects one.0 one.1) (not_declared point one.0 one.2))
  declared_fails_at point (Make future true deterministic effects future_place place) does f i =
      elim (in-cases f (failure_if (not (all_inside task.summary effects)) E3 place) (failure_if (task.deterministic && not deterministic) E7 place) i) [
        | inl j ↦
            let q = if-in (not (all_inside task.summary effects)) E3 place f j in
            let one = one_fails (λ e. covers task.summary e) effects.effects q.0 in
            at_rule f E3 place q.1 (rules.spawned point future deterministic effects one.0 future_place place does (in-contains effects.effects one.0 one.1) (not_declared point one.0 one.2))
        | inr j ↦
            let q = if-in (task.deterministic && not deterministic) E7 place f j in
            let both = both-true task.deterministic (not deterministic) q.0 in
            at_rule f E7 place q.1 (plain deterministic both.1 does both.0)
      ] where
        plain : (d : Bool) → not d ≡ true → Does p task point (Make future true d effects future_place place) → IsTrue task.deterministic → TaskFails p task E7 place
        plain true n made strict = absurd (false≢true n)
        plain false n made strict = rules.not_deterministic point future effects future_place place made strict
  declared_fails_at point (Make future false deterministic effects future_place place) does f i =
      let q = if-in task.deterministic E6 place f i in
      at_rule f E6 place q.1 (rules.made_later point future deterministic effects future_place place does q.0)
  declared_fails_at point (Wait future true place) does f i = absurd i
  declared_fails_at point (Wait future false place) does f i =
      let q = if-in task.deterministic E6 place f i in
      at_rule f E6 place q.1 (rules.waited point future place does q.0)

  declared_listed-fails : (f : EffectFailure) → IsIn f (declared_failures task (acts_in_all p task.body.block)) → TaskFails p task f.rule f.place
  declared_listed-fails f i =
      let found = gathered-in (λ act. declared_failures_at task act.kind) (declared_failures task) refl (λ a others. refl) (acts_in_all p task.body.block) f i in
      declared_fails_at found.0.point found.0.kind (in-contains (acts_in_all p task.body.block) found.0 found.1) f found.2

  -- each listed failure is one of the rules
  pub listed-fails : (groups : List Futures) → AreGroupsOf p task groups → (f : EffectFailure) → IsIn f (task_failures task groups (acts_in_all p task.body.block)) → TaskFails p task f.rule f.place
  listed-fails [] are f i = declared_listed-fails f i
  listed-fails (fs ∷ groups) are f i =
      elim (in-cases f (task_failures task groups (acts_in_all p task.body.block)) (future_failures fs (acts_in_all p task.body.block)) i) [
        | inl before ↦ listed-fails groups are.1 f before
        | inr here ↦ future_listed-fails fs are.0 f here
      ]

  -- what is declared, and what a group makes, is listed
  declared-listed : (groups : List Futures) (point : ℕ) (kind : ActKind) → Does p task point kind → (f : EffectFailure) → IsIn f (declared_failures_at task kind)
      → IsIn f (task_failures task groups (acts_in_all p task.body.block))
  declared-listed [] point kind does f i =
      let act : Act = record { point = point; kind = kind } in
      in-gathered (λ a. declared_failures_at task a.kind) (declared_failures task) refl (λ a others. refl) (acts_in_all p task.body.block) f act
      (contains-in (acts_in_all p task.body.block) act does) i
  declared-listed (fs ∷ groups) point kind does f i =
      in-left f (task_failures task groups (acts_in_all p task.body.block)) (future_failures fs (acts_in_all p task.body.block)) (declared-listed groups point kind does f i)

  group-listed : (groups : List Futures) (fs : Futures) → IsIn fs groups → (point : ℕ) (kind : ActKind) → Does p task point kind → (f : EffectFailure)
      → IsIn f (future_failures_at fs point kind) → IsIn f (task_failures task groups (acts_in_all p task.body.block))
  group-listed [] fs there point kind does f i = absurd there
  group-listed (gs ∷ groups) fs (inl same) point kind does f i =
      let act : Act = record { point = point; kind = kind } in
      in-right f (task_failures task groups (acts_in_all p task.body.block)) (future_failures gs (acts_in_all p task.body.block))
      (in-gathered (λ a. future_failures_at gs a.point a.kind) (future_failures gs) refl (λ a others. refl) (acts_in_all p task.body.block) f act
      (contains-in (acts_in_all p task.body.block) act does) (subst (λ g. IsIn f (future_failures_at g point kind)) same i))
  group-listed (gs ∷ groups) fs (inr there) point kind does f i =
      in-left f (task_failures task groups (acts_in_all p task.body.block)) (future_failures gs (acts_in_all p task.body.block)) (group-listed groups fs there point kind does f i)

  -- all groups, in which each future is followed
  module _ (groups : List Futures) (are : AreGroupsOf p task groups) (all : AreFollowed task.body.futures groups) where
    group_of : (future : ℕ) → future < task.body.futures → (fs : Futures) × IsIn fs groups × (is_among fs.points.first future ≡ true) × IsGroupOf p task fs
    group_of future below =
        let found = list_any-in (λ (futures : Futures). is_among futures.points.first future) groups (all future below) in
        (found.0, found.1, found.2, all-in (IsGroupOf p task) groups are found.0 found.1)

    -- what is declared and free of all groups is covered
    covered_by : (point : ℕ) (effect : Effect) → point < task.body.points → covers task.summary effect ≡ true → list_all (λ fs. free fs point effect) groups ≡ true
        → CoveredAt p task point effect
    covered_by point effect here declared frees = record {
      declared = declared;
      free = λ at future deterministic effects future_place place does out other contained interferes.
          let below = in_range at (Make future true deterministic effects future_place place) does in
          let found = group_of future below.1 in
          nothing_bars found.0 found.3 point effect here (list_all-in (λ fs. free fs point effect) groups frees found.0 found.1)
          at future deterministic effects future_place place does found.2 out other contained interferes;
    }

    -- an effect that is not covered is not declared, or not free of some group
    uncovered : (point : ℕ) (effect : Effect) → point < task.body.points → ¬ CoveredAt p task point effect
        → (not (covers task.summary effect) ≡ true) ⊎ ((fs : Futures) × IsIn fs groups × (not (free fs point effect) ≡ true))
    uncovered point effect here n = by_test (covers task.summary effect) refl (list_all (λ fs. free fs point effect) groups) refl where
      by_test : (b : Bool) → covers task.summary effect ≡ b → (c : Bool) → list_all (λ fs. free fs point effect) groups ≡ c
          → (not (covers task.summary effect) ≡ true) ⊎ ((fs : Futures) × IsIn fs groups × (not (free fs point effect) ≡ true))
      by_test false e c h = inl (ap not e)
      by_test true e true h = absurd (n (covered_by point effect here e h))
      by_test true e false h = inr (one_fails (λ fs. free fs point effect) groups (ap not h))

    -- each failure of the rules is listed
    pub fails-listed : (rule : ERule) (place : Place) → TaskFails p task rule place → IsIn (record { rule = rule; place = place }) (task_failures task groups (acts_in_all p task.body.block))
    fails-listed _ _ (rules.access point effect place does n) =
        let f : EffectFailure = record { rule = E1; place = place } in
        elim (uncovered point effect (in_range point (Touch effect place) does).0 n) [
          | inl bare ↦ declared-listed groups point (Touch effect place) does f (in-if (not (covers task.summary effect)) E1 place bare)
          | inr found ↦ group-listed groups found.0 found.1 point (Touch effect place) does f (in-if (not (free found.0 point effect)) E1 place found.2)
        ]
    fails-listed _ _ (rules.called point effects effect place does contained n) =
        let f : EffectFailure = record { rule = E2; place = place } in
        let i = contains-in effects.effects effect contained in
        elim (uncovered point effect (in_range point (Call effects place) does).0 n) [
          | inl bare ↦ declared-listed groups point (Call effects place) does f
              (in-if (not (all_inside task.summary effects)) E2 place (all_fails (λ e. covers task.summary e) effects.effects effect i bare))
          | inr found ↦ group-listed groups found.0 found.1 point (Call effects place) does f
              (in-if (not (all_free found.0 point effects)) E2 place (all_fails (λ e. free found.0 point e) effects.effects effect i found.2))
        ]
    fails-listed _ _ (rules.spawned point future deterministic effects effect future_place place does contained n) =
        let f : EffectFailure = record { rule = E3; place = place } in
        let kind : ActKind = Make future true deterministic effects future_place place in
        let i = contains-in effects.effects effect contained in
        elim (uncovered point effect (in_range point kind does).0 n) [
          | inl bare ↦ declared-listed groups point kind does f
              (in-left f (failure_if (not (all_inside task.summary effects)) E3 place) (failure_if (task.deterministic && not deterministic) E7 place)
              (in-if (not (all_inside task.summary effects)) E3 place (all_fails (λ e. covers task.summary e) effects.effects effect i bare)))
          | inr found ↦ group-listed groups found.0 found.1 point kind does f
              (in-right f (failure_if (may_at found.0.points point future) E5 future_place) (failure_if (not (all_free found.0 point effects)) E3 place)
              (in-if (not (all_free found.0 point effects)) E3 place (all_fails (λ e. free found.0 point e) effects.effects effect i found.2)))
        ]
    fails-listed _ _ (rules.joined point future place does n) =
        let there = in_range point (Wait future true place) does in
        let found = group_of future there.1 in
        group-listed groups found.0 found.1 point (Wait future true place) does (record { rule = E4; place = place })
        (in-if (not (surely_at found.0.points point future)) E4 place (surely_not found.0 found.3 point future there.0 there.1 found.2 n))
    fails-listed _ _ (rules.spawned_again point future deterministic effects future_place place does out) =
        let kind : ActKind = Make future true deterministic effects future_place place in
        let there = in_range point kind does in
        let found = group_of future there.1 in
        let f : EffectFailure = record { rule = E5; place = future_place } in
        group-listed groups found.0 found.1 point kind does f
        (in-left f (failure_if (may_at found.0.points point future) E5 future_place) (failure_if (not (all_free found.0 point effects)) E3 place)
        (in-if (may_at found.0.points point future) E5 future_place ((found.3.flow.may point future there.0 there.1 found.2).1 out)))
    fails-listed _ _ (rules.made_later point future deterministic effects future_place place does strict) =
        declared-listed groups point (Make future false deterministic effects future_place place) does (record { rule = E6; place = place }) (in-if task.deterministic E6 place strict)
    fails-listed _ _ (rules.waited point future place does strict) =
        declared-listed groups point (Wait future false place) does (record { rule = E6; place = place }) (in-if task.deterministic E6 place strict)
    fails-listed _ _ (rules.not_deterministic point future effects future_place place does strict) =
        let f : EffectFailure = record { rule = E7; place = place } in
        declared-listed groups point (Make future true false effects future_place place) does f
        (in-right f (failure_if (not (all_inside task.summary effects)) E3 place) (failure_if (task.deterministic && true) E7 place)
        (in-if (task.deterministic && true) E7 place (true-both task.deterministic true strict refl)))

module _ (p : Program) (method : Decl) where
  at_method_rule : (f : EffectFailure) (rule : ERule) (place : Place) → f ≡ record { rule = rule; place = place } → MethodFails p method rule place → MethodFails p method f.rule f.place
  at_method_rule f rule place e fails = subst (λ (g : EffectFailure). MethodFails p method g.rule g.place) (sym e) fails

  outside : (effect : Effect) → not (covers method.summary effect) ≡ true → ¬ IsTrue (covers method.summary effect)
  outside effect n y = not_both (covers method.summary effect) n y

  not_inside : (effect : Effect) → ¬ IsTrue (covers method.summary effect) → not (covers method.summary effect) ≡ true
  not_inside effect n = by_test (covers method.summary effect) refl where
    by_test : (b : Bool) → covers method.summary effect ≡ b → not b ≡ true
    by_test true e = absurd (n e)
    by_test false e = refl

  method_fails_at : (point : ℕ) (kind : ActKind) → Does p method point kind → (f : EffectFailure) → IsIn f (method_failures_at method kind) → MethodFails p method f.rule f.place
  method_fails_at point (Touch effect place) does f i =
      let q = if-in (not (covers method.summary effect)) E8 place f i in
      at_method_rule f E8 place q.1 (rules.access_outside point effect place does (outside effect q.0))
  method_fails_at point (Call effects place) does f i =
      let q = if-in (not (all_inside method.summary effects)) E8 place f i in
      let one = one_fails (λ e. covers method.summary e) effects.effects q.0 in
      at_method_rule f E8 place q.1 (rules.called_outside point effects one.0 place does (in-contains effects.effects one.0 one.1) (outside one.0 one.2))
  method_fails_at point (Make future spawned deterministic effects future_place place) does f i = absurd i
  method_fails_at point (Wait future join place) does f i = absurd i

  -- each listed failure is one of the rule
  pub listed-method_fails : (f : EffectFailure) → IsIn f (method_failures method (acts_in_all p method.body.block)) → MethodFails p method f.rule f.place
  listed-method_fails f i =
      let found = gathered-in (λ act. method_failures_at method act.kind) (method_failures method) refl (λ a others. refl) (acts_in_all p method.body.block) f i in
      method_fails_at found.0.point found.0.kind (in-contains (acts_in_all p method.body.block) found.0 found.1) f found.2

  method_listed_at : (point : ℕ) (kind : ActKind) → Does p method point kind → (f : EffectFailure) → IsIn f (method_failures_at method kind)
      → IsIn f (method_failures method (acts_in_all p method.body.block))
  method_listed_at point kind does f i =
      let act : Act = record { point = point; kind = kind } in
      in-gathered (λ a. method_failures_at method a.kind) (method_failures method) refl (λ a others. refl) (acts_in_all p method.body.block) f act
      (contains-in (acts_in_all p method.body.block) act does) i

  -- each failure of the rule is listed
  pub method_fails-listed : (rule : ERule) (place : Place) → MethodFails p method rule place → IsIn (record { rule = rule; place = place }) (method_failures method (acts_in_all p method.body.block))
  method_fails-listed _ _ (rules.access_outside point effect place does n) =
      method_listed_at point (Touch effect place) does (record { rule = E8; place = place })
      (in-if (not (covers method.summary effect)) E8 place (not_inside effect n))
  method_fails-listed _ _ (rules.called_outside point effects effect place does contained n) =
      method_listed_at point (Call effects place) does (record { rule = E8; place = place })
      (in-if (not (all_inside method.summary effects)) E8 place
      (all_fails (λ e. covers method.summary e) effects.effects effect (contains-in effects.effects effect contained) (not_inside effect n)))
