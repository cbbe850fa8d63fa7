-- One group of futures after another: the first failure so far becomes the first of one group more.
use Rattle.std.proofs.Common.{◌≡◌, ◌<◌, ◌≤◌, ℕ, ◌+◌, ◌-◌, true, false, not, ◌&&◌, List, [], ◌∷◌, Option, inl, inr, sym, ap, ◌∙◌, subst, arith}
use Rattle.std.specs.Prelude.{nat_le, nat_lt}
use Rattle.std.specs.List.{list_any}
use Rattle.std.proofs.lemmas.Bool.{and_from, le-leb, lt-ltb, cases_lt}
use Rattle.effect_sets.specs.declared.effects.Effect.{Effect}
use Rattle.effect_sets.specs.Interference.{statically_interferes}
use Rattle.twe_program.specs.declared.program.Decl.{Decl}
use Rattle.twe_program.specs.Program.{Program}
use Rattle.cover_flow.specs.Flow.{is_among, may_at}
use Rattle.effect_check.specs.declared.act.Act.{Act}
use Rattle.effect_check.specs.declared.futures.Spawn.{Spawn}
use Rattle.effect_check.specs.declared.futures.Futures.{Futures}
use Rattle.effect_check.specs.Acts.{acts_in_all}
use Rattle.effect_check.specs.FailsEffect.{EffectFailure}
use Rattle.effect_check.specs.inner.Failures.{spawns_among, followed, bars, free, first_from, declared_failures, task_failures, future_failures, AreFollowed, JudgesGroup, JudgesFirst, JudgesTask}
use Rattle.effect_check.specs.inner.Marks.{marks_of, meet}
use Rattle.twe_base.proofs.Members.{in-list_all, true-or}
use Rattle.effect_check.proofs.Firsts.{first_from-append}

-- before the first group
pub declared-first : (p : Program) (task : Decl) (first later : Option EffectFailure) → later ≡ first_from first (declared_failures task (acts_in_all p task.body.block))
    → JudgesFirst p task 0 first later
declared-first p task first later judged = record {
  groups = [];
  are = tt;
  followed = λ f below. absurd (omega (arith, below));
  judged = judged;
}

followed-more : (count : ℕ) (groups : List Futures) (fs : Futures) → fs.points.first ≡ count → AreFollowed count groups → AreFollowed (count + 128) (fs ∷ groups)
followed-more count groups fs start all f below =
    let first = fs.points.first in
    elim (cases_lt f count) [
      | inl before ↦
          true-or (is_among first f) (list_any (λ (futures : Futures). is_among futures.points.first f) groups) (inr (all f before))
      | inr from ↦
          let le : first ≤ f = omega arith in
          let lt : f - first < 128 = omega arith in
          true-or (is_among first f) (list_any (λ (futures : Futures). is_among futures.points.first f) groups)
          (inl (and_from (nat_le first f) (nat_lt (f - first) 128) (le-leb first f le) (lt-ltb (f - first) 128 lt)))
    ]

pub group-more : (p : Program) (task : Decl) (count : ℕ) (first between later : Option EffectFailure) (acts : List Act) (spawns : List Spawn)
    → acts ≡ acts_in_all p task.body.block → spawns ≡ spawns_among acts
    → JudgesFirst p task count first between → JudgesGroup task.body acts spawns count between later → JudgesFirst p task (count + 128) first later
group-more p task count first between later acts spawns are_acts are_spawns so_far group =
    let all = acts_in_all p task.body.block in
    let fs : Futures = group.futures in
    let before = task_failures task so_far.groups all in
    let judged : later ≡ first_from between (future_failures fs all) =
    subst (λ xs. later ≡ first_from between (future_failures fs xs)) are_acts group.judged in
    record {
      groups = fs ∷ so_far.groups;
      are = (
        record { flow = group.flow; spawns = subst (λ xs. fs.spawns ≡ followed fs.points xs) (are_spawns ∙ ap spawns_among are_acts) group.spawns_are },
        so_far.are,
      );
      followed = followed-more count so_far.groups fs group.start_is so_far.followed;
      judged = judged ∙ ap (λ o. first_from o (future_failures fs all)) so_far.judged ∙ sym (first_from-append first before (future_failures fs all));
    }

pub all-groups : (p : Program) (task : Decl) (count : ℕ) (first later : Option EffectFailure) → task.body.futures ≤ count → JudgesFirst p task count first later → JudgesTask p task first later
all-groups p task count first later enough so_far = record {
  groups = so_far.groups;
  are = so_far.are;
  followed = λ f below. so_far.followed f (omega arith);
  judged = so_far.judged;
}

-- if none of them may be out, nothing bars an effect
pub free-none : (fs : Futures) (point : ℕ) (effect : Effect) → ((future : ℕ) → may_at fs.points point future ≡ false) → true ≡ free fs point effect
free-none fs point effect none =
    sym (in-list_all (λ s. not (bars fs.points point effect (marks_of effect) s)) fs.spawns
    (λ s i. ap (λ b. not (b && (meet s.marks (marks_of effect) && list_any (λ other. statically_interferes effect other) s.effects.effects))) (none s.future)))
