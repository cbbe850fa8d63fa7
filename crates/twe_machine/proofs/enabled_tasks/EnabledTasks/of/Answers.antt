use Rattle.std.proofs.Common.{◌≡◌, ℕ, inl, inr, sym, subst, arith}
use Rattle.std.proofs.lemmas.Bool.{cases_lt}
use Rattle.std.proofs.lemmas.Option.{slice_get_within}
use Rattle.twe_machine.specs.Books.{IsEntered}
use Rattle.machine_state.specs.Rows.{IsRow}
use Rattle.twe_machine.proofs.enabled_tasks.EnabledTasks.of.Goals as goal

pub loop-t-init : goal.loop-t-init
loop-t-init c = record {
  all = λ s row e low here enabled has. absurd (omega (arith, low));
  decided = c.in_ok-enabled.ensures.decided c.args.st.now.links;
}

pub loop-t-preserved : goal.loop-t-preserved
loop-t-preserved c =
    let loop = c.loop-t in
    record {
      all = λ s row e low here enabled has.
          elim (cases_lt s loop.t) [
            | inl less ↦ c.in_ok-add_if_enabled.ensures.kept s e (row, here, enabled) (loop.invariant.all s row e less here enabled has)
            | inr high ↦
                let is : s ≡ loop.t = omega (arith, low, high) in
                subst (λ (n : ℕ). IsEntered c.add_if_enabled.new.self n e) (sym is)
                (c.in_ok-add_if_enabled.ensures.added row e (subst (λ (n : ℕ). IsRow c.args.st.now n row) is here) enabled has)
          ];
      decided = c.in_ok-add_if_enabled.ensures.decided;
    }

pub returns : goal.returns
returns c = record {
  all = λ s row e here enabled has.
      let within = slice_get_within c.args.st.now.tasks s row here in
      c.loop-t.invariant.all s row e (omega (arith, within)) here enabled has;
  decided = c.loop-t.invariant.decided;
}
