use Rattle.std.proofs.Common.{◌≡◌, ◌≤◌, ◌++◌, ℕ, List, [], ◌∷◌, length, refl, sym, ap, ◌∙◌, subst, arith}
use Rattle.std.proofs.lemmas.List.Elements.{All-push}
use Rattle.std.specs.List.{All}
use Rattle.twe_base.specs.Language.{max_text_bytes}
use Rattle.par_check.proofs.Cutting.{last-program, less-left, one-program-more}
use Rattle.par_check.proofs.cut.programs_of.Goals as goal

-- what comes after a mark is shorter
pub loop-program-smaller : goal.loop-program-smaller
loop-program-smaller c =
    let less = less-left c.loop-program.rest.now c.in-Some.ensures.mark in
    omega (arith, less, ap length c.in-Some.ensures.after)

-- a program more
pub loop-program-preserved : goal.loop-program-preserved
loop-program-preserved c =
    let rest = c.loop-program.rest.now in
    let program : c.in_ok-from_slice.field-0 ≡ c.in-Some.program.now = c.in_ok-from_slice.ensures in
    let less = less-left rest c.in-Some.ensures.mark in
    let fits : length c.in_ok-from_slice.field-0 ≤ max_text_bytes =
    omega (arith, less, ap length program, ap length c.in-Some.ensures.before, c.loop-program.invariant.within) in
    record {
      cut = one-program-more c.args.batch.now rest c.in_ok-from_slice.field-0 c.in-Some.after.now c.loop-program.texts c.push.new.self
          c.in-Some.ensures.mark (program ∙ c.in-Some.ensures.before) c.in-Some.ensures.after c.in_ok-push.ensures.ok c.loop-program.invariant.cut;
      short = subst (All (λ text. length text ≤ max_text_bytes)) (sym c.in_ok-push.ensures.ok)
          (All-push (λ text. length text ≤ max_text_bytes) c.loop-program.texts c.in_ok-from_slice.field-0 c.loop-program.invariant.short fits);
      within = omega (arith, less, ap length c.in-Some.ensures.after, c.loop-program.invariant.within);
    }

-- the last program
pub returns-clause-cut : goal.returns-clause-cut
returns-clause-cut c =
    last-program c.args.batch.now c.loop-program.rest.now c.loop-program.texts c.push-2.new.self (c.in_default.ensures.none refl)
    (c.in_ok-push-2.ensures.ok ∙ ap (λ (text : List ℕ). c.loop-program.texts ++ text ∷ []) c.in_ok-from_slice-2.ensures) c.loop-program.invariant.cut
