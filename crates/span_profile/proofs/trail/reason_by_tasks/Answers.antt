use Rattle.std.proofs.Common.{◌≡◌, ℕ, Bool, true, false, Option, None, Some, refl, sym, ap, ◌∙◌}
use Rattle.std.specs.Prelude.{◌==◌}
use Rattle.std.specs.Option.{option_eq}
use Rattle.std.proofs.lemmas.Bool.{eq-eqb, eqb-true}
use Rattle.span_profile.specs.Reasons.{goes_on, made, took}
use Rattle.span_profile.proofs.trail.reason_by_tasks.Goals as goal

-- a number that may be missing is this one
option_is : (o : Option ℕ) (n : ℕ) → option_eq ◌==◌ o (Some n) ≡ true → o ≡ Some n
option_is None n e = absurd (cc)
option_is (Some m) n e = ap Some (eqb-true m n e)

is_option : (o : Option ℕ) (n : ℕ) → o ≡ Some n → option_eq ◌==◌ o (Some n) ≡ true
is_option o n same = ap (λ (x : Option ℕ). option_eq ◌==◌ x (Some n)) same ∙ eq-eqb n n refl

pub returns-then-last-deed-clause-told : goal.returns-then-last-deed-clause-told
returns-then-last-deed-clause-told c = λ p a b l same taken. goes_on (sym l.task ∙ (c.if-last-deed.true ∙ sym same))

pub returns-then-eq-clause-told : goal.returns-then-eq-clause-told
returns-then-eq-clause-told c = λ p a b l same taken.
    let other = λ (eq : a.task ≡ b.task). c.if-last-deed.false (l.task ∙ (eq ∙ same)) in
    let child = option_is c.args.last.made c.args.deed.now.task (sym c.eq.ensures ∙ c.if-eq.true) in
    made other (sym l.made ∙ (child ∙ ap Some (sym same)))

pub returns-then-eq-2-clause-told : goal.returns-then-eq-2-clause-told
returns-then-eq-2-clause-told c = λ p a b l same taken.
    let other = λ (eq : a.task ≡ b.task). c.if-last-deed.false (l.task ∙ (eq ∙ same)) in
    let unmade = λ (eq : a.made ≡ Some b.task).
    let yes = is_option c.args.last.made c.args.deed.now.task (l.made ∙ (eq ∙ ap Some same)) in
    let no : option_eq ◌==◌ c.args.last.made (Some c.args.deed.now.task) ≡ false = sym c.eq.ensures ∙ c.if-eq.false in
    let never : true ≡ false = sym yes ∙ no in absurd (cc) in
    let value = option_is c.args.deed.now.taken c.args.last.task (sym c.eq-then-last.ensures ∙ c.if-eq-2.true) in
    took other unmade (sym l.done ∙ c.if-last.true) (taken ∙ (value ∙ ap Some l.task))
