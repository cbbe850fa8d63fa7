-- Where there are ways after statements is what `cover_flow` sees after them.
use Rattle.std.proofs.Common.{◌≡◌, ℕ, Bool, true, false, ◌||◌, refl, ap, ◌∙◌, if◌then◌else◌}
use Rattle.std.specs.Prelude.{Option, None, Some, nat_lt, is_some, option_map}
use Rattle.twe_program.specs.Statement.{Statement, Block, If, While, Return, Statements, no_more, statement, Arms, arm, otherwise, no_else}
use Rattle.cover_flow.specs.declared.facts.Fact.{Fact}
use Rattle.cover_flow.specs.Out.{puts_out, takes_in}
use Rattle.cover_flow.specs.inner.After as flow
use Rattle.cover_flow.specs.inner.After.{joined, put_out, taken_in, after_simple, after_all, after_one}
use Rattle.cover_flow.proofs.WordLaws.{fact, halves, joined-assoc}
use Rattle.refusal_causes.specs.declared.way.ControlWay.{ControlWay}
use Rattle.refusal_causes.specs.declared.ways.OutWays.{OutWays}
use Rattle.refusal_causes.specs.inner.Traced.{nowhere, shorter, either, carried, stepped, traced, traced_all, traced_one}

-- whether there is a way on which the future is out, and one on which it is not
abbrev pub seen : OutWays → Fact
seen ways = record { out = is_some ways.out; not_out = is_some ways.not_out }

shorter_some : (less : Bool) (x y : ControlWay) → is_some (if less then Some y else Some x) ≡ true
shorter_some true x y = refl
shorter_some false x y = refl

or-some : (a b : Option ControlWay) → is_some (shorter a b) ≡ (is_some a || is_some b)
or-some None b = refl
or-some (Some x) None = refl
or-some (Some x) (Some y) = shorter_some (nat_lt y.places.count x.places.count) x y

map-some : (g : ControlWay → ControlWay) (o : Option ControlWay) → is_some (option_map g o) ≡ is_some o
map-some g None = refl
map-some g (Some x) = refl

pub either-seen : (a b : OutWays) → seen (either a b) ≡ joined (seen a) (seen b)
either-seen a b =
    halves (is_some (shorter a.out b.out)) (is_some a.out || is_some b.out)
    (is_some (shorter a.not_out b.not_out)) (is_some a.not_out || is_some b.not_out) (or-some a.out b.out) (or-some a.not_out b.not_out)

both-some : (g : ControlWay → ControlWay) (ways : OutWays) → is_some (shorter (option_map g ways.out) (option_map g ways.not_out)) ≡ (is_some ways.out || is_some ways.not_out)
both-some g ways =
    or-some (option_map g ways.out) (option_map g ways.not_out)
    ∙ ap (λ b. b || is_some (option_map g ways.not_out)) (map-some g ways.out)
    ∙ ap (λ b. is_some ways.out || b) (map-some g ways.not_out)

stepped_by : (g : ControlWay → ControlWay) (puts takes : Bool) (ways : OutWays)
    → seen (if puts then record { out = shorter (option_map g ways.out) (option_map g ways.not_out); not_out = None }
    else (if takes then record { out = None; not_out = shorter (option_map g ways.out) (option_map g ways.not_out) }
    else record { out = option_map g ways.out; not_out = option_map g ways.not_out }))
    ≡ (if puts then put_out (seen ways) else (if takes then taken_in (seen ways) else seen ways))
stepped_by g true takes ways = ap (λ b. fact b false) (both-some g ways)
stepped_by g false true ways = ap (fact false) (both-some g ways)
stepped_by g false false ways =
    halves (is_some (option_map g ways.out)) (is_some ways.out) (is_some (option_map g ways.not_out)) (is_some ways.not_out)
    (map-some g ways.out) (map-some g ways.not_out)

pub stepped-seen : (f : ℕ) (s : Statement) (ways : OutWays) → seen (stepped f s ways) ≡ after_simple f s (seen ways)
stepped-seen f s ways = stepped_by (carried f s) (puts_out f s) (takes_in f s) ways

mutual
  pub traced-seen : (f : ℕ) (s : Statement) (ways : OutWays) → seen (traced f s ways) ≡ flow.after f s (seen ways)
  traced-seen f (Block point body) ways = traced_all-seen f body ways
  traced-seen f (If point arms) ways = traced_one-seen f nowhere arms ways
  traced-seen f (While point condition body place) ways =
      let s : Statement = While point condition body place in
      either-seen ways (traced_all f body (stepped f s ways))
      ∙ ap (joined (seen ways)) (traced_all-seen f body (stepped f s ways) ∙ ap (after_all f body) (stepped-seen f s ways))
  traced-seen f (Return point value) ways = refl
  traced-seen f s ways = stepped-seen f s ways

  pub traced_all-seen : (f : ℕ) (body : Statements) (ways : OutWays) → seen (traced_all f body ways) ≡ after_all f body (seen ways)
  traced_all-seen f no_more ways = refl
  traced_all-seen f (statement first others) ways =
      traced_all-seen f others (traced f first ways) ∙ ap (after_all f others) (traced-seen f first ways)

  pub traced_one-seen : (f : ℕ) (before : OutWays) (arms : Arms) (ways : OutWays)
      → seen (traced_one f before arms ways) ≡ joined (seen before) (after_one f arms (seen ways))
  traced_one-seen f before (arm condition body others) ways =
      let here = traced_all f body ways in
      let rest = after_one f others (seen ways) in
      traced_one-seen f (either before here) others ways
      ∙ ap (λ x. joined x rest) (either-seen before here)
      ∙ ap (λ x. joined (joined (seen before) x) rest) (traced_all-seen f body ways)
      ∙ joined-assoc (seen before) (after_all f body (seen ways)) rest
  traced_one-seen f before (otherwise body) ways =
      either-seen before (traced_all f body ways) ∙ ap (joined (seen before)) (traced_all-seen f body ways)
  traced_one-seen f before no_else ways = either-seen before ways
