-- The dataflow facts of a body: for each of 128 futures and each point, whether the future may be out and whether it
-- surely is.
use Rattle.std.specs.Prelude.{ℕ, ◌-◌, ◌<◌, ◌==◌, nat_le, nat_lt, ◌&&◌, ◌↔◌, Bool, false, not, IsTrue, if◌then◌else◌, slice_get, unwrap_or}
use Rattle.std.specs.Int.{bit_at}
use Rattle.twe_program.specs.declared.program.Body.{Body}
use Rattle.cover_flow.specs.declared.facts.Fact.{Fact}
use Rattle.cover_flow.specs.declared.facts.Facts.{Facts}
use Rattle.cover_flow.specs.declared.answers.Points.{Points}
use Rattle.cover_flow.specs.Out.{MayBeOut, SurelyOut}

-- the bit is set
abbrev pub is_set : ℕ → ℕ → Bool
is_set word k = bit_at word k == 1

-- the fact of one of the 128 futures, counted from 0
abbrev pub fact_of : Facts → ℕ → Fact
fact_of facts k = record { out = is_set facts.out k; not_out = is_set facts.not_out k }

-- the future is one of the 128 from the first one on
abbrev pub is_among : ℕ → ℕ → Bool
is_among first f = nat_le first f && nat_lt (f - first) 128

-- the facts at the point, if the body has it
abbrev pub facts_at : Points → ℕ → Facts
facts_at points point = unwrap_or (slice_get points.rows point) (record { out = 0; not_out = 0 })

-- the fact of the future at the point, if it is followed
abbrev pub fact_at : Points → ℕ → ℕ → Fact
fact_at points point f =
    if is_among points.first f then fact_of (facts_at points point) (f - points.first)
    else record { out = false; not_out = false }

-- the future is out on some path to the point
abbrev pub may_at : Points → ℕ → ℕ → Bool
may_at points point f = (fact_at points point f).out

-- the future is out on every path to the point: on none it is not
abbrev pub surely_at : Points → ℕ → ℕ → Bool
surely_at points point f = not (fact_at points point f).not_out

-- for each point of the body and each of its futures that is followed, exactly what the control paths do
pub record IsFlowOf (points : Points) (body : Body) : Type 0 where
  pub may : (point f : ℕ) → point < body.points → f < body.futures → IsTrue (is_among points.first f)
      → IsTrue (may_at points point f) ↔ MayBeOut body point f
  pub surely : (point f : ℕ) → point < body.points → f < body.futures → IsTrue (is_among points.first f)
      → IsTrue (surely_at points point f) ↔ SurelyOut body point f
