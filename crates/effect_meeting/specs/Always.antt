-- Whether two effects interfere whatever the arguments of a call are, and which local that depends on.
use Rattle.std.specs.Prelude.{ℕ, nat_le, nat_lt, Bool, List, [], ◌∷◌, Option, None, Some, if◌then◌else◌}
use Rattle.region_paths.specs.Filled.{Valuation}
use Rattle.effect_sets.specs.declared.effects.Effect.{Effect}
use Rattle.effect_meeting.specs.declared.equality.Term.{Term}
use Rattle.effect_meeting.specs.declared.equality.Term.TheVariants.{Literal, First, Second}
use Rattle.effect_meeting.specs.declared.equality.Equality.{Equality}
use Rattle.effect_meeting.specs.Equalities.{same_term}
use Rattle.effect_meeting.specs.Meeting.{AgreeBelow}
use Rattle.effect_meeting.specs.Meetings.{InterfereUnder}
use Rattle.effect_meeting.specs.PathEqualities.{effect_equalities}

-- The effects interfere for all values of their variables. The first of these, as many as are shared, are the parameters of one
-- call, and each has one value in both effects.
abbrev pub AlwaysInterfere : ℕ → Effect → Effect → Type 0
AlwaysInterfere shared a b = (v w : Valuation) → AgreeBelow shared v w → InterfereUnder v w a b

-- the term, where a parameter has one value in both effects
abbrev pub in_one_call : ℕ → Term → Term
in_one_call shared (Literal i) = Literal i
in_one_call shared (First k) = First k
in_one_call shared (Second k) = if nat_lt k shared then First k else Second k

-- the equality holds for all values
abbrev pub is_always_equal : ℕ → Equality → Bool
is_always_equal shared e = same_term (in_one_call shared e.left) (in_one_call shared e.right)

-- the number of the variable, if it is a local: one that is no parameter
abbrev pub if_local : ℕ → ℕ → Option ℕ
if_local shared k = if nat_le shared k then Some k else None

-- the local that the term is, if it is one
abbrev pub local_of : ℕ → Term → Option ℕ
local_of shared (Literal i) = None
local_of shared (First k) = if_local shared k
local_of shared (Second k) = if_local shared k

-- the first, or else the second
abbrev pub or_else : Option ℕ → Option ℕ → Option ℕ
or_else None other = other
or_else (Some k) other = Some k

-- the first local that stands in the equality
abbrev pub local_in : ℕ → Equality → Option ℕ
local_in shared e = or_else (local_of shared e.left) (local_of shared e.right)

-- the first local that stands in the equalities
abbrev pub local_among : ℕ → List Equality → Option ℕ
local_among shared [] = None
local_among shared (e ∷ es) = or_else (local_in shared e) (local_among shared es)

-- the first local whose value says whether the effects interfere: it stands against an index that is not any index
abbrev pub deciding_local : ℕ → Effect → Effect → Option ℕ
deciding_local shared a b = local_among shared (effect_equalities a b)
