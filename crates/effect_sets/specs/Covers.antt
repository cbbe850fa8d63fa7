-- Which effects a summary covers.
use Rattle.std.specs.Prelude.{Bool, not, ◌&&◌, ◌||◌, IsTrue}
use Rattle.std.specs.List.{list_any}
use Rattle.region_paths.specs.Inside.{inside}
use Rattle.region_paths.specs.Sets.{SetWithin}
use Rattle.effect_sets.specs.declared.effects.Effect.{Effect}
use Rattle.effect_sets.specs.declared.effects.Summary.{Summary}

-- the first effect includes the path of the second, and writes if the second does
abbrev pub effect_covers : Effect → Effect → Bool
effect_covers d e = inside e.path d.path && (not e.write || d.write)

-- some effect of the summary covers the effect
abbrev pub covers : Summary → Effect → Bool
covers s e = list_any (λ d. effect_covers d e) s.effects

-- each concrete path of the second effect is one of the first, and the first writes if the second does
abbrev pub EffectWithin : Effect → Effect → Type 0
EffectWithin d e = (IsTrue e.write → IsTrue d.write) × SetWithin e.path d.path
