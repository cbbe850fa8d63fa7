-- The keys of marks.
use Rattle.std.specs.Prelude.{◌+◌, ℕ}
use Rattle.held_span.specs.declared.marks.EffectMark.{EffectMark}
use Rattle.held_span.specs.declared.marks.EffectMark.TheVariants.{Own, Rival}
use Rattle.span_profile.specs.declared.heaviest_chain.key.Key.{Key}
use Rattle.span_profile.specs.declared.heaviest_chain.key.Key.TheVariants.{Task, Value}

-- the effect whose mark it is
abbrev pub effect_of : EffectMark → ℕ
effect_of (Own effect) = effect
effect_of (Rival effect) = effect

-- the key of a mark, if there are so many tasks: no task has the number of an effect
abbrev pub mark_key : ℕ → EffectMark → Key
mark_key tasks (Own effect) = Value (tasks + effect)
mark_key tasks (Rival effect) = Task (tasks + effect)
