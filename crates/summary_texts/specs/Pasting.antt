-- The clauses of a line, as a text that can be pasted.
use Rattle.std.specs.Prelude.{ℕ, Bool, true, false, not, ◌==◌, ◌||◌, List, [], ◌++◌, map, filter}
use Rattle.region_paths.specs.declared.elements.Elem.{Elem}
use Rattle.effect_sets.specs.declared.effects.Effect.{Effect}
use Rattle.effect_sets.specs.declared.effects.Summary.{Summary}
use Rattle.summary_texts.specs.Order.{summary_paths_of}

-- a read or a write of the path with these elements
abbrev pub effect_on : Bool → List Elem → Effect
effect_on write elems = record { write = write; path = record { elems = elems; star = false; tail = [] } }

-- the summary in the order of its line: what is only read, and then what is written, each in the order of the paths
abbrev pub in_line : Summary → Summary
in_line summary = record {
  effects = map (effect_on false) (summary_paths_of false summary.effects)
      ++ map (effect_on true) (summary_paths_of true summary.effects);
}

-- the byte is a space, or the end of a line
abbrev pub is_blank_byte : ℕ → Bool
is_blank_byte code = code == 32 || code == 10

-- the text without its spaces and ends of lines
abbrev pub without_blanks : List ℕ → List ℕ
without_blanks text = filter (λ code. not (is_blank_byte code)) text
