-- A text can have a summary that passes the test.
use Rattle.std.proofs.Common.{◌≡◌, ◌≤◌, ◌+◌, ℕ, ℤ, pos, negsuc, Bool, true, false, List, [], ◌∷◌, ◌++◌, map, length, nat_le, arith}
use Rattle.std.specs.Prelude.{◌&&◌}
use Rattle.std.specs.List.{AllByRecursion, list_all}
use Rattle.std.proofs.lemmas.Bool.{and_parts, false≢true, leb-true}
use Rattle.std.proofs.lemmas.List.{length-append, length-map}
use Rattle.twe_base.specs.Language.{max_literal, max_path_elements, max_effects}
use Rattle.twe_base.proofs.Members.{all-append}
use Rattle.region_paths.specs.declared.elements.Elem.{Elem}
use Rattle.region_paths.specs.declared.elements.Elem.TheVariants.{Name, Index, Var, AnyIndex}
use Rattle.effect_sets.specs.declared.effects.Effect.{Effect}
use Rattle.effect_sets.specs.declared.effects.Summary.{Summary}
use Rattle.summary_texts.specs.paste_laws.Clauses.{CanBeWritten, IsWritable, elements_written}
use Rattle.summary_texts.specs.Order.{summary_paths_of}
use Rattle.summary_texts.specs.Pasting.{effect_on, in_line}
use Rattle.summary_texts.specs.Writable.{is_writable, is_writable_elem, is_writable_index, is_writable_path}

index-can : (i : ℤ) → is_writable_index i ≡ true → IsWritable (Index i)
index-can (pos i) h = leb-true i max_literal h
index-can (negsuc i) h = absurd (false≢true h)

elem-can : (e : Elem) → is_writable_elem e ≡ true → IsWritable e
elem-can (Name n) h = tt
elem-can (Index i) h = index-can i h
elem-can (Var k) h = tt
elem-can AnyIndex h = tt

elems-can : (es : List Elem) → list_all is_writable_elem es ≡ true → AllByRecursion IsWritable es
elems-can [] h = tt
elems-can (e ∷ es) h = let both = and_parts (is_writable_elem e) (list_all is_writable_elem es) h in (elem-can e both.0, elems-can es both.1)

abbrev HasLiterals : Effect → Type 0
HasLiterals effect = AllByRecursion IsWritable effect.path.elems

abbrev HasTailLiterals : Effect → Type 0
HasTailLiterals effect = AllByRecursion IsWritable effect.path.tail

abbrev IsShort : Effect → Type 0
IsShort effect = elements_written effect.path ≤ max_path_elements

-- of a path, and of paths
path-can : (path : List Elem) → is_writable_path path ≡ true → (length path ≤ max_path_elements) × AllByRecursion IsWritable path
path-can path h =
    let both = and_parts (nat_le (length path) max_path_elements) (list_all is_writable_elem path) h in
    (leb-true (length path) max_path_elements both.0, elems-can path both.1)

module _ (write : Bool) where
  literals-can : (paths : List (List Elem)) → list_all is_writable_path paths ≡ true → AllByRecursion HasLiterals (map (effect_on write) paths)
  literals-can [] h = tt
  literals-can (path ∷ paths) h = let both = and_parts (is_writable_path path) (list_all is_writable_path paths) h in ((path-can path both.0).1, literals-can paths both.1)

  tails-can : (paths : List (List Elem)) → AllByRecursion HasTailLiterals (map (effect_on write) paths)
  tails-can [] = tt
  tails-can (path ∷ paths) = (tt, tails-can paths)

  short-can : (paths : List (List Elem)) → list_all is_writable_path paths ≡ true → AllByRecursion IsShort (map (effect_on write) paths)
  short-can [] h = tt
  short-can (path ∷ paths) h = let both = and_parts (is_writable_path path) (list_all is_writable_path paths) h in ((path-can path both.0).0, short-can paths both.1)

pub can-be : (summary : Summary) → is_writable summary ≡ true → CanBeWritten (in_line summary)
can-be summary h =
    let reads = summary_paths_of false summary.effects in
    let writes = summary_paths_of true summary.effects in
    let front = and_parts (list_all is_writable_path reads) (list_all is_writable_path writes && nat_le (length reads + length writes) max_effects) h in
    let back = and_parts (list_all is_writable_path writes) (nat_le (length reads + length writes) max_effects) front.1 in
    let few = leb-true (length reads + length writes) max_effects back.1 in
    let long = length-append (map (effect_on false) reads) (map (effect_on true) writes) in
    let read = length-map reads (effect_on false) in
    let written = length-map writes (effect_on true) in
    record {
      literals = all-append HasLiterals (map (effect_on false) reads) (map (effect_on true) writes) (literals-can false reads front.0) (literals-can true writes back.0);
      tail_literals = all-append HasTailLiterals (map (effect_on false) reads) (map (effect_on true) writes) (tails-can false reads) (tails-can true writes);
      short = all-append IsShort (map (effect_on false) reads) (map (effect_on true) writes) (short-can false reads front.0) (short-can true writes back.0);
      few = omega (arith, few, long, read, written);
    }

pub all-can : (all : List Summary) → list_all is_writable all ≡ true → AllByRecursion CanBeWritten (map in_line all)
all-can [] h = tt
all-can (summary ∷ all) h = let both = and_parts (is_writable summary) (list_all is_writable all) h in (can-be summary both.0, all-can all both.1)
