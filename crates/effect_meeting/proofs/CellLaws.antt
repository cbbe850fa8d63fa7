-- The line of a declaration stands for a concrete path exactly where the declaration has a cell there, but for the bounds.
use Rattle.std.proofs.Common.{◌≡◌, ℕ, ◌<◌, zero, suc, ℤ, pos, negsuc, Bool, true, false, List, [], ◌∷◌, ◌++◌, length, map, take, drop, refl, sym, ap, ◌∙◌, subst, inl, inr, arith, take-append-drop}
use Rattle.std.specs.Prelude.{◌&&◌, Option, Some, zip}
use Rattle.std.specs.List.{list_all}
use Rattle.std.proofs.lemmas.Bool.{false≢true, and_parts, and_from, or_cases, ltb-true, lt-ltb}
use Rattle.std.proofs.lemmas.Bool.Decides.{Decides-int_eq}
use Rattle.std.proofs.lemmas.List.{length-map}
use Rattle.region_paths.specs.declared.elements.Elem.{Elem}
use Rattle.region_paths.specs.declared.elements.Elem.TheVariants.{Name, Index, Var, AnyIndex}
use Rattle.region_paths.specs.Written.{WrittenPath}
use Rattle.region_paths.specs.Concrete.{ConcreteElem, ConcretePath, each_stands, elem_stands, number, region}
use Rattle.region_paths.proofs.Standing.{each_stands-length}
use Rattle.effect_meeting.specs.declared.met.Met.{Met}
use Rattle.effect_meeting.specs.Meeting.{IsMetFor, as_written}
use Rattle.effect_meeting.specs.Cells.{IsMetWithin, indexes_below, is_index_below, stands_below}
use Rattle.effect_meeting.specs.inner.Aligned.{all_stand}
use Rattle.effect_meeting.specs.inner.CellLines.{IsMetAfter, IsNeverMetWithin, cell_line, is_written_below}
use Rattle.effect_meeting.specs.inner.Columns.{IsForcedAlong, IsMetAlong, NeverMeetAlong, all_near, all_plain, is_near, is_plain}
use Rattle.effect_meeting.proofs.Aligning.{all_stand-append, some-stand}

-- any index for each bound
abbrev any_for : List ℕ → List (Option Elem)
any_for bounds = map (λ bound. Some AnyIndex) bounds

-- each index is written below its bound
abbrev pub written_below : List ℕ → List Elem → Bool
written_below bounds es = list_all (λ pair. is_written_below pair.0 pair.1) (zip bounds es)

below-number : (bound : ℕ) (d : ConcreteElem) → stands_below bound d ≡ true → elem_stands AnyIndex d ≡ true
below-number bound (region n) h = absurd (false≢true h)
below-number bound (number z) h = refl

any-stand : (bounds : List ℕ) (c : ConcretePath) → indexes_below bounds c ≡ true → all_stand (any_for bounds) c ≡ true
any-stand [] [] h = refl
any-stand [] (d ∷ c) h = absurd (false≢true h)
any-stand (b ∷ bounds) [] h = absurd (false≢true h)
any-stand (b ∷ bounds) (d ∷ c) h =
    let parts = and_parts _ _ h in
    and_from _ _ (below-number b d parts.0) (any-stand bounds c parts.1)

stand-two : (xs ys : List (Option Elem)) (c d : ConcretePath) → all_stand xs c ≡ true → all_stand ys d ≡ true → all_stand (xs ++ ys) (c ++ d) ≡ true
stand-two [] ys [] d h k = k
stand-two [] ys (e ∷ c) d h k = absurd (false≢true h)
stand-two (x ∷ xs) ys [] d h k = absurd (false≢true h)
stand-two (x ∷ xs) ys (e ∷ c) d h k =
    let parts = and_parts _ _ h in
    and_from _ _ parts.0 (stand-two xs ys c d parts.1 k)

-- what is written of indexes is below where they are
written-same : (bound : ℕ) (d : ConcreteElem) → elem_stands AnyIndex d ≡ true → is_written_below bound (as_written d) ≡ true → stands_below bound d ≡ true
written-same bound (region n) h k = absurd (false≢true h)
written-same bound (number z) h k = k

below-from : (bounds : List ℕ) (c : ConcretePath) → all_stand (any_for bounds) c ≡ true → written_below bounds (map as_written c) ≡ true → indexes_below bounds c ≡ true
below-from [] [] h k = refl
below-from [] (d ∷ c) h k = absurd (false≢true h)
below-from (b ∷ bounds) [] h k = absurd (false≢true h)
below-from (b ∷ bounds) (d ∷ c) h k =
    let stands = and_parts _ _ h in
    let below = and_parts _ _ k in
    and_from _ _ (written-same b d stands.0 below.0) (below-from bounds c stands.1 below.1)

drop-map : (n : ℕ) (c : ConcretePath) → drop n (map as_written c) ≡ map as_written (drop n c)
drop-map zero c = refl
drop-map (suc n) [] = refl
drop-map (suc n) (d ∷ c) = drop-map n c

near-drop : (es : List Elem) (c d : ConcretePath) → all_near es (c ++ d) ≡ true → all_near (drop (length c) es) d ≡ true
near-drop es [] d h = h
near-drop [] (e ∷ c) d h = absurd (false≢true h)
near-drop (x ∷ es) (e ∷ c) d h = near-drop es c d (and_parts _ _ h).1

-- where an index is below the bound, index 0 is
zero-below : (bound : ℕ) (z : ℤ) → is_index_below bound z ≡ true → is_index_below bound (pos 0) ≡ true
zero-below bound (pos i) h =
    let below : i < bound = ltb-true _ _ h in
    lt-ltb 0 bound (omega arith)
zero-below bound (negsuc i) h = absurd (false≢true h)

near-written : (bound : ℕ) (e : Elem) (d : ConcreteElem) → is_near e d ≡ true → stands_below bound d ≡ true → is_written_below bound e ≡ true
near-written bound (Name n) (region m) h k = absurd (false≢true k)
near-written bound (Name n) (number z) h k = absurd (false≢true h)
near-written bound (Index i) (region m) h k = absurd (false≢true k)
near-written bound (Index i) (number z) h k = elim (or_cases _ _ h) [
  | inl null ↦ subst (λ (j : ℤ). is_index_below bound j ≡ true) (sym ((Decides-int_eq i (pos 0)).0 null)) (zero-below bound z k)
  | inr same ↦ subst (λ (j : ℤ). is_index_below bound j ≡ true) (sym ((Decides-int_eq i z).0 same)) k
]
near-written bound (Var n) d h k = absurd (false≢true h)
near-written bound AnyIndex d h k = absurd (false≢true h)

near-below : (bounds : List ℕ) (es : List Elem) (c : ConcretePath) → all_near es c ≡ true → indexes_below bounds c ≡ true → written_below bounds es ≡ true
near-below [] es c h k = refl
near-below (b ∷ bounds) es [] h k = absurd (false≢true k)
near-below (b ∷ bounds) [] (d ∷ c) h k = absurd (false≢true h)
near-below (b ∷ bounds) (e ∷ es) (d ∷ c) h k =
    let near = and_parts _ _ h in
    let below = and_parts _ _ k in
    and_from _ _ (near-written b e d near.0 below.0) (near-below bounds es c near.1 below.1)

stands-plain : (es : List Elem) (c : ConcretePath) → each_stands es c ≡ true → all_plain (map Some es) ≡ true
stands-plain [] c h = refl
stands-plain (e ∷ es) [] h = absurd (false≢true h)
stands-plain (e ∷ es) (d ∷ c) h =
    let parts = and_parts _ _ h in
    and_from _ _ (plain e d parts.0) (stands-plain es c parts.1) where
      plain : (f : Elem) (g : ConcreteElem) → elem_stands f g ≡ true → is_plain (Some f) ≡ true
      plain (Name n) g k = refl
      plain (Index i) g k = refl
      plain (Var n) g k = absurd (false≢true k)
      plain AnyIndex g k = refl

any-plain : (bounds : List ℕ) → all_plain (any_for bounds) ≡ true
any-plain [] = refl
any-plain (b ∷ bounds) = any-plain bounds

plain-two : (xs ys : List (Option Elem)) → all_plain xs ≡ true → all_plain ys ≡ true → all_plain (xs ++ ys) ≡ true
plain-two [] ys h k = k
plain-two (x ∷ xs) ys h k =
    let parts = and_parts (is_plain x) (all_plain xs) h in
    and_from _ _ parts.0 (plain-two xs ys parts.1 k)

module _ (shared : ℕ) (p q : WrittenPath) (elems : List Elem) (bounds : List ℕ) where
  -- at a cell the line of its declaration stands
  met-line : (indexes : List Elem) (m : IsMetWithin shared p q elems bounds indexes) → all_stand (cell_line elems bounds) (m.declared ++ m.numbers) ≡ true
  met-line indexes m =
      stand-two (map Some elems) (any_for bounds) m.declared m.numbers (some-stand elems m.declared ∙ m.lies) (any-stand bounds m.numbers m.in_range)

  pub never-plain : all_plain (cell_line elems bounds) ≡ false → IsNeverMetWithin shared p q elems bounds
  never-plain not_plain indexes m =
      false≢true (sym not_plain ∙ plain-two (map Some elems) (any_for bounds) (stands-plain elems m.declared m.lies) (any-plain bounds))

  pub never-line : NeverMeetAlong shared p q (cell_line elems bounds) → IsNeverMetWithin shared p q elems bounds
  never-line never indexes m = never (m.declared ++ m.numbers) m.meet (met-line indexes m)

  pub never-below : (met : Met) → IsForcedAlong shared p q (cell_line elems bounds) met
      → written_below bounds (drop (length elems) met.elems) ≡ false → IsNeverMetWithin shared p q elems bounds
  never-below met forced outside indexes m =
      let es = met.elems in
      let near = forced (m.declared ++ m.numbers) m.meet (met-line indexes m) in
      let long : length m.declared ≡ length elems = sym (each_stands-length elems m.declared m.lies) in
      let last : all_near (drop (length elems) es) m.numbers ≡ true =
      subst (λ (n : ℕ). all_near (drop n es) m.numbers ≡ true) long (near-drop es m.declared m.numbers near) in
      false≢true (sym outside ∙ near-below bounds (drop (length elems) es) m.numbers last m.in_range)

  pub met-within : (met : Met) → IsMetAlong shared p q (cell_line elems bounds) met → written_below bounds (drop (length elems) met.elems) ≡ true
      → IsMetAfter shared p q elems bounds (record { elems = drop (length elems) met.elems; values = met.values })
  met-within met along below =
      let c = along.0 in
      let n = length elems in
      let written : drop n met.elems ≡ map as_written (drop n c) = ap (drop n) along.1 ∙ drop-map n c in
      let split : all_stand (map Some elems) (take n c) && all_stand (any_for bounds) (drop n c) ≡ true =
      ap (λ (k : ℕ). all_stand (map Some elems) (take k c) && all_stand (any_for bounds) (drop k c)) (sym (length-map elems Some))
      ∙ sym (all_stand-append (map Some elems) (any_for bounds) c) ∙ along.3 in
      let parts = and_parts (all_stand (map Some elems) (take n c)) (all_stand (any_for bounds) (drop n c)) split in
      let split_path : IsMetFor shared p q (take n c ++ drop n c) met.values =
      subst (λ (d : ConcretePath). IsMetFor shared p q d met.values) (sym (take-append-drop n c)) along.2 in
      record {
        here = record {
          declared = take n c;
          numbers = drop n c;
          written = written;
          lies = sym (some-stand elems (take n c)) ∙ parts.0;
          in_range = below-from bounds (drop n c) parts.1 (ap (written_below bounds) (sym written) ∙ below);
          meet = split_path.0;
        };
        told = split_path.1;
      }
