-- What is found of columns says where the paths meet.
use Rattle.std.proofs.Common.{◌≡◌, ◌↔◌, ℕ, zero, suc, ◌+◌, ◌-◌, Bool, true, false, IsTrue, List, ◌++◌, length, map, replicate, refl, sym, ap, ◌∙◌, subst, arith, eqb-true, length-append}
use Rattle.std.specs.Prelude.{Option, None, Some, IfNone}
use Rattle.std.specs.List.{flat_map}
use Rattle.std.proofs.lemmas.Bool.{false≢true, leb-true}
use Rattle.std.proofs.lemmas.List.{length-map, length-replicate}
use Rattle.region_paths.specs.declared.elements.Elem.{Elem}
use Rattle.region_paths.specs.Written.{WrittenPath, PathIsWellFormed}
use Rattle.region_paths.specs.Concrete.{ConcretePath, InSet}
use Rattle.region_paths.specs.Filled.{Valuation, under}
use Rattle.effect_meeting.specs.declared.equality.Equality.{Equality}
use Rattle.effect_meeting.specs.Equalities.{equalities_hold}
use Rattle.effect_meeting.specs.Solutions.{AreSolvedBy, NeverHold, first_by, second_by}
use Rattle.effect_meeting.specs.declared.column.Column.{Column}
use Rattle.effect_meeting.specs.declared.values.ParamValue.{ParamValue}
use Rattle.effect_meeting.specs.Values.{values_in}
use Rattle.effect_meeting.specs.Meeting.{AgreeBelow, NeverMeet}
use Rattle.effect_meeting.specs.inner.Aligned.{all_stand, at_ends, at_length, common_length, has_length, one_under}
use Rattle.effect_meeting.specs.inner.Columns.{IsForcedAlong, IsMetAlong, NeverMeetAlong, all_plain, column_equalities, columns, solved_by}
use Rattle.effect_meeting.proofs.Aligning.{aligned-stands, all_stand-length, common-tried, none-stands, stands-length}
use Rattle.effect_meeting.proofs.Forcing.{columns-near}
use Rattle.effect_meeting.proofs.Solving.{columns-hold, columns-stand, solid_path, written-path}

long-parts : (es : List Elem) (star : Bool) (ts : List Elem) (n : ℕ) → PathIsWellFormed (record { elems = es; star = star; tail = ts })
    → has_length (record { elems = es; star = star; tail = ts }) n ≡ true → length (at_ends n es ts) ≡ n
long-parts es true ts n formed fits =
    let room = leb-true (length es + length ts) n fits in
    let gap = n - (length es + length ts) in
    omega (arith, length-append (map Some es) (replicate gap None ++ map Some ts), length-append (replicate gap None) (map Some ts), length-map es Some, length-map ts Some, length-replicate {A = Option Elem} gap None)
long-parts es false ts n formed fits =
    let long : length es ≡ n = eqb-true _ _ fits in
    let none : length ts ≡ 0 = ap length (formed false≢true) in
    let gap = n - (length es + length ts) in
    omega (arith, length-append (map Some es) (replicate gap None ++ map Some ts), length-append (replicate gap None) (map Some ts), length-map es Some, length-map ts Some, length-replicate {A = Option Elem} gap None)

at_length-long : (n : ℕ) (p : WrittenPath) → PathIsWellFormed p → has_length p n ≡ true → length (at_length n p) ≡ n
at_length-long n p formed fits = long-parts p.elems p.star p.tail n formed fits

module _ (shared : ℕ) (p q : WrittenPath) (zs : List (Option Elem)) where
  -- the columns of both paths and the list
  abbrev pub cols : List Column
  cols = columns (at_length (length zs) p) (at_length (length zs) q) zs

  -- the equalities say that the columns have what they need, and that shared variables have the same values
  abbrev pub AreNeeded : List Equality → Type 0
  AreNeeded es = (v w : Valuation) → IsTrue (equalities_hold v w es)
      ↔ (AgreeBelow shared v w × IsTrue (equalities_hold v w (flat_map column_equalities cols)))

  -- of a path for which the list stands, the elements at its positions stand for it
  stand-in : (v : Valuation) (r : WrittenPath) (c : ConcretePath) → PathIsWellFormed r → all_stand zs c ≡ true → InSet (under v r) c
      → all_stand (map (one_under v) (at_length (length zs) r)) c ≡ true
  stand-in v r c formed third there =
      subst (λ (n : ℕ). all_stand (map (one_under v) (at_length n r)) c ≡ true) (all_stand-length zs c third)
      (aligned-stands v r c formed (stands-length v r c there) ∙ there)

  stand-out : (v : Valuation) (r : WrittenPath) (c : ConcretePath) → PathIsWellFormed r → all_stand zs c ≡ true → has_length r (length zs) ≡ true
      → all_stand (map (one_under v) (at_length (length zs) r)) c ≡ true → InSet (under v r) c
  stand-out v r c formed third fits there =
      let long = all_stand-length zs c third in
      sym (aligned-stands v r c formed (ap (has_length r) long ∙ fits))
      ∙ ap (λ (n : ℕ). all_stand (map (one_under v) (at_length n r)) c) long ∙ there

  pub never-long : (r : WrittenPath) → has_length r (length zs) ≡ false → (v : Valuation) (c : ConcretePath) → all_stand zs c ≡ true → InSet (under v r) c → ⊥
  never-long r short v c third there =
      false≢true (sym short ∙ ap (has_length r) (sym (all_stand-length zs c third)) ∙ stands-length v r c there)

  pub never-along : (es : List Equality) → PathIsWellFormed p → PathIsWellFormed q → all_plain zs ≡ true → AreNeeded es → NeverHold es
      → NeverMeetAlong shared p q zs
  never-along es p_formed q_formed plain needed never c met third =
      never met.first met.second ((needed met.first met.second).1 (
        met.agree,
        columns-hold met.first met.second (at_length (length zs) p) (at_length (length zs) q) zs c plain
            (stand-in met.first p c p_formed third met.in_first) (stand-in met.second q c q_formed third met.in_second) third,
      ))

  pub met-along : (es steps : List Equality) → PathIsWellFormed p → PathIsWellFormed q → has_length p (length zs) ≡ true → has_length q (length zs) ≡ true
      → all_plain zs ≡ true → AreNeeded es → AreSolvedBy es steps
      → IsMetAlong shared p q zs (record { elems = map (solved_by steps) cols; values = values_in shared p q (first_by steps) })
  met-along es steps p_formed q_formed p_fits q_fits plain needed solved =
      let v = first_by steps in
      let w = second_by steps in
      let both = (needed v w).0 solved.hold in
      let c = solid_path v w cols in
      let lines = columns-stand v w (at_length (length zs) p) (at_length (length zs) q) zs plain (at_length-long (length zs) p p_formed p_fits)
      (at_length-long (length zs) q q_formed q_fits) both.1 in (
        c,
        sym (written-path v w cols),
        (
          record {
            first = v;
            second = w;
            agree = both.0;
            in_first = stand-out v p c p_formed lines.third p_fits lines.first;
            in_second = stand-out w q c q_formed lines.third q_fits lines.second;
          },
          refl,
        ),
        lines.third,
      )

  pub forced-along : (es steps : List Equality) → PathIsWellFormed p → PathIsWellFormed q → all_plain zs ≡ true → AreNeeded es → AreSolvedBy es steps
      → (values : List ParamValue) → IsForcedAlong shared p q zs (record { elems = map (solved_by steps) cols; values = values })
  forced-along es steps p_formed q_formed plain needed solved values c met third =
      let v = met.first in
      let w = met.second in
      let firsts = stand-in v p c p_formed third met.in_first in
      let seconds = stand-in w q c q_formed third met.in_second in
      let holds = (needed v w).1 (
        met.agree,
        columns-hold v w (at_length (length zs) p) (at_length (length zs) q) zs c plain firsts seconds third,
      ) in
      columns-near v w steps (solved.forced v w holds) (at_length (length zs) p) (at_length (length zs) q) zs c firsts seconds third

-- nothing is a variable where nothing is known
pub none-plain : (n : ℕ) → all_plain (replicate n None) ≡ true
none-plain zero = refl
none-plain (suc n) = none-plain n

-- where nothing else is asked, what is found is where the paths meet
pub never-tried : (shared : ℕ) (p q : WrittenPath) → NeverMeetAlong shared p q (replicate (common_length p q) None) → NeverMeet shared p q
never-tried shared p q never c met =
    let tried = common-tried met.first met.second p q c met.in_first met.in_second in
    never tried.0
    (record { first = met.first; second = met.second; agree = met.agree; in_first = tried.1.in_first; in_second = tried.1.in_second })
    (none-stands (common_length p q) tried.0 tried.1.long)

-- where nothing is found, what follows from that
pub if-none : {A : Type 0} (o : Option A) (P Q : Type 0) → (P → Q) → IfNone o P → IfNone o Q
if-none None P Q f h = f h
if-none (Some x) P Q f h = tt
