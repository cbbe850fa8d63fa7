-- The elements of a list that stand after so many others, second stars, and the paths of clauses.
use Rattle.std.proofs.Common.{◌≡◌, ℕ, zero, suc, ◌+◌, Bool, true, false, cond, List, [], ◌∷◌, ◌++◌, length, Option, None, Some, inl, inr, refl, sym, ap, ◌∙◌, subst, arith}
use Rattle.std.proofs.lemmas.Bool.{false≢true}
use Rattle.std.proofs.lemmas.List.Sums.{sum_by-cons}
use Rattle.std.specs.List.{slice_get, flat_map, count_by}
use Rattle.std.specs.Option.{option_map}
use Rattle.twe_base.specs.declared.place.Place.{Place}
use Rattle.twe_ast.specs.declared.item.Clause.{Clause}
use Rattle.twe_ast.specs.declared.path.Path.{Path}
use Rattle.twe_ast.specs.declared.path.PathElem.{PathElem}
use Rattle.name_check.specs.declared.rule.NRule.{NRule}
use Rattle.name_check.specs.FailsName.{NameFailure}
use Rattle.name_check.specs.Limits.{StandsAfter, IsSecondStar, is_star}
use Rattle.twe_base.specs.First.{failure_if}
use Rattle.name_check.specs.OtherFailures.{failures_of_place, second_star, path_failures, paths_failures, clauses_failures}
use Rattle.twe_base.proofs.Members.{IsIn, in-left, in-right, in-cases}

abbrev pub failure : NRule → Place → NameFailure
failure rule place = record { rule = rule; place = place }

-- the one failure of a place
pub place-in : (place : Option Place) (rule : NRule) (f : NameFailure) → IsIn f (failures_of_place rule place) → (at : Place) × (place ≡ Some at) × (f ≡ failure rule at)
place-in None rule f h = absurd h
place-in (Some at) rule f (inl e) = (at, refl, e)
place-in (Some at) rule f (inr h) = absurd h

pub in-place : (place : Option Place) (rule : NRule) (at : Place) → place ≡ Some at → IsIn (failure rule at) (failures_of_place rule place)
in-place place rule at e = subst (λ p. IsIn (failure rule at) (failures_of_place rule p)) (sym e) (inl refl)

module _ {X : Type 0} where
  pub got-stands : (xs : List X) (n : ℕ) (x : X) → slice_get xs n ≡ Some x → StandsAfter n xs x
  got-stands [] n x h = cc
  got-stands (y ∷ xs) zero x h = record { before = []; after = xs; list = let e : y ≡ x = cc in ap (λ z. z ∷ xs) e; many = refl }
  got-stands (y ∷ xs) (suc n) x h =
      let rest = got-stands xs n x h in
      record { before = y ∷ rest.before; after = rest.after; list = ap (λ zs. y ∷ zs) rest.list; many = let m : length rest.before ≡ n = rest.many in omega arith }

  at_end : (before after : List X) (x : X) (n : ℕ) → length before ≡ n → slice_get (before ++ x ∷ after) n ≡ Some x
  at_end [] after x n e = ap (slice_get (x ∷ after)) (sym e)
  at_end (y ∷ before) after x n e = ap (slice_get (y ∷ (before ++ x ∷ after))) (sym e) ∙ at_end before after x (length before) refl

  pub stands-got : (xs : List X) (n : ℕ) (x : X) → StandsAfter n xs x → slice_get xs n ≡ Some x
  stands-got xs n x h = ap (λ ys. slice_get ys n) h.list ∙ at_end h.before h.after x n h.many

  mapped : (place : X → Place) (o : Option X) (at : Place) → option_map place o ≡ Some at → (x : X) × (o ≡ Some x) × (at ≡ place x)
  mapped place None at h = cc
  mapped place (Some x) at h = (x, refl, let e : place x ≡ at = cc in sym e)

  -- the failure of what stands after so many others
  pub over-in : (place : X → Place) (xs : List X) (n : ℕ) (rule : NRule) (f : NameFailure) → IsIn f (failures_of_place rule (option_map place (slice_get xs n)))
      → (x : X) × StandsAfter n xs x × (f ≡ failure rule (place x))
  over-in place xs n rule f h =
      let found = place-in (option_map place (slice_get xs n)) rule f h in
      let from = mapped place (slice_get xs n) found.0 found.1 in
      (from.0, got-stands xs n from.0 from.1, found.2 ∙ ap (failure rule) from.2)

  pub in-over : (place : X → Place) (xs : List X) (n : ℕ) (rule : NRule) (x : X) → StandsAfter n xs x
      → IsIn (failure rule (place x)) (failures_of_place rule (option_map place (slice_get xs n)))
  in-over place xs n rule x h = in-place (option_map place (slice_get xs n)) rule (place x) (ap (option_map place) (stands-got xs n x h))

-- second stars
count_cons : (elem : PathElem) (before : List PathElem) (b : Bool) → is_star elem ≡ b → count_by is_star (elem ∷ before) ≡ cond b 1 0 + count_by is_star before
count_cons elem before b e = sum_by-cons (λ x. cond (is_star x) 1 0) elem before ∙ ap (λ c. cond c 1 0 + count_by is_star before) e

-- the first `*` after one
record NextStar (elems : List PathElem) (place : Place) : Type 0 where
  pub elem : PathElem
  pub before : List PathElem
  pub after : List PathElem
  pub list : elems ≡ before ++ elem ∷ after
  pub star : is_star elem ≡ true
  pub none : count_by is_star before ≡ 0
  pub at : place ≡ elem.place

record SecondAt (elems : List PathElem) (place : Place) : Type 0 where
  pub elem : PathElem
  pub second : IsSecondStar elems elem
  pub at : place ≡ elem.place

next-star : (elems : List PathElem) (place : Place) → second_star true elems ≡ Some place → NextStar elems place
next-star [] place h = cc
next-star (elem ∷ elems) place h = by (is_star elem) refl (next-star elems place) where
  by : (b : Bool) → is_star elem ≡ b → (second_star true elems ≡ Some place → NextStar elems place) → NextStar (elem ∷ elems) place
  by true e later =
      let same : ◌≡◌ {A = Option Place} (Some elem.place) (Some place) = rw e at h in
      let at : elem.place ≡ place = cc in
      record { elem = elem; before = []; after = elems; list = refl; star = e; none = refl; at = sym at }
  by false e later =
      let found = later (rw e at h) in
      record {
        elem = found.elem;
        before = elem ∷ found.before;
        after = found.after;
        list = ap (λ zs. elem ∷ zs) found.list;
        star = found.star;
        none = count_cons elem found.before false e ∙ (ap (λ n. 0 + n) found.none ∙ omega arith);
        at = found.at;
      }

second-star : (elems : List PathElem) (place : Place) → second_star false elems ≡ Some place → SecondAt elems place
second-star [] place h = cc
second-star (elem ∷ elems) place h = by (is_star elem) refl (second-star elems place) where
  by : (b : Bool) → is_star elem ≡ b → (second_star false elems ≡ Some place → SecondAt elems place) → SecondAt (elem ∷ elems) place
  by true e later =
      let found = next-star elems place (rw e at h) in
      record {
        elem = found.elem;
        second = record {
          before = elem ∷ found.before;
          after = found.after;
          list = ap (λ zs. elem ∷ zs) found.list;
          star = found.star;
          one = count_cons elem found.before true e ∙ (ap (λ n. 1 + n) found.none ∙ omega arith);
        };
        at = found.at;
      }
  by false e later =
      let found = later (rw e at h) in
      let s = found.second in
      record {
        elem = found.elem;
        second = record {
          before = elem ∷ s.before;
          after = s.after;
          list = ap (λ zs. elem ∷ zs) s.list;
          star = s.star;
          one = count_cons elem s.before false e ∙ (ap (λ n. 0 + n) s.one ∙ omega arith);
        };
        at = found.at;
      }

star-next : (before after : List PathElem) (elem : PathElem) → is_star elem ≡ true → count_by is_star before ≡ 0 → second_star true (before ++ elem ∷ after) ≡ Some elem.place
star-next [] after elem star none = rw star refl
star-next (first ∷ before) after elem star none = by (is_star first) refl (star-next before after elem star) where
  by : (b : Bool) → is_star first ≡ b → (count_by is_star before ≡ 0 → second_star true (before ++ elem ∷ after) ≡ Some elem.place)
      → second_star true (first ∷ (before ++ elem ∷ after)) ≡ Some elem.place
  by true e later = let n : 1 + count_by is_star before ≡ 0 = sym (count_cons first before true e) ∙ none in absurd (omega arith)
  by false e later = let n : 0 + count_by is_star before ≡ 0 = sym (count_cons first before false e) ∙ none in rw e (later (omega arith))

star-second : (before after : List PathElem) (elem : PathElem) → is_star elem ≡ true → count_by is_star before ≡ 1 → second_star false (before ++ elem ∷ after) ≡ Some elem.place
star-second [] after elem star one = absurd (omega arith)
star-second (first ∷ before) after elem star one = by (is_star first) refl (star-second before after elem star) where
  by : (b : Bool) → is_star first ≡ b → (count_by is_star before ≡ 1 → second_star false (before ++ elem ∷ after) ≡ Some elem.place)
      → second_star false (first ∷ (before ++ elem ∷ after)) ≡ Some elem.place
  by true e later = let n : 1 + count_by is_star before ≡ 1 = sym (count_cons first before true e) ∙ one in ap (λ b. second_star b (before ++ elem ∷ after)) e ∙ star-next before after elem star (omega arith)
  by false e later = let n : 0 + count_by is_star before ≡ 1 = sym (count_cons first before false e) ∙ one in ap (λ b. second_star b (before ++ elem ∷ after)) e ∙ later (omega arith)

pub star-in : (elems : List PathElem) (rule : NRule) (f : NameFailure) → IsIn f (failures_of_place rule (second_star false elems))
    → (elem : PathElem) × IsSecondStar elems elem × (f ≡ failure rule elem.place)
star-in elems rule f h =
    let found = place-in (second_star false elems) rule f h in
    let at = second-star elems found.0 found.1 in
    (at.elem, at.second, found.2 ∙ ap (failure rule) at.at)

pub in-star : (elems : List PathElem) (rule : NRule) (elem : PathElem) → IsSecondStar elems elem → IsIn (failure rule elem.place) (failures_of_place rule (second_star false elems))
in-star elems rule elem h = in-place (second_star false elems) rule elem.place (ap (second_star false) h.list ∙ star-second h.before h.after elem h.star h.one)

-- the failures of the paths of clauses
paths-in : (paths : List Path) (f : NameFailure) → IsIn f (paths_failures paths) → (path : Path) × IsIn path paths × IsIn f (path_failures path)
paths-in [] f h = absurd h
paths-in (path ∷ paths) f h = elim (in-cases f (path_failures path) (paths_failures paths) h) [
  | inl here ↦ (path, inl refl, here)
  | inr later ↦ let found = paths-in paths f later in (found.0, inr found.1, found.2)
]

in-paths : (paths : List Path) (path : Path) (f : NameFailure) → IsIn path paths → IsIn f (path_failures path) → IsIn f (paths_failures paths)
in-paths [] path f there h = absurd there
in-paths (first ∷ paths) path f (inl e) h = in-left f (path_failures first) (paths_failures paths) (subst (λ p. IsIn f (path_failures p)) e h)
in-paths (first ∷ paths) path f (inr there) h = in-right f (path_failures first) (paths_failures paths) (in-paths paths path f there h)

pub clauses-in : (clauses : List Clause) (f : NameFailure) → IsIn f (clauses_failures clauses)
    → (path : Path) × IsIn path (flat_map (λ (clause : Clause). clause.paths) clauses) × IsIn f (path_failures path)
clauses-in [] f h = absurd h
clauses-in (clause ∷ clauses) f h =
    let rest : List Path = flat_map (λ (c : Clause). c.paths) clauses in
    elim (in-cases f (paths_failures clause.paths) (clauses_failures clauses) h) [
      | inl here ↦ let found = paths-in clause.paths f here in (found.0, in-left found.0 clause.paths rest found.1, found.2)
      | inr later ↦ let found = clauses-in clauses f later in (found.0, in-right found.0 clause.paths rest found.1, found.2)
    ]

pub in-clauses : (clauses : List Clause) (path : Path) (f : NameFailure) → IsIn path (flat_map (λ (clause : Clause). clause.paths) clauses) → IsIn f (path_failures path)
    → IsIn f (clauses_failures clauses)
in-clauses [] path f there h = absurd there
in-clauses (clause ∷ clauses) path f there h =
    elim (in-cases path clause.paths (flat_map (λ (c : Clause). c.paths) clauses) there) [
      | inl here ↦ in-left f (paths_failures clause.paths) (clauses_failures clauses) (in-paths clause.paths path f here h)
      | inr later ↦ in-right f (paths_failures clause.paths) (clauses_failures clauses) (in-clauses clauses path f later h)
    ]
