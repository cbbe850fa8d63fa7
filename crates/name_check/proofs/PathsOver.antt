-- The 9th path of clauses, and the failures of their paths, one clause after another.
use Rattle.std.proofs.Common.{◌≡◌, ℕ, zero, suc, ◌+◌, ◌-◌, ◌<◌, ◌≤◌, List, [], ◌∷◌, ◌++◌, length, get_or, drop, Option, None, Some, sym, ap, ◌∙◌, arith}
use Rattle.std.proofs.lemmas.List.{drop_more}
use Rattle.std.specs.List.{flat_map, slice_get}
use Rattle.std.specs.Option.{option_map}
use Rattle.twe_base.specs.declared.place.Place.{Place}
use Rattle.twe_ast.specs.declared.item.Clause.{Clause}
use Rattle.twe_ast.specs.declared.path.Path.{Path}
use Rattle.name_check.specs.FailsName.{NameFailure}
use Rattle.name_check.specs.inner.First.{first_from}
use Rattle.name_check.specs.OtherFailures.{clauses_failures, paths_failures}
use Rattle.name_check.proofs.FirstFailures.{first_from-append}

-- the element at a place of two lists one after the other
got_before : {X : Type 0} (xs ys : List X) (n : ℕ) (x : X) → slice_get xs n ≡ Some x → slice_get (xs ++ ys) n ≡ Some x
got_before [] ys n x h = cc
got_before (y ∷ xs) ys zero x h = h
got_before (y ∷ xs) ys (suc n) x h = got_before xs ys n x h

none_some : {X : Type 0} {x : X} → ◌≡◌ {A = Option X} (Some x) None → ⊥
none_some e = cc

got_past : {X : Type 0} (xs : List X) (n : ℕ) → slice_get xs n ≡ None → length xs ≤ n
got_past [] n h = omega arith
got_past (y ∷ xs) zero h = absurd (none_some h)
got_past (y ∷ xs) (suc n) h = let below = got_past xs n h in omega arith

got_after : {X : Type 0} (xs ys : List X) (n : ℕ) → slice_get xs n ≡ None → slice_get (xs ++ ys) n ≡ slice_get ys (n - length xs)
got_after [] ys n h = ap (slice_get ys) (omega arith)
got_after (y ∷ xs) ys zero h = absurd (none_some h)
got_after (y ∷ xs) ys (suc n) h = got_after xs ys n h ∙ ap (slice_get ys) (omega arith)

abbrev pub all_paths : List Clause → List Path
all_paths clauses = flat_map (λ (clause : Clause). clause.paths) clauses

abbrev pub place_at : List Path → ℕ → Option Place
place_at paths n = option_map (λ (path : Path). path.place) (slice_get paths n)

module _ (clauses : List Clause) (i : ℕ) (clause : Clause) (below : i < length clauses) (is : get_or clauses i clause ≡ clause) where
  next : drop i clauses ≡ clause ∷ drop (i + 1) clauses
  next = drop_more clauses i clause below ∙ ap (λ x. x ∷ drop (i + 1) clauses) is

  pub place_here : (left : ℕ) (path : Path) → slice_get clause.paths left ≡ Some path → place_at (all_paths (drop i clauses)) left ≡ Some path.place
  place_here left path got =
      ap (λ xs. place_at (all_paths xs) left) next
      ∙ ap (option_map (λ (path : Path). path.place)) (got_before clause.paths (all_paths (drop (i + 1) clauses)) left path got)

  pub place_later : (left : ℕ) → slice_get clause.paths left ≡ None
      → place_at (all_paths (drop i clauses)) left ≡ place_at (all_paths (drop (i + 1) clauses)) (left - length clause.paths)
  place_later left none =
      ap (λ xs. place_at (all_paths xs) left) next
      ∙ ap (option_map (λ (path : Path). path.place)) (got_after clause.paths (all_paths (drop (i + 1) clauses)) left none)

  pub paths_fit : (left : ℕ) → slice_get clause.paths left ≡ None → length clause.paths ≤ left
  paths_fit left none = got_past clause.paths left none

  pub clauses_reported : (first now all : Option NameFailure) → now ≡ first_from first (paths_failures clause.paths)
      → first_from first (clauses_failures (drop i clauses)) ≡ all → first_from now (clauses_failures (drop (i + 1) clauses)) ≡ all
  clauses_reported first now all reported so_far =
      ap (λ f. first_from f (clauses_failures (drop (i + 1) clauses))) reported
      ∙ (sym (first_from-append first (paths_failures clause.paths) (clauses_failures (drop (i + 1) clauses)))
      ∙ (ap (λ xs. first_from first (clauses_failures xs)) (sym next) ∙ so_far))
