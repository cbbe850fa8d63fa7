-- The numbers of the concrete paths of a program's cells.
use Rattle.std.proofs.Common.{◌≡◌, ◌<◌, ◌≤◌, ◌+◌, ◌-◌, inl, inr, ℕ, zero, suc, Bool, true, false, List, [], ◌∷◌, ◌++◌, length, map, Option, Some, refl, sym, ap, ◌∙◌, subst, arith, length-append, append_assoc, nat_lt}
use Rattle.std.specs.Prelude.{slice_get, if◌then◌else◌}
use Rattle.std.proofs.lemmas.Bool.{cases_lt, lt-ltb, le-ltb}
use Rattle.std.proofs.lemmas.List.{append-nil, map-append}
use Rattle.prefix_tree.specs.declared.part.Part.{Part}
use Rattle.prefix_tree.specs.Growth.{Grows}
use Rattle.region_paths.specs.declared.elements.Elem.{Elem}
use Rattle.region_paths.specs.Concrete.{ConcretePath}
use Rattle.twe_program.specs.declared.program.CellDecl.{CellDecl}
use Rattle.twe_program.specs.Numbering.{CellsCountUp}
use Rattle.twe_program.specs.Program.{cells_made, size_of}
use Rattle.isolation_laws.specs.soundness.CellPaths.{concrete, indexes_at, path_among, path_within}
use Rattle.span_profile.specs.inner.Numbering.{AreNumbered, IsNumber, KeepsNumbers, Numbered, decl_parts, decl_paths, number_found, part_of, parts_at, parts_of}
use Rattle.span_profile.proofs.Lists.{zip_push, zip_second}

-- a number stays that of its path
pub number_kept : (old new : List (List Part)) (n : ℕ) (path : List Part) → KeepsNumbers old new → IsNumber old n path → IsNumber new n path
number_kept old new n path keeps is = record {
  there = let below = is.there in omega (arith, below, keeps.longer);
  path_is = keeps.kept n is.there ∙ is.path_is;
}

pub numbered_kept : (old new : List (List Part)) (numbers : List ℕ) (paths : List (List Part)) → KeepsNumbers old new → Numbered old numbers paths → Numbered new numbers paths
numbered_kept old new [] [] keeps all = all
numbered_kept old new [] (path ∷ paths) keeps all = all
numbered_kept old new (n ∷ ns) [] keeps all = all
numbered_kept old new (n ∷ ns) (path ∷ paths) keeps all = (number_kept old new n path keeps all.0, numbered_kept old new ns paths keeps all.1)

pub keeps_later : (old mid new : List (List Part)) → KeepsNumbers old mid → KeepsNumbers mid new → KeepsNumbers old new
keeps_later old mid new a b = record {
  longer = omega (arith, a.longer, b.longer);
  kept = λ n below. b.kept n (omega (arith, below, a.longer)) ∙ a.kept n below;
}

pub keeps_itself : (nodes : List (List Part)) → KeepsNumbers nodes nodes
keeps_itself nodes = record { longer = omega arith; kept = λ n below. refl }

-- the paths of all cells of some declarations
abbrev pub all_paths : List CellDecl → List (List Part)
all_paths [] = []
all_paths (decl ∷ decls) = decl_paths decl (size_of decl.dims) ++ all_paths decls

length_decl_paths : (decl : CellDecl) (n : ℕ) → length (decl_paths decl n) ≡ n
length_decl_paths decl zero = refl
length_decl_paths decl (suc n) =
    let before = length_decl_paths decl n in
    omega (arith, length-append (decl_paths decl n) ((decl_parts decl ++ parts_at decl.dims n) ∷ []), before)

-- the element of two lists joined
pub get_left : {X : Type 0} (xs ys : List X) (i : ℕ) → i < length xs → slice_get (xs ++ ys) i ≡ slice_get xs i
get_left [] ys i below = absurd (omega (arith, below))
get_left (x ∷ xs) ys zero below = refl
get_left (x ∷ xs) ys (suc i) below = get_left xs ys i (omega (arith, below))

get_right : {X : Type 0} (xs ys : List X) (i : ℕ) → slice_get (xs ++ ys) (length xs + i) ≡ slice_get ys i
get_right [] ys i = let e : 0 + i ≡ i = omega arith in ap (slice_get ys) e
get_right (x ∷ xs) ys i = let e : length (x ∷ xs) + i ≡ suc (length xs + i) = omega arith in ap (slice_get (x ∷ xs ++ ys)) e ∙ get_right xs ys i

pub get_at : {X : Type 0} (xs : List X) (x : X) (i : ℕ) → i ≡ length xs → slice_get (xs ++ x ∷ []) i ≡ Some x
get_at [] x zero is = refl
get_at [] x (suc i) is = absurd (omega (arith, is))
get_at (y ∷ ys) x zero is = absurd (omega (arith, is))
get_at (y ∷ ys) x (suc i) is = get_at ys x i (omega (arith, is))

decl_path_at : (decl : CellDecl) (n i : ℕ) → i < n → slice_get (decl_paths decl n) i ≡ Some (decl_parts decl ++ parts_at decl.dims i)
decl_path_at decl zero i below = absurd (omega (arith, below))
decl_path_at decl (suc n) i below = elim (cases_lt i n) [
  | inl less ↦ get_left (decl_paths decl n) ((decl_parts decl ++ parts_at decl.dims n) ∷ []) i (let e = length_decl_paths decl n in omega (arith, less, e)) ∙ decl_path_at decl n i less
  | inr last ↦ (let same : i ≡ n = omega (arith, below, last) in
      get_at (decl_paths decl n) (decl_parts decl ++ parts_at decl.dims n) i (let e = length_decl_paths decl n in omega (arith, same, e))
      ∙ ap (λ (m : ℕ). Some (decl_parts decl ++ parts_at decl.dims m)) (sym same))
]

parts_map : (elems : List Elem) → map (λ (e : Elem). part_of (concrete e)) elems ≡ parts_of (map concrete elems)
parts_map [] = refl
parts_map (e ∷ es) = ap (λ (l : List Part). part_of (concrete e) ∷ l) (parts_map es)

within_parts : (decl : CellDecl) (cell place : ℕ) → cell - decl.first ≡ place → decl_parts decl ++ parts_at decl.dims place ≡ parts_of (path_within decl cell)
within_parts decl cell place is =
    ap (λ (l : List Part). l ++ parts_at decl.dims place) (parts_map decl.path.elems)
    ∙ (sym (map-append part_of (map concrete decl.path.elems) (indexes_at decl.dims place))
    ∙ ap (λ (n : ℕ). parts_of (map concrete decl.path.elems ++ indexes_at decl.dims n)) (sym is))

path_by : (decl : CellDecl) (others : List CellDecl) (cell : ℕ) (t : Bool) → nat_lt cell (decl.first + size_of decl.dims) ≡ t
    → (if t then path_within decl cell else path_among others cell) ≡ path_among (decl ∷ others) cell
path_by decl others cell t e = ap (λ (b : Bool). if b then path_within decl cell else path_among others cell) (sym e)

-- a cell stands at its number among the paths of all
pub path_at : (decls : List CellDecl) (from i : ℕ) → CellsCountUp from decls → i < cells_made decls → slice_get (all_paths decls) i ≡ Some (parts_of (path_among decls (from + i)))
path_at [] from i up below = absurd (omega (arith, below))
path_at (decl ∷ decls) from i up below =
    elim (cases_lt i (size_of decl.dims)) [
      | inl here ↦ in_this here
      | inr past ↦ in_others past (path_at decls (from + size_of decl.dims) (i - size_of decl.dims) up.1 (omega (arith, below, past)))
    ]
  where
    size : length (decl_paths decl (size_of decl.dims)) ≡ size_of decl.dims
    size = length_decl_paths decl (size_of decl.dims)

    in_this : i < size_of decl.dims → slice_get (all_paths (decl ∷ decls)) i ≡ Some (parts_of (path_among (decl ∷ decls) (from + i)))
    in_this here =
        get_left (decl_paths decl (size_of decl.dims)) (all_paths decls) i (omega (arith, here, size))
        ∙ (decl_path_at decl (size_of decl.dims) i here
        ∙ (ap Some (within_parts decl (from + i) i (omega (arith, up.0)))
        ∙ ap (λ (path : ConcretePath). Some (parts_of path)) (path_by decl decls (from + i) true (lt-ltb (from + i) (decl.first + size_of decl.dims) (omega (arith, here, up.0))))))

    in_others : size_of decl.dims ≤ i → slice_get (all_paths decls) (i - size_of decl.dims) ≡ Some (parts_of (path_among decls (from + size_of decl.dims + (i - size_of decl.dims))))
        → slice_get (all_paths (decl ∷ decls)) i ≡ Some (parts_of (path_among (decl ∷ decls) (from + i)))
    in_others past later =
        let rest = i - size_of decl.dims in
        let at : i ≡ length (decl_paths decl (size_of decl.dims)) + rest = omega (arith, size, past) in
        let number : from + size_of decl.dims + rest ≡ from + i = omega (arith, past) in
        ap (slice_get (all_paths (decl ∷ decls))) at
        ∙ (get_right (decl_paths decl (size_of decl.dims)) (all_paths decls) rest
        ∙ (later
        ∙ (ap (λ (n : ℕ). Some (parts_of (path_among decls n))) number
        ∙ ap (λ (path : ConcretePath). Some (parts_of path)) (path_by decl decls (from + i) false (le-ltb (from + i) (decl.first + size_of decl.dims) (omega (arith, past, up.0)))))))

-- so its number is that of its path
pub cell_number : (decls : List CellDecl) (nodes : List (List Part)) (numbers : List ℕ) (cell : ℕ) → CellsCountUp 0 decls → Numbered nodes numbers (all_paths decls) → cell < cells_made decls
    → IsNumber nodes (number_found (slice_get numbers cell)) (parts_of (path_among decls cell))
cell_number decls nodes numbers cell up all below =
    let start : 0 + cell ≡ cell = omega arith in
    let found = path_at decls 0 cell up below ∙ ap (λ (n : ℕ). Some (parts_of (path_among decls n))) start in
    let n = zip_second (IsNumber nodes) numbers (all_paths decls) cell (parts_of (path_among decls cell)) all found in
    subst (λ (o : Option ℕ). IsNumber nodes (number_found o) (parts_of (path_among decls cell))) (sym n.1) n.2

-- the paths of one declaration more
pub all_paths_more : (decls : List CellDecl) (decl : CellDecl) → all_paths (decls ++ decl ∷ []) ≡ all_paths decls ++ decl_paths decl (size_of decl.dims)
all_paths_more [] decl = append_nil (decl_paths decl (size_of decl.dims))
  where
    append_nil : (l : List (List Part)) → l ++ [] ≡ l
    append_nil [] = refl
    append_nil (x ∷ xs) = ap (λ (l : List (List Part)). x ∷ l) (append_nil xs)
all_paths_more (first ∷ others) decl =
    ap (λ (l : List (List Part)). decl_paths first (size_of first.dims) ++ l) (all_paths_more others decl)
    ∙ sym (append_assoc (decl_paths first (size_of first.dims)) (all_paths others) (decl_paths decl (size_of decl.dims)))

-- a declaration makes no more cells than all
pub one_of_all : (decls : List CellDecl) (i : ℕ) (decl : CellDecl) → slice_get decls i ≡ Some decl → size_of decl.dims ≤ cells_made decls
one_of_all [] i decl found = absurd (cc)
one_of_all (first ∷ others) zero decl found = let same : first ≡ decl = cc in let e = ap (λ (d : CellDecl). size_of d.dims) same in omega (arith, e)
one_of_all (first ∷ others) (suc i) decl found = let rest = one_of_all others i decl found in omega (arith, rest)

-- a tree that grows keeps its numbers
pub keeps_grown : (old new : List (List Part)) (Added : List Part → Type 0) → Grows old new Added → KeepsNumbers old new
keeps_grown old new Added grows = record { longer = grows.longer; kept = grows.kept }

pub none_numbered : (old new : List (List Part)) (numbers : List ℕ) → KeepsNumbers old new → AreNumbered old numbers new numbers []
none_numbered old new numbers keeps before all = subst (Numbered new numbers) (sym (append-nil before)) (numbered_kept old new numbers before keeps all)

pub more_numbered : (old mid new : List (List Part)) (old_numbers numbers new_numbers : List ℕ) (decl : CellDecl) (place n : ℕ) → KeepsNumbers mid new → new_numbers ≡ numbers ++ n ∷ []
    → IsNumber new n (decl_parts decl ++ parts_at decl.dims place) → AreNumbered old old_numbers mid numbers (decl_paths decl place) → AreNumbered old old_numbers new new_numbers (decl_paths decl (place + 1))
more_numbered old mid new old_numbers numbers new_numbers decl place n keeps pushed is so_far before all =
    let path = decl_parts decl ++ parts_at decl.dims place in
    let kept : Numbered new numbers (before ++ decl_paths decl place) = numbered_kept mid new numbers (before ++ decl_paths decl place) keeps (so_far before all) in
    let more : Numbered new (numbers ++ n ∷ []) ((before ++ decl_paths decl place) ++ path ∷ []) = zip_push (IsNumber new) numbers (before ++ decl_paths decl place) n path kept is in
    let one : place + 1 ≡ suc place = omega arith in
    subst (λ (l : List ℕ). Numbered new l (before ++ decl_paths decl (place + 1))) (sym pushed)
    (subst (Numbered new (numbers ++ n ∷ [])) (append_assoc before (decl_paths decl place) (path ∷ []) ∙ sym (ap (λ (m : ℕ). before ++ decl_paths decl m) one)) more)
