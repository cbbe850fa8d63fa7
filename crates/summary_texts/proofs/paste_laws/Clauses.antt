-- What the clauses of a summary mean, and what they need.
use Rattle.std.proofs.Common.{◌≡◌, ◌⊎◌, ◌<◌, ◌≤◌, ℕ, pos, negsuc, ◌+◌, suc, Bool, true, false, not, ◌||◌, cond, List, [], ◌∷◌, ◌++◌, map, filter, length, take, drop, Some, inl, inr, refl, sym, ap, ◌∙◌, subst, append-nil, length-append, arith}
use Rattle.std.specs.List.{AllByRecursion, flat_map, list_any, prefix_len}
use Rattle.std.proofs.lemmas.Bool.{true≢false}
use Rattle.std.proofs.lemmas.List.{take_all, drop_all}
use Rattle.twe_base.specs.Language.{max_path_elements}
use Rattle.region_paths.specs.declared.elements.Elem.{Elem}
use Rattle.region_paths.specs.declared.elements.Elem.TheVariants.{Name, Index, Var, AnyIndex}
use Rattle.region_paths.specs.Written.{WrittenPath}
use Rattle.effect_sets.specs.declared.effects.Effect.{Effect}
use Rattle.effect_sets.specs.declared.effects.Summary.{Summary}
use Rattle.twe_ast.specs.declared.item.Clause.{Clause}
use Rattle.twe_ast.specs.declared.path.Path.{Path}
use Rattle.twe_ast.specs.declared.path.PathElem.{PathElem}
use Rattle.twe_ast.specs.declared.stmt.LocalType.TheVariants as types
use Rattle.twe_program.specs.WellFormed.{ElementFits}
use Rattle.name_check.specs.declared.binding.NameUse.TheVariants as name_use
use Rattle.name_check.specs.declared.binding.Global.TheVariants as global_kinds
use Rattle.name_check.specs.declared.binding.Local.TheVariants as local_kinds
use Rattle.name_check.specs.declared.binding.Binding.TheVariants as bindings
use Rattle.name_check.specs.declared.names.GlobalName.{GlobalName}
use Rattle.name_check.specs.declared.scope.LocalName.{LocalName}
use Rattle.name_check.specs.Names.{first_local, global_of, binding_of}
use Rattle.name_check.specs.Asks.{Ask, uses}
use Rattle.name_check.specs.Sites.{asks_of_kind, asks_of_path, asks_of_clause}
use Rattle.name_check.specs.Limits.{is_star}
use Rattle.twe_names.specs.PathMeaning as means
use Rattle.twe_names.specs.PathMeaning.{region_number, param_number, elem_of_kind, elems_of, before_star, after_star, effects_of_clause}
use Rattle.std.proofs.lemmas.Grind.{flat_map-append}
use Rattle.twe_base.proofs.Members.{IsIn, not-true, in-cases, in-left, in-right, all-append}
use Rattle.summary_texts.specs.paste_laws.Clauses.{name_at, clause_kind_of, elem_of, with_star, clause_path_of, clause_of, reads_of, writes_of, clauses_of, IsWritable}
use Rattle.summary_texts.specs.paste_laws.places.Places.{no_place}

-- what a filter keeps
one-kept : {X : Type 0} (P : X → Type 0) (test : X → Bool) (x : X) (kept : List X) (b : Bool) → test x ≡ b → P x → AllByRecursion (λ y. (test y ≡ true) × P y) kept
    → AllByRecursion (λ y. (test y ≡ true) × P y) (cond b (x ∷ kept) kept)
one-kept P test x kept true is h rest = ((is, h), rest)
one-kept P test x kept false is h rest = rest

kept-all : {X : Type 0} (P : X → Type 0) (test : X → Bool) (xs : List X) → AllByRecursion P xs → AllByRecursion (λ x. (test x ≡ true) × P x) (filter test xs)
kept-all P test [] h = tt
kept-all P test (x ∷ xs) h = one-kept P test x (filter test xs) (test x) refl h.0 (kept-all P test xs h.1)

one-from : {X : Type 0} (y x : X) (kept xs : List X) (b : Bool) → (IsIn x kept → IsIn x xs) → IsIn x (cond b (y ∷ kept) kept) → (x ≡ y) ⊎ IsIn x xs
one-from y x kept xs true more (inl e) = inl e
one-from y x kept xs true more (inr h) = inr (more h)
one-from y x kept xs false more h = inr (more h)

pub kept-in : {X : Type 0} (test : X → Bool) (xs : List X) (x : X) → IsIn x (filter test xs) → IsIn x xs
kept-in test [] x h = absurd h
kept-in test (y ∷ xs) x h = one-from y x (filter test xs) xs (test y) (kept-in test xs x) h

one-in : {X : Type 0} (test : X → Bool) (y x : X) (kept xs : List X) (b : Bool) → test y ≡ b → test x ≡ true → (IsIn x xs → IsIn x kept) → (x ≡ y) ⊎ IsIn x xs
    → IsIn x (cond b (y ∷ kept) kept)
one-in test y x kept xs true is passes more (inl e) = inl e
one-in test y x kept xs true is passes more (inr h) = inr (more h)
one-in test y x kept xs false is passes more (inl e) = absurd (true≢false (sym passes ∙ ap test e ∙ is))
one-in test y x kept xs false is passes more (inr h) = more h

in-kept : {X : Type 0} (test : X → Bool) (xs : List X) (x : X) → test x ≡ true → IsIn x xs → IsIn x (filter test xs)
in-kept test [] x passes h = absurd h
in-kept test (y ∷ xs) x passes h = one-in test y x (filter test xs) xs (test y) refl passes (in-kept test xs x passes) h

one-part : {X : Type 0} (x : X) (not_kept kept : List X) (n : ℕ) (b : Bool) → length not_kept + length kept ≡ n
    → length (cond (not b) (x ∷ not_kept) not_kept) + length (cond b (x ∷ kept) kept) ≡ suc n
one-part x not_kept kept n true e = omega arith
one-part x not_kept kept n false e = omega arith

parts-length : {X : Type 0} (test : X → Bool) (xs : List X) → length (filter (λ x. not (test x)) xs) + length (filter test xs) ≡ length xs
parts-length test [] = refl
parts-length test (x ∷ xs) = one-part x (filter (λ y. not (test y)) xs) (filter test xs) (length xs) (test x) (parts-length test xs)

pub all-from : {X : Type 0} (P : X → Type 0) (xs : List X) → ((x : X) → IsIn x xs → P x) → AllByRecursion P xs
all-from P [] h = tt
all-from P (x ∷ xs) h = (h x (inl refl), all-from P xs (λ y there. h y (inr there)))

-- the effects of the clauses: first what is only read, and then what is written
abbrev pub in_clauses : List Effect → List Effect
in_clauses effects = reads_of effects ++ writes_of effects

pub clauses-length : (effects : List Effect) → length (in_clauses effects) ≡ length effects
clauses-length effects = length-append (reads_of effects) (writes_of effects) ∙ parts-length (λ (effect : Effect). effect.write) effects

pub clauses-in : (effects : List Effect) (effect : Effect) → IsIn effect (in_clauses effects) → IsIn effect effects
clauses-in effects effect h = elim (in-cases effect (reads_of effects) (writes_of effects) h) [
  | inl read ↦ kept-in (λ (e : Effect). not e.write) effects effect read
  | inr written ↦ kept-in (λ (e : Effect). e.write) effects effect written
]

pub in-clauses : (effects : List Effect) (effect : Effect) → IsIn effect effects → IsIn effect (in_clauses effects)
in-clauses effects effect h = by effect.write refl
  where
    by : (b : Bool) → effect.write ≡ b → IsIn effect (in_clauses effects)
    by true is = in-right effect (reads_of effects) (writes_of effects) (in-kept (λ (e : Effect). e.write) effects effect is h)
    by false is = in-left effect (reads_of effects) (writes_of effects) (in-kept (λ (e : Effect). not e.write) effects effect (ap not is) h)

-- the paths of the clauses
pub clause-paths : (regions params : List (List ℕ)) (write : Bool) (effects : List Effect)
    → flat_map (λ (clause : Clause). clause.paths) (clause_of regions params write effects) ≡ map (clause_path_of regions params) effects
clause-paths regions params write [] = refl
clause-paths regions params write (first ∷ others) = append-nil (map (clause_path_of regions params) (first ∷ others))

-- no element is a star
elem-no-star : (regions params : List (List ℕ)) (e : Elem) → is_star (elem_of regions params e) ≡ false
elem-no-star regions params (Name n) = refl
elem-no-star regions params (Index i) = refl
elem-no-star regions params (Var k) = refl
elem-no-star regions params AnyIndex = refl

pub path-no-star : (regions params : List (List ℕ)) (es : List Elem) → AllByRecursion (λ (elem : PathElem). is_star elem ≡ false) (map (elem_of regions params) es)
path-no-star regions params [] = tt
path-no-star regions params (e ∷ es) = (elem-no-star regions params e, path-no-star regions params es)

any-star : (xs : List PathElem) → AllByRecursion (λ (elem : PathElem). is_star elem ≡ false) xs → list_any is_star xs ≡ false
any-star [] h = refl
any-star (x ∷ xs) h = (λ i. h.0 i || any-star xs h.1 i)

star-prefix : (xs : List PathElem) → AllByRecursion (λ (elem : PathElem). is_star elem ≡ false) xs → prefix_len (λ x. not (is_star x)) xs ≡ length xs
star-prefix [] h = refl
star-prefix (x ∷ xs) h =
    let more : 1 + length xs ≡ suc (length xs) = omega arith in
    (λ i. cond (not (h.0 i)) (1 + star-prefix xs h.1 i) 0) ∙ more

before-all : (xs : List PathElem) → AllByRecursion (λ (elem : PathElem). is_star elem ≡ false) xs → before_star xs ≡ xs
before-all xs h = ap (λ n. take n xs) (star-prefix xs h) ∙ take_all (length xs) xs (omega arith)

after-none : (xs : List PathElem) → AllByRecursion (λ (elem : PathElem). is_star elem ≡ false) xs → after_star xs ≡ []
after-none xs h = ap (λ (ys : List PathElem). drop (length ys) xs) (before-all xs h) ∙ drop_all (length xs) xs (omega arith)

-- the path of the effect has no star
abbrev pub IsPlainEffect : Effect → Type 0
IsPlainEffect effect = effect.path ≡ record { elems = effect.path.elems; star = false; tail = [] }

-- a path without a star as a text writes it
abbrev pub plain_path_of : List (List ℕ) → List (List ℕ) → List Elem → Path
plain_path_of regions params es = record { elems = map (elem_of regions params) es; place = no_place }

pub plain-path : (regions params : List (List ℕ)) (effect : Effect) → IsPlainEffect effect → clause_path_of regions params effect ≡ plain_path_of regions params effect.path.elems
plain-path regions params effect plain =
    ap (λ (path : WrittenPath). record {
      elems = with_star path.star (map (elem_of regions params) path.elems) (map (elem_of regions params) path.tail);
      place = no_place;
    }) plain

-- an effect that a clause can say: its path has no star, names regions and parameters that are there, and has literals of a text
pub record Fits (regions params : ℕ) (effect : Effect) : Type 0 where
  pub plain : IsPlainEffect effect
  pub elems : AllByRecursion (ElementFits regions params) effect.path.elems
  pub literals : AllByRecursion IsWritable effect.path.elems
  pub short : length effect.path.elems ≤ max_path_elements

-- a name that is bound to what its use needs
abbrev pub AskFits : List GlobalName → List LocalName → Ask → Type 0
AskFits globals locals (uses name name_use.Region) = (n : ℕ) × (binding_of globals locals name.text ≡ Some (bindings.Global (global_kinds.Region n)))
AskFits globals locals (uses name name_use.Parameter) = (k : ℕ) × (first_local name.text locals ≡ Some (local_kinds.Variable k types.Int true))
AskFits globals locals _ = ⊥

-- each region is bound to its number, and each parameter to its own
module _ (globals : List GlobalName) (regions : List (List ℕ)) (locals : List LocalName) (params : List (List ℕ))
    (region-bound : (n : ℕ) → n < length regions → global_of globals (name_at regions n) ≡ Some (global_kinds.Region n))
    (in-scope : (n : ℕ) → n < length regions → binding_of globals locals (name_at regions n) ≡ Some (bindings.Global (global_kinds.Region n)))
    (param-bound : (k : ℕ) → k < length params → first_local (name_at params k) locals ≡ Some (local_kinds.Variable k types.Int true)) where
  elem-means : (e : Elem) → ElementFits (length regions) (length params) e → IsWritable e → elem_of_kind globals locals (clause_kind_of regions params e) ≡ e ∷ []
  elem-means (Name n) fits writable = ap (λ o. Name (region_number o) ∷ []) (region-bound n fits)
  elem-means (Index (pos i)) fits writable = refl
  elem-means (Index (negsuc i)) fits writable = absurd writable
  elem-means (Var k) fits writable = ap (λ o. Var (param_number o) ∷ []) (param-bound k fits)
  elem-means AnyIndex fits writable = refl

  elems-mean : (es : List Elem) → AllByRecursion (ElementFits (length regions) (length params)) es → AllByRecursion IsWritable es
      → elems_of globals locals (map (elem_of regions params) es) ≡ es
  elems-mean [] fit writable = refl
  elems-mean (e ∷ es) fit writable = λ i. elem-means e fit.0 writable.0 i ++ elems-mean es fit.1 writable.1 i

  path-means : (effect : Effect) → Fits (length regions) (length params) effect → means.path_meaning globals locals (clause_path_of regions params effect) ≡ effect.path
  path-means effect fits =
      let xs = map (elem_of regions params) effect.path.elems in
      let none = path-no-star regions params effect.path.elems in
      let front : elems_of globals locals (before_star xs) ≡ effect.path.elems = ap (elems_of globals locals) (before-all xs none) ∙ elems-mean effect.path.elems fits.elems fits.literals in
      let back : elems_of globals locals (after_star xs) ≡ [] = ap (elems_of globals locals) (after-none xs none) in
      let same : means.path_meaning globals locals (plain_path_of regions params effect.path.elems) ≡ record { elems = effect.path.elems; star = false; tail = [] } =
      λ i. record { elems = front i; star = any-star xs none i; tail = back i } in
      ap (means.path_meaning globals locals) (plain-path regions params effect fits.plain) ∙ same ∙ sym fits.plain

  effects-mean : (write : Bool) (effects : List Effect) → AllByRecursion (λ (e : Effect). (e.write ≡ write) × Fits (length regions) (length params) e) effects
      → map (λ (path : Path). record { write = write; path = means.path_meaning globals locals path }) (map (clause_path_of regions params) effects) ≡ effects
  effects-mean write [] h = refl
  effects-mean write (effect ∷ effects) h =
      λ i. (record { write = sym h.0.0 i; path = path-means effect h.0.1 i }) ∷ effects-mean write effects h.1 i

  clause-means : (write : Bool) (effects : List Effect) → AllByRecursion (λ (e : Effect). (e.write ≡ write) × Fits (length regions) (length params) e) effects
      → flat_map (effects_of_clause globals locals) (clause_of regions params write effects) ≡ effects
  clause-means write [] h = refl
  clause-means write (first ∷ others) h = append-nil _ ∙ effects-mean write (first ∷ others) h

  read-false : (effects : List Effect) → AllByRecursion (λ (e : Effect). (not e.write ≡ true) × Fits (length regions) (length params) e) effects
      → AllByRecursion (λ (e : Effect). (e.write ≡ false) × Fits (length regions) (length params) e) effects
  read-false [] h = tt
  read-false (effect ∷ effects) h = ((not-true effect.write h.0.0, h.0.1), read-false effects h.1)

  flat-append : (one other : List Clause) → flat_map (effects_of_clause globals locals) (one ++ other) ≡ flat_map (effects_of_clause globals locals) one ++ flat_map (effects_of_clause globals locals) other
  flat-append one other = flat_map-append (effects_of_clause globals locals) one other

  -- the clauses of a summary mean its effects
  pub clauses-mean : (summary : Summary) → AllByRecursion (Fits (length regions) (length params)) summary.effects
      → flat_map (effects_of_clause globals locals) (clauses_of regions params summary) ≡ in_clauses summary.effects
  clauses-mean summary fit =
      let reads = clause-means false (reads_of summary.effects) (read-false (reads_of summary.effects) (kept-all _ (λ (e : Effect). not e.write) summary.effects fit)) in
      let writes = clause-means true (writes_of summary.effects) (kept-all _ (λ (e : Effect). e.write) summary.effects fit) in
      flat-append (clause_of regions params false (reads_of summary.effects)) (clause_of regions params true (writes_of summary.effects))
      ∙ (λ i. reads i ++ writes i)

  elem-fits : (e : Elem) → ElementFits (length regions) (length params) e → AllByRecursion (AskFits globals locals) (asks_of_kind (clause_kind_of regions params e) no_place)
  elem-fits (Name n) fits = ((n, in-scope n fits), tt)
  elem-fits (Index i) fits = tt
  elem-fits (Var k) fits = ((k, param-bound k fits), tt)
  elem-fits AnyIndex fits = tt

  elems-fit : (es : List Elem) → AllByRecursion (ElementFits (length regions) (length params)) es
      → AllByRecursion (AskFits globals locals) (flat_map (λ (elem : PathElem). asks_of_kind elem.kind elem.place) (map (elem_of regions params) es))
  elems-fit [] h = tt
  elems-fit (e ∷ es) h = all-append (AskFits globals locals) (asks_of_kind (clause_kind_of regions params e) no_place) _ (elem-fits e h.0) (elems-fit es h.1)

  paths-fit : (effects : List Effect) → AllByRecursion (Fits (length regions) (length params)) effects → AllByRecursion (AskFits globals locals) (flat_map asks_of_path (map (clause_path_of regions params) effects))
  paths-fit [] h = tt
  paths-fit (effect ∷ effects) h =
      all-append (AskFits globals locals) (asks_of_path (clause_path_of regions params effect)) _
      (subst (λ (path : Path). AllByRecursion (AskFits globals locals) (asks_of_path path)) (sym (plain-path regions params effect h.0.plain)) (elems-fit effect.path.elems h.0.elems))
      (paths-fit effects h.1)

  clause-fits : (write : Bool) (effects : List Effect) → AllByRecursion (Fits (length regions) (length params)) effects
      → AllByRecursion (AskFits globals locals) (flat_map asks_of_clause (clause_of regions params write effects))
  clause-fits write [] h = tt
  clause-fits write (first ∷ others) h =
      all-append (AskFits globals locals) (flat_map asks_of_path (map (clause_path_of regions params) (first ∷ others))) [] (paths-fit (first ∷ others) h) tt

  second-part : {X : Type 0} (P Q : X → Type 0) (xs : List X) → AllByRecursion (λ x. P x × Q x) xs → AllByRecursion Q xs
  second-part P Q [] h = tt
  second-part P Q (x ∷ xs) h = (h.0.1, second-part P Q xs h.1)

  -- what the clauses of a summary need is there
  pub clauses-fit : (summary : Summary) → AllByRecursion (Fits (length regions) (length params)) summary.effects
      → AllByRecursion (AskFits globals locals) (flat_map asks_of_clause (clauses_of regions params summary))
  clauses-fit summary fit =
      let reads = second-part _ _ (reads_of summary.effects) (kept-all _ (λ (e : Effect). not e.write) summary.effects fit) in
      let writes = second-part _ _ (writes_of summary.effects) (kept-all _ (λ (e : Effect). e.write) summary.effects fit) in
      subst (AllByRecursion (AskFits globals locals))
      (sym (flat_map-append asks_of_clause (clause_of regions params false (reads_of summary.effects)) (clause_of regions params true (writes_of summary.effects))))
      (all-append (AskFits globals locals) _ _ (clause-fits false (reads_of summary.effects) reads) (clause-fits true (writes_of summary.effects) writes))
