-- What regions and parameters are bound to where no rule of names fails: each name to its own number.
use Rattle.std.proofs.Common.{◌≡◌, ◌<◌, ◌≤◌, ℕ, ◌+◌, ◌-◌, zero, suc, Bool, true, false, List, [], ◌∷◌, ◌++◌, length, Option, None, Some, if◌then◌else◌, codes, inl, inr, refl, sym, ap, ◌∙◌, subst, append_assoc, length-append, arith}
use Rattle.std.specs.Prelude.{bytes_eq, nat_lt}
use Rattle.std.specs.List.{Contains, flat_map}
use Rattle.std.proofs.lemmas.Bool.{cond-true, cond-false, false_from_ne_true, ltb-true, ltb-false}
use Rattle.std.proofs.lemmas.List.{length-map}
use Rattle.std.proofs.lemmas.Slice.Eq.{bytes_eq-Decides}
use Rattle.twe_base.specs.declared.place.Place.{Place}
use Rattle.twe_ast.specs.declared.item.Ast.{Ast}
use Rattle.twe_ast.specs.declared.item.Decl.{Decl}
use Rattle.twe_ast.specs.declared.item.Item.{Item}
use Rattle.twe_ast.specs.declared.item.Item.TheVariants as items
use Rattle.twe_ast.specs.declared.item.ReturnType.{ReturnType}
use Rattle.twe_ast.specs.declared.name.Name.{Name}
use Rattle.twe_ast.specs.declared.stmt.LocalType.TheVariants as types
use Rattle.name_check.specs.declared.rule.NRule.{NRule}
use Rattle.name_check.specs.declared.binding.Global.{Global}
use Rattle.name_check.specs.declared.binding.Global.TheVariants as global_kinds
use Rattle.name_check.specs.declared.binding.Local.{Local}
use Rattle.name_check.specs.declared.binding.Local.TheVariants as local_kinds
use Rattle.name_check.specs.declared.binding.Binding.{Binding}
use Rattle.name_check.specs.declared.binding.Binding.TheVariants as bindings
use Rattle.name_check.specs.declared.names.GlobalName.{GlobalName}
use Rattle.name_check.specs.declared.scope.LocalName.{LocalName}
use Rattle.name_check.specs.Names.{Before, at_start, regions_from, declared_by, past, globals_from, globals_of, first_global, first_local, global_of, either, seen_as_global, binding_of}
use Rattle.name_check.specs.BodyScope.{params_from, params_of}
use Rattle.name_check.specs.Sites.{Site, sites_of_params, sites_of_decl, sites_of_item, sites_of}
use Rattle.name_check.specs.Limits.{decls_of_item, decls_of}
use Rattle.name_check.specs.FailsName.{FailsName, IsDeclaredAgain, declared_again, hides}
use Rattle.twe_names.specs.Meaning.{regions_of_item, program_of}
use Rattle.twe_base.proofs.Members.{IsIn, contains-in, in-contains, in-left, flat_map-in, in-flat_map}
use Rattle.summary_texts.specs.paste_laws.Clauses.{name_at, texts_of}

same-bytes : (text : List ℕ) → bytes_eq text text ≡ true
same-bytes text = (bytes_eq-Decides text text).1 refl

other-bytes : (text other : List ℕ) → ¬ (text ≡ other) → bytes_eq text other ≡ false
other-bytes text other not = false_from_ne_true (bytes_eq text other) (λ is. not ((bytes_eq-Decides text other).0 is))

-- a global name that stands after none of its text is what its text is bound to
first-here : (front back : List GlobalName) (this : GlobalName) → ((other : GlobalName) → IsIn other front → ¬ (other.text ≡ this.text))
    → first_global this.text (front ++ this ∷ back) ≡ Some this.global
first-here [] back this none = cond-true (bytes_eq this.text this.text) _ _ (same-bytes this.text)
first-here (other ∷ front) back this none =
    cond-false (bytes_eq this.text other.text) _ _ (other-bytes this.text other.text (λ e. none other (inl refl) (sym e)))
    ∙ first-here front back this (λ more there. none more (inr there))

-- a region among the global names
record RegionAt (text : List ℕ) (number : ℕ) (names : List GlobalName) : Type 0 where
  front : List GlobalName
  this : GlobalName
  back : List GlobalName
  list : names ≡ front ++ this ∷ back
  named : this.text ≡ text
  region : this.global ≡ global_kinds.Region number

later-region : (text : List ℕ) (number : ℕ) (one names : List GlobalName) → RegionAt text number names → RegionAt text number (one ++ names)
later-region text number one names at = record {
  front = one ++ at.front;
  this = at.this;
  back = at.back;
  list = ap (λ ns. one ++ ns) at.list ∙ sym (append_assoc one at.front (at.this ∷ at.back));
  named = at.named;
  region = at.region;
}

earlier-region : (text : List ℕ) (number : ℕ) (names more : List GlobalName) → RegionAt text number names → RegionAt text number (names ++ more)
earlier-region text number names more at = record {
  front = at.front;
  this = at.this;
  back = at.back ++ more;
  list = ap (λ ns. ns ++ more) at.list ∙ append_assoc at.front (at.this ∷ at.back) more;
  named = at.named;
  region = at.region;
}

among-regions : (number : ℕ) (names : List Name) (k : ℕ) → k < length names → RegionAt (name_at (texts_of names) k) (number + k) (regions_from number names)
among-regions number [] k below = absurd (omega arith)
among-regions number (name ∷ names) zero below =
    let same : number ≡ number + 0 = omega arith in
    record { front = []; this = _; back = regions_from (number + 1) names; list = refl; named = refl; region = ap global_kinds.Region same }
among-regions number (name ∷ names) (suc k) below =
    let same : (number + 1) + k ≡ number + suc k = omega arith in
    let rest = among-regions (number + 1) names k (omega arith) in
    later-region (name_at (texts_of names) k) (number + suc k) (_ ∷ []) (regions_from (number + 1) names)
    (subst (λ n. RegionAt (name_at (texts_of names) k) n (regions_from (number + 1) names)) same rest)

name_at-front : (xs ys : List (List ℕ)) (k : ℕ) → k < length xs → name_at (xs ++ ys) k ≡ name_at xs k
name_at-front [] ys k below = absurd (omega arith)
name_at-front (x ∷ xs) ys zero below = refl
name_at-front (x ∷ xs) ys (suc k) below = name_at-front xs ys k (omega arith)

name_at-back : (xs ys : List (List ℕ)) (k : ℕ) → name_at (xs ++ ys) (length xs + k) ≡ name_at ys k
name_at-back [] ys k = let same : 0 + k ≡ k = omega arith in ap (name_at ys) same
name_at-back (x ∷ xs) ys k = let same : suc (length xs) + k ≡ suc (length xs + k) = omega arith in ap (name_at (x ∷ xs ++ ys)) same ∙ name_at-back xs ys k

-- a region among names, or after them
regions-first : (before : Before) (names : List Name) (others : List Item) (k : ℕ) (b : Bool) → nat_lt k (length names) ≡ b
    → ((j : ℕ) → j < length (flat_map regions_of_item others)
    → RegionAt (name_at (flat_map regions_of_item others) j) ((before.regions + length names) + j) (globals_from (past before (items.Regions names)) others))
    → k < length (texts_of names ++ flat_map regions_of_item others)
    → RegionAt (name_at (texts_of names ++ flat_map regions_of_item others) k) (before.regions + k)
    (regions_from before.regions names ++ globals_from (past before (items.Regions names)) others)
regions-first before names others k true is more below =
    let many : length (texts_of names) ≡ length names = length-map names (λ (name : Name). name.text) in
    let here : k < length names = ltb-true k (length names) is in
    earlier-region _ _ (regions_from before.regions names) _
    (subst (λ text. RegionAt text (before.regions + k) (regions_from before.regions names))
    (sym (name_at-front (texts_of names) (flat_map regions_of_item others) k (omega (arith, here, many)))) (among-regions before.regions names k here))
regions-first before names others k false is more below =
    let later : List (List ℕ) = flat_map regions_of_item others in
    let many : length (texts_of names) ≡ length names = length-map names (λ (name : Name). name.text) in
    let past_names : length names ≤ k = ltb-false k (length names) is in
    let rest : ℕ = k - length names in
    let at : k ≡ length (texts_of names) + rest = omega (arith, many, past_names) in
    let whole : length (texts_of names ++ later) ≡ length (texts_of names) + length later = length-append (texts_of names) later in
    let number : (before.regions + length names) + rest ≡ before.regions + k = omega (arith, past_names) in
    let text : name_at later rest ≡ name_at (texts_of names ++ later) k = sym (ap (name_at (texts_of names ++ later)) at ∙ name_at-back (texts_of names) later rest) in
    later-region _ _ (regions_from before.regions names) _
    (subst (λ t. RegionAt t (before.regions + k) (globals_from (past before (items.Regions names)) others)) text
    (subst (λ n. RegionAt (name_at later rest) n (globals_from (past before (items.Regions names)) others)) number (more rest (omega (arith, below, whole, many, past_names)))))

region-there : (before : Before) (all : List Item) (k : ℕ) → k < length (flat_map regions_of_item all)
    → RegionAt (name_at (flat_map regions_of_item all) k) (before.regions + k) (globals_from before all)
region-there before [] k below = absurd (omega arith)
region-there before (items.Cell cell ∷ others) k below = later-region _ _ (declared_by before (items.Cell cell)) _ (region-there (past before (items.Cell cell)) others k below)
region-there before (items.Method decl ∷ others) k below = later-region _ _ (declared_by before (items.Method decl)) _ (region-there (past before (items.Method decl)) others k below)
region-there before (items.Task deterministic decl ∷ others) k below =
    later-region _ _ (declared_by before (items.Task deterministic decl)) _ (region-there (past before (items.Task deterministic decl)) others k below)
region-there before (items.Regions names ∷ others) k below =
    regions-first before names others k (nat_lt k (length names)) refl (region-there (past before (items.Regions names)) others) below

-- no rule of names fails
abbrev pub Keeps : Ast → Type 0
Keeps tree = (rule : NRule) (place : Place) → ¬ FailsName tree rule place

module _ (tree : Ast) (keeps : Keeps tree) where
  abbrev globals : List GlobalName
  globals = globals_of tree

  abbrev regions : List (List ℕ)
  regions = (program_of tree).regions

  -- each region's name is bound to its number
  pub region-bound : (n : ℕ) → n < length regions → global_of globals (name_at regions n) ≡ Some (global_kinds.Region n)
  region-bound zero below = refl
  region-bound (suc k) below =
      let at = region-there at_start tree.items k (omega arith) in
      let text = name_at (flat_map regions_of_item tree.items) k in
      let again : ¬ IsDeclaredAgain tree at.this = λ h. keeps _ _ (declared_again at.this h) in
      let apart : ¬ (text ≡ codes "Console") = λ e. again (record { before = at.front; after = at.back; list = at.list; again = inl (at.named ∙ e) }) in
      let number : 1 + k ≡ suc k = omega arith in
      cond-false (bytes_eq text (codes "Console")) _ _ (other-bytes text (codes "Console") apart)
      ∙ ap (first_global text) at.list
      ∙ ap (λ t. first_global t (at.front ++ at.this ∷ at.back)) (sym at.named)
      ∙ first-here at.front at.back at.this (λ other there e. again (record {
        before = at.front;
        after = at.back;
        list = at.list;
        again = inr (other, in-contains at.front other there, e);
      }))
      ∙ ap Some at.region ∙ ap (λ n. Some (global_kinds.Region n)) number

  -- the parameters have new names, one after another
  abbrev AllNew : List LocalName → ℕ → List Name → Type 0
  AllNew before number [] = Unit {0}
  AllNew before number (name ∷ names) = (binding_of globals before name.text ≡ None) × AllNew (before ++ params_from number (name ∷ [])) (number + 1) names

  none-bound : (o : Option Binding) → ((other : Binding) → ¬ (o ≡ Some other)) → o ≡ None
  none-bound None h = refl
  none-bound (Some other) h = absurd (h other refl)

  all-new : (returns : ReturnType) (before : List LocalName) (number : ℕ) (names : List Name)
      → ((site : Site) → IsIn site (sites_of_params returns before number names) → IsIn site (sites_of tree)) → AllNew before number names
  all-new returns before number [] there = tt
  all-new returns before number (name ∷ names) there = (
    none-bound (binding_of globals before name.text) (λ other e. keeps _ _ (hides before returns name other (in-contains (sites_of tree) _ (there _ (inl refl))) e)),
    all-new returns (before ++ params_from number (name ∷ [])) (number + 1) names (λ site h. there site (inr h)),
  )

  decl-sites : (decl : Decl) (item : Item) → IsIn decl (decls_of_item item) → (site : Site) → IsIn site (sites_of_decl globals decl) → IsIn site (sites_of_item globals item)
  decl-sites decl (items.Regions names) there site h = absurd there
  decl-sites decl (items.Cell cell) there site h = absurd there
  decl-sites decl (items.Method its) (inl e) site h = subst (λ (d : Decl). IsIn site (sites_of_decl globals d)) e h
  decl-sites decl (items.Method its) (inr none) site h = absurd none
  decl-sites decl (items.Task deterministic its) (inl e) site h = subst (λ (d : Decl). IsIn site (sites_of_decl globals d)) e h
  decl-sites decl (items.Task deterministic its) (inr none) site h = absurd none

  module _ (decl : Decl) (there : Contains (decls_of tree) decl) where
    params-new : AllNew [] 0 decl.params
    params-new =
        let from = flat_map-in decls_of_item tree.items decl (contains-in (decls_of tree) decl there) in
        all-new decl.returns [] 0 decl.params
        (λ site h. in-flat_map (sites_of_item globals) tree.items from.0 site from.1
        (decl-sites decl from.0 from.2 site (in-left site (sites_of_params decl.returns [] 0 decl.params) _ h)))

    no-local : (local : Option Local) (global : Option Global) → either local global ≡ None → local ≡ None
    no-local None global e = refl
    no-local (Some local) global e = absurd (cc)

    no-global : (local : Option Local) (global : Option Global) → either local global ≡ None → global ≡ None
    no-global None None e = refl
    no-global None (Some global) e = absurd (cc)
    no-global (Some local) global e = absurd (cc)

    not-first : (text : List ℕ) (name : LocalName) (front : Option Local) (b : Bool) → bytes_eq text name.text ≡ b
        → (if bytes_eq text name.text then Some name.local else front) ≡ None → (bytes_eq text name.text ≡ false) × (front ≡ None)
    not-first text name front true is none =
        absurd (let some : Some name.local ≡ None = sym (cond-true (bytes_eq text name.text) (Some name.local) front is) ∙ none in cc)
    not-first text name front false is none = (is, sym (cond-false (bytes_eq text name.text) (Some name.local) front is) ∙ none)

    first-later : (text : List ℕ) (front back : List LocalName) → first_local text front ≡ None → first_local text (front ++ back) ≡ first_local text back
    first-later text [] back none = refl
    first-later text (name ∷ front) back none =
        let parts = not-first text name (first_local text front) (bytes_eq text name.text) refl none in
        cond-false (bytes_eq text name.text) _ _ parts.0 ∙ first-later text front back parts.1

    found-param : (before : List LocalName) (number k : ℕ) (names : List Name) → AllNew before number names → k < length names
        → first_local (name_at (texts_of names) k) (before ++ params_from number names) ≡ Some (local_kinds.Variable (number + k) types.Int true)
    found-param before number k [] new below = absurd (omega arith)
    found-param before number zero (name ∷ names) new below =
        let same : number ≡ number + 0 = omega arith in
        first-later name.text before _ (no-local (first_local name.text before) (global_of globals name.text) new.0)
        ∙ cond-true (bytes_eq name.text name.text) _ _ (same-bytes name.text) ∙ ap (λ n. Some (local_kinds.Variable n types.Int true)) same
    found-param before number (suc k) (name ∷ names) new below =
        let same : (number + 1) + k ≡ number + suc k = omega arith in
        ap (first_local (name_at (texts_of names) k)) (sym (append_assoc before (params_from number (name ∷ [])) (params_from (number + 1) names)))
        ∙ found-param (before ++ params_from number (name ∷ [])) (number + 1) k names new.1 (omega arith) ∙ ap (λ n. Some (local_kinds.Variable n types.Int true)) same

    -- each parameter's name is bound to its number
    pub param-bound : (k : ℕ) → k < length decl.params → first_local (name_at (texts_of decl.params) k) (params_of decl) ≡ Some (local_kinds.Variable k types.Int true)
    param-bound k below =
        let same : 0 + k ≡ k = omega arith in
        found-param [] 0 k decl.params params-new below ∙ ap (λ n. Some (local_kinds.Variable n types.Int true)) same

    not-param : (text : List ℕ) (global : Global) → global_of globals text ≡ Some global → (before : List LocalName) (number : ℕ) (names : List Name) → AllNew before number names
        → first_local text (params_from number names) ≡ None
    not-param text global is before number [] new = refl
    not-param text global is before number (name ∷ names) new =
        let none : global_of globals name.text ≡ None = no-global (first_local name.text before) (global_of globals name.text) new.0 in
        let apart : ¬ (text ≡ name.text) = λ e. (let some = sym is ∙ ap (global_of globals) e ∙ none in cc) in
        cond-false (bytes_eq text name.text) _ _ (other-bytes text name.text apart)
        ∙ not-param text global is (before ++ params_from number (name ∷ [])) (number + 1) names new.1

    -- no parameter hides a region
    pub region-in-scope : (n : ℕ) → n < length regions → binding_of globals (params_of decl) (name_at regions n) ≡ Some (bindings.Global (global_kinds.Region n))
    region-in-scope n below =
        let bound = region-bound n below in
        ap (λ local. either local (global_of globals (name_at regions n))) (not-param (name_at regions n) (global_kinds.Region n) bound [] 0 decl.params params-new)
        ∙ ap seen_as_global bound
