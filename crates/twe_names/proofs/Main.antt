-- The task `main` of a tree is that of the program that it means.
use Rattle.std.proofs.Common.{◌≡◌, ℕ, Bool, false, bytes_eq, if◌then◌else◌, List, [], ◌∷◌, ◌++◌, Option, None, Some, length, slice_get, codes, Contains, inl, inr, refl, sym, ap, ◌∙◌, subst, append_assoc}
use Rattle.std.proofs.lemmas.Slice.Eq.{bytes_eq-Decides}
use Rattle.std.proofs.lemmas.Bool.{false_from_ne_true, cases_eq, false≢true}
use Rattle.twe_ast.specs.declared.item.Ast.{Ast}
use Rattle.twe_ast.specs.declared.item.Item.{Item}
use Rattle.twe_ast.specs.declared.item.Item.TheVariants as items
use Rattle.twe_ast.specs.declared.item.ReturnType.{ReturnType}
use Rattle.twe_ast.specs.declared.item.ReturnType.TheVariants as return_types
use Rattle.twe_program.specs.declared.program.Decl.{Decl}
use Rattle.twe_program.specs.WellFormed.{IsMain}
use Rattle.name_check.specs.declared.names.GlobalName.{GlobalName}
use Rattle.name_check.specs.declared.binding.Global.{Global}
use Rattle.name_check.specs.declared.binding.Global.TheVariants as global_kinds
use Rattle.name_check.specs.Names.{Before, at_start, declared_by, past, globals_from, globals_of, first_global, seen_as_global}
use Rattle.name_check.specs.FailsName.{IsDeclaredAgain, HasMain}
use Rattle.twe_names.specs.BodyMeaning.{task_number}
use Rattle.twe_names.specs.Meaning.{program_of, returns_value}
use Rattle.twe_names.proofs.Lists.{all-contained, contains-split, contains-middle, contains-later}
use Rattle.twe_names.proofs.There.{DeclThere, GlobalThere}
use Rattle.twe_names.proofs.Globals.{globals-there}

-- the names that an item declares stand among the names of all, after those of the items before it
record DeclaredAt (before : Before) (others : List Item) (item : Item) (after : List Item) : Type 0 where
  counted : Before
  names : List GlobalName
  list : globals_from before (others ++ item ∷ after) ≡ names ++ (declared_by counted item ++ globals_from (past counted item) after)

declared-at : (before : Before) (others : List Item) (item : Item) (after : List Item) → DeclaredAt before others item after
declared-at before [] item after = record { counted = before; names = []; list = refl }
declared-at before (first ∷ others) item after =
    let later = declared-at (past before first) others item after in
    let rest = declared_by later.counted item ++ globals_from (past later.counted item) after in
    record {
      counted = later.counted;
      names = declared_by before first ++ later.names;
      list = ap (λ (gs : List GlobalName). declared_by before first ++ gs) later.list ∙ sym (append_assoc (declared_by before first) later.names rest);
    }

-- a name that stands first of its text is found by it
first-found : (text : List ℕ) (before : List GlobalName) (this : GlobalName) (after : List GlobalName) → text ≡ this.text
    → ((earlier : GlobalName) → Contains before earlier → earlier.text ≡ text → ⊥) → first_global text (before ++ this ∷ after) ≡ Some this.global
first-found text [] this after e none =
    ap (λ (b : Bool). if b then Some this.global else first_global text after) ((bytes_eq-Decides text this.text).1 e)
first-found text (g ∷ before) this after e none =
    let other : bytes_eq text g.text ≡ false = false_from_ne_true (bytes_eq text g.text)
    (λ same. none g (contains-middle [] g before) (sym ((bytes_eq-Decides text g.text).0 same))) in
    ap (λ (b : Bool). if b then Some g.global else first_global text (before ++ this ∷ after)) other
    ∙ first-found text before this after e (λ earlier c same. none earlier (contains-later g before earlier c) same)

main-stable : (o : Option Decl) → ¬ (¬ IsMain o) → IsMain o
main-stable None h = h (λ k. k)
main-stable (Some decl) h = (
  elim (cases_eq decl.params 0) [ inl e ↦ e | inr n ↦ absurd (h (λ m. n m.0)) ],
  false_from_ne_true decl.int (λ t. h (λ m. false≢true (sym m.1 ∙ t))),
)

there-main : (o : Option Decl) (params : ℕ) (returns : ReturnType) → DeclThere o params returns → params ≡ 0 → returns ≡ return_types.Void → IsMain o
there-main None params returns h e f = h
there-main (Some decl) params returns h e f = (h.0 ∙ e, h.1 ∙ ap returns_value f)

module _ (ast : Ast) (once : (this : GlobalName) → ¬ IsDeclaredAgain ast this) where
  has-main : HasMain ast → IsMain (slice_get (program_of ast).tasks (program_of ast).main)
  has-main h =
      let p = program_of ast in
      let item = items.Task h.deterministic h.decl in
      let split = contains-split ast.items item h.there in
      let at = declared-at at_start split.before item split.after in
      let this : GlobalName = record { text = h.decl.name.text; place = h.decl.name.place; global = global_kinds.Task at.counted.tasks (length h.decl.params) h.decl.returns } in
      let later = globals_from (past at.counted item) split.after in
      let list : globals_of ast ≡ at.names ++ this ∷ later = ap (λ (xs : List Item). globals_from at_start xs) split.list ∙ at.list in
      let found : first_global (codes "main") (globals_of ast) ≡ Some this.global =
      ap (λ (gs : List GlobalName). first_global (codes "main") gs) list
      ∙ first-found (codes "main") at.names this later (sym h.named)
      (λ earlier c e. once this (record { before = at.names; after = later; list = list; again = inr (earlier, c, e ∙ sym h.named) })) in
      let number : p.main ≡ at.counted.tasks = ap (λ (o : Option Global). task_number (seen_as_global o)) found in
      let there : GlobalThere p this.global =
      all-contained (λ (g : GlobalName). GlobalThere p g.global) (globals_of ast) (globals-there ast).declared this
      (subst (λ (gs : List GlobalName). Contains gs this) (sym list) (contains-middle at.names this later)) in
      subst (λ (n : ℕ). IsMain (slice_get p.tasks n)) (sym number)
      (there-main (slice_get p.tasks at.counted.tasks) (length h.decl.params) h.decl.returns there (ap length h.plain) h.void)

  pub main-fits : ¬ (¬ HasMain ast) → IsMain (slice_get (program_of ast).tasks (program_of ast).main)
  main-fits h = main-stable (slice_get (program_of ast).tasks (program_of ast).main) (λ n. h (λ m. n (has-main m)))
