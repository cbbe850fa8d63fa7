-- Outside tasks no statement makes a task.
use Rattle.std.proofs.Common.{◌≡◌, Bool, true, false, List, refl}
use Rattle.std.proofs.lemmas.Bool.{and_from}
use Rattle.std.specs.List.{All, Contains}
use Rattle.std.proofs.lemmas.List.Elements.{All-nil, All-cons, All-contains}
use Rattle.twe_ast.specs.declared.item.Decl.{Decl}
use Rattle.twe_ast.specs.declared.item.Item.{Item}
use Rattle.twe_ast.specs.declared.item.Item.TheVariants as items
use Rattle.twe_ast.specs.Statement.{Statement, Statements, Arms}
use Rattle.twe_lexer.specs.declared.token.Token.{Token}
use Rattle.twe_parser.specs.Writes.{WritesDecl, decl, WritesItem, regions, cell, array, grid, method, task, deterministic_task, WritesItems, no_more_items, more_items}
use Rattle.twe_parser.specs.WritesStatement.{WritesStatement, block, let_local, let_final, set, set_array, set_grid, if_arms, while, return_nothing, return_value, print, call, make, wait_for, let_wait, final_wait, WritesStatements, closed, one_more, WritesArms, if_arm, MoreArms, no_more_arms, else_block, else_if}
use Rattle.twe_names.specs.FromText.{makes_none, all_make_none, arms_make_none}

mutual
  in_statement : {in_task : Bool} {s : Statement} {tokens rest : List Token} → WritesStatement in_task s tokens rest → in_task ≡ false → makes_none s ≡ true
  in_statement (block body) out = in_statements body out
  in_statement (let_local value) out = refl
  in_statement (let_final value) out = refl
  in_statement (set value) out = refl
  in_statement (set_array at value) out = refl
  in_statement (set_grid row column value) out = refl
  in_statement (if_arms arms) out = in_arms arms out
  in_statement (while condition body) out = in_statements body out
  in_statement return_nothing out = refl
  in_statement (return_value value) out = refl
  in_statement (print value) out = refl
  in_statement (call args) out = refl
  in_statement (make args) out = cc
  in_statement (wait_for it) out = refl
  in_statement (let_wait it) out = refl
  in_statement (final_wait it) out = refl

  in_statements : {in_task : Bool} {body : Statements} {tokens rest : List Token} → WritesStatements in_task body tokens rest → in_task ≡ false → all_make_none body ≡ true
  in_statements closed out = refl
  in_statements (one_more {first = s} {others = body} first others) out = and_from (makes_none s) (all_make_none body) (in_statement first out) (in_statements others out)

  in_arms : {in_task : Bool} {arms : Arms} {tokens rest : List Token} → WritesArms in_task arms tokens rest → in_task ≡ false → arms_make_none arms ≡ true
  in_arms (if_arm {body = inside} {next = more} condition body next) out = and_from (all_make_none inside) (arms_make_none more) (in_statements body out) (in_more_arms next out)

  in_more_arms : {in_task : Bool} {arms : Arms} {tokens rest : List Token} → MoreArms in_task arms tokens rest → in_task ≡ false → arms_make_none arms ≡ true
  in_more_arms no_more_arms out = refl
  in_more_arms (else_block body) out = in_statements body out
  in_more_arms (else_if arms) out = in_arms arms out

in_decl : {in_task : Bool} {it : Decl} {tokens rest : List Token} → WritesDecl in_task it tokens rest → in_task ≡ false → all_make_none it.body ≡ true
in_decl (decl names effects body) out = in_statements body out

-- where the item is a method, its body makes no task
abbrev IsTaskless : Item → Type 0
IsTaskless (items.Method it) = all_make_none it.body ≡ true
IsTaskless _ = Unit {0}

in_item : {it : Item} {tokens rest : List Token} → WritesItem it tokens rest → IsTaskless it
in_item (regions others) = tt
in_item (cell path start) = tt
in_item (array path) = tt
in_item (grid path) = tt
in_item (method it) = in_decl it refl
in_item (task it) = tt
in_item (deterministic_task it) = tt

in_items : {them : List Item} {tokens : List Token} → WritesItems them tokens → All IsTaskless them
in_items no_more_items = All-nil IsTaskless
in_items (more_items {first = first} {others = others} one more) = All-cons IsTaskless first others (in_item one) (in_items more)

pub methods_make_none : (them : List Item) (tokens : List Token) → WritesItems them tokens → (it : Decl) → Contains them (items.Method it) → all_make_none it.body ≡ true
methods_make_none them tokens writes it there = All-contains IsTaskless them (items.Method it) (in_items writes) there
