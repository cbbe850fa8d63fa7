-- A program may be shared by threads: its parts are data, and its trees are shared as their parts are.
use denote.Param.Send.{IsSync, plain_sync, recorded_sync, struct_sync, sendable}
use denote.Param.SendFields.{as_row_sync}
use denote.Struct.Declared.{shape}
use denote.Struct.Tuple.{TupleAt, field_at, type_at}
use denote.RattleType.{RattleType}
use mathlib.Core.List.{[], ◌∷◌}
use mir.Syntax.{Sym}
use denote.Struct.Field.{bool-field, i32-field, u32-field}
use denote.Builtin.{u32}
use denote.Hole.{as_row}
use Rattle.std.proofs.Crossing as heap
use Rattle.std.proofs.option.Option.TheSendSync as option
use Rattle.std.specs.contracts.option.Option as Option
use Rattle.twe_base.proofs.list.List.TheSendSync as list
use Rattle.twe_base.proofs.word.Word.TheSendSync as word
use Rattle.twe_base.proofs.place.Place.TheSendSync as place
use Rattle.twe_base.specs.contracts.place.Place as Place
use Rattle.twe_ast.proofs.expr.BinOp.TheSendSync as operator
use Rattle.twe_ast.specs.contracts.expr.BinOp as BinOp
use Rattle.effect_sets.proofs.effects.Summary.TheSendSync as summary
use Rattle.twe_program.proofs.expr.Args.TheLaws.TheKnot as expressions
use Rattle.twe_program.proofs.stmt.Arms.TheLaws.TheKnot as statements
use Rattle.twe_program.proofs.program.CellDecl.TheSendSync as cells
use Rattle.twe_program.specs.contracts.expr.Expr as Expr
use Rattle.twe_program.specs.contracts.expr.Args as Args
use Rattle.twe_program.specs.contracts.stmt.Block as Block
use Rattle.twe_program.specs.contracts.program.Body as Body
use Rattle.twe_program.specs.contracts.program.Decl as Decl
use Rattle.twe_program.specs.contracts.program.Prog as Prog

truth : IsSync (as_row bool-field)
truth = as_row_sync bool-field (plain_sync _ _ _ _ _)

number : IsSync (as_row u32-field)
number = as_row_sync u32-field (plain_sync _ _ _ _ _)

integer : IsSync (as_row i32-field)
integer = as_row_sync i32-field (plain_sync _ _ _ _ _)

where_ : IsSync (as_row Place.the_field)
where_ = as_row_sync Place.the_field place.the_field_sync

operation : IsSync (as_row BinOp.the_field)
operation = as_row_sync BinOp.the_field operator.the_field_sync

expr_sync : IsSync Expr.the_row
expr_sync = expressions.sync-Expr heap.Vec-sync truth integer number where_ heap.Box-sync (λ h s. option.the_sync _ (heap.Box-sync h s)) operation

args_sync : IsSync Args.the_row
args_sync = expressions.sync-Args heap.Vec-sync truth integer number where_ heap.Box-sync (λ h s. option.the_sync _ (heap.Box-sync h s)) operation

block_sync : IsSync Block.the_row
block_sync =
    statements.sync-Block heap.Vec-sync option.the_sync number (as_row_sync Expr.the_field expr_sync) where_
    (as_row_sync (Option.the_field Expr.the_row) (option.the_field_sync Expr.the_row expr_sync)) (as_row_sync Args.the_field args_sync) truth
    (as_row_sync (Option.the_field u32) (option.the_field_sync u32 (plain_sync _ _ _ _ _)))

body_sync : IsSync (Body.the_field).row
body_sync = struct_sync (shape Body.the_type)
    (block_sync, (plain_sync _ _ _ _ _, (plain_sync _ _ _ _ _, (plain_sync _ _ _ _ _, (place.the_field_sync, tt)))))

decl_sync : IsSync Decl.the_row
decl_sync =
    recorded_sync (Decl.the_field).row _ _ (Decl.the_type).to_one (struct_sync (shape Decl.the_type)
    (word.the_sync, (plain_sync _ _ _ _ _, (plain_sync _ _ _ _ _, (plain_sync _ _ _ _ _, (summary.the_field_sync, (body_sync, (place.the_field_sync, tt))))))))

pub prog_sync : IsSync Prog.the_row
prog_sync = search (decl_sync, cells.the_sync, word.the_sync, list.the_sync, heap.crosses, sendable) depth 60 fits 200000

-- what captures one value is shared as that is
pub tuple_sync : (name : Sym) (R : RattleType) → IsSync R → IsSync (TupleAt name (R ∷ []))
tuple_sync name R s =
    recorded_sync (field_at name (R ∷ [])).row _ _ (type_at name (R ∷ [])).to_one (struct_sync (shape (type_at name (R ∷ []))) (s, tt))
