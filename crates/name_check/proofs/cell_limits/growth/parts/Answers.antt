-- One part more.
use Rattle.std.proofs.Common.{◌≡◌, ℕ, ◌++◌, ◌∷◌, [], List, length, take, map, sym, ap, ◌∙◌, arith}
use Rattle.std.proofs.Math.Seq.{take-length}
use Rattle.twe_ast.specs.declared.path.CellElem.{CellElem}
use Rattle.prefix_tree.specs.declared.part.Part.{Part}
use Rattle.name_check.specs.cell_limits.inner.Parts.{part_of}
use Rattle.name_check.proofs.cell_limits.WrittenParts.{parts-more}
use Rattle.name_check.proofs.cell_limits.growth.parts.Goals as goal

pub loop-elem-preserved : goal.loop-elem-preserved
loop-elem-preserved c =
    let loop = c.loop-elem in
    let f : CellElem → Part = λ elem. part_of c.args.names.now elem.kind in
    c.in_ok-push.ensures.items
    ∙ ap (λ (ps : List Part). ps ++ c.part.result ∷ []) loop.invariant
    ∙ ap (λ (p : Part). map f (take loop.elem-index c.args.elems.now) ++ p ∷ []) c.part.ensures
    ∙ sym (parts-more f c.args.elems.now loop.elem-index c.elem-item.result c.loop-elem-test.true c.elem-item.is)

pub returns : goal.returns
returns c =
    let loop = c.loop-elem in
    let f : CellElem → Part = λ elem. part_of c.args.names.now elem.kind in
    let all : loop.elem-index ≡ length c.args.elems.now = omega arith in
    loop.invariant ∙ ap (λ (n : ℕ). map f (take n c.args.elems.now)) all ∙ ap (map f) (take-length c.args.elems.now)
