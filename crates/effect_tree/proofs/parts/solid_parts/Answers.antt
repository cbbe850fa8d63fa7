-- The walk goes on by each solid element, and ends at the first other one.
use Rattle.std.proofs.Common.{◌≡◌, ◌+◌, ◌++◌, List, map, length, drop, sym, ap, ◌∙◌, arith}
use Rattle.std.specs.Prelude.{take_while}
use Rattle.region_paths.specs.declared.elements.Elem.{Elem}
use Rattle.region_paths.specs.Filled.{is_solid}
use Rattle.prefix_tree.specs.declared.part.Part.{Part}
use Rattle.effect_tree.specs.inner.Parts.{elem_of}
use Rattle.effect_tree.proofs.PartPaths.{elems-snoc}
use Rattle.effect_tree.proofs.FrontLemmas.{front_stops, front_goes, front_ends}
use Rattle.effect_tree.proofs.parts.solid_parts.Goals as goal

pub returns-in_default : goal.returns-in_default
returns-in_default c =
    let loop = c.loop-elem in
    front_stops (map elem_of loop.parts.items) c.args.elems.now loop.elem-index c.loop-elem-test.true loop.invariant (sym c.in_default.ensures)

pub loop-elem-preserved : goal.loop-elem-preserved
loop-elem-preserved c =
    let loop = c.loop-elem in
    let elems = c.args.elems.now in
    let rest = take_while is_solid (drop (loop.elem-index + 1) elems) in
    ap (λ (parts : List Part). map elem_of parts ++ rest) c.in_ok-push.ensures.items
    ∙ ap (λ (xs : List Elem). xs ++ rest) (elems-snoc loop.parts.items c.in-Some.next)
    ∙ front_goes (map elem_of loop.parts.items) elems loop.elem-index c.in-Some.next c.loop-elem-test.true loop.invariant (sym c.in-Some.ensures)

pub returns : goal.returns
returns c =
    let loop = c.loop-elem in
    let all : length c.args.elems.now ≡ loop.elem-index = omega arith in
    front_ends (map elem_of loop.parts.items) c.args.elems.now loop.elem-index all loop.invariant
