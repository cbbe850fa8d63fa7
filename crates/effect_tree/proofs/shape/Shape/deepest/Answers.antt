-- The walk goes on by each solid element by which there is a node right below. If it ends, no node lies deeper on the way.
use Rattle.std.proofs.Common.{◌≡◌, ◌+◌, ◌++◌, ◌∷◌, [], List, length, drop, sym, ap, subst, ◌∙◌, arith}
use Rattle.std.specs.Prelude.{take_while}
use Rattle.region_paths.specs.declared.elements.Elem.{Elem}
use Rattle.region_paths.specs.Filled.{is_solid}
use Rattle.prefix_tree.specs.Nodes.{path_of, IsNode, IsTreeOfPaths}
use Rattle.effect_tree.specs.inner.Parts.{elem_of}
use Rattle.effect_tree.proofs.PartPaths.{length-elems, IsTreeOfPaths-elems, child-elems, absent-elems}
use Rattle.effect_tree.proofs.FrontLemmas.{front_stops, front_goes, front_next, front_ends}
use Rattle.effect_tree.proofs.DeepestLemmas.{IsDeepest-whole, IsDeepest-stop}
use Rattle.effect_tree.proofs.shape.Shape.deepest.Goals as goal

pub loop-elem-init : goal.loop-elem-init
loop-elem-init c =
    let tree = subst IsTreeOfPaths c.self.view_is (IsTreeOfPaths-elems c.self.inside.tree c.self.invariant.0) in
    record {
      there = tree.some;
      front = ap (λ (path : List Elem). path ++ take_while is_solid c.args.elems.now) tree.root;
    }

pub child-requires : goal.child-requires
child-requires c =
    let all = length-elems c.self.inside.tree in
    let seen = ap length c.self.view_is in
    let there = c.loop-elem.invariant.there in
    omega arith

pub returns-in_default-clause-deepest : goal.returns-in_default-clause-deepest
returns-in_default-clause-deepest c =
    let nodes = c.args.self.now in
    let loop = c.loop-elem in
    IsDeepest-whole nodes loop.at _ loop.invariant.there
    (front_stops (path_of nodes loop.at) c.args.elems.now loop.elem-index c.loop-elem-test.true loop.invariant.front (sym c.in_default.ensures))

pub returns-in_default-child-clause-deepest : goal.returns-in_default-child-clause-deepest
returns-in_default-child-clause-deepest c =
    let nodes = c.args.self.now in
    let loop = c.loop-elem in
    let tree = subst IsTreeOfPaths c.self.view_is (IsTreeOfPaths-elems c.self.inside.tree c.self.invariant.0) in
    let last = elem_of c.in-Some.next in
    IsDeepest-stop nodes tree loop.at last _ (take_while is_solid (drop (loop.elem-index + 1) c.args.elems.now)) loop.invariant.there
    (front_next (path_of nodes loop.at) c.args.elems.now loop.elem-index c.in-Some.next c.loop-elem-test.true loop.invariant.front (sym c.in-Some.ensures))
    (subst (λ (ns : List (List Elem)). ¬ IsNode ns (path_of ns loop.at ++ last ∷ [])) c.self.view_is
    (absent-elems c.self.inside.tree loop.at c.in-Some.next c.in_default-child.ensures))

pub loop-elem-preserved : goal.loop-elem-preserved
loop-elem-preserved c =
    let nodes = c.args.self.now in
    let loop = c.loop-elem in
    let elems = c.args.elems.now in
    let child = c.in-Some-child.child in
    let last = elem_of c.in-Some.next in
    let all = length-elems c.self.inside.tree in
    let seen = ap length c.self.view_is in
    let there = c.in-Some-child.ensures.0 in
    let path =
    subst (λ (ns : List (List Elem)). path_of ns child ≡ path_of ns loop.at ++ last ∷ []) c.self.view_is
    (child-elems c.self.inside.tree loop.at child c.in-Some.next c.in-Some-child.ensures.1) in
    record {
      there = omega arith;
      front =
          ap (λ (p : List Elem). p ++ take_while is_solid (drop (loop.elem-index + 1) elems)) path
          ∙ front_goes (path_of nodes loop.at) elems loop.elem-index c.in-Some.next c.loop-elem-test.true loop.invariant.front (sym c.in-Some.ensures);
    }

pub returns-clause-deepest : goal.returns-clause-deepest
returns-clause-deepest c =
    let nodes = c.args.self.now in
    let loop = c.loop-elem in
    let all : length c.args.elems.now ≡ loop.elem-index = omega arith in
    IsDeepest-whole nodes loop.at _ loop.invariant.there
    (front_ends (path_of nodes loop.at) c.args.elems.now loop.elem-index all loop.invariant.front)
