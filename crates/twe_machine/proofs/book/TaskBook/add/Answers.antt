use Rattle.std.proofs.Common.{◌≡◌, ◌+◌, ◌++◌, List, length, drop, sym, ap, ◌∙◌, arith}
use Rattle.std.specs.Prelude.{take_while}
use Rattle.region_paths.specs.declared.elements.Elem.{Elem}
use Rattle.region_paths.specs.Filled.{is_solid}
use Rattle.prefix_tree.specs.Nodes.{path_of}
use Rattle.effect_tree.specs.inner.Parts.{elem_paths}
use Rattle.effect_tree.proofs.FrontLemmas.{front_ends, front_goes, front_stops}
use Rattle.twe_machine.proofs.listing.Books.{know_next, nothing_above, path_grown, paths_kept, root_path, stands_keeps, stands_new, stands_nodes}
use Rattle.twe_machine.proofs.book.TaskBook.add.Goals as goal

pub loop-elem-init : goal.loop-elem-init
loop-elem-init c =
    let tree = c.root-at.ensures.tree in
    let zero = c.root-at.ensures.number in
    let empty = root_path c.args.self.now.tree c.root-at.result zero tree in
    let some = tree.some in
    record {
      there = omega (arith, zero, some);
      front = ap (λ (path : List Elem). path ++ take_while is_solid c.args.elems.now) empty;
      above = nothing_above c.args.self.now c.root-at.result c.args.t empty;
      kept = λ s front has h. h;
      decided = c.requires.decided;
    }

pub loop-elem-preserved : goal.loop-elem-preserved
loop-elem-preserved c =
    let st = c.args.st.now in
    let loop = c.loop-elem in
    let book = loop.self in
    let below = c.in_ok-push_at-2.ensures in
    let child = c.in_ok-at.ensures in
    let path = path_grown book.tree c.child_or_new.new.self loop.at c.in_ok-at.at c.in-Some.part child.path in
    record {
      there = child.there;
      front =
          ap (λ (p : List Elem). p ++ take_while is_solid (drop (loop.elem-index + 1) c.args.elems.now)) path
          ∙ front_goes (path_of (elem_paths book.tree) loop.at) c.args.elems.now loop.elem-index c.in-Some.part c.loop-elem-test.true loop.invariant.front (sym c.in-Some.ensures);
      above =
          know_next st book c.child_or_new.new.self c.push_at-in-loop-elem.new.nodes loop.at c.in_ok-at.at c.args.t c.in-Some.part loop.invariant.there c.requires.enabled
          child.grows.longer child.grows.kept below.kept child.path below.added loop.invariant.above;
      kept = λ s front has h.
          stands_keeps st book (record book { tree = c.child_or_new.new.self; nodes = c.push_at-in-loop-elem.new.nodes }) child.grows.longer
          (paths_kept book.tree c.child_or_new.new.self child.grows.kept) below.kept front s has (loop.invariant.kept s front has h);
      decided = below.decided;
    }

pub returns-in_default-clause-added : goal.returns-in_default-clause-added
returns-in_default-clause-added c =
    let loop = c.loop-elem in
    let here = c.in_ok-push_at.ensures in
    stands_new c.args.st.now loop.self c.push_at.new.nodes loop.at c.args.t (take_while is_solid c.args.elems.now) loop.invariant.there
    (front_stops (path_of (elem_paths loop.self.tree) loop.at) c.args.elems.now loop.elem-index c.loop-elem-test.true loop.invariant.front (sym c.in_default.ensures))
    c.requires.enabled here.kept here.added loop.invariant.above

pub returns-in_default-clause-kept : goal.returns-in_default-clause-kept
returns-in_default-clause-kept c = λ s front has h.
    stands_nodes c.args.st.now c.loop-elem.self c.push_at.new.nodes c.in_ok-push_at.ensures.kept front s has (c.loop-elem.invariant.kept s front has h)

pub returns-clause-added : goal.returns-clause-added
returns-clause-added c =
    let loop = c.loop-elem in
    let here = c.in_ok-push_at-3.ensures in
    let all : length c.args.elems.now ≡ loop.elem-index = omega arith in
    stands_new c.args.st.now loop.self c.push_at-2.new.nodes loop.at c.args.t (take_while is_solid c.args.elems.now) loop.invariant.there
    (front_ends (path_of (elem_paths loop.self.tree) loop.at) c.args.elems.now loop.elem-index all loop.invariant.front)
    c.requires.enabled here.kept here.added loop.invariant.above

pub returns-clause-kept : goal.returns-clause-kept
returns-clause-kept c = λ s front has h.
    stands_nodes c.args.st.now c.loop-elem.self c.push_at-2.new.nodes c.in_ok-push_at-3.ensures.kept front s has (c.loop-elem.invariant.kept s front has h)
