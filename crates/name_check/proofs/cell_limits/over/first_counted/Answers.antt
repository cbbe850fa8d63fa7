-- One item more, which declares a cell or none.
use Rattle.std.proofs.Common.{◌≡◌, ℕ, ◌+◌, ◌++◌, List, length, take, drop, sym, ap, subst, ◌∙◌, arith}
use Rattle.std.proofs.Math.Seq.{take-length}
use Rattle.std.proofs.lemmas.List.{append-nil}
use Rattle.twe_ast.specs.declared.item.CellDecl.{CellDecl}
use Rattle.name_check.specs.declared.cell_limits.count.Count.{Count}
use Rattle.name_check.specs.cell_limits.GoesOver.{cells_of, GoesOver}
use Rattle.name_check.specs.cell_limits.inner.Counting.{HasCounted, CountsOn}
use Rattle.name_check.proofs.cell_limits.Known.{AreKnown, cells_of-more}
use Rattle.name_check.proofs.cell_limits.Counts.{HasCounted-more}
use Rattle.name_check.proofs.cell_limits.Overs.{goes-over, cells_of-around, IsFirstOver-some, IsFirstOver-none}
use Rattle.name_check.proofs.cell_limits.over.first_counted.Goals as goal
use Rattle.name_check.proofs.cell_limits.over.first_counted.Goals.{in-Some+in_ok-add+else-not-branch, in_default}

pub returns-then-not-branch : goal.returns-then-not-branch
returns-then-not-branch c =
    let names = c.args.names.now in
    let its = c.args.items.now in
    let at = c.loop-item.item-index in
    let cell = c.in-Some.cell.now in
    let around = cells_of-around its at c.item-item.result cell c.loop-item-test.true c.item-item.is c.in-Some.ensures in
    let on = subst (CountsOn names c.loop-item.count c.add.new.self cell) c.if-not-branch.true c.in_ok-add.ensures in
    IsFirstOver-some its cell
    (subst (λ (cells : List CellDecl). GoesOver cells cell) (sym around)
    (goes-over names c.requires.console (cells_of (take at its)) cell (cells_of (drop (at + 1) its)) c.loop-item.count c.add.new.self
    (subst (AreKnown names) around c.requires.cells) c.loop-item.invariant on))

pub loop-item-preserved : goal.loop-item-preserved
loop-item-preserved c =
    let names = c.args.names.now in
    let its = c.args.items.now in
    let at = c.loop-item.item-index in
    let before = cells_of (take at its) in
    let more = cells_of-more its at c.item-item.result c.loop-item-test.true c.item-item.is in
    let Goal : Count → List CellDecl → Type 0 = λ count cells. HasCounted names cells count in
    elim c.match-cell_of.branch [
      | in-Some+in_ok-add+else-not-branch w ↦
          let cell = w.in-Some.cell.now in
          let on = subst (CountsOn names c.loop-item.count w.add.new.self cell) w.if-not-branch.false w.in_ok-add.ensures in
          subst (λ (count : Count). Goal count (cells_of (take (at + 1) its))) (sym w.count-is)
          (subst (Goal w.add.new.self) (sym (more ∙ ap (λ (cells : List CellDecl). before ++ cells) w.in-Some.ensures))
          (HasCounted-more names before cell c.loop-item.count w.add.new.self c.loop-item.invariant on.0 on.1))
      | in_default w ↦
          subst (λ (count : Count). Goal count (cells_of (take (at + 1) its))) (sym w.count-is)
          (subst (Goal c.loop-item.count) (sym (more ∙ ap (λ (cells : List CellDecl). before ++ cells) w.in_default.ensures ∙ append-nil before)) c.loop-item.invariant)
    ]

pub returns : goal.returns
returns c =
    let names = c.args.names.now in
    let its = c.args.items.now in
    let all : c.loop-item.item-index ≡ length its = omega arith in
    IsFirstOver-none names c.requires.console its c.loop-item.count c.requires.cells
    (subst (λ (cells : List CellDecl). HasCounted names cells c.loop-item.count) (ap (λ (n : ℕ). cells_of (take n its)) all ∙ ap cells_of (take-length its)) c.loop-item.invariant)
