use Rattle.std.proofs.Common.{◌≡◌, ◌*◌, ◌≤◌, arith}
use Rattle.sc_layout.specs.Layout.{cells_of}
use Rattle.sc_layout.proofs.Extents.{Keeps, spread_cells, ordinary_cells}
use Rattle.sc_layout.proofs.objects.Object.cells_on.Goals as goal
use Rattle.sc_layout.proofs.objects.Object.cells_on.Goals.{then-self, else-self}

pub returns : goal.returns
returns c =
    let k : Keeps c.args.self.now c.self.inside.blocks c.self.inside.block = rw (← c.self.view_is) (record { blocks_are = c.self.invariant.0; block_is = c.self.invariant.1 }) in
    elim c.if-self.branch [
      | then-self w ↦ spread_cells c.args.nodes c.args.node c.self.inside.blocks c.self.inside.block c.if-self.rounds c.args.self.now k c.requires.small (rw (← c.self.view_is) w.if-self.true) (grind (arith, w.rounds-is, w.from.ensures, w.from-then-self.ensures))
      | else-self w ↦ ordinary_cells c.args.nodes c.args.node c.self.inside.blocks c.self.inside.block c.if-self.rounds c.args.self.now k c.requires.small (rw (← c.self.view_is) w.if-self.false) w.rounds-is
    ]

pub overflow_cast-result : goal.overflow_cast-result
overflow_cast-result c =
    let k : Keeps c.args.self.now c.self.inside.blocks c.self.inside.block = rw (← c.self.view_is) (record { blocks_are = c.self.invariant.0; block_is = c.self.invariant.1 }) in
    let is : c.if-self.rounds * c.self.inside.block ≡ cells_of c.args.nodes c.args.self.now c.args.node =
    (elim c.if-self.branch [
      | then-self w ↦ spread_cells c.args.nodes c.args.node c.self.inside.blocks c.self.inside.block c.if-self.rounds c.args.self.now k c.requires.small (rw (← c.self.view_is) w.if-self.true) (grind (arith, w.rounds-is, w.from.ensures, w.from-then-self.ensures))
      | else-self w ↦ ordinary_cells c.args.nodes c.args.node c.self.inside.blocks c.self.inside.block c.if-self.rounds c.args.self.now k c.requires.small (rw (← c.self.view_is) w.if-self.false) w.rounds-is
    ]) in
    let few : cells_of c.args.nodes c.args.self.now c.args.node ≤ 65536 = c.requires.small.on_node c.args.node c.requires.node in
    omega arith
