use Rattle.std.proofs.Common.{arith}
use Rattle.sc_layout.proofs.Extents.{Keeps, first_spread, first_ordinary}
use Rattle.sc_layout.proofs.objects.Object.first_cells.Goals as goal
use Rattle.sc_layout.proofs.objects.Object.first_cells.Goals.{then-self, else-self}

pub returns : goal.returns
returns c =
    let k : Keeps c.args.self.now c.self.inside.blocks c.self.inside.block = rw (← c.self.view_is) (record { blocks_are = c.self.invariant.0; block_is = c.self.invariant.1 }) in
    rw (c.narrowed.ensures, c.saturating_mul.ensures)
    (elim c.if-self.branch [
      | then-self w ↦ first_spread c.args.nodes c.self.inside.blocks c.self.inside.block c.if-self.rounds c.args.self.now c.requires (omega arith) k (rw (← c.self.view_is) w.if-self.true) (grind (arith, w.rounds-is, w.from.ensures, w.from-then-self.ensures, w.saturating_add.ensures))
      | else-self w ↦ first_ordinary c.args.nodes c.self.inside.blocks c.self.inside.block c.if-self.rounds c.args.self.now k (rw (← c.self.view_is) w.if-self.false) w.rounds-is
    ])
