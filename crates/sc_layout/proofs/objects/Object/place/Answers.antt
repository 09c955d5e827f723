use Rattle.std.proofs.Common.{◌^◌, ◌<◌, Some, ap, ◌∙◌, arith}
use Rattle.sc_layout.proofs.Extents.{Keeps, past, in_spread, in_ordinary, near, index_near}
use Rattle.sc_layout.proofs.objects.Object.place.Goals as goal

pub returns-then-from-self : goal.returns-then-from-self
returns-then-from-self c =
    let k : Keeps c.args.self.now c.self.inside.blocks c.self.inside.block = rw (← c.self.view_is) (record { blocks_are = c.self.invariant.0; block_is = c.self.invariant.1 }) in
    past c.args.nodes c.args.node c.args.object c.args.index c.self.inside.blocks c.self.inside.block c.args.self.now k c.requires.small (omega arith)

pub place_in_blocks-requires-clause-near : goal.place_in_blocks-requires-clause-near
place_in_blocks-requires-clause-near c =
    let k : Keeps c.args.self.now c.self.inside.blocks c.self.inside.block = rw (← c.self.view_is) (record { blocks_are = c.self.invariant.0; block_is = c.self.invariant.1 }) in
    near c.args.nodes c.args.index c.self.inside.blocks c.self.inside.block c.args.self.now k c.requires.small (rw (← c.self.view_is) c.if-self.true) (omega arith)

pub overflow_cast-result : goal.overflow_cast-result
overflow_cast-result c =
    let k : Keeps c.args.self.now c.self.inside.blocks c.self.inside.block = rw (← c.self.view_is) (record { blocks_are = c.self.invariant.0; block_is = c.self.invariant.1 }) in
    let near : c.args.index < 2 ^ 32 = index_near c.args.nodes c.args.node c.args.index c.self.inside.blocks c.self.inside.block c.args.self.now c.requires.node k c.requires.small (rw (← c.self.view_is) c.if-self.false) (omega arith) in
    omega arith

pub returns-then-self : goal.returns-then-self
returns-then-self c =
    let k : Keeps c.args.self.now c.self.inside.blocks c.self.inside.block = rw (← c.self.view_is) (record { blocks_are = c.self.invariant.0; block_is = c.self.invariant.1 }) in
    ap Some c.place_in_blocks.ensures ∙ in_spread c.args.nodes c.args.node c.args.object c.args.index c.self.inside.blocks c.self.inside.block c.args.self.now k c.requires.small (rw (← c.self.view_is) c.if-self.true) (omega arith)

pub returns-else-self : goal.returns-else-self
returns-else-self c =
    let k : Keeps c.args.self.now c.self.inside.blocks c.self.inside.block = rw (← c.self.view_is) (record { blocks_are = c.self.invariant.0; block_is = c.self.invariant.1 }) in
    in_ordinary c.args.nodes c.args.node c.args.object c.args.index c.self.inside.blocks c.self.inside.block c.args.self.now k c.requires.small (rw (← c.self.view_is) c.if-self.false) (omega arith)
