use Rattle.std.proofs.Common.{◌∙◌, ◌-◌, length, length-set, arith}
use Rattle.order_edges.specs.Lines.{look}
use Rattle.order_edges.proofs.Loops.{read_more, next_more, nexts_more}
use Rattle.order_edges.proofs.nexts.nexts.Goals as goal

pub loop-turn-preserved : goal.loop-turn-preserved
loop-turn-preserved c =
    let l = c.loop-turn.invariant in
    let w = c.loop-turn-test.true in
    let table = c.args.table.now in
    let turn = c.loop-turn.turn in
    let read = read_more table (length table - 1 - turn) _ _ _ (omega (arith, w)) c.or_else-next.ensures in
    let next = next_more (look table) (length table) turn _ _ w read l.next_is in
    record {
      size = length-set _ _ _ ∙ l.size;
      next_is = next;
      noted = nexts_more (look table) (length table) turn _ _ w l.size next l.noted;
    }
