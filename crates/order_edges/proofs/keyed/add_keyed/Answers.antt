use Rattle.std.specs.BTreeMap.{get}
use Rattle.order_edges.specs.Keyed.{key_cmp}
use Rattle.order_edges.proofs.Loops.{ones_more, linked_more}
use Rattle.order_edges.proofs.keyed.add_keyed.Goals as goal

pub loop-turn-preserved : goal.loop-turn-preserved
loop-turn-preserved c =
    let l = c.loop-turn.invariant in
    record {
      noted = ones_more c.args.pairing c.args.items.now c.loop-turn.turn _ _ _ _ (get key_cmp c.loop-turn.ones)
          c.at_turn-at.ensures.is c.at_turn-at.ensures.within c.marked-mark.ensures c.in_ok-note.ensures l.noted;
      linked = linked_more c.args.pairing c.args.items.now c.loop-turn.turn _ _ _ (get key_cmp c.loop-turn.ones) _ _ _
          c.at_turn-at.ensures.is c.at_turn-at.ensures.within c.marked-mark.ensures c.in_ok-link_marked.ensures l.noted l.linked;
    }
