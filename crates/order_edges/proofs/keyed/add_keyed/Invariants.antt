use Rattle.std.proofs.Common.{◌≡◌, ◌++◌}
use Rattle.std.specs.BTreeMap.{get}
use Rattle.order_edges.specs.Keyed.{Key, key_cmp, last_one, keyed_edges}
use Rattle.order_edges.proofs.keyed.add_keyed.Given as goal

abbrev pub invariant-loop-turn : goal.invariant-loop-turn
invariant-loop-turn l = record {
  noted : (key : Key) → get key_cmp l.ones key ≡ last_one l.pairing l.items l.turn key;
  linked : l.edges.items ≡ l.initial.edges.items ++ keyed_edges l.pairing l.items l.turn;
}
