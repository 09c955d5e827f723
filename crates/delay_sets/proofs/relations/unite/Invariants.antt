use Rattle.std.proofs.Common.{◌⊎◌, ◌<◌}
use Rattle.site_graph.specs.Bits.{IsSet}
use Rattle.delay_sets.specs.Relations.{HasPairs}
use Rattle.delay_sets.proofs.relations.unite.Given as goal

abbrev pub invariant-loop-row : goal.invariant-loop-row
invariant-loop-row l = HasPairs l.initial.rows (λ r c. IsSet l.initial.rows r c ⊎ ((r < l.row) × IsSet l.more r c)) l.rows
