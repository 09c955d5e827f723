use Rattle.std.proofs.Common.{arith}
use Rattle.site_graph.proofs.Words.{test_bit}
use Rattle.site_graph.proofs.bit_rows.has_bit.Goals as goal

pub returns : goal.returns
returns c = test_bit c.args.word _ (omega arith)
