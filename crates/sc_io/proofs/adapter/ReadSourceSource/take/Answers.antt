use Rattle.std.proofs.Common.{arith}
use Rattle.sc_io.proofs.ByteLists.{none_given}
use Rattle.sc_io.proofs.adapter.ReadSourceSource.take.Goals as goal

pub returns-in-Ok-eq0-clause-bytes : goal.returns-in-Ok-eq0-clause-bytes
returns-in-Ok-eq0-clause-bytes g c = (
  none_given _ _ _ _ c.in-Ok-eq0.field-0-test c.in-Ok-eq0.ensures.bytes.0,
  c.in-Ok-eq0.ensures.bytes.1 c.in-Ok-eq0.field-0-test (omega arith),
)
