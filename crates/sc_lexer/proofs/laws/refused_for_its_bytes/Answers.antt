use Rattle.sc_lexer.proofs.Reasons.{refused-for-bytes}
use Rattle.sc_lexer.proofs.laws.refused_for_its_bytes.Goals as goal

pub returns : goal.returns
returns c = refused-for-bytes
