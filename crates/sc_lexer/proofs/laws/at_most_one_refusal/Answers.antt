use Rattle.sc_lexer.proofs.TextLaws.{refused_once}
use Rattle.sc_lexer.proofs.laws.at_most_one_refusal.Goals as goal

pub returns : goal.returns
returns c = refused_once
