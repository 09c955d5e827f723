use Rattle.sc_lexer.proofs.StepLaws.{near-refused}
use Rattle.sc_lexer.proofs.scan.Scan.element.Goals as goal

pub named-requires : goal.named-requires
named-requires c = near-refused c.args.self.now c.self.inside.fresh c.self.inside.defined c.args.rest.now c.in-Err.refused c.requires.some c.requires.near c.in-Err.ensures
