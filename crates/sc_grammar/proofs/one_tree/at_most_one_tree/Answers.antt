use Rattle.sc_grammar.proofs.Answer.{one-tree}
use Rattle.sc_grammar.proofs.SourceRead.{exact-source}
use Rattle.sc_grammar.proofs.one_tree.at_most_one_tree.Goals as goal

pub returns : goal.returns
returns c t u a b = one-tree exact-source c.args.tokens.now t u a b
