use Rattle.std.proofs.Common.{sym, subst}
use Rattle.node_machine.specs.declared.node.Answer.TheVariants as given
use Rattle.node_machine.specs.Standings.{FitsAsk}
use Rattle.code_sim.proofs.Broken.{has_given_up}
use Rattle.code_sim.proofs.node.Runner.give_up.Goals as goal

pub returns : goal.returns
returns c =
    λ asked at stood.
    has_given_up c.args.code.now c.args.layout.now c.args.self.now.node asked c.go_on.new.self at stood
    (c.in_ok-go_on.ensures asked at (subst (λ s. FitsAsk c.args.layout.now s asked given.Broken) (sym stood) tt))
