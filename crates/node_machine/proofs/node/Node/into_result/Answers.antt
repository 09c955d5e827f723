use Rattle.std.proofs.Common.{ℕ, List, subst, sym}
use Rattle.sc_base.specs.declared.value.End.{End}
use Rattle.node_machine.specs.Course.{Finishes}
use Rattle.node_machine.specs.Standings.{end_of}
use Rattle.node_machine.specs.Nodes.{plain_answers}
use Rattle.node_machine.proofs.Nexts.{finishes_at}
use Rattle.node_machine.proofs.node.Node.into_result.Goals as goal

pub returns-clause-finishes : goal.returns-clause-finishes
returns-clause-finishes c = λ code layout asked at ended.
    let answers = plain_answers c.args.self.answers.items in
    subst (λ (end : End). Finishes code layout c.args.self.own c.args.self.budget answers asked c.from_vec.result end)
    (sym c.end_of-end.ensures)
    (subst (λ (text : List ℕ). Finishes code layout c.args.self.own c.args.self.budget answers asked text
    (end_of c.args.self.standing)) (sym c.from_vec.ensures)
    (finishes_at code layout c.args.self.own c.args.self.budget answers asked c.args.self.printed.items c.args.self.standing
    at.state ended at.done))
