-- The code of a compiled source is what the code theorem says of code.
use Rattle.std.proofs.Common.{subst}
use Rattle.site_graph.specs.Graph.{Graph}
use Rattle.site_graph.specs.Plans.{IsPlainPlan}
use Rattle.node_emit.specs.Law.{IsEmitted}
use Rattle.flow_facts.proofs.FlowFacts.{plain_plans_are_timely}
use Rattle.code_theorem.proofs.Theorem.{code_theorem}
use Rattle.splitc_compile.specs.Compiled.{Parts, AreParts}

pub compiled_is_emitted : (p : Parts) → AreParts p → IsEmitted p.layout p.core p.plan p.code
compiled_is_emitted p are =
    let timely = plain_plans_are_timely p.layout.nodes p.core p.plan
    (subst (λ (graph : Graph). IsPlainPlan graph p.plan) are.flow_is are.plan_is) in
    code_theorem p.layout p.core p.plan p.code are.laid timely.0 timely.1 are.code_is are.begins
