-- The code of a compiled source is that of its core tree by the plain plan.
use Rattle.std.proofs.Common.{subst}
use Rattle.site_graph.specs.Graph.{Graph}
use Rattle.site_graph.specs.Plans.{IsPlainPlan}
use Rattle.flow_form.specs.FlowOf.{flow_of}
use Rattle.splitc_compile.specs.Compiled.{Parts, AreParts}
use Rattle.splitc_compile.proofs.Emitted.{compiled_is_emitted}
use Rattle.run_laws.proofs.Runs.{plain_runs_are_ordered, simulated_runs_are_ordered}
use Rattle.compiled_runs.specs.Laws.{CompiledRunsAreOrdered, CompiledSimulationsAreOrdered}

plain : (p : Parts) → AreParts p → IsPlainPlan (flow_of p.layout.nodes p.core) p.plan
plain p are = subst (λ (graph : Graph). IsPlainPlan graph p.plan) are.flow_is are.plan_is

pub compiled_runs_are_ordered : CompiledRunsAreOrdered
compiled_runs_are_ordered p budget many journal are run =
    plain_runs_are_ordered p.layout p.core p.plan p.code budget many journal are.laid (compiled_is_emitted p are) (plain p are) run

pub compiled_simulations_are_ordered : CompiledSimulationsAreOrdered
compiled_simulations_are_ordered p budget picks journal are simulation =
    simulated_runs_are_ordered p.layout p.core p.plan p.code budget picks journal are.laid (compiled_is_emitted p are) (plain p are) simulation
