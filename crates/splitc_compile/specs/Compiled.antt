-- What an accepted source is compiled to: each part is that of the ones before.
use Rattle.std.specs.Prelude.{◌≡◌, ℕ, ◌≤◌, List, length}
use Rattle.sc_base.specs.declared.limits.TheConstants.{LIMITS}
use Rattle.sc_tree.specs.Names.{Text}
use Rattle.sc_tree.specs.PlainTypedTree.{PlainTypedTree}
use Rattle.sc_tree.specs.ViewTypedTree.{plain_typed_tree}
use Rattle.sc_layout.specs.Layout.{Arrangement}
use Rattle.sc_isa.specs.declared.code.Code.{Code}
use Rattle.sc_core.specs.Core.{Program}
use Rattle.sc_core.specs.Lowering.{core_of}
use Rattle.sc_core.specs.ViewStatements.{plain_program}
use Rattle.value_soundness.specs.Laws.{IsLaidSource}
use Rattle.site_graph.specs.declared.plan.Plan.{Plan}
use Rattle.site_graph.specs.Bits.{Bits}
use Rattle.site_graph.specs.Graph.{Graph}
use Rattle.site_graph.specs.Plans.{IsPlainPlan}
use Rattle.flow_form.specs.Accesses.{accesses_of}
use Rattle.flow_form.specs.FlowOf.{flow_of}
use Rattle.phase_map.specs.Meeting.{AllMeet}
use Rattle.alias_conflicts.specs.Conflicting.{AreConflicts}
use Rattle.delay_sets.specs.Delays.{AreDelays}
use Rattle.node_emit.specs.Sources.{IsCodeOf}
use Rattle.node_emit.specs.Whole.{AreWithin}
use Rattle.node_emit.specs.Law.{BeginsInMain}
use Rattle.splitc_compile.specs.declared.compiled.Compiled.{Compiled}

-- Which accesses must not overlap. Until phases are taken into account, all sites meet.
pub record AreDelaysOf (layout : Arrangement) (flow : Graph) (delays : Bits) : Type 0 where
  pub meets : Bits
  pub cross : Bits
  pub own : Bits
  pub all_meet : AllMeet flow meets
  pub conflicts : AreConflicts layout flow meets cross own
  pub delays_are : AreDelays flow cross own delays

pub record Parts : Type 0 where
  pub names : List Text
  pub typed : PlainTypedTree
  pub layout : Arrangement
  pub core : Program
  pub flow : Graph
  pub delays : Bits
  pub plan : Plan
  pub code : Code

-- those of what the compiler answers
abbrev pub parts_of : Compiled → Parts
parts_of c = record {
  names = c.names;
  typed = plain_typed_tree c.typed;
  layout = c.layout;
  core = plain_program c.core;
  flow = c.flow;
  delays = c.delays;
  plan = c.plan;
  code = c.code;
}

-- The code waits directly behind each access.
pub record AreParts (p : Parts) : Type 0 where
  pub core_is : p.core ≡ core_of p.typed
  pub laid : IsLaidSource p.layout p.core
  -- the names of its functions are the last texts
  pub named : length p.core.functions ≤ length p.core.texts
  pub few_sites : accesses_of p.core ≤ LIMITS.sites
  pub flow_is : p.flow ≡ flow_of p.layout.nodes p.core
  pub delays_are : AreDelaysOf p.layout p.flow p.delays
  pub plan_is : IsPlainPlan p.flow p.plan
  pub few_locals : AreWithin p.core
  pub code_is : IsCodeOf p.plan p.core p.code
  pub begins : BeginsInMain p.core p.code
