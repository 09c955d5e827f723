-- Facts of the flow of each source, and of plans of it.
use Rattle.std.proofs.Common.{ℕ, [], map, subst}
use Rattle.std.proofs.lemmas.List.{length-map}
use Rattle.sc_layout.specs.Layout.{Arrangement, LaidObject}
use Rattle.site_graph.specs.Kept.{Names}
use Rattle.flow_form.specs.FlowOf.{flow_of}
use Rattle.flow_laws.proofs.Named.{flows_name_objects}
use Rattle.emit_laws.proofs.PlainPlans.{plain_plans_wait_in_time}
use Rattle.sync_place.proofs.PlanLaws.{wait_in_time, are_plans}
use Rattle.flow_facts.specs.Laws.{FlowsNameLaidObjects, FirstsAreIdle, FirstsAreCalled, PlacedPlansAreTimely, PlainPlansAreTimely}
use Rattle.flow_facts.proofs.FirstPoints.{idle, follow_none}

pub flows_name_laid_objects : FlowsNameLaidObjects
flows_name_laid_objects layout program source =
    let shapes = map (λ (object : LaidObject). object.shape) layout.objects in
    subst (λ n. Names n (flow_of layout.nodes program)) (length-map layout.objects (λ (object : LaidObject). object.shape))
    (flows_name_objects layout.nodes shapes program source.typed)

-- a flow depends on the number of nodes alone
abbrev bare_layout : ℕ → Arrangement
bare_layout nodes = record { nodes = nodes; objects = [] }

pub firsts_are_idle : FirstsAreIdle
firsts_are_idle nodes program = idle (bare_layout nodes) program

pub firsts_are_called : FirstsAreCalled
firsts_are_called nodes program = follow_none (bare_layout nodes) program

pub placed_plans_are_timely : PlacedPlansAreTimely
placed_plans_are_timely nodes program delays plan kept one =
    let graph = flow_of nodes program in
    (are_plans graph delays plan kept (firsts_are_idle nodes program) one, wait_in_time graph delays plan kept one)

pub plain_plans_are_timely : PlainPlansAreTimely
plain_plans_are_timely nodes program plan plain = (plain.is_plan, plain_plans_wait_in_time (flow_of nodes program) plan plain)
