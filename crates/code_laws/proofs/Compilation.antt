-- The code of a laid source under a plan that waits in time does what its source does, and is spelled by the runs of its points.
use Rattle.std.proofs.Common.{◌≡◌, inl, List, length, map, refl, sym, ◌∙◌}
use Rattle.std.proofs.lemmas.Option.{slice_get_within}
use Rattle.sc_base.specs.declared.shape.Shape.{Shape}
use Rattle.sc_meaning.specs.Points.{first_point}
use Rattle.site_graph.specs.Ways.{Goes}
use Rattle.flow_form.specs.FlowOf.{flow_of, start}
use Rattle.flow_form.proofs.Run.{sites_are_the_accesses}
use Rattle.flow_laws.proofs.Facts.{facts}
use Rattle.emit_laws.proofs.Setups.{does}
use Rattle.code_laws.specs.Laws.{CodeDoesAsItsSource}
use Rattle.code_laws.proofs.Compiled.{pieces_of, runs_of, between_of, FunctionsLie, CodeIsCompiled}
use Rattle.code_laws.proofs.Between.{empty_are_told}
use Rattle.code_laws.proofs.FunctionsPlaced.{function_lies}
use Rattle.code_laws.proofs.SpelledWhole.{is_spelled, are_empty}

pub code_is_compiled : CodeIsCompiled
code_is_compiled layout program plan code laid is_plan in_time of begins =
    let objects : List Shape = map (λ object. object.shape) layout.objects in
    let typed = laid.typed in
    let sites : length (flow_of layout.nodes program).sites ≡ code.sites = sites_are_the_accesses layout.nodes program ∙ sym of.sites in
    let tells = empty_are_told layout program plan code in
    let functions : FunctionsLie layout program plan code =
    λ node f g e. function_lies layout objects program plan code (between_of layout program) node typed of sites is_plan f g e in
    let goes : Goes (flow_of layout.nodes program) 0 (first_point program.functions program.main) =
    (facts layout.nodes program (start program) (inl refl)).calls program.main refl (slice_get_within program.functions program.main typed.main typed.begins) in
    record {
      tells_empty = tells;
      functions = functions;
      sites = sites;
      main = typed.main;
      is_main = typed.begins;
      no_params = typed.no_params;
      goes = goes;
      spelled = is_spelled layout program plan code of;
      are_empty = are_empty layout program plan;
      does = λ node budget lt. does layout program plan code (pieces_of plan program) (between_of layout program) node budget is_plan in_time sites of.texts tells
          (λ f g e. functions node f g e) typed.main typed.begins typed.no_params goes begins;
    }

pub code_does_as_its_source : CodeDoesAsItsSource
code_does_as_its_source layout program plan code laid is_plan in_time of begins =
    let it = code_is_compiled layout program plan code laid is_plan in_time of begins in
    record {
      pieces = pieces_of plan program;
      runs = runs_of plan program;
      spelled = it.spelled;
      between = between_of layout program;
      are_empty = it.are_empty;
      does = it.does;
    }
