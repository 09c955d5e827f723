-- int A[2]::; splitc_main() { int r; if (MYPROC == 0) r = A[1]; else A[0] = 1; }
use Rattle.std.proofs.Common.{◌≡◌, pos, false, Some, None, [], ◌∷◌, refl}
use Rattle.sc_base.specs.declared.operator.Binary.TheVariants.{Eq}
use Rattle.sc_core.specs.declared.operation.Constant.TheVariants.{Mine}
use Rattle.sc_core.specs.declared.operation.Operation.TheVariants.{Write}
use Rattle.sc_core.specs.declared.operation.Action.TheVariants.{Clear, Fill}
use Rattle.sc_core.specs.Core.{constant, choose, Program}
use Rattle.site_graph.specs.declared.point.PointKind.TheVariants.{Start, Plain, Access}
use Rattle.site_graph.specs.declared.site.Form.TheVariants.{Element}
use Rattle.site_graph.specs.declared.site.IndexForm.TheVariants.{Linear}
use Rattle.site_graph.specs.declared.site.SiteKind.TheVariants as kind
use Rattle.site_graph.specs.Graph.{Graph}
use Rattle.flow_form.specs.FlowOf.{flow_of}
use Rattle.flow_form.proofs.Parts.{number, two, by, element, dropped, acting, acting_on, function, program_of, M, point, plain, returning, access, to, site}

abbrev source : Program
source = program_of (function 0 1 (
    acting (Clear 0 false) ∷
    choose false (by Eq (constant Mine) (number 0)) (acting_on (Fill 0) (element 0 (number 1)))
    (dropped (two Write (element 0 (number 0)) (number 1))) ∷ []) ∷ []) 0

abbrev flow : Graph
flow = record {
  points =
      point Start 0 [] [] None ∷ plain 0 [] ∷ point Plain 0 [] [] (Some 0) ∷ plain 0 (M ∷ []) ∷ plain 0 (M ∷ []) ∷
      plain 0 [] ∷ point (Access 1) 0 [] (M ∷ []) (Some 0) ∷
      plain 0 [] ∷ access 2 0 [] ∷ plain 0 [] ∷ returning 0 [] ∷ [];
  edges =
      to 0 1 ∷ to 1 2 ∷ to 2 3 ∷ to 3 4 ∷ to 4 5 ∷ to 4 7 ∷ to 5 6 ∷ to 6 10 ∷ to 7 8 ∷ to 8 9 ∷ to 9 10 ∷ [];
  sites =
      site kind.Read (Some (Element 0 (Linear (pos 0) (pos 1)))) None (Some 0) ∷
      site kind.Write None (Some (Element 0 (Linear (pos 0) (pos 0)))) None ∷ [];
  exposed = [];
}

is_its_flow : flow_of 2 source ≡ flow
is_its_flow = refl
