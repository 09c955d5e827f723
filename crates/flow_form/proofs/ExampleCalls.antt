-- int g;
-- int f(int n) { while (n) { if (n == 1) break; n = n - 1; continue; } return n; }
-- splitc_main() { g = f(1) + f(g); }
use Rattle.std.proofs.Common.{◌≡◌, false, Some, None, [], ◌∷◌, refl}
use Rattle.sc_base.specs.declared.operator.Binary.TheVariants.{Eq, Sub, Add}
use Rattle.sc_core.specs.declared.operation.Operation.TheVariants as does
use Rattle.sc_core.specs.Core.{nothing, break, continue, choose, loop, return, Program}
use Rattle.site_graph.specs.declared.point.PointKind.TheVariants.{Start, Plain, Call}
use Rattle.site_graph.specs.declared.site.Form.TheVariants.{Own}
use Rattle.site_graph.specs.declared.site.SiteKind.TheVariants.{Read, Write}
use Rattle.site_graph.specs.Graph.{Graph}
use Rattle.flow_form.specs.FlowOf.{flow_of}
use Rattle.flow_form.proofs.Parts.{number, one, two, use_, by, own, dropped, block, function, program_of, M, point, plain, returning, access, to, site}

abbrev pub source : Program
source = program_of (
    function 1 0 (
    loop None (choose false (use_ 0) nothing break) (block (
    choose false (by Eq (use_ 0) (number 1)) break nothing ∷
    dropped (one (does.Set 0) (by Sub (use_ 0) (number 1))) ∷
    continue ∷ [])) nothing ∷
    return (use_ 0) 1 ∷ []) ∷
    function 0 0 (
    dropped (two does.Write (own 0)
    (by Add (one (does.Call 0 1) (number 1)) (one (does.Call 0 1) (one does.Read (own 0))))) ∷ []) ∷ []) 1

abbrev pub flow : Graph
flow = record {
  points =
      point Start 1 [] [] None ∷
      -- f, at 1: the test of the loop, its turn, the test in it, the assignment, the return and the end
      plain 0 [] ∷ plain 0 (0 ∷ M ∷ []) ∷ plain 0 (0 ∷ M ∷ []) ∷ plain 0 [] ∷
      plain 0 (0 ∷ M ∷ []) ∷ plain 0 (0 ∷ M ∷ []) ∷ plain 0 (0 ∷ M ∷ []) ∷
      plain 0 (0 ∷ M ∷ []) ∷ plain 0 (0 ∷ M ∷ []) ∷ point Plain 0 [] (0 ∷ M ∷ []) (Some 0) ∷ plain 0 (0 ∷ M ∷ []) ∷
      plain 0 (0 ∷ M ∷ []) ∷ returning 0 (0 ∷ M ∷ []) ∷ returning 0 [] ∷
      -- splitc_main, at 15: the place, the first call, the read, the second call, the sum, the write
      plain 1 [] ∷ plain 1 [] ∷ plain 1 (M ∷ []) ∷ point Call 1 [] (M ∷ []) None ∷
      plain 1 [] ∷ plain 1 (M ∷ []) ∷ access 1 1 (M ∷ []) ∷ point Call 1 (1 ∷ []) (M ∷ []) None ∷
      plain 1 (M ∷ []) ∷ access 2 1 (M ∷ []) ∷ plain 1 (M ∷ []) ∷ returning 1 [] ∷ [];
  edges =
      to 0 15 ∷ to 1 2 ∷ to 2 3 ∷ to 3 4 ∷ to 3 12 ∷ to 4 5 ∷ to 5 6 ∷ to 6 7 ∷ to 7 8 ∷ to 7 12 ∷ to 8 9 ∷ to 9 10 ∷
      to 10 11 ∷ to 11 2 ∷ to 12 13 ∷ to 13 19 ∷ to 13 23 ∷ to 14 19 ∷ to 14 23 ∷
      to 15 16 ∷ to 16 17 ∷ to 17 18 ∷ to 18 1 ∷ to 19 20 ∷ to 20 21 ∷ to 21 22 ∷ to 22 1 ∷ to 23 24 ∷ to 24 25 ∷ to 25 26 ∷ [];
  sites =
      site Read (Some (Own 0)) None None ∷ site Write None (Some (Own 0)) None ∷ [];
  exposed = [];
}

is_its_flow : flow_of 2 source ≡ flow
is_its_flow = refl
