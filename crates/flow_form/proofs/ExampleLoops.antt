-- Loops, with `continue`, and what is updated in them.
use Rattle.std.proofs.Common.{◌≡◌, pos, false, Some, None, [], ◌∷◌, refl}
use Rattle.sc_base.specs.declared.operator.Binary.TheVariants.{Add, Sub}
use Rattle.sc_tree.specs.declared.typed.Named.TheVariants.{Local}
use Rattle.sc_core.specs.declared.operation.Operation.TheVariants as does
use Rattle.sc_core.specs.declared.operation.Action.TheVariants.{Clear, Begin}
use Rattle.sc_core.specs.Core.{update, nothing, break, continue, choose, loop, return, Program}
use Rattle.sc_core.specs.Statements.{mine_loop}
use Rattle.site_graph.specs.declared.point.PointKind.TheVariants.{Start, Plain, Access}
use Rattle.site_graph.specs.declared.site.Form.TheVariants.{Own, Element, Exposed}
use Rattle.site_graph.specs.declared.site.IndexForm.TheVariants.{Mine, Linear}
use Rattle.site_graph.specs.declared.site.SiteKind.TheVariants.{Read, Write}
use Rattle.site_graph.specs.Graph.{Graph}
use Rattle.flow_form.specs.FlowOf.{flow_of}
use Rattle.flow_form.proofs.Parts.{number, one, use_, by, element, own, dropped, acting, acting_on, block, function, program_of, M, point, plain, returning, access, to, site}

-- int A[9]::; int B;
-- splitc_main() { int i; for_my_1d(i, 9) { if (A[i]) continue; A[i + 1] += B; } }
abbrev pub source : Program
source = program_of (function 0 1 (
    acting (Clear 0 false) ∷
    mine_loop (Local 0) (number 9) (block (
    choose false (one does.Read (element 0 (use_ 0))) continue nothing ∷
    dropped (update (element 0 (by Add (use_ 0) (number 1))) (does.Binary Add) (one does.Read (own 1)) None 1) ∷ [])) 1 ∷ []) ∷ []) 0

abbrev pub flow : Graph
flow = record {
  points =
      point Start 0 [] [] None ∷ plain 0 [] ∷ point Plain 0 [] [] (Some 0) ∷
      -- from 3: `i = MYPROC`, the test, the turn
      point Plain 0 [] (0 ∷ M ∷ []) (Some 0) ∷ plain 0 (0 ∷ M ∷ []) ∷
      plain 0 (0 ∷ []) ∷ plain 0 (0 ∷ []) ∷ plain 0 (0 ∷ []) ∷ plain 0 [] ∷
      -- from 9: the test in the body
      plain 0 (0 ∷ []) ∷ plain 0 (0 ∷ []) ∷ access 1 0 (0 ∷ M ∷ []) ∷ point Plain 0 (1 ∷ []) (0 ∷ M ∷ []) None ∷
      -- from 13: the place and its read, the right side, the sum, the write
      plain 0 (0 ∷ []) ∷ plain 0 (0 ∷ []) ∷ plain 0 (0 ∷ []) ∷ access 2 0 (0 ∷ M ∷ []) ∷
      plain 0 [] ∷ plain 0 (M ∷ []) ∷ access 3 0 (M ∷ []) ∷
      point Plain 0 (2 ∷ 3 ∷ []) (0 ∷ M ∷ []) None ∷ access 4 0 (0 ∷ M ∷ []) ∷ plain 0 (0 ∷ M ∷ []) ∷
      -- from 23: `i += PROCS`, and the end
      plain 0 (0 ∷ []) ∷ plain 0 (0 ∷ []) ∷ point Plain 0 [] (0 ∷ []) (Some 0) ∷ plain 0 (0 ∷ []) ∷ returning 0 [] ∷ [];
  edges =
      to 0 1 ∷ to 1 2 ∷ to 2 3 ∷ to 3 4 ∷ to 4 5 ∷ to 5 6 ∷ to 6 7 ∷ to 7 8 ∷ to 7 27 ∷ to 8 9 ∷ to 9 10 ∷ to 10 11 ∷
      to 11 12 ∷ to 12 13 ∷ to 12 23 ∷ to 13 14 ∷ to 14 15 ∷ to 15 16 ∷ to 16 17 ∷ to 17 18 ∷ to 18 19 ∷ to 19 20 ∷
      to 20 21 ∷ to 21 22 ∷ to 22 23 ∷ to 23 24 ∷ to 24 25 ∷ to 25 26 ∷ to 26 5 ∷ [];
  sites =
      site Read (Some (Element 0 (Mine (pos 0)))) None None ∷ site Read (Some (Element 0 (Mine (pos 1)))) None None ∷
      site Read (Some (Own 1)) None None ∷ site Write None (Some (Element 0 (Mine (pos 1)))) None ∷ [];
  exposed = [];
}

is_its_flow : flow_of 2 source ≡ flow
is_its_flow = refl

-- A loop that only a `break` leaves, whose body is two statements of which the second is never reached; a `do` whose
-- test follows; and a postfix `++` through a pointer that is kept in an array.
-- int *global P[4]::;
-- splitc_main() { for (;;) { break; ; return; } do continue; while (0); int x = (*P[0])++; }
abbrev pub source_2 : Program
source_2 = program_of (function 0 1 (
    loop None nothing (block (break ∷ nothing ∷ return (number 0) 1 ∷ [])) nothing ∷
    loop None nothing continue (choose false (number 0) nothing break) ∷
    acting_on (Begin 0)
    (update (one does.Read (element 0 (number 0))) (does.Binary Add) (number 1) (Some (does.Binary Sub)) 1) ∷ []) ∷ []) 0

abbrev pub flow_2 : Graph
flow_2 = record {
  points =
      point Start 0 [] [] None ∷ plain 0 [] ∷
      -- from 2: the turn of `for`, and the return that is never reached
      plain 0 [] ∷ returning 0 [] ∷
      -- from 4: the turn of `do` and its test
      plain 0 [] ∷ plain 0 [] ∷
      -- from 6: the pointer and its read, the read of the cell, the sum, the write, the old value again, the local
      plain 0 [] ∷ access 1 0 (M ∷ []) ∷ point (Access 2) 0 (1 ∷ []) (M ∷ []) None ∷
      point Plain 0 (2 ∷ []) (M ∷ []) None ∷ point (Access 3) 0 (1 ∷ []) (M ∷ []) None ∷
      plain 0 (M ∷ []) ∷ point Plain 0 [] (M ∷ []) (Some 0) ∷ returning 0 [] ∷ [];
  edges =
      to 0 1 ∷ to 1 2 ∷ to 2 4 ∷ to 4 5 ∷ to 5 4 ∷ to 5 6 ∷ to 6 7 ∷ to 7 8 ∷ to 8 9 ∷ to 9 10 ∷ to 10 11 ∷ to 11 12 ∷
      to 12 13 ∷ [];
  sites =
      site Read (Some (Element 0 (Linear (pos 0) (pos 0)))) None None ∷
      site Read (Some Exposed) None None ∷ site Write None (Some Exposed) None ∷ [];
  exposed = [];
}

is_its_flow_2 : flow_of 2 source_2 ≡ flow_2
is_its_flow_2 = refl

-- A test whose two edges meet, a loop whose test is always true, and a postfix `++` on a local.
-- splitc_main() { int i = 0; if (i) ; while (1) ; i++; }
abbrev pub source_3 : Program
source_3 = program_of (function 0 1 (
    acting_on (Begin 0) (number 0) ∷
    choose false (use_ 0) nothing nothing ∷
    loop None (choose false (number 1) nothing break) nothing nothing ∷
    dropped (by Sub (one (does.Set 0) (by Add (use_ 0) (number 1))) (number 1)) ∷ []) ∷ []) 0

abbrev pub flow_3 : Graph
flow_3 = record {
  points =
      point Start 0 [] [] None ∷ plain 0 [] ∷ point Plain 0 [] [] (Some 0) ∷ plain 0 (0 ∷ []) ∷ plain 0 (0 ∷ []) ∷
      -- from 5: the test and the turn of `while`, and `i++`
      plain 0 [] ∷ plain 0 [] ∷
      plain 0 (0 ∷ []) ∷ plain 0 (0 ∷ []) ∷ point Plain 0 [] (0 ∷ []) (Some 0) ∷ plain 0 (0 ∷ []) ∷ plain 0 (0 ∷ []) ∷
      returning 0 [] ∷ [];
  edges =
      to 0 1 ∷ to 1 2 ∷ to 2 3 ∷ to 3 4 ∷ to 4 5 ∷ to 5 6 ∷ to 5 7 ∷ to 6 5 ∷ to 7 8 ∷ to 8 9 ∷ to 9 10 ∷ to 10 11 ∷
      to 11 12 ∷ [];
  sites = [];
  exposed = [];
}

is_its_flow_3 : flow_of 2 source_3 ≡ flow_3
is_its_flow_3 = refl
