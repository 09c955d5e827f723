-- Split accesses, stores, copies, barriers; choices; and a function that calls itself.
-- int A[4]::; int B[4];
-- void f(int *p) { if (p && *p) f(p); }
-- splitc_main() { int x; x := A[MYPROC]; sync(); A[x] := B[0]; A[0] :- x ? A[1] : 2; B[1] := A[2]; barrier();
--   f(&B[0]); bulk_get(B, &A[0], 16); all_store_sync(); }
use Rattle.std.proofs.Common.{◌≡◌, ℕ, pos, false, true, Some, None, [], ◌∷◌, refl}
use Rattle.sc_base.specs.declared.value.CopyMode.TheVariants.{Split}
use Rattle.sc_core.specs.declared.operation.Constant.TheVariants.{Mine}
use Rattle.sc_core.specs.declared.operation.Operation.TheVariants as does
use Rattle.sc_core.specs.declared.operation.Action.TheVariants as acts
use Rattle.sc_core.specs.Core.{Core, constant, choice, none, argument, nothing, act, choose, Program}
use Rattle.site_graph.specs.declared.point.PointKind.TheVariants.{Start, Plain, Access, Sync, Barrier, StoreSync, Call}
use Rattle.site_graph.specs.declared.site.Form.TheVariants.{Own, OwnExposed, Element, Exposed}
use Rattle.site_graph.specs.declared.site.IndexForm.TheVariants.{Linear, Any}
use Rattle.site_graph.specs.declared.site.SiteKind.TheVariants.{Read, Get, Put, Store, Copy}
use Rattle.site_graph.specs.Graph.{Graph}
use Rattle.flow_form.specs.FlowOf.{flow_of}
use Rattle.flow_form.proofs.Parts.{number, alone, one, use_, element, dropped, acting, acting_on, acting_on_two, function, program_of, M, point, plain, returning, access, to, site}

-- the own cell of an ordinary object with this index, and the address of a cell
abbrev own_element : (object : ℕ) → (index : Core) → Core
own_element o e = one does.Own (one (does.Element o 1 true) e)

abbrev address : (object index : ℕ) → Core
address o n = one (does.Address o 1) (number n)

abbrev pub source : Program
source = program_of (
    function 1 0 (
    choose false (choice true (use_ 0) (choice false (one does.Read (one does.Own (use_ 0))) (number 1) (number 0)) (number 0))
    (dropped (one (does.Call 0 1) (use_ 0))) nothing ∷ []) ∷
    function 0 1 (
    acting (acts.Clear 0 false) ∷
    acting_on (acts.Get 0) (element 0 (constant Mine)) ∷
    acting acts.Sync ∷
    acting_on_two acts.Put (element 0 (use_ 0)) (one does.Read (own_element 1 (number 0))) ∷
    acting_on_two acts.Send (element 0 (number 0)) (choice false (use_ 0) (one does.Read (element 0 (number 1))) (number 2)) ∷
    act (acts.Copy Split) (argument (own_element 1 (number 1)) (argument (element 0 (number 2)) (argument (number 8) none))) 1 ∷
    acting acts.Barrier ∷
    dropped (one (does.Call 0 1) (address 1 0)) ∷
    act (acts.Copy Split) (argument (one does.Own (alone (does.Address 1 0))) (argument (address 0 0) (argument (number 16) none))) 1 ∷
    acting acts.AllStoreSync ∷ []) ∷ []) 1

abbrev pub flow : Graph
flow = record {
  points =
      point Start 1 [] [] None ∷
      -- f, at 1: the tests of the two operands and of the whole, the call, the end
      plain 0 [] ∷ plain 0 (0 ∷ M ∷ []) ∷ plain 0 (0 ∷ M ∷ []) ∷ plain 0 (0 ∷ M ∷ []) ∷ plain 0 (0 ∷ M ∷ []) ∷
      access 1 0 (0 ∷ M ∷ []) ∷ point Plain 0 (1 ∷ []) (0 ∷ M ∷ []) None ∷ plain 0 (0 ∷ M ∷ []) ∷
      plain 0 (0 ∷ M ∷ []) ∷ point Call 0 [] (0 ∷ M ∷ []) None ∷ plain 0 (0 ∷ M ∷ []) ∷ returning 0 [] ∷
      -- splitc_main, at 13: the local, the get, the sync
      plain 1 [] ∷ point Plain 1 [] [] (Some 0) ∷ plain 1 (M ∷ []) ∷ point (Access 2) 1 [] (M ∷ []) (Some 0) ∷ point Sync 1 [] [] None ∷
      -- from 18: the put
      plain 1 (0 ∷ []) ∷ plain 1 (0 ∷ []) ∷ plain 1 [] ∷ plain 1 (M ∷ []) ∷ access 3 1 (M ∷ []) ∷ point (Access 4) 1 (3 ∷ []) (0 ∷ M ∷ []) None ∷
      -- from 24: the store
      plain 1 [] ∷ plain 1 (0 ∷ []) ∷ plain 1 (0 ∷ []) ∷ plain 1 [] ∷ access 5 1 (M ∷ []) ∷ point (Access 6) 1 (5 ∷ []) (0 ∷ M ∷ []) None ∷
      -- from 30: the copy of one cell, the barrier, the call
      plain 1 [] ∷ plain 1 (M ∷ []) ∷ plain 1 [] ∷ access 7 1 (M ∷ []) ∷ point Barrier 1 [] [] None ∷
      plain 1 [] ∷ point Call 1 [] (M ∷ []) None ∷ plain 1 (M ∷ []) ∷
      -- from 38: the bulk transfer, the barrier that awaits stores, the end
      plain 1 [] ∷ plain 1 (M ∷ []) ∷ plain 1 [] ∷ access 8 1 (M ∷ []) ∷ point StoreSync 1 [] [] None ∷ returning 1 [] ∷ [];
  edges =
      to 0 13 ∷ to 1 2 ∷ to 2 3 ∷ to 3 4 ∷ to 3 8 ∷ to 4 5 ∷ to 5 6 ∷ to 6 7 ∷ to 7 8 ∷ to 8 9 ∷ to 8 12 ∷ to 9 10 ∷ to 10 1 ∷
      to 11 12 ∷ to 12 11 ∷ to 12 37 ∷
      to 13 14 ∷ to 14 15 ∷ to 15 16 ∷ to 16 17 ∷ to 17 18 ∷ to 18 19 ∷ to 19 20 ∷ to 20 21 ∷ to 21 22 ∷ to 22 23 ∷ to 23 24 ∷
      to 24 25 ∷ to 25 26 ∷ to 26 27 ∷ to 26 29 ∷ to 27 28 ∷ to 28 29 ∷ to 29 30 ∷ to 30 31 ∷ to 31 32 ∷ to 32 33 ∷ to 33 34 ∷
      to 34 35 ∷ to 35 36 ∷ to 36 1 ∷ to 37 38 ∷ to 38 39 ∷ to 39 40 ∷ to 40 41 ∷ to 41 42 ∷ to 42 43 ∷ [];
  sites =
      site Read (Some OwnExposed) None None ∷
      site Get (Some (Element 0 (Linear (pos 1) (pos 0)))) None None ∷
      site Read (Some (Own 1)) None None ∷ site Put None (Some (Element 0 Any)) None ∷
      site Read (Some (Element 0 (Linear (pos 0) (pos 1)))) None None ∷
      site Store None (Some (Element 0 (Linear (pos 0) (pos 0)))) None ∷
      site (Copy Split) (Some (Element 0 (Linear (pos 0) (pos 2)))) (Some (Own 1)) None ∷
      site (Copy Split) (Some Exposed) (Some OwnExposed) None ∷ [];
  exposed = 0 ∷ 1 ∷ [];
}

is_its_flow : flow_of 2 source ≡ flow
is_its_flow = refl
