-- Small codes run by computation: what the instruction table says of landing values, of the order of tests, of
-- budgets and frames, and of barriers.
use Rattle.std.proofs.Common.{◌≡◌, ℕ, ◌+◌, ◌^◌, ◌<◌, ℤ, pos, negsuc, true, false, Bool, List, [], ◌∷◌, ◌++◌, length, map, refl, lit<}
use Rattle.std.specs.Prelude.{codes}
use Rattle.resumption.specs.Resumption.{Ends as Ended_by, Short, RunOf}
use Rattle.sc_base.specs.declared.operator.Binary.TheVariants.{Add}
use Rattle.sc_base.specs.declared.shape.Bound.{Bound}
use Rattle.sc_base.specs.declared.value.CopyMode.TheVariants.{Split}
use Rattle.sc_base.specs.declared.value.End.{End}
use Rattle.sc_base.specs.declared.value.End.TheVariants.{Ended, Fault, Cut, Waiting}
use Rattle.sc_base.specs.declared.value.FaultKind.TheVariants.{PendingUse, NullUse, Index, BadSize, Depth}
use Rattle.sc_base.specs.declared.value.Place.{Place}
use Rattle.sc_base.specs.declared.value.Value.TheVariants.{Int, Null}
use Rattle.sc_layout.specs.Layout.{LaidObject, Arrangement, cells_of}
use Rattle.sc_layout.specs.Place.{place_in}
use Rattle.sc_isa.specs.declared.access.Access.TheVariants.{Read, Write, Copy}
use Rattle.sc_isa.specs.declared.access.Track.TheVariants.{Counter, Store, Covered}
use Rattle.sc_isa.specs.declared.code.Code.{Code}
use Rattle.sc_isa.specs.declared.op.Instr.{Instr}
use Rattle.sc_isa.specs.declared.op.Op.{Op}
use Rattle.sc_isa.specs.declared.op.Op.TheVariants as op
use Rattle.sc_isa.specs.Printing.{formatted}
use Rattle.sc_isa.specs.Run.{Ask, Issue, Wait, Arrive, Pass, Answer, Landed, Passed, Broken, Halt, Finish, Stuck, UsedUp, code_run}

abbrev bound : ℕ → Bound
bound n = record { steps = []; line = 1 }

abbrev object : Bool → List ℕ → LaidObject
object spread bounds = record {
  shape = record {
    name = 0;
    ty = record { void = false; stars = [] };
    spread = spread;
    left =
        map bound bounds;
    right =
        [];
    at = 1;
    line = 1;
  };
  bounds = bounds;
}

-- an ordinary object of two dimensions, and a spread one of four cells that are dealt out to two nodes
abbrev layout : Arrangement
layout = record { nodes = 2; objects = object false (2 ∷ 3 ∷ []) ∷ object true (4 ∷ []) ∷ [] }

abbrev at_line : Op → Instr
at_line o = record { op = o; line = 7 }

-- `splitc_main` from the beginning on, and a function of one parameter and two locals from the instruction `second`
-- on
abbrev code_of : (second : ℕ) → (ops : List Op) → length (map at_line ops) < 2 ^ 32 → Code
code_of second ops few = record {
  functions = record { start = 0; params = 0; locals = 2 } ∷ record { start = second; params = 1; locals = 2 } ∷ [];
  instrs = map at_line ops;
  texts = codes "%d%d%%\n" ∷ codes "splitc_main" ∷ codes "f" ∷ [];
  sites = 3;
  few_functions = lit< tt;
  few_instrs = few;
  few_texts = lit< tt;
  short_texts = refl;
}

abbrev run_on : (budget many : ℕ) → Code → List Answer → RunOf Ask Halt
run_on budget many code answers = code_run code layout 1 budget many answers

abbrev ran : List Ask → List ℕ → End → RunOf Ask Halt
ran events text end = record { events = events; text = text; end = Ended_by (Finish end) }

-- the first cell of the ordinary object on node 1
abbrev first : Place
first = record { object = 0; node = 1; offset = 0 }

abbrev element_ops : List Op
element_ops = op.Push (pos 0) ∷ op.Push (pos 0) ∷ op.Elem 0 2 ∷ op.Glob ∷ []

abbrev ends : List Op
ends = op.Push (pos 0) ∷ op.Ret ∷ []

-- two numbers by the first text
abbrev printed : List ℤ → List ℕ
printed numbers = formatted (codes "%d%d%%\n") numbers ++ []

-- ---- landing

-- a wait fills an operand and its copy; a copy that was dropped changes nothing
copies_land :
    run_on 0 30 (code_of 0 (element_ops
    ++ op.Read 1 ∷ op.Dup ∷ op.Dup ∷ op.Drop ∷ op.Wait 1 ∷ op.Bin Add ∷ op.Push (pos 5) ∷ op.Print 0 2 ∷ ends)
    (lit< tt)) (Landed (Int (pos 21) ∷ []) ∷ [])
    ≡ ran (Issue (Read first (Counter 1)) ∷ Wait 1 ∷ []) (printed (pos 42 ∷ pos 5 ∷ [])) Ended
unfolding place_in cells_of
copies_land = refl

-- an operand that lands can't be used before
used_too_early :
    run_on 0 30 (code_of 0 (element_ops ++ op.Read 1 ∷ op.Dup ∷ op.Bin Add ∷ ends) (lit< tt)) []
    ≡ record { events = Issue (Read first (Counter 1)) ∷ []; text = []; end = Ended_by Stuck }
unfolding place_in cells_of
used_too_early = refl

-- a wait on another counter leaves it landing
other_counter :
    run_on 0 30 (code_of 0 (element_ops ++ op.Read 1 ∷ element_ops
    ++ op.Read 2 ∷ op.Wait 2 ∷ op.Wait 1 ∷ op.Print 0 2 ∷ ends) (lit< tt))
    (Landed (Int (pos 4) ∷ []) ∷ Landed (Int (pos 3) ∷ []) ∷ [])
    ≡ ran (Issue (Read first (Counter 1)) ∷ Issue (Read first (Counter 2)) ∷ Wait 2 ∷ Wait 1 ∷ [])
    (printed (pos 3 ∷ pos 4 ∷ [])) Ended
unfolding place_in cells_of
other_counter = refl

-- the frame of a filled local has returned: what lands changes nothing
filled_and_returned :
    run_on 9 40 (code_of 6 (op.Push (pos 8) ∷ op.Call 1 ∷ op.Wait 1 ∷ op.Push (pos 2) ∷ op.Print 0 2 ∷ op.Jump 13
    ∷ element_ops ++ op.Fill 1 1 ∷ op.Load 0 ∷ op.Ret ∷ ends) (lit< tt)) (Landed (Int (pos 1) ∷ []) ∷ [])
    ≡ ran (Issue (Read first (Counter 1)) ∷ Wait 1 ∷ []) (printed (pos 8 ∷ pos 2 ∷ [])) Ended
unfolding place_in cells_of
filled_and_returned = refl

-- ---- the order of tests

-- a get into a local with a pending get is PendingUse, also where its pointer is null
pending_before_null :
    run_on 0 30 (code_of 0 (element_ops ++ op.Get 1 0 ∷ op.Null ∷ op.Get 1 0 ∷ ends) (lit< tt)) []
    ≡ ran (Issue (Read first (Counter 0)) ∷ []) [] (Fault PendingUse 7)
unfolding place_in cells_of
pending_before_null = refl

-- a fill makes its request, and then tests its local; null comes before both
request_before_pending :
    run_on 0 30 (code_of 0 (element_ops ++ op.Get 1 0 ∷ element_ops ++ op.Fill 2 0 ∷ ends) (lit< tt)) []
    ≡ ran (Issue (Read first (Counter 0)) ∷ Issue (Read first (Counter 2)) ∷ []) [] (Fault PendingUse 7)
unfolding place_in cells_of
request_before_pending = refl

null_before_pending :
    run_on 0 30 (code_of 0 (element_ops ++ op.Get 1 0 ∷ op.Null ∷ op.Fill 2 0 ∷ ends) (lit< tt)) []
    ≡ ran (Issue (Read first (Counter 0)) ∷ []) [] (Fault NullUse 7)
unfolding place_in cells_of
null_before_pending = refl

-- a pending get ends at a wait on counter 0, and its local can be used
get_lands :
    run_on 0 30 (code_of 0 (element_ops
    ++ op.Get 1 0 ∷ op.Wait 0 ∷ op.Load 0 ∷ op.Push (pos 1) ∷ op.Print 0 2 ∷ ends) (lit< tt))
    (Landed (Int (negsuc 1) ∷ []) ∷ [])
    ≡ ran (Issue (Read first (Counter 0)) ∷ Wait 0 ∷ []) (printed (negsuc 1 ∷ pos 1 ∷ [])) Ended
unfolding place_in cells_of
get_lands = refl

-- leaving a function with a pending get
leaves_pending :
    run_on 0 30 (code_of 0 (element_ops ++ op.Get 1 0 ∷ ends) (lit< tt)) []
    ≡ ran (Issue (Read first (Counter 0)) ∷ []) [] (Fault PendingUse 7)
unfolding place_in cells_of
leaves_pending = refl

-- a transfer tests its bytes, then its destination, then its source; with 0 bytes nothing is tested
bytes_first :
    run_on 0 30 (code_of 0 (op.Null ∷ op.Null ∷ op.Push (pos 12) ∷ op.Copy 1 Split ∷ ends) (lit< tt)) []
    ≡ ran [] [] (Fault BadSize 7)
bytes_first = refl

no_bytes :
    run_on 0 30 (code_of 0 (op.Null ∷ op.Null ∷ op.Push (pos 0) ∷ op.Copy 1 Split ∷ ends) (lit< tt)) []
    ≡ ran [] [] Ended
no_bytes = refl

destination_first :
    run_on 0 30 (code_of 0 (element_ops ++ op.Null ∷ op.Push (pos 56) ∷ op.Copy 1 Split ∷ ends) (lit< tt)) []
    ≡ ran [] [] (Fault Index 7)
unfolding place_in cells_of
destination_first = refl

copied_whole :
    run_on 0 30 (code_of 0 (element_ops ++ element_ops ++ op.Push (pos 48) ∷ op.Copy 1 Split ∷ ends) (lit< tt)) []
    ≡ ran (Issue (Copy first first 6 (Counter 0)) ∷ []) [] Ended
unfolding place_in cells_of
copied_whole = refl

-- ---- elements

-- row by row; a missing last index is 0; an index is tested against its own bound
element_of :
    run_on 0 30 (code_of 0 (op.Push (pos 1) ∷ op.Push (pos 2) ∷ op.Elem 0 2 ∷ op.Glob ∷ op.Push
    (pos 9) ∷ op.Store 1 ∷ ends) (lit< tt)) []
    ≡ ran (Issue (Write (record { object = 0; node = 1; offset = 5 }) (Int (pos 9)) Covered) ∷ []) [] Ended
unfolding place_in cells_of
element_of = refl

spread_element_of :
    run_on 0 30 (code_of 0 (op.Push (pos 3) ∷ op.Elem 1 1 ∷ op.Push (pos 9) ∷ op.Send 1 ∷ ends) (lit< tt)) []
    ≡ ran (Issue (Write (record { object = 1; node = 1; offset = 1 }) (Int (pos 9)) Store) ∷ []) [] Ended
unfolding place_in cells_of
spread_element_of = refl

last_index_missing :
    run_on 0 30 (code_of 0 (op.Push (pos 1) ∷ op.Elem 0 1 ∷ op.Glob ∷ op.Push (pos 9) ∷ op.Put 1 ∷ ends) (lit< tt)) []
    ≡ ran (Issue (Write (record { object = 0; node = 1; offset = 3 }) (Int (pos 9)) (Counter 0)) ∷ []) [] Ended
unfolding place_in cells_of
last_index_missing = refl

own_bound :
    run_on 0 30 (code_of 0 (op.Push (pos 2) ∷ op.Push (pos 1) ∷ op.Elem 0 2 ∷ ends) (lit< tt)) []
    ≡ ran [] [] (Fault Index 7)
unfolding place_in cells_of
own_bound = refl

-- ---- budgets and frames

-- a turn that the budget does not allow
cut_at_turn : run_on 0 30 (code_of 0 (op.Turn ∷ op.Jump 0 ∷ []) (lit< tt)) [] ≡ ran [] [] Cut
cut_at_turn = refl

-- three turns are allowed, and the fourth is cut
counts_turns : run_on 3 7 (code_of 0 (op.Turn ∷ op.Jump 0 ∷ []) (lit< tt)) [] ≡ ran [] [] Cut
counts_turns = refl

still_turning : run_on 3 6 (code_of 0 (op.Turn ∷ op.Jump 0 ∷ []) (lit< tt)) []
    ≡ record { events = []; text = []; end = Ended_by UsedUp }
still_turning = refl

-- 255 calls make 256 frames; at the next one the budget is tested first, and then the depth
too_deep : run_on 256 600 (code_of 0 (op.Push (pos 0) ∷ op.Call 1 ∷ []) (lit< tt)) [] ≡ ran [] [] (Fault Depth 7)
too_deep = refl

cut_before_depth : run_on 255 600 (code_of 0 (op.Push (pos 0) ∷ op.Call 1 ∷ []) (lit< tt)) [] ≡ ran [] [] Cut
cut_before_depth = refl

-- ---- barriers, and answers that do not fit

passes : run_on 0 30 (code_of 0 (op.AllSync ∷ ends) (lit< tt)) (Passed ∷ []) ≡ ran (Arrive true ∷ Pass ∷ []) [] Ended
passes = refl

broken : run_on 0 30 (code_of 0 (op.Barrier ∷ ends) (lit< tt)) (Broken ∷ [])
    ≡ ran (Arrive false ∷ Pass ∷ []) [] Waiting
broken = refl

-- one value for each read, which fits its cell
misfit :
    run_on 0 30 (code_of 0 (element_ops ++ op.Read 1 ∷ op.Wait 1 ∷ ends) (lit< tt)) (Landed (Null ∷ []) ∷ [])
    ≡ record { events = Issue (Read first (Counter 1)) ∷ Wait 1 ∷ []; text = []; end = Short }
unfolding place_in cells_of
misfit = refl

-- a site that the code does not have
no_site : run_on 0 30 (code_of 0 (op.Null ∷ op.Read 4 ∷ ends) (lit< tt)) []
    ≡ record { events = []; text = []; end = Ended_by Stuck }
no_site = refl

no_counter : run_on 0 30 (code_of 0 (op.Wait 4 ∷ ends) (lit< tt)) []
    ≡ record { events = []; text = []; end = Ended_by Stuck }
no_counter = refl
