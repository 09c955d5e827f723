-- What the next piece of pending work does: one line for each kind.
use Rattle.std.specs.Prelude.{ℕ, zero, Option, Some, None, List, [], ◌∷◌, length}
use Rattle.sc_base.specs.declared.value.End.TheVariants.{Ended}
use Rattle.sc_base.specs.declared.value.Value.{Value}
use Rattle.sc_core.specs.declared.operation.Operation.TheVariants.{Read, Write}
use Rattle.sc_core.specs.Core.{Core, constant, step, choice, update, Arguments, none, argument, Does, nothing, break}
use Rattle.sc_core.specs.Core.{continue, then_, act, choose, loop, return, Function}
use Rattle.sc_core.specs.Table.{made_of, done_of}
use Rattle.sc_core.specs.Statements.{zero_of}
use Rattle.sc_meaning.specs.declared.request.Request.TheVariants as request
use Rattle.sc_meaning.specs.Asking.{Finishes, Breaks, fits_read, fits_sync, fits_barrier}
use Rattle.sc_meaning.specs.Meaning.{Setting, constant_of}
use Rattle.sc_meaning.specs.Memory.{has, Memory, slot, with_slot, places, synced, entered}
use Rattle.sc_meaning.specs.Steps.{shown_or_zero, landed_or_none, barrier_request, mode_of}
use Rattle.core_machine.specs.Todo.{Todo, evaluates, takes_each, performs, decides, doubles, gains, does_, enacts}
use Rattle.core_machine.specs.Todo.{chooses, rounds_of, turn_of, after_of, returns, closes, reads_from, fills_from}
use Rattle.core_machine.specs.Todo.{syncs, meets_at, requests, says, halts, State, Move, Goes, Asks, Makes, Says}
use Rattle.core_machine.specs.Todo.{Stops}
pub use Rattle.core_machine.specs.Jumps.{at_work, halted, faulted, count, truth_by, truth_as, truth_of, chosen}
pub use Rattle.core_machine.specs.Jumps.{unless_awaited, any_awaited, left_by_break, left_by_continue, left_by_return}
pub use Rattle.core_machine.specs.Jumps.{or_stuck, returned}
pub use Rattle.core_machine.specs.Deeds.{entered_by, called, after_step, after_action, by_values, by_value, turned}
pub use Rattle.core_machine.specs.Deeds.{taken_back, passed}

-- ---- expressions and statements

abbrev pub evaluated : Setting → Core → List Todo → List Value → Memory → ℕ → State
evaluated here (constant c) ts vs m left = at_work ts (constant_of here c ∷ vs) m left
evaluated here (step operation arguments line) ts vs m left =
    at_work (takes_each arguments ∷ performs operation (count arguments) line ∷ ts) vs m left
evaluated here (choice of_pointer test on off) ts vs m left =
    at_work (evaluates test ∷ decides of_pointer on off ∷ ts) vs m left
evaluated here (update pointer operation right back line) ts vs m left =
    at_work (evaluates pointer ∷ doubles ∷ performs Read 1 line ∷ evaluates right ∷ performs operation 2 line
    ∷ performs Write 2 line ∷ taken_back back line ts) vs m left

abbrev pub each_taken : Arguments → List Todo → List Todo
each_taken none ts = ts
each_taken (argument e more) ts = evaluates e ∷ takes_each more ∷ ts

abbrev pub done : Does → List Todo → List Value → Memory → ℕ → State
done nothing ts vs m left = at_work ts vs m left
done break ts vs m left = or_stuck (left_by_break ts) vs m left
done continue ts vs m left = or_stuck (left_by_continue ts) vs m left
done (then_ a b) ts vs m left = at_work (does_ a ∷ does_ b ∷ ts) vs m left
done (act action arguments line) ts vs m left =
    at_work (takes_each arguments ∷ enacts action (count arguments) line ∷ ts) vs m left
done (choose of_pointer test on off) ts vs m left =
    at_work (evaluates test ∷ chooses of_pointer on off ∷ ts) vs m left
done (loop mine before body after) ts vs m left = at_work (rounds_of before body after ∷ ts) vs m left
done (return e line) ts vs m left = at_work (evaluates e ∷ returns line ∷ ts) vs m left

-- ---- all pending work

abbrev pub moved : Setting → Todo → List Todo → List Value → Memory → ℕ → Move
moved here (evaluates e) ts vs m left = Goes (evaluated here e ts vs m left)
moved here (takes_each arguments) ts vs m left = Goes (at_work (each_taken arguments ts) vs m left)
moved here (performs operation n line) ts vs m left =
    Goes (by_values n vs (λ xs vs. after_step here (made_of here.layout here.node operation xs) line ts vs m left)
    (halted Breaks ts vs m left))
moved here (decides of_pointer on off) ts vs m left =
    Goes (by_value vs (λ v vs. chosen (truth_of here of_pointer v) (at_work (evaluates on ∷ ts) vs m left)
    (at_work (evaluates off ∷ ts) vs m left) (halted Breaks ts vs m left)) (halted Breaks ts vs m left))
moved here doubles ts vs m left =
    Goes (by_value vs (λ v vs. at_work ts (v ∷ v ∷ vs) m left) (halted Breaks ts vs m left))
moved here (gains v) ts vs m left = Goes (at_work ts (v ∷ vs) m left)
moved here (does_ s) ts vs m left = Goes (done s ts vs m left)
moved here (enacts action n line) ts vs m left =
    Goes (by_values n vs
    (λ xs vs. after_action (mode_of action) (done_of here.layout here.program.texts action xs) line ts vs m left)
    (halted Breaks ts vs m left))
moved here (chooses of_pointer on off) ts vs m left =
    Goes (by_value vs (λ v vs. chosen (truth_of here of_pointer v) (at_work (does_ on ∷ ts) vs m left)
    (at_work (does_ off ∷ ts) vs m left) (halted Breaks ts vs m left)) (halted Breaks ts vs m left))
moved here (rounds_of before body after) ts vs m left =
    Goes (at_work (does_ before ∷ turn_of before body after ∷ ts) vs m left)
moved here (turn_of before body after) ts vs m left = Goes (turned before body after ts vs m left)
moved here (after_of before body after) ts vs m left =
    Goes (at_work (does_ after ∷ rounds_of before body after ∷ ts) vs m left)
moved here (returns line) ts vs m left = Goes (returned line (left_by_return ts) ts vs m left)
moved here (closes at_end line) ts vs m left =
    Goes (returned line (Some ts) (closes at_end line ∷ ts) (constant_of here at_end ∷ vs) m left)
moved here (reads_from place line) ts vs m left =
    Asks (request.Read place line) (fits_read here.layout place)
    (λ answer. at_work ts (shown_or_zero answer ∷ vs) m left)
moved here (fills_from x place line) ts vs m left =
    Asks (request.Read place line) (fits_read here.layout place)
    (λ answer. unless_awaited line (slot m x)
    (λ old. at_work ts vs (with_slot m x (has (shown_or_zero answer))) left) ts vs m left)
moved here (syncs line) ts vs m left =
    Asks (request.Sync line) (fits_sync here.layout (places m))
    (λ answer. at_work ts vs (synced (landed_or_none answer) m) left)
moved here (meets_at stores line) ts vs m left =
    Asks (barrier_request stores line) fits_barrier (λ answer. passed answer ts vs m left)
moved here (requests request) ts vs m left = Makes request (at_work ts vs m left)
moved here (says text) ts vs m left = Says text (at_work ts vs m left)
moved here (halts halt) ts vs m left = Stops halt

abbrev pub move : Setting → List Todo → List Value → Memory → ℕ → Move
move here [] vs m left = Stops Breaks
move here (t ∷ ts) vs m left = moved here t ts vs m left

abbrev pub move_of : Setting → State → Move
move_of here s = move here s.todo s.values s.memory s.left

-- a node before its first step; `splitc_main` goes on to nothing but the end
abbrev pub begun : Option Function → (budget : ℕ) → State
begun None budget = halted Breaks [] [] (record { frames = []; getting = [] }) budget
begun (Some f) budget =
    at_work (does_ f.body ∷ closes (zero_of f.result) f.line ∷ halts (Finishes Ended) ∷ []) []
    (record { frames = entered [] (length f.others) ∷ []; getting = [] }) budget
