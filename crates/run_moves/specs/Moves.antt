-- The moves of a run: the next entries of its nodes, and the deliveries of the messages in flight, as a scheduler
-- chooses among them. Their order is this project's own. A past is a list of entries, the newest first.
use Rattle.std.specs.Prelude.{ℕ, zero, suc, List, [], ◌∷◌, ◌++◌, length, map, Option, Some, None, Bool, true, false, ◌==◌, if◌then◌else◌}
use Rattle.sc_base.specs.declared.value.Value.{Value}
use Rattle.sc_base.specs.declared.value.Place.{Place}
use Rattle.sc_base.specs.declared.value.End.TheVariants.{Waiting}
use Rattle.effect_order.specs.Effect.{Effect}
use Rattle.resumption.specs.Resumption.{RunEnd, Ends, run_of}
use Rattle.sc_isa.specs.Run.{Ask, Issue, Wait, Arrive, Pass, Broken, Halt, Finish}
use Rattle.sc_isa.specs.declared.journal.Entry.{Entry}
use Rattle.sc_isa.specs.declared.journal.Entry.TheVariants.{Issued, Delivered, Waited, Arrived, Passed, Finished}
use Rattle.msg_pool.specs.declared.message.Message.{Message}
use Rattle.fabric.specs.Effects.{issues, effects}
use Rattle.fabric.specs.Asked.{Machine, answers, run_so_far, asked, next_ask}
use Rattle.fabric.specs.Delivering.{value_in}
use Rattle.fabric.specs.Flight.{in_flight}
use Rattle.fabric.specs.WiredTest.{entry_wired, is_pass}

-- the entry, where the fabric allows it
abbrev pub where_wired : Machine → List Entry → Entry → List Entry
where_wired machine past entry = if entry_wired machine.start machine.nodes past entry then entry ∷ [] else []

-- the run ends with the node waiting
abbrev pub ends_waiting : RunEnd Halt → Bool
ends_waiting (Ends (Finish Waiting)) = true
ends_waiting _ = false

-- the node's run ends so where it finds its barrier broken
abbrev pub gives_up : Machine → List Entry → (node : ℕ) → Bool
gives_up machine past node =
    ends_waiting (run_of (machine.starts node) (answers machine node past ++ Broken ∷ [])).end

-- where the node asks to pass: it passes, or it finishes as waiting where the barrier is broken
abbrev pub passes_or_waits : Machine → List Entry → (node : ℕ) → List Entry
passes_or_waits machine past node =
    if is_pass machine.start machine.nodes past node then Passed node ∷ []
    else if gives_up machine past node then where_wired machine past (Finished node Waiting)
    else []

-- where the node asks so
abbrev pub step_asked : Machine → List Entry → (node : ℕ) → Ask → List Entry
step_asked machine past node (Issue access) = where_wired machine past (Issued node (issues node past) access)
step_asked machine past node (Wait counter) = where_wired machine past (Waited node counter)
step_asked machine past node (Arrive stores) = where_wired machine past (Arrived node stores)
step_asked machine past node Pass = passes_or_waits machine past node

-- where its run ends so
abbrev pub step_over : Machine → List Entry → (node : ℕ) → RunEnd Halt → List Entry
step_over machine past node (Ends (Finish Waiting)) = []
step_over machine past node (Ends (Finish end)) = where_wired machine past (Finished node end)
step_over machine past node _ = []

abbrev pub step_or_over : Machine → List Entry → (node : ℕ) → Option Ask → List Entry
step_or_over machine past node (Some ask) = step_asked machine past node ask
step_or_over machine past node None =
    if length (run_so_far machine node past).events == asked node past
    then step_over machine past node (run_so_far machine node past).end
    else []

-- the next entry of the node, where it is allowed
abbrev pub step_of : Machine → List Entry → (node : ℕ) → List Entry
step_of machine past node = step_or_over machine past node (next_ask machine node past)

-- those of the first nodes, by number
abbrev pub steps_below : Machine → List Entry → (nodes : ℕ) → List Entry
steps_below machine past zero = []
steps_below machine past (suc node) = steps_below machine past node ++ step_of machine past node

-- the entry of the delivery of a message, after these effects
abbrev pub delivery : (start : Place → Value) → List Effect → Message → Entry
delivery start earlier m = Delivered m.issuer m.number m.cell (value_in start earlier m.part)

-- the next entries of the nodes, by number, and then the deliveries of the messages in flight, in order of their making
abbrev pub moves : Machine → List Entry → List Entry
moves machine past =
    steps_below machine past machine.nodes
    ++ map (delivery machine.start (effects machine.start past)) (in_flight machine.start past)
