-- A machine whose nodes ask plainly for what a process requests, each blocking access waited for at once, and what holds
-- of a run of it by picks.
use Rattle.std.proofs.Common.{ℕ, zero, suc, ◌+◌, List, [], ◌∷◌, Option, Some, Bool, true, false}
use Rattle.std.specs.Prelude.{◌%◌, ◌*◌, ◌&&◌, ◌==◌, length, reverse}
use Rattle.sc_base.specs.declared.value.Value.{Value}
use Rattle.sc_base.specs.declared.value.End.{End}
use Rattle.sc_base.specs.declared.value.CopyMode.TheVariants.{Blocking, Split, OneWay}
use Rattle.effect_order.specs.Effect.{same_value, held}
use Rattle.sc_meaning.specs.declared.request.Request.{Request}
use Rattle.sc_meaning.specs.declared.request.Request.TheVariants.{Read, Write, Get, Put, Store, Copy, Sync, Barrier, AllStoreSync}
use Rattle.sc_meaning.specs.declared.event.SourceEvent.{SourceEvent}
use Rattle.sc_meaning.specs.Below.{all_below}
use Rattle.resumption.specs.Resumption.{Asks, Makes, Says, Stops}
use Rattle.sc_meaning.specs.Asking.{Answer, Shown, Landed, Passed, Broken, Halt, Finishes, Breaks, SourceDoing}
use Rattle.sc_isa.specs.Run as code
use Rattle.sc_isa.specs.Run.{NodeDoing}
use Rattle.sc_isa.specs.declared.access.Access.{Access}
use Rattle.sc_meaning.specs.Past.{Processes, ended, run_so_far, shown}
use Rattle.sc_meaning.specs.Test.{same_end}
use Rattle.sc_isa.specs.declared.access.Access.TheVariants as access
use Rattle.sc_isa.specs.declared.access.Track.TheVariants.{Counter, Store as StoreTrack}
use Rattle.sc_isa.specs.declared.journal.Entry.{Entry}
use Rattle.fabric.specs.Effects.{effects}
use Rattle.fabric.specs.Barriers.{finished}
use Rattle.fabric.specs.Asked.{Machine, run_so_far as code_so_far}
use Rattle.source_order.specs.Items.{source_order, items}
use Rattle.source_order.proofs.Setting.{simulated, is_whole}

-- ---- answers of code as answers of a source

abbrev pub first_of : List Value → Answer
first_of [] = Broken
first_of (value ∷ _) = Shown value

abbrev pub shown_by : code.Answer → Answer
shown_by (code.Landed values) = first_of values
shown_by _ = Broken

abbrev pub landed_by : code.Answer → Answer
landed_by (code.Landed values) = Landed values
landed_by _ = Broken

abbrev pub met_by : code.Answer → Answer
met_by code.Passed = Passed
met_by _ = Broken

abbrev pub lands_none : code.Answer → Bool
lands_none (code.Landed []) = true
lands_none _ = false

abbrev pub is_met : code.Answer → Bool
is_met (code.Landed values) = false
is_met _ = true

-- ---- what is asked for a request

-- for one that is answered, and afterwards
abbrev pub asked_for : Request → (Answer → Bool) → (Answer → NodeDoing) → NodeDoing
asked_for (Read place line) fits go =
    Makes (code.Issue (access.Read place (Counter 1))) (Asks (code.Wait 1) (λ a. fits (shown_by a)) (λ a. go (shown_by a)))
asked_for (Sync line) fits go = Asks (code.Wait 0) (λ a. fits (landed_by a)) (λ a. go (landed_by a))
asked_for (Barrier line) fits go = Makes (code.Arrive false) (Asks code.Pass is_met (λ a. go (met_by a)))
asked_for (AllStoreSync line) fits go = Makes (code.Arrive true) (Asks code.Pass is_met (λ a. go (met_by a)))
asked_for _ fits go = Stops code.Stuck

abbrev pub and_waited : Access → NodeDoing → NodeDoing
and_waited a rest = Makes (code.Issue a) (Asks (code.Wait 1) lands_none (λ a. rest))

-- for one that is not
abbrev pub made_for : Request → NodeDoing → NodeDoing
made_for (Write place value line) rest = and_waited (access.Write place value (Counter 1)) rest
made_for (Get place line) rest = Makes (code.Issue (access.Read place (Counter 0))) rest
made_for (Put place value line) rest = Makes (code.Issue (access.Write place value (Counter 0))) rest
made_for (Store place value line) rest = Makes (code.Issue (access.Write place value StoreTrack)) rest
made_for (Copy from to cells Blocking line) rest = and_waited (access.Copy from to cells (Counter 1)) rest
made_for (Copy from to cells Split line) rest = Makes (code.Issue (access.Copy from to cells (Counter 0))) rest
made_for (Copy from to cells OneWay line) rest = Makes (code.Issue (access.Copy from to cells StoreTrack)) rest
made_for _ rest = Stops code.Stuck

abbrev pub halted : Halt → NodeDoing
halted (Finishes end) = Stops (code.Finish end)
halted Breaks = Stops code.Stuck

abbrev pub plain_asks : SourceDoing → NodeDoing
plain_asks (Asks request fits go) = asked_for request fits (λ answer. plain_asks (go answer))
plain_asks (Makes request rest) = made_for request (plain_asks rest)
plain_asks (Says text rest) = Says text (plain_asks rest)
plain_asks (Stops halt) = halted halt

abbrev pub plain_machine : Processes → Machine
plain_machine processes =
    record { nodes = processes.nodes; start = processes.start; starts = λ node. plain_asks (processes.starts node) }

-- picks that differ from seed to seed
abbrev pub pick_list : (seed count : ℕ) → List ℕ
pick_list seed zero = []
pick_list seed (suc k) = (seed * 7919 + k * k * 104729 + k * seed * 31 + k * 17) % 65537 ∷ pick_list seed k

abbrev pub same_list : List ℕ → List ℕ → Bool
same_list [] [] = true
same_list (a ∷ as_) (b ∷ bs) = (a == b) && same_list as_ bs
same_list _ _ = false

abbrev pub same_option : Option End → Option End → Bool
same_option (Some a) (Some b) = same_end a b
same_option _ _ = false

-- the order is a whole history with all items and the run's ends, bytes and first cells of each node
abbrev pub agrees : (objects cells : ℕ) → Processes → Machine → List Entry → List SourceEvent → Bool
agrees objects cells processes machine past order =
    is_whole processes order && ((length order == length (items processes.start processes.nodes past))
    && all_below processes.nodes (λ node.
    same_option (finished node past) (ended node (reverse order))
    && (same_list (code_so_far machine node past).text (run_so_far processes node (reverse order)).text
    && all_below objects (λ object. all_below cells (λ offset.
    same_value (held processes.start (record { object = object; node = node; offset = offset }) (effects machine.start past))
    (shown processes.start (record { object = object; node = node; offset = offset }) (reverse order)))))))

abbrev pub holds_by : (objects cells : ℕ) → Processes → Machine → List Entry → Bool
holds_by objects cells processes machine past = agrees objects cells processes machine past (source_order processes (reverse past))

-- it holds of the runs of the machine by the seeds below a bound
abbrev pub holds_of : (objects cells seeds moves : ℕ) → Processes → Machine → Bool
holds_of objects cells seeds moves processes machine =
    all_below seeds (λ seed. holds_by objects cells processes machine (simulated moves machine (pick_list seed moves) []))
