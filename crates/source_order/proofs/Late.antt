-- Machines that wait late: runs of them that are ordered, and one that can't be, since its orders have a cycle.
use Rattle.std.proofs.Common.{◌≡◌, ℕ, ◌+◌, [], true, false, refl}
use Rattle.std.specs.Prelude.{if◌then◌else◌, ◌==◌, ◌%◌, reverse}
use Rattle.sc_base.specs.declared.value.End.TheVariants.{Ended, Fault}
use Rattle.sc_base.specs.declared.value.FaultKind.TheVariants.{PendingUse}
use Rattle.sc_base.specs.declared.value.CopyMode.TheVariants.{Split}
use Rattle.sc_meaning.specs.declared.request.Request.{Request}
use Rattle.sc_meaning.specs.declared.request.Request.TheVariants.{Read, Write, Get, Store, Copy, Sync, Barrier, AllStoreSync}
use Rattle.sc_meaning.specs.Asking.{Finishes, SourceDoing}
use Rattle.resumption.specs.Resumption.{Asks, Makes, Says, Stops}
use Rattle.sc_isa.specs.Run as code
use Rattle.sc_isa.specs.Run.{NodeDoing}
use Rattle.sc_meaning.specs.Past.{Processes}
use Rattle.sc_isa.specs.declared.access.Access.TheVariants as access
use Rattle.sc_isa.specs.declared.access.Track.TheVariants.{Counter, Covered}
use Rattle.fabric.specs.Asked.{Machine}
use Rattle.source_order.specs.Items.{source_order}
use Rattle.source_order.proofs.Setting.{number, cell, text_in, shows_number, lands, meets, simulated, is_whole}
use Rattle.source_order.proofs.Plain.{plain_machine, holds_of, asked_for, made_for, halted}
use Rattle.source_order.proofs.Exact.{exact_of}
use Rattle.source_order.proofs.Examples.{on_numbers, past_barrier, dekker}

-- no write is waited for but by barriers
abbrev late_for : Request → NodeDoing → NodeDoing
late_for (Write place value line) rest = Makes (code.Issue (access.Write place value Covered)) rest
late_for request rest = made_for request rest

abbrev late_asks : SourceDoing → NodeDoing
late_asks (Asks request fits go) = asked_for request fits (λ answer. late_asks (go answer))
late_asks (Makes request rest) = late_for request (late_asks rest)
late_asks (Says text rest) = Says text (late_asks rest)
late_asks (Stops halt) = halted halt

abbrev pub late_machine : Processes → Machine
late_machine processes = record { nodes = processes.nodes; start = processes.start; starts = λ node. late_asks (processes.starts node) }

-- ---- three nodes pass numbers on, with a barrier between

abbrev passes_on : (me next before : ℕ) → SourceDoing
passes_on me next before =
    Makes (Write (cell 0 next 0) (number me) 1) (
    Makes (Write (cell 1 next me) (number 4) 1) (
    Makes (Store (cell 2 before 0) (number 6) 1) (
    Asks (AllStoreSync 1) meets (λ b. past_barrier b (
    Asks (Read (cell 0 me 0) 1) shows_number (λ r.
    Makes (Copy (cell 1 next 0) (cell 2 before 1) 3 Split 1) (
    Makes (Get (cell 2 next 0) 1) (
    Says (text_in r) (
    Asks (Sync 1) (lands 1) (λ a.
    Asks (Barrier 1) meets (λ b. past_barrier b (
    Makes (Write (cell 0 me 0) (number 9) 1) (Stops (Finishes Ended))))))))))))))

abbrev pub ring : Processes
ring = record { nodes = 3; start = λ place. number 0; starts = λ node. passes_on node ((node + 1) % 3) ((node + 2) % 3) }

plain_ring_holds : holds_of 3 4 2 120 ring (plain_machine ring) ≡ true
plain_ring_holds = refl

plain_ring_is_exact : exact_of 1 120 ring (plain_machine ring) ≡ true
plain_ring_is_exact = refl

late_ring_holds : holds_of 3 4 2 120 ring (late_machine ring) ≡ true
late_ring_holds = refl

-- ---- late flags: a run in which both read 0 is no history of the source

late_dekker_fails : is_whole dekker (source_order dekker (reverse (simulated 30 (late_machine dekker) [] []))) ≡ false
late_dekker_fails = refl

-- ---- a node that issues a read and ends by a fault before it lands

abbrev falls : SourceDoing
falls = Asks (Read (cell 0 1 0) 1) shows_number (λ r. Stops (Finishes (Fault PendingUse 1)))

abbrev writes_there : SourceDoing
writes_there = Makes (Write (cell 0 1 0) (number 3) 1) (Makes (Write (cell 0 0 0) (number 4) 1) (Stops (Finishes Ended)))

abbrev pub falling : Processes
falling = on_numbers (λ node. if node == 0 then falls else writes_there)

abbrev pub falling_machine : Machine
falling_machine = record {
  nodes = 2;
  start = λ place. number 0;
  starts = λ node. if node == 0 then Makes (code.Issue (access.Read (cell 0 1 0) (Counter 2))) (Stops (code.Finish (Fault PendingUse 1))) else late_asks writes_there;
}

falling_holds : holds_of 1 1 6 20 falling falling_machine ≡ true
falling_holds = refl
