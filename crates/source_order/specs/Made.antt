-- When a run's nodes made the requests of some processes, as a simulation between two transition systems (Milner,
-- 1971): each node's own steps in the journal are the requests of its process under the answers that the journal
-- shows, with the same bytes and the same end.
use Rattle.std.specs.Prelude.{◌≡◌, ℕ, ◌<◌, List, [], ◌∷◌, map, Option, Some, None, false, ◌==◌, ◌&&◌, if◌then◌else◌}
use Rattle.sc_base.specs.declared.value.Place.{Place}
use Rattle.sc_base.specs.declared.value.End.{End}
use Rattle.sc_base.specs.declared.value.End.TheVariants.{Waiting}
use Rattle.effect_order.specs.Effect.{Effect}
use Rattle.sc_meaning.specs.declared.request.Request.{Request}
use Rattle.sc_meaning.specs.Asking.{Answer, Shown, Landed, Passed as PassedOn, Broken, Halt, Finishes}
use Rattle.resumption.specs.Resumption.{RunOf, Ends, run_of}
use Rattle.effect_order.specs.Transfer.{part_value}
use Rattle.sc_meaning.specs.Past.{Processes, or_zero, got, and_answer}
use Rattle.sc_isa.specs.declared.access.Access.{Access}
use Rattle.sc_isa.specs.declared.access.Access.TheVariants.{Read}
use Rattle.sc_isa.specs.declared.journal.Entry.{Entry}
use Rattle.sc_isa.specs.declared.journal.Entry.TheVariants.{Issued, Waited, Passed, Finished}
use Rattle.sc_isa.specs.declared.access.Track.TheVariants.{Store}
use Rattle.fabric.specs.Effects.{effects, awaited, access_at}
use Rattle.fabric.specs.Barriers.{finished}
use Rattle.fabric.specs.Asked.{Machine, run_so_far}
use Rattle.source_order.specs.Steps.{own_requests}
use Rattle.sc_meaning.specs.OfAccess.{is_blocking, unlined}

-- What the issue of an access is answered, if it is answered at all; all: all effects of the run, in which a blocking
-- read has its value.
abbrev pub answer_of_issue : List Effect → (node number : ℕ) → Access → Option Answer
answer_of_issue all node number (Read place track) =
    if is_blocking track then Some (Shown (or_zero (part_value node number 0 false all))) else None
answer_of_issue all node number _ = None

-- what the entry answers to the node; past: the entries before it
abbrev pub answer_by : List Effect → ℕ → List Entry → Entry → Option Answer
answer_by all node past (Issued other number access) =
    if other == node then answer_of_issue all node number access else None
answer_by all node past (Waited other counter) =
    if (other == node) && (counter == 0) then Some (Landed (got node all (awaited node 0 past))) else None
answer_by all node past (Passed other) = if other == node then Some PassedOn else None
answer_by all node past (Finished other Waiting) = if other == node then Some Broken else None
answer_by all node past _ = None

-- the answers that the entries show to the node, in order
abbrev pub answers_in : List Effect → ℕ → List Entry → List Answer
answers_in all node [] = []
answers_in all node (entry ∷ past) = and_answer (answers_in all node past) (answer_by all node past entry)

-- the run of this node of the processes under the answers that the journal shows
abbrev pub run_in : Processes → ℕ → List Entry → RunOf Request Halt
run_in processes node past = run_of (processes.starts node) (answers_in (effects processes.start past) node past)

-- the node made the requests of its process, as far as it came
pub record NodeMade (processes : Processes) (machine : Machine) (past : List Entry) (node : ℕ) : Type 0 where
  -- a read is no store
  pub no_stored_read : (number : ℕ) (place : Place) → access_at node number past ≡ Some (Read place Store) → ⊥
  pub requests : own_requests node past ≡ map unlined (run_in processes node past).events
  pub text : (run_so_far machine node past).text ≡ (run_in processes node past).text
  pub end : (end : End) → finished node past ≡ Some end → (run_in processes node past).end ≡ Ends (Finishes end)

-- the machine has as many nodes and the same cells, and each node of its run made the requests of its process
pub record IsMade (processes : Processes) (machine : Machine) (past : List Entry) : Type 0 where
  pub nodes : machine.nodes ≡ processes.nodes
  pub start : machine.start ≡ processes.start
  pub each : (node : ℕ) → node < processes.nodes → NodeMade processes machine past node
