-- The moves after a legal past are exactly the entries that are allowed.
use Rattle.std.proofs.Common.{ℕ, ◌<◌, List, map, sym, subst, ⊎_elim}
use Rattle.sc_base.specs.declared.value.End.TheVariants as kind
use Rattle.effect_order.specs.Lists.{In}
use Rattle.effect_order.proofs.Members.{in-either}
use Rattle.sc_isa.specs.declared.journal.Entry.{Entry}
use Rattle.sc_isa.specs.declared.journal.Entry.TheVariants.{Issued, Delivered, Waited, Arrived, Passed, Finished}
use Rattle.fabric.specs.Effects.{effects}
use Rattle.fabric.specs.Flight.{in_flight}
use Rattle.fabric.specs.Asked.{Machine}
use Rattle.fabric.specs.Legal.{EntryAllowed, LegalPast}
use Rattle.run_moves.specs.Moves.{steps_below, delivery, moves, step_of}
use Rattle.run_moves.specs.Laws.{MovesAreAllowed}
use Rattle.run_moves.proofs.Members.{in_left, in_right, in_map, map_in, in_steps, steps_in}
use Rattle.run_moves.proofs.Flown.{flown_wired, wired_flown}
use Rattle.run_moves.proofs.Stepped.{step_to, issue_from, wait_from, arrive_from, pass_from, waiting_from, finish_from}

module _ (machine : Machine) (past : List Entry) (legal : LegalPast machine past) where
  abbrev deliveries : List Entry
  deliveries = map (delivery machine.start (effects machine.start past)) (in_flight machine.start past)

  pub to : (entry : Entry) → In entry (moves machine past) → EntryAllowed machine past entry
  to entry i =
      ⊎_elim
      (λ l. let r = in_steps machine past machine.nodes entry l in step_to machine past legal.wired r.0 entry r.2)
      (λ r. let d = map_in (delivery machine.start (effects machine.start past)) entry (in_flight machine.start past) r in
      subst (EntryAllowed machine past) (sym d.2) (record { wired = flown_wired machine.start machine.nodes past legal.wired d.0 d.1; asked = tt }))
      (in-either (steps_below machine past machine.nodes) deliveries entry i)

  step : (node : ℕ) (entry : Entry) → node < machine.nodes → In entry (step_of machine past node) → In entry (moves machine past)
  step node entry lt i = in_left entry (steps_below machine past machine.nodes) deliveries (steps_in machine past machine.nodes node entry lt i)

  pub from : (entry : Entry) → EntryAllowed machine past entry → In entry (moves machine past)
  from (Issued node number access) m = step node (Issued node number access) m.wired.going.running.node_within (issue_from machine past legal.wired node access number m)
  from (Delivered node number cell value) m =
      let r = wired_flown machine.start machine.nodes past node number cell value legal.wired m.wired in
      in_right (Delivered node number cell value) (steps_below machine past machine.nodes) deliveries
      (subst (λ e. In e deliveries) (sym r.2) (in_map (delivery machine.start (effects machine.start past)) r.0 (in_flight machine.start past) r.1))
  from (Waited node counter) m = step node (Waited node counter) m.wired.going.running.node_within (wait_from machine past legal.wired node counter m)
  from (Arrived node stores) m = step node (Arrived node stores) m.wired.running.node_within (arrive_from machine past legal.wired node stores m)
  from (Passed node) m = step node (Passed node) m.wired.running.node_within (pass_from machine past legal.wired node m)
  from (Finished node kind.Waiting) m = step node (Finished node kind.Waiting) m.wired.running.node_within (waiting_from machine past legal.wired node m)
  from (Finished node kind.Ended) m = step node (Finished node kind.Ended) m.wired.running.node_within (finish_from machine past legal.wired node kind.Ended (λ e. cc) m.wired m.asked)
  from (Finished node kind.Cut) m = step node (Finished node kind.Cut) m.wired.running.node_within (finish_from machine past legal.wired node kind.Cut (λ e. cc) m.wired m.asked)
  from (Finished node (kind.Fault k l)) m = step node (Finished node (kind.Fault k l)) m.wired.running.node_within (finish_from machine past legal.wired node (kind.Fault k l) (λ e. cc) m.wired m.asked)

pub moves_are_allowed : MovesAreAllowed
moves_are_allowed machine past entry legal = (to machine past legal entry, from machine past legal entry)
