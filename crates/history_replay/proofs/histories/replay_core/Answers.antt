use Rattle.std.proofs.Common.{rules, ◌≤◌, length, sym, ap, ◌∙◌, subst, arith}
use Rattle.std.proofs.lemmas.Grind.{common_steps}
use Rattle.std.proofs.lemmas.Option.{gets, slice_get-get_or}
use Rattle.sc_layout.specs.Layout.{Arrangement}
use Rattle.sc_core.specs.ViewStatements.{plain_program}
use Rattle.sc_meaning.specs.Source.{processes_of}
use Rattle.sc_meaning.specs.Whole.{IsHistory, outcome}
use Rattle.sc_replay.specs.Judging.{Tells}
use Rattle.history_replay.proofs.Whole.{read_on, read_doomed, all_read, unfinished, whole}
use Rattle.history_replay.proofs.histories.replay_core.Goals as goal

pub loop-event-preserved : goal.loop-event-preserved
loop-event-preserved c =
    let processes = processes_of c.args.layout.now (plain_program c.args.program.now) c.args.budget in
    record {
      layout = ap (λ l. l.now) c.in_ok-take.ensures.kept ∙ c.loop-event.invariant.layout;
      reached = read_on processes c.as_slice-event-items.result.now c.loop-event.event-index _ _ _
          (c.in_ok-take.ensures.taken processes _ c.loop-event.invariant.reached) c.if-not-branch.false
          (first_of (search (rules, slice_get-get_or), grind (arith, common_steps, gets)));
    }

pub returns-then-not-branch : goal.returns-then-not-branch
returns-then-not-branch c = λ h.
    let processes = processes_of c.args.layout.now (plain_program c.args.program.now) c.args.budget in
    read_doomed processes c.as_slice-event-items.result.now c.loop-event.event-index _ _ _
    (c.in_ok-take.ensures.taken processes _ c.loop-event.invariant.reached) c.if-not-branch.true
    (first_of (search (rules, slice_get-get_or), grind (arith, common_steps, gets)))
    (subst (IsHistory processes) (sym c.as_slice-event-items.ensures) h)

pub returns-then-not-is_complete : goal.returns-then-not-is_complete
returns-then-not-is_complete c = λ h.
    let program = plain_program c.args.program.now in
    let j = c.loop-event.judge in
    let le : length c.as_slice-event-items.result.now ≤ c.loop-event.event-index = omega arith in
    unfinished program c.args.budget c.args.history.now j
    (all_read c.args.layout.now program c.args.budget c.args.history.now c.as_slice-event-items.result.now c.loop-event.event-index j
    c.loop-event.invariant.layout c.as_slice-event-items.ensures le c.loop-event.invariant.reached)
    (sym c.is_complete.ensures ∙ c.if-not-is_complete.true)
    (subst (λ (l : Arrangement). IsHistory (processes_of l program c.args.budget) c.args.history.now) (sym c.loop-event.invariant.layout) h)

pub returns : goal.returns
returns c =
    let program = plain_program c.args.program.now in
    let j = c.loop-event.judge in
    let le : length c.as_slice-event-items.result.now ≤ c.loop-event.event-index = omega arith in
    let reached = all_read c.args.layout.now program c.args.budget c.args.history.now c.as_slice-event-items.result.now
    c.loop-event.event-index j c.loop-event.invariant.layout c.as_slice-event-items.ensures le c.loop-event.invariant.reached in
    let e = sym c.is_complete.ensures ∙ c.if-not-is_complete.false in (
      subst (λ (l : Arrangement). IsHistory (processes_of l program c.args.budget) c.args.history.now) c.loop-event.invariant.layout
          (whole program c.args.budget c.args.history.now j reached e),
      subst (λ (l : Arrangement). Tells l (outcome (processes_of l program c.args.budget) c.args.history.now) c.in_ok-outcome.outcome)
          c.loop-event.invariant.layout (c.in_ok-outcome.ensures program c.args.budget c.args.history.now reached e),
    )
