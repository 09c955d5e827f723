use Rattle.std.proofs.Common.{◌≡◌, List, IfOk, subst, rules}
use Rattle.sc_layout.specs.Start.{start}
use Rattle.sc_meaning.specs.declared.event.SourceEvent.{SourceEvent}
use Rattle.journal_effects.proofs.Going.{requests_few, issues_next, effects_next, shown_whole}
use Rattle.journal_effects.proofs.shown.effects.Goals as goal

pub note-requires : goal.note-requires
note-requires c =
    requests_few c.loop-entry.issues c.args.journal.now c.loop-entry.entry-index c.loop-entry.invariant.issues (search rules)

pub loop-entry-preserved : goal.loop-entry-preserved
loop-entry-preserved c =
    let l = c.loop-entry in
    record {
      issues = issues_next l.issues c.note.new.self c.args.journal.now l.entry-index _ c.loop-entry-test.true
          c.in_ok-note.ensures.issues l.invariant.issues;
      numbered = c.in_ok-note.ensures.numbered l.invariant.numbered (c.requires l.entry-index _ c.loop-entry-test.true);
      occurred = effects_next (start c.args.layout.now) l.issues c.args.journal.now l.entry-index _ l.occurred _ c.loop-entry-test.true
          c.in_ok-occurred.ensures l.invariant.issues l.invariant.occurred;
    }

pub returns : goal.returns
returns c =
    let l = c.loop-entry in
    subst (λ (x : List SourceEvent). IfOk c.events_of.result (λ events. events.items ≡ x))
    (shown_whole l.issues c.args.journal.now l.entry-index c.loop-entry-test.false l.invariant.issues (start c.args.layout.now)
    l.occurred c.as_slice.result.now l.invariant.occurred c.as_slice.ensures)
    c.events_of.ensures
