use Rattle.std.proofs.Common.{refl}
use Rattle.phase_map.proofs.Partings.{points_of, behind_so}
use Rattle.phase_map.proofs.Least.{all_found}
use Rattle.phase_map.proofs.uneven.uneven_points.Goals as goal

pub search_any-requires-clause-points : goal.search_any-requires-clause-points
search_any-requires-clause-points c = points_of c.args.flow.now c.loop-locals.locals c.in_ok-partings.partings.items _ c.deref.ensures.value c.in_ok-partings.ensures

pub note_writes-requires-clause-behind : goal.note_writes-requires-clause-behind
note_writes-requires-clause-behind c =
    behind_so c.args.flow.now c.loop-locals.locals c.in_ok-partings.partings.items c.deref.result.now _ c.args.barriers.now c.in_ok-behind.behind c.loop-locals.invariant
    c.in_ok-partings.ensures c.deref.ensures.value c.requires.barriers c.in_ok-behind.ensures

pub returns-then-not-note_writes-clause-within : goal.returns-then-not-note_writes-clause-within
returns-then-not-note_writes-clause-within c =
    points_of c.args.flow.now c.loop-locals.locals c.in_ok-partings.partings.items c.in_ok-partings.partings.items refl c.in_ok-partings.ensures

pub returns-then-not-note_writes-clause-exact : goal.returns-then-not-note_writes-clause-exact
returns-then-not-note_writes-clause-exact c =
    all_found c.args.flow.now c.loop-locals.locals c.in_ok-partings.partings.items c.deref.result.now c.args.barriers.now c.in_ok-behind.behind c.loop-locals.invariant
    c.in_ok-partings.ensures c.deref.ensures.value c.requires.barriers c.in_ok-behind.ensures (c.note_writes.ensures.none c.if-not-note_writes.true).1
