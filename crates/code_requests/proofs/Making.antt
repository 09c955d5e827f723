-- In each whole run of the code of a source its nodes make the requests of the source: from what the code plays, what the source
-- tells, and what the journal shows.
use Rattle.std.proofs.Common.{◌≡◌, ◌≢◌, ℕ, ◌+◌, ◌<◌, ◌≤◌, List, [], ◌∷◌, ◌++◌, Option, Some, None, true, refl, sym, ap, ◌∙◌, subst, arith}
use Rattle.std.specs.Prelude.{reverse}
use Rattle.std.specs.List.{filter_map, cons_option}
use Rattle.resumption.specs.Resumption.{RunEnd, Ends, Short, RunOf, run_of}
use Rattle.sc_base.specs.declared.value.End.{End}
use Rattle.sc_base.specs.declared.value.Place.{Place}
use Rattle.sc_layout.specs.Layout.{Arrangement}
use Rattle.sc_layout.specs.Start.{start}
use Rattle.sc_isa.specs.declared.access.Access.{Access}
use Rattle.sc_isa.specs.declared.access.Access.TheVariants as access
use Rattle.sc_isa.specs.declared.access.Track.{Track}
use Rattle.sc_isa.specs.declared.access.Track.TheVariants.{Store}
use Rattle.sc_isa.specs.declared.code.Code.{Code}
use Rattle.sc_isa.specs.declared.journal.Entry.{Entry}
use Rattle.sc_isa.specs.Begin.{begin}
use Rattle.sc_isa.specs.Fitting.{fits}
use Rattle.sc_isa.specs.Run.{Ask, Issue}
use Rattle.sc_isa.specs.Sound.{IsPlaced}
use Rattle.sc_isa.proofs.Settling.{soundly}
use Rattle.sc_core.specs.Core.{Program}
use Rattle.sc_meaning.specs.declared.request.Request.{Request}
use Rattle.sc_meaning.specs.Asking as source
use Rattle.sc_meaning.specs.Meaning.{Setting, pointed, meaning}
use Rattle.sc_meaning.specs.Source.{processes_of}
use Rattle.site_graph.specs.declared.plan.Plan.{Plan}
use Rattle.value_soundness.specs.Laws.{IsLaidSource}
use Rattle.node_emit.specs.Pointed.{code_points}
use Rattle.node_emit.specs.Oracles.{Oracle, Shown, Story, told_at_first, at_first, tells, plays}
use Rattle.node_emit.specs.Forgotten.{answers_told}
use Rattle.node_emit.specs.Law.{IsFront, is_empty, IsEmitted}
use Rattle.fabric.specs.Effects.{access_at, effects}
use Rattle.fabric.specs.Barriers.{finished}
use Rattle.fabric.specs.Asked.{Machine, answers, run_so_far}
use Rattle.source_order.specs.Steps.{own_requests}
use Rattle.source_order.specs.Whole.{IsRun}
use Rattle.source_order.specs.Made.{answers_in, run_in, NodeMade}
use Rattle.source_order.proofs.Numbers.{issued_at}
use Rattle.source_order.proofs.Occurs.{some_is}
use Rattle.source_order.proofs.Stands.{wired_at}
use Rattle.forgotten_marks.specs.Played.{request_shown, without_points, source_end, source_shows}
use Rattle.forgotten_marks.proofs.Promised.{all_objects, fits_names, promised}
use Rattle.forgotten_marks.proofs.ToldRuns.{tells_are_runs}
use Rattle.forgotten_marks.proofs.Well.{pointed_good}
use Rattle.run_moves.specs.OfCode.{machine_of}
use Rattle.run_moves.specs.Placed.{AccessesArePlaced}
use Rattle.code_requests.specs.Laws.{oracle_in, CodeAccessesArePlaced, CodeMakesRequests}
use Rattle.code_requests.proofs.Listed.{asks_in, asks_begin}
use Rattle.code_requests.proofs.Stories.{own_are, Story_, story_of}
use Rattle.code_requests.proofs.SourceAnswers.{by_requests, told_answers, IsPaired, paired_same}
use Rattle.code_requests.proofs.SourceShown.{source_shown}
use Rattle.code_requests.proofs.Telling.{FitRequests, front_fits, tells_end, asks_fit}
use Rattle.code_requests.proofs.EffectsFit.{reads_fit}
use Rattle.code_requests.proofs.PairedRuns.{pairs_from, paired_run}
use Rattle.code_requests.proofs.Requested.{access_asked, asks_placed, front_in, not_stored, asks_fit_in}

shown_append : (xs ys : List Shown) → filter_map request_shown (xs ++ ys) ≡ filter_map request_shown xs ++ filter_map request_shown ys
shown_append [] ys = refl
shown_append (x ∷ xs) ys = ap (cons_option (request_shown x)) (shown_append xs ys) ∙ by_option (request_shown x)
  where
    by_option : (o : Option Request) → cons_option o (filter_map request_shown xs ++ filter_map request_shown ys) ≡ cons_option o (filter_map request_shown xs) ++ filter_map request_shown ys
    by_option None = refl
    by_option (Some r) = refl

ends_as : (x : RunEnd source.Halt) (end : End) → source_end x ≡ Ends end → x ≡ Ends (source.Finishes end)
ends_as (Ends (source.Finishes y)) end e = let same : y ≡ end = cc in ap (λ z. Ends (source.Finishes z)) same
ends_as (Ends source.Breaks) end e = absurd (cc)
ends_as Short end e = absurd (cc)

pub code_accesses_are_placed : CodeAccessesArePlaced
code_accesses_are_placed layout program plan code budget many journal emitted is_run p n a h =
    let machine : Machine = machine_of layout code budget many in
    let past : List Entry = reverse journal in
    let i = issued_at p n a past h in
    let w = wired_at (start layout) layout.nodes i.0 _ past is_run.legal.wired i.1 in
    let run = soundly code layout emitted.sound p budget w.0.going.running.node_within many (answers machine p past) in
    asks_placed layout (run_so_far machine p past).events a run.placed
    (front_in (Issue a) (asks_in p past) (run_so_far machine p past).events (asks_begin machine p past is_run.legal.wired is_run.legal.asked) (access_asked p past n a h))

module _ (layout : Arrangement) (program : Program) (plan : Plan) (code : Code) (budget many : ℕ) (journal : List Entry) (source_ : IsLaidSource layout program)
    (emitted : IsEmitted layout program plan code) (is_run : IsRun (machine_of layout code budget many) journal) where
  abbrev machine : Machine
  machine = machine_of layout code budget many

  abbrev past : List Entry
  past = reverse journal

  placed : AccessesArePlaced layout past
  placed = code_accesses_are_placed layout program plan code budget many journal emitted is_run

  module _ (node : ℕ) (below : node < layout.nodes) (end : End) (over : finished node past ≡ Some end) where
    abbrev oracle : Oracle
    oracle = oracle_in (start layout) node past

    abbrev here : Setting
    here = record { layout = layout; node = node; program = program }

    abbrev asks : List Ask
    asks = asks_in node past

    abbrev told : Story
    told = tells oracle (is_empty program) told_at_first (pointed here budget)

    abbrev played : ℕ → Story
    played more = plays oracle (is_empty program) at_first (code_points code layout plan emitted.carries.pieces emitted.carries.between node budget more)

    abbrev It : ℕ → Type 0
    It more = Story_ layout code plan emitted.carries.pieces emitted.carries.between node budget many more past end (is_empty program)

    story : (more : ℕ) → many ≤ more → It more
    story more le = story_of layout code plan emitted.carries.pieces emitted.carries.between node budget many more past end (is_empty program) le is_run.legal over

    reads : (n : ℕ) (place : Place) (track : Track) → access_at node n past ≡ Some (access.Read place track) → fits layout place (oracle.value n) ≡ true
    reads n place track at_ =
        reads_fit layout (all_objects layout program) (fits_names layout program) layout.nodes past is_run.legal.wired placed node n place track at_ (is_run.complete.all_occurred node below)

    own_fit : FitRequests layout oracle 0 (own_requests node past)
    own_fit =
        subst (FitRequests layout oracle 0) (own_are node past)
        (asks_fit layout oracle asks at_first (asks_fit_in layout machine refl node past is_run.legal.wired reads past [] refl is_run.legal.wired))

    told_fit : (more : ℕ) → many ≤ more → IsFront told.events (played more).events → FitRequests layout oracle 0 (filter_map request_shown told.events)
    told_fit more le front =
        let it = story more le in
        let all : filter_map request_shown (played more).events ≡ own_requests node past = ap (λ (r : RunOf Request End). r.events) it.shows in
        front_fits layout oracle 0 (filter_map request_shown told.events) (filter_map request_shown front.0)
        (subst (FitRequests layout oracle 0) (sym all ∙ ap (filter_map request_shown) front.1 ∙ shown_append told.events front.0) own_fit)

    -- the source's story has an end
    long : told.end ≢ Short
    long =
        let reach = emitted.reaches node budget below oracle in
        let more : ℕ = reach.0 + many in
        let front = (reach.1 more (omega arith)).0 in
        tells_end layout oracle (is_empty program) (all_objects layout program) (fits_names layout program) (pointed here budget) [] told_at_first
        (promised layout program node budget source_ below) refl (told_fit more (omega arith) front)

    abbrev made_ : RunOf Request End
    made_ = record { events = own_requests node past; text = (run_so_far machine node past).text; end = Ends end }

    told_shows : without_points told ≡ made_
    told_shows =
        let w = (emitted.does node budget below).whole oracle long in
        let more : ℕ = w.0 + many in
        ap without_points (sym (w.1 more (omega arith))) ∙ (story more (omega arith)).shows

    paired : IsPaired asks
    paired =
        let it = story many (omega arith) in
        let points = code_points code layout plan emitted.carries.pieces emitted.carries.between node budget many in
        subst IsPaired it.asks
        (paired_run points (answers machine node past) (pairs_from code layout plan emitted.carries.pieces emitted.carries.between node many 0 (begin code budget)) (end, it.ends))

    answers_are : answers_told oracle told_at_first (pointed here budget) ≡ answers_in (effects (start layout) past) node past
    answers_are =
        told_answers oracle (is_empty program) (pointed here budget) 0 told_at_first (pointed_good here budget) long
        ∙ ap (by_requests oracle told_at_first) (ap (λ (r : RunOf Request End). r.events) told_shows ∙ sym (own_are node past))
        ∙ paired_same oracle asks told_at_first at_first paired (record { accesses = refl; barriers = refl; gets = refl })
        ∙ sym (source_shown machine node past is_run.legal.wired past [] refl is_run.legal.wired)

    run_is : source_shows (run_of (meaning here budget) (answers_in (effects (start layout) past) node past)) ≡ made_
    run_is =
        ap (λ given. source_shows (run_of (meaning here budget) given)) (sym answers_are)
        ∙ sym (tells_are_runs here budget (is_empty program) oracle) ∙ told_shows

    node_made : NodeMade (processes_of layout program budget) machine past node
    node_made = record {
      no_stored_read = λ number place e. not_stored asks place paired (access_asked node past number (access.Read place Store) e);
      requests = sym (ap (λ (r : RunOf Request End). r.events) run_is);
      text = sym (ap (λ (r : RunOf Request End). r.text) run_is);
      end = λ other e.
          let same : end ≡ other = cc in
          ends_as (run_in (processes_of layout program budget) node past).end other (ap (λ (r : RunOf Request End). r.end) run_is ∙ ap (λ x. Ends x) same);
    }

pub code_makes_requests : CodeMakesRequests
code_makes_requests layout program plan code budget many journal source_ emitted is_run = record {
  nodes = refl;
  start = refl;
  each = λ node below.
      let fin = some_is (finished node (reverse journal)) (is_run.complete.all_finished node below) in
      node_made layout program plan code budget many journal source_ emitted is_run node below fin.0 fin.1;
}
