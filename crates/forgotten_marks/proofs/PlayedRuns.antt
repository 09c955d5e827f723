-- What code plays under an oracle is its run by the oracle's answers.
use Rattle.std.proofs.Common.{◌≡◌, ℕ, zero, suc, ◌==◌, List, [], ◌∷◌, ◌++◌, Option, Some, None, Bool, true, false, if◌then◌else◌, refl, sym, ap, ◌∙◌}
use Rattle.std.specs.List.{filter_map, cons_option}
use Rattle.resumption.specs.Resumption.{Asks, RunOf, Short, run_of, unanswered, after_event, after_text}
use Rattle.sc_layout.specs.Layout.{Arrangement}
use Rattle.sc_isa.specs.declared.code.Code.{Code}
use Rattle.sc_isa.specs.State.{State}
use Rattle.sc_isa.specs.Moves.{After, GoesOn, Ends, Sticks, Move, Comes, Issues, Waits, Meets, Says}
use Rattle.sc_isa.specs.Run.{Ask, Wait, Pass, Answer, Halt, Passed, Broken, fits_wait, fits_pass, landed_by}
use Rattle.sc_isa.specs.Begin.{begin}
use Rattle.sc_isa.specs.Table.{step_of}
use Rattle.sc_meaning.specs.declared.request.Request.TheVariants.{Sync}
use Rattle.sc_meaning.specs.OfAccess.{request_in}
use Rattle.sc_meaning.specs.History.{barrier_of}
use Rattle.site_graph.specs.declared.plan.Plan.{Plan}
use Rattle.node_emit.specs.Spelled.{Piece}
use Rattle.node_emit.specs.Stands.{stands_at}
use Rattle.node_emit.specs.Pointed.{PointedAsking, Asked, comes_to, passed_by, asked_by, come_all, entered_at, marked, points_from, code_points}
use Rattle.node_emit.specs.Oracles.{Oracle, Story, Progress, nothing_more, at_first, issued, waited, landing, after_wait, plays, requests}
use Rattle.forgotten_marks.specs.Played.{answers_played, without_points, request_asked, code_end, code_shows}
use Rattle.forgotten_marks.specs.Laws.{PlaysAreRuns}
use Rattle.forgotten_marks.proofs.Marks.{forgotten, marks_are_forgotten}
use Rattle.forgotten_marks.proofs.ToldRuns.{point_hidden}

module _ (empty : ℕ → Bool) (oracle : Oracle) where
  -- what is played is what the run shows
  abbrev pub Same : Progress → PointedAsking → Type 0
  Same p d = without_points (plays oracle empty p d) ≡ code_shows (run_of (forgotten d) (answers_played oracle p d))

  come_same : (ts : List ℕ) (p : Progress) (rest : PointedAsking) → Same p rest → Same p (come_all ts rest)
  come_same [] p rest h = h
  come_same (t ∷ ts) p rest h = point_hidden empty t (plays oracle empty p (come_all ts rest)) ∙ come_same ts p rest h

  marked_same : (between : ℕ → ℕ → List ℕ) (now : ℕ) (o : Option ℕ) (go : ℕ → PointedAsking) (p : Progress) → ((t : ℕ) → Same p (go t)) → Same p (marked between now o go)
  marked_same between now None go p h = h now
  marked_same between now (Some t) go p h = come_same (between now t ++ t ∷ []) p (go t) (h t)

  waiting_same : (z : Bool) (story : Story) (run : RunOf Ask Halt) → without_points story ≡ code_shows run
      → without_points (if z then after_event (requests (Sync 0)) story else story)
      ≡ record { events = cons_option (if z then Some (Sync 0) else None) (filter_map request_asked run.events); text = run.text; end = code_end run.end }
  waiting_same true story run h = ap (after_event (Sync 0)) h
  waiting_same false story run h = h

  module _ (layout : Arrangement) (go : State → PointedAsking) (same : (s : State) (p : Progress) → Same p (go s)) where
    after_same : (after : After) (p : Progress) → Same p (comes_to go after)
    after_same (GoesOn s) p = same s p
    after_same (Ends end) p = refl
    after_same Sticks p = refl

    wait_same : (b : Bool) (counter : ℕ) (s : State) (a : Answer) (p : Progress) → fits_wait layout counter s a ≡ b → Same p (go (landed_by counter s a))
        → without_points (after_wait counter (if b then plays oracle empty p (go (landed_by counter s a)) else nothing_more))
        ≡ code_shows (run_of (forgotten (asked_by layout go (Waits counter s))) (if b then a ∷ answers_played oracle p (go (landed_by counter s a)) else []))
    wait_same true counter s a p e h =
        waiting_same (counter == 0) (plays oracle empty p (go (landed_by counter s a)))
        (run_of (forgotten (go (landed_by counter s a))) (answers_played oracle p (go (landed_by counter s a)))) h
        ∙ ap (λ b. code_shows (if b then after_event (Wait counter) (run_of (forgotten (go (landed_by counter s a))) (answers_played oracle p (go (landed_by counter s a)))) else unanswered (Wait counter))) (sym e)
    wait_same false counter s a p e h = waiting_same (counter == 0) nothing_more (record { events = []; text = []; end = Short }) refl

    passes_same : (b : Bool) (s : State) (p : Progress)
        → without_points (if fits_pass (if b then Passed else Broken) then plays oracle empty p (passed_by (if b then Passed else Broken) (go s)) else nothing_more)
        ≡ code_shows (run_of (forgotten (Asks (Asked Pass) fits_pass (λ answer. passed_by answer (go s))))
        (if fits_pass (if b then Passed else Broken) then (if b then Passed else Broken) ∷ answers_played oracle p (passed_by (if b then Passed else Broken) (go s)) else []))
    passes_same true s p = same s p
    passes_same false s p = refl

    pub move_same : (move : Move) (p : Progress) → Same p (asked_by layout go move)
    move_same (Comes after) p = after_same after p
    move_same (Issues access after) p = ap (after_event (request_in access)) (after_same after (issued access p))
    move_same (Waits counter s) p =
        wait_same (fits_wait layout counter s (landing oracle counter p)) counter s (landing oracle counter p) (waited counter p) refl
        (same (landed_by counter s (landing oracle counter p)) (waited counter p))
    move_same (Meets stores s) p = ap (after_event (barrier_of stores 0)) (passes_same (oracle.passes p.barriers) s (record p { barriers = suc p.barriers }))
    move_same (Says text s) p = ap (after_text text) (same s p)

  pub from_same : (code : Code) (layout : Arrangement) (plan : Plan) (pieces : List Piece) (between : ℕ → ℕ → List ℕ) (node many now : ℕ) (s : State) (p : Progress)
      → Same p (points_from code layout plan pieces between node many now s)
  from_same code layout plan pieces between node zero now s p = refl
  from_same code layout plan pieces between node (suc many) now s p =
      marked_same between now (entered_at (stands_at plan pieces s.frame.at))
      (λ t. asked_by layout (points_from code layout plan pieces between node many t) (step_of code layout node s)) p
      (λ t. move_same layout (points_from code layout plan pieces between node many t) (λ s p. from_same code layout plan pieces between node many t s p)
      (step_of code layout node s) p)

pub plays_are_runs : PlaysAreRuns
plays_are_runs code layout plan pieces between node budget many empty oracle =
    from_same empty oracle code layout plan pieces between node many 0 (begin code budget) at_first
    ∙ ap code_shows (marks_are_forgotten code layout plan pieces between node budget many
    (answers_played oracle at_first (code_points code layout plan pieces between node budget many)))
