-- With more instructions the moves of a run of sound code are the same, and so are its simulated journals.
use Rattle.std.proofs.Common.{◌≡◌, ℕ, zero, suc, ◌+◌, ◌<◌, ◌≤◌, ◌==◌, List, [], ◌∷◌, ◌++◌, length, map, reverse, Option, Some, None, if◌then◌else◌, slice_get, refl, sym, ap, ◌∙◌, subst, arith, le_refl}
use Rattle.std.specs.Prelude.{◌%◌}
use Rattle.resumption.specs.Resumption.{RunEnd, Ends, Short, RunOf}
use Rattle.sc_base.specs.declared.value.End.TheVariants as kind
use Rattle.sc_layout.specs.Layout.{Arrangement}
use Rattle.sc_layout.specs.Start.{start}
use Rattle.sc_isa.specs.declared.code.Code.{Code}
use Rattle.sc_isa.specs.declared.journal.Entry.{Entry}
use Rattle.sc_isa.specs.declared.journal.Entry.TheVariants.{Issued, Delivered, Waited, Arrived, Passed, Finished}
use Rattle.sc_isa.specs.Run.{Ask, Issue, Wait, Arrive, Pass, Answer, Landed, Passed as PassedIt, Broken, Halt, Finish, Stuck, UsedUp, code_run}
use Rattle.fabric.specs.Effects.{landed, effects}
use Rattle.fabric.specs.Flight.{in_flight}
use Rattle.fabric.specs.WiredTest.{is_pass}
use Rattle.fabric.specs.Asked.{Machine, answers, asked}
use Rattle.run_moves.specs.Moves.{where_wired, ends_waiting, step_over, step_or_over, step_of, steps_below, delivery, moves}
use Rattle.run_moves.specs.Simulated.{IsPicked, IsSimulation}
use Rattle.run_moves.specs.OfCode.{machine_of}
use Rattle.run_laws.specs.Laws.{SimulationsSettle}
use Rattle.run_laws.proofs.Known.{enough_for, same_run}

-- two numbers of instructions by which each node runs the same
module _ (layout : Arrangement) (code : Code) (budget few many : ℕ)
    (same : (node : ℕ) → node < layout.nodes → (given : List Answer) → code_run code layout node budget few given ≡ code_run code layout node budget many given) where
  abbrev one : Machine
  one = machine_of layout code budget few

  abbrev other : Machine
  other = machine_of layout code budget many

  answers_same : (node : ℕ) (past : List Entry) → answers one node past ≡ answers other node past
  answers_same node [] = refl
  answers_same node (Issued q number access ∷ past) = answers_same node past
  answers_same node (Delivered q number cell value ∷ past) = answers_same node past
  answers_same node (Waited q c ∷ past) = ap (λ (l : List Answer). if q == node then l ++ Landed (landed (start layout) node c past) ∷ [] else l) (answers_same node past)
  answers_same node (Arrived q stores ∷ past) = answers_same node past
  answers_same node (Passed q ∷ past) = ap (λ (l : List Answer). if q == node then l ++ PassedIt ∷ [] else l) (answers_same node past)
  answers_same node (Finished q kind.Waiting ∷ past) = ap (λ (l : List Answer). if q == node then l ++ Broken ∷ [] else l) (answers_same node past)
  answers_same node (Finished q kind.Ended ∷ past) = answers_same node past
  answers_same node (Finished q (kind.Fault k line) ∷ past) = answers_same node past
  answers_same node (Finished q kind.Cut ∷ past) = answers_same node past

  over_same : (past : List Entry) (node : ℕ) (e : RunEnd Halt)
      → step_over one past node e ≡ step_over other past node e
  over_same past node (Ends (Finish kind.Waiting)) = refl
  over_same past node (Ends (Finish kind.Ended)) = refl
  over_same past node (Ends (Finish (kind.Fault k line))) = refl
  over_same past node (Ends (Finish kind.Cut)) = refl
  over_same past node (Ends Stuck) = refl
  over_same past node (Ends UsedUp) = refl
  over_same past node Short = refl

  step_same : (past : List Entry) (node : ℕ) → node < layout.nodes → step_of one past node ≡ step_of other past node
  step_same past node below =
      ap (λ (r : RunOf Ask Halt). step_or_over one past node (slice_get r.events (asked node past))) now
      ∙ by (slice_get (code_run code layout node budget many (answers other node past)).events (asked node past))
    where
      now : code_run code layout node budget few (answers one node past) ≡ code_run code layout node budget many (answers other node past)
      now = same node below (answers one node past) ∙ ap (code_run code layout node budget many) (answers_same node past)

      broken : code_run code layout node budget few (answers one node past ++ Broken ∷ []) ≡ code_run code layout node budget many (answers other node past ++ Broken ∷ [])
      broken = same node below (answers one node past ++ Broken ∷ []) ∙ ap (λ l. code_run code layout node budget many (l ++ Broken ∷ [])) (answers_same node past)

      by : (o : Option Ask) → step_or_over one past node o ≡ step_or_over other past node o
      by (Some (Issue access)) = refl
      by (Some (Wait counter)) = refl
      by (Some (Arrive stores)) = refl
      by (Some Pass) =
          ap (λ (r : RunOf Ask Halt). if is_pass (start layout) layout.nodes past node then Passed node ∷ []
          else if ends_waiting r.end then where_wired one past (Finished node kind.Waiting) else []) broken
      by None =
          ap (λ (r : RunOf Ask Halt). if length r.events == asked node past then step_over one past node r.end else []) now
          ∙ ap (λ (l : List Entry). if length (code_run code layout node budget many (answers other node past)).events == asked node past then l else [])
          (over_same past node (code_run code layout node budget many (answers other node past)).end)

  steps_same : (past : List Entry) (nodes : ℕ) → nodes ≤ layout.nodes
      → steps_below one past nodes ≡ steps_below other past nodes
  steps_same past zero le = refl
  steps_same past (suc node) le =
      ap (λ l. l ++ step_of one past node) (steps_same past node (omega (arith, le)))
      ∙ ap (λ l. steps_below other past node ++ l) (step_same past node (omega (arith, le)))

  moves_same : (past : List Entry) → moves one past ≡ moves other past
  moves_same past =
      ap (λ l. l ++ map (delivery (start layout) (effects (start layout) past)) (in_flight (start layout) past)) (steps_same past layout.nodes (le_refl layout.nodes))

  picked_same : (picks : ℕ → ℕ) (past : List Entry) → IsPicked one picks past → IsPicked other picks past
  picked_same picks [] p = tt
  picked_same picks (entry ∷ past) p =
      (subst (λ (l : List Entry). slice_get l (picks (length past) % length l) ≡ Some entry) (moves_same past) p.0, picked_same picks past p.1)

  pub simulation_same : (picks : ℕ → ℕ) (journal : List Entry) → IsSimulation one picks journal
      → IsSimulation other picks journal
  simulation_same picks journal s =
      record { picked = picked_same picks (reverse journal) s.picked; is_over = sym (moves_same (reverse journal)) ∙ s.is_over }

pub simulations_settle : SimulationsSettle
simulations_settle layout code budget sound =
    let enough : ℕ = (enough_for layout code sound budget).number in (
      enough,
      λ many le picks journal. (
        λ s. (
          many,
          λ more lt. simulation_same layout code budget many more (λ node below given.
              same_run layout code sound budget node below many le given ∙ sym (same_run layout code sound budget node below more (omega (arith, le, lt)) given)) picks journal s,
        ),
        λ s. simulation_same layout code budget (s.0 + many) many (λ node below given.
            same_run layout code sound budget node below (s.0 + many) (omega (arith, le)) given ∙ sym (same_run layout code sound budget node below many le given))
            picks journal (s.1 (s.0 + many) (omega arith)),
      ),
    )
