-- The test whether a legal history is complete is exact.
use Rattle.std.proofs.Common.{◌≡◌, ℕ, ◌+◌, ◌<◌, List, Option, Some, None, Bool, true, false, not, ◌==◌, ◌&&◌, ◌||◌, refl}
use Rattle.std.specs.Prelude.{IsSome}
use Rattle.std.specs.Bool.{Decides}
use Rattle.std.proofs.lemmas.Bool.Decides.{Decides-ltb, Decides-eqb, Decides-and, Decides-like}
use Rattle.sc_base.specs.declared.value.End.{End}
use Rattle.sc_base.specs.declared.value.End.TheVariants.{Ended, Fault, Cut, Waiting}
use Rattle.sc_meaning.specs.declared.event.SourceEvent.{SourceEvent}
use Rattle.sc_meaning.specs.Below.{any_below}
use Rattle.sc_meaning.specs.Parts.{is_issued}
use Rattle.sc_meaning.specs.Past.{Processes, releases, arrivals, ended}
use Rattle.sc_meaning.specs.History.{AllDone}
use Rattle.sc_meaning.specs.Whole.{IsForsaken, Complete}
use Rattle.sc_meaning.specs.CompleteTest.{is_waiting, forsakes, is_forsaken, complete, CompleteTestIsExact}
use Rattle.meaning_laws.proofs.Decided.{some_is, below_decides, any_decides}
use Rattle.meaning_laws.proofs.Requests.{done_decides}

-- ---- ends

waits_decides : (o : Option End) → Decides (is_waiting o) (o ≡ Some Waiting)
waits_decides None = (λ e. absurd cc, λ h. absurd cc)
waits_decides (Some Ended) = (λ e. absurd cc, λ h. absurd cc)
waits_decides (Some (Fault kind line)) = (λ e. absurd cc, λ h. absurd cc)
waits_decides (Some Cut) = (λ e. absurd cc, λ h. absurd cc)
waits_decides (Some Waiting) = (λ e. refl, λ h. refl)

not_decides : (b : Bool) (P : Type 0) → Decides b P → Decides (not b) (P → ⊥)
not_decides true P d = (λ e. absurd cc, λ h. absurd (h (d.0 refl)))
not_decides false P d = (λ e p. let f = d.1 p in cc, λ h. refl)

-- either it is not so, or the test passes
unless_decides : (a b : Bool) (P Q : Type 0) → Decides a P → Decides b Q → Decides (not a || b) (P → Q)
unless_decides true b P Q d k = (λ e p. k.0 e, λ h. k.1 (h (d.0 refl)))
unless_decides false b P Q d k = (λ e p. let f = d.1 p in absurd cc, λ h. refl)

module _ (processes : Processes) (past : List SourceEvent) (node : ℕ) where
  abbrev pub Forsakes : ℕ → Type 0
  Forsakes other =
      IsSome (ended other past) × ((ended other past ≡ Some Waiting → ⊥) × (arrivals other past < arrivals node past))

  forsakes_decides : (other : ℕ) → Decides (forsakes past node other) (Forsakes other)
  forsakes_decides other =
      Decides-and _ _ (some_is (ended other past))
      (Decides-and _ _ (not_decides (is_waiting (ended other past)) _ (waits_decides (ended other past)))
      (Decides-ltb (arrivals other past) (arrivals node past)))

  abbrev pub Stranded : Type 0
  Stranded = (arrivals node past ≡ releases past + 1) × ((other : ℕ) × (other < processes.nodes) × Forsakes other)

  pub stranded_decides :
      Decides ((arrivals node past == releases past + 1) && any_below processes.nodes (forsakes past node)) Stranded
  stranded_decides =
      Decides-and _ _ (Decides-eqb (arrivals node past) (releases past + 1))
      (any_decides (forsakes past node) Forsakes forsakes_decides processes.nodes)

  pub forsaken_decides : Decides (is_forsaken processes past node) (ended node past ≡ Some Waiting → IsForsaken processes past node)
  forsaken_decides =
      Decides-like (is_forsaken processes past node)
      (λ h w. let f = h w in record {
        at_barrier = f.0;
        other = f.1.0;
        other_within = f.1.1;
        gone = f.1.2.0;
        not_waiting = f.1.2.1.0;
        fewer = f.1.2.1.1;
      })
      (λ h w. let f = h w in (f.at_barrier, (f.other, f.other_within, (f.gone, (f.not_waiting, f.fewer)))))
      (unless_decides (is_waiting (ended node past)) _ _ Stranded (waits_decides (ended node past)) stranded_decides)

pub complete_decides : (processes : Processes) (past : List SourceEvent) → Decides (complete processes past) (Complete processes past)
complete_decides processes past =
    Decides-like (complete processes past)
    (λ h. record {
      all_ended = λ node lt. (h node lt).0;
      all_done = λ node lt. (h node lt).1.0;
      forsaken = λ node lt. (h node lt).1.1;
    })
    (λ h node lt. (h.all_ended node lt, (h.all_done node lt, h.forsaken node lt)))
    (below_decides _
    (λ node. IsSome (ended node past) × (AllDone processes is_issued node past
    × (ended node past ≡ Some Waiting → IsForsaken processes past node)))
    (λ node. Decides-and _ _ (some_is (ended node past))
    (Decides-and _ _ (done_decides processes past is_issued node) (forsaken_decides processes past node)))
    processes.nodes)

pub complete_test_is_exact : CompleteTestIsExact
complete_test_is_exact processes past = complete_decides processes past
