-- What a compiler and a run supply gives all that the order of the run's items rests on.
use Rattle.std.proofs.Common.{◌≡◌, ⊎_elim, true}
use Rattle.std.proofs.lemmas.Bool.{cases_Bool, both_ways}
use Rattle.effect_order.specs.Order.{Acyclic}
use Rattle.effect_order.specs.Run.{Run, story}
use Rattle.effect_order.specs.RunFacts.{Timed, Analysed, Kept, RunFacts}
use Rattle.effect_order.specs.Plan.{Code, CodeFacts, Placed}
use Rattle.effect_order.proofs.Runs.{acyclic_run}
use Rattle.effect_order.proofs.Waits as Waits

module _ {E S : Type 0} (r : Run E S) (c : Code r) (q : Timed r) (k : CodeFacts r c) where
  effect_step : (e : E) → r.Member e → r.is_effect e ≡ true → Placed r c e
  effect_step e m h = (m, ⊎_elim (λ b. absurd (both_ways _ (q.release_quiet e m b) h)) (λ b. b) (cases_Bool (r.is_release e)), k.walked.effect_placed e m h)

  pub kept : Kept r
  kept = record {
    in_its_level = λ e me b h. Waits.in_its_level r c q k e (effect_step e me b) b h;
    waited = λ e f me mf a b n t v d. Waits.waited r c q k e f (effect_step e me a) (effect_step f mf b) a d.0 b n t v d;
    leads = λ e s me ms a h n t. Waits.leads r c q k e s (effect_step e me a) (ms, h.1, k.walked.sync_placed s ms h) n t;
    clear = λ e f me mf b h n t v. Waits.clear r c q k e f (⊎_elim (λ a. effect_step e me a) (λ a. (me, a.1, k.walked.sync_placed e me a)) h) (effect_step f mf b) b n t v;
  }

  pub run_facts : Analysed r → RunFacts r
  run_facts a = record { timed = q; analysed = a; kept = kept }

  pub acyclic_code : Analysed r → Acyclic (story r)
  acyclic_code a = acyclic_run r (run_facts a)
