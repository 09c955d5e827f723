-- A run of code that waits directly after each access: a blocking access is over before its node's next own step
-- begins. After Shasha and Snir (1988), where no two accesses of a node overlap.
use Rattle.std.specs.Prelude.{◌≡◌, ◌<◌, ◌≤◌, Bool, true, false}
use Rattle.effect_order.specs.Order.{Edge}
use Rattle.effect_order.specs.Run.{Run, IsBlocking, Step, story}

-- Of such a run. An end, as of a node that faults, need not wait for what its node has begun: nothing comes after it.
pub record WaitsDirectly {E S : Type 0} (r : Run E S) (is_end : E → Bool) : Type 0 where
  -- a blocking effect is over before the later own steps of its node begin, but for an end
  pub over : (e f : E) → r.Member e → Step r f → IsBlocking r e → r.node e ≡ r.node f →
      r.step e < r.step f →
      is_end f ≡ false → r.time e < r.issue f
  -- an end is no effect
  pub end_quiet : (e : E) → r.Member e → is_end e ≡ true → r.is_effect e ≡ false
  -- an end is no release
  pub end_step : (e : E) → r.Member e → is_end e ≡ true → r.is_release e ≡ false
  -- an end is the last own step of its node
  pub end_last : (e f : E) → Step r e → Step r f → is_end e ≡ true → r.node e ≡ r.node f →
      r.step e ≤ r.step f → e ≡ f
  -- no release happens after an end
  pub no_release : (e m : E) → r.Member e → r.Member m → is_end e ≡ true → r.is_release m ≡ true →
      r.time e < r.time m → ⊥

-- what must come before an item that is no end was sooner in the run
abbrev pub GoesForward : {E S : Type 0} → Run E S → (E → Bool) → Type 0
GoesForward {E} r is_end =
    (e f : E) → r.Member e → r.Member f → is_end f ≡ false → Edge (story r) e f → r.time e < r.time f
