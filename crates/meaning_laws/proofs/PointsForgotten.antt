-- Forgetting the points leaves the requests.
use Rattle.std.proofs.Common.{◌≡◌, ℕ, zero, suc, ◌<◌, Some, refl, arith}
use Rattle.resumption.specs.Resumption.{Stops}
use Rattle.resumption.specs.Forgetting.{AllAsked}
use Rattle.resumption.proofs.Forgotten.{forgets}
use Rattle.sc_base.specs.declared.value.End.TheVariants.{Fault}
use Rattle.sc_base.specs.declared.value.FaultKind.TheVariants.{Depth}
use Rattle.sc_core.specs.Core.{Program}
use Rattle.sc_meaning.specs.declared.request.Request.TheVariants.{Sync}
use Rattle.sc_meaning.specs.Asking.{PointedDoing, Finishes, request_in, request_or}
use Rattle.sc_meaning.specs.Steps.{counted}
use Rattle.sc_meaning.specs.Meaning.{pointed}
use Rattle.meaning_laws.specs.Points.{PointsAreForgotten}
use Rattle.meaning_laws.proofs.Closure.{Keeps, pointed_holds}

abbrev HasRequests : ℕ → ℕ → PointedDoing → Type 0
HasRequests n left doing = AllAsked (λ event. request_in event ≡ Some (request_or (Sync 0) event)) doing

counted_has : (n left : ℕ) (go : ℕ → PointedDoing) → ((l : ℕ) → l < left → HasRequests n l (go l)) → HasRequests n left (counted left go)
unfolding AllAsked
counted_has n zero go h = tt
counted_has n (suc left) go h = h left (omega arith)

keeps_requests : (program : Program) → Keeps program HasRequests
unfolding AllAsked
keeps_requests program = record {
  asks = λ n left request fits go h. (refl, h);
  requests = λ n left request doing h. h;
  says = λ n left text doing h. h;
  stops = λ n left halt few mild. tt;
  passes = λ n left point doing e h. h;
  begins = λ n left point doing e h. h;
  returns = λ n left point doing few e h. h;
  turns = λ n left point go few e h. counted_has n left go h;
  calls_more = λ n left point go few e h. counted_has n left go h;
  calls_none = λ left point line e. counted_has 0 left (λ l. Stops (Finishes (Fault Depth line))) (λ l lt. tt);
}

pub points_are_forgotten : PointsAreForgotten
points_are_forgotten here budget answers =
    forgets (request_or (Sync 0)) request_in (pointed here budget) answers
    (pointed_holds here HasRequests (keeps_requests here.program) budget)
