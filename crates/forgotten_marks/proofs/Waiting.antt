-- A source's node waits for an answer exactly after the requests that are answered.
use Rattle.std.proofs.Common.{◌≡◌, ℕ, Bool, true, false, refl}
use Rattle.resumption.specs.Resumption.{Asks, Makes, Says, Stops}
use Rattle.sc_meaning.specs.declared.request.Request.{Request}
use Rattle.sc_meaning.specs.declared.request.Request.TheVariants as request
use Rattle.sc_meaning.specs.Answering.{is_answered, WaitsForAnswers}
use Rattle.sc_meaning.specs.Asking.{PointedDoing, Requested, Came, Answer, without_points}
use Rattle.sc_meaning.specs.Meaning.{Setting, pointed, meaning}
use Rattle.forgotten_marks.proofs.Well.{Well, Answers, IsMade, gets_after, pointed_good}

asked : (n : ℕ) (r : Request) (fits : Answer → Bool) → Answers n r fits → is_answered r ≡ true
asked n (request.Read place line) fits a = refl
asked n (request.Sync line) fits a = refl
asked n (request.Barrier line) fits a = refl
asked n (request.AllStoreSync line) fits a = refl
asked n (request.Write place v line) fits a = absurd a
asked n (request.Get place line) fits a = absurd a
asked n (request.Put place v line) fits a = absurd a
asked n (request.Store place v line) fits a = absurd a
asked n (request.Copy from to cells mode line) fits a = absurd a

made : (r : Request) → IsMade r → is_answered r ≡ false
made (request.Write place v line) m = refl
made (request.Get place line) m = refl
made (request.Put place v line) m = refl
made (request.Store place v line) m = refl
made (request.Copy from to cells mode line) m = refl
made (request.Read place line) m = absurd m
made (request.Sync line) m = absurd m
made (request.Barrier line) m = absurd m
made (request.AllStoreSync line) m = absurd m

waits : (d : PointedDoing) (n : ℕ) → Well n d → WaitsForAnswers (without_points (request.Sync 0) d)
unfolding Well WaitsForAnswers
waits (Asks (Requested r) fits go) n w = (asked n r fits w.0, λ answer. waits (go answer) (gets_after n r) (w.1 answer))
waits (Asks (Came point) fits go) n w = absurd w
waits (Makes (Requested r) rest) n w = (made r w.0, waits rest (gets_after n r) w.1)
waits (Makes (Came point) rest) n w = waits rest n w
waits (Says text rest) n w = waits rest n w
waits (Stops halt) n w = tt

pub source_waits : (here : Setting) (budget : ℕ) → WaitsForAnswers (meaning here budget)
source_waits here budget = waits (pointed here budget) 0 (pointed_good here budget)
