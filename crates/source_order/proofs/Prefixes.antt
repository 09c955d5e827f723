-- A run under the first answers has the first requests of the run under all of them.
use Rattle.std.proofs.Common.{◌≡◌, ℕ, zero, suc, ◌≤◌, List, [], ◌∷◌, ◌++◌, length, Bool, true, false, refl, ap, arith}
use Rattle.std.specs.Prelude.{if◌then◌else◌, slice_get}
use Rattle.resumption.specs.Resumption.{Asks, Makes, Says, Stops, RunOf, unanswered, after_event, after_text, run_of}
use Rattle.sc_meaning.specs.declared.request.Request.{Request}
use Rattle.sc_meaning.specs.Asking.{Answer, Halt, SourceDoing}
use Rattle.sc_meaning.specs.Answering.{is_answered, WaitsForAnswers}
use Rattle.source_order.proofs.Asked.{one_if, asks}

abbrev Run : Type 0
Run = RunOf Request Halt

-- the requests are the same up to that for which the answers do not suffice
pub same_request : (t : SourceDoing) → WaitsForAnswers t → (given rest : List Answer) (k : ℕ) → asks k (run_of t (given ++ rest)).events ≤ length given
    → slice_get (run_of t given).events k ≡ slice_get (run_of t (given ++ rest)).events k
unfolding WaitsForAnswers
same_request (Says text t) w given rest k le = same_request t w given rest k le
same_request (Stops halt) w given rest k le = refl
same_request (Makes request t) w given rest zero le = refl
same_request (Makes request t) w given rest (suc k) le =
    same_request t w.1 given rest k (let e = ap one_if w.0 in omega arith)
same_request (Asks request fits go) w [] [] k le = refl
same_request (Asks request fits go) w [] (a ∷ rest) k le = by (fits a) k le
  where
    one : one_if (is_answered request) ≡ 1
    one = ap one_if w.0

    by : (b : Bool) (k : ℕ) → asks k (if b then after_event request (run_of (go a) rest) else unanswered request).events ≤ 0
        → slice_get (request ∷ []) k ≡ slice_get (if b then after_event request (run_of (go a) rest) else unanswered request).events k
    by false k l = refl
    by true zero l = refl
    by true (suc k) l = let o = one in absurd (omega arith)
same_request (Asks request fits go) w (a ∷ given) rest k le = by (fits a) k le (λ j l. same_request (go a) (w.1 a) given rest j l)
  where
    one : one_if (is_answered request) ≡ 1
    one = ap one_if w.0

    by : (b : Bool) (k : ℕ) → asks k (if b then after_event request (run_of (go a) (given ++ rest)) else unanswered request).events ≤ suc (length given)
        → ((j : ℕ) → asks j (run_of (go a) (given ++ rest)).events ≤ length given → slice_get (run_of (go a) given).events j ≡ slice_get (run_of (go a) (given ++ rest)).events j)
        → slice_get (if b then after_event request (run_of (go a) given) else unanswered request).events k
        ≡ slice_get (if b then after_event request (run_of (go a) (given ++ rest)) else unanswered request).events k
    by true zero l f = refl
    by true (suc k) l f = f k (let o = one in omega arith)
    by false k l f = refl

-- where the first answers suffice for all requests of the run under all of them, the rest changes nothing
pub same_run : (t : SourceDoing) → WaitsForAnswers t → (given rest : List Answer)
    → asks (length (run_of t (given ++ rest)).events) (run_of t (given ++ rest)).events ≤ length given → run_of t (given ++ rest) ≡ run_of t given
unfolding WaitsForAnswers
same_run (Says text t) w given rest le = ap (after_text text) (same_run t w given rest le)
same_run (Stops halt) w given rest le = refl
same_run (Makes request t) w given rest le = ap (after_event request) (same_run t w.1 given rest (let e = ap one_if w.0 in omega arith))
same_run (Asks request fits go) w [] [] le = refl
same_run (Asks request fits go) w [] (a ∷ rest) le = by (fits a) le
  where
    one : one_if (is_answered request) ≡ 1
    one = ap one_if w.0

    full : Run
    full = run_of (go a) rest

    by : (b : Bool) → asks (length (if b then after_event request full else unanswered request).events) (if b then after_event request full else unanswered request).events ≤ 0
        → (if b then after_event request full else unanswered request) ≡ unanswered request
    by true i = let o = one in absurd (omega arith)
    by false i = refl
same_run (Asks request fits go) w (a ∷ given) rest le = by (fits a) le (λ l. same_run (go a) (w.1 a) given rest l)
  where
    one : one_if (is_answered request) ≡ 1
    one = ap one_if w.0

    by : (b : Bool) → asks (length (if b then after_event request (run_of (go a) (given ++ rest)) else unanswered request).events) (if b then after_event request (run_of (go a) (given ++ rest)) else unanswered request).events ≤ suc (length given)
        → (asks (length (run_of (go a) (given ++ rest)).events) (run_of (go a) (given ++ rest)).events ≤ length given → run_of (go a) (given ++ rest) ≡ run_of (go a) given)
        → (if b then after_event request (run_of (go a) (given ++ rest)) else unanswered request) ≡ (if b then after_event request (run_of (go a) given) else unanswered request)
    by true l f = ap (after_event request) (f (let o = one in omega arith))
    by false l f = refl
