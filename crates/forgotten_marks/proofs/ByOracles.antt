-- Each run of a source that ends is told by some oracle: one that holds the values that the run is shown.
use Rattle.std.proofs.Common.{◌≡◌, ◌⊎◌, inl, inr, ⊎_elim, ℕ, suc, ◌<◌, ◌≤◌, ◌==◌, List, [], ◌∷◌, ◌++◌, length, map, Bool, true, false, if◌then◌else◌, refl, sym, ap, ◌∙◌, subst, arith}
use Rattle.std.proofs.lemmas.Bool.Decides.{Decides-eqb}
use Rattle.std.proofs.lemmas.List.{length-append}
use Rattle.resumption.specs.Resumption.{Asks, Makes, Says, Stops, Ends, RunOf, run_of, unanswered, after_event}
use Rattle.sc_base.specs.declared.value.End.{End}
use Rattle.sc_base.specs.declared.value.Place.{Place}
use Rattle.sc_base.specs.declared.value.Value.{Value}
use Rattle.sc_base.specs.declared.value.Value.TheVariants.{Null}
use Rattle.sc_meaning.specs.OfAccess.{unlined}
use Rattle.sc_meaning.specs.declared.request.Request.{Request}
use Rattle.sc_meaning.specs.declared.request.Request.TheVariants as request
use Rattle.sc_meaning.specs.Asking as source
use Rattle.sc_meaning.specs.Asking.{PointedDoing, Requested, Came, Finishes, Answer, Shown, Landed, Passed, Broken, Halt, Breaks}
use Rattle.sc_meaning.specs.Meaning.{pointed}
use Rattle.node_emit.specs.Oracles.{Oracle, Shown as Shows, nothing_more, requests, Told, answer_by, told_after, told_at_first, tells, meeting}
use Rattle.node_emit.specs.Forgotten.{answers_told, RunsAreByOracles}
use Rattle.forgotten_marks.proofs.Well.{Well, Answers, IsMade, gets_after, pointed_good}

-- ---- numbers of gets: they rise, and are below the number of accesses

abbrev pub Rising : (low : ℕ) → List ℕ → (high : ℕ) → Type 0
Rising low [] high = low ≤ high
Rising low (x ∷ xs) high = (low ≤ x) × Rising (suc x) xs high

abbrev pub In : ℕ → List ℕ → Type 0
In y [] = ⊥
In y (x ∷ xs) = (y ≡ x) ⊎ In y xs

pub rising_up : (low : ℕ) (xs : List ℕ) (high : ℕ) → Rising low xs high → Rising low xs (suc high)
rising_up low [] high r = omega arith
rising_up low (x ∷ xs) high r = (r.0, rising_up (suc x) xs high r.1)

pub rising_on : (low : ℕ) (xs : List ℕ) (high : ℕ) → Rising low xs high → Rising low (xs ++ high ∷ []) (suc high)
rising_on low [] high r = (r, omega arith)
rising_on low (x ∷ xs) high r = (r.0, rising_on (suc x) xs high r.1)

pub rising_in : (low : ℕ) (xs : List ℕ) (high y : ℕ) → Rising low xs high → In y xs → (low ≤ y) × (y < high)
rising_in low [] high y r i = absurd i
rising_in low (x ∷ xs) high y r (inl e) = (omega (arith, e, r.0), omega (arith, e, below (suc x) xs r.1))
  where
    below : (l : ℕ) (xs : List ℕ) → Rising l xs high → l ≤ high
    below l [] r = r
    below l (z ∷ zs) r = let h = below (suc z) zs r.1 in omega (arith, h, r.0)
rising_in low (x ∷ xs) high y r (inr i) = let h = rising_in (suc x) xs high y r.1 i in (omega (arith, h.0, r.0), h.1)

in_front : (y : ℕ) (xs ys : List ℕ) → In y xs → In y (xs ++ ys)
in_front y [] ys i = absurd i
in_front y (x ∷ xs) ys (inl e) = inl e
in_front y (x ∷ xs) ys (inr i) = inr (in_front y xs ys i)

pub in_cases : (y : ℕ) (xs : List ℕ) (z : ℕ) → In y (xs ++ z ∷ []) → In y xs ⊎ (y ≡ z)
in_cases y [] z (inl e) = inr e
in_cases y [] z (inr i) = absurd i
in_cases y (x ∷ xs) z (inl e) = inl (inl e)
in_cases y (x ∷ xs) z (inr i) = ⊎_elim (λ h. inl (inr h)) (λ h. inr h) (in_cases y xs z i)

-- ---- values at these numbers

abbrev pub given_at : List ℕ → List Value → (ℕ → Value) → ℕ → Value
given_at (x ∷ xs) (v ∷ vs) f n = if n == x then v else given_at xs vs f n
given_at _ _ f n = f n

pub at_one : (n : ℕ) (v w : Value) → (if n == n then v else w) ≡ v
at_one n v w = ap (λ b. if b then v else w) ((Decides-eqb n n).1 refl)

pub at_other : (n x : ℕ) (v w : Value) → (n ≡ x → ⊥) → (if n == x then v else w) ≡ w
at_other n x v w e = go (n == x) (λ h. e ((Decides-eqb n x).0 h))
  where
    go : (b : Bool) → (b ≡ true → ⊥) → (if b then v else w) ≡ w
    go true h = absurd (h refl)
    go false h = refl

pub given_off : (xs : List ℕ) (vs : List Value) (f : ℕ → Value) (n : ℕ) → (In n xs → ⊥) → given_at xs vs f n ≡ f n
given_off [] vs f n i = refl
given_off (x ∷ xs) [] f n i = refl
given_off (x ∷ xs) (v ∷ vs) f n i =
    at_other n x v (given_at xs vs f n) (λ e. i (inl e)) ∙ given_off xs vs f n (λ h. i (inr h))

pub map_same : (xs : List ℕ) (f g : ℕ → Value) → ((n : ℕ) → In n xs → f n ≡ g n) → map f xs ≡ map g xs
map_same [] f g h = refl
map_same (x ∷ xs) f g h = ap (λ v. v ∷ map f xs) (h x (inl refl)) ∙ ap (λ l. g x ∷ l) (map_same xs f g (λ n i. h n (inr i)))

pub given_all : (low : ℕ) (xs : List ℕ) (vs : List Value) (high : ℕ) (f : ℕ → Value) → Rising low xs high → length vs ≡ length xs → map (given_at xs vs f) xs ≡ vs
given_all low [] [] high f r e = refl
given_all low [] (v ∷ vs) high f r e = absurd (omega (arith, e))
given_all low (x ∷ xs) [] high f r e = absurd (omega (arith, e))
given_all low (x ∷ xs) (v ∷ vs) high f r e =
    ap (λ w. w ∷ map (given_at (x ∷ xs) (v ∷ vs) f) xs) (at_one x v (given_at xs vs f x))
    ∙ ap (λ l. v ∷ l) (map_same xs (given_at (x ∷ xs) (v ∷ vs) f) (given_at xs vs f)
    (λ n i. at_other n x v (given_at xs vs f n) (λ e. let h = rising_in (suc x) xs high n r.1 i in omega (arith, h.0, e)))
    ∙ given_all (suc x) xs vs high f r.1 (omega (arith, e)))

-- ---- oracles that agree from here on

-- what the oracle may still be asked is the same
pub record From (t : Told) (one other : Oracle) : Type 0 where
  pub gets : (n : ℕ) → In n t.gets → other.value n ≡ one.value n
  pub later : (n : ℕ) → t.accesses ≤ n → other.value n ≡ one.value n
  pub passes : (n : ℕ) → t.barriers ≤ n → other.passes n ≡ one.passes n

abbrev pub source_run : PointedDoing → List Answer → RunOf Request Halt
source_run d given = run_of (source.without_points (request.Sync 0) d) given

abbrev pub shown_all : List Request → List Shows
shown_all rs = map (λ r. requests (unlined r)) rs

abbrev pub no_points : ℕ → Bool
no_points t = true

-- the oracle tells the run
pub record Tells (t : Told) (d : PointedDoing) (given more : List Answer) (other : Oracle) : Type 0 where
  pub answers : given ≡ answers_told other t d ++ more
  pub events : (tells other no_points t d).events ≡ shown_all (source_run d given).events

-- and so does each that agrees with it
pub record ByOracle (t : Told) (d : PointedDoing) (given : List Answer) : Type 0 where
  pub oracle : Oracle
  pub more : List Answer
  pub tells_it : (other : Oracle) → From t oracle other → Tells t d given more other

abbrev pub IsOver : RunOf Request Halt → Type 0
IsOver run = (end : End) × (run.end ≡ Ends (Finishes end))

short_over : (r : Request) → IsOver (unanswered r) → ⊥
short_over r h = let e = h.1 in cc

-- an answer that is the oracle's
asked : (t : Told) (r : Request) (fits : Answer → Bool) (go : Answer → PointedDoing) (a : Answer) (given more : List Answer) (other : Oracle) → fits a ≡ true
    → answer_by other t r ≡ a → Tells (told_after t r) (go a) given more other → Tells t (Asks (Requested r) fits go) (a ∷ given) more other
asked t r fits go a given more other fit e h = record {
  answers = subst (λ b. a ∷ given ≡ (if fits b then b ∷ answers_told other (told_after t r) (go b) else []) ++ more) (sym e)
      (subst (λ z. a ∷ given ≡ (if z then a ∷ answers_told other (told_after t r) (go a) else []) ++ more) (sym fit) (ap (λ l. a ∷ l) h.answers));
  events = subst (λ b. (after_event (requests (unlined r)) (if fits b then tells other no_points (told_after t r) (go b) else nothing_more)).events
      ≡ shown_all (if fits a then after_event r (source_run (go a) given) else unanswered r).events) (sym e)
      (subst (λ z. (after_event (requests (unlined r)) (if z then tells other no_points (told_after t r) (go a) else nothing_more)).events
      ≡ shown_all (if z then after_event r (source_run (go a) given) else unanswered r).events) (sym fit) (ap (λ l. requests (unlined r) ∷ l) h.events));
}

made : (t : Told) (r : Request) (rest : PointedDoing) (given more : List Answer) (other : Oracle)
    → Tells (told_after t r) rest given more other → Tells t (Makes (Requested r) rest) given more other
made t r rest given more other h = record { answers = h.answers; events = ap (λ l. requests (unlined r) ∷ l) h.events }

-- ---- each sort of request

module _ (t : Told) (rising : Rising 0 t.gets t.accesses) where
  not_next : (n : ℕ) → In n t.gets → n ≡ t.accesses → ⊥
  not_next n i e = let h = rising_in 0 t.gets t.accesses n rising i in omega (arith, h.1, e)

  by_read : (place : Place) (line : ℕ) (fits : Answer → Bool) (go : Answer → PointedDoing) (v : Value) (given : List Answer) → fits (Shown v) ≡ true
      → ByOracle (told_after t (request.Read place line)) (go (Shown v)) given → ByOracle t (Asks (Requested (request.Read place line)) fits go) (Shown v ∷ given)
  by_read place line fits go v given fit h =
      let r = request.Read place line in
      let o : Oracle = record { value = given_at (t.accesses ∷ []) (v ∷ []) h.oracle.value; passes = h.oracle.passes } in
      record {
        oracle = o;
        more = h.more;
        tells_it = λ other f. asked t r fits go (Shown v) given h.more other fit
            (ap (λ w. Shown w) (f.later t.accesses (omega arith) ∙ at_one t.accesses v (h.oracle.value t.accesses)))
            (h.tells_it other (record {
              gets = λ n i. f.gets n i ∙ at_other n t.accesses v (h.oracle.value n) (not_next n i);
              later = λ n le. f.later n (omega arith) ∙ at_other n t.accesses v (h.oracle.value n) (λ e. omega (arith, e, le));
              passes = f.passes;
            }));
      }

  by_sync : (line : ℕ) (fits : Answer → Bool) (go : Answer → PointedDoing) (vs : List Value) (given : List Answer) → fits (Landed vs) ≡ true → length vs ≡ length t.gets
      → ByOracle (told_after t (request.Sync line)) (go (Landed vs)) given → ByOracle t (Asks (Requested (request.Sync line)) fits go) (Landed vs ∷ given)
  by_sync line fits go vs given fit many h =
      let r = request.Sync line in
      let o : Oracle = record { value = given_at t.gets vs h.oracle.value; passes = h.oracle.passes } in
      record {
        oracle = o;
        more = h.more;
        tells_it = λ other f. asked t r fits go (Landed vs) given h.more other fit
            (ap (λ ws. Landed ws) (map_same t.gets other.value o.value f.gets ∙ given_all 0 t.gets vs t.accesses h.oracle.value rising many))
            (h.tells_it other (record {
              gets = λ n i. absurd i;
              later = λ n le. f.later n le ∙ given_off t.gets vs h.oracle.value n (λ i. let b = rising_in 0 t.gets t.accesses n rising i in omega (arith, b.1, le));
              passes = f.passes;
            }));
      }

pub same_bool : (k : ℕ) (b c : Bool) → (if k == k then b else c) ≡ b
same_bool k b c = ap (λ z. if z then b else c) ((Decides-eqb k k).1 refl)

pub other_bool : (k x : ℕ) (b c : Bool) → (k ≡ x → ⊥) → (if k == x then b else c) ≡ c
other_bool k x b c e = go (k == x) (λ h. e ((Decides-eqb k x).0 h))
  where
    go : (z : Bool) → (z ≡ true → ⊥) → (if z then b else c) ≡ c
    go true h = absurd (h refl)
    go false h = refl

by_barrier : (t : Told) (r : Request) (fits : Answer → Bool) (go : Answer → PointedDoing) (b : Bool) (given : List Answer)
    → fits (if b then Passed else Broken) ≡ true
    → ((o : Oracle) → answer_by o t r ≡ meeting o t) → told_after t r ≡ record t { barriers = suc t.barriers }
    → ByOracle (told_after t r) (go (if b then Passed else Broken)) given → ByOracle t (Asks (Requested r) fits go) ((if b then Passed else Broken) ∷ given)
by_barrier t r fits go b given fit meets after h =
    let o : Oracle = record { value = h.oracle.value; passes = λ k. if k == t.barriers then b else h.oracle.passes k } in
    record {
      oracle = o;
      more = h.more;
      tells_it = λ other f. asked t r fits go (if b then Passed else Broken) given h.more other fit
          (meets other ∙ ap (λ z. if z then Passed else Broken) (f.passes t.barriers (omega arith) ∙ same_bool t.barriers b (h.oracle.passes t.barriers)))
          (h.tells_it other (subst (λ u. From u h.oracle other) (sym after) (record {
            gets = λ n i. f.gets n i;
            later = λ n le. f.later n le;
            passes = λ k le. f.passes k (omega arith) ∙ other_bool k t.barriers b (h.oracle.passes k) (λ e. omega (arith, e, le));
          })));
    }

met_by : (t : Told) (r : Request) (fits : Answer → Bool) (go : Answer → PointedDoing) (a : Answer) (given : List Answer) → fits a ≡ true
    → (a ≡ Passed) ⊎ (a ≡ Broken) → ((o : Oracle) → answer_by o t r ≡ meeting o t) → told_after t r ≡ record t { barriers = suc t.barriers }
    → ByOracle (told_after t r) (go a) given → ByOracle t (Asks (Requested r) fits go) (a ∷ given)
met_by t r fits go a given fit (inl e) meets after h =
    subst (λ a. fits a ≡ true → ByOracle (told_after t r) (go a) given → ByOracle t (Asks (Requested r) fits go) (a ∷ given)) (sym e)
    (λ fit h. by_barrier t r fits go true given fit meets after h) fit h
met_by t r fits go a given fit (inr e) meets after h =
    subst (λ a. fits a ≡ true → ByOracle (told_after t r) (go a) given → ByOracle t (Asks (Requested r) fits go) (a ∷ given)) (sym e)
    (λ fit h. by_barrier t r fits go false given fit meets after h) fit h

by_get : (t : Told) (place : Place) (line : ℕ) (rest : PointedDoing) (given : List Answer)
    → ByOracle (told_after t (request.Get place line)) rest given → ByOracle t (Makes (Requested (request.Get place line)) rest) given
by_get t place line rest given h = record {
  oracle = h.oracle;
  more = h.more;
  tells_it = λ other f. made t (request.Get place line) rest given h.more other (h.tells_it other (record {
    gets = λ n i. ⊎_elim (λ j. f.gets n j) (λ e. f.later n (omega (arith, e))) (in_cases n t.gets t.accesses i);
    later = λ n le. f.later n (omega arith);
    passes = f.passes;
  }));
}

by_other : (t : Told) (r : Request) (rest : PointedDoing) (given : List Answer) → told_after t r ≡ record t { accesses = suc t.accesses }
    → ByOracle (told_after t r) rest given → ByOracle t (Makes (Requested r) rest) given
by_other t r rest given after h = record {
  oracle = h.oracle;
  more = h.more;
  tells_it = λ other f. made t r rest given h.more other (h.tells_it other (subst (λ u. From u h.oracle other) (sym after) (record {
    gets = λ n i. f.gets n i;
    later = λ n le. f.later n (omega arith);
    passes = λ k le. f.passes k le;
  })));
}

-- ---- all of it

abbrev Holds : Told → PointedDoing → Type 0
Holds t d = Rising 0 t.gets t.accesses → (given : List Answer) → IsOver (source_run d given) → ByOracle t d given

by_request : (t : Told) (r : Request) (n : ℕ) (fits : Answer → Bool) (go : Answer → PointedDoing) (a : Answer) (given : List Answer)
    → Rising 0 t.gets t.accesses → length t.gets ≡ n → Answers n r fits → fits a ≡ true
    → IsOver (source_run (go a) given)
    → ((n' : ℕ) → gets_after n r ≡ n' → length (told_after t r).gets ≡ n' → Holds (told_after t r) (go a))
    → ByOracle t (Asks (Requested r) fits go) (a ∷ given)
by_request t (request.Read place line) n fits go a given rising many as_ fit over h =
    let w = as_ a fit in
    subst (λ a. fits a ≡ true → ByOracle (told_after t (request.Read place line)) (go a) given → ByOracle t (Asks (Requested (request.Read place line)) fits go) (a ∷ given)) (sym w.1)
    (λ fit h. by_read t rising place line fits go w.0 given fit h) fit (h n refl many (rising_up 0 t.gets t.accesses rising) given over)
by_request t (request.Sync line) n fits go a given rising many as_ fit over h =
    let w = as_ a fit in
    subst (λ a. fits a ≡ true → ByOracle (told_after t (request.Sync line)) (go a) given → ByOracle t (Asks (Requested (request.Sync line)) fits go) (a ∷ given)) (sym w.1)
    (λ fit h. by_sync t rising line fits go w.0 given fit (w.2 ∙ sym many) h) fit (h 0 refl refl (omega arith) given over)
by_request t (request.Barrier line) n fits go a given rising many as_ fit over h =
    met_by t (request.Barrier line) fits go a given fit (as_ a fit) (λ o. refl) refl (h n refl many rising given over)
by_request t (request.AllStoreSync line) n fits go a given rising many as_ fit over h =
    met_by t (request.AllStoreSync line) fits go a given fit (as_ a fit) (λ o. refl) refl (h n refl many rising given over)
by_request t (request.Write place v line) n fits go a given rising many as_ fit over h = absurd as_
by_request t (request.Get place line) n fits go a given rising many as_ fit over h = absurd as_
by_request t (request.Put place v line) n fits go a given rising many as_ fit over h = absurd as_
by_request t (request.Store place v line) n fits go a given rising many as_ fit over h = absurd as_
by_request t (request.Copy from to cells mode line) n fits go a given rising many as_ fit over h = absurd as_

by_made : (t : Told) (r : Request) (rest : PointedDoing) (given : List Answer) → Rising 0 t.gets t.accesses → (n : ℕ) → length t.gets ≡ n → IsMade r
    → ((length (told_after t r).gets ≡ gets_after n r) → Rising 0 (told_after t r).gets (told_after t r).accesses → ByOracle (told_after t r) rest given)
    → ByOracle t (Makes (Requested r) rest) given
by_made t (request.Get place line) rest given rising n many made h =
    let e = length-append t.gets (t.accesses ∷ []) in
    by_get t place line rest given (h (omega (arith, e, many)) (rising_on 0 t.gets t.accesses rising))
by_made t (request.Write place v line) rest given rising n many made h = by_other t (request.Write place v line) rest given refl (h many (rising_up 0 t.gets t.accesses rising))
by_made t (request.Put place v line) rest given rising n many made h = by_other t (request.Put place v line) rest given refl (h many (rising_up 0 t.gets t.accesses rising))
by_made t (request.Store place v line) rest given rising n many made h = by_other t (request.Store place v line) rest given refl (h many (rising_up 0 t.gets t.accesses rising))
by_made t (request.Copy from to cells mode line) rest given rising n many made h = by_other t (request.Copy from to cells mode line) rest given refl (h many (rising_up 0 t.gets t.accesses rising))
by_made t (request.Read place line) rest given rising n many made h = absurd made
by_made t (request.Sync line) rest given rising n many made h = absurd made
by_made t (request.Barrier line) rest given rising n many made h = absurd made
by_made t (request.AllStoreSync line) rest given rising n many made h = absurd made

over_fits : (b : Bool) (r : Request) (run : RunOf Request Halt) → IsOver (if b then after_event r run else unanswered r) → (b ≡ true) × IsOver run
over_fits true r run h = (refl, h)
over_fits false r run h = absurd (short_over r h)

pub by_oracle : (d : PointedDoing) (n : ℕ) (t : Told) → Well n d → length t.gets ≡ n → Holds t d
unfolding Well
by_oracle (Asks (Requested r) fits go) n t w many rising [] over = absurd (short_over r over)
by_oracle (Asks (Requested r) fits go) n t w many rising (a ∷ given) over =
    let o = over_fits (fits a) r (source_run (go a) given) over in
    by_request t r n fits go a given rising many w.0 o.0 o.1
    (λ n' e long. by_oracle (go a) n' (told_after t r) (subst (λ k. Well k (go a)) e (w.1 a)) long)
by_oracle (Asks (Came point) fits go) n t w many rising given over = absurd w
by_oracle (Makes (Requested r) rest) n t w many rising given over =
    by_made t r rest given rising n many w.0 (λ long up. by_oracle rest (gets_after n r) (told_after t r) w.1 long up given over)
by_oracle (Makes (Came point) rest) n t w many rising given over =
    let h = by_oracle rest n t w many rising given over in
    record { oracle = h.oracle; more = h.more; tells_it = λ other f. let g = h.tells_it other f in record { answers = g.answers; events = g.events } }
by_oracle (Says text rest) n t w many rising given over =
    let h = by_oracle rest n t w many rising given over in
    record { oracle = h.oracle; more = h.more; tells_it = λ other f. let g = h.tells_it other f in record { answers = g.answers; events = g.events } }
by_oracle (Stops (Finishes end)) n t w many rising given over = record {
  oracle = record { value = λ n. Null; passes = λ k. true };
  more = given;
  tells_it = λ other f. record { answers = refl; events = refl };
}
by_oracle (Stops Breaks) n t w many rising given over = absurd (let e = over.1 in cc)

pub runs_are_by_oracles : RunsAreByOracles
runs_are_by_oracles here budget given end e =
    let h = by_oracle (pointed here budget) 0 told_at_first (pointed_good here budget) refl (omega arith) given (end, e) in
    let g = h.tells_it h.oracle (record { gets = λ n i. refl; later = λ n le. refl; passes = λ k le. refl }) in
    (h.oracle, h.more, g.answers, g.events)
