-- Each run of code that ends is played by some oracle: one that holds the values that land.
use Rattle.std.proofs.Common.{◌≡◌, inl, inr, ⊎_elim, ℕ, suc, ◌≤◌, ◌==◌, List, [], ◌∷◌, ◌++◌, length, map, filter, not, Option, Some, None, Bool, true, false, if◌then◌else◌, refl, sym, ap, ◌∙◌, subst, arith}
use Rattle.std.proofs.lemmas.Bool.{and_parts}
use Rattle.std.proofs.lemmas.List.{map-append}
use Rattle.resumption.specs.Resumption.{Asks, Makes, Says, Stops, Ends, RunOf, run_of, unanswered, after_event, after_text}
use Rattle.sc_base.specs.declared.value.End.{End}
use Rattle.sc_base.specs.declared.value.Place.{Place}
use Rattle.sc_base.specs.declared.value.Value.{Value}
use Rattle.sc_base.specs.declared.value.Value.TheVariants.{Null}
use Rattle.sc_layout.specs.Layout.{Arrangement}
use Rattle.sc_isa.specs.declared.access.Access.{Access}
use Rattle.sc_isa.specs.declared.access.Access.TheVariants as access
use Rattle.sc_isa.specs.declared.access.Track.TheVariants.{Counter, Store, Covered}
use Rattle.sc_isa.specs.Begin.{begin, begins_at, entry}
use Rattle.sc_isa.specs.declared.code.FnRow.{FnRow}
use Rattle.sc_isa.specs.Fitting.{fits, fits_all}
use Rattle.sc_isa.specs.State.{Flight, reads_on, without_reads_on}
use Rattle.sc_isa.specs.Run.{Ask, Issue, Wait, Arrive, Pass, Answer, Landed, Passed, Broken, Halt, Finish}
use Rattle.node_emit.specs.Pointed.{PointedAsking, Asked, Came, code_points}
use Rattle.node_emit.specs.Oracles.{Oracle, Flying, Progress, at_first, is_on, issued, waited, landing, passing}
use Rattle.forgotten_marks.specs.Played.{answers_played}
use Rattle.forgotten_marks.specs.Laws.{RunsArePlayed}
use Rattle.forgotten_marks.proofs.Marks.{forgotten, marks_are_forgotten}
use Rattle.forgotten_marks.proofs.Counted.{flights_by, Counted, counted_from}
use Rattle.forgotten_marks.proofs.ByOracles.{Rising, In, rising_up, rising_on, rising_in, given_at, given_off, given_all, map_same, same_bool, other_bool, in_cases}

abbrev pub numbers : List Flying → List ℕ
numbers fs = map (λ (f : Flying). f.number) fs

abbrev pub on : ℕ → List Flying → List Flying
on counter fs = filter (λ (f : Flying). is_on counter f.track) fs

abbrev pub off : ℕ → List Flying → List Flying
off counter fs = filter (λ (f : Flying). not (is_on counter f.track)) fs

-- the reads that are on their way, as the state has them
abbrev pub Matches : List Flying → List Flight → Type 0
Matches [] [] = Unit {0}
Matches (f ∷ fs) (g ∷ gs) = (f.track ≡ Counter g.counter) × Matches fs gs
Matches _ _ = ⊥

matches_end : (fs : List Flying) (gs : List Flight) (f : Flying) (g : Flight) → Matches fs gs → f.track ≡ Counter g.counter → Matches (fs ++ f ∷ []) (gs ++ g ∷ [])
matches_end [] [] f g m e = (e, tt)
matches_end [] (h ∷ gs) f g m e = absurd m
matches_end (h ∷ fs) [] f g m e = absurd m
matches_end (h ∷ fs) (k ∷ gs) f g m e = (m.0, matches_end fs gs f g m.1 e)

append_none : {A : Type 0} (xs : List A) → xs ++ [] ≡ xs
append_none [] = refl
append_none (x ∷ xs) = ap (λ l. x ∷ l) (append_none xs)

-- as many are on the counter
length_on : (counter : ℕ) (fs : List Flying) (gs : List Flight) → Matches fs gs → length (reads_on counter gs) ≡ length (numbers (on counter fs))
length_on counter [] [] m = refl
length_on counter [] (g ∷ gs) m = absurd m
length_on counter (f ∷ fs) [] m = absurd m
length_on counter (f ∷ fs) (g ∷ gs) m =
    go (g.counter == counter) (length_on counter fs gs m.1)
    ∙ sym (ap (λ t. length (numbers (if is_on counter t then f ∷ on counter fs else on counter fs))) m.0)
  where
    go : (b : Bool) → length (reads_on counter gs) ≡ length (numbers (on counter fs))
        → length (if b then g.place ∷ reads_on counter gs else reads_on counter gs) ≡ length (numbers (if b then f ∷ on counter fs else on counter fs))
    go true h = ap suc h
    go false h = h

matches_off : (counter : ℕ) (fs : List Flying) (gs : List Flight) → Matches fs gs → Matches (off counter fs) (without_reads_on counter gs)
matches_off counter [] [] m = tt
matches_off counter [] (g ∷ gs) m = absurd m
matches_off counter (f ∷ fs) [] m = absurd m
matches_off counter (f ∷ fs) (g ∷ gs) m =
    subst (λ b. Matches (if not b then f ∷ off counter fs else off counter fs) (if g.counter == counter then without_reads_on counter gs else g ∷ without_reads_on counter gs))
    (sym (ap (is_on counter) m.0)) (go (g.counter == counter) (matches_off counter fs gs m.1))
  where
    go : (b : Bool) → Matches (off counter fs) (without_reads_on counter gs)
        → Matches (if not b then f ∷ off counter fs else off counter fs) (if b then without_reads_on counter gs else g ∷ without_reads_on counter gs)
    go true h = h
    go false h = (m.0, h)

-- ---- numbers rise

rising_low : (low lower : ℕ) (xs : List ℕ) (high : ℕ) → lower ≤ low → Rising low xs high → Rising lower xs high
rising_low low lower [] high le r = omega arith
rising_low low lower (x ∷ xs) high le r = (omega (arith, r.0), r.1)

rising_test : (test : Flying → Bool) (low : ℕ) (fs : List Flying) (high : ℕ) → Rising low (numbers fs) high → Rising low (numbers (filter test fs)) high
rising_test test low [] high r = r
rising_test test low (f ∷ fs) high r = go (test f) (rising_test test (suc f.number) fs high r.1)
  where
    go : (b : Bool) → Rising (suc f.number) (numbers (filter test fs)) high → Rising low (numbers (if b then f ∷ filter test fs else filter test fs)) high
    go true h = (r.0, h)
    go false h = rising_low (suc f.number) low (numbers (filter test fs)) high (omega (arith, r.0)) h

apart : (counter low : ℕ) (fs : List Flying) (high n : ℕ) → Rising low (numbers fs) high → In n (numbers (off counter fs)) → In n (numbers (on counter fs)) → ⊥
apart counter low [] high n r i j = i
apart counter low (f ∷ fs) high n r i j = go (is_on counter f.track) (apart counter (suc f.number) fs high n r.1) i j
  where
    go : (b : Bool) → (In n (numbers (off counter fs)) → In n (numbers (on counter fs)) → ⊥)
        → In n (numbers (if not b then f ∷ off counter fs else off counter fs)) → In n (numbers (if b then f ∷ on counter fs else on counter fs)) → ⊥
    go true h i (inl e) =
        let b = rising_in (suc f.number) (numbers (off counter fs)) high n (rising_test (λ f. not (is_on counter f.track)) (suc f.number) fs high r.1) i in omega (arith, e, b.0)
    go true h i (inr j) = h i j
    go false h (inl e) j =
        let b = rising_in (suc f.number) (numbers (on counter fs)) high n (rising_test (λ f. is_on counter f.track) (suc f.number) fs high r.1) j in omega (arith, e, b.0)
    go false h (inr i) j = h i j

in_test : (test : Flying → Bool) (fs : List Flying) (n : ℕ) → In n (numbers (filter test fs)) → In n (numbers fs)
in_test test [] n i = i
in_test test (f ∷ fs) n i = go (test f) (in_test test fs n) i
  where
    go : (b : Bool) → (In n (numbers (filter test fs)) → In n (numbers fs)) → In n (numbers (if b then f ∷ filter test fs else filter test fs)) → In n (numbers (f ∷ fs))
    go true h (inl e) = inl e
    go true h (inr j) = inr (h j)
    go false h j = inr (h j)

by_numbers : (value : ℕ → Value) (fs : List Flying) → map (λ (f : Flying). value f.number) fs ≡ map value (numbers fs)
by_numbers value [] = refl
by_numbers value (f ∷ fs) = ap (λ l. value f.number ∷ l) (by_numbers value fs)

length_all : (layout : Arrangement) (ps : List Place) (vs : List Value) → fits_all layout ps vs ≡ true → length vs ≡ length ps
length_all layout [] [] e = refl
length_all layout [] (v ∷ vs) e = absurd (cc)
length_all layout (p ∷ ps) [] e = absurd (cc)
length_all layout (p ∷ ps) (v ∷ vs) e = ap suc (length_all layout ps vs (and_parts (fits layout p v) (fits_all layout ps vs) e).1)

-- ---- oracles that agree from here on

pub record From (p : Progress) (one other : Oracle) : Type 0 where
  pub flying : (n : ℕ) → In n (numbers p.flying) → other.value n ≡ one.value n
  pub later : (n : ℕ) → p.accesses ≤ n → other.value n ≡ one.value n
  pub passes : (k : ℕ) → p.barriers ≤ k → other.passes k ≡ one.passes k

abbrev pub run_by : PointedAsking → List Answer → RunOf Ask Halt
run_by d given = run_of (forgotten d) given

-- the oracle gives these answers, and the run is by them
pub record Plays (p : Progress) (d : PointedAsking) (given more : List Answer) (other : Oracle) : Type 0 where
  pub answers : given ≡ answers_played other p d ++ more
  pub same : run_by d given ≡ run_by d (answers_played other p d)

pub record ByOracle (p : Progress) (d : PointedAsking) (given : List Answer) : Type 0 where
  pub oracle : Oracle
  pub more : List Answer
  pub plays_it : (other : Oracle) → From p oracle other → Plays p d given more other

abbrev pub IsOver : RunOf Ask Halt → Type 0
IsOver run = (end : End) × (run.end ≡ Ends (Finish end))

not_over : (ask : Ask) → IsOver (unanswered ask) → ⊥
not_over ask h = let e = h.1 in cc

over_fits : (b : Bool) (ask : Ask) (run : RunOf Ask Halt) → IsOver (if b then after_event ask run else unanswered ask) → (b ≡ true) × IsOver run
over_fits true ask run h = (refl, h)
over_fits false ask run h = absurd (not_over ask h)

answer_wait : (counter : ℕ) (fits_ : Answer → Bool) (go : Answer → PointedAsking) (p : Progress) (a : Answer) (given more : List Answer) (other : Oracle) → fits_ a ≡ true
    → landing other counter p ≡ a → Plays (waited counter p) (go a) given more other → Plays p (Asks (Asked (Wait counter)) fits_ go) (a ∷ given) more other
answer_wait counter fits_ go p a given more other fit land h =
    let d : PointedAsking = Asks (Asked (Wait counter)) fits_ go in
    record {
      answers = subst (λ b. a ∷ given ≡ (if fits_ b then b ∷ answers_played other (waited counter p) (go b) else []) ++ more) (sym land)
          (subst (λ z. a ∷ given ≡ (if z then a ∷ answers_played other (waited counter p) (go a) else []) ++ more) (sym fit) (ap (λ l. a ∷ l) h.answers));
      same = subst (λ b. run_by d (a ∷ given) ≡ run_by d (if fits_ b then b ∷ answers_played other (waited counter p) (go b) else [])) (sym land)
          (subst (λ z. run_by d (a ∷ given) ≡ run_by d (if z then a ∷ answers_played other (waited counter p) (go a) else [])) (sym fit)
          (ap (λ r. if fits_ a then after_event (Wait counter) r else unanswered (Wait counter)) h.same));
    }

abbrev pub passed_on : Progress → Progress
passed_on p = record { accesses = p.accesses; barriers = suc p.barriers; flying = p.flying }

answer_pass : (fits_ : Answer → Bool) (go : Answer → PointedAsking) (p : Progress) (a : Answer) (given more : List Answer) (other : Oracle) → fits_ a ≡ true
    → passing other p ≡ a → Plays (passed_on p) (go a) given more other → Plays p (Asks (Asked Pass) fits_ go) (a ∷ given) more other
answer_pass fits_ go p a given more other fit land h =
    let d : PointedAsking = Asks (Asked Pass) fits_ go in
    record {
      answers = subst (λ b. a ∷ given ≡ (if fits_ b then b ∷ answers_played other (passed_on p) (go b) else []) ++ more) (sym land)
          (subst (λ z. a ∷ given ≡ (if z then a ∷ answers_played other (passed_on p) (go a) else []) ++ more) (sym fit) (ap (λ l. a ∷ l) h.answers));
      same = subst (λ b. run_by d (a ∷ given) ≡ run_by d (if fits_ b then b ∷ answers_played other (passed_on p) (go b) else [])) (sym land)
          (subst (λ z. run_by d (a ∷ given) ≡ run_by d (if z then a ∷ answers_played other (passed_on p) (go a) else [])) (sym fit)
          (ap (λ r. if fits_ a then after_event Pass r else unanswered Pass) h.same));
    }

module _ (p : Progress) (rising : Rising 0 (numbers p.flying) p.accesses) where
  by_wait : (counter : ℕ) (fits_ : Answer → Bool) (go : Answer → PointedAsking) (a : Answer) (vs : List Value) (given : List Answer) → fits_ a ≡ true → a ≡ Landed vs
      → length vs ≡ length (numbers (on counter p.flying)) → ByOracle (waited counter p) (go a) given → ByOracle p (Asks (Asked (Wait counter)) fits_ go) (a ∷ given)
  by_wait counter fits_ go a vs given fit is many h =
      let ns = numbers (on counter p.flying) in
      let up = rising_test (λ f. is_on counter f.track) 0 p.flying p.accesses rising in
      let o : Oracle = record { value = given_at ns vs h.oracle.value; passes = h.oracle.passes } in
      record {
        oracle = o;
        more = h.more;
        plays_it = λ other f. answer_wait counter fits_ go p a given h.more other fit
            (ap (λ ws. Landed ws) (by_numbers other.value (on counter p.flying)
            ∙ map_same ns other.value o.value (λ n i. f.flying n (in_test (λ f. is_on counter f.track) p.flying n i))
            ∙ given_all 0 ns vs p.accesses h.oracle.value up many) ∙ sym is)
            (h.plays_it other (record {
              flying = λ n i. f.flying n (in_test (λ f. not (is_on counter f.track)) p.flying n i)
                  ∙ given_off ns vs h.oracle.value n (λ j. apart counter 0 p.flying p.accesses n rising i j);
              later = λ n le. f.later n le ∙ given_off ns vs h.oracle.value n (λ j. let b = rising_in 0 ns p.accesses n up j in omega (arith, b.1, le));
              passes = f.passes;
            }));
      }

by_pass : (p : Progress) (fits_ : Answer → Bool) (go : Answer → PointedAsking) (b : Bool) (a : Answer) (given : List Answer) → fits_ a ≡ true → a ≡ (if b then Passed else Broken)
    → ByOracle (passed_on p) (go a) given → ByOracle p (Asks (Asked Pass) fits_ go) (a ∷ given)
by_pass p fits_ go b a given fit is h =
    let o : Oracle = record { value = h.oracle.value; passes = λ k. if k == p.barriers then b else h.oracle.passes k } in
    record {
      oracle = o;
      more = h.more;
      plays_it = λ other f. answer_pass fits_ go p a given h.more other fit
          (ap (λ z. if z then Passed else Broken) (f.passes p.barriers (omega arith) ∙ same_bool p.barriers b (h.oracle.passes p.barriers)) ∙ sym is)
          (h.plays_it other (record {
            flying = f.flying;
            later = f.later;
            passes = λ k le. f.passes k (omega arith) ∙ other_bool k p.barriers b (h.oracle.passes k) (λ e. omega (arith, e, le));
          }));
    }

-- an issue
same_from : (p : Progress) (a : Access) (one other : Oracle) → From p one other → From (issued a p) one other
same_from p (access.Read place track) one other f = record {
  flying = λ n i. ⊎_elim (λ j. f.flying n j) (λ e. f.later n (omega (arith, e)))
      (in_cases n (numbers p.flying) p.accesses (subst (In n) (map-append (λ (f : Flying). f.number) p.flying (record { number = p.accesses; track = track } ∷ [])) i));
  later = λ n le. f.later n (omega arith);
  passes = f.passes;
}
same_from p (access.Write place v track) one other f = record {
  flying = λ n i. f.flying n (subst (In n) (ap numbers (append_none p.flying)) i);
  later = λ n le. f.later n (omega arith);
  passes = f.passes;
}
same_from p (access.Copy from to cells track) one other f = record {
  flying = λ n i. f.flying n (subst (In n) (ap numbers (append_none p.flying)) i);
  later = λ n le. f.later n (omega arith);
  passes = f.passes;
}

issued_rises : (p : Progress) (a : Access) → Rising 0 (numbers p.flying) p.accesses → Rising 0 (numbers (issued a p).flying) (issued a p).accesses
issued_rises p (access.Read place track) r =
    subst (λ l. Rising 0 l (suc p.accesses)) (sym (map-append (λ (f : Flying). f.number) p.flying (record { number = p.accesses; track = track } ∷ []))) (rising_on 0 (numbers p.flying) p.accesses r)
issued_rises p (access.Write place v track) r = subst (λ fs. Rising 0 (numbers fs) (suc p.accesses)) (sym (append_none p.flying)) (rising_up 0 (numbers p.flying) p.accesses r)
issued_rises p (access.Copy from to cells track) r = subst (λ fs. Rising 0 (numbers fs) (suc p.accesses)) (sym (append_none p.flying)) (rising_up 0 (numbers p.flying) p.accesses r)

module _ (layout : Arrangement) where
  issue_matches : (a : Access) (rest : PointedAsking) (fl : List Flight) (p : Progress) → Counted layout fl (Makes (Asked (Issue a)) rest) → Matches p.flying fl
      → Matches (issued a p).flying (flights_by a fl) × Counted layout (flights_by a fl) rest
  unfolding Counted
  issue_matches (access.Read place (Counter k)) rest fl p c m =
      (matches_end p.flying fl (record { number = p.accesses; track = Counter k }) (record { counter = k; place = place }) m refl, c.1)
  issue_matches (access.Read place Store) rest fl p c m = absurd c.0
  issue_matches (access.Read place Covered) rest fl p c m = absurd c.0
  issue_matches (access.Write place v track) rest fl p c m = (subst (λ fs. Matches fs fl) (sym (append_none p.flying)) m, c.1)
  issue_matches (access.Copy from to cells track) rest fl p c m = (subst (λ fs. Matches fs fl) (sym (append_none p.flying)) m, c.1)

  pub by_oracle : (d : PointedAsking) (fl : List Flight) (p : Progress) (given : List Answer) → Counted layout fl d → Matches p.flying fl → Rising 0 (numbers p.flying) p.accesses
      → IsOver (run_by d given) → ByOracle p d given
  unfolding Counted
  by_oracle (Makes (Came u) rest) fl p given c m r o =
      let h = by_oracle rest fl p given c m r o in
      record { oracle = h.oracle; more = h.more; plays_it = λ other f. let g = h.plays_it other f in record { answers = g.answers; same = g.same } }
  by_oracle (Makes (Asked (Issue a)) rest) fl p given c m r o =
      let next = issue_matches a rest fl p c m in
      let h = by_oracle rest (flights_by a fl) (issued a p) given next.1 next.0 (issued_rises p a r) o in
      record {
        oracle = h.oracle;
        more = h.more;
        plays_it = λ other f. let g = h.plays_it other (same_from p a h.oracle other f) in record { answers = g.answers; same = ap (after_event (Issue a)) g.same };
      }
  by_oracle (Makes (Asked (Arrive stores)) rest) fl p given c m r o =
      let h = by_oracle rest fl p given c m r o in
      record { oracle = h.oracle; more = h.more; plays_it = λ other f. let g = h.plays_it other f in record { answers = g.answers; same = ap (after_event (Arrive stores)) g.same } }
  by_oracle (Makes (Asked (Wait counter)) rest) fl p given c m r o = absurd c
  by_oracle (Makes (Asked Pass) rest) fl p given c m r o = absurd c
  by_oracle (Asks (Asked (Wait counter)) fits_ go) fl p [] c m r o = absurd (not_over (Wait counter) o)
  by_oracle (Asks (Asked (Wait counter)) fits_ go) fl p (a ∷ given) c m r o =
      let s = over_fits (fits_ a) (Wait counter) (run_by (go a) given) o in
      let k = c a s.0 in
      by_wait p r counter fits_ go a k.0.0 given s.0 k.0.1 (length_all layout (reads_on counter fl) k.0.0 k.0.2 ∙ length_on counter p.flying fl m)
      (by_oracle (go a) (without_reads_on counter fl) (waited counter p) given k.1 (matches_off counter p.flying fl m)
      (rising_test (λ f. not (is_on counter f.track)) 0 p.flying p.accesses r) s.1)
  by_oracle (Asks (Asked Pass) fits_ go) fl p [] c m r o = absurd (not_over Pass o)
  by_oracle (Asks (Asked Pass) fits_ go) fl p (a ∷ given) c m r o =
      let s = over_fits (fits_ a) Pass (run_by (go a) given) o in
      let k = c a s.0 in
      let h = by_oracle (go a) fl (passed_on p) given k.1 m r s.1 in
      ⊎_elim (λ e. by_pass p fits_ go true a given s.0 e h) (λ e. by_pass p fits_ go false a given s.0 e h) k.0
  by_oracle (Asks (Asked (Issue a)) fits_ go) fl p given c m r o = absurd c
  by_oracle (Asks (Asked (Arrive stores)) fits_ go) fl p given c m r o = absurd c
  by_oracle (Asks (Came u) fits_ go) fl p given c m r o = absurd c
  by_oracle (Says text rest) fl p given c m r o =
      let h = by_oracle rest fl p given c m r o in
      record { oracle = h.oracle; more = h.more; plays_it = λ other f. let g = h.plays_it other f in record { answers = g.answers; same = ap (after_text text) g.same } }
  by_oracle (Stops halt) fl p given c m r o = record {
    oracle = record { value = λ n. Null; passes = λ k. true };
    more = given;
    plays_it = λ other f. record { answers = refl; same = refl };
  }

begin_flies : (budget outside : ℕ) (o : Option FnRow) → (begins_at budget outside o).flying ≡ []
begin_flies budget outside None = refl
begin_flies budget outside (Some row) = refl

pub runs_are_played : RunsArePlayed
runs_are_played code layout plan pieces between node budget many given end e =
    let points = code_points code layout plan pieces between node budget many in
    let forgotten_ = marks_are_forgotten code layout plan pieces between node budget many in
    let counted = subst (λ fl. Counted layout fl points) (begin_flies budget (length code.instrs) (entry code)) (counted_from code layout node plan pieces between many 0 (begin code budget)) in
    let h = by_oracle layout points [] at_first given counted tt (omega arith) (end, ap (λ (r : RunOf Ask Halt). r.end) (forgotten_ given) ∙ e) in
    let g = h.plays_it h.oracle (record { flying = λ n i. refl; later = λ n le. refl; passes = λ k le. refl }) in
    (h.oracle, h.more, g.answers, sym (forgotten_ (answers_played h.oracle at_first points)) ∙ sym g.same ∙ forgotten_ given)
