-- The walk holds for all answers that fit: accesses have whatever values their answers say.
use Rattle.std.proofs.Common.{◌≡◌, ◌⊎◌, inl, inr, ⊎_elim, ℕ, zero, suc, ◌<◌, ◌≤◌, ◌==◌, List, [], ◌∷◌, ◌++◌, length, map, Bool, true, false, not, ◌&&◌, if◌then◌else◌, slice_get, refl, sym, ap, ◌∙◌, subst, arith}
use Rattle.std.proofs.lemmas.Bool.{and_parts}
use Rattle.std.proofs.lemmas.List.{map-append}
use Rattle.resumption.specs.Resumption.{Asks, Makes, Says, Stops}
use Rattle.sc_base.specs.declared.shape.Star.{Star}
use Rattle.sc_base.specs.declared.value.Place.{Place}
use Rattle.sc_base.specs.declared.value.Value.{Value}
use Rattle.sc_base.specs.declared.value.Value.TheVariants.{Int, Null}
use Rattle.std.specs.Prelude.{pos}
use Rattle.sc_layout.specs.Layout.{Arrangement, LaidObject}
use Rattle.sc_layout.specs.Place.{IsPlace}
use Rattle.sc_isa.specs.declared.access.Access.{Access}
use Rattle.sc_isa.specs.declared.access.Access.TheVariants as access
use Rattle.sc_isa.specs.declared.access.Track.TheVariants.{Counter, Store, Covered}
use Rattle.sc_isa.specs.Fitting.{fits, fits_all, fits_type, fits_int, has_stars, object_is}
use Rattle.sc_isa.specs.State.{Flight, reads_on, without_reads_on}
use Rattle.sc_isa.specs.Run.{Issue, Wait, Arrive, Pass, Answer, Landed}
use Rattle.node_emit.specs.Pointed.{PointedAsking, Asked, Came}
use Rattle.emit_laws.proofs.Parts.{Setup}
use Rattle.emit_laws.proofs.Ghosts.{Token, without, on_counter}
use Rattle.emit_laws.proofs.Masks.{landing}
use Rattle.emit_laws.proofs.Standing.{Now, asked_on}
use Rattle.forgotten_marks.proofs.Counted.{flights_by, Counted}
use Rattle.forgotten_marks.proofs.ByOracles.{Rising, In, rising_up, rising_on, rising_in, given_at, given_off, given_all, map_same, at_one, at_other}
use Rattle.code_walks.proofs.Edges.{WaitNext, after_on, come_on, made_by, IsIn, FitsAccess, Under}

-- ---- tokens and flights

abbrev pub flight : Token → Flight
flight t = record { counter = t.counter; place = t.place }

abbrev pub order_of : Token → ℕ
order_of t = t.order

abbrev pub place_of : Token → Place
place_of t = t.place

abbrev pub orders : List Token → List ℕ
orders ts = map order_of ts

reads_are : (counter : ℕ) (ts : List Token) → reads_on counter (map flight ts) ≡ map place_of (on_counter counter ts)
reads_are counter [] = refl
reads_are counter (t ∷ ts) = go (t.counter == counter) (reads_are counter ts)
  where
    go : (b : Bool) → reads_on counter (map flight ts) ≡ map place_of (on_counter counter ts)
        → (if b then t.place ∷ reads_on counter (map flight ts) else reads_on counter (map flight ts)) ≡ map place_of (if b then t ∷ on_counter counter ts else on_counter counter ts)
    go true h = ap (λ l. t.place ∷ l) h
    go false h = h

without_are : (counter : ℕ) (ts : List Token) → without_reads_on counter (map flight ts) ≡ map flight (without counter ts)
without_are counter [] = refl
without_are counter (t ∷ ts) = go (t.counter == counter) (without_are counter ts)
  where
    go : (b : Bool) → without_reads_on counter (map flight ts) ≡ map flight (without counter ts)
        → (if b then without_reads_on counter (map flight ts) else flight t ∷ without_reads_on counter (map flight ts)) ≡ map flight (if b then without counter ts else t ∷ without counter ts)
    go true h = h
    go false h = ap (λ l. flight t ∷ l) h

rising_low : (low lower : ℕ) (xs : List ℕ) (high : ℕ) → lower ≤ low → Rising low xs high → Rising lower xs high
rising_low low lower [] high le r = omega arith
rising_low low lower (x ∷ xs) high le r = (omega (arith, r.0), r.1)

rising_on_counter : (counter low : ℕ) (ts : List Token) (high : ℕ) → Rising low (orders ts) high → Rising low (orders (on_counter counter ts)) high
rising_on_counter counter low [] high r = r
rising_on_counter counter low (t ∷ ts) high r = go (t.counter == counter) (rising_on_counter counter (suc t.order) ts high r.1)
  where
    go : (b : Bool) → Rising (suc t.order) (orders (on_counter counter ts)) high → Rising low (orders (if b then t ∷ on_counter counter ts else on_counter counter ts)) high
    go true h = (r.0, h)
    go false h = rising_low (suc t.order) low (orders (on_counter counter ts)) high (omega (arith, r.0)) h

rising_without : (counter low : ℕ) (ts : List Token) (high : ℕ) → Rising low (orders ts) high → Rising low (orders (without counter ts)) high
rising_without counter low [] high r = r
rising_without counter low (t ∷ ts) high r = go (t.counter == counter) (rising_without counter (suc t.order) ts high r.1)
  where
    go : (b : Bool) → Rising (suc t.order) (orders (without counter ts)) high → Rising low (orders (if b then without counter ts else t ∷ without counter ts)) high
    go true h = rising_low (suc t.order) low (orders (without counter ts)) high (omega (arith, r.0)) h
    go false h = (r.0, h)

-- what is waited for is no longer on its way
apart : (counter low : ℕ) (ts : List Token) (high n : ℕ) → Rising low (orders ts) high → In n (orders (without counter ts)) → In n (orders (on_counter counter ts)) → ⊥
apart counter low [] high n r i j = i
apart counter low (t ∷ ts) high n r i j = go (t.counter == counter) (apart counter (suc t.order) ts high n r.1) i j
  where
    go : (b : Bool) → (In n (orders (without counter ts)) → In n (orders (on_counter counter ts)) → ⊥)
        → In n (orders (if b then without counter ts else t ∷ without counter ts)) → In n (orders (if b then t ∷ on_counter counter ts else on_counter counter ts)) → ⊥
    go true h i (inl e) = let b = rising_in (suc t.order) (orders (without counter ts)) high n (rising_without counter (suc t.order) ts high r.1) i in omega (arith, e, b.0)
    go true h i (inr j) = h i j
    go false h (inl e) j = let b = rising_in (suc t.order) (orders (on_counter counter ts)) high n (rising_on_counter counter (suc t.order) ts high r.1) j in omega (arith, e, b.0)
    go false h (inr i) j = h i j

-- ---- values that fit what is on its way

abbrev pub FitAll : Arrangement → (ℕ → Value) → List Token → Type 0
FitAll layout value [] = Unit {0}
FitAll layout value (t ∷ ts) = (fits layout t.place (value t.order) ≡ true) × FitAll layout value ts

fit_same : (layout : Arrangement) (one other : ℕ → Value) (ts : List Token) → ((n : ℕ) → In n (orders ts) → other n ≡ one n) → FitAll layout one ts → FitAll layout other ts
fit_same layout one other [] h f = tt
fit_same layout one other (t ∷ ts) h f =
    (ap (λ v. fits layout t.place v) (h t.order (inl refl)) ∙ f.0, fit_same layout one other ts (λ n i. h n (inr i)) f.1)

fit_parts : (layout : Arrangement) (value : ℕ → Value) (counter : ℕ) (ts : List Token) → FitAll layout value (on_counter counter ts) → FitAll layout value (without counter ts) → FitAll layout value ts
fit_parts layout value counter [] f g = tt
fit_parts layout value counter (t ∷ ts) f g = go (t.counter == counter) (λ f g. fit_parts layout value counter ts f g) f g
  where
    go : (b : Bool) → (FitAll layout value (on_counter counter ts) → FitAll layout value (without counter ts) → FitAll layout value ts)
        → FitAll layout value (if b then t ∷ on_counter counter ts else on_counter counter ts) → FitAll layout value (if b then without counter ts else t ∷ without counter ts)
        → FitAll layout value (t ∷ ts)
    go true h f g = (f.0, h f.1 g)
    go false h f g = (g.0, h f g.1)

fit_without : (layout : Arrangement) (value : ℕ → Value) (counter : ℕ) (ts : List Token) → FitAll layout value ts → FitAll layout value (without counter ts)
fit_without layout value counter [] f = tt
fit_without layout value counter (t ∷ ts) f = go (t.counter == counter) (fit_without layout value counter ts f.1)
  where
    go : (b : Bool) → FitAll layout value (without counter ts) → FitAll layout value (if b then without counter ts else t ∷ without counter ts)
    go true h = h
    go false h = (f.0, h)

fit_on : (layout : Arrangement) (value : ℕ → Value) (ts : List Token) (t : Token) → FitAll layout value ts → fits layout t.place (value t.order) ≡ true → FitAll layout value (ts ++ t ∷ [])
fit_on layout value [] t f e = (e, tt)
fit_on layout value (u ∷ ts) t f e = (f.0, fit_on layout value ts t f.1 e)

fit_front : (layout : Arrangement) (value : ℕ → Value) (ts : List Token) (t : Token) → FitAll layout value (ts ++ t ∷ []) → FitAll layout value ts × (fits layout t.place (value t.order) ≡ true)
fit_front layout value [] t f = (tt, f.0)
fit_front layout value (u ∷ ts) t f = let h = fit_front layout value ts t f.1 in ((f.0, h.0), h.1)

fit_values : (layout : Arrangement) (value : ℕ → Value) (ts : List Token) (vs : List Value) → map (λ (t : Token). value t.order) ts ≡ vs → fits_all layout (map place_of ts) vs ≡ true → FitAll layout value ts
fit_values layout value ts vs e f = go ts (ap (λ l. fits_all layout (map place_of ts) l) e ∙ f)
  where
    go : (ts : List Token) → fits_all layout (map place_of ts) (map (λ (t : Token). value t.order) ts) ≡ true → FitAll layout value ts
    go [] f = tt
    go (t ∷ ts) f = let h = and_parts (fits layout t.place (value t.order)) (fits_all layout (map place_of ts) (map (λ (t : Token). value t.order) ts)) f in (h.0, go ts h.1)

length_all : (layout : Arrangement) (ps : List Place) (vs : List Value) → fits_all layout ps vs ≡ true → length vs ≡ length ps
length_all layout [] [] e = refl
length_all layout [] (v ∷ vs) e = absurd (cc)
length_all layout (p ∷ ps) [] e = absurd (cc)
length_all layout (p ∷ ps) (v ∷ vs) e = ap suc (length_all layout ps vs (and_parts (fits layout p v) (fits_all layout ps vs) e).1)

length_orders : (ts : List Token) → length (map place_of ts) ≡ length (orders ts)
length_orders [] = refl
length_orders (t ∷ ts) = ap suc (length_orders ts)

by_orders : (value : ℕ → Value) (ts : List Token) → map (λ (t : Token). value t.order) ts ≡ map value (orders ts)
by_orders value [] = refl
by_orders value (t ∷ ts) = ap (λ l. value t.order ∷ l) (by_orders value ts)

-- some value fits each place of the layout
some_fits : (layout : Arrangement) (place : Place) → IsPlace layout place → (v : Value) × (fits layout place v ≡ true)
some_fits layout place h = by_object layout.objects place.object h.object
  where
    by_stars : (o : LaidObject) (stars : List Star) → o.shape.ty.stars ≡ stars → (v : Value) × (fits_type layout o.shape.ty v ≡ true)
    by_stars o [] e = (Int (pos 0), ap (λ (s : List Star). not (has_stars s) && fits_int (pos 0)) e)
    by_stars o (s ∷ stars) e = (Null, ap (λ (s : List Star). has_stars s) e)

    by_object : (objects : List LaidObject) (n : ℕ) → n < length objects → (v : Value) × (object_is (λ o. fits_type layout o.shape.ty v) (slice_get objects n) ≡ true)
    by_object [] n lt = absurd (omega (arith, lt))
    by_object (o ∷ objects) zero lt = by_stars o o.shape.ty.stars refl
    by_object (o ∷ objects) (suc n) lt = by_object objects n (omega (arith, lt))

module _ (c : Setup) where
  -- the walk for any answers that fit
  unfoldable pub Edges : Now → PointedAsking → Type 0
  Edges h (Makes (Came u) rest) = (h.left ≡ []) × c.Goes h.at u × Edges (come_on u (c.waits u) h) rest
  Edges h (Makes (Asked (Issue a)) rest) = (h.left ≡ []) × (h.own ≡ true) × Edges (made_by a h) rest
  Edges h (Makes (Asked (Arrive stores)) rest) = (h.left ≡ []) × (h.own ≡ true) × Edges (asked_on h) rest
  Edges h (Asks (Asked (Wait counter)) fits go) =
      WaitNext h.left h.own counter × ((answer : Answer) → fits answer ≡ true → Edges (after_on counter h) (go answer))
  Edges h (Asks (Asked Pass) fits go) = (answer : Answer) → fits answer ≡ true → Edges h (go answer)
  Edges h (Says text rest) = Edges h rest
  Edges h (Stops halt) = Unit {0}
  Edges h _ = ⊥

  -- the values that may still be asked for are the same
  pub record Same (one other : ℕ → Value) (h : Now) : Type 0 where
    pub flying : (n : ℕ) → In n (orders h.flying) → other n ≡ one n
    pub later : (n : ℕ) → h.accesses ≤ n → other n ≡ one n

  in_on : (counter : ℕ) (ts : List Token) (n : ℕ) → In n (orders (on_counter counter ts)) → In n (orders ts)
  in_on counter [] n i = i
  in_on counter (t ∷ ts) n i = go (t.counter == counter) (in_on counter ts n) i
    where
      go : (b : Bool) → (In n (orders (on_counter counter ts)) → In n (orders ts)) → In n (orders (if b then t ∷ on_counter counter ts else on_counter counter ts)) → In n (orders (t ∷ ts))
      go true h (inl e) = inl e
      go true h (inr j) = inr (h j)
      go false h j = inr (h j)

  in_without : (counter : ℕ) (ts : List Token) (n : ℕ) → In n (orders (without counter ts)) → In n (orders ts)
  in_without counter [] n i = i
  in_without counter (t ∷ ts) n i = go (t.counter == counter) (in_without counter ts n) i
    where
      go : (b : Bool) → (In n (orders (without counter ts)) → In n (orders ts)) → In n (orders (if b then without counter ts else t ∷ without counter ts)) → In n (orders (t ∷ ts))
      go true h j = inr (h j)
      go false h (inl e) = inl e
      go false h (inr j) = inr (h j)

  landing_same : (one other : ℕ → Value) (counter : ℕ) (ts : List Token) → ((n : ℕ) → In n (orders ts) → other n ≡ one n) → landing other counter ts ≡ landing one counter ts
  landing_same one other counter ts h =
      by_orders other (on_counter counter ts)
      ∙ map_same (orders (on_counter counter ts)) other one (λ n i. h n (in_on counter ts n i))
      ∙ sym (by_orders one (on_counter counter ts))

  in_end : (ts : List Token) (t : Token) (n : ℕ) → In n (orders (ts ++ t ∷ [])) → In n (orders ts) ⊎ (n ≡ t.order)
  in_end [] t n (inl e) = inr e
  in_end [] t n (inr i) = absurd i
  in_end (u ∷ ts) t n (inl e) = inl (inl e)
  in_end (u ∷ ts) t n (inr i) = ⊎_elim (λ j. inl (inr j)) (λ e. inr e) (in_end ts t n i)

  same_made : (a : Access) (one other : ℕ → Value) (h : Now) → Same one other h → Same one other (made_by a h)
  same_made (access.Read place (Counter counter)) one other h s = record {
    flying = λ n i. ⊎_elim (λ j. s.flying n j) (λ e. s.later n (omega (arith, e))) (in_end h.flying (record { order = h.accesses; counter = counter; place = place }) n i);
    later = λ n le. s.later n (omega arith);
  }
  same_made (access.Read place Store) one other h s = record { flying = s.flying; later = λ n le. s.later n (omega arith) }
  same_made (access.Read place Covered) one other h s = record { flying = s.flying; later = λ n le. s.later n (omega arith) }
  same_made (access.Write place value track) one other h s = record { flying = s.flying; later = λ n le. s.later n (omega arith) }
  same_made (access.Copy from to cells track) one other h s = record { flying = s.flying; later = λ n le. s.later n (omega arith) }

  fits_other : (a : Access) (one other : ℕ → Value) (h : Now) → Same one other h → FitsAccess c other h a → FitsAccess c one h a
  fits_other (access.Read place (Counter counter)) one other h s f = ap (λ v. fits c.here.layout place v) (sym (s.later h.accesses (omega arith))) ∙ f
  fits_other (access.Read place Store) one other h s f = tt
  fits_other (access.Read place Covered) one other h s f = tt
  fits_other (access.Write place value track) one other h s f = tt
  fits_other (access.Copy from to cells track) one other h s f = tt

  under_same : (d : PointedAsking) (h : Now) (one other : ℕ → Value) → Same one other h → Under c one h d → Under c other h d
  unfolding Under
  under_same (Makes (Came u) rest) h one other s w =
      (w.0, w.1, under_same rest (come_on u (c.waits u) h) one other (record { flying = s.flying; later = s.later }) w.2)
  under_same (Makes (Asked (Issue a)) rest) h one other s w =
      (w.0, w.1, w.2, λ f. under_same rest (made_by a h) one other (same_made a one other h s) (w.3 (fits_other a one other h s f)))
  under_same (Makes (Asked (Arrive stores)) rest) h one other s w =
      (w.0, w.1, under_same rest (asked_on h) one other (record { flying = s.flying; later = s.later }) w.2)
  under_same (Makes (Asked (Wait counter)) rest) h one other s w = absurd w
  under_same (Makes (Asked Pass) rest) h one other s w = absurd w
  under_same (Asks (Asked (Wait counter)) fits_ go) h one other s w =
      let e = landing_same one other counter h.flying s.flying in (
        w.0,
        λ f.
            let g = ap (λ vs. fits_ (Landed vs)) (sym e) ∙ f in
            subst (λ vs. Under c other (after_on counter h) (go (Landed vs))) (sym e)
            (under_same (go (Landed (landing one counter h.flying))) (after_on counter h) one other
            (record { flying = λ n i. s.flying n (in_without counter h.flying n i); later = s.later }) (w.1 g)),
      )
  under_same (Asks (Asked Pass) fits_ go) h one other s w = λ answer f. under_same (go answer) h one other s (w answer f)
  under_same (Asks (Asked (Issue a)) fits_ go) h one other s w = absurd w
  under_same (Asks (Asked (Arrive stores)) fits_ go) h one other s w = absurd w
  under_same (Asks (Came u) fits_ go) h one other s w = absurd w
  under_same (Says text rest) h one other s w = under_same rest h one other s w
  under_same (Stops halt) h one other s w = tt

  -- ---- from all values to all answers

  abbrev pub FitNow : (ℕ → Value) → Now → Type 0
  FitNow value h = FitAll c.here.layout value h.flying

  pub record Ready (h : Now) : Type 0 where
    pub rising : Rising 0 (orders h.flying) h.accesses
    pub some : ℕ → Value
    pub fit : FitNow some h

  orders_on : (ts : List Token) (t : Token) → orders (ts ++ t ∷ []) ≡ orders ts ++ t.order ∷ []
  orders_on ts t = map-append order_of ts (t ∷ [])

  ready_made : (a : Access) (h : Now) → IsIn c a → Ready h → Ready (made_by a h)
  ready_made (access.Read place (Counter counter)) h placed r =
      let v = some_fits c.here.layout place placed in
      let t : Token = record { order = h.accesses; counter = counter; place = place } in
      let more : ℕ → Value = given_at (h.accesses ∷ []) (v.0 ∷ []) r.some in
      record {
        rising = subst (λ l. Rising 0 l (suc h.accesses)) (sym (orders_on h.flying t)) (rising_on 0 (orders h.flying) h.accesses r.rising);
        some = more;
        fit = fit_on c.here.layout more h.flying t
            (fit_same c.here.layout r.some more h.flying
            (λ n i. at_other n h.accesses v.0 (r.some n) (λ e. let b = rising_in 0 (orders h.flying) h.accesses n r.rising i in omega (arith, b.1, e))) r.fit)
            (ap (λ w. fits c.here.layout place w) (at_one h.accesses v.0 (r.some h.accesses)) ∙ v.1);
      }
  ready_made (access.Read place Store) h placed r = absurd placed
  ready_made (access.Read place Covered) h placed r = absurd placed
  ready_made (access.Write place value track) h placed r = record { rising = rising_up 0 (orders h.flying) h.accesses r.rising; some = r.some; fit = r.fit }
  ready_made (access.Copy from to cells track) h placed r = record { rising = rising_up 0 (orders h.flying) h.accesses r.rising; some = r.some; fit = r.fit }

  fit_made : (a : Access) (value : ℕ → Value) (h : Now) → FitNow value (made_by a h) → FitNow value h × FitsAccess c value h a
  fit_made (access.Read place (Counter counter)) value h f = fit_front c.here.layout value h.flying (record { order = h.accesses; counter = counter; place = place }) f
  fit_made (access.Read place Store) value h f = (f, tt)
  fit_made (access.Read place Covered) value h f = (f, tt)
  fit_made (access.Write place v track) value h f = (f, tt)
  fit_made (access.Copy from to cells track) value h f = (f, tt)

  flights_made : (a : Access) (h : Now) → flights_by a (map flight h.flying) ≡ map flight (made_by a h).flying
  flights_made (access.Read place (Counter counter)) h = sym (map-append flight h.flying (record { order = h.accesses; counter = counter; place = place } ∷ []))
  flights_made (access.Read place Store) h = refl
  flights_made (access.Read place Covered) h = refl
  flights_made (access.Write place v track) h = refl
  flights_made (access.Copy from to cells track) h = refl

  -- the values of an answer, at the reads that it lands
  record Answered (counter : ℕ) (h : Now) (vs : List Value) (value : ℕ → Value) : Type 0 where
    pub values : ℕ → Value
    pub lands : landing values counter h.flying ≡ vs
    pub fit : FitNow values h
    pub same : Same values value (after_on counter h)

  answered : (counter : ℕ) (h : Now) (vs : List Value) (value : ℕ → Value) → Rising 0 (orders h.flying) h.accesses
      → fits_all c.here.layout (reads_on counter (map flight h.flying)) vs ≡ true → FitNow value (after_on counter h) → Answered counter h vs value
  answered counter h vs value rising fit_vs fit =
      let ts = on_counter counter h.flying in
      let values : ℕ → Value = given_at (orders ts) vs value in
      let fit_places : fits_all c.here.layout (map place_of ts) vs ≡ true = ap (λ ps. fits_all c.here.layout ps vs) (sym (reads_are counter h.flying)) ∙ fit_vs in
      let many : length vs ≡ length (orders ts) = length_all c.here.layout (map place_of ts) vs fit_places ∙ length_orders ts in
      let up = rising_on_counter counter 0 h.flying h.accesses rising in
      let lands : landing values counter h.flying ≡ vs = by_orders values ts ∙ given_all 0 (orders ts) vs h.accesses value up many in
      let off : (n : ℕ) → In n (orders (without counter h.flying)) → values n ≡ value n =
      λ n i. given_off (orders ts) vs value n (λ j. apart counter 0 h.flying h.accesses n rising i j) in
      record {
        values = values;
        lands = lands;
        fit = fit_parts c.here.layout values counter h.flying (fit_values c.here.layout values ts vs lands fit_places)
            (fit_same c.here.layout value values (without counter h.flying) off fit);
        same = record {
          flying = λ n i. sym (off n i);
          later = λ n le. sym (given_off (orders ts) vs value n (λ j. let b = rising_in 0 (orders ts) h.accesses n up j in omega (arith, b.1, le)));
        };
      }

  pub all_edges : (d : PointedAsking) (h : Now) → Ready h → Counted c.here.layout (map flight h.flying) d
      → ((value : ℕ → Value) → FitNow value h → Under c value h d) → Edges h d
  unfolding Under Counted Edges
  all_edges (Makes (Came u) rest) h r k w =
      let one = w r.some r.fit in
      (one.0, one.1, all_edges rest (come_on u (c.waits u) h) (record { rising = r.rising; some = r.some; fit = r.fit }) k (λ value f. (w value f).2))
  all_edges (Makes (Asked (Issue a)) rest) h r k w =
      let one = w r.some r.fit in (
        one.0,
        one.1,
        all_edges rest (made_by a h) (ready_made a h one.2 r) (subst (λ fl. Counted c.here.layout fl rest) (flights_made a h) k.1)
            (λ value f. let g = fit_made a value h f in (w value g.0).3 g.1),
      )
  all_edges (Makes (Asked (Arrive stores)) rest) h r k w =
      let one = w r.some r.fit in
      (one.0, one.1, all_edges rest (asked_on h) (record { rising = r.rising; some = r.some; fit = r.fit }) k (λ value f. (w value f).2))
  all_edges (Makes (Asked (Wait counter)) rest) h r k w = absurd (w r.some r.fit)
  all_edges (Makes (Asked Pass) rest) h r k w = absurd (w r.some r.fit)
  all_edges (Asks (Asked (Wait counter)) fits_ go) h r k w =
      let one = w r.some r.fit in (
        one.0,
        λ answer e.
            let a = k answer e in
            all_edges (go answer) (after_on counter h)
            (record {
              rising = rising_without counter 0 h.flying h.accesses r.rising;
              some = r.some;
              fit = fit_without c.here.layout r.some counter h.flying r.fit;
            })
            (subst (λ fl. Counted c.here.layout fl (go answer)) (without_are counter h.flying) a.1)
            (λ value f.
            let g = answered counter h a.0.0 value r.rising a.0.2 f in
            let is : Landed (landing g.values counter h.flying) ≡ answer = ap (λ vs. Landed vs) g.lands ∙ sym a.0.1 in
            under_same (go answer) (after_on counter h) g.values value g.same
            (subst (λ x. Under c g.values (after_on counter h) (go x)) is ((w g.values g.fit).1 (ap fits_ is ∙ e)))),
      )
  all_edges (Asks (Asked Pass) fits_ go) h r k w = λ answer e. all_edges (go answer) h r (k answer e).1 (λ value f. w value f answer e)
  all_edges (Asks (Asked (Issue a)) fits_ go) h r k w = absurd (w r.some r.fit)
  all_edges (Asks (Asked (Arrive stores)) fits_ go) h r k w = absurd (w r.some r.fit)
  all_edges (Asks (Came u) fits_ go) h r k w = absurd (w r.some r.fit)
  all_edges (Says text rest) h r k w = all_edges rest h r k (λ value f. w value f)
  all_edges (Stops halt) h r k w = tt
