-- Where code waits by the plain plan, no blocking access is open when its node makes a request.
use Rattle.std.proofs.Common.{◌≡◌, ◌⊎◌, inl, inr, ⊎_elim, ℕ, zero, suc, ◌<◌, ◌==◌, List, [], ◌∷◌, ◌++◌, length, slice_index_or, Bool, true, false, if◌then◌else◌, refl, sym, ap, ◌∙◌, subst, arith}
use Rattle.std.specs.List.{Contains}
use Rattle.std.proofs.lemmas.Bool.Decides.{Decides-eqb}
use Rattle.resumption.specs.Resumption.{Asks, Makes, Says, Stops, RunOf, run_of, unanswered, after_event}
use Rattle.sc_base.specs.declared.value.CopyMode.TheVariants.{Blocking, Split, OneWay}
use Rattle.sc_isa.specs.declared.access.Access.{Access}
use Rattle.sc_isa.specs.declared.access.Access.TheVariants as access
use Rattle.sc_isa.specs.declared.access.Track.{Track}
use Rattle.sc_isa.specs.declared.access.Track.TheVariants.{Counter}
use Rattle.sc_isa.specs.Run.{Ask, Issue, Wait, Arrive, Pass, Answer, Halt}
use Rattle.sc_meaning.specs.OfAccess.{is_blocking}
use Rattle.site_graph.specs.declared.plan.Plan.{Plan}
use Rattle.site_graph.specs.declared.site.SiteKind.{SiteKind}
use Rattle.site_graph.specs.declared.site.SiteKind.TheVariants as site
use Rattle.site_graph.specs.Graph.{Graph, site_at, IsAt}
use Rattle.site_graph.specs.Graph as graphs
use Rattle.site_graph.specs.Ways.{Goes}
use Rattle.site_graph.specs.Plans.{waits_at, Blocks, IsPlainPlan}
use Rattle.fabric.specs.Access.{track_of, is_counter}
use Rattle.node_emit.specs.Runs.{goes_one_way}
use Rattle.node_emit.specs.Pointed.{PointedAsking, Asked, Came}
use Rattle.node_emit.specs.Walks.{AccessFor, AccessAt, MayWait, others, own_after, Walks}
use Rattle.forgotten_marks.proofs.Marks.{forgotten}

-- ---- the tracks of blocking accesses that were not waited for

abbrev pub without_counter : ℕ → List Track → List Track
without_counter c [] = []
without_counter c (track ∷ tracks) = if is_counter c track then without_counter c tracks else track ∷ without_counter c tracks

abbrev pub after_ask : List Track → Ask → List Track
after_ask open_ (Issue a) = if is_blocking (track_of a) then track_of a ∷ open_ else open_
after_ask open_ (Wait c) = without_counter c open_
after_ask open_ (Arrive stores) = open_
after_ask open_ Pass = open_

abbrev pub after_asks : List Track → List Ask → List Track
after_asks open_ [] = open_
after_asks open_ (ask ∷ asks) = after_asks (after_ask open_ ask) asks

-- issues, waits for explicit accesses and arrivals are requests
abbrev pub is_request : Ask → Bool
is_request (Issue a) = true
is_request (Wait c) = c == 0
is_request (Arrive stores) = true
is_request Pass = false

-- at each request none is open
abbrev pub ArePlain : List Track → List Ask → Type 0
ArePlain open_ [] = Unit {0}
ArePlain open_ (ask ∷ asks) = (is_request ask ≡ true → open_ ≡ []) × ArePlain (after_ask open_ ask) asks

pub plain_front : (open_ : List Track) (xs ys : List Ask) → ArePlain open_ (xs ++ ys) → ArePlain open_ xs
plain_front open_ [] ys h = tt
plain_front open_ (x ∷ xs) ys h = (h.0, plain_front (after_ask open_ x) xs ys h.1)

pub plain_last : (open_ : List Track) (xs : List Ask) (x : Ask) → ArePlain open_ (xs ++ x ∷ []) → is_request x ≡ true
    → after_asks open_ xs ≡ []
plain_last open_ [] x h r = h.0 r
plain_last open_ (y ∷ xs) x h r = plain_last (after_ask open_ y) xs x h.1 r

pub after_last : (open_ : List Track) (xs : List Ask) (x : Ask)
    → after_asks open_ (xs ++ x ∷ []) ≡ after_ask (after_asks open_ xs) x
after_last open_ [] x = refl
after_last open_ (y ∷ xs) x = after_last (after_ask open_ y) xs x

-- ---- along a walk

contains_cons : (c : ℕ) (cs : List ℕ) (x : ℕ) → Contains (c ∷ cs) x → (c ≡ x) ⊎ Contains cs x
contains_cons c cs x h = by h.0 h.1 h.2
  where
    by : (k : ℕ) → k < length (c ∷ cs) → slice_index_or (c ∷ cs) k x ≡ x → (c ≡ x) ⊎ Contains cs x
    by zero lt e = inl e
    by (suc k) lt e = inr (k, omega (arith, lt), e)

contains_none : (x : ℕ) → Contains [] x → ⊥
contains_none x h = absurd (omega (arith, h.1))

module _ (graph : Graph) (plan : Plan) (plain : IsPlainPlan graph plan) where
  -- the track is that of a blocking site that the point still waits for, or of its own one
  pub record IsOpen (t : ℕ) (left : List ℕ) (own : Bool) (track : Track) : Type 0 where
    pub number : ℕ
    pub is : track ≡ Counter number
    pub blocks : Blocks graph number
    pub where_ : Contains left number ⊎ ((own ≡ false) × IsAt graph number t)

  abbrev pub AreOpen : (t : ℕ) (left : List ℕ) (own : Bool) → List Track → Type 0
  AreOpen t left own [] = Unit {0}
  AreOpen t left own (track ∷ tracks) = IsOpen t left own track × AreOpen t left own tracks

  -- the waits that are left are for blocking sites
  abbrev pub Left : List ℕ → Type 0
  Left left = (x : ℕ) → Contains left x → Blocks graph x

  none_open : (t : ℕ) (tracks : List Track) → AreOpen t [] true tracks → tracks ≡ []
  none_open t [] h = refl
  none_open t (track ∷ tracks) h = absurd (⊎_elim (λ c. contains_none h.0.number c) (λ p. let e = p.0 in cc) h.0.where_)

  none_left : (t : ℕ) (left : List ℕ) (own : Bool) (tracks : List Track) → left ≡ [] → own ≡ true
      → AreOpen t left own tracks → tracks ≡ []
  none_left t left own tracks e f h = none_open t tracks (subst (λ o. AreOpen t [] o tracks) f (subst (λ l. AreOpen t l own tracks) e h))

  come : (t u : ℕ) (own : Bool) (tracks : List Track) → Goes graph t u → AreOpen t [] own tracks
      → AreOpen u (waits_at plan u) true tracks
  come t u own [] goes h = tt
  come t u own (track ∷ tracks) goes h =
      let o = h.0 in (
        record {
          number = o.number;
          is = o.is;
          blocks = o.blocks;
          where_ = inl (⊎_elim (λ c. absurd (contains_none o.number c)) (λ p. (plain.waits u o.number).1 (o.blocks, (t, p.1, goes))) o.where_);
        },
        come t u own tracks goes h.1,
      )

  waited : (t c : ℕ) (cs : List ℕ) (own : Bool) (tracks : List Track) → AreOpen t (c ∷ cs) own tracks
      → AreOpen t cs own (without_counter c tracks)
  waited t c cs own [] h = tt
  waited t c cs own (track ∷ tracks) h = by (is_counter c track) refl (waited t c cs own tracks h.1)
    where
      differs : (x : ℕ) → track ≡ Counter x → is_counter c track ≡ false → c ≡ x → ⊥
      differs x e f g =
          let same : is_counter c track ≡ true = ap (is_counter c) e ∙ (Decides-eqb x c).1 (sym g) in cc

      by : (b : Bool) → is_counter c track ≡ b → AreOpen t cs own (without_counter c tracks)
          → AreOpen t cs own (if b then without_counter c tracks else track ∷ without_counter c tracks)
      by true e ih = ih
      by false e ih =
          let o = h.0 in (
            record {
              number = o.number;
              is = o.is;
              blocks = o.blocks;
              where_ = ⊎_elim
                  (λ i. ⊎_elim (λ s. absurd (differs o.number o.is e s)) (λ j. inl j) (contains_cons c cs o.number i))
                  (λ p. inr p) o.where_;
            },
            ih,
          )

  not_zero : Blocks graph 0 → ⊥
  not_zero b = let e = b.1 in cc

  -- what is waited for next, if it is for explicit accesses, is a sync
  sync_open : (t : ℕ) (left : List ℕ) (own : Bool) (c : ℕ) (tracks : List Track) → MayWait graph t left own c
      → Left left → AreOpen t left own tracks
      → (c == 0) ≡ true → tracks ≡ []
  sync_open t [] own c tracks w l h z = none_left t [] own tracks refl w.0 h
  sync_open t (x ∷ xs) own c tracks w l h z =
      absurd (not_zero (subst (Blocks graph) (sym w ∙ (Decides-eqb c 0).0 z) (l x (0, omega arith, refl))))

  wait_open : (t : ℕ) (left : List ℕ) (own : Bool) (c : ℕ) (tracks : List Track) → MayWait graph t left own c
      → AreOpen t left own tracks
      → AreOpen t (others left) (own_after left own) (without_counter c tracks)
  wait_open t [] own c tracks w h =
      subst (λ l. AreOpen t [] false (without_counter c l)) (sym (none_left t [] own tracks refl w.0 h)) tt
  wait_open t (x ∷ xs) own c tracks w h =
      subst (λ k. AreOpen t xs own (without_counter k tracks)) (sym w) (waited t x xs own tracks h)

  wait_left : (left : List ℕ) → Left left → Left (others left)
  wait_left [] l = l
  wait_left (c ∷ cs) l = λ x i. l x (let k = i.0 in let lt = i.1 in (suc k, omega (arith, lt), i.2))

  none_goes : (number : ℕ) → goes_one_way plan number ≡ true → ⊥
  none_goes number h =
      let e = plain.none_one_way in
      let f : goes_one_way (record plan { oneway = [] }) number ≡ true = subst (λ l. goes_one_way (record plan { oneway = l }) number ≡ true) e h in
      cc

  -- a blocking access of a site is waited for on the site's counter
  kind_open : (number : ℕ) (kind : SiteKind) (a : Access) → AccessFor plan number kind a
      → is_blocking (track_of a) ≡ true
      → (track_of a ≡ Counter number) × (graphs.is_blocking kind ≡ true)
  kind_open number site.Read (access.Read place track) h b = (h, refl)
  kind_open number site.Write (access.Write place value track) h b = (⊎_elim (λ p. absurd (none_goes number p.1)) (λ p. p.0) h, refl)
  kind_open number site.Get (access.Read place track) h b = let e = ap is_blocking h in absurd (cc)
  kind_open number site.Put (access.Write place value track) h b = let e = ap is_blocking h in absurd (cc)
  kind_open number site.Store (access.Write place value track) h b = let e = ap is_blocking h in absurd (cc)
  kind_open number (site.Copy Blocking) (access.Copy from to cells track) h b = (h, refl)
  kind_open number (site.Copy Split) (access.Copy from to cells track) h b = let e = ap is_blocking h in absurd (cc)
  kind_open number (site.Copy OneWay) (access.Copy from to cells track) h b = let e = ap is_blocking h in absurd (cc)
  kind_open number kind a h b = absurd h

  access_open : (t : ℕ) (a : Access) → AccessAt graph plan t a
      → AreOpen t [] false (if is_blocking (track_of a) then track_of a ∷ [] else [])
  access_open t a at_ = by (is_blocking (track_of a)) refl
    where
      by : (b : Bool) → is_blocking (track_of a) ≡ b → AreOpen t [] false (if b then track_of a ∷ [] else [])
      by true e =
          let k = kind_open at_.number at_.what.kind a at_.tracked e in
          (record { number = at_.number; is = k.0; blocks = (at_.what, at_.is_site, k.1); where_ = inr (refl, at_.is_at) }, tt)
      by false e = tt

  plan_left : (u : ℕ) → Left (waits_at plan u)
  plan_left u x i = ((plain.waits u x).0 i).0

  abbrev pub run_by : PointedAsking → List Answer → RunOf Ask Halt
  run_by d given = run_of (forgotten d) given

  pub walk_plain : (d : PointedAsking) (given : List Answer) (t : ℕ) (left : List ℕ) (own : Bool) (tracks : List Track)
      → Walks graph plan t left own d
      → Left left → AreOpen t left own tracks → ArePlain tracks (run_by d given).events
  unfolding Walks
  walk_plain (Makes (Came u) rest) given t left own tracks w l h =
      walk_plain rest given u (waits_at plan u) true tracks w.3 (plan_left u) (come t u own tracks w.1 (subst (λ l. AreOpen t l own tracks) w.0 h))
  walk_plain (Makes (Asked (Issue a)) rest) given t left own tracks w l h =
      let none = none_left t left own tracks w.0 w.1 h in
      let here : AreOpen t [] false (after_ask tracks (Issue a)) =
      subst (λ ts. AreOpen t [] false (if is_blocking (track_of a) then track_of a ∷ ts else ts)) (sym none) (access_open t a w.2) in
      (λ r. none, walk_plain rest given t [] false (after_ask tracks (Issue a)) w.3 (λ x i. absurd (contains_none x i)) here)
  walk_plain (Makes (Asked (Arrive stores)) rest) given t left own tracks w l h =
      let none = none_left t left own tracks w.0 w.1 h in
      (λ r. none, walk_plain rest given t [] false tracks w.3 (λ x i. absurd (contains_none x i)) (subst (AreOpen t [] false) (sym none) tt))
  walk_plain (Makes (Asked (Wait counter)) rest) given t left own tracks w l h = absurd w
  walk_plain (Makes (Asked Pass) rest) given t left own tracks w l h = absurd w
  walk_plain (Asks (Asked (Wait counter)) fits go) [] t left own tracks w l h = (λ z. sync_open t left own counter tracks w.0 l h z, tt)
  walk_plain (Asks (Asked (Wait counter)) fits go) (a ∷ given) t left own tracks w l h =
      by (fits a) refl (λ f. walk_plain (go a) given t (others left) (own_after left own) (without_counter counter tracks) (w.1 a f) (wait_left left l) (wait_open t left own counter tracks w.0 h))
    where
      by : (b : Bool) → fits a ≡ b
          → (fits a ≡ true → ArePlain (without_counter counter tracks) (run_by (go a) given).events)
          → ArePlain tracks (if b then after_event (Wait counter) (run_by (go a) given) else unanswered (Wait counter)).events
      by true f ih = (λ z. sync_open t left own counter tracks w.0 l h z, ih f)
      by false f ih = (λ z. sync_open t left own counter tracks w.0 l h z, tt)
  walk_plain (Asks (Asked Pass) fits go) [] t left own tracks w l h = (λ z. absurd (cc), tt)
  walk_plain (Asks (Asked Pass) fits go) (a ∷ given) t left own tracks w l h =
      by (fits a) refl (λ f. walk_plain (go a) given t left own tracks (w a f) l h)
    where
      by : (b : Bool) → fits a ≡ b → (fits a ≡ true → ArePlain tracks (run_by (go a) given).events)
          → ArePlain tracks (if b then after_event Pass (run_by (go a) given) else unanswered Pass).events
      by true f ih = (λ z. absurd (cc), ih f)
      by false f ih = (λ z. absurd (cc), tt)
  walk_plain (Asks (Asked (Issue a)) fits go) given t left own tracks w l h = absurd w
  walk_plain (Asks (Asked (Arrive stores)) fits go) given t left own tracks w l h = absurd w
  walk_plain (Asks (Came u) fits go) given t left own tracks w l h = absurd w
  walk_plain (Says text rest) given t left own tracks w l h = walk_plain rest given t left own tracks w l h
  walk_plain (Stops halt) given t left own tracks w l h = tt

  -- nothing is open at Start
  pub start_plain : (d : PointedAsking) (given : List Answer) → Walks graph plan 0 (waits_at plan 0) true d
      → ArePlain [] (run_by d given).events
  start_plain d given w = walk_plain d given 0 (waits_at plan 0) true [] w (plan_left 0) tt
