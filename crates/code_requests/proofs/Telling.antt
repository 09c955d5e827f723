-- Where the values of a source's reads fit, its story does not stop short.
use Rattle.std.proofs.Common.{◌≡◌, ◌≢◌, ℕ, suc, ◌==◌, ◌&&◌, List, [], ◌∷◌, ◌++◌, map, Some, None, Bool, true, false, not, if◌then◌else◌, refl, sym, ap, ◌∙◌, subst}
use Rattle.std.specs.List.{All, filter_map, cons_option}
use Rattle.std.proofs.lemmas.Bool.{and_parts}
use Rattle.std.proofs.lemmas.List.{map-append}
use Rattle.std.proofs.lemmas.List.Elements.{All-nil, All-cons}
use Rattle.resumption.specs.Resumption.{Asks, Makes, Says, Stops, Short, after_event}
use Rattle.sc_base.specs.declared.value.Place.{Place}
use Rattle.sc_base.specs.declared.value.Value.{Value}
use Rattle.sc_layout.specs.Layout.{Arrangement}
use Rattle.sc_isa.specs.declared.access.Access.TheVariants as access
use Rattle.sc_isa.specs.declared.access.Track.{Track}
use Rattle.sc_isa.specs.declared.access.Track.TheVariants.{Counter, Store, Covered}
use Rattle.sc_isa.specs.Fitting.{fits, fits_all}
use Rattle.sc_isa.specs.Run.{Ask, Issue, Wait, Arrive, Pass}
use Rattle.sc_meaning.specs.declared.request.Request.{Request}
use Rattle.sc_meaning.specs.declared.request.Request.TheVariants as request
use Rattle.sc_meaning.specs.Asking as source
use Rattle.sc_meaning.specs.Asking.{PointedDoing, Requested, Came, Finishes, Breaks, fits_barrier}
use Rattle.sc_meaning.specs.OfAccess.{unlined, written_as}
use Rattle.value_soundness.specs.Lawful.{NamesOnly, AnswerNamesOnly}
use Rattle.value_soundness.proofs.Promises.{PromisesPointed}
use Rattle.node_emit.specs.Oracles.{Oracle, Story, requests, nothing_more, Progress, issued, waited, Told, told_after, answer_by, meeting, tells}
use Rattle.forgotten_marks.specs.Played.{request_shown, request_asked}
use Rattle.forgotten_marks.proofs.ToldRuns.{point_hidden}
use Rattle.code_requests.proofs.Oracled.{step_by}

module _ (layout : Arrangement) (oracle : Oracle) where
  -- the value of the request's read fits, where so many accesses were made before it
  abbrev pub FitsBy : ℕ → Request → Type 0
  FitsBy n (request.Read place line) = fits layout place (oracle.value n) ≡ true
  FitsBy n (request.Get place line) = fits layout place (oracle.value n) ≡ true
  FitsBy n _ = Unit {0}

  abbrev pub count_after : ℕ → Request → ℕ
  count_after n (request.Sync line) = n
  count_after n (request.Barrier line) = n
  count_after n (request.AllStoreSync line) = n
  count_after n _ = suc n

  abbrev pub FitRequests : ℕ → List Request → Type 0
  FitRequests n [] = Unit {0}
  FitRequests n (r ∷ rs) = FitsBy n r × FitRequests (count_after n r) rs

  pub front_fits : (n : ℕ) (rs more : List Request) → FitRequests n (rs ++ more) → FitRequests n rs
  front_fits n [] more h = tt
  front_fits n (r ∷ rs) more h = (h.0, front_fits (count_after n r) rs more h.1)

  fits_end : (gs : List Place) (vs : List Value) (place : Place) (v : Value) → fits_all layout gs vs ≡ true → fits layout place v ≡ true → fits_all layout (gs ++ place ∷ []) (vs ++ v ∷ []) ≡ true
  fits_end [] [] place v e f = ap (λ b. b && true) f
  fits_end [] (w ∷ vs) place v e f = absurd (cc)
  fits_end (g ∷ gs) [] place v e f = absurd (cc)
  fits_end (g ∷ gs) (w ∷ vs) place v e f =
      let h = and_parts (fits layout g w) (fits_all layout gs vs) e in
      ap (λ b. b && fits_all layout (gs ++ place ∷ []) (vs ++ v ∷ [])) h.0 ∙ fits_end gs vs place v h.1 f

  module _ (empty : ℕ → Bool) (exposed : List ℕ) (names : (place : Place) (v : Value) → fits layout place v ≡ true → NamesOnly exposed v) where
    abbrev shown_by : Told → PointedDoing → List Request
    shown_by t d = filter_map request_shown (tells oracle empty t d).events

    names_all : (gs : List Place) (vs : List Value) → fits_all layout gs vs ≡ true → All (NamesOnly exposed) vs
    names_all [] [] e = All-nil (NamesOnly exposed)
    names_all [] (v ∷ vs) e = absurd (cc)
    names_all (g ∷ gs) [] e = absurd (cc)
    names_all (g ∷ gs) (v ∷ vs) e =
        let h = and_parts (fits layout g v) (fits_all layout gs vs) e in All-cons (NamesOnly exposed) v vs (names g v h.0) (names_all gs vs h.1)

    meets_fit : (t : Told) → fits_barrier (meeting oracle t) ≡ true
    meets_fit t = go (oracle.passes t.barriers)
      where
        go : (b : Bool) → fits_barrier (if b then source.Passed else source.Broken) ≡ true
        go true = refl
        go false = refl

    meets_names : (t : Told) → AnswerNamesOnly exposed (meeting oracle t)
    meets_names t = go (oracle.passes t.barriers)
      where
        go : (b : Bool) → AnswerNamesOnly exposed (if b then source.Passed else source.Broken)
        go true = tt
        go false = tt

    on_end : (b : Bool) (r : Request) (x : Story) (n : ℕ) → b ≡ true → FitRequests n (filter_map request_shown (if b then x else nothing_more).events)
        → (FitRequests n (filter_map request_shown x.events) → x.end ≢ Short) → (after_event (requests (unlined r)) (if b then x else nothing_more)).end ≢ Short
    on_end true r x n e f h = h f
    on_end false r x n e f h = absurd (cc)

    pub tells_end : (d : PointedDoing) (gs : List Place) (t : Told) → PromisesPointed layout exposed gs d → fits_all layout gs (map oracle.value t.gets) ≡ true
        → FitRequests t.accesses (shown_by t d) → (tells oracle empty t d).end ≢ Short
    tells_end (Asks (Requested (request.Read place line)) test go) gs t pr g f =
        let r = request.Read place line in
        let a = answer_by oracle t r in
        let fit = pr.0.fits a ∙ f.0 in
        on_end (test a) r (tells oracle empty (told_after t r) (go a)) (suc t.accesses) fit f.1
        (λ k. tells_end (go a) gs (told_after t r) (pr.1 a fit (names place (oracle.value t.accesses) f.0)) g k)
    tells_end (Asks (Requested (request.Sync line)) test go) gs t pr g f =
        let r = request.Sync line in
        let a = answer_by oracle t r in
        let fit = pr.0.fits a ∙ g in
        on_end (test a) r (tells oracle empty (told_after t r) (go a)) t.accesses fit f.1
        (λ f. tells_end (go a) [] (told_after t r) (pr.1 a fit (names_all gs (map oracle.value t.gets) g)) refl f)
    tells_end (Asks (Requested (request.Barrier line)) test go) gs t pr g f =
        let r = request.Barrier line in
        let a = meeting oracle t in
        let fit = pr.0.fits a ∙ meets_fit t in
        on_end (test a) r (tells oracle empty (told_after t r) (go a)) t.accesses fit f.1
        (λ f. tells_end (go a) gs (told_after t r) (pr.1 a fit (meets_names t)) g f)
    tells_end (Asks (Requested (request.AllStoreSync line)) test go) gs t pr g f =
        let r = request.AllStoreSync line in
        let a = meeting oracle t in
        let fit = pr.0.fits a ∙ meets_fit t in
        on_end (test a) r (tells oracle empty (told_after t r) (go a)) t.accesses fit f.1
        (λ f. tells_end (go a) gs (told_after t r) (pr.1 a fit (meets_names t)) g f)
    tells_end (Asks (Requested (request.Write place v line)) test go) gs t pr g f = absurd (let e = pr.0.asked in cc)
    tells_end (Asks (Requested (request.Get place line)) test go) gs t pr g f = absurd (let e = pr.0.asked in cc)
    tells_end (Asks (Requested (request.Put place v line)) test go) gs t pr g f = absurd (let e = pr.0.asked in cc)
    tells_end (Asks (Requested (request.Store place v line)) test go) gs t pr g f = absurd (let e = pr.0.asked in cc)
    tells_end (Asks (Requested (request.Copy from to cells mode line)) test go) gs t pr g f = absurd (let e = pr.0.asked in cc)
    tells_end (Asks (Came point) test go) gs t pr g f = absurd pr
    tells_end (Makes (Requested (request.Get place line)) rest) gs t pr g f =
        tells_end rest (gs ++ place ∷ []) (told_after t (request.Get place line)) pr.1
        (ap (λ vs. fits_all layout (gs ++ place ∷ []) vs) (map-append oracle.value t.gets (t.accesses ∷ [])) ∙ fits_end gs (map oracle.value t.gets) place (oracle.value t.accesses) g f.0) f.1
    tells_end (Makes (Requested (request.Write place v line)) rest) gs t pr g f = tells_end rest gs (told_after t (request.Write place v line)) pr.1 g f.1
    tells_end (Makes (Requested (request.Put place v line)) rest) gs t pr g f = tells_end rest gs (told_after t (request.Put place v line)) pr.1 g f.1
    tells_end (Makes (Requested (request.Store place v line)) rest) gs t pr g f = tells_end rest gs (told_after t (request.Store place v line)) pr.1 g f.1
    tells_end (Makes (Requested (request.Copy from to cells mode line)) rest) gs t pr g f = tells_end rest gs (told_after t (request.Copy from to cells mode line)) pr.1 g f.1
    tells_end (Makes (Requested (request.Read place line)) rest) gs t pr g f = absurd (let e = pr.0.made in cc)
    tells_end (Makes (Requested (request.Sync line)) rest) gs t pr g f = absurd (let e = pr.0.made in cc)
    tells_end (Makes (Requested (request.Barrier line)) rest) gs t pr g f = absurd (let e = pr.0.made in cc)
    tells_end (Makes (Requested (request.AllStoreSync line)) rest) gs t pr g f = absurd (let e = pr.0.made in cc)
    tells_end (Makes (Came point) rest) gs t pr g f =
        let hidden = point_hidden empty point (tells oracle empty t rest) in
        let same = ap (λ s. s.events) hidden in
        let ends = ap (λ s. s.end) hidden in
        λ e. tells_end rest gs t pr g (subst (λ rs. FitRequests t.accesses rs) same f) (sym ends ∙ e)
    tells_end (Says text rest) gs t pr g f = tells_end rest gs t pr g f
    tells_end (Stops (Finishes end)) gs t pr g f = λ e. cc
    tells_end (Stops Breaks) gs t pr g f = absurd pr

  -- ---- the same of asks

  abbrev pub FitAsks : Progress → List Ask → Type 0
  FitAsks p [] = Unit {0}
  FitAsks p (Issue (access.Read place track) ∷ asks) = (fits layout place (oracle.value p.accesses) ≡ true) × FitAsks (step_by p (Issue (access.Read place track))) asks
  FitAsks p (ask ∷ asks) = FitAsks (step_by p ask) asks

  read_fits : (b : Bool) (n : ℕ) (place : Place) (rest : List Request) → fits layout place (oracle.value n) ≡ true → FitRequests (suc n) rest
      → FitRequests n ((if b then request.Read place 0 else request.Get place 0) ∷ rest)
  read_fits true n place rest f h = (f, h)
  read_fits false n place rest f h = (f, h)

  write_fits : (track : Track) (n : ℕ) (place : Place) (v : Value) (rest : List Request) → FitRequests (suc n) rest
      → FitRequests n (written_as track (request.Write place v 0) (request.Put place v 0) (request.Store place v 0) ∷ rest)
  write_fits (Counter k) n place v rest h = go (k == 0)
    where
      go : (b : Bool) → FitRequests n ((if b then request.Put place v 0 else request.Write place v 0) ∷ rest)
      go true = (tt, h)
      go false = (tt, h)
  write_fits Store n place v rest h = (tt, h)
  write_fits Covered n place v rest h = (tt, h)

  wait_fits : (b : Bool) (n : ℕ) (rest : List Request) → FitRequests n rest → FitRequests n (cons_option (if b then Some (request.Sync 0) else None) rest)
  wait_fits true n rest h = (tt, h)
  wait_fits false n rest h = h

  pub asks_fit : (asks : List Ask) (p : Progress) → FitAsks p asks → FitRequests p.accesses (filter_map request_asked asks)
  asks_fit [] p h = tt
  asks_fit (Issue (access.Read place (Counter k)) ∷ asks) p h = read_fits (not (k == 0)) p.accesses place (filter_map request_asked asks) h.0 (asks_fit asks (issued (access.Read place (Counter k)) p) h.1)
  asks_fit (Issue (access.Read place Store) ∷ asks) p h = (h.0, asks_fit asks (issued (access.Read place Store) p) h.1)
  asks_fit (Issue (access.Read place Covered) ∷ asks) p h = (h.0, asks_fit asks (issued (access.Read place Covered) p) h.1)
  asks_fit (Issue (access.Write place v track) ∷ asks) p h = write_fits track p.accesses place v (filter_map request_asked asks) (asks_fit asks (issued (access.Write place v track) p) h)
  asks_fit (Issue (access.Copy from to cells track) ∷ asks) p h = (tt, asks_fit asks (issued (access.Copy from to cells track) p) h)
  asks_fit (Wait counter ∷ asks) p h = wait_fits (counter == 0) p.accesses (filter_map request_asked asks) (asks_fit asks (waited counter p) h)
  asks_fit (Arrive true ∷ asks) p h = (tt, asks_fit asks p h)
  asks_fit (Arrive false ∷ asks) p h = (tt, asks_fit asks p h)
  asks_fit (Pass ∷ asks) p h = asks_fit asks (record p { barriers = suc p.barriers }) h
