-- The demands of points, by a list of the blocking sites.
use Rattle.std.proofs.Common.{◌≡◌, ◌⊎◌, ℕ, zero, suc, ◌+◌, ◌<◌, ◌≤◌, List, [], ◌∷◌, ◌++◌, true, false, Option, Some, None, length, get_or, refl, sym, ap, ◌∙◌, subst, inl, inr, ⊎_elim, arith}
use Rattle.std.specs.List.{Contains, slice_get}
use Rattle.std.specs.Option.{option_map_or}
use Rattle.std.proofs.lemmas.Bool.{cases_eq}
use Rattle.std.proofs.lemmas.List.Elements.{Contains-append_left, Contains-push, Contains-push_cases, Contains-get_or}
use Rattle.std.proofs.lemmas.Option.{slice_get_within, slice_get-get_or, get_or_from_slice_get}
use Rattle.site_graph.specs.declared.point.Point.{Point}
use Rattle.site_graph.specs.declared.point.PointKind.TheVariants.{Plain, Access}
use Rattle.site_graph.specs.declared.site.Site.{Site}
use Rattle.site_graph.specs.Bits.{Bits, IsSet, IsOf, IsWith, no_bits}
use Rattle.site_graph.specs.Graph.{Graph, kind_at, site_at, IsAt, is_barrier}
use Rattle.site_graph.specs.Kept.{IsFlow, IsSiteOf}
use Rattle.site_graph.specs.Plans.{Uses, takes, names, returns}
use Rattle.site_graph.specs.Ways.{Goes}
use Rattle.site_graph.proofs.Members.{in_nil}
use Rattle.site_graph.proofs.Starts.{none_of, as_bits, leads_as}
use Rattle.pending_flow.specs.Pending.{IsFirstDemand, ArePending}
use Rattle.sync_place.specs.declared.demanding.Blocking.{Blocking}
use Rattle.sync_place.specs.Demanding.{AreDemands, AreFirst, IsBlocking, Accesses, AreBlocking, PointDemands, Marks, IsMarked}
use Rattle.sync_place.specs.Placed.{Demanded, Demand, First, at_barrier, by_delay, by_use}

-- ---- points and sites

pub kind_from : (graph : Graph) (a : ℕ) (p : Point) → slice_get graph.points a ≡ Some p → kind_at graph a ≡ p.kind
kind_from graph a p s = ap (λ o. option_map_or (λ (q : Point). q.kind) o Plain) s

-- a point that is not plain is one of the flow's
point_of : (graph : Graph) (a : ℕ) → (kind_at graph a ≡ Plain → ⊥) → (p : Point) × (slice_get graph.points a ≡ Some p)
point_of graph a h = some_or (slice_get graph.points a) refl
  where
    some_or : (o : Option Point) → slice_get graph.points a ≡ o → (p : Point) × (slice_get graph.points a ≡ Some p)
    some_or (Some p) e = (p, e)
    some_or None e = absurd (h (ap (λ o. option_map_or (λ (q : Point). q.kind) o Plain) e))

pub access_point : (graph : Graph) (number a : ℕ) → IsAt graph number a → (p : Point) × (slice_get graph.points a ≡ Some p) × (p.kind ≡ Access number)
access_point graph number a is =
    let p = point_of graph a (λ e. let c : Plain ≡ Access number = sym e ∙ is in cc) in
    (p.0, p.1, sym (kind_from graph a p.0 p.1) ∙ is)

pub site_within : (graph : Graph) (number : ℕ) (s : Site) → site_at graph number ≡ Some s → IsSiteOf graph number
site_within graph zero s e = cc
site_within graph (suc n) s e = let l = slice_get_within graph.sites n s e in (omega arith, omega arith)

barrier_point : (graph : Graph) (t : ℕ) → is_barrier (kind_at graph t) ≡ true → t < length graph.points
barrier_point graph t b =
    let p = point_of graph t (λ e. let c : false ≡ true = sym (ap is_barrier e) ∙ b in cc) in
    slice_get_within graph.points t p.0 p.1

uses_within : (graph : Graph) (site t : ℕ) → Uses graph site t → t < length graph.points
uses_within graph site t (takes p s i) = slice_get_within graph.points t p s
uses_within graph site t (names s local a p q is f at sp sq e n) = slice_get_within graph.points t q sq
uses_within graph site t (returns s local a p q is f at sp sq e n) = slice_get_within graph.points t q sq

demanded_within : (graph : Graph) (delays : Bits) (site t : ℕ) → Demanded graph delays site t → t < length graph.points
demanded_within graph delays site t (at_barrier b) = barrier_point graph t b
demanded_within graph delays site t (by_delay b is set) = let p = access_point graph b t is in slice_get_within graph.points t p.0 p.1
demanded_within graph delays site t (by_use u) = uses_within graph site t u

pub demand_within : (graph : Graph) (delays : Bits) (site t : ℕ) → Demand graph delays site t → (site < length graph.sites + 1) × (t < length graph.points)
demand_within graph delays site t (blocks, d) =
    let w = site_within graph site blocks.0 blocks.1 in
    (omega (arith, w.1), demanded_within graph delays site t d)

-- ---- the blocking sites, point after point

pub none_blocking : (graph : Graph) → AreBlocking graph 0 []
none_blocking graph = record {
  each = λ b i. absurd (in_nil b i);
  all = λ a number p l s h. absurd (omega arith);
}

pub no_more_blocking : (graph : Graph) (n : ℕ) (p : Point) (bs : List Blocking) → slice_get graph.points n ≡ Some p → ((number : ℕ) → Accesses graph p number → ⊥)
    → AreBlocking graph n bs → AreBlocking graph (n + 1) bs
no_more_blocking graph n p bs s none b = record {
  each = λ x i. let e = b.each x i in (e.0, e.1, omega (arith, e.2), e.3, e.4);
  all = λ a number q l t h. ⊎_elim
      (λ e. let same : Some q ≡ Some p = sym t ∙ (ap (λ m. slice_get graph.points m) e ∙ s) in
      let eq : q ≡ p = cc in
      absurd (none number (subst (λ x. Accesses graph x number) eq h)))
      (λ e. b.all a number q (omega arith) t h) (cases_eq a n);
}

pub more_blocking : (graph : Graph) (n : ℕ) (p : Point) (x : Blocking) (bs more : List Blocking) → slice_get graph.points n ≡ Some p → IsBlocking graph p x → more ≡ bs ++ x ∷ []
    → AreBlocking graph n bs → AreBlocking graph (n + 1) more
more_blocking graph n p x bs more s is e b = subst (AreBlocking graph (n + 1)) (sym e) (record {
  each = λ y i. ⊎_elim
      (λ j. let f = b.each y j in (f.0, f.1, omega (arith, f.2), f.3, f.4))
      (λ q. (n, p, omega arith, s, subst (IsBlocking graph p) q is))
      (Contains-push_cases bs x y i);
  all = λ a number q l t h. ⊎_elim
      (λ c. let same : Some q ≡ Some p = sym t ∙ (ap (λ m. slice_get graph.points m) c ∙ s) in
      let eq : q ≡ p = cc in
      let kinds : Access x.site ≡ Access number = sym is.access ∙ (ap (λ (y : Point). y.kind) (sym eq) ∙ h.0) in
      let at : x.site ≡ number = cc in
      (x, Contains-push bs x, at))
      (λ c. let f = b.all a number q (omega arith) t h in (f.0, Contains-append_left bs (x ∷ []) f.0 f.1, f.2)) (cases_eq a n);
})

-- ---- what is marked for a point

pub none_marked : (p : Point) (at : ℕ) (bs : List Blocking) (delays bits : Bits) → IsMarked p at bs 0 delays bits bits
none_marked p at bs delays bits = record {
  same_rows = refl;
  same_columns = refl;
  pairs = λ r c. (inl, λ s. ⊎_elim (λ o. o) (λ n. absurd (omega (arith, n.1.2))) s);
}

pub one_marked : (p : Point) (at : ℕ) (bs : List Blocking) (n : ℕ) (b : Blocking) (delays old bits new : Bits) → slice_get bs n ≡ Some b → PointDemands p b delays
    → IsWith b.site at bits new → IsMarked p at bs n delays old bits → IsMarked p at bs (n + 1) delays old new
one_marked p at bs n b delays old bits new s d w m = record {
  same_rows = w.same_rows ∙ m.same_rows;
  same_columns = w.same_columns ∙ m.same_columns;
  pairs = λ r c. (
    (λ x. ⊎_elim
        (λ o. ⊎_elim inl (λ f. inr (f.0, (f.1.0, f.1.1, omega (arith, f.1.2), f.1.3, f.1.4, f.1.5))) ((m.pairs r c).0 o))
        (λ f. inr (f.1, (n, b, omega arith, s, sym f.0, d)))
        ((w.pairs r c).0 x)),
    (λ x. ⊎_elim (λ o. (w.pairs r c).1 (inl ((m.pairs r c).1 (inl o))))
        (λ (col, (k, b', l, t, same, e)). ⊎_elim
        (λ q. let eqs : Some b' ≡ Some b = sym t ∙ (ap (λ i. slice_get bs i) q ∙ s) in
        let eq : b' ≡ b = cc in
        (w.pairs r c).1 (inr (sym same ∙ ap (λ (y : Blocking). y.site) eq, col)))
        (λ q. (w.pairs r c).1 (inl ((m.pairs r c).1 (inr (col, (k, b', omega arith, t, same, e))))))
        (cases_eq k n)) x),
  );
}

pub not_marked : (p : Point) (at : ℕ) (bs : List Blocking) (n : ℕ) (b : Blocking) (delays old bits : Bits) → slice_get bs n ≡ Some b → (PointDemands p b delays → ⊥)
    → IsMarked p at bs n delays old bits → IsMarked p at bs (n + 1) delays old bits
not_marked p at bs n b delays old bits s d m = record {
  same_rows = m.same_rows;
  same_columns = m.same_columns;
  pairs = λ r c. (
    (λ x. ⊎_elim inl (λ f. inr (f.0, (f.1.0, f.1.1, omega (arith, f.1.2), f.1.3, f.1.4, f.1.5))) ((m.pairs r c).0 x)),
    (λ x. ⊎_elim (λ o. (m.pairs r c).1 (inl o))
        (λ (col, (k, b', l, t, same, e)). ⊎_elim
        (λ q. let eqs : Some b' ≡ Some b = sym t ∙ (ap (λ i. slice_get bs i) q ∙ s) in
        let eq : b' ≡ b = cc in
        absurd (d (subst (λ y. PointDemands p y delays) eq e)))
        (λ q. (m.pairs r c).1 (inr (col, (k, b', omega arith, t, same, e))))
        (cases_eq k n)) x),
  );
}

-- ---- what is marked is demanded, and the other way round

demanded_from : (graph : Graph) (delays : Bits) (at a : ℕ) (p q : Point) (b : Blocking) → slice_get graph.points at ≡ Some p → slice_get graph.points a ≡ Some q
    → IsBlocking graph q b → PointDemands p b delays → Demanded graph delays b.site at
demanded_from graph delays at a p q b sp sq is (inl t) = at_barrier (ap is_barrier (kind_from graph at p sp) ∙ t)
demanded_from graph delays at a p q b sp sq is (inr (inl (n, k, s))) = by_delay n (kind_from graph at p sp ∙ k) s
demanded_from graph delays at a p q b sp sq is (inr (inr (inl i))) = by_use (takes p sp i)
demanded_from graph delays at a p q b sp sq is (inr (inr (inr (local, f, e, inl r)))) =
    by_use (returns is.site local a q p is.is_site (is.fills ∙ f) (kind_from graph a q sq ∙ is.access) sq sp (is.function ∙ e) r)
demanded_from graph delays at a p q b sp sq is (inr (inr (inr (local, f, e, inr n)))) =
    by_use (names is.site local a q p is.is_site (is.fills ∙ f) (kind_from graph a q sq ∙ is.access) sq sp (is.function ∙ e) n)

pub marks_demand : (graph : Graph) (delays : Bits) (at r : ℕ) (p : Point) (bs : List Blocking) (n : ℕ) → slice_get graph.points at ≡ Some p
    → AreBlocking graph (length graph.points) bs → Marks p bs n delays r → Demand graph delays r at
marks_demand graph delays at r p bs n sp all (k, b, l, s, same, d) =
    let e = all.each b (k, slice_get_within bs k b s, get_or_from_slice_get bs k b b s) in
    let f : Demand graph delays b.site at = ((e.4.site, e.4.is_site, e.4.blocks), demanded_from graph delays at e.0 p e.1 b sp e.3 e.4 d) in
    subst (λ x. Demand graph delays x at) same f

same_some : {X : Type 0} (x y : X) → Some x ≡ Some y → x ≡ y
same_some x y e = cc

-- the point of the site fills the local in the function
filled_by : (graph : Graph) (r local a c : ℕ) (s : Site) (p q x : Point) (b : Blocking) → IsFlow graph → IsBlocking graph x b → b.site ≡ r → site_at graph r ≡ Some s → s.fills ≡ Some local
    → IsAt graph r a → slice_get graph.points a ≡ Some q → slice_get graph.points c ≡ Some x → q.function ≡ p.function → (b.fills ≡ Some local) × (b.function ≡ p.function)
filled_by graph r local a c s p q x b kept is same at_r f at sq sx e =
    let sites : is.site ≡ s = same_some is.site s (sym is.is_site ∙ (ap (site_at graph) same ∙ at_r)) in
    let here : IsAt graph r c = kind_from graph c x sx ∙ (is.access ∙ ap Access same) in
    let points : c ≡ a = kept.one_point r c a here at in
    let eq : x ≡ q = same_some x q (sym sx ∙ (ap (λ m. slice_get graph.points m) points ∙ sq)) in
    (sym is.fills ∙ (ap (λ (y : Site). y.fills) sites ∙ f), sym is.function ∙ (ap (λ (y : Point). y.function) eq ∙ e))

used_to : (graph : Graph) (delays : Bits) (at r c : ℕ) (p x : Point) (b : Blocking) → IsFlow graph → slice_get graph.points at ≡ Some p → slice_get graph.points c ≡ Some x
    → IsBlocking graph x b → b.site ≡ r → Uses graph r at → PointDemands p b delays
used_to graph delays at r c p x b kept sp sx is same (takes q sq i) =
    let eq : q ≡ p = same_some q p (sym sq ∙ sp) in
    inr (inr (inl (subst (λ y. Contains p.takes y) (sym same) (subst (λ (y : Point). Contains y.takes r) eq i))))
used_to graph delays at r c p x b kept sp sx is same (names s local a q t at_r f at_a sq st e n) =
    let eq : t ≡ p = same_some t p (sym st ∙ sp) in
    let g = filled_by graph r local a c s p q x b kept is same at_r f at_a sq sx (e ∙ ap (λ (y : Point). y.function) eq) in
    inr (inr (inr (local, g.0, g.1, inr (subst (λ (y : Point). Contains y.reads local ⊎ (y.writes ≡ Some local)) eq n))))
used_to graph delays at r c p x b kept sp sx is same (returns s local a q t at_r f at_a sq st e n) =
    let eq : t ≡ p = same_some t p (sym st ∙ sp) in
    let g = filled_by graph r local a c s p q x b kept is same at_r f at_a sq sx (e ∙ ap (λ (y : Point). y.function) eq) in
    inr (inr (inr (local, g.0, g.1, inl (ap (λ (y : Point). y.kind) (sym eq) ∙ n))))

demanded_to : (graph : Graph) (delays : Bits) (at r c : ℕ) (p x : Point) (b : Blocking) → IsFlow graph → slice_get graph.points at ≡ Some p → slice_get graph.points c ≡ Some x
    → IsBlocking graph x b → b.site ≡ r → Demanded graph delays r at → PointDemands p b delays
demanded_to graph delays at r c p x b kept sp sx is same (at_barrier t) = inl (ap is_barrier (sym (kind_from graph at p sp)) ∙ t)
demanded_to graph delays at r c p x b kept sp sx is same (by_delay n here s) =
    inr (inl (n, sym (kind_from graph at p sp) ∙ here, subst (λ y. IsSet delays y n) (sym same) s))
demanded_to graph delays at r c p x b kept sp sx is same (by_use u) = used_to graph delays at r c p x b kept sp sx is same u

pub demand_marks : (graph : Graph) (delays : Bits) (at r : ℕ) (p : Point) (bs : List Blocking) → IsFlow graph → slice_get graph.points at ≡ Some p
    → AreBlocking graph (length graph.points) bs → Demand graph delays r at → Marks p bs (length bs) delays r
demand_marks graph delays at r p bs kept sp all ((s, is, blocks), d) =
    let here = kept.has_point r (site_within graph r s is) in
    let x = access_point graph r here.0 here.1 in
    let b = all.all here.0 r x.0 (slice_get_within graph.points here.0 x.0 x.1) x.1 (x.2, (s, is, blocks)) in
    let f = all.each b.0 b.1 in (
      b.1.0,
      b.0,
      b.1.1,
      slice_get-get_or bs b.1.0 b.0 b.1.1 ∙ ap Some b.1.2,
      b.2,
      demanded_to graph delays at r f.0 p f.1 b.0 kept sp f.3 f.4 b.2 d,
    )

-- ---- the demands, point after point

abbrev pub DemandsBelow : Graph → (delays : Bits) → (n : ℕ) → Bits → Type 0
DemandsBelow graph delays n bits = IsOf (length graph.sites + 1) (length graph.points) (λ r t. (t < n) × Demand graph delays r t) bits

pub none_demanded : (graph : Graph) (delays bits : Bits) (n m : ℕ) → bits ≡ no_bits n m → n ≡ length graph.sites + 1 → m ≡ length graph.points → DemandsBelow graph delays 0 bits
none_demanded graph delays bits n m e f g =
    none_of (length graph.sites + 1) (length graph.points) (λ r t. (t < 0) × Demand graph delays r t) bits
    (e ∙ (ap (λ x. no_bits x m) f ∙ ap (λ x. no_bits (length graph.sites + 1) x) g)) (λ r c h k q. absurd (omega (arith, q.0)))

pub more_demanded : (graph : Graph) (delays old new : Bits) (at : ℕ) (p : Point) (bs : List Blocking) → IsFlow graph → slice_get graph.points at ≡ Some p
    → AreBlocking graph (length graph.points) bs → IsMarked p at bs (length bs) delays old new → DemandsBelow graph delays at old → DemandsBelow graph delays (at + 1) new
more_demanded graph delays old new at p bs kept sp all m d = record {
  same_rows = m.same_rows ∙ d.same_rows;
  same_columns = m.same_columns ∙ d.same_columns;
  pairs = λ r c. (
    (λ x. ⊎_elim
        (λ o. let f = (d.pairs r c).0 o in (f.0, f.1, (omega (arith, f.2.0), f.2.1)))
        (λ f. let g = marks_demand graph delays at r p bs (length bs) sp all f.1 in
        let w = demand_within graph delays r at g in
        (w.0, omega (arith, f.0, w.1), (omega (arith, f.0), subst (Demand graph delays r) (sym f.0) g)))
        ((m.pairs r c).0 x)),
    (λ (h, k, (l, g)). ⊎_elim
        (λ e. (m.pairs r c).1 (inr (e, demand_marks graph delays at r p bs kept sp all (subst (Demand graph delays r) e g))))
        (λ e. (m.pairs r c).1 (inl ((d.pairs r c).1 (h, k, (omega arith, g)))))
        (cases_eq c at)),
  );
}

pub all_demanded : (graph : Graph) (delays bits : Bits) (n : ℕ) → length graph.points ≤ n → DemandsBelow graph delays n bits → AreDemands graph delays bits
all_demanded graph delays bits n l d =
    as_bits (length graph.sites + 1) (length graph.points) (λ r t. (t < n) × Demand graph delays r t) (Demand graph delays) bits d
    (λ r c h k q. q.1) (λ r c h k q. (omega arith, q))

-- ---- first demands

pub first_of : (graph : Graph) (delays demand first : Bits) → AreDemands graph delays demand → ArePending graph demand first → AreFirst graph delays first
first_of graph delays demand first d p =
    as_bits (length graph.sites + 1) (length graph.points) (IsFirstDemand graph demand) (First graph delays) first p
    (λ r t h k q. (
      ((d.pairs r t).0 q.0).2,
      (
        q.1.0,
        q.1.1,
        leads_as (Goes graph) (λ z. IsSet demand r z → ⊥) (λ z. Demand graph delays r z → ⊥)
            (λ z none g. none ((d.pairs r z).1 (let w = demand_within graph delays r z g in (w.0, w.1, g)))) q.1.0 t q.1.2,
      ),
    ))
    (λ r t h k q. (
      (d.pairs r t).1 (h, k, q.0),
      (
        q.1.0,
        q.1.1,
        leads_as (Goes graph) (λ z. Demand graph delays r z → ⊥) (λ z. IsSet demand r z → ⊥) (λ z none g. none ((d.pairs r z).0 g).2) q.1.0 t q.1.2,
      ),
    ))

-- ---- what is read

pub point_read : (graph : Graph) (points : List Point) (n : ℕ) (p : Point) → points ≡ graph.points → n < length points → p ≡ get_or points n p → slice_get graph.points n ≡ Some p
point_read graph points n p e l is = ap (λ ps. slice_get ps n) (sym e) ∙ (slice_get-get_or points n p l ∙ ap Some (sym is))

pub sites_within : (graph : Graph) (rows n : ℕ) (bs read : List Blocking) → IsFlow graph → rows ≡ length graph.sites + 1 → read ≡ bs → AreBlocking graph n bs
    → (k : ℕ) (d : Blocking) → k < length read → (get_or read k d).site < rows
sites_within graph rows n bs read kept e f b k d l =
    let long = ap (λ (xs : List Blocking). length xs) f in
    let same = ap (λ (xs : List Blocking). (get_or xs k d).site) f in
    let low : k < length bs = omega arith in
    let x = b.each (get_or bs k d) (Contains-get_or bs k d low) in
    let w = kept.access_within x.0 (get_or bs k d).site (kind_from graph x.0 x.1 x.3 ∙ x.4.access) in
    let at_most = w.1 in
    omega (arith, same, at_most, e)

pub blocking_at_end : (graph : Graph) (points : List Point) (n : ℕ) (bs : List Blocking) → points ≡ graph.points → length points ≤ n → n ≤ length points → AreBlocking graph n bs
    → AreBlocking graph (length graph.points) bs
blocking_at_end graph points n bs e l h b =
    let long = ap (λ (xs : List Point). length xs) e in
    let same : n ≡ length graph.points = omega arith in
    subst (λ m. AreBlocking graph m bs) same b
