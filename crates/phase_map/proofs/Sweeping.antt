-- The barriers ahead of points, edge after edge.
use Rattle.std.proofs.Common.{◌≡◌, ◌⊎◌, ◌↔◌, ℕ, ◌+◌, ◌<◌, ◌≤◌, List, [], ◌∷◌, ◌++◌, Bool, true, false, ◌||◌, ◌==◌, cond, Some, length, get_or, replicate, refl, sym, ap, ◌∙◌, subst, inl, inr, ⊎_elim, arith}
use Rattle.std.specs.List.{Contains, slice_get}
use Rattle.std.proofs.Math.ListN.{set, length-set, take, drop}
use Rattle.std.proofs.Math.Seq.{take-length}
use Rattle.std.proofs.lemmas.Bool.{cases_eq, cases_lt, cases_Bool, both_ways, false_from_ne_true, or_left, or_right, or_cases, eqb-true, eq-eqb}
use Rattle.std.proofs.lemmas.List.{get_or-set_same, get_or-set_other, get_or-replicate, get_or_past, length-replicate, take-append-le}
use Rattle.std.proofs.lemmas.List.Sums.{sum_by-set}
use Rattle.std.proofs.lemmas.Option.{slice_get-get_or, slice_get_within, get_or_from_slice_get}
use Rattle.effect_order.specs.Flow.{PathBy}
use Rattle.site_graph.specs.declared.flow.Edge.{Edge}
use Rattle.site_graph.specs.declared.point.Point.{Point}
use Rattle.site_graph.specs.Graph.{Graph, kind_at, is_barrier}
use Rattle.site_graph.proofs.PointKinds.{kind_of}
use Rattle.site_graph.specs.Ways.{Goes}
use Rattle.phase_map.specs.declared.aligning.Ahead.{Ahead}
use Rattle.phase_map.specs.declared.aligning.Ahead.TheVariants.{Nothing, One, More}
use Rattle.phase_map.specs.Uneven.{UnevenPoint}
use Rattle.phase_map.specs.Meeting.{Aligned}
use Rattle.phase_map.specs.Aligning.{joined_of, IsAhead, IsSound, Covers, noted_at, AreSound, AreAhead, seen_at, IsHanded, room_of, room, IsPassed, IsSwept}
use Rattle.phase_map.proofs.Notes.{NoneOf}

join_sound : (graph : Graph) (t : ℕ) (v w : Ahead) → IsSound graph t v → IsSound graph t w → IsSound graph t (joined_of v w)
join_sound graph t Nothing w a b = b
join_sound graph t (One x) Nothing a b = a
join_sound graph t (One x) (One y) a b = by_test (x == y) refl
  where
    by_test : (e : Bool) → (x == y) ≡ e → IsSound graph t (cond e (One x) More)
    by_test true e = a
    by_test false e = (x, y, (λ q. both_ways _ e (eq-eqb x y q)), a, b)
join_sound graph t (One x) More a b = b
join_sound graph t More w a b = a

join_room : (v w : Ahead) → (joined_of v w ≡ v → ⊥) → room_of (joined_of v w) < room_of v
join_room Nothing Nothing h = absurd (h refl)
join_room Nothing (One y) h = omega arith
join_room Nothing More h = omega arith
join_room (One x) Nothing h = absurd (h refl)
join_room (One x) (One y) h = by_test (x == y) h
  where
    by_test : (e : Bool) → (cond e (One x) More ≡ One x → ⊥) → room_of (cond e (One x) More) < 1
    by_test true h = absurd (h refl)
    by_test false h = omega arith
join_room (One x) More h = omega arith
join_room More w h = absurd (h refl)

join_covers : (v w : Ahead) → joined_of v w ≡ v → (b : ℕ) → Covers w b → Covers v b
join_covers Nothing w e b c = subst (λ u. Covers u b) e c
join_covers (One x) Nothing e b c = absurd c
join_covers (One x) (One y) e b c = by_test (x == y) refl e
  where
    by_test : (t : Bool) → (x == y) ≡ t → cond t (One x) More ≡ One x → x ≡ b
    by_test true t e = eqb-true x y t ∙ c
    by_test false t e = cc
join_covers (One x) More e b c = cc
join_covers More w e b c = tt

-- ---- one edge

further : (graph : Graph) (from to b : ℕ) → Goes graph from to → is_barrier (kind_at graph to) ≡ false → IsAhead graph to b → IsAhead graph from b
further graph from to b goes free (bar, (zs, path)) = (bar, (to ∷ zs, (goes, free, path)))

seen_sound : (graph : Graph) (old : List Ahead) (from to : ℕ) → Goes graph from to → AreSound graph old → IsSound graph from (seen_at graph old to)
seen_sound graph old from to goes s = by_test (is_barrier (kind_at graph to)) refl
  where
    handed : (v : Ahead) → is_barrier (kind_at graph to) ≡ false → IsSound graph to v → IsSound graph from v
    handed Nothing free h = tt
    handed (One b) free h = further graph from to b goes free h
    handed More free (a, b, differ, x, y) = (a, b, differ, further graph from to a goes free x, further graph from to b goes free y)

    by_test : (e : Bool) → is_barrier (kind_at graph to) ≡ e → IsSound graph from (cond e (One to) (noted_at old to))
    by_test true e = (e, ([], goes))
    by_test false e = handed (noted_at old to) e (s to)

pub pass_more : (graph : Graph) (edge : Edge) (old : List Ahead) (seen : Ahead) → edge.from < length old → seen ≡ seen_at graph old edge.to
    → (joined_of (noted_at old edge.from) seen ≡ noted_at old edge.from → ⊥)
    → IsPassed graph edge old (set old edge.from (joined_of (noted_at old edge.from) seen)) true
pass_more graph edge old seen l is fresh = record {
  count = length-set {A = Ahead} old edge.from (joined_of (noted_at old edge.from) seen);
  sound = λ goes s t. ⊎_elim
      (λ e. subst (λ u. IsSound graph u (noted_at (set old edge.from (joined_of (noted_at old edge.from) seen)) u)) (sym e)
      (subst (IsSound graph edge.from) (sym (get_or-set_same old edge.from (joined_of (noted_at old edge.from) seen) Nothing l))
      (join_sound graph edge.from (noted_at old edge.from) seen (s edge.from) (subst (IsSound graph edge.from) (sym is) (seen_sound graph old edge.from edge.to goes s)))))
      (λ e. subst (IsSound graph t) (sym (get_or-set_other old edge.from t (joined_of (noted_at old edge.from) seen) Nothing e)) (s t)) (cases_eq t edge.from);
  none = λ e. cc;
  some = λ e.
      let sums = sum_by-set room_of old edge.from (joined_of (noted_at old edge.from) seen) Nothing l in
      let less = join_room (noted_at old edge.from) seen fresh in
      omega (arith, sums, less);
}

pub pass_none : (graph : Graph) (edge : Edge) (old : List Ahead) (seen : Ahead) → seen ≡ seen_at graph old edge.to
    → joined_of (noted_at old edge.from) seen ≡ noted_at old edge.from → IsPassed graph edge old old false
pass_none graph edge old seen is same = record {
  count = refl;
  sound = λ goes s. s;
  none = λ e. (refl, λ b c. join_covers (noted_at old edge.from) seen same b (subst (λ v. Covers v b) (sym is) c));
  some = λ e. cc;
}

seen_barrier : (graph : Graph) (old : List Ahead) (to : ℕ) → is_barrier (kind_at graph to) ≡ true → One to ≡ seen_at graph old to
seen_barrier graph old to e = ap (λ b. cond b (One to) (noted_at old to)) (sym e)

seen_other : (graph : Graph) (old : List Ahead) (to : ℕ) → is_barrier (kind_at graph to) ≡ false → noted_at old to ≡ seen_at graph old to
seen_other graph old to e = ap (λ b. cond b (One to) (noted_at old to)) (sym e)

pub seen_by : (graph : Graph) (points : List Point) (old : List Ahead) (to : ℕ) (p : Point) (b : Bool) (seen : Ahead) → points ≡ graph.points → to < length points
    → p ≡ get_or points to p → b ≡ is_barrier (get_or points to p).kind → ((b ≡ true) × (seen ≡ One to)) ⊎ ((b ≡ false) × (seen ≡ noted_at old to))
    → seen ≡ seen_at graph old to
seen_by graph points old to p b seen e l is bar by =
    let kind = kind_of graph points to p e l is in
    let same : b ≡ is_barrier (kind_at graph to) = bar ∙ (ap (λ (q : Point). is_barrier q.kind) (sym is) ∙ ap is_barrier (sym kind)) in
    ⊎_elim (λ (t, s). s ∙ seen_barrier graph old to (sym same ∙ t)) (λ (f, s). s ∙ seen_other graph old to (sym same ∙ f)) by

-- ---- edge after edge

pub none_swept : (graph : Graph) (ahead : List Ahead) (n : ℕ) → length graph.edges ≤ n → AreSound graph ahead → IsSwept graph n ahead ahead false
none_swept graph ahead n l s = record {
  count = refl;
  sound = s;
  none = λ e. (refl, λ k x low at. absurd (let h = slice_get_within graph.edges k x at in omega (arith, h)));
  some = λ e. cc;
}

pub sweep_more : (graph : Graph) (n m : ℕ) (edge : Edge) (old now new : List Ahead) (changed more : Bool) → n ≡ m + 1 → slice_get graph.edges m ≡ Some edge
    → IsSwept graph n old now changed → IsPassed graph edge now new more → IsSwept graph m old new (changed || more)
sweep_more graph n m edge old now new changed more low at a p = record {
  count = p.count ∙ a.count;
  sound = p.sound goes a.sound;
  none = λ e.
      let (before, all) = a.none (false_from_ne_true changed (λ t. both_ways _ e (or_left changed more t))) in
      let (same, handed) = p.none (false_from_ne_true more (λ t. both_ways _ e (or_right changed more t))) in (
        same ∙ before,
        λ k x h is. ⊎_elim
            (λ q. let one : Some x ≡ Some edge = sym is ∙ (ap (λ j. slice_get graph.edges j) q ∙ at) in
            let eq : edge ≡ x = cc in
            subst (IsHanded graph old) eq (subst (λ (xs : List Ahead). IsHanded graph xs edge) before handed))
            (λ q. all k x (omega (arith, h, q, low)) is) (cases_eq k m),
      );
  some = λ e. less (cases_Bool changed) (cases_Bool more) e;
}
  where
    goes : Goes graph edge.from edge.to
    goes = (m, slice_get_within graph.edges m edge at, get_or_from_slice_get graph.edges m edge edge at)

    less : (changed ≡ true) ⊎ (changed ≡ false) → (more ≡ true) ⊎ (more ≡ false) → (changed || more) ≡ true → room new < room old
    less (inl c) (inl m) e = let x = a.some c in let y = p.some m in omega (arith, x, y)
    less (inl c) (inr m) e = let x = a.some c in let y = ap room (p.none m).0 in omega (arith, x, y)
    less (inr c) (inl m) e = let x = ap room (a.none c).0 in let y = p.some m in omega (arith, x, y)
    less (inr c) (inr m) e = absurd (⊎_elim (λ t. both_ways _ c t) (λ t. both_ways _ m t) (or_cases changed more e))

-- ---- the end

pub nothing_sound : (graph : Graph) (n : ℕ) (ahead : List Ahead) → ahead ≡ replicate n Nothing → AreSound graph ahead
nothing_sound graph n ahead e t = subst (IsSound graph t) (sym (ap (λ xs. noted_at xs t) e ∙ at)) tt
  where
    at : noted_at (replicate n Nothing) t ≡ Nothing
    at = ⊎_elim (λ l. get_or-replicate n t Nothing Nothing l) (λ l. get_or_past (replicate n Nothing) t Nothing (simp length-replicate l)) (cases_lt t n)

pub all_swept : (graph : Graph) (old new : List Ahead) → length old ≡ length graph.points → IsSwept graph 0 old new false → AreAhead graph new
all_swept graph old new long s = record { count = s.count ∙ long; sound = s.sound; all = λ t b (bar, (zs, path)). found t zs b bar path }
  where
    same : new ≡ old
    same = (s.none refl).0

    handed : (from to b : ℕ) → Goes graph from to → Covers (seen_at graph new to) b → Covers (noted_at new from) b
    handed from to b (k, l, e) c =
        let edge : Edge = record { from = from; to = to } in
        let one = (s.none refl).1 k edge (omega arith) (slice_get-get_or graph.edges k edge l ∙ ap Some e) in
        subst (λ (xs : List Ahead). Covers (noted_at xs from) b) (sym same) (one b (subst (λ (xs : List Ahead). Covers (seen_at graph xs to) b) same c))

    found : (t : ℕ) (zs : List ℕ) (b : ℕ) → is_barrier (kind_at graph b) ≡ true → PathBy (Goes graph) (λ z. is_barrier (kind_at graph z) ≡ false) t zs b
        → Covers (noted_at new t) b
    found t [] b bar goes = handed t b b goes (subst (λ v. Covers v b) (seen_barrier graph new b bar) refl)
    found t (z ∷ zs) b bar (goes, free, path) = handed t z b goes (subst (λ v. Covers v b) (seen_other graph new z free) (found z zs b bar path))

-- what is written back through a slice of the whole vector
pub written_back : (old new : List Ahead) (len : ℕ) → len ≡ length old → length new ≡ length old → take len (new ++ drop (length new) old) ≡ new
written_back old new len e f =
    take-append-le len new (drop (length new) old) (omega (arith, e, f)) ∙ (ap (λ n. take n new) (e ∙ sym f) ∙ take-length new)

-- ---- aligned flows

pub none_more : {X : Type 0} (P : X → Type 0) (xs : List X) (n : ℕ) (x : X) → slice_get xs n ≡ Some x → (P x → ⊥) → NoneOf P xs n → NoneOf P xs (n + 1)
none_more P xs n x at none h k y l is p = ⊎_elim
    (λ e. let one : Some y ≡ Some x = sym is ∙ (ap (λ j. slice_get xs j) e ∙ at) in
    let eq : y ≡ x = cc in
    none (subst P eq p))
    (λ e. h k y (omega (arith, l, e)) is p) (cases_eq k n)

pub aligned_from : (graph : Graph) (ahead : List Ahead) (ts : List ℕ) (n : ℕ) → AreAhead graph ahead → ((t : ℕ) → Contains ts t ↔ UnevenPoint graph t) → length ts ≤ n
    → NoneOf (λ t. noted_at ahead t ≡ More) ts n → Aligned graph
aligned_from graph ahead ts n a uneven end none u x y at_u bar_x bar_y way_x way_y =
    let (k, l, e) = (uneven u).1 at_u in
    one (noted_at ahead u) (none k u (omega (arith, l, end)) (slice_get-get_or ts k u l ∙ ap Some e)) (a.all u x (bar_x, way_x)) (a.all u y (bar_y, way_y))
  where
    one : (v : Ahead) → (v ≡ More → ⊥) → Covers v x → Covers v y → x ≡ y
    one Nothing h c d = absurd c
    one (One z) h c d = sym c ∙ d
    one More h c d = absurd (h refl)

pub not_aligned : (graph : Graph) (ahead : List Ahead) (u : ℕ) → AreAhead graph ahead → UnevenPoint graph u → noted_at ahead u ≡ More → Aligned graph → ⊥
not_aligned graph ahead u a at_u e aligned =
    let (x, y, differ, (bar_x, way_x), (bar_y, way_y)) = subst (IsSound graph u) e (a.sound u) in
    differ (aligned u x y at_u bar_x bar_y way_x way_y)
