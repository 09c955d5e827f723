-- Delays of sites are those that the laws of the order tell of their points.
use Rattle.std.proofs.Common.{◌≡◌, ◌↔◌, ℕ, List, [], ◌∷◌, Bool, true, false, refl, sym, ◌∙◌, subst, inl, inr, ⊎_elim}
use Rattle.effect_order.specs.Flow as order
use Rattle.site_graph.specs.declared.point.PointKind.{PointKind}
use Rattle.site_graph.specs.declared.point.PointKind.TheVariants.{Start, Plain, Access, Sync, Barrier, StoreSync, Call, Return}
use Rattle.site_graph.specs.declared.site.SiteKind.{SiteKind}
use Rattle.site_graph.specs.Bits.{Bits, IsSet}
use Rattle.site_graph.specs.Graph.{Graph, kind_at, IsAt, is_blocking, is_split}
use Rattle.site_graph.specs.Kept.{IsFlow, IsSiteOf}
use Rattle.site_graph.specs.Order.{accesses, order_flow}
use Rattle.site_graph.specs.Ways.{Precedes}
use Rattle.site_graph.proofs.Ways.{accesses_at, some_site, ways_of_order}
use Rattle.delay_sets.specs.Delays.{IsExplicit, Link, Back, BackPath, MustDelay, AtSites, MeetAt}
use Rattle.delay_sets.specs.OfOrder.{AreOfSites}

same_number : (graph : Graph) (a b t : ℕ) → IsAt graph a t → IsAt graph b t → a ≡ b
same_number graph a b t i j = let e : Access a ≡ Access b = sym i ∙ j in cc

some_access : (graph : Graph) (test : SiteKind → Bool) (kind : PointKind) → accesses graph test kind ≡ true → (a : ℕ) × (kind ≡ Access a)
some_access graph test Start e = cc
some_access graph test Plain e = cc
some_access graph test (Access a) e = (a, refl)
some_access graph test Sync e = cc
some_access graph test Barrier e = cc
some_access graph test StoreSync e = cc
some_access graph test Call e = cc
some_access graph test Return e = cc

module _ (graph : Graph) (cross own meets : Bits) (Across : ℕ → ℕ → Type 0) (kept : IsFlow graph)
    (are : (a b : ℕ) → IsSet cross a b ↔ (Across a b × IsSet meets a b)) (cross_of : AreOfSites graph cross) (own_of : AreOfSites graph own) where
  abbrev Laws : order.Flow ℕ
  Laws = order_flow graph (AtSites graph cross own (IsSet own)) (AtSites graph cross own Across) (MeetAt graph cross own meets)

  -- ---- sites that are not blocking

  explicit_to : (a t : ℕ) → IsAt graph a t → IsExplicit graph a → accesses graph is_blocking (kind_at graph t) ≡ false
  explicit_to a t at (site, is, e) = accesses_at graph is_blocking a t site at is ∙ e

  explicit_from : (a t : ℕ) → IsAt graph a t → accesses graph is_blocking (kind_at graph t) ≡ false → IsExplicit graph a
  explicit_from a t at e =
      let (site, is) = some_site graph a (kept.access_within t a at) in
      (site, is, sym (accesses_at graph is_blocking a t site at is) ∙ e)

  -- ---- links

  at_own : (a b t u : ℕ) → IsAt graph a t → IsAt graph b u → AtSites graph cross own (IsSet own) t u → IsSet own a b
  at_own a b t u at_a at_b (c, d, at_c, at_d, s) =
      subst (λ x. IsSet own x b) (same_number graph c a t at_c at_a) (subst (IsSet own c) (same_number graph d b u at_d at_b) s)

  link_to : (a b t u : ℕ) → IsAt graph a t → IsAt graph b u → Link graph cross own a b → order.Link Laws t u
  link_to a b t u at_a at_b l = ⊎_elim
      (λ s. let (across, met) = (are a b).0 s in
      inl (
        (a, b, at_a, at_b, across),
        λ c d at_c at_d. subst (λ x. IsSet meets x d) (same_number graph a c t at_a at_c) (subst (IsSet meets a) (same_number graph b d u at_b at_d) met),
      ))
      (λ (s, e). inr ((a, b, at_a, at_b, s), ⊎_elim (λ x. inl (explicit_to a t at_a x)) (λ x. inr (explicit_to b u at_b x)) e)) l

  link_from : (t u : ℕ) → order.Link Laws t u → (a b : ℕ) × IsAt graph a t × IsAt graph b u × Link graph cross own a b
  link_from t u l = ⊎_elim
      (λ ((a, b, at_a, at_b, across), met). (a, b, at_a, at_b, inl ((are a b).1 (across, met a b at_a at_b))))
      (λ ((a, b, at_a, at_b, s), e). (a, b, at_a, at_b, inr (s, ⊎_elim (λ x. inl (explicit_from a t at_a x)) (λ x. inr (explicit_from b u at_b x)) e))) l

  link_of : (a b t u : ℕ) → IsAt graph a t → IsAt graph b u → order.Link Laws t u → Link graph cross own a b
  link_of a b t u at_a at_b l =
      let (c, d, at_c, at_d, link) = link_from t u l in
      subst (λ x. Link graph cross own x b) (same_number graph c a t at_c at_a) (subst (Link graph cross own c) (same_number graph d b u at_d at_b) link)

  linked_site : (a b : ℕ) → Link graph cross own a b → IsSiteOf graph b
  linked_site a b l = ⊎_elim (λ s. (cross_of a b s).1) (λ (s, e). (own_of a b s).1) l

  -- ---- what is over before what

  precedes_of : (a b t u : ℕ) → IsAt graph a t → IsAt graph b u → Precedes graph a b ↔ order.Precedes Laws t u
  precedes_of a b t u at_a at_b = (ways_of_order graph (λ x y. false) (λ x y. false) (λ x y. false) kept).precedes a b t u at_a at_b

  first_site : (t u : ℕ) → order.Precedes Laws t u → (a : ℕ) × IsAt graph a t
  first_site t u p = ⊎_elim (λ q. some_access graph is_blocking (kind_at graph t) q.0) (λ q. some_access graph is_split (kind_at graph t) q.0) p

  -- ---- back-paths

  back_to : (c : ℕ) (ds : List ℕ) (a v t : ℕ) → IsAt graph c v → IsAt graph a t → Back graph cross own c ds a → (es : List ℕ) × order.Back Laws v es t
  back_to c [] a v t at_c at_a l = ([], link_to c a v t at_c at_a l)
  back_to c (d ∷ ds) a v t at_c at_a (s, rest) =
      ⊎_elim
      (λ l. let (p, at_d) = kept.has_point d (linked_site c d l) in
      let (es, back) = back_to d ds a p t at_d at_a rest in
      (p ∷ es, (inl (link_to c d v p at_c at_d l), back)))
      (λ q. let (es, back) = back_to d ds a q.to t q.is_to at_a rest in
      (q.to ∷ es, (inr ((precedes_of c d v q.to at_c q.is_to).0 q), back)))
      s

  back_site : (v : ℕ) (es : List ℕ) (t : ℕ) → order.Back Laws v es t → (c : ℕ) × IsAt graph c v
  back_site v [] t l = let (a, b, at_a, at_b, link) = link_from v t l in (a, at_a)
  back_site v (p ∷ es) t (s, rest) = ⊎_elim (λ l. let (a, b, at_a, at_b, link) = link_from v p l in (a, at_a)) (λ q. first_site v p q) s

  back_from : (c v : ℕ) (es : List ℕ) (a t : ℕ) → IsAt graph c v → IsAt graph a t → order.Back Laws v es t → (ds : List ℕ) × Back graph cross own c ds a
  back_from c v [] a t at_c at_a l = ([], link_of c a v t at_c at_a l)
  back_from c v (p ∷ es) a t at_c at_a (s, rest) =
      let (d, at_d) = back_site p es t rest in
      let (ds, back) = back_from d p es a t at_d at_a rest in
      (d ∷ ds, (⊎_elim (λ l. inl (link_of c d v p at_c at_d l)) (λ q. inr ((precedes_of c d v p at_c at_d).1 q)) s, back))

  path_to : (b a u t : ℕ) → IsAt graph b u → IsAt graph a t → BackPath graph cross own b a → order.BackPath Laws u t
  path_to b a u t at_b at_a (c, ds, l, back) =
      let (v, at_c) = kept.has_point c (linked_site b c l) in
      let (es, path) = back_to c ds a v t at_c at_a back in
      (v, es, link_to b c u v at_b at_c l, path)

  path_from : (b a u t : ℕ) → IsAt graph b u → IsAt graph a t → order.BackPath Laws u t → BackPath graph cross own b a
  path_from b a u t at_b at_a (v, es, l, back) =
      let (c, at_c) = back_site v es t back in
      let (ds, path) = back_from c v es a t at_c at_a back in
      (c, ds, link_of b c u v at_b at_c l, path)

  -- ---- delays

  pub delays_of_order : (a b t u : ℕ) → IsAt graph a t → IsAt graph b u → MustDelay graph cross own a b ↔ order.Delay Laws t u
  delays_of_order a b t u at_a at_b = (
    (λ ((site, is, e), p, s). (
      accesses_at graph is_blocking a t site at_a is ∙ e,
      (precedes_of a b t u at_a at_b).0 p,
      ⊎_elim (λ o. inl (a, b, at_a, at_b, o)) (λ q. inr (path_to b a u t at_b at_a q)) s,
    )),
    (λ (e, p, s).
        let (site, is) = some_site graph a (kept.access_within t a at_a) in (
          (site, is, sym (accesses_at graph is_blocking a t site at_a is) ∙ e),
          (precedes_of a b t u at_a at_b).1 p,
          ⊎_elim (λ o. inl (at_own a b t u at_a at_b o)) (λ q. inr (path_from b a u t at_b at_a q)) s,
        )),
  )
