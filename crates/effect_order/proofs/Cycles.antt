-- What must come before what has no cycle.
use Rattle.std.proofs.Common.{◌≡◌, ◌⊎◌, ℕ, zero, suc, ◌+◌, ◌<◌, ◌≤◌, List, [], ◌∷◌, ◌++◌, length, refl, sym, ap, ◌∙◌, subst, inl, inr, ⊎_elim, arith, le_refl, length-append, Bool, true, false}
use Rattle.std.proofs.lemmas.Bool.{cases_Bool, cases_lt, cases_eq, cases_order, both_ways}
use Rattle.effect_order.specs.Walk.{Walk}
use Rattle.effect_order.specs.Flow.{Precedes, Link, Back, Delay}
use Rattle.effect_order.specs.Order.{Story, Later, Edge, Before, Facts, Acyclic}
use Rattle.effect_order.specs.Order.Edge.{ByBlocking, ByDone, ByWithin, ByRelease, ByConflict}
use Rattle.effect_order.proofs.Walks.{walk-append, walk-cut, Found, walk-find, walk-turn}

-- an edge within one level
record Even {E S : Type 0} (s : Story E S) (e f : E) : Type 0 where
  from : s.Member e
  to : s.Member f
  level : s.level e ≡ s.level f
  edge : Edge s e f

-- one between effects
record Flat {E S : Type 0} (s : Story E S) (e f : E) : Type 0 where
  from : s.Member e
  to : s.Member f
  effect : s.is_effect e ≡ true
  effect_to : s.is_effect f ≡ true
  level : s.level e ≡ s.level f
  edge : Edge s e f

-- what such an edge is
data Kind {E S : Type 0} (s : Story E S) (e f : E) : Type 0 where
  Ahead : Later s e f → Kind s e f
  Past : s.Done e f → Kind s e f
  Same : s.node e ≡ s.node f → s.step e ≡ s.step f → Kind s e f
  Far : s.Conflict e f → Link s.flow (s.site e) (s.site f) → Kind s e f

module _ {E S : Type 0} (s : Story E S) (k : Facts s) where
  level_grows : (zs : List E) (x y : E) → Walk (Before s) x zs y → s.level x ≤ s.level y
  level_grows [] x y p = omega (arith, ap s.level p)
  level_grows (z ∷ zs) x y p = omega (arith, k.never_falls x z p.0.0 p.0.1 p.0.2, level_grows zs z y p.1)

  even : (zs : List E) (x y : E) → Walk (Before s) x zs y → s.level y ≤ s.level x → Walk (Even s) x zs y
  even [] x y p l = p
  even (z ∷ zs) x y p l =
      let a = k.never_falls x z p.0.0 p.0.1 p.0.2 in
      let b = level_grows zs z y p.1 in
      (record { from = p.0.0; to = p.0.1; level = omega arith; edge = p.0.2 }, even zs z y p.1 (omega arith))

  no_release : (e f : E) → s.Member e → s.Member f → s.level e ≡ s.level f → s.Release e f → ⊥
  no_release e f me mf l r = omega (arith, k.rises e f me mf r)

  later_site : (e f : E) → s.Member e → Later s e f → s.flow.is_blocking (s.site e) ≡ true
  later_site e f me l = sym (k.blocking_site e me (k.blocking_effect e me l.0)) ∙ l.0

  -- of two conflicting blocking effects of one node, that which comes first in the source takes effect first
  ordered : (e f : E) → s.Member e → s.Member f → Later s e f → s.is_effect f ≡ true → s.level e ≡ s.level f → s.flow.OwnConflict (s.site e) (s.site f) → s.time e < s.time f
  ordered e f me mf l b v o = k.waited e f me mf l b v (later_site e f me l, k.clear_blocking e f me mf l b v, inl o)

  same_node : (e f : E) → Flat s e f → s.Conflict e f → s.time e < s.time f → s.node e ≡ s.node f → Kind s e f
  same_node e f p c t n =
      let o = k.own e f p.from p.to c n in
      ⊎_elim
      (λ be.
      ⊎_elim
      (λ bf.
      ⊎_elim
      (λ q. Same n q)
      (λ r.
      ⊎_elim
      (λ lt. Ahead (be, n, lt))
      (λ gt. absurd (omega (arith, ordered f e p.to p.from (bf, sym n, gt) p.effect (sym p.level) (k.own_back _ _ o))))
      r)
      (cases_order (s.step e) (s.step f)))
      (λ bf. Far c (inr (o, inr (sym (k.blocking_site f p.to p.effect_to) ∙ bf))))
      (cases_Bool (s.is_blocking f)))
      (λ be. Far c (inr (o, inl (sym (k.blocking_site e p.from p.effect) ∙ be))))
      (cases_Bool (s.is_blocking e))

  by_edge : (e f : E) → Flat s e f → Edge s e f → Kind s e f
  by_edge e f p (ByBlocking l) = Ahead l
  by_edge e f p (ByDone d) = Past d
  by_edge e f p (ByWithin w) = Same (k.within_node e f p.from p.to w) (k.within_step e f p.from p.to w)
  by_edge e f p (ByRelease r) = absurd (no_release e f p.from p.to p.level r)
  by_edge e f p (ByConflict c t) =
      ⊎_elim
      (λ n. same_node e f p c t n)
      (λ n. Far c (k.cross e f p.from p.to c n p.level))
      (cases_eq (s.node e) (s.node f))

  kind : (e f : E) → Flat s e f → Kind s e f
  kind e f p = by_edge e f p p.edge

  -- the first step after f, where the blocking e stands before f
  front : (e f g : E) → Later s e f → Flat s f g → Kind s f g → Later s e g ⊎ (s.Conflict f g × Link s.flow (s.site f) (s.site g))
  front e f g l q (Ahead m) = inl (l.0, l.1 ∙ m.1, omega arith)
  front e f g l q (Past d) = inl (l.0, l.1 ∙ k.done_node f g q.from q.to d, omega (arith, k.done_step f g q.from q.to d))
  front e f g l q (Same n t) = inl (l.0, l.1 ∙ n, omega arith)
  front e f g l q (Far c r) = inr (c, r)

  -- the last step before e
  back : (h e f : E) → Later s e f → s.Member f → Flat s h e → Kind s h e → (Later s h f ⊎ s.Done h f) ⊎ Link s.flow (s.site h) (s.site e)
  back h e f l mf p (Ahead m) = inl (inl (m.0, m.1 ∙ l.1, omega arith))
  back h e f l mf p (Past d) = inl (inr (k.done_on h e f p.from p.to mf d l.1 (omega arith)))
  back h e f l mf p (Same n t) =
      let same = k.same_site h e p.from p.to p.effect p.effect_to n t in
      inl (inl (k.blocking_site h p.from p.effect ∙ ap s.flow.is_blocking same ∙ later_site e f p.to l, n ∙ l.1, omega arith))
  back h e f l mf p (Far c r) = inr r

  -- a step in the middle, on sites
  between : (g h : E) → Flat s g h → Kind s g h → (Link s.flow (s.site g) (s.site h) ⊎ Precedes s.flow (s.site g) (s.site h)) ⊎ (s.site g ≡ s.site h)
  between g h p (Ahead m) = inl (inr (k.clear_blocking g h p.from p.to m p.effect_to p.level))
  between g h p (Past d) = inl (inr (k.clear_done g h p.from p.to d p.effect p.effect_to p.level))
  between g h p (Same n t) = inr (k.same_site g h p.from p.to p.effect p.effect_to n t)
  between g h p (Far c r) = inl (inl r)

  -- the sites of a walk, those that stay left out
  sites : (hs : List E) (g h : E) (a : S) → Walk (Flat s) g hs h → Link s.flow (s.site h) a → (ds : List S) × Back s.flow (s.site g) ds a
  sites [] g h a w r = ([], subst (λ u. Link s.flow (s.site u) a) (sym w) r)
  sites (x ∷ xs) g h a w r =
      let rest = sites xs x h a w.1 r in
      ⊎_elim
      (λ b. (s.site x ∷ rest.0, (b, rest.1)))
      (λ b. (rest.0, subst (λ u. Back s.flow u rest.0 a) (sym b) rest.1))
      (between g x w.0 (kind g x w.0))

  -- a step that goes backwards in the run
  record Backward (e f : E) : Type 0 where
    flat : Flat s e f
    later : Later s e f
    late : s.time f ≤ s.time e

  direction : (e f : E) → Flat s e f → Edge s e f → Backward e f ⊎ (s.time e < s.time f)
  direction e f p (ByBlocking l) = ⊎_elim (λ t. inr t) (λ t. inl (record { flat = p; later = l; late = t })) (cases_lt (s.time e) (s.time f))
  direction e f p (ByDone d) = inr (k.done_time e f p.from p.to d)
  direction e f p (ByWithin w) = inr (k.within_time e f p.from p.to w)
  direction e f p (ByRelease r) = absurd (no_release e f p.from p.to p.level r)
  direction e f p (ByConflict c t) = inr t

  -- a way from f back to e by links at both ends cannot be: the wait before f would come first
  closes : (e f g : E) (gs : List E) → Backward e f → s.Conflict f g → Link s.flow (s.site f) (s.site g) → Walk (Flat s) g gs e → ((h : E) (hs : List E) → length hs + 1 ≡ length gs → Walk (Flat s) g hs h → Flat s h e → Link s.flow (s.site h) (s.site e)) → ⊥
  closes e f g [] b c r w last =
      let p = b.flat in
      let own = k.own e f p.from p.to (subst (λ u. s.Conflict u f) w (k.conflict_back f g c)) b.later.1 in
      absurd (omega (arith, b.late, ordered e f p.from p.to b.later p.effect_to p.level own))
  closes e f g (x ∷ xs) b c r w last =
      let p = b.flat in
      let cut = walk-cut (Flat s) xs g x e w in
      let end = last cut.at cut.points (omega (arith, cut.size)) cut.front cut.last in
      let back_path = sites cut.points g cut.at (s.site e) cut.front end in
      let delay : Delay s.flow (s.site e) (s.site f) = (later_site e f p.from b.later, k.clear_blocking e f p.from p.to b.later p.effect_to p.level, inr (s.site g, back_path.0, r, back_path.1)) in
      absurd (omega (arith, b.late, k.waited e f p.from p.to b.later p.effect_to p.level delay))

  -- no cycle of effects has n steps or fewer
  abbrev NoRing : ℕ → Type 0
  NoRing n = (x z : E) (zs : List E) → suc (length zs) ≤ n → Walk (Flat s) x (z ∷ zs) x → ⊥

  -- a way back from f to e, where the edge from e to f goes backwards, gives a smaller cycle or a delay
  round : (n : ℕ) → NoRing n → (e f : E) (way : List E) → length way ≤ n → Backward e f → Walk (Flat s) f way e → ⊥
  round n smaller e f [] small b w = omega (arith, b.later.2, ap s.step w)
  round n smaller e f (g ∷ gs) small b w =
      let p = b.flat in
      let q = w.0 in
      ⊎_elim
      (λ m. smaller e g gs small (record { from = p.from; to = q.to; effect = p.effect; effect_to = q.effect_to; level = p.level ∙ q.level; edge = ByBlocking m }, w.1))
      (λ c. closes e f g gs b c.0 c.1 w.1 (λ h hs size v r.
      ⊎_elim
      (λ m.
      let flat : Flat s h f = record { from = r.from; to = p.to; effect = r.effect; effect_to = p.effect_to; level = r.level ∙ p.level; edge = ⊎_elim (λ a. ByBlocking a) (λ a. ByDone a) m } in
      absurd (smaller f g (hs ++ f ∷ []) (omega (arith, length-append hs (f ∷ []))) (q, walk-append (Flat s) hs (f ∷ []) g h f v (flat, refl))))
      (λ m. m)
      (back h e f b.later p.to r (kind h e r))))
      (front e f g b.later q (kind f g q))

  ring : (n : ℕ) → NoRing n
  ring zero x z zs small w = omega arith
  ring (suc n) x z zs small w =
      ⊎_elim
      (λ (b : Found (Flat s) Backward x (length (z ∷ zs)) x).
      let way = walk-append (Flat s) b.after b.before b.to x b.from b.from_it b.to_it in
      round n (ring n) b.from b.to (b.after ++ b.before) (omega (arith, b.size, length-append b.after b.before)) b.step way)
      (λ t. omega arith)
      (walk-find (Flat s) Backward s.time (λ e f p. direction e f p p.edge) (z ∷ zs) x x w)

  -- a step to an item that is no effect
  record Quiet (e f : E) : Type 0 where
    even : Even s e f
    quiet : s.is_effect f ≡ false

  record Loud (e f : E) : Type 0 where
    even : Even s e f
    loud : s.is_effect f ≡ true

  clash : (b : Bool) → b ≡ true → b ≡ false → ⊥
  clash b p q = both_ways b q p

  -- what leads to such an item leads past it
  enters : (e f : E) → Quiet e f → Edge s e f → Later s e f ⊎ s.Done e f
  enters e f q (ByBlocking l) = inl l
  enters e f q (ByDone d) = inr d
  enters e f q (ByWithin w) = absurd (clash _ (k.within_effect e f q.even.from q.even.to w) q.quiet)
  enters e f q (ByRelease r) = absurd (no_release e f q.even.from q.even.to q.even.level r)
  enters e f q (ByConflict c t) = absurd (clash _ (k.conflict_right e f q.even.from q.even.to c) q.quiet)

  leaves : (f g : E) → s.is_effect f ≡ false → Even s f g → Edge s f g → (s.node f ≡ s.node g) × (s.step f ≤ s.step g)
  leaves f g q p (ByBlocking l) = absurd (clash _ (k.blocking_effect f p.from l.0) q)
  leaves f g q p (ByDone d) = (k.done_node f g p.from p.to d, omega (arith, k.done_step f g p.from p.to d))
  leaves f g q p (ByWithin w) = (k.within_node f g p.from p.to w, omega (arith, k.within_step f g p.from p.to w))
  leaves f g q p (ByRelease r) = absurd (no_release f g p.from p.to p.level r)
  leaves f g q p (ByConflict c t) = absurd (clash _ (k.conflict_left f g p.from p.to c) q)

  past : (e f g : E) → s.Member e → s.Member f → s.Member g → Later s e f ⊎ s.Done e f → (s.node f ≡ s.node g) × (s.step f ≤ s.step g) → Edge s e g
  past e f g me mf mg (inl l) h = ByBlocking (l.0, l.1 ∙ h.0, omega arith)
  past e f g me mf mg (inr d) h = ByDone (k.done_on e f g me mf mg d h.0 h.1)

  ahead : (e f : E) → s.Member e → s.Member f → Later s e f ⊎ s.Done e f → s.step e < s.step f
  ahead e f me mf (inl l) = l.2
  ahead e f me mf (inr d) = k.done_step e f me mf d

  loud : (e f : E) → Even s e f → Quiet e f ⊎ Loud e f
  loud e f p = ⊎_elim (λ b. inr (record { even = p; loud = b })) (λ b. inl (record { even = p; quiet = b })) (cases_Bool (s.is_effect f))

  flat : (zs : List E) (x y : E) → s.is_effect x ≡ true → Walk Loud x zs y → Walk (Flat s) x zs y
  flat [] x y b w = w
  flat (z ∷ zs) x y b w =
      let p = w.0.even in
      (record { from = p.from; to = p.to; effect = b; effect_to = w.0.loud; level = p.level; edge = p.edge }, flat zs z y w.0.loud w.1)

  abbrev NoLevelRing : ℕ → Type 0
  NoLevelRing n = (x z : E) (zs : List E) → suc (length zs) ≤ n → Walk (Even s) x (z ∷ zs) x → ⊥

  skip : (n : ℕ) → NoLevelRing n → (e f : E) (way : List E) → length way ≤ n → Quiet e f → Walk (Even s) f way e → ⊥
  skip n smaller e f [] small q w = omega (arith, ap s.step w, ahead e f q.even.from q.even.to (enters e f q q.even.edge))
  skip n smaller e f (g ∷ gs) small q w =
      let p = q.even in
      let r = w.0 in
      smaller e g gs small (record { from = p.from; to = r.to; level = p.level ∙ r.level; edge = past e f g p.from p.to r.to (enters e f q p.edge) (leaves f g q.quiet r r.edge) }, w.1)

  level_ring : (n : ℕ) → NoLevelRing n
  level_ring zero x z zs small w = omega arith
  level_ring (suc n) x z zs small w =
      ⊎_elim
      (λ (b : Found (Even s) Quiet x (length (z ∷ zs)) x).
      let way = walk-append (Even s) b.after b.before b.to x b.from b.from_it b.to_it in
      skip n (level_ring n) b.from b.to (b.after ++ b.before) (omega (arith, b.size, length-append b.after b.before)) b.step way)
      (λ (t : Walk Loud x (z ∷ zs) x).
      let cut = walk-cut Loud zs x z x t in
      ring (suc n) x z zs small (flat (z ∷ zs) x x cut.last.loud t))
      (walk-turn (Even s) Quiet Loud loud (z ∷ zs) x x w)

  pub acyclic : Acyclic s
  acyclic x z zs w = level_ring (suc (length zs)) x z zs (le_refl _) (even (z ∷ zs) x x w (le_refl _))
