-- Items taken as the source allows: a node's own ones are those with the first numbers, each is the only one with its
-- number, and their effects have the values of the run.
use Rattle.std.proofs.Common.{◌≡◌, ◌⊎◌, ℕ, ◌+◌, ◌<◌, ◌≤◌, List, [], ◌∷◌, Some, Bool, true, false, ◌==◌, ◌&&◌, refl, sym, ap, ◌∙◌, subst, inl, inr, ⊎_elim, arith, eqb-true}
use Rattle.std.specs.Prelude.{if◌then◌else◌, IsSome}
use Rattle.std.proofs.lemmas.Bool.{both_ways, cases_lt, cases_Bool, false_from_ne_true}
use Rattle.sc_base.specs.declared.value.Place.{Place}
use Rattle.sc_base.specs.declared.value.Value.{Value}
use Rattle.effect_order.specs.Effect.{Effect as CellEffect}
use Rattle.effect_order.specs.Lists.{In}
use Rattle.effect_order.proofs.Members.{each-in}
use Rattle.sc_meaning.specs.declared.request.Request.{Request}
use Rattle.sc_meaning.specs.declared.event.SourceEvent.{SourceEvent}
use Rattle.sc_meaning.specs.declared.event.SourceEvent.TheVariants.{Do, Issue, Effect, Sync, Arrive, Release, End as Over}
use Rattle.effect_order.specs.Transfer.{is_part, part_place, part_value}
use Rattle.sc_meaning.specs.Past.{Processes, effects as source_effects, made}
use Rattle.sc_meaning.specs.History.{Allowed, IsNext}
use Rattle.sc_isa.specs.declared.access.Access.{Access}
use Rattle.sc_isa.specs.declared.access.Access.TheVariants.{Read, Write, Copy}
use Rattle.sc_isa.specs.declared.journal.Entry.{Entry}
use Rattle.sc_isa.specs.declared.journal.Entry.TheVariants.{Issued, Waited, Arrived}
use Rattle.fabric.specs.Access.{transfer_of}
use Rattle.fabric.specs.Effects.{effects}
use Rattle.source_order.proofs.Once.{each_part_once}
use Rattle.source_order.specs.Steps.{request_by, requested}
use Rattle.sc_meaning.specs.OfAccess.{request_in, is_done_at_once}
use Rattle.source_order.specs.Items.{is_turn}
use Rattle.source_order.proofs.Stands.{Stands, same_stand}
use Rattle.source_order.proofs.Numbers.{eq_self, if_true, if_false, issued_is, both_self, access_is}
use Rattle.source_order.proofs.Occurs.{some_from, part_self}
use Rattle.source_order.proofs.Effected.{Origin, origins, same_effect}
use Rattle.source_order.proofs.Distinct.{num, at_node}
use Rattle.source_order.proofs.Character.{IsAccess, an_effect, Is}
use Rattle.source_order.proofs.Matches.{Known}

-- the event is an own step with a number
abbrev pub is_own : SourceEvent → Bool
is_own (Do p k wrote place value) = true
is_own (Issue p k) = true
is_own (Sync p k) = true
is_own (Arrive p k stores) = true
is_own _ = false

abbrev entry_tag : Entry → ℕ
entry_tag (Issued p n access) = 0
entry_tag (Waited p c) = 1
entry_tag (Arrived p s) = 2
entry_tag _ = 3

abbrev event_tag : SourceEvent → ℕ
event_tag (Do p k wrote place value) = 0
event_tag (Issue p k) = 0
event_tag (Sync p k) = 1
event_tag (Arrive p k s) = 2
event_tag _ = 3

pub made_own : (p : ℕ) (x : SourceEvent) (past : List SourceEvent) → is_own x ≡ true → at_node x ≡ p → made p (x ∷ past) ≡ made p past + 1
made_own p (Do q k wrote place value) past h e = if_true (q == p) _ _ (subst (λ u. (q == u) ≡ true) e (eq_self q))
made_own p (Issue q k) past h e = if_true (q == p) _ _ (subst (λ u. (q == u) ≡ true) e (eq_self q))
made_own p (Sync q k) past h e = if_true (q == p) _ _ (subst (λ u. (q == u) ≡ true) e (eq_self q))
made_own p (Arrive q k stores) past h e = if_true (q == p) _ _ (subst (λ u. (q == u) ≡ true) e (eq_self q))
made_own p (Effect _ _ _ _ _ _) past h e = absurd cc
made_own p (Release _) past h e = absurd cc
made_own p (Over _ _) past h e = absurd cc

pub not_same : (q p : ℕ) → (q ≡ p → ⊥) → (q == p) ≡ false
not_same q p f = false_from_ne_true _ (λ t. f (eqb-true q p t))

pub made_other : (p : ℕ) (x : SourceEvent) (past : List SourceEvent) → (is_own x ≡ true → at_node x ≡ p → ⊥) → made p (x ∷ past) ≡ made p past
made_other p (Do q k wrote place value) past f = if_false (q == p) _ _ (not_same q p (f refl))
made_other p (Issue q k) past f = if_false (q == p) _ _ (not_same q p (f refl))
made_other p (Sync q k) past f = if_false (q == p) _ _ (not_same q p (f refl))
made_other p (Arrive q k stores) past f = if_false (q == p) _ _ (not_same q p (f refl))
made_other p (Effect _ _ _ _ _ _) past f = refl
made_other p (Release _) past f = refl
made_other p (Over _ _) past f = refl

pub same_nat : (q p : ℕ) → (q ≡ p) ⊎ (q ≡ p → ⊥)
same_nat q p = ⊎_elim (λ t. inl (eqb-true q p t)) (λ f. inr (λ e. both_ways _ f (subst (λ u. (q == u) ≡ true) e (eq_self q)))) (cases_Bool (q == p))

-- the event is the node's own one, or not
pub whose : (p : ℕ) (x : SourceEvent) → ((is_own x ≡ true) × (at_node x ≡ p)) ⊎ (is_own x ≡ true → at_node x ≡ p → ⊥)
whose p x = ⊎_elim (λ t. ⊎_elim (λ e. inl (t, e)) (λ f. inr (λ h e. f e)) (same_nat (at_node x) p)) (λ f. inr (λ h e. both_ways _ f h)) (cases_Bool (is_own x))

pub made_grows : (p : ℕ) (x : SourceEvent) (past : List SourceEvent) → made p past ≤ made p (x ∷ past)
made_grows p x past = ⊎_elim (λ o. let u = made_own p x past o.0 o.1 in omega arith) (λ f. let u = made_other p x past f in omega arith) (whose p x)

-- an allowed own step is its node's next request
pub next_of : (processes : Processes) (past : List SourceEvent) (x : SourceEvent) → is_own x ≡ true → Allowed processes past x → (r : Request) × IsNext processes past (at_node x) (num x) r
next_of processes past (Do p k false place value) h a = (_, a.is_next)
next_of processes past (Do p k true place value) h a = (_, a.is_next)
next_of processes past (Issue p k) h a = (a.request, a.is_next)
next_of processes past (Sync p k) h a = (_, a.is_next)
next_of processes past (Arrive p k stores) h a = (_, a.is_next)
next_of processes past (Effect _ _ _ _ _ _) h a = absurd cc
next_of processes past (Release _) h a = absurd cc
next_of processes past (Over _ _) h a = absurd cc

-- the effects of a past are those of its events
pub effect_event : (e : CellEffect) (past : List SourceEvent) → In e (source_effects past) → (x : SourceEvent) × In x past × (source_effects (x ∷ []) ≡ e ∷ [])
effect_event e [] i = absurd i
effect_event e (Do p k wrote place value ∷ past) (inl q) = (Do p k wrote place value, inl refl, ap (λ u. u ∷ []) (sym q))
effect_event e (Do p k wrote place value ∷ past) (inr i) = let r = effect_event e past i in (r.0, inr r.1, r.2)
effect_event e (Effect p k c wrote place value ∷ past) (inl q) = (Effect p k c wrote place value, inl refl, ap (λ u. u ∷ []) (sym q))
effect_event e (Effect p k c wrote place value ∷ past) (inr i) = let r = effect_event e past i in (r.0, inr r.1, r.2)
effect_event e (Issue _ _ ∷ past) i = let r = effect_event e past i in (r.0, inr r.1, r.2)
effect_event e (Sync _ _ ∷ past) i = let r = effect_event e past i in (r.0, inr r.1, r.2)
effect_event e (Arrive _ _ _ ∷ past) i = let r = effect_event e past i in (r.0, inr r.1, r.2)
effect_event e (Release _ ∷ past) i = let r = effect_event e past i in (r.0, inr r.1, r.2)
effect_event e (Over _ _ ∷ past) i = let r = effect_event e past i in (r.0, inr r.1, r.2)

pub event_effect : (x : SourceEvent) (e : CellEffect) (past : List SourceEvent) → In x past → source_effects (x ∷ []) ≡ e ∷ [] → In e (source_effects past)
event_effect x e [] i h = absurd i
event_effect x e (y ∷ past) (inl q) h = go y (subst (λ u. source_effects (u ∷ []) ≡ e ∷ []) q h)
  where
    go : (y : SourceEvent) → source_effects (y ∷ []) ≡ e ∷ [] → In e (source_effects (y ∷ past))
    go (Do p k wrote place value) h = inl cc
    go (Effect p k c wrote place value) h = inl cc
    go (Issue _ _) h = absurd cc
    go (Sync _ _) h = absurd cc
    go (Arrive _ _ _) h = absurd cc
    go (Release _) h = absurd cc
    go (Over _ _) h = absurd cc
event_effect x e (y ∷ past) (inr i) h = go y (event_effect x e past i h)
  where
    go : (y : SourceEvent) → In e (source_effects past) → In e (source_effects (y ∷ past))
    go (Do p k wrote place value) j = inr j
    go (Effect p k c wrote place value) j = inr j
    go (Issue _ _) j = j
    go (Sync _ _) j = j
    go (Arrive _ _ _) j = j
    go (Release _) j = j
    go (Over _ _) j = j

pub some_value : (p n c : ℕ) (wrote : Bool) (e : CellEffect) (es : List CellEffect) → In e es → is_part p n c wrote e ≡ true → IsSome (part_value p n c wrote es)
some_value p n c wrote e [] i h = absurd i
some_value p n c wrote e (d ∷ es) (inl q) h = some_from _ d.value (if_true _ _ _ (subst (λ u. is_part p n c wrote u ≡ true) q h))
some_value p n c wrote e (d ∷ es) (inr i) h = by (is_part p n c wrote d) (some_value p n c wrote e es i h)
  where
    by : (b : Bool) → IsSome (part_value p n c wrote es) → IsSome (if b then Some d.value else part_value p n c wrote es)
    by true s = refl
    by false s = s

module _ (processes : Processes) (whole : List Entry) (known : Known processes whole) where
  abbrev pub It : SourceEvent → Type 0
  It x = Is processes.start processes.nodes whole x

  abbrev pub E : List CellEffect
  E = effects processes.start whole

  -- items, each of which the source allowed after those before it, as its node's next
  abbrev pub Took : List SourceEvent → Type 0
  Took [] = Unit {0}
  Took (x ∷ past) = Allowed processes past x × (is_turn whole past x ≡ true) × It x × Took past

  pub took_it : (past : List SourceEvent) → Took past → (x : SourceEvent) → In x past → It x
  took_it [] t x i = absurd i
  took_it (y ∷ past) t x (inl q) = subst It (sym q) t.2
  took_it (y ∷ past) t x (inr i) = took_it past t.3 x i

  pub taken_low : (past : List SourceEvent) → Took past → (x : SourceEvent) → In x past → is_own x ≡ true → num x < made (at_node x) past
  taken_low [] t x i o = absurd i
  taken_low (y ∷ past) t x (inl q) o =
      let oy : is_own y ≡ true = subst (λ u. is_own u ≡ true) q o in
      let n = (next_of processes past y oy t.0).1.numbered in
      let m = made_own (at_node y) y past oy refl in
      subst (λ u. num u < made (at_node u) (y ∷ past)) (sym q) (omega arith)
  taken_low (y ∷ past) t x (inr i) o = let a = taken_low past t.3 x i o in let b = made_grows (at_node x) y past in omega arith

  pub low_taken : (past : List SourceEvent) → Took past → (p k : ℕ) → k < made p past → (x : SourceEvent) × In x past × (is_own x ≡ true) × (at_node x ≡ p) × (num x ≡ k)
  low_taken [] t p k lt = absurd (omega arith)
  low_taken (y ∷ past) t p k lt = by (λ l. low_taken past t.3 p k l) (whose p y)
    where
      by : (k < made p past → (x : SourceEvent) × In x past × (is_own x ≡ true) × (at_node x ≡ p) × (num x ≡ k)) → ((is_own y ≡ true) × (at_node y ≡ p)) ⊎ (is_own y ≡ true → at_node y ≡ p → ⊥)
          → (x : SourceEvent) × In x (y ∷ past) × (is_own x ≡ true) × (at_node x ≡ p) × (num x ≡ k)
      by f (inr g) = let m = made_other p y past g in let r = f (omega arith) in (r.0, inr r.1, r.2, r.3, r.4)
      by f (inl o) =
          let m = made_own p y past o.0 o.1 in
          let n = (next_of processes past y o.0 t.0).1.numbered in
          let c = ap (λ u. made u past) o.1 in
          ⊎_elim (λ l. let r = f l in (r.0, inr r.1, r.2, r.3, r.4)) (λ l. (y, inl refl, o.0, o.1, omega arith)) (cases_lt k (made p past))

  -- ---- each own step is the only one with its number

  pub same_access : (p k : ℕ) (x y : Bool) (a : IsAccess whole p k x) (b : IsAccess whole p k y) → (a.n ≡ b.n) × (a.access ≡ b.access)
  same_access p k x y a b =
      let s = same_stand p a.past b.past (Issued p a.n a.access) (Issued p b.n b.access) (request_in a.access) (request_in b.access) whole a.stands b.stands (issued_is p a.n a.access) (issued_is p b.n b.access) (a.numbered ∙ sym b.numbered) in
      let g = s.1 in (cc, cc)

  pub same_issue : (p k q j : ℕ) (x y : Bool) → p ≡ q → k ≡ j → (a : IsAccess whole p k x) (b : IsAccess whole q j y) → (a.n ≡ b.n) × (a.access ≡ b.access)
  same_issue p k q j x y hp hk a b =
      let s = same_stand p a.past b.past (Issued p a.n a.access) (Issued q b.n b.access) (request_in a.access) (request_in b.access) whole a.stands b.stands (issued_is p a.n a.access)
      (subst (λ u. request_by u (Issued q b.n b.access) ≡ Some (request_in b.access)) (sym hp) (issued_is q b.n b.access)) (a.numbered ∙ hk ∙ sym b.numbered ∙ ap (λ u. requested u b.past) (sym hp)) in
      let g = s.1 in (cc, cc)

  -- the access of an effect of the access
  pub has_place : (p k c : ℕ) (once wrote : Bool) (place : Place) (value : Value) (a : IsAccess whole p k once) → In (an_effect p a.n c wrote place value) E → part_place (transfer_of a.access) c wrote ≡ Some place
  has_place p k c once wrote place value a i =
      let o = each-in (Origin whole) E (an_effect p a.n c wrote place value) (origins processes.start whole) i in
      let x = (access_is processes.start processes.nodes p a.n a.access a.past whole known.wired a.stands).0 in
      let y = (access_is processes.start processes.nodes p a.n o.access o.past whole known.wired o.stands).0 in
      let e : o.access ≡ a.access = (let z = sym y ∙ x in cc) in
      subst (λ u. part_place (transfer_of u) c wrote ≡ Some place) e o.has

  one_side : (access : Access) (w v : Bool) (p q : Place) → is_done_at_once access ≡ true → part_place (transfer_of access) 0 w ≡ Some p → part_place (transfer_of access) 0 v ≡ Some q → w ≡ v
  one_side access true true p q h i j = refl
  one_side access false false p q h i j = refl
  one_side (Read place track) true false p q h i j = absurd cc
  one_side (Read place track) false true p q h i j = absurd cc
  one_side (Write place value track) true false p q h i j = absurd cc
  one_side (Write place value track) false true p q h i j = absurd cc
  one_side (Copy from to cells track) w v p q h i j = absurd cc

  one_do : (p k : ℕ) (w v : Bool) (pl ql : Place) (s t : Value) → It (Do p k w pl s) → It (Do p k v ql t) → Do p k w pl s ≡ Do p k v ql t
  one_do p k w v pl ql s t x y =
      let n = same_access p k true true x.0 y.0 in
      let i = has_place p k 0 true w pl s x.0 x.1 in
      let j = subst (λ u. part_place (transfer_of u) 0 v ≡ Some ql) (sym n.1) (has_place p k 0 true v ql t y.0 y.1) in
      let b = one_side x.0.access w v pl ql x.0.kind i j in
      let d : In (an_effect p x.0.n 0 v ql t) E = subst (λ u. In (an_effect p u 0 v ql t) E) (sym n.0) y.1 in
      let same = same_effect E (an_effect p x.0.n 0 w pl s) (an_effect p x.0.n 0 v ql t) (each_part_once processes.start whole) x.1 d (subst (λ u. is_part p x.0.n 0 u (an_effect p x.0.n 0 v ql t) ≡ true) (sym b) (part_self (an_effect p x.0.n 0 v ql t))) in
      ap (λ (u : CellEffect). Do p k u.wrote u.place u.value) same

  other_kind : (p k : ℕ) → IsAccess whole p k true → IsAccess whole p k false → ⊥
  other_kind p k a b = let n = same_access p k true false a b in both_ways (is_done_at_once b.access) b.kind (subst (λ u. is_done_at_once u ≡ true) n.1 a.kind)

  waited_is : (p : ℕ) → request_by p (Waited p 0) ≡ Some (Rattle.sc_meaning.specs.declared.request.Request.TheVariants.Sync 0)
  waited_is p = if_true ((p == p) && (0 == 0)) _ _ (both_self p 0)

  arrived_is : (p : ℕ) (s : Bool) → request_by p (Arrived p s) ≡ Some (Rattle.sc_meaning.specs.History.barrier_of s 0)
  arrived_is p s = if_true (p == p) _ _ (eq_self p)

  -- where an own step stands
  pub record Place_of (p k : ℕ) (x : SourceEvent) : Type 0 where
    pub past : List Entry
    pub entry : Entry
    pub request : Request
    pub stands : Stands past entry whole
    pub by : request_by p entry ≡ Some request
    pub numbered : requested p past ≡ k

  from_access : (p k : ℕ) (once : Bool) (x : SourceEvent) → IsAccess whole p k once → Place_of p k x
  from_access p k once x a = record { past = a.past; entry = Issued p a.n a.access; request = request_in a.access; stands = a.stands; by = issued_is p a.n a.access; numbered = a.numbered }

  pub place_of : (x : SourceEvent) → It x → is_own x ≡ true → Place_of (at_node x) (num x) x
  place_of (Do p k wrote place value) h o = from_access p k true _ h.0
  place_of (Issue p k) h o = from_access p k false _ h
  place_of (Sync p k) h o = record { past = h.0; entry = Waited p 0; request = _; stands = h.1; by = waited_is p; numbered = h.2 }
  place_of (Arrive p k s) h o = record { past = h.0; entry = Arrived p s; request = _; stands = h.1; by = arrived_is p s; numbered = h.2 }
  place_of (Effect _ _ _ _ _ _) h o = absurd cc
  place_of (Release _) h o = absurd cc
  place_of (Over _ _) h o = absurd cc

  tag_of : (x : SourceEvent) (h : It x) (o : is_own x ≡ true) → entry_tag (place_of x h o).entry ≡ event_tag x
  unfolding place_of from_access
  tag_of (Do p k wrote place value) h o = refl
  tag_of (Issue p k) h o = refl
  tag_of (Sync p k) h o = refl
  tag_of (Arrive p k s) h o = refl
  tag_of (Effect _ _ _ _ _ _) h o = absurd cc
  tag_of (Release _) h o = absurd cc
  tag_of (Over _ _) h o = absurd cc

  same_entry : (p k : ℕ) (x y : SourceEvent) (a : Place_of p k x) (b : Place_of p k y) → a.entry ≡ b.entry
  same_entry p k x y a b = (same_stand p a.past b.past a.entry b.entry a.request b.request whole a.stands b.stands a.by b.by (a.numbered ∙ sym b.numbered)).1

  tag_at : (p k : ℕ) (x : SourceEvent) (hx : It x) (ox : is_own x ≡ true) (a : at_node x ≡ p) (c : num x ≡ k) → (pl : Place_of p k x) × (entry_tag pl.entry ≡ event_tag x)
  tag_at p k x hx ox a c = subst (λ k. (pl : Place_of p k x) × (entry_tag pl.entry ≡ event_tag x)) c (subst (λ p. (pl : Place_of p (num x) x) × (entry_tag pl.entry ≡ event_tag x)) a (place_of x hx ox, tag_of x hx ox))

  same_tag : (p k : ℕ) (x y : SourceEvent) → It x → It y → is_own x ≡ true → is_own y ≡ true → at_node x ≡ p → at_node y ≡ p → num x ≡ k → num y ≡ k → event_tag x ≡ event_tag y
  same_tag p k x y hx hy ox oy a b c d =
      let u = tag_at p k x hx ox a c in let v = tag_at p k y hy oy b d in
      sym u.1 ∙ ap entry_tag (same_entry p k x y u.0 v.0) ∙ v.1

  pub one_numbered : (p k : ℕ) (x y : SourceEvent) → It x → It y → is_own x ≡ true → is_own y ≡ true → at_node x ≡ p → at_node y ≡ p → num x ≡ k → num y ≡ k → x ≡ y
  unfolding place_of from_access
  one_numbered p k (Do q j w pl s) (Do r i v ql t) hx hy ox oy a b c d =
      let e = a ∙ sym b in let f = c ∙ sym d in
      ap (λ u. Do u j w pl s) e ∙ ap (λ u. Do r u w pl s) f ∙ one_do r i w v pl ql s t (subst (λ u. It (Do r u w pl s)) f (subst (λ u. It (Do u j w pl s)) e hx)) hy
  one_numbered p k (Issue q j) (Issue r i) hx hy ox oy a b c d = ap (λ u. Issue u j) (a ∙ sym b) ∙ ap (λ u. Issue r u) (c ∙ sym d)
  one_numbered p k (Sync q j) (Sync r i) hx hy ox oy a b c d = ap (λ u. Sync u j) (a ∙ sym b) ∙ ap (λ u. Sync r u) (c ∙ sym d)
  one_numbered p k (Arrive q j s) (Arrive r i t) hx hy ox oy a b c d =
      let e = a ∙ sym b in let f = c ∙ sym d in
      let g = same_entry r i _ _ (place_of (Arrive r i s) (subst (λ u. It (Arrive r u s)) f (subst (λ u. It (Arrive u j s)) e hx)) refl) (place_of (Arrive r i t) hy refl) in
      let st : s ≡ t = cc in
      ap (λ u. Arrive u j s) e ∙ ap (λ u. Arrive r u s) f ∙ ap (λ u. Arrive r i u) st
  one_numbered p k (Do q j w pl s) (Issue r i) hx hy ox oy a b c d =
      absurd (other_kind r i (subst (λ u. IsAccess whole r u true) (c ∙ sym d) (subst (λ u. IsAccess whole u j true) (a ∙ sym b) hx.0)) hy)
  one_numbered p k (Issue r i) (Do q j w pl s) hx hy ox oy a b c d =
      absurd (other_kind r i (subst (λ u. IsAccess whole r u true) (d ∙ sym c) (subst (λ u. IsAccess whole u j true) (b ∙ sym a) hy.0)) hx)
  one_numbered p k (Effect _ _ _ _ _ _) y hx hy ox oy a b c d = absurd cc
  one_numbered p k (Release _) y hx hy ox oy a b c d = absurd cc
  one_numbered p k (Over _ _) y hx hy ox oy a b c d = absurd cc
  one_numbered p k x (Effect _ _ _ _ _ _) hx hy ox oy a b c d = absurd cc
  one_numbered p k x (Release _) hx hy ox oy a b c d = absurd cc
  one_numbered p k x (Over _ _) hx hy ox oy a b c d = absurd cc
  one_numbered p k x y hx hy ox oy a b c d = let t = same_tag p k x y hx hy ox oy a b c d in absurd (omega arith)
