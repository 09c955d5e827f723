-- What is known of the items of a whole run holds.
use Rattle.std.proofs.Common.{◌≡◌, ◌⊎◌, ℕ, zero, suc, ◌+◌, ◌<◌, ◌≤◌, List, [], ◌∷◌, ◌++◌, length, get_or, ltb, Option, Some, None, Bool, true, false, ◌==◌, ◌&&◌, ◌||◌, refl, sym, ap, subst, ◌∙◌, arith, inl, inr, ⊎_elim, eqb-true, eq-eqb, le_refl}
use Rattle.std.specs.Prelude.{IsSome}
use Rattle.std.proofs.lemmas.Bool.{and_from, cases_lt, cases_eq, ltb-true, or_left, or_right, or_cases}
use Rattle.sc_base.specs.declared.value.Place.{Place}
use Rattle.sc_base.specs.declared.value.Value.{Value}
use Rattle.sc_base.specs.declared.value.End.{End}
use Rattle.effect_order.specs.Effect.{Effect as CellEffect}
use Rattle.effect_order.specs.Items.{items_conflict}
use Rattle.effect_order.specs.Lists.{In, Each, Pairs, IsDistinct}
use Rattle.effect_order.specs.Transfer.{part_place, part_value, is_part}
use Rattle.effect_order.proofs.Members.{each-in, each-self, pairs-map}
use Rattle.sc_meaning.specs.declared.request.Request.{Request}
use Rattle.sc_meaning.specs.declared.event.SourceEvent.{SourceEvent}
use Rattle.sc_meaning.specs.declared.event.SourceEvent.TheVariants.{Do, Issue, Effect, Sync, Arrive, Release, End as Over}
use Rattle.sc_meaning.specs.OfAccess.{request_in}
use Rattle.sc_meaning.specs.Past.{Processes}
use Rattle.sc_isa.specs.declared.access.Access.{Access}
use Rattle.sc_isa.specs.declared.journal.Entry.{Entry}
use Rattle.sc_isa.specs.declared.journal.Entry.TheVariants.{Issued, Waited, Arrived, Finished}
use Rattle.fabric.specs.Access.{transfer_of}
use Rattle.fabric.specs.Barriers.{finished, released}
use Rattle.fabric.specs.Effects.{effects}
use Rattle.source_order.specs.Steps.{request_by, requested}
use Rattle.source_order.specs.Moments.{does, sooner, time, event_of, occurred_in}
use Rattle.source_order.specs.Items.{all_steps, all_releases, all_effects, items}
use Rattle.source_order.proofs.Stands.{Stands, wired_at, requested_below}
use Rattle.source_order.proofs.Numbers.{access_is, issued_is, both_self, eq_self, if_true as is_true}
use Rattle.source_order.proofs.Occurs.{part_of, part_self, some_from, some_is, found}
use Rattle.source_order.proofs.Once.{AtMostOnce, each_part_once}
use Rattle.source_order.proofs.Own.{finished_is, finish_at}
use Rattle.source_order.proofs.Effected.{Origin, origins, ReadFirst, reads_first, same_effect}
use Rattle.source_order.proofs.Times.{Behind, occurs_in_order}
use Rattle.source_order.proofs.Standing.{own_running}
use Rattle.source_order.proofs.Distinct.{num, at_node, sort, items_distinct, effect_time, effects_rise, step_sort, release_sort}
use Rattle.source_order.proofs.Character.{IsAccess, an_effect, Is, is_item, item_is, within_end, event_at}
use Rattle.source_order.proofs.Members.{pairs_append}
use Rattle.source_order.proofs.Matches.{Known}
use Rattle.source_order.proofs.Taken.{It, is_own, one_numbered, same_access}
use Rattle.source_order.proofs.Reached.{own_exists}
use Rattle.source_order.proofs.Shown.{items_in_order}
use Rattle.journal_order.specs.Ordering.{item_at}
use Rattle.order_edges.specs.declared.line.Kind.TheVariants.{Own, Effects}
use Rattle.order_edges.specs.Lines.{belongs, node_of, number_of, number_in}
use Rattle.order_edges.specs.Tables.{line_in}
use Rattle.order_edges.proofs.Places.{Numbered, numbered, number_from}
use Rattle.order_edges.proofs.Marks.{conflicting, conflict_from}
use Rattle.order_edges.proofs.Facts.{Facts}

-- ---- lists by places

at_in : {X : Type 0} (xs : List X) (i : ℕ) (d : X) → i < length xs → In (get_or xs i d) xs
at_in [] i d w = absurd (omega (arith, w))
at_in (x ∷ xs) zero d w = inl refl
at_in (x ∷ xs) (suc i) d w = inr (at_in xs i d (omega (arith, w)))

in_at : {X : Type 0} (xs : List X) (x d : X) → In x xs → (i : ℕ) × (i < length xs) × (get_or xs i d ≡ x)
in_at [] x d h = absurd h
in_at (y ∷ xs) x d (inl q) = (0, omega arith, sym q)
in_at (y ∷ xs) x d (inr h) = let r = in_at xs x d h in (suc r.0, (let w = r.1 in omega (arith, w)), r.2)

pairs_at : {X : Type 0} (P : X → X → Type 0) (xs : List X) (i j : ℕ) (d : X) → Pairs P xs → i < j → j < length xs → P (get_or xs i d) (get_or xs j d)
pairs_at P [] i j d p w v = absurd (omega (arith, v))
pairs_at P (x ∷ xs) i zero d p w v = absurd (omega (arith, w))
pairs_at P (x ∷ xs) zero (suc j) d p w v = each-in (P x) xs (get_or xs j d) p.0 (at_in xs j d (omega (arith, v)))
pairs_at P (x ∷ xs) (suc i) (suc j) d p w v = pairs_at P xs i j d p.1 (omega (arith, w)) (omega (arith, v))

distinct_at : {X : Type 0} (xs : List X) (i j : ℕ) (d : X) → IsDistinct xs → i < length xs → j < length xs → get_or xs i d ≡ get_or xs j d → i ≡ j
distinct_at xs i j d p w v e = ⊎_elim
    (λ t. absurd (pairs_at (λ a b. a ≡ b → ⊥) xs i j d p t v e))
    (λ t. ⊎_elim (λ u. absurd (pairs_at (λ a b. a ≡ b → ⊥) xs j i d p u w (sym e))) (λ u. omega (arith, t, u)) (cases_lt j i))
    (cases_lt i j)

module _ (processes : Processes) (whole : List Entry) (known : Known processes whole) where
  abbrev start : Place → Value
  start = processes.start

  abbrev nodes : ℕ
  nodes = processes.nodes

  abbrev all : List SourceEvent
  all = items start nodes whole

  abbrev At : ℕ → SourceEvent
  At = item_at all

  it : (i : ℕ) → i < length all → It processes whole known (At i)
  it i w = is_item start nodes whole known.wired (At i) (at_in all i (Release 0) w)

  place_of : (x : SourceEvent) → It processes whole known x → (i : ℕ) × (i < length all) × (At i ≡ x)
  place_of x h = in_at all x (Release 0) (item_is start nodes whole known.wired x h)

  one : (i j : ℕ) → i < length all → j < length all → At i ≡ At j → i ≡ j
  one i j w v e = distinct_at all i j (Release 0) (items_distinct start nodes whole known.wired) w v e

  -- ---- own items and effects

  within : (p : ℕ) (past : List Entry) (e : Entry) (r : Request) → Stands past e whole → request_by p e ≡ Some r → p < nodes
  within p past e r s h = (own_running start nodes p e past (wired_at start nodes past e whole known.wired s).0 r h).2

  low : (p k : ℕ) (past : List Entry) (e : Entry) (r : Request) → Stands past e whole → request_by p e ≡ Some r → requested p past ≡ k → k < requested p whole
  low p k past e r s h n = let b = requested_below p past e whole r s h in omega (arith, n, b)

  access_within : (p k : ℕ) (once : Bool) → IsAccess whole p k once → (p < nodes) × (k < requested p whole)
  access_within p k once a = (
    within p a.past (Issued p a.n a.access) (request_in a.access) a.stands (issued_is p a.n a.access),
    low p k a.past (Issued p a.n a.access) (request_in a.access) a.stands (issued_is p a.n a.access) a.numbered,
  )

  own_within : (x : SourceEvent) → It processes whole known x → is_own x ≡ true → (node_of x < nodes) × (num x < requested (node_of x) whole)
  own_within (Do p k wrote place value) h o = access_within p k true h.0
  own_within (Issue p k) h o = access_within p k false h
  own_within (Sync p k) h o =
      let r = is_true ((p == p) && (0 == 0)) _ _ (both_self p 0) in (within p h.0 (Waited p 0) _ h.1 r, low p k h.0 (Waited p 0) _ h.1 r h.2)
  own_within (Arrive p k stores) h o =
      let r = is_true (p == p) _ _ (eq_self p) in (within p h.0 (Arrived p stores) _ h.1 r, low p k h.0 (Arrived p stores) _ h.1 r h.2)
  own_within (Effect _ _ _ _ _ _) h o = absurd cc
  own_within (Release _) h o = absurd cc
  own_within (Over _ _) h o = absurd cc

  on_nodes : (x : SourceEvent) → It processes whole known x → belongs Own x ≡ true → node_of x < nodes
  on_nodes (Over p end) h b = within_end start nodes whole known.wired end h.0 p (wired_at start nodes h.0 (Finished p end) whole known.wired h.1).0
  on_nodes (Do p k wrote place value) h b = (own_within (Do p k wrote place value) h refl).0
  on_nodes (Issue p k) h b = (own_within (Issue p k) h refl).0
  on_nodes (Sync p k) h b = (own_within (Sync p k) h refl).0
  on_nodes (Arrive p k stores) h b = (own_within (Arrive p k stores) h refl).0
  on_nodes (Effect _ _ _ _ _ _) h b = absurd cc
  on_nodes (Release _) h b = absurd cc

  numbers_low : (p : ℕ) (x : SourceEvent) → It processes whole known x → belongs Own x ≡ true → node_of x ≡ p → number_of (requested p whole) x ≤ requested p whole
  numbers_low p (Over q end) h b e = le_refl _
  numbers_low p (Do q k wrote place value) h b e = let w = (own_within (Do q k wrote place value) h refl).1 in let r = ap (λ u. requested u whole) e in omega (arith, w, r)
  numbers_low p (Issue q k) h b e = let w = (own_within (Issue q k) h refl).1 in let r = ap (λ u. requested u whole) e in omega (arith, w, r)
  numbers_low p (Sync q k) h b e = let w = (own_within (Sync q k) h refl).1 in let r = ap (λ u. requested u whole) e in omega (arith, w, r)
  numbers_low p (Arrive q k stores) h b e = let w = (own_within (Arrive q k stores) h refl).1 in let r = ap (λ u. requested u whole) e in omega (arith, w, r)
  numbers_low p (Effect _ _ _ _ _ _) h b e = absurd cc
  numbers_low p (Release _) h b e = absurd cc

  effect_within : (x : SourceEvent) → It processes whole known x → belongs Effects x ≡ true → (node_of x < nodes) × (num x < requested (node_of x) whole)
  effect_within (Effect p k c wrote place value) h b = access_within p k false h.0
  effect_within (Do _ _ _ _ _) h b = absurd cc
  effect_within (Issue _ _) h b = absurd cc
  effect_within (Sync _ _) h b = absurd cc
  effect_within (Arrive _ _ _) h b = absurd cc
  effect_within (Release _) h b = absurd cc
  effect_within (Over _ _) h b = absurd cc

  effects_low : (p : ℕ) (x : SourceEvent) → It processes whole known x → belongs Effects x ≡ true → node_of x ≡ p → number_of (requested p whole) x ≤ requested p whole
  effects_low p (Effect q k c wrote place value) h b e =
      let w = (access_within q k false h.0).1 in let r = ap (λ u. requested u whole) e in omega (arith, w, r)
  effects_low p (Do _ _ _ _ _) h b e = absurd cc
  effects_low p (Issue _ _) h b e = absurd cc
  effects_low p (Sync _ _) h b e = absurd cc
  effects_low p (Arrive _ _ _) h b e = absurd cc
  effects_low p (Release _) h b e = absurd cc
  effects_low p (Over _ _) h b e = absurd cc

  -- ---- one own item under each number

  -- an own item with a number is a request or the end
  data OwnItem (p k : ℕ) (x : SourceEvent) : Type 0 where
    Asks : is_own x ≡ true → at_node x ≡ p → num x ≡ k → OwnItem p k x
    Ends : (end : End) → x ≡ Over p end → k ≡ requested p whole → OwnItem p k x

  own_item : (p k : ℕ) (x : SourceEvent) → Numbered (line_in whole p Own) x k → OwnItem p k x
  own_item p k (Do q j wrote place value) n = Asks refl n.on n.is
  own_item p k (Issue q j) n = Asks refl n.on n.is
  own_item p k (Sync q j) n = Asks refl n.on n.is
  own_item p k (Arrive q j stores) n = Asks refl n.on n.is
  own_item p k (Over q end) n = Ends end (ap (λ u. Over u end) n.on) (sym n.is)
  own_item p k (Effect _ _ _ _ _ _) n = absurd (let e = n.kind in cc)
  own_item p k (Release _) n = absurd (let e = n.kind in cc)

  ask_low : (p k : ℕ) (x : SourceEvent) → It processes whole known x → is_own x ≡ true → at_node x ≡ p → num x ≡ k → k < requested p whole
  ask_low p k (Do q j wrote place value) h o a n = let w = (own_within (Do q j wrote place value) h refl).1 in let r = ap (λ u. requested u whole) a in omega (arith, w, r, n)
  ask_low p k (Issue q j) h o a n = let w = (own_within (Issue q j) h refl).1 in let r = ap (λ u. requested u whole) a in omega (arith, w, r, n)
  ask_low p k (Sync q j) h o a n = let w = (own_within (Sync q j) h refl).1 in let r = ap (λ u. requested u whole) a in omega (arith, w, r, n)
  ask_low p k (Arrive q j stores) h o a n = let w = (own_within (Arrive q j stores) h refl).1 in let r = ap (λ u. requested u whole) a in omega (arith, w, r, n)
  ask_low p k (Effect _ _ _ _ _ _) h o a n = absurd cc
  ask_low p k (Release _) h o a n = absurd cc
  ask_low p k (Over _ _) h o a n = absurd cc

  same_item : (p k : ℕ) (x y : SourceEvent) → It processes whole known x → It processes whole known y → OwnItem p k x → OwnItem p k y → x ≡ y
  same_item p k x y h g (Asks a b c) (Asks d e f) = one_numbered processes whole known p k x y h g a d b e c f
  same_item p k x y h g (Asks a b c) (Ends end q r) = absurd (let w = ask_low p k x h a b c in omega (arith, w, r))
  same_item p k x y h g (Ends end q r) (Asks a b c) = absurd (let w = ask_low p k y g a b c in omega (arith, w, r))
  same_item p k x y h g (Ends end q r) (Ends other s t) =
      let a = subst (It processes whole known) q h in let b = subst (It processes whole known) s g in
      let u = finished_is p end a.0 whole start nodes known.wired a.1 in
      let v = finished_is p other b.0 whole start nodes known.wired b.1 in
      let e : end ≡ other = cc in q ∙ ap (λ z. Over p z) e ∙ sym s

  asked_number : (p k : ℕ) (x : SourceEvent) → It processes whole known x → is_own x ≡ true → at_node x ≡ p → num x ≡ k → number_in (line_in whole p Own) x ≡ Some k
  asked_number p k (Do q j wrote place value) h o a n = number_from (line_in whole p Own) (Do q j wrote place value) refl a (numbers_low p (Do q j wrote place value) h refl a) ∙ ap Some n
  asked_number p k (Issue q j) h o a n = number_from (line_in whole p Own) (Issue q j) refl a (numbers_low p (Issue q j) h refl a) ∙ ap Some n
  asked_number p k (Sync q j) h o a n = number_from (line_in whole p Own) (Sync q j) refl a (numbers_low p (Sync q j) h refl a) ∙ ap Some n
  asked_number p k (Arrive q j stores) h o a n = number_from (line_in whole p Own) (Arrive q j stores) refl a (numbers_low p (Arrive q j stores) h refl a) ∙ ap Some n
  asked_number p k (Effect _ _ _ _ _ _) h o a n = absurd cc
  asked_number p k (Release _) h o a n = absurd cc
  asked_number p k (Over _ _) h o a n = absurd cc

  own_there : (p k : ℕ) → p < nodes → k ≤ requested p whole → (i : ℕ) × (i < length all) × (number_in (line_in whole p Own) (At i) ≡ Some k)
  own_there p k n w = ⊎_elim
      (λ t.
      let x = own_exists processes whole known p n k t in
      let r = place_of x.0 x.1 in
      (r.0, r.1, ap (number_in (line_in whole p Own)) r.2 ∙ asked_number p k x.0 x.1 x.2 x.3 x.4))
      (λ t.
      let end = some_is (finished p whole) (known.all_finished p n) in
      let s = finish_at p end.0 whole end.1 in
      let r = place_of (Over p end.0) s in
      let same : requested p whole ≡ k = omega (arith, w, t) in
      (r.0, r.1, ap (number_in (line_in whole p Own)) r.2 ∙ number_from (line_in whole p Own) (Over p end.0) refl refl (le_refl _) ∙ ap Some same))
      (cases_lt k (requested p whole))

  -- ---- order

  -- of two effects the one that stands first takes effect first
  abbrev Rising : SourceEvent → SourceEvent → Type 0
  Rising a b = sort a ≡ 3 → sort b ≡ 3 → time start whole a < time start whole b

  quiet : (xs : List SourceEvent) → ((x : SourceEvent) → In x xs → sort x ≤ 2) → Pairs Rising xs
  quiet [] f = tt
  quiet (x ∷ xs) f = (each-self _ xs (λ y i a b. absurd (let u = f x (inl refl) in omega (arith, u, a))), quiet xs (λ y i. f y (inr i)))

  steps_low : (x : SourceEvent) → In x (all_steps nodes whole) → sort x ≤ 2
  steps_low x i = let u = step_sort start nodes whole known.wired nodes x i in omega (arith, u)

  releases_low : (x : SourceEvent) → In x (all_releases (released whole)) → sort x ≤ 2
  releases_low x i = let u = release_sort start nodes whole known.wired (released whole) x i in omega (arith, u)

  rising : Pairs Rising all
  rising =
      pairs_append Rising (all_steps nodes whole) (all_releases (released whole) ++ all_effects start whole) (quiet _ steps_low)
      (pairs_append Rising (all_releases (released whole)) (all_effects start whole) (quiet _ releases_low)
      (pairs-map (λ a b. time start whole a < time start whole b) Rising (λ a b t u v. t) (all_effects start whole) (effects_rise start nodes whole known.wired))
      (λ x y i j a b. absurd (let u = releases_low x i in omega (arith, u, a))))
      (λ x y i j a b. absurd (let u = steps_low x i in omega (arith, u, a)))

  in_order : (i j : ℕ) → i < j → j < length all → items_conflict does (At i) (At j) ≡ true → sooner start whole (At i) (At j) ≡ true
  in_order i j w v h =
      pairs_at (λ a b. items_conflict does a b ≡ true → sooner start whole a b ≡ true) all i j (Release 0) (items_in_order start nodes whole known.wired) w v h

  turned : (x y : SourceEvent) → items_conflict does x y ≡ true → items_conflict does y x ≡ true
  turned x y h =
      let c = conflicting x y h in
      conflict_from y x c.second c.first (sym c.same)
      (⊎_elim (λ t. or_right _ _ t) (λ t. or_left _ _ t) (or_cases c.first.effect.wrote c.second.effect.wrote c.writes))

  is_order : (i j : ℕ) → i < length all → j < length all → items_conflict does (At i) (At j) ≡ true → sooner start whole (At i) (At j) ≡ true → i < j
  is_order i j w v h s = ⊎_elim (λ t. t)
      (λ t. ⊎_elim
      (λ u.
      let a = ltb-true (time start whole (At i)) (time start whole (At j)) s in
      let b = ltb-true (time start whole (At j)) (time start whole (At i)) (in_order j i u w (turned (At i) (At j) h)) in
      absurd (omega (arith, a, b)))
      (λ u.
      let e : i ≡ j = omega (arith, t, u) in
      let a = ltb-true (time start whole (At i)) (time start whole (At j)) s in
      let b = ap (λ n. time start whole (At n)) e in
      absurd (omega (arith, a, b)))
      (cases_lt j i))
      (cases_lt i j)

  -- ---- the two parts of a copied cell

  module _ (p k c : ℕ) (from to : Place) (read wrote : Value) where
    behind : (n : ℕ) → In (an_effect p n c false from read) (effects start whole) → In (an_effect p n c true to wrote) (effects start whole)
        → (es : List CellEffect) → ReadFirst start whole es → AtMostOnce es → ((f : CellEffect) → In f es → In f (effects start whole))
        → In (an_effect p n c true to wrote) es → Behind (an_effect p n c false from read) (an_effect p n c true to wrote) es
    behind n ra rb [] first once sub i = absurd i
    behind n ra rb (x ∷ es) first once sub (inr i) = inr (behind n ra rb es first.1 once.1 (λ f j. sub f (inr j)) i)
    behind n ra rb (x ∷ es) first once sub (inl q) =
        let r = (subst (λ (x : CellEffect). x.wrote ≡ true → (past : List Entry) × (access : Access) × Stands past (Issued x.node x.number access) whole × (IsSome (part_place (transfer_of access) x.cell false) → IsSome (part_value x.node x.number x.cell false es))) (sym q) first.0) refl in
        let o = each-in (Origin whole) (effects start whole) (an_effect p n c false from read) (origins start whole) ra in
        let x1 = (access_is start nodes p n o.access o.past whole known.wired o.stands).0 in
        let x2 = (access_is start nodes p n r.1 r.0 whole known.wired r.2).0 in
        let ea : o.access ≡ r.1 = (let z = sym x1 ∙ x2 in cc) in
        let v = some_is (part_value p n c false es) (r.3 (some_from _ from (subst (λ u. part_place (transfer_of u) c false ≡ Some from) ea o.has))) in
        let f = found p n c false es v.0 v.1 in
        let same = same_effect (effects start whole) (an_effect p n c false from read) f.0 (each_part_once start whole) ra (sub f.0 (inr f.1)) f.2 in
        inl (q, subst (λ u. In u es) (sym same) f.1)

    when : (n : ℕ) (b : Bool) (place : Place) (value : Value) (a : IsAccess whole p k false) → a.n ≡ n → In (an_effect p n c b place value) (effects start whole)
        → time start whole (Effect p k c b place value) ≡ occurred_in start whole whole (event_of whole (an_effect p n c b place value))
    when n b place value a e i =
        let j = subst (λ m. In (an_effect p m c b place value) (effects start whole)) (sym e) i in
        let q = event_at start nodes whole known.wired p k c b place value false a j in
        let q2 = subst (λ m. event_of whole (an_effect p m c b place value) ≡ Effect p k c b place value) e q in
        ap (time start whole) (sym q2) ∙ effect_time start nodes whole known.wired (an_effect p n c b place value) i

    reads_before : (i j : ℕ) → i < length all → j < length all → At i ≡ Effect p k c false from read → At j ≡ Effect p k c true to wrote → i < j
    reads_before i j w v e g = ⊎_elim (λ t. t) (λ t. absurd (other t)) (cases_lt i j)
      where
        h : It processes whole known (Effect p k c false from read)
        h = subst (It processes whole known) e (it i w)

        h2 : It processes whole known (Effect p k c true to wrote)
        h2 = subst (It processes whole known) g (it j v)

        n : ℕ
        n = h2.0.n

        same : h.0.n ≡ n
        same = (same_access processes whole known p k false false h.0 h2.0).0

        ra : In (an_effect p n c false from read) (effects start whole)
        ra = subst (λ u. In (an_effect p u c false from read) (effects start whole)) same h.1

        lt : time start whole (At i) < time start whole (At j)
        lt =
            let b = behind n ra h2.1 (effects start whole) (reads_first start whole) (each_part_once start whole) (λ f x. x) h2.1 in
            let r = occurs_in_order start nodes whole known.wired (an_effect p n c false from read) (an_effect p n c true to wrote) whole (λ f x. x) b in
            let x = ap (time start whole) e ∙ when n false from read h.0 same ra in
            let y = ap (time start whole) g ∙ when n true to wrote h2.0 refl h2.1 in
            omega (arith, r, x, y)

        other : j ≤ i → ⊥
        other t = ⊎_elim
            (λ u.
            let r = pairs_at Rising all j i (Release 0) rising u w (ap sort g) (ap sort e) in
            let l = lt in omega (arith, r, l))
            (λ u. let q : i ≡ j = omega (arith, t, u) in let r = ap (λ m. time start whole (At m)) q in let l = lt in omega (arith, r, l))
            (cases_lt j i)

  reads_once : (i j p k c : ℕ) (from to : Place) (read other : Value) → i < length all → j < length all
      → At i ≡ Effect p k c false from read → At j ≡ Effect p k c false to other → i ≡ j
  reads_once i j p k c from to read other w v e g =
      let h : It processes whole known (Effect p k c false from read) = subst (It processes whole known) e (it i w) in
      let h2 : It processes whole known (Effect p k c false to other) = subst (It processes whole known) g (it j v) in
      let n = (same_access processes whole known p k false false h.0 h2.0).0 in
      let ra = subst (λ u. In (an_effect p u c false from read) (effects start whole)) n h.1 in
      let same = same_effect (effects start whole) (an_effect p h2.0.n c false from read) (an_effect p h2.0.n c false to other) (each_part_once start whole) ra h2.1
      (part_self (an_effect p h2.0.n c false to other)) in
      one i j w v (e ∙ ap (λ (u : CellEffect). Effect p k c false u.place u.value) same ∙ sym g)

  -- ---- all

  pub facts : Facts start whole nodes all
  facts = record {
    own_on = λ i w b. on_nodes (At i) (it i w) b;
    own_low = λ i p w b e. numbers_low p (At i) (it i w) b e;
    effect_on = λ i w b. (effect_within (At i) (it i w) b).0;
    effect_low = λ i p w b e. effects_low p (At i) (it i w) b e;
    own_one = λ i j p k w v h g. one i j w v (same_item p k (At i) (At j) (it i w) (it j v) (own_item p k (At i) (numbered (line_in whole p Own) (At i) k h)) (own_item p k (At j) (numbered (line_in whole p Own) (At j) k g)));
    own_there = own_there;
    release_low = λ i m w e. let r = subst (It processes whole known) e (it i w) in let a = r.1 in let b = r.2 in (omega (arith, a), omega (arith, a, b));
    release_one = λ i j m w v e g. one i j w v (e ∙ sym g);
    release_there = λ m w v. place_of (Release m) (the_release m w v);
    in_order = in_order;
    is_order = is_order;
    reads_before = λ i j p k c from to read wrote w v e g. reads_before p k c from to read wrote i j w v e g;
    reads_once = reads_once;
  }
    where
      the_release : (m : ℕ) → 1 ≤ m → m ≤ released whole → It processes whole known (Release m)
      the_release zero w v = absurd (omega (arith, w))
      the_release (suc r) w v = (r, refl, omega (arith, v))
