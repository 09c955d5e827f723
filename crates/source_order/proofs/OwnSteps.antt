-- A node's own steps, with its blocking reads and writes: each stands at its entry, and they rise by number, an end last.
use Rattle.std.proofs.Common.{◌≡◌, ◌⊎◌, ℕ, ◌<◌, List, [], ◌∷◌, Option, Some, None, Bool, true, false, not, ◌==◌, ◌&&◌, refl, sym, ap, ◌∙◌, subst, inl, inr, ⊎_elim, arith, eqb-true}
use Rattle.std.specs.Prelude.{if◌then◌else◌, IsSome}
use Rattle.std.proofs.lemmas.Bool.{and_parts, and_from}
use Rattle.sc_base.specs.declared.value.Place.{Place}
use Rattle.sc_base.specs.declared.value.Value.{Value}
use Rattle.sc_base.specs.declared.value.End.{End}
use Rattle.effect_order.specs.Effect.{Effect as CellEffect}
use Rattle.effect_order.specs.Lists.{In, Pairs}
use Rattle.effect_order.proofs.Members.{in-either}
use Rattle.sc_meaning.specs.declared.request.Request.{Request}
use Rattle.sc_meaning.specs.declared.event.SourceEvent.{SourceEvent}
use Rattle.sc_meaning.specs.declared.event.SourceEvent.TheVariants.{Do, Issue, Effect, Sync, Arrive, Release, End as Over}
use Rattle.sc_meaning.specs.OfAccess.{is_done_at_once, request_in}
use Rattle.sc_meaning.specs.Past.{Processes}
use Rattle.sc_isa.specs.declared.access.Access.{Access}
use Rattle.sc_isa.specs.declared.journal.Entry.{Entry}
use Rattle.sc_isa.specs.declared.journal.Entry.TheVariants.{Issued, Delivered, Waited, Arrived, Passed, Finished}
use Rattle.fabric.specs.Barriers.{finished}
use Rattle.fabric.specs.Wired.{Wired, EntryWired}
use Rattle.source_order.specs.Steps.{request_by, requested}
use Rattle.source_order.specs.Moments.{event_of}
use Rattle.source_order.specs.Items.{step_by}
use Rattle.source_order.specs.ByRules.{is_of, effect_of, event_if, own_by, own_of}
use Rattle.source_order.proofs.Stands.{Stands, requested_below}
use Rattle.source_order.proofs.Numbers.{eq_self, issued_is}
use Rattle.source_order.proofs.Occurs.{not_some, some_from}
use Rattle.source_order.proofs.Own.{StepOf, OfIssue, OfSync, OfArrival, step_is, is_step, finished_is}
use Rattle.source_order.proofs.Standing.{own_running}
use Rattle.source_order.proofs.Distinct.{num, at_node, sort, numbered, running, origin}
use Rattle.source_order.proofs.Character.{IsAccess, an_effect, step_character, effect_character, event_at}
use Rattle.source_order.proofs.Matches.{Known}
use Rattle.source_order.proofs.Members.{pairs_append, in_left, in_right}
use Rattle.source_order.proofs.Taken.{It, E, is_own, one_numbered}

own_sort : (x : SourceEvent) → sort x ≡ 0 → is_own x ≡ true
own_sort (Do _ _ _ _ _) h = absurd (omega arith)
own_sort (Issue _ _) h = refl
own_sort (Effect _ _ _ _ _ _) h = absurd (omega arith)
own_sort (Sync _ _) h = refl
own_sort (Arrive _ _ _) h = refl
own_sort (Release _) h = absurd (omega arith)
own_sort (Over _ _) h = absurd (omega arith)

-- the effect of an access, where it is found and where there is one
effect_found : (p n : ℕ) (es : List CellEffect) (e : CellEffect) → effect_of p n es ≡ Some e → In e es × (is_of p n e ≡ true)
effect_found p n [] e h = absurd cc
effect_found p n (x ∷ es) e h = by (is_of p n x) refl h (λ i. effect_found p n es e i)
  where
    by : (b : Bool) → is_of p n x ≡ b → (if b then Some x else effect_of p n es) ≡ Some e → (effect_of p n es ≡ Some e → In e es × (is_of p n e ≡ true)) → In e (x ∷ es) × (is_of p n e ≡ true)
    by true t i f = let q : x ≡ e = cc in (inl (sym q), subst (λ u. is_of p n u ≡ true) q t)
    by false t i f = let r = f i in (inr r.0, r.1)

effect_there : (p n : ℕ) (es : List CellEffect) (e : CellEffect) → In e es → is_of p n e ≡ true → (x : CellEffect) × (effect_of p n es ≡ Some x)
effect_there p n [] e i h = absurd i
effect_there p n (x ∷ es) e i h = by (is_of p n x) refl i (λ j. effect_there p n es e j h)
  where
    by : (b : Bool) → is_of p n x ≡ b → In e (x ∷ es) → (In e es → (y : CellEffect) × (effect_of p n es ≡ Some y)) → (y : CellEffect) × ((if b then Some x else effect_of p n es) ≡ Some y)
    by true t j f = (x, refl)
    by false t (inl q) f = let z : true ≡ false = sym h ∙ ap (is_of p n) q ∙ t in absurd cc
    by false t (inr j) f = f j

module _ (processes : Processes) (whole : List Entry) (known : Known processes whole) (p : ℕ) where
  abbrev start : Place → Value
  start = processes.start

  -- an own step at an entry: a request, or an end
  pub data OwnBy (past : List Entry) (entry : Entry) (x : SourceEvent) : Type 0 where
    Asks : It processes whole known x → is_own x ≡ true → at_node x ≡ p → num x ≡ requested p past → (r : Request) → request_by p entry ≡ Some r → OwnBy past entry x
    Ends : (end : End) → entry ≡ Finished p end → x ≡ Over p end → OwnBy past entry x

  of_step : (past : List Entry) (entry : Entry) (x : SourceEvent) → Stands past entry whole → StepOf p past entry x → OwnBy past entry x
  of_step past entry x s is = by (numbered p past entry x is) (request_by p entry) refl
    where
      it : It processes whole known x
      it = step_character start processes.nodes whole p x (record { past = past; entry = entry; stands = s; is = is })

      by : ((sort x ≡ 0) × (at_node x ≡ p) × (num x ≡ requested p past) × IsSome (request_by p entry)) ⊎ ((sort x ≡ 1) × (at_node x ≡ p) × ((end : End) × (entry ≡ Finished p end) × (x ≡ Over p end)))
          → (o : Option Request) → request_by p entry ≡ o → OwnBy past entry x
      by (inl a) (Some r) h = Asks it (own_sort x a.0) a.1 a.2 r h
      by (inl a) None h = absurd (not_some (request_by p entry) h a.3)
      by (inr a) o h = Ends a.2.0 a.2.1 a.2.2

  -- the effect of a blocking read or write as its own step
  of_effect : (past : List Entry) (n : ℕ) (access : Access) (x : SourceEvent) → Stands past (Issued p n access) whole → is_done_at_once access ≡ true
      → (e : CellEffect) → effect_of p n (E processes whole known) ≡ Some e → x ≡ event_of whole e → OwnBy past (Issued p n access) x
  of_effect past n access x s h e f q =
      let r = effect_found p n (E processes whole known) e f in
      let k = and_parts (e.node == p) (e.number == n) r.1 in
      let same : e ≡ an_effect p n e.cell e.wrote e.place e.value = rw (sym (eqb-true e.node p k.0), sym (eqb-true e.number n k.1)) refl in
      let a : IsAccess whole p (requested p past) true = record { past = past; n = n; access = access; stands = s; numbered = refl; kind = h } in
      let is : event_of whole e ≡ Do p (requested p past) e.wrote e.place e.value =
      ap (event_of whole) same ∙ event_at start processes.nodes whole known.wired p (requested p past) e.cell e.wrote e.place e.value true a (subst (λ u. In u (E processes whole known)) same r.0) in
      let it : It processes whole known (event_of whole e) = effect_character start processes.nodes whole known.wired e r.0 (origin start processes.nodes whole known.wired e r.0) in
      let y : x ≡ Do p (requested p past) e.wrote e.place e.value = q ∙ is in
      Asks (subst (It processes whole known) (sym q) it) (ap is_own y) (ap at_node y) (ap num y) (request_in access) (issued_is p n access)

  pub own_is : (past : List Entry) (entry : Entry) (x : SourceEvent) → Stands past entry whole → In x (own_by start whole p past entry) → OwnBy past entry x
  own_is past (Issued q n access) x s i = by ((q == p) && is_done_at_once access) refl i
    where
      found : (o : Option CellEffect) → effect_of p n (E processes whole known) ≡ o → In x (event_if start whole o) → (e : CellEffect) × (effect_of p n (E processes whole known) ≡ Some e) × (x ≡ event_of whole e)
      found None h j = absurd j
      found (Some e) h (inl y) = (e, h, y)
      found (Some e) h (inr j) = absurd j

      by : (b : Bool) → ((q == p) && is_done_at_once access) ≡ b
          → In x (if b then event_if start whole (effect_of p n (E processes whole known)) else step_by p past (Issued q n access)) → OwnBy past (Issued q n access) x
      by true t j =
          let z = and_parts (q == p) (is_done_at_once access) t in
          let g = found (effect_of p n (E processes whole known)) refl j in
          let y : q ≡ p = eqb-true q p z.0 in
          subst (λ u. OwnBy past (Issued u n access) x) (sym y) (of_effect past n access x (subst (λ u. Stands past (Issued u n access) whole) y s) z.1 g.0 g.1 g.2)
      by false t j = of_step past (Issued q n access) x s (step_is p past (Issued q n access) x j)
  own_is past (Waited q c) x s i = of_step past (Waited q c) x s (step_is p past (Waited q c) x i)
  own_is past (Arrived q st) x s i = of_step past (Arrived q st) x s (step_is p past (Arrived q st) x i)
  own_is past (Finished q end) x s i = of_step past (Finished q end) x s (step_is p past (Finished q end) x i)
  own_is past (Delivered _ _ _ _) x s i = absurd i
  own_is past (Passed _) x s i = absurd i

  -- where a member of the list stands
  pub record From (xs : List Entry) (x : SourceEvent) : Type 0 where
    pub past : List Entry
    pub entry : Entry
    pub stands : Stands past entry xs
    pub is : OwnBy past entry x

  abbrev Sub : List Entry → Type 0
  Sub xs = (s : List Entry) (e : Entry) → Stands s e xs → Stands s e whole

  pub from_list : (xs : List Entry) → Sub xs → (x : SourceEvent) → In x (own_of start whole p xs) → From xs x
  from_list [] sub x i = absurd i
  from_list (e ∷ rest) sub x i =
      ⊎_elim
      (λ j. let f = from_list rest (λ s e st. sub s e (inr st)) x j in record { past = f.past; entry = f.entry; stands = inr f.stands; is = f.is })
      (λ j. record { past = rest; entry = e; stands = inl (refl, refl); is = own_is rest e x (sub rest e (inl (refl, refl))) j })
      (in-either (own_of start whole p rest) (own_by start whole p rest e) x i)

  pub in_list : (xs past : List Entry) (entry : Entry) (x : SourceEvent) → Stands past entry xs → In x (own_by start whole p past entry) → In x (own_of start whole p xs)
  in_list [] past entry x s i = absurd s
  in_list (e ∷ rest) past entry x (inl q) i =
      in_right (own_of start whole p rest) (own_by start whole p rest e) x (subst (λ u. In x (own_by start whole p u e)) q.0 (subst (λ u. In x (own_by start whole p past u)) q.1 i))
  in_list (e ∷ rest) past entry x (inr s) i = in_left (own_of start whole p rest) (own_by start whole p rest e) x (in_list rest past entry x s i)

  -- ---- order

  -- the first is a request of the node, and has the less number, or the other is an end
  abbrev pub Before : SourceEvent → SourceEvent → Type 0
  Before a b =
      It processes whole known a × (is_own a ≡ true) × (at_node a ≡ p)
      × (((is_own b ≡ true) × (num a < num b)) ⊎ ((end : End) × (b ≡ Over p end) × (num a < requested p whole)))

  at_most_one : (past : List Entry) (entry : Entry) → Pairs Before (own_by start whole p past entry)
  at_most_one past (Issued q n access) = by ((q == p) && is_done_at_once access) ((q == p) && not (is_done_at_once access)) (effect_of p n (E processes whole known))
    where
      by : (b c : Bool) (o : Option CellEffect) → Pairs Before (if b then event_if start whole o else (if c then Issue p (requested p past) ∷ [] else []))
      by true c None = tt
      by true c (Some e) = (tt, tt)
      by false true o = (tt, tt)
      by false false o = tt
  at_most_one past (Waited q c) = by ((q == p) && (c == 0))
    where
      by : (b : Bool) → Pairs Before (if b then Sync p (requested p past) ∷ [] else [])
      by true = (tt, tt)
      by false = tt
  at_most_one past (Arrived q s) = by (q == p)
    where
      by : (b : Bool) → Pairs Before (if b then Arrive p (requested p past) s ∷ [] else [])
      by true = (tt, tt)
      by false = tt
  at_most_one past (Finished q end) = by (q == p)
    where
      by : (b : Bool) → Pairs Before (if b then Over p end ∷ [] else [])
      by true = (tt, tt)
      by false = tt
  at_most_one past (Delivered _ _ _ _) = tt
  at_most_one past (Passed _) = tt

  in_order : (e : Entry) (rest : List Entry) → Sub (e ∷ rest) → Wired start processes.nodes (e ∷ rest) → (a b : SourceEvent) → From rest a → OwnBy rest e b → Before a b
  in_order e rest sub w a b f g = by f.is g
    where
      by : OwnBy f.past f.entry a → OwnBy rest e b → Before a b
      by (Asks it own at n r h) (Asks it2 own2 at2 n2 r2 h2) =
          let lt = requested_below p f.past f.entry rest r f.stands h in
          (it, own, at, inl (own2, omega arith))
      by (Asks it own at n r h) (Ends end q y) =
          let lt = requested_below p f.past f.entry whole r (sub f.past f.entry (inr f.stands)) h in
          (it, own, at, inr (end, y, omega arith))
      by (Ends end q y) (Asks it2 own2 at2 n2 r2 h2) =
          let u = finished_is p end f.past rest start processes.nodes w.1 (subst (λ v. Stands f.past v rest) q f.stands) in
          absurd (not_some (finished p rest) (own_running start processes.nodes p e rest w.0 r2 h2).0 (some_from _ _ u))
      by (Ends end q y) (Ends end2 q2 y2) =
          let u = finished_is p end f.past rest start processes.nodes w.1 (subst (λ v. Stands f.past v rest) q f.stands) in
          absurd (not_some (finished p rest) (running start processes.nodes p end2 rest (subst (EntryWired start processes.nodes rest) q2 w.0)) (some_from _ _ u))

  rises_in : (xs : List Entry) → Sub xs → Wired start processes.nodes xs → Pairs Before (own_of start whole p xs)
  rises_in [] sub w = tt
  rises_in (e ∷ rest) sub w =
      pairs_append Before (own_of start whole p rest) (own_by start whole p rest e) (rises_in rest (λ s e st. sub s e (inr st)) w.1) (at_most_one rest e)
      (λ a b i j. in_order e rest sub w a b (from_list rest (λ s e st. sub s e (inr st)) a i) (own_is rest e b (sub rest e (inl (refl, refl))) j))

  pub rises : Pairs Before (own_of start whole p whole)
  rises = rises_in whole (λ s e st. st) known.wired

  -- ---- each own item is in the list

  abbrev Here : SourceEvent → Type 0
  Here x = In x (own_of start whole p whole)

  plain_here : (past : List Entry) (n : ℕ) (access : Access) (x : SourceEvent) → is_done_at_once access ≡ false → In x (step_by p past (Issued p n access)) → In x (own_by start whole p past (Issued p n access))
  plain_here past n access x h i = subst (λ b. In x (if (p == p) && b then event_if start whole (effect_of p n (E processes whole known)) else step_by p past (Issued p n access))) (sym h) (by (p == p))
    where
      by : (b : Bool) → In x (if b && false then event_if start whole (effect_of p n (E processes whole known)) else step_by p past (Issued p n access))
      by true = i
      by false = i

  effect_here : (past : List Entry) (n : ℕ) (access : Access) (e : CellEffect) → is_done_at_once access ≡ true → effect_of p n (E processes whole known) ≡ Some e → In (event_of whole e) (own_by start whole p past (Issued p n access))
  effect_here past n access e h f = rw (eq_self p, h, f) (inl refl)

  pub own_here : (x : SourceEvent) → It processes whole known x → is_own x ≡ true → at_node x ≡ p → Here x
  own_here (Do q k wrote place value) it o at = subst (λ u. Here (Do u k wrote place value)) (sym at) (by (subst (λ u. It processes whole known (Do u k wrote place value)) at it))
    where
      by : It processes whole known (Do p k wrote place value) → Here (Do p k wrote place value)
      by h =
          let a = h.0 in
          let t = effect_there p a.n (E processes whole known) (an_effect p a.n 0 wrote place value) h.1 (and_from (p == p) (a.n == a.n) (eq_self p) (eq_self a.n)) in
          let i = effect_here a.past a.n a.access t.0 a.kind t.1 in
          let y = event_of whole t.0 in
          same y (own_is a.past (Issued p a.n a.access) y a.stands i) (in_list whole a.past (Issued p a.n a.access) y a.stands i) a.numbered
        where
          same : (y : SourceEvent) → OwnBy h.0.past (Issued p h.0.n h.0.access) y → Here y → requested p h.0.past ≡ k → Here (Do p k wrote place value)
          same y (Asks it2 o2 at2 n2 r2 h2) here n = subst Here (one_numbered processes whole known p k y (Do p k wrote place value) it2 h o2 refl at2 refl (n2 ∙ n) refl) here
          same y (Ends end q z) here n = absurd cc
  own_here (Issue q k) it o at = subst (λ u. Here (Issue u k)) (sym at) (by (subst (λ u. It processes whole known (Issue u k)) at it))
    where
      by : It processes whole known (Issue p k) → Here (Issue p k)
      by a = in_list whole a.past (Issued p a.n a.access) (Issue p k) a.stands
          (plain_here a.past a.n a.access (Issue p k) a.kind (is_step p a.past (Issued p a.n a.access) (Issue p k) (OfIssue a.n a.access refl a.kind (ap (λ u. Issue p u) (sym a.numbered)))))
  own_here (Sync q k) it o at = subst (λ u. Here (Sync u k)) (sym at) (by (subst (λ u. It processes whole known (Sync u k)) at it))
    where
      by : It processes whole known (Sync p k) → Here (Sync p k)
      by h = in_list whole h.0 (Waited p 0) (Sync p k) h.1 (is_step p h.0 (Waited p 0) (Sync p k) (OfSync refl (ap (λ u. Sync p u) (sym h.2))))
  own_here (Arrive q k s) it o at = subst (λ u. Here (Arrive u k s)) (sym at) (by (subst (λ u. It processes whole known (Arrive u k s)) at it))
    where
      by : It processes whole known (Arrive p k s) → Here (Arrive p k s)
      by h = in_list whole h.0 (Arrived p s) (Arrive p k s) h.1 (is_step p h.0 (Arrived p s) (Arrive p k s) (OfArrival s refl (ap (λ u. Arrive p u s) (sym h.2))))
  own_here (Effect _ _ _ _ _ _) it o at = absurd cc
  own_here (Release _) it o at = absurd cc
  own_here (Over _ _) it o at = absurd cc
