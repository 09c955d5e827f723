-- Arrivals, passings and releases of a run: each node of a complete run has passed as many barriers as were released.
use Rattle.std.proofs.Common.{◌≡◌, ◌⊎◌, ℕ, ◌+◌, ◌<◌, ◌≤◌, List, [], ◌∷◌, max, Some, None, Bool, true, false, ◌==◌, ◌&&◌, refl, sym, ap, subst, inl, inr, ⊎_elim, arith, eqb-true, le_refl}
use Rattle.std.specs.Prelude.{if◌then◌else◌, IsSome}
use Rattle.std.proofs.lemmas.Bool.{and_parts}
use Rattle.sc_base.specs.declared.value.Place.{Place}
use Rattle.sc_base.specs.declared.value.Value.{Value}
use Rattle.sc_base.specs.declared.value.End.{End}
use Rattle.sc_base.specs.declared.value.End.TheVariants as kind
use Rattle.sc_isa.specs.declared.journal.Entry.{Entry}
use Rattle.sc_isa.specs.declared.journal.Entry.TheVariants.{Issued, Delivered, Waited, Arrived, Passed, Finished}
use Rattle.fabric.specs.Barriers.{arrivals, passes, released, finished}
use Rattle.fabric.specs.Wired.{EntryWired, Wired}
use Rattle.sc_meaning.specs.declared.request.Request.{Request}
use Rattle.sc_meaning.specs.declared.request.Request.TheVariants.{Sync}
use Rattle.sc_meaning.specs.History.{barrier_of}
use Rattle.source_order.specs.Steps.{request_by, requested}
use Rattle.sc_meaning.specs.OfAccess.{request_in}
use Rattle.source_order.proofs.Stands.{Stands, wired_at}
use Rattle.source_order.proofs.Numbers.{if_true, if_false}
use Rattle.source_order.proofs.Occurs.{not_some, some_from, some_is}
use Rattle.source_order.proofs.Own.{finished_is, finish_at}

up_left : (a b : ℕ) → a ≤ max a b
up_left a b = omega arith

up_right : (a b : ℕ) → b ≤ max a b
up_right a b = omega arith

module _ (start : Place → Value) (nodes : ℕ) where
  -- a node's own entries come while it has not finished
  pub own_running : (p : ℕ) (e : Entry) (rest : List Entry) → EntryWired start nodes rest e → (r : Request) → request_by p e ≡ Some r → (finished p rest ≡ None) × (arrivals p rest ≡ passes p rest) × (p < nodes)
  own_running p (Issued q n access) rest u r h = by (q == p) refl h
    where
      by : (b : Bool) → (q == p) ≡ b → (if b then Some (request_in access) else None) ≡ Some r → (finished p rest ≡ None) × (arrivals p rest ≡ passes p rest) × (p < nodes)
      by true t i = subst (λ x. (finished x rest ≡ None) × (arrivals x rest ≡ passes x rest) × (x < nodes)) (eqb-true q p t) (u.going.running.not_finished, u.going.at_no_barrier, u.going.running.node_within)
      by false t i = absurd cc
  own_running p (Waited q c) rest u r h = by ((q == p) && (c == 0)) refl h
    where
      by : (b : Bool) → ((q == p) && (c == 0)) ≡ b → (if b then Some (Sync 0) else None) ≡ Some r → (finished p rest ≡ None) × (arrivals p rest ≡ passes p rest) × (p < nodes)
      by true t i = subst (λ x. (finished x rest ≡ None) × (arrivals x rest ≡ passes x rest) × (x < nodes)) (eqb-true q p (and_parts (q == p) (c == 0) t).0) (u.going.running.not_finished, u.going.at_no_barrier, u.going.running.node_within)
      by false t i = absurd cc
  own_running p (Arrived q s) rest u r h = by (q == p) refl h
    where
      by : (b : Bool) → (q == p) ≡ b → (if b then Some (barrier_of s 0) else None) ≡ Some r → (finished p rest ≡ None) × (arrivals p rest ≡ passes p rest) × (p < nodes)
      by true t i = subst (λ x. (finished x rest ≡ None) × (arrivals x rest ≡ passes x rest) × (x < nodes)) (eqb-true q p t) (u.running.not_finished, u.at_no_barrier, u.running.node_within)
      by false t i = absurd cc
  own_running p (Delivered _ _ _ _) rest u r h = absurd cc
  own_running p (Passed _) rest u r h = absurd cc
  own_running p (Finished _ _) rest u r h = absurd cc

  -- a node has arrived as often as it passed, or once more, and passed no more than was released
  pub record Level (p : ℕ) (past : List Entry) : Type 0 where
    pub low : passes p past ≤ arrivals p past
    pub high : arrivals p past ≤ passes p past + 1
    pub below : passes p past ≤ released past

  pub level : (p : ℕ) (past : List Entry) → Wired start nodes past → Level p past
  level p [] w = record { low = omega arith; high = omega arith; below = omega arith }
  level p (Issued _ _ _ ∷ rest) w = let l = level p rest w.1 in record { low = l.low; high = l.high; below = l.below }
  level p (Delivered _ _ _ _ ∷ rest) w = let l = level p rest w.1 in record { low = l.low; high = l.high; below = l.below }
  level p (Waited _ _ ∷ rest) w = let l = level p rest w.1 in record { low = l.low; high = l.high; below = l.below }
  level p (Finished _ _ ∷ rest) w = let l = level p rest w.1 in record { low = l.low; high = l.high; below = l.below }
  level p (Arrived q s ∷ rest) w = by (q == p) refl (level p rest w.1)
    where
      by : (b : Bool) → (q == p) ≡ b → Level p rest → Level p (Arrived q s ∷ rest)
      by true t l =
          let e : arrivals p (Arrived q s ∷ rest) ≡ arrivals p rest + 1 = if_true (q == p) _ _ t in
          let g : arrivals p rest ≡ passes p rest = subst (λ x. arrivals x rest ≡ passes x rest) (eqb-true q p t) w.0.at_no_barrier in
          let a = l.low in let b = l.below in record { low = omega arith; high = omega arith; below = b }
      by false t l =
          let e : arrivals p (Arrived q s ∷ rest) ≡ arrivals p rest = if_false (q == p) _ _ t in
          let a = l.low in let b = l.high in let c = l.below in record { low = omega arith; high = omega arith; below = c }
  level p (Passed q ∷ rest) w = by (q == p) refl (level p rest w.1)
    where
      by : (b : Bool) → (q == p) ≡ b → Level p rest → Level p (Passed q ∷ rest)
      by true t l =
          let e : passes p (Passed q ∷ rest) ≡ passes p rest + 1 = if_true (q == p) _ _ t in
          let q_is = eqb-true q p t in
          let n : p < nodes = subst (λ x. x < nodes) q_is w.0.running.node_within in
          let g : passes p rest + 1 ≤ arrivals p rest = subst (λ x. passes x rest + 1 ≤ arrivals p rest) q_is (w.0.all_arrived p n) in
          let u : passes q rest + 1 ≤ released (Passed q ∷ rest) = up_right (released rest) (passes q rest + 1) in
          let v = ap (λ x. passes x rest) q_is in
          let a = l.high in record { low = omega arith; high = omega arith; below = omega arith }
      by false t l =
          let e : passes p (Passed q ∷ rest) ≡ passes p rest = if_false (q == p) _ _ t in
          let u : released rest ≤ released (Passed q ∷ rest) = up_left (released rest) (passes q rest + 1) in
          let a = l.low in let b = l.high in let c = l.below in record { low = omega arith; high = omega arith; below = omega arith }

  -- what was released, every node had arrived at
  pub all_arrived : (p : ℕ) (past : List Entry) → p < nodes → Wired start nodes past → released past ≤ arrivals p past
  all_arrived p [] n w = omega arith
  all_arrived p (Issued _ _ _ ∷ rest) n w = all_arrived p rest n w.1
  all_arrived p (Delivered _ _ _ _ ∷ rest) n w = all_arrived p rest n w.1
  all_arrived p (Waited _ _ ∷ rest) n w = all_arrived p rest n w.1
  all_arrived p (Finished _ _ ∷ rest) n w = all_arrived p rest n w.1
  all_arrived p (Arrived q s ∷ rest) n w = by (q == p) (all_arrived p rest n w.1)
    where
      by : (b : Bool) → released rest ≤ arrivals p rest → released rest ≤ (if b then arrivals p rest + 1 else arrivals p rest)
      by true a = omega arith
      by false a = a
  all_arrived p (Passed q ∷ rest) n w = let a = all_arrived p rest n w.1 in let b = w.0.all_arrived p n in omega arith

  pub released_grows : (e : Entry) (rest : List Entry) → released rest ≤ released (e ∷ rest)
  released_grows (Issued _ _ _) rest = le_refl _
  released_grows (Delivered _ _ _ _) rest = le_refl _
  released_grows (Waited _ _) rest = le_refl _
  released_grows (Arrived _ _) rest = le_refl _
  released_grows (Finished _ _) rest = le_refl _
  released_grows (Passed q) rest = up_left (released rest) (passes q rest + 1)

  pub released_since : (past : List Entry) (e : Entry) (whole : List Entry) → Stands past e whole → released past ≤ released whole
  released_since past e [] s = absurd s
  released_since past e (f ∷ rest) (inl q) = rw q.0 (released_grows f rest)
  released_since past e (f ∷ rest) (inr s) = let a = released_since past e rest s in let b = released_grows f rest in omega arith

  -- after its end a node neither arrives nor passes
  pub over_still : (p : ℕ) (end : End) (past whole : List Entry) → Wired start nodes whole → Stands past (Finished p end) whole → (arrivals p whole ≡ arrivals p past) × ((passes p whole ≡ passes p past) × (requested p whole ≡ requested p past))
  over_still p end past [] w s = absurd s
  over_still p end past (e ∷ rest) w (inl q) = rw (q.0, sym q.1) (refl, (refl, refl))
  over_still p end past (Issued q n a ∷ rest) w (inr s) = by (q == p) refl (over_still p end past rest w.1 s)
    where
      by : (b : Bool) → (q == p) ≡ b → (arrivals p rest ≡ arrivals p past) × ((passes p rest ≡ passes p past) × (requested p rest ≡ requested p past)) → (arrivals p rest ≡ arrivals p past) × ((passes p rest ≡ passes p past) × (requested p (Issued q n a ∷ rest) ≡ requested p past))
      by true t i = absurd (not_some (finished p rest) (subst (λ x. finished x rest ≡ None) (eqb-true q p t) w.0.going.running.not_finished) (some_from _ _ (finished_is p end past rest start nodes w.1 s)))
      by false t i = (i.0, (i.1.0, rw t i.1.1))
  over_still p end past (Delivered _ _ _ _ ∷ rest) w (inr s) = over_still p end past rest w.1 s
  over_still p end past (Waited q c ∷ rest) w (inr s) = by (q == p) refl (over_still p end past rest w.1 s)
    where
      by : (b : Bool) → (q == p) ≡ b → (arrivals p rest ≡ arrivals p past) × ((passes p rest ≡ passes p past) × (requested p rest ≡ requested p past)) → (arrivals p rest ≡ arrivals p past) × ((passes p rest ≡ passes p past) × (requested p (Waited q c ∷ rest) ≡ requested p past))
      by true t i = absurd (not_some (finished p rest) (subst (λ x. finished x rest ≡ None) (eqb-true q p t) w.0.going.running.not_finished) (some_from _ _ (finished_is p end past rest start nodes w.1 s)))
      by false t i = (i.0, (i.1.0, rw t i.1.1))
  over_still p end past (Arrived q c ∷ rest) w (inr s) = by (q == p) refl (over_still p end past rest w.1 s)
    where
      by : (b : Bool) → (q == p) ≡ b → (arrivals p rest ≡ arrivals p past) × ((passes p rest ≡ passes p past) × (requested p rest ≡ requested p past)) → (arrivals p (Arrived q c ∷ rest) ≡ arrivals p past) × ((passes p rest ≡ passes p past) × (requested p (Arrived q c ∷ rest) ≡ requested p past))
      by true t i = absurd (not_some (finished p rest) (subst (λ x. finished x rest ≡ None) (eqb-true q p t) w.0.running.not_finished) (some_from _ _ (finished_is p end past rest start nodes w.1 s)))
      by false t i = rw t i
  over_still p end past (Passed q ∷ rest) w (inr s) = by (q == p) refl (over_still p end past rest w.1 s)
    where
      by : (b : Bool) → (q == p) ≡ b → (arrivals p rest ≡ arrivals p past) × ((passes p rest ≡ passes p past) × (requested p rest ≡ requested p past)) → (arrivals p rest ≡ arrivals p past) × ((passes p (Passed q ∷ rest) ≡ passes p past) × (requested p rest ≡ requested p past))
      by true t i = absurd (not_some (finished p rest) (subst (λ x. finished x rest ≡ None) (eqb-true q p t) w.0.running.not_finished) (some_from _ _ (finished_is p end past rest start nodes w.1 s)))
      by false t i = (i.0, (rw t i.1.0, i.1.1))
  over_still p end past (Finished _ _ ∷ rest) w (inr s) = over_still p end past rest w.1 s

  -- a node that did not finish as waiting stood at no barrier
  ended_even : (p : ℕ) (end : End) (past : List Entry) → (end ≡ kind.Waiting → ⊥) → EntryWired start nodes past (Finished p end) → (arrivals p past ≡ passes p past)
  ended_even p kind.Waiting past n u = absurd (n refl)
  ended_even p kind.Ended past n u = u.at_no_barrier
  ended_even p (kind.Fault k l) past n u = u.at_no_barrier
  ended_even p kind.Cut past n u = u.at_no_barrier

  pub is_waiting : (end : End) → (end ≡ kind.Waiting) ⊎ (end ≡ kind.Waiting → ⊥)
  is_waiting kind.Waiting = inl refl
  is_waiting kind.Ended = inr (λ e. absurd cc)
  is_waiting (kind.Fault k l) = inr (λ e. absurd cc)
  is_waiting kind.Cut = inr (λ e. absurd cc)

  module _ (whole : List Entry) (w : Wired start nodes whole) where
    -- the node's end, other than as waiting: it passed all that was released
    gone_passed : (p : ℕ) → p < nodes → (end : End) (past : List Entry) → (end ≡ kind.Waiting → ⊥) → Stands past (Finished p end) whole → (released whole ≤ arrivals p past) × (arrivals p past ≡ passes p past)
    gone_passed p n end past other s =
        let a = over_still p end past whole w s in
        let b = all_arrived p whole n w in
        let c = a.0 in
        (omega arith, ended_even p end past other (wired_at start nodes past (Finished p end) whole w s).0)

    -- nothing is released after a node has finished as waiting
    pub none_after : (xs : List Entry) → ((s : List Entry) (e : Entry) → Stands s e xs → Stands s e whole) → (p : ℕ) (past : List Entry) → Stands past (Finished p kind.Waiting) xs → released whole ≤ released past
    none_after [] among p past s = absurd s
    none_after (e ∷ rest) among p past (inr s) = none_after rest (λ x f i. among x f (inr i)) p past s
    none_after (e ∷ rest) among p past (inl q) =
        by (let u = (wired_at start nodes past (Finished p kind.Waiting) whole w (among past _ (inl q))).0 in u.broken.gone)
        (let u = (wired_at start nodes past (Finished p kind.Waiting) whole w (among past _ (inl q))).0 in u.broken.gone_within)
        (let u = (wired_at start nodes past (Finished p kind.Waiting) whole w (among past _ (inl q))).0 in u.broken.is_gone)
        (λ g x s. none_after rest (λ y f i. among y f (inr i)) g x s)
      where
        wired_past : Wired start nodes past
        wired_past = (wired_at start nodes past (Finished p kind.Waiting) whole w (among past _ (inl q))).1

        by : (g : ℕ) → g < nodes → IsSome (finished g past) → ((g : ℕ) (x : List Entry) → Stands x (Finished g kind.Waiting) rest → released whole ≤ released x) → released whole ≤ released past
        by g n h f =
            let e = some_is (finished g past) h in
            let at = finish_at g e.0 past e.1 in
            let in_rest : Stands at.0 (Finished g e.0) rest = subst (Stands at.0 (Finished g e.0)) q.0 at.1 in
            ⊎_elim
            (λ y. let k = f g at.0 (subst (λ x. Stands at.0 (Finished g x) rest) y in_rest) in let l = released_since at.0 _ past at.1 in omega arith)
            (λ y.
            let k = gone_passed g n e.0 at.0 y (among at.0 _ (inr in_rest)) in
            let l = level g at.0 (wired_at start nodes at.0 _ past wired_past at.1).1 in
            let m = released_since at.0 _ past at.1 in
            let a = k.0 in let b = k.1 in let c = l.below in omega arith)
            (is_waiting e.0)

    -- where a node ends
    pub record Ending (p : ℕ) : Type 0 where
      -- it has passed as many barriers as were released
      pub passed : passes p whole ≡ released whole
      -- and has arrived as often, or once more where it finishes as waiting
      pub arrived : (finished p whole ≡ Some kind.Waiting → ⊥) → arrivals p whole ≡ released whole
      pub stuck : finished p whole ≡ Some kind.Waiting → arrivals p whole ≡ released whole + 1

    pub ending : (p : ℕ) → p < nodes → IsSome (finished p whole) → Ending p
    ending p n h = by (some_is (finished p whole) h)
      where
        by : (end : End) × (finished p whole ≡ Some end) → Ending p
        by e =
            let at = finish_at p e.0 whole e.1 in
            let still = over_still p e.0 at.0 whole w at.1 in
            let l = level p whole w in
            ⊎_elim
            (λ y.
            let s : Stands at.0 (Finished p kind.Waiting) whole = subst (λ x. Stands at.0 (Finished p x) whole) y at.1 in
            let u = (wired_at start nodes at.0 _ whole w s).0 in
            let k = none_after whole (λ x f i. i) p at.0 s in
            let m = released_since at.0 _ whole s in
            let b = u.broken.stands in let a = still.0 in let c = l.high in let d = l.below in
            record { passed = omega arith; arrived = λ f. absurd (f (rw e.1 (ap (λ x. Some x) y))); stuck = λ f. omega arith })
            (λ y.
            let k = gone_passed p n e.0 at.0 y at.1 in
            let a = still.0 in let b = still.1.0 in let c = l.below in let d = k.0 in let g = k.1 in
            record { passed = omega arith; arrived = λ f. omega arith; stuck = λ f. let z = e.1 in absurd (y cc) })
            (is_waiting e.0)
