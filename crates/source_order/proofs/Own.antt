-- The own steps of a node: each is what some entry is, under its number, and each stands once.
use Rattle.std.proofs.Common.{◌≡◌, ℕ, zero, suc, ◌<◌, List, [], ◌∷◌, Some, None, Bool, true, false, not, ◌==◌, ◌&&◌, refl, sym, ap, ◌∙◌, subst, inl, inr, ⊎_elim, arith, eqb-true}
use Rattle.std.specs.Prelude.{if◌then◌else◌}
use Rattle.std.proofs.lemmas.Bool.{and_parts, and_from, not-true, not_from_false, cases_lt}
use Rattle.sc_base.specs.declared.value.Place.{Place}
use Rattle.sc_base.specs.declared.value.Value.{Value}
use Rattle.sc_base.specs.declared.value.End.{End}
use Rattle.sc_base.specs.declared.value.End.TheVariants as kind
use Rattle.effect_order.specs.Lists.{In}
use Rattle.effect_order.proofs.Members.{in-either}
use Rattle.sc_meaning.specs.declared.event.SourceEvent.{SourceEvent}
use Rattle.sc_meaning.specs.declared.event.SourceEvent.TheVariants.{Issue, Sync, Arrive, End as Over}
use Rattle.sc_isa.specs.declared.access.Access.{Access}
use Rattle.sc_isa.specs.declared.journal.Entry.{Entry}
use Rattle.sc_isa.specs.declared.journal.Entry.TheVariants.{Issued, Delivered, Waited, Arrived, Passed, Finished}
use Rattle.fabric.specs.Barriers.{finished}
use Rattle.fabric.specs.Wired.{EntryWired, Wired}
use Rattle.source_order.specs.Steps.{requested}
use Rattle.sc_meaning.specs.OfAccess.{is_done_at_once}
use Rattle.source_order.specs.Items.{step_by, own_steps, all_steps}
use Rattle.source_order.proofs.Stands.{Stands}
use Rattle.source_order.proofs.Numbers.{eq_self, if_true, both_self}
use Rattle.source_order.proofs.Members.{in_left, in_right}

-- what an own step is
pub data StepOf (p : ℕ) (past : List Entry) (entry : Entry) (x : SourceEvent) : Type 0 where
  OfIssue : (n : ℕ) (access : Access) → entry ≡ Issued p n access → is_done_at_once access ≡ false → x ≡ Issue p (requested p past) → StepOf p past entry x
  OfSync : entry ≡ Waited p 0 → x ≡ Sync p (requested p past) → StepOf p past entry x
  OfArrival : (stores : Bool) → entry ≡ Arrived p stores → x ≡ Arrive p (requested p past) stores → StepOf p past entry x
  OfEnd : (end : End) → entry ≡ Finished p end → x ≡ Over p end → StepOf p past entry x

in_one : (b : Bool) (x y : SourceEvent) → In x (if b then y ∷ [] else []) → (b ≡ true) × (x ≡ y)
in_one true x y (inl q) = (refl, q)
in_one true x y (inr i) = absurd i
in_one false x y i = absurd i

one_in : (b : Bool) (x y : SourceEvent) → b ≡ true → x ≡ y → In x (if b then y ∷ [] else [])
one_in true x y h q = inl q
one_in false x y h q = absurd cc

pub step_is : (p : ℕ) (past : List Entry) (entry : Entry) (x : SourceEvent) → In x (step_by p past entry) → StepOf p past entry x
step_is p past (Issued q n access) x i =
    let r = in_one ((q == p) && not (is_done_at_once access)) x (Issue p (requested p past)) i in
    let s = and_parts (q == p) (not (is_done_at_once access)) r.0 in
    OfIssue n access (ap (λ u. Issued u n access) (eqb-true q p s.0)) (not-true _ s.1) r.1
step_is p past (Waited q c) x i =
    let r = in_one ((q == p) && (c == 0)) x (Sync p (requested p past)) i in
    let s = and_parts (q == p) (c == 0) r.0 in
    OfSync (ap (λ u. Waited u c) (eqb-true q p s.0) ∙ ap (λ u. Waited p u) (eqb-true c 0 s.1)) r.1
step_is p past (Arrived q stores) x i =
    let r = in_one (q == p) x (Arrive p (requested p past) stores) i in
    OfArrival stores (ap (λ u. Arrived u stores) (eqb-true q p r.0)) r.1
step_is p past (Finished q end) x i =
    let r = in_one (q == p) x (Over p end) i in
    OfEnd end (ap (λ u. Finished u end) (eqb-true q p r.0)) r.1
step_is p past (Delivered _ _ _ _) x i = absurd i
step_is p past (Passed _) x i = absurd i

pub is_step : (p : ℕ) (past : List Entry) (entry : Entry) (x : SourceEvent) → StepOf p past entry x → In x (step_by p past entry)
is_step p past entry x (OfIssue n access e h q) = rw e (one_in ((p == p) && not (is_done_at_once access)) x _ (and_from _ _ (eq_self p) (not_from_false _ h)) q)
is_step p past entry x (OfSync e q) = rw e (one_in ((p == p) && (0 == 0)) x _ (both_self p 0) q)
is_step p past entry x (OfArrival stores e q) = rw e (one_in (p == p) x _ (eq_self p) q)
is_step p past entry x (OfEnd end e q) = rw e (one_in (p == p) x _ (eq_self p) q)

pub record OwnStep (p : ℕ) (whole : List Entry) (x : SourceEvent) : Type 0 where
  pub past : List Entry
  pub entry : Entry
  pub stands : Stands past entry whole
  pub is : StepOf p past entry x

pub own_step : (p : ℕ) (whole : List Entry) (x : SourceEvent) → In x (own_steps p whole) → OwnStep p whole x
own_step p [] x i = absurd i
own_step p (e ∷ rest) x i =
    ⊎_elim (λ j. old (own_step p rest x j))
    (λ j. record { past = rest; entry = e; stands = inl (refl, refl); is = step_is p rest e x j })
    (in-either (own_steps p rest) (step_by p rest e) x i)
  where
    old : OwnStep p rest x → OwnStep p (e ∷ rest) x
    old o = record { past = o.past; entry = o.entry; stands = inr o.stands; is = o.is }

pub step_own : (p : ℕ) (whole : List Entry) (x : SourceEvent) → OwnStep p whole x → In x (own_steps p whole)
step_own p whole x o = from whole o.stands
  where
    from : (whole : List Entry) → Stands o.past o.entry whole → In x (own_steps p whole)
    from [] s = absurd s
    from (e ∷ rest) (inl q) = in_right (own_steps p rest) (step_by p rest e) x (subst (λ u. In x (step_by p u e)) q.0 (subst (λ u. In x (step_by p o.past u)) q.1 (is_step p o.past o.entry x o.is)))
    from (e ∷ rest) (inr s) = in_left (own_steps p rest) (step_by p rest e) x (from rest s)

pub step_at : (p nodes : ℕ) (whole : List Entry) (x : SourceEvent) → p < nodes → In x (own_steps p whole) → In x (all_steps nodes whole)
step_at p zero whole x lt i = absurd (omega arith)
step_at p (suc m) whole x lt i = ⊎_elim
    (λ t. in_left (all_steps m whole) (own_steps m whole) x (step_at p m whole x t i))
    (λ t. in_right (all_steps m whole) (own_steps m whole) x (let e : p ≡ m = omega arith in subst (λ u. In x (own_steps u whole)) e i)) (cases_lt p m)

pub at_step : (nodes : ℕ) (whole : List Entry) (x : SourceEvent) → In x (all_steps nodes whole) → (p : ℕ) × (p < nodes) × In x (own_steps p whole)
at_step zero whole x i = absurd i
at_step (suc m) whole x i = ⊎_elim
    (λ j. let r = at_step m whole x j in (r.0, (let t = r.1 in omega arith), r.2))
    (λ j. (m, omega arith, j)) (in-either (all_steps m whole) (own_steps m whole) x i)

-- ---- once

pub finished_is : (p : ℕ) (end : End) (past whole : List Entry) (start : Place → Value) (nodes : ℕ) → Wired start nodes whole → Stands past (Finished p end) whole → finished p whole ≡ Some end
finished_is p end past [] start nodes w s = absurd s
finished_is p end past (e ∷ rest) start nodes w (inl q) = rw (sym q.1) (if_true (p == p) _ _ (eq_self p))
finished_is p end past (Finished r other ∷ rest) start nodes w (inr s) = by (r == p) refl (finished_is p end past rest start nodes w.1 s) (running other w.0)
  where
    running : (other : End) → EntryWired start nodes rest (Finished r other) → finished r rest ≡ None
    running kind.Waiting u = u.running.not_finished
    running kind.Ended u = u.running.not_finished
    running (kind.Fault k l) u = u.running.not_finished
    running kind.Cut u = u.running.not_finished

    by : (b : Bool) → (r == p) ≡ b → finished p rest ≡ Some end → finished r rest ≡ None → (if b then Some other else finished p rest) ≡ Some end
    by true t i n = let a : finished p rest ≡ None = subst (λ u. finished u rest ≡ None) (eqb-true r p t) n in absurd cc
    by false t i n = i
finished_is p end past (Issued _ _ _ ∷ rest) start nodes w (inr s) = finished_is p end past rest start nodes w.1 s
finished_is p end past (Delivered _ _ _ _ ∷ rest) start nodes w (inr s) = finished_is p end past rest start nodes w.1 s
finished_is p end past (Waited _ _ ∷ rest) start nodes w (inr s) = finished_is p end past rest start nodes w.1 s
finished_is p end past (Arrived _ _ ∷ rest) start nodes w (inr s) = finished_is p end past rest start nodes w.1 s
finished_is p end past (Passed _ ∷ rest) start nodes w (inr s) = finished_is p end past rest start nodes w.1 s

pub finish_at : (p : ℕ) (end : End) (whole : List Entry) → finished p whole ≡ Some end → (past : List Entry) × Stands past (Finished p end) whole
finish_at p end [] h = absurd cc
finish_at p end (Finished q other ∷ rest) h = by (q == p) refl h (λ i. finish_at p end rest i)
  where
    by : (b : Bool) → (q == p) ≡ b → (if b then Some other else finished p rest) ≡ Some end
        → (finished p rest ≡ Some end → (past : List Entry) × Stands past (Finished p end) rest) → (past : List Entry) × Stands past (Finished p end) (Finished q other ∷ rest)
    by true t i f = let a = eqb-true q p t in let b : other ≡ end = cc in (rest, inl (refl, ap (λ u. Finished u end) (sym a) ∙ ap (λ u. Finished q u) (sym b)))
    by false t i f = let g = f i in (g.0, inr g.1)
finish_at p end (Issued _ _ _ ∷ rest) h = let g = finish_at p end rest h in (g.0, inr g.1)
finish_at p end (Delivered _ _ _ _ ∷ rest) h = let g = finish_at p end rest h in (g.0, inr g.1)
finish_at p end (Waited _ _ ∷ rest) h = let g = finish_at p end rest h in (g.0, inr g.1)
finish_at p end (Arrived _ _ ∷ rest) h = let g = finish_at p end rest h in (g.0, inr g.1)
finish_at p end (Passed _ ∷ rest) h = let g = finish_at p end rest h in (g.0, inr g.1)
