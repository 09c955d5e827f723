-- The moments of own steps, releases and effects of a run, against those of its entries.
use Rattle.std.proofs.Common.{◌≡◌, ℕ, suc, ◌+◌, ◌<◌, ◌≤◌, List, [], ◌∷◌, length, Some, Bool, true, false, ◌==◌, refl, sym, ap, ◌∙◌, subst, inl, inr, ⊎_elim, arith, eqb-true, eq-eqb, ltb-true, lt-ltb, le_refl}
use Rattle.std.specs.Prelude.{if◌then◌else◌, is_some, nat_lt}
use Rattle.std.proofs.lemmas.Bool.{and_parts, and_from, cases_lt, false_from_ne_true}
use Rattle.sc_base.specs.declared.value.Place.{Place}
use Rattle.sc_base.specs.declared.value.Value.{Value}
use Rattle.effect_order.specs.Effect.{Effect as CellEffect}
use Rattle.effect_order.specs.Lists.{In}
use Rattle.effect_order.proofs.Members.{each-in}
use Rattle.sc_meaning.specs.declared.request.Request.{Request}
use Rattle.sc_meaning.specs.declared.event.SourceEvent.{SourceEvent}
use Rattle.sc_meaning.specs.declared.event.SourceEvent.TheVariants.{Release}
use Rattle.sc_isa.specs.declared.access.Access.{Access}
use Rattle.sc_isa.specs.declared.journal.Entry.{Entry}
use Rattle.sc_isa.specs.declared.journal.Entry.TheVariants.{Issued, Delivered, Waited, Arrived, Passed, Finished}
use Rattle.fabric.specs.Effects.{effects, issues}
use Rattle.fabric.specs.Barriers.{arrivals, passes, released}
use Rattle.fabric.specs.Wired.{Wired}
use Rattle.source_order.proofs.Once.{each_part_once}
use Rattle.source_order.specs.Steps.{request_by, requested}
use Rattle.source_order.specs.Moments.{begins, requests_as, releases_as, begun_in, occurred_in, has_occurred}
use Rattle.source_order.proofs.Stands.{Stands, wired_at, requested_below, requested_grows, requested_one}
use Rattle.source_order.proofs.Numbers.{if_true, if_false, issue_below}
use Rattle.source_order.proofs.Occurs.{some_from}
use Rattle.source_order.proofs.Effected.{Origin, origins}
use Rattle.source_order.proofs.Standing.{level, released_grows}
use Rattle.source_order.proofs.Times.{ev, Part, effects_grow, grown_in, grown_length, grown_past, occurred_self, before_one, occurs_by, occurs_after}

pub stands_trans : (a : List Entry) (e : Entry) (b : List Entry) (f : Entry) (xs : List Entry) → Stands b f xs → Stands a e b → Stands a e xs
stands_trans a e b f [] s i = absurd s
stands_trans a e b f (x ∷ xs) (inl q) i = inr (subst (Stands a e) q.0 i)
stands_trans a e b f (x ∷ xs) (inr s) i = inr (stands_trans a e b f xs s i)

-- a count of entries tells which of two stands is earlier
pub earlier : (count : List Entry → ℕ) → ((x : Entry) (xs : List Entry) → count xs ≤ count (x ∷ xs)) → (a : List Entry) (e : Entry) (b : List Entry) (f : Entry) (xs : List Entry) → Stands a e xs → Stands b f xs → count a < count b → Stands a e b
earlier count grows a e b f [] s u lt = absurd s
earlier count grows a e b f (x ∷ xs) (inl q) (inl v) lt = let y = ap count (q.0 ∙ sym v.0) in absurd (omega arith)
earlier count grows a e b f (x ∷ xs) (inl q) (inr u) lt = let y = ap count q.0 in let z = since xs u in absurd (omega arith)
  where
    since : (xs : List Entry) → Stands b f xs → count b ≤ count xs
    since [] s = absurd s
    since (x ∷ xs) (inl q) = let y = ap count q.0 in let g = grows x xs in omega arith
    since (x ∷ xs) (inr s) = let y = since xs s in let g = grows x xs in omega arith
earlier count grows a e b f (x ∷ xs) (inr s) (inl v) lt = subst (Stands a e) (sym v.0) s
earlier count grows a e b f (x ∷ xs) (inr s) (inr u) lt = earlier count grows a e b f xs s u lt

pub requested_more : (p : ℕ) (x : Entry) (xs : List Entry) → requested p xs ≤ requested p (x ∷ xs)
requested_more p x xs = Rattle.source_order.proofs.Stands.counted (request_by p x) (requested p xs)

pub arrivals_more : (p : ℕ) (x : Entry) (xs : List Entry) → arrivals p xs ≤ arrivals p (x ∷ xs)
arrivals_more p (Arrived q s) xs = by (q == p)
  where
    by : (b : Bool) → arrivals p xs ≤ (if b then arrivals p xs + 1 else arrivals p xs)
    by true = omega arith
    by false = le_refl _
arrivals_more p (Issued _ _ _) xs = le_refl _
arrivals_more p (Delivered _ _ _ _) xs = le_refl _
arrivals_more p (Waited _ _) xs = le_refl _
arrivals_more p (Passed _) xs = le_refl _
arrivals_more p (Finished _ _) xs = le_refl _

module _ (start : Place → Value) (nodes : ℕ) (whole : List Entry) (w : Wired start nodes whole) where
  -- the moment of an entry with this past
  abbrev pub T : List Entry → ℕ
  T past = length past + length (effects start past)

  pub T_rises : (a : List Entry) (e : Entry) (b : List Entry) → Stands a e b → T a < T b
  T_rises a e [] s = absurd s
  T_rises a e (x ∷ xs) (inl q) = let y = ap (λ u. T u) q.0 in let g = grown_length _ _ (effects_grow start x xs) in omega arith
  T_rises a e (x ∷ xs) (inr s) = let y = T_rises a e xs s in let g = grown_length _ _ (effects_grow start x xs) in omega arith

  -- an own step's moment
  pub begun_at : (p k : ℕ) (x : SourceEvent) → ((past : List Entry) (entry : Entry) → begins x past entry ≡ requests_as p k past entry) → (past : List Entry) (entry : Entry) (r : Request) (xs : List Entry)
      → Stands past entry xs → request_by p entry ≡ Some r → requested p past ≡ k → begun_in start whole xs x ≡ T past
  begun_at p k x f past entry r [] s h n = absurd s
  begun_at p k x f past entry r (e ∷ rest) (inl q) h n =
      if_true (begins x rest e) (T rest) (begun_in start whole rest x) (f rest e ∙ and_from _ _ (some_from (request_by p e) r (ap (request_by p) (sym q.1) ∙ h)) (eq-eqb _ _ (ap (requested p) (sym q.0) ∙ n))) ∙ ap (λ u. T u) (sym q.0)
  begun_at p k x f past entry r (e ∷ rest) (inr s) h n =
      if_false (begins x rest e) (T rest) (begun_in start whole rest x) (false_from_ne_true _ (λ t.
      let z = and_parts (is_some (request_by p e)) (requested p rest == k) (sym (f rest e) ∙ t) in
      let y = eqb-true (requested p rest) k z.1 in let l = requested_below p past entry rest r s h in absurd (omega arith)))
      ∙ begun_at p k x f past entry r rest s h n

  -- a release's moment: the first passing
  pub first_pass : (r : ℕ) (xs : List Entry) → Wired start nodes xs → r < released xs → (old : List Entry) × (q : ℕ) × Stands old (Passed q) xs × (passes q old ≡ r) × (released old ≤ r)
  first_pass r [] v lt = absurd (omega arith)
  first_pass r (Passed q ∷ rest) v lt =
      ⊎_elim (λ l. let z = first_pass r rest v.1 l in (z.0, z.1, inr z.2, z.3, z.4))
      (λ ge. let l = (level start nodes q rest v.1).below in (rest, q, inl (refl, refl), omega arith, ge)) (cases_lt r (released rest))
  first_pass r (Issued _ _ _ ∷ rest) v lt = let z = first_pass r rest v.1 lt in (z.0, z.1, inr z.2, z.3, z.4)
  first_pass r (Delivered _ _ _ _ ∷ rest) v lt = let z = first_pass r rest v.1 lt in (z.0, z.1, inr z.2, z.3, z.4)
  first_pass r (Waited _ _ ∷ rest) v lt = let z = first_pass r rest v.1 lt in (z.0, z.1, inr z.2, z.3, z.4)
  first_pass r (Arrived _ _ ∷ rest) v lt = let z = first_pass r rest v.1 lt in (z.0, z.1, inr z.2, z.3, z.4)
  first_pass r (Finished _ _ ∷ rest) v lt = let z = first_pass r rest v.1 lt in (z.0, z.1, inr z.2, z.3, z.4)

  pub released_at : (r : ℕ) (old : List Entry) (q : ℕ) (xs : List Entry) → Stands old (Passed q) xs → passes q old ≡ r → released old ≤ r → begun_in start whole xs (Release (suc r)) ≡ T old
  released_at r old q [] s e le = absurd s
  released_at r old q (x ∷ rest) (inl z) e le =
      if_true (begins (Release (suc r)) rest x) (T rest) (begun_in start whole rest (Release (suc r)))
      (subst (λ u. releases_as (suc r) rest u ≡ true) z.1 (and_from (suc (passes q rest) == suc r) (nat_lt (released rest) (suc r)) (eq-eqb _ _ (ap (λ u. suc (passes q u)) (sym z.0) ∙ ap suc e)) (lt-ltb (released rest) (suc r) (let y = ap released z.0 in omega arith))))
      ∙ ap (λ u. T u) (sym z.0)
  released_at r old q (x ∷ rest) (inr s) e le =
      if_false (begins (Release (suc r)) rest x) (T rest) (begun_in start whole rest (Release (suc r))) (no x) ∙ released_at r old q rest s e le
    where
      passed : (xs : List Entry) → Stands old (Passed q) xs → r < released xs
      passed [] s = absurd s
      passed (y ∷ ys) (inl z) = subst (λ u. r < released (u ∷ ys)) z.1 (let a = ap (λ u. passes q u) z.0 in omega arith)
      passed (y ∷ ys) (inr s) = let a = passed ys s in let b = released_grows start nodes y ys in omega arith

      no : (x : Entry) → releases_as (suc r) rest x ≡ false
      no (Passed p) = false_from_ne_true _ (λ t. let z = and_parts (suc (passes p rest) == suc r) (nat_lt (released rest) (suc r)) t in let l : released rest < suc r = ltb-true (released rest) (suc r) z.1 in let a = passed rest s in absurd (omega arith))
      no (Issued _ _ _) = refl
      no (Delivered _ _ _ _) = refl
      no (Waited _ _) = refl
      no (Arrived _ _) = refl
      no (Finished _ _) = refl

  -- an effect that has occurred before an entry is earlier than it
  pub over_before : (a : CellEffect) (past : List Entry) (entry : Entry) → Stands past entry whole → In a (effects start past) → occurred_in start whole whole (ev start nodes whole w a) < T past
  over_before a past entry s i =
      let p : Part start nodes whole w past = λ f j. grown_past start past entry whole s f j in
      let same = stays whole s (λ f j. j) in
      let b = occurs_by start nodes whole w a past p i in
      let c = before_one start nodes whole w a (effects start past) (p a i) p (each_part_once start past) i in omega arith
    where
      stays : (xs : List Entry) → Stands past entry xs → Part start nodes whole w xs → occurred_in start whole xs (ev start nodes whole w a) ≡ occurred_in start whole past (ev start nodes whole w a)
      stays [] s p = absurd s
      stays (x ∷ rest) (inl q) p =
          let j = subst (λ u. In a (effects start u)) q.0 i in
          if_true (has_occurred start whole (ev start nodes whole w a) (effects start rest)) _ _ (occurred_self start nodes whole w a (effects start rest) (p a (grown_in _ _ (effects_grow start x rest) a j)) j)
          ∙ ap (λ u. occurred_in start whole u (ev start nodes whole w a)) (sym q.0)
      stays (x ∷ rest) (inr s) p =
          let j = grown_past start past entry rest s a i in
          if_true (has_occurred start whole (ev start nodes whole w a) (effects start rest)) _ _ (occurred_self start nodes whole w a (effects start rest) (p a (grown_in _ _ (effects_grow start x rest) a j)) j)
          ∙ stays rest s (λ f k. p f (grown_in _ _ (effects_grow start x rest) f k))

  -- an effect comes after its issue
  pub after_issue : (a : CellEffect) (past : List Entry) (access : Access) → Stands past (Issued a.node a.number access) whole → In a (effects start whole) → T past < occurred_in start whole whole (ev start nodes whole w a)
  after_issue a past access s i = occurs_after start nodes whole w a past (Issued a.node a.number access) whole (λ f j. j) s i (λ j.
      let v = wired_at start nodes past (Issued a.node a.number access) whole w s in
      let o = each-in (Origin past) (effects start past) a (origins start past) j in
      let l = issue_below start nodes a.node a.number o.access o.past past v.1 o.stands in
      let n : a.number ≡ issues a.node past = v.0.numbered in absurd (omega arith))
