-- The moments of effects: they rise in the order of the effects, and lie behind the entry with which they occur.
use Rattle.std.proofs.Common.{◌≡◌, ◌⊎◌, ℕ, zero, suc, ◌+◌, ◌<◌, ◌≤◌, List, [], ◌∷◌, ◌++◌, length, Option, Some, None, Bool, true, false, ◌==◌, refl, sym, ap, ◌∙◌, subst, inl, inr, ⊎_elim, arith, le_refl, length-append}
use Rattle.std.specs.Prelude.{if◌then◌else◌}
use Rattle.std.proofs.lemmas.Bool.{both_ways, false_from_ne_true, or_cases, or_left, or_right}
use Rattle.sc_base.specs.declared.value.Place.{Place}
use Rattle.sc_base.specs.declared.value.Value.{Value}
use Rattle.effect_order.specs.Effect.{Effect}
use Rattle.effect_order.specs.Lists.{In}
use Rattle.effect_order.proofs.Members.{each-in}
use Rattle.sc_meaning.specs.declared.event.SourceEvent.{SourceEvent}
use Rattle.effect_order.specs.Transfer.{Transfer, is_part}
use Rattle.sc_isa.specs.declared.journal.Entry.{Entry}
use Rattle.sc_isa.specs.declared.journal.Entry.TheVariants.{Issued, Delivered, Waited, Arrived, Passed, Finished}
use Rattle.fabric.specs.Access.{transfer_of}
use Rattle.fabric.specs.Effects.{access_at, due, occurs_on, at_issue, and_effect, at_delivery, effects}
use Rattle.fabric.specs.Wired.{Wired}
use Rattle.source_order.proofs.Once.{IsFresh, AtMostOnce, each_part_once}
use Rattle.source_order.specs.Moments.{event_of, is_effect_of, has_occurred, effects_before, occurred_in}
use Rattle.source_order.proofs.Stands.{Stands}
use Rattle.source_order.proofs.Numbers.{if_true, if_false}
use Rattle.source_order.proofs.Occurs.{not_some, some_from, its_value, part_self}
use Rattle.source_order.proofs.Effected.{Origin, origins, as_requested, does_event, one_event}

-- ---- effects only grow

abbrev pub Grown : List Effect → List Effect → Type 0
Grown es fs = (new : List Effect) × (fs ≡ new ++ es)

more : (es fs : List Effect) (f : Effect) → Grown es fs → Grown es (f ∷ fs)
more es fs f g = (f ∷ g.0, ap (λ u. f ∷ u) g.1)

maybe : (start : Place → Value) (p : ℕ) (o : Option Effect) (es fs : List Effect) → Grown es fs → Grown es (occurs_on p o fs)
maybe start p None es fs g = g
maybe start p (Some e) es fs g = by (e.place.node == p)
  where
    by : (b : Bool) → Grown es (if b then e ∷ fs else fs)
    by true = more es fs e g
    by false = g

issue_grows : (start : Place → Value) (t : Transfer) (p n cells : ℕ) (es : List Effect) → Grown es (at_issue start t p n cells es)
issue_grows start t p n zero es = ([], refl)
issue_grows start t p n (suc c) es =
    let before : List Effect = at_issue start t p n c es in
    let one : List Effect = occurs_on p (due start t p n c before) before in
    maybe start p (due start t p n c one) es one (maybe start p (due start t p n c before) es before (issue_grows start t p n c es))

delivery_grows : (start : Place → Value) (o : Option Effect) (es : List Effect) → Grown es (and_effect o es)
delivery_grows start None es = ([], refl)
delivery_grows start (Some e) es = (e ∷ [], refl)

pub effects_grow : (start : Place → Value) (entry : Entry) (past : List Entry) → Grown (effects start past) (effects start (entry ∷ past))
effects_grow start (Issued p n access) past = issue_grows start (transfer_of access) p n (transfer_of access).cells (effects start past)
effects_grow start (Delivered p n c value) past = delivery_grows start (at_delivery start (access_at p n past) p n c (effects start past)) (effects start past)
effects_grow start (Waited _ _) past = ([], refl)
effects_grow start (Arrived _ _) past = ([], refl)
effects_grow start (Passed _) past = ([], refl)
effects_grow start (Finished _ _) past = ([], refl)

pub grown_in : (es fs : List Effect) → Grown es fs → (e : Effect) → In e es → In e fs
grown_in es fs g e i = subst (In e) (sym g.1) (later g.0)
  where
    later : (new : List Effect) → In e (new ++ es)
    later [] = i
    later (x ∷ new) = inr (later new)

pub grown_length : (es fs : List Effect) → Grown es fs → length es ≤ length fs
grown_length es fs g = let a = ap length g.1 in let b = length-append g.0 es in omega arith

pub within : (start : Place → Value) (past : List Entry) (entry : Entry) (whole : List Entry) → Stands past entry whole
    → Grown (effects start (entry ∷ past)) (effects start whole)
within start past entry [] s = absurd s
within start past entry (e ∷ rest) (inl q) = rw (q.0, q.1) ([], refl)
within start past entry (e ∷ rest) (inr s) =
    let a = within start past entry rest s in
    let b = effects_grow start e rest in
    (b.0 ++ a.0, b.1 ∙ ap (λ u. b.0 ++ u) a.1 ∙ assoc b.0 a.0)
  where
    assoc : (xs ys : List Effect) → xs ++ (ys ++ effects start (entry ∷ past)) ≡ (xs ++ ys) ++ effects start (entry ∷ past)
    assoc [] ys = refl
    assoc (x ∷ xs) ys = ap (λ u. x ∷ u) (assoc xs ys)

pub grown_past : (start : Place → Value) (past : List Entry) (entry : Entry) (whole : List Entry) → Stands past entry whole
    → (e : Effect) → In e (effects start past) → In e (effects start whole)
grown_past start past entry whole s e i = grown_in _ _ (within start past entry whole s) e (grown_in _ _ (effects_grow start entry past) e i)

-- ---- one after the other

abbrev pub Behind : Effect → Effect → List Effect → Type 0
Behind a b [] = ⊥
Behind a b (x ∷ es) = ((b ≡ x) × In a es) ⊎ Behind a b es

pub behind_in : (a b : Effect) (es : List Effect) → Behind a b es → In b es × In a es
behind_in a b [] h = absurd h
behind_in a b (x ∷ es) (inl q) = (inl q.0, inr q.1)
behind_in a b (x ∷ es) (inr h) = let i = behind_in a b es h in (inr i.0, inr i.1)

pub once_only : (x : Effect) (es : List Effect) → IsFresh x es → In x es → AtMostOnce es → ⊥
once_only x es fresh i once = not_some _ fresh (some_from _ _ (its_value x es once i))

older : (new es : List Effect) → AtMostOnce (new ++ es) → AtMostOnce es
older [] es once = once
older (x ∷ new) es once = older new es once.1

behind_old : (a b : Effect) (new es : List Effect) → AtMostOnce (new ++ es) → Behind a b (new ++ es) → In b es → Behind a b es
behind_old a b [] es once h i = h
behind_old a b (x ∷ new) es once (inl q) i = absurd (once_only x (new ++ es) once.0 (subst (λ u. In u (new ++ es)) q.0 (grown_in es (new ++ es) (new, refl) b i)) once.1)
behind_old a b (x ∷ new) es once (inr h) i = behind_old a b new es once.1 h i

-- ---- moments

module _ (start : Place → Value) (nodes : ℕ) (whole : List Entry) (w : Wired start nodes whole) where
  abbrev pub E : List Effect
  E = effects start whole

  abbrev pub ev : Effect → SourceEvent
  ev e = event_of whole e

  abbrev pub matches : Effect → Effect → Bool
  matches a f = is_effect_of start whole (ev a) f

  matches_is : (a f : Effect) → In a E → In f E → matches a f ≡ is_part (as_requested whole f).node (as_requested whole f).number f.cell f.wrote (as_requested whole a)
  matches_is a f i j =
      rw (does_event start nodes whole w f (each-in (Origin whole) E f (origins start whole) j), does_event start nodes whole w a (each-in (Origin whole) E a (origins start whole) i)) refl

  pub match_self : (a : Effect) → In a E → matches a a ≡ true
  match_self a i = matches_is a a i i ∙ part_self (as_requested whole a)

  pub match_one : (a f : Effect) → In a E → In f E → matches a f ≡ true → f ≡ a
  match_one a f i j h = one_event start nodes whole w f a j i (sym (matches_is a f i j) ∙ h)

  pub occurred_self : (a : Effect) (es : List Effect) → In a E → In a es → has_occurred start whole (ev a) es ≡ true
  occurred_self a [] m i = absurd i
  occurred_self a (x ∷ es) m (inl q) = or_left _ _ (subst (λ u. matches a u ≡ true) q (match_self a m))
  occurred_self a (x ∷ es) m (inr i) = or_right _ _ (occurred_self a es m i)

  pub occurred_in_it : (a : Effect) (es : List Effect) → In a E → ((f : Effect) → In f es → In f E) → has_occurred start whole (ev a) es ≡ true → In a es
  occurred_in_it a [] m all h = absurd cc
  occurred_in_it a (x ∷ es) m all h =
      ⊎_elim (λ t. inl (sym (match_one a x m (all x (inl refl)) t))) (λ t. inr (occurred_in_it a es m (λ f i. all f (inr i)) t)) (or_cases _ _ h)

  apart : (a x : Effect) (es : List Effect) → In a E → In x E → AtMostOnce (x ∷ es) → In a es → matches a x ≡ false
  apart a x es m n once i = false_from_ne_true _ (λ t. once_only x es once.0 (subst (λ u. In u es) (sym (match_one a x m n t)) i) once.1)

  pub before_one : (a : Effect) (es : List Effect) → In a E → ((f : Effect) → In f es → In f E) → AtMostOnce es → In a es → effects_before start whole (ev a) es < length es
  before_one a [] m all once i = absurd i
  before_one a (x ∷ es) m all once (inl q) = rw (if_true (matches a x) (length es) (effects_before start whole (ev a) es) (subst (λ u. matches a u ≡ true) q (match_self a m))) (omega arith)
  before_one a (x ∷ es) m all once (inr i) =
      let k = before_one a es m (λ f j. all f (inr j)) once.1 i in
      rw (if_false (matches a x) (length es) (effects_before start whole (ev a) es) (apart a x es m (all x (inl refl)) once i)) (omega arith)

  pub before_grown : (a : Effect) (new es : List Effect) → In a E → ((f : Effect) → In f (new ++ es) → In f E) → AtMostOnce (new ++ es) → In a es
      → effects_before start whole (ev a) (new ++ es) ≡ effects_before start whole (ev a) es
  before_grown a [] es m all once i = refl
  before_grown a (x ∷ new) es m all once i =
      if_false _ _ _ (apart a x (new ++ es) m (all x (inl refl)) once (grown_in es (new ++ es) (new, refl) a i)) ∙ before_grown a new es m (λ f j. all f (inr j)) once.1 i

  pub before_rises : (a b : Effect) (es : List Effect) → ((f : Effect) → In f es → In f E) → AtMostOnce es → Behind a b es
      → effects_before start whole (ev a) es < effects_before start whole (ev b) es
  before_rises a b [] all once h = absurd h
  before_rises a b (x ∷ es) all once (inl q) =
      let mb : In b E = all b (inl q.0) in
      let ma : In a E = all a (inr q.1) in
      let k = before_one a es ma (λ f j. all f (inr j)) once.1 q.1 in
      rw (
        if_true (matches b x) (length es) (effects_before start whole (ev b) es) (subst (λ u. matches b u ≡ true) q.0 (match_self b mb)),
        if_false (matches a x) (length es) (effects_before start whole (ev a) es) (apart a x es ma (all x (inl refl)) once q.1),
      ) k
  before_rises a b (x ∷ es) all once (inr h) =
      let i = behind_in a b es h in
      rw (
        if_false (matches b x) (length es) (effects_before start whole (ev b) es) (apart b x es (all b (inr i.0)) (all x (inl refl)) once i.0),
        if_false (matches a x) (length es) (effects_before start whole (ev a) es) (apart a x es (all a (inr i.1)) (all x (inl refl)) once i.1),
      )
      (before_rises a b es (λ f j. all f (inr j)) once.1 h)

  -- a part of the journal
  abbrev pub Part : List Entry → Type 0
  Part xs = (f : Effect) → In f (effects start xs) → In f E

  down : (entry : Entry) (past : List Entry) → Part (entry ∷ past) → Part past
  down entry past p f i = p f (grown_in _ _ (effects_grow start entry past) f i)

  grown_before : (a : Effect) (entry : Entry) (past : List Entry) → Part (entry ∷ past) → In a (effects start past)
      → effects_before start whole (ev a) (effects start (entry ∷ past)) ≡ effects_before start whole (ev a) (effects start past)
  grown_before a entry past p i =
      let g = effects_grow start entry past in
      let m = p a (grown_in _ _ g a i) in
      ap (effects_before start whole (ev a)) g.1 ∙ before_grown a g.0 (effects start past) m (λ f j. p f (subst (In f) (sym g.1) j)) (subst AtMostOnce g.1 (each_part_once start (entry ∷ past))) i

  -- an effect is over with its entry
  pub occurs_by : (a : Effect) (xs : List Entry) → Part xs → In a (effects start xs) → occurred_in start whole xs (ev a) ≤ length xs + effects_before start whole (ev a) (effects start xs)
  occurs_by a [] p i = absurd i
  occurs_by a (entry ∷ past) p i = by (has_occurred start whole (ev a) (effects start past)) refl (λ j. occurs_by a past (down entry past p) j)
    where
      by : (b : Bool) → has_occurred start whole (ev a) (effects start past) ≡ b
          → (In a (effects start past) → occurred_in start whole past (ev a) ≤ length past + effects_before start whole (ev a) (effects start past))
          → (if b then occurred_in start whole past (ev a) else suc (length past) + effects_before start whole (ev a) (effects start (entry ∷ past))) ≤ suc (length past) + effects_before start whole (ev a) (effects start (entry ∷ past))
      by true h f =
          let j = occurred_in_it a (effects start past) (p a i) (down entry past p) h in
          let k = f j in
          let e = grown_before a entry past p j in omega arith
      by false h f = le_refl _

  pub occurs_in_order : (a b : Effect) (xs : List Entry) → Part xs → Behind a b (effects start xs) → occurred_in start whole xs (ev a) < occurred_in start whole xs (ev b)
  occurs_in_order a b [] p h = absurd h
  occurs_in_order a b (entry ∷ past) p h =
      by (has_occurred start whole (ev a) (effects start past)) (has_occurred start whole (ev b) (effects start past)) refl refl (λ j. occurs_in_order a b past (down entry past p) j)
    where
      now : effects_before start whole (ev a) (effects start (entry ∷ past)) < effects_before start whole (ev b) (effects start (entry ∷ past))
      now = before_rises a b (effects start (entry ∷ past)) p (each_part_once start (entry ∷ past)) h

      is : In b (effects start (entry ∷ past)) × In a (effects start (entry ∷ past))
      is = behind_in a b (effects start (entry ∷ past)) h

      old : In b (effects start past) → Behind a b (effects start past)
      old j = let g = effects_grow start entry past in behind_old a b g.0 (effects start past) (subst AtMostOnce g.1 (each_part_once start (entry ∷ past))) (subst (Behind a b) g.1 h) j

      by : (x y : Bool) → has_occurred start whole (ev a) (effects start past) ≡ x → has_occurred start whole (ev b) (effects start past) ≡ y
          → (Behind a b (effects start past) → occurred_in start whole past (ev a) < occurred_in start whole past (ev b))
          → (if x then occurred_in start whole past (ev a) else suc (length past) + effects_before start whole (ev a) (effects start (entry ∷ past)))
          < (if y then occurred_in start whole past (ev b) else suc (length past) + effects_before start whole (ev b) (effects start (entry ∷ past)))
      by true true h k f = f (old (occurred_in_it b (effects start past) (p b is.0) (down entry past p) k))
      by false true h k f =
          let j = old (occurred_in_it b (effects start past) (p b is.0) (down entry past p) k) in
          absurd (both_ways _ h (occurred_self a (effects start past) (p a is.1) (behind_in a b (effects start past) j).1))
      by true false h k f =
          let j = occurred_in_it a (effects start past) (p a is.1) (down entry past p) h in
          let u = occurs_by a past (down entry past p) j in
          let e = grown_before a entry past p j in
          let n = now in omega arith
      by false false h k f = let n = now in omega arith

  -- and no sooner
  pub occurs_after : (a : Effect) (past : List Entry) (entry : Entry) (xs : List Entry) → Part xs → Stands past entry xs → In a (effects start xs) → (In a (effects start past) → ⊥)
      → length past + length (effects start past) < occurred_in start whole xs (ev a)
  occurs_after a past entry [] p s i none = absurd s
  occurs_after a past entry (e ∷ rest) p s i none =
      by (has_occurred start whole (ev a) (effects start rest)) refl s (λ u j. occurs_after a past entry rest (down e rest p) u j none)
    where
      apart_from : (new es : List Effect) → AtMostOnce (new ++ es) → ((f : Effect) → In f (new ++ es) → In f E) → In a (new ++ es) → (In a es → ⊥) → length es ≤ effects_before start whole (ev a) (new ++ es)
      apart_from [] es once all i none = absurd (none i)
      apart_from (x ∷ new) es once all (inl q) none = rw (if_true (matches a x) (length (new ++ es)) (effects_before start whole (ev a) (new ++ es)) (subst (λ u. matches a u ≡ true) q (match_self a (all a (inl q))))) (let k = length-append new es in omega arith)
      apart_from (x ∷ new) es once all (inr i) none = rw (if_false (matches a x) (length (new ++ es)) (effects_before start whole (ev a) (new ++ es)) (apart a x (new ++ es) (all a (inr i)) (all x (inl refl)) once i)) (apart_from new es once.1 (λ f j. all f (inr j)) i none)

      low : (In a (effects start rest) → ⊥) → length (effects start rest) ≤ effects_before start whole (ev a) (effects start (e ∷ rest))
      low out =
          let g = effects_grow start e rest in
          subst (λ u. length (effects start rest) ≤ effects_before start whole (ev a) u) (sym g.1)
          (apart_from g.0 (effects start rest) (subst AtMostOnce g.1 (each_part_once start (e ∷ rest))) (λ f j. p f (subst (In f) (sym g.1) j)) (subst (In a) g.1 i) out)

      size : Stands past entry (e ∷ rest) → (length past + length (effects start past) ≤ length rest + length (effects start rest))
      size (inl q) = rw q.0 (le_refl _)
      size (inr s) = let g = grown_length _ _ (within start past entry rest s) in let h = grown_length _ _ (effects_grow start entry past) in let k = shorter past rest s in omega arith
        where
          shorter : (past rest : List Entry) → Stands past entry rest → length past < length rest
          shorter past [] s = absurd s
          shorter past (x ∷ xs) (inl q) = let u = ap length q.0 in omega arith
          shorter past (x ∷ xs) (inr s) = let u = shorter past xs s in omega arith

      by : (b : Bool) → has_occurred start whole (ev a) (effects start rest) ≡ b → Stands past entry (e ∷ rest)
          → (Stands past entry rest → In a (effects start rest) → length past + length (effects start past) < occurred_in start whole rest (ev a))
          → length past + length (effects start past) < (if b then occurred_in start whole rest (ev a) else suc (length rest) + effects_before start whole (ev a) (effects start (e ∷ rest)))
      by true h (inl q) f = absurd (none (subst (λ u. In a (effects start u)) (sym q.0) (occurred_in_it a (effects start rest) (p a i) (down e rest p) h)))
      by true h (inr u) f = f u (occurred_in_it a (effects start rest) (p a i) (down e rest p) h)
      by false h u f =
          let k = low (λ j. both_ways _ h (occurred_self a (effects start rest) (p a i) j)) in
          let z = size u in omega arith
