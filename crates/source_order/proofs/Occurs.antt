-- What holds of all effects of a journal: a principle by which it is shown, and what a part that is due is.
use Rattle.std.proofs.Common.{◌≡◌, ◌⊎◌, ℕ, zero, suc, List, [], ◌∷◌, Option, Some, None, Bool, true, false, ◌==◌, ◌&&◌, refl, sym, ◌∙◌, subst, inl, inr, eqb-true}
use Rattle.std.specs.Prelude.{if◌then◌else◌, IsSome}
use Rattle.std.proofs.lemmas.Bool.{and_parts, and_from, false_from_ne_true}
use Rattle.sc_base.specs.declared.value.Place.{Place}
use Rattle.sc_base.specs.declared.value.Value.{Value}
use Rattle.effect_order.specs.Effect.{Effect, held}
use Rattle.effect_order.specs.Lists.{In}
use Rattle.effect_order.specs.Transfer.{Transfer, same_flag, is_part, part_place, part_value, written}
use Rattle.sc_isa.specs.declared.access.Access.{Access}
use Rattle.sc_isa.specs.declared.journal.Entry.{Entry}
use Rattle.sc_isa.specs.declared.journal.Entry.TheVariants.{Issued, Delivered, Waited, Arrived, Passed, Finished}
use Rattle.fabric.specs.Access.{transfer_of}
use Rattle.fabric.specs.Effects.{access_at, reading, writing, unless_occurred, or_else, due, occurs_on, at_issue, and_effect, at_delivery, effects}
use Rattle.source_order.proofs.Once.{IsFresh, AtMostOnce}
use Rattle.source_order.proofs.Stands.{Stands}
use Rattle.source_order.proofs.Numbers.{eq_self, if_true, if_false, issued_at}

pub not_some : {A : Type 0} (o : Option A) → o ≡ None → IsSome o → ⊥
not_some None h s = absurd cc
not_some (Some x) h s = absurd cc

pub some_from : {A : Type 0} (o : Option A) (x : A) → o ≡ Some x → IsSome o
some_from None x h = absurd cc
some_from (Some y) x h = refl

pub some_is : {A : Type 0} (o : Option A) → IsSome o → (x : A) × (o ≡ Some x)
some_is None s = absurd cc
some_is (Some x) s = (x, refl)

-- ---- parts

pub part_of : (p n c : ℕ) (wrote : Bool) (e : Effect) → is_part p n c wrote e ≡ true → (e.node ≡ p) × (e.number ≡ n) × (e.cell ≡ c) × (e.wrote ≡ wrote)
part_of p n c wrote e h =
    let a = and_parts (((e.node == p) && (e.number == n)) && (e.cell == c)) (same_flag e.wrote wrote) h in
    let b = and_parts ((e.node == p) && (e.number == n)) (e.cell == c) a.0 in
    let d = and_parts (e.node == p) (e.number == n) b.0 in
    (eqb-true _ _ d.0, eqb-true _ _ d.1, eqb-true _ _ b.1, flag e.wrote wrote a.1)
  where
    flag : (x y : Bool) → same_flag x y ≡ true → x ≡ y
    flag true true h = refl
    flag true false h = absurd cc
    flag false true h = absurd cc
    flag false false h = refl

flag_self : (b : Bool) → same_flag b b ≡ true
flag_self true = refl
flag_self false = refl

pub part_self : (e : Effect) → is_part e.node e.number e.cell e.wrote e ≡ true
part_self e = and_from _ _ (and_from _ _ (and_from _ _ (eq_self e.node) (eq_self e.number)) (eq_self e.cell)) (flag_self e.wrote)

-- the effect of a part that has occurred
pub found : (p n c : ℕ) (wrote : Bool) (es : List Effect) (value : Value) → part_value p n c wrote es ≡ Some value → (e : Effect) × In e es × (is_part p n c wrote e ≡ true) × (e.value ≡ value)
found p n c wrote [] value h = absurd cc
found p n c wrote (e ∷ es) value h = by (is_part p n c wrote e) refl h (λ i. found p n c wrote es value i)
  where
    by : (b : Bool) → is_part p n c wrote e ≡ b → (if b then Some e.value else part_value p n c wrote es) ≡ Some value
        → (part_value p n c wrote es ≡ Some value → (e : Effect) × In e es × (is_part p n c wrote e ≡ true) × (e.value ≡ value))
        → (d : Effect) × In d (e ∷ es) × (is_part p n c wrote d ≡ true) × (d.value ≡ value)
    by true t i f = (e, inl refl, t, cc)
    by false t i f = let g = f i in (g.0, inr g.1, g.2, g.3)

-- an effect, with the names of its part
pub as_part : (p n c : ℕ) (wrote : Bool) (e : Effect) (es : List Effect) → In e es → is_part p n c wrote e ≡ true → In (record { node = p; number = n; cell = c; wrote = wrote; place = e.place; value = e.value }) es
as_part p n c wrote e es i h =
    let q = part_of p n c wrote e h in
    subst (λ u. In (record { node = p; number = n; cell = c; wrote = u; place = e.place; value = e.value }) es) q.3
    (subst (λ u. In (record { node = p; number = n; cell = u; wrote = e.wrote; place = e.place; value = e.value }) es) q.2
    (subst (λ u. In (record { node = p; number = u; cell = e.cell; wrote = e.wrote; place = e.place; value = e.value }) es) q.1
    (subst (λ u. In (record { node = u; number = e.number; cell = e.cell; wrote = e.wrote; place = e.place; value = e.value }) es) q.0 i)))

-- a fresh effect changes no part that has occurred
pub still : (p n c : ℕ) (wrote : Bool) (e : Effect) (es : List Effect) (value : Value) → IsFresh e es → part_value p n c wrote es ≡ Some value → part_value p n c wrote (e ∷ es) ≡ Some value
still p n c wrote e es value fresh h = if_false _ _ _ (false_from_ne_true _ (λ t.
    let q = part_of p n c wrote e t in
    let a : part_value p n c wrote es ≡ None = subst (λ x. part_value x n c wrote es ≡ None) q.0 (subst (λ x. part_value e.node x c wrote es ≡ None) q.1 (subst (λ x. part_value e.node e.number x wrote es ≡ None) q.2 (subst (λ x. part_value e.node e.number e.cell x es ≡ None) q.3 fresh))) in
    absurd cc)) ∙ h

-- each effect is the value of its part
pub its_value : (e : Effect) (es : List Effect) → AtMostOnce es → In e es → part_value e.node e.number e.cell e.wrote es ≡ Some e.value
its_value e [] once i = absurd i
its_value e (d ∷ es) once (inl q) = rw q (if_true _ _ _ (part_self d))
its_value e (d ∷ es) once (inr i) = still e.node e.number e.cell e.wrote d es e.value once.0 (its_value e es once.1 i)

-- ---- a part that is due

abbrev pub read_of : ℕ → ℕ → ℕ → Place → Value → Effect
read_of p n c place value = record { node = p; number = n; cell = c; wrote = false; place = place; value = value }

abbrev pub write_of : ℕ → ℕ → ℕ → Place → Value → Effect
write_of p n c place value = record { node = p; number = n; cell = c; wrote = true; place = place; value = value }

pub record IsRead (start : Place → Value) (t : Transfer) (p n c : ℕ) (earlier : List Effect) (e : Effect) : Type 0 where
  pub place : Place
  pub has : part_place t c false ≡ Some place
  pub fresh : part_value p n c false earlier ≡ None
  pub is : e ≡ read_of p n c place (held start place earlier)

pub record IsWrite (t : Transfer) (p n c : ℕ) (earlier : List Effect) (e : Effect) : Type 0 where
  pub place : Place
  pub value : Value
  pub has : part_place t c true ≡ Some place
  pub its : written t p n c earlier ≡ Some value
  pub fresh : part_value p n c true earlier ≡ None
  pub is : e ≡ write_of p n c place value
  pub after : IsSome (part_place t c false) → IsSome (part_value p n c false earlier)

pub due_is : (start : Place → Value) (t : Transfer) (p n c : ℕ) (earlier : List Effect) (e : Effect)
    → due start t p n c earlier ≡ Some e → IsRead start t p n c earlier e ⊎ IsWrite t p n c earlier e
due_is start t p n c earlier e h =
    by (part_value p n c false earlier) (part_value p n c true earlier) (part_place t c false) (part_place t c true) (written t p n c earlier) refl refl refl refl refl h
  where
    writes : (b : Option Value) (to : Option Place) (w : Option Value)
        → part_value p n c true earlier ≡ b → part_place t c true ≡ to → written t p n c earlier ≡ w
        → unless_occurred b (writing p n c to w) ≡ Some e → (IsSome (part_place t c false) → IsSome (part_value p n c false earlier)) → IsWrite t p n c earlier e
    writes None (Some place) (Some value) x y z i f = record { place = place; value = value; has = y; its = z; fresh = x; is = (let g : write_of p n c place value ≡ e = cc in sym g); after = f }
    writes None None w x y z i f = absurd cc
    writes None (Some place) None x y z i f = absurd cc
    writes (Some v) to w x y z i f = absurd cc

    by : (a b : Option Value) (from to : Option Place) (w : Option Value)
        → part_value p n c false earlier ≡ a → part_value p n c true earlier ≡ b → part_place t c false ≡ from → part_place t c true ≡ to → written t p n c earlier ≡ w
        → or_else (unless_occurred a (reading start p n c earlier from)) (unless_occurred b (writing p n c to w)) ≡ Some e
        → IsRead start t p n c earlier e ⊎ IsWrite t p n c earlier e
    by None b (Some place) to w j x k y z i = inl (record { place = place; has = k; fresh = j; is = (let g : read_of p n c place (held start place earlier) ≡ e = cc in sym g) })
    by None b None to w j x k y z i = inr (writes b to w x y z i (λ s. absurd (not_some (part_place t c false) k s)))
    by (Some v) b from to w j x k y z i = inr (writes b to w x y z i (λ s. rw j refl))

-- ---- what holds of all effects

module _ (start : Place → Value) (whole : List Entry) (Good : List Effect → Type 0)
    (next : (past : List Entry) (p n : ℕ) (access : Access) (c : ℕ) (earlier : List Effect) (e : Effect)
    → Stands past (Issued p n access) whole → due start (transfer_of access) p n c earlier ≡ Some e → Good earlier → Good (e ∷ earlier)) where
  once_more : (past : List Entry) (p n : ℕ) (access : Access) → Stands past (Issued p n access) whole → (c : ℕ) (earlier : List Effect) (o : Option Effect)
      → due start (transfer_of access) p n c earlier ≡ o → Good earlier → Good (occurs_on p o earlier)
  once_more past p n access s c earlier None h g = g
  once_more past p n access s c earlier (Some e) h g = by (e.place.node == p)
    where
      by : (b : Bool) → Good (if b then e ∷ earlier else earlier)
      by true = next past p n access c earlier e s h g
      by false = g

  with_issue : (past : List Entry) (p n : ℕ) (access : Access) → Stands past (Issued p n access) whole → (cells : ℕ) (earlier : List Effect) → Good earlier → Good (at_issue start (transfer_of access) p n cells earlier)
  with_issue past p n access s zero earlier g = g
  with_issue past p n access s (suc c) earlier g =
      let before : List Effect = at_issue start (transfer_of access) p n c earlier in
      let one : List Effect = occurs_on p (due start (transfer_of access) p n c before) before in
      once_more past p n access s c one (due start (transfer_of access) p n c one) refl
      (once_more past p n access s c before (due start (transfer_of access) p n c before) refl (with_issue past p n access s c earlier g))

  with_delivery : (p n c : ℕ) (past : List Entry) → ((s : List Entry) (e : Entry) → Stands s e past → Stands s e whole) → (earlier : List Effect) (a : Option Access) → access_at p n past ≡ a → Good earlier → Good (and_effect (at_delivery start a p n c earlier) earlier)
  with_delivery p n c past among earlier None h g = g
  with_delivery p n c past among earlier (Some access) h g = by (due start (transfer_of access) p n c earlier) refl
    where
      by : (o : Option Effect) → due start (transfer_of access) p n c earlier ≡ o → Good (and_effect o earlier)
      by None d = g
      by (Some e) d = let i = issued_at p n access past h in next i.0 p n access c earlier e (among i.0 _ i.1) d g

  pub effects_upto : Good [] → (past : List Entry) → ((s : List Entry) (e : Entry) → Stands s e past → Stands s e whole) → Good (effects start past)
  effects_upto g [] among = g
  effects_upto g (Issued p n access ∷ past) among =
      with_issue past p n access (among past _ (inl (refl, refl))) (transfer_of access).cells (effects start past) (effects_upto g past (λ s e i. among s e (inr i)))
  effects_upto g (Delivered p n c value ∷ past) among =
      with_delivery p n c past (λ s e i. among s e (inr i)) (effects start past) (access_at p n past) refl (effects_upto g past (λ s e i. among s e (inr i)))
  effects_upto g (Waited _ _ ∷ past) among = effects_upto g past (λ s e i. among s e (inr i))
  effects_upto g (Arrived _ _ ∷ past) among = effects_upto g past (λ s e i. among s e (inr i))
  effects_upto g (Passed _ ∷ past) among = effects_upto g past (λ s e i. among s e (inr i))
  effects_upto g (Finished _ _ ∷ past) among = effects_upto g past (λ s e i. among s e (inr i))

  pub effects_have : Good [] → Good (effects start whole)
  effects_have g = effects_upto g whole (λ s e i. i)
