-- The effects of a run: each is a part of an issued access, reads show what was written, and each is one event.
use Rattle.std.proofs.Common.{◌≡◌, ◌⊎◌, ℕ, ◌<◌, List, [], ◌∷◌, Option, Some, None, Bool, true, false, refl, sym, ap, ◌∙◌, subst, inl, inr, arith, ltb-true}
use Rattle.std.specs.Prelude.{if◌then◌else◌, IsSome, nat_lt}
use Rattle.std.proofs.lemmas.Bool.{both_ways}
use Rattle.sc_base.specs.declared.value.Place.{Place}
use Rattle.sc_base.specs.declared.value.Value.{Value}
use Rattle.effect_order.specs.Effect.{Effect, held, IsShown}
use Rattle.effect_order.specs.Lists.{In, Each}
use Rattle.effect_order.proofs.Members.{each-map, each-in}
use Rattle.sc_meaning.specs.declared.event.SourceEvent.TheVariants.{Do, Effect as Part}
use Rattle.effect_order.specs.Transfer.{side, cell_past, is_part, part_place, part_value, or_read, written}
use Rattle.sc_isa.specs.declared.access.Access.{Access}
use Rattle.sc_isa.specs.declared.access.Access.TheVariants.{Read, Write, Copy}
use Rattle.sc_isa.specs.declared.journal.Entry.{Entry}
use Rattle.sc_isa.specs.declared.journal.Entry.TheVariants.{Issued}
use Rattle.fabric.specs.Access.{transfer_of}
use Rattle.fabric.specs.Effects.{due, effects}
use Rattle.fabric.specs.Wired.{Wired}
use Rattle.source_order.proofs.Once.{IsFresh, AtMostOnce, each_part_once}
use Rattle.source_order.specs.Steps.{request_by, requested, request_of}
use Rattle.sc_meaning.specs.OfAccess.{request_in, is_done_at_once}
use Rattle.source_order.specs.Moments.{does, event_of}
use Rattle.source_order.proofs.Stands.{Stands, same_stand}
use Rattle.source_order.proofs.Numbers.{issued_is, access_is}
use Rattle.source_order.proofs.Occurs.{not_some, some_from, part_of, part_self, still, its_value, write_of, IsRead, IsWrite, due_is, effects_have}

-- the issue that an effect is of
pub record Origin (whole : List Entry) (e : Effect) : Type 0 where
  pub past : List Entry
  pub access : Access
  pub stands : Stands past (Issued e.node e.number access) whole
  pub has : part_place (transfer_of access) e.cell e.wrote ≡ Some e.place

module _ (start : Place → Value) (whole : List Entry) where
  pub origins : Each (Origin whole) (effects start whole)
  origins = effects_have start whole (Each (Origin whole)) next tt
    where
      next : (past : List Entry) (p n : ℕ) (access : Access) (c : ℕ) (earlier : List Effect) (e : Effect)
          → Stands past (Issued p n access) whole → due start (transfer_of access) p n c earlier ≡ Some e → Each (Origin whole) earlier → Each (Origin whole) (e ∷ earlier)
      next past p n access c earlier e s d g = (by (due_is start (transfer_of access) p n c earlier e d), g)
        where
          by : IsRead start (transfer_of access) p n c earlier e ⊎ IsWrite (transfer_of access) p n c earlier e → Origin whole e
          by (inl r) = subst (Origin whole) (sym r.is) (record { past = past; access = access; stands = s; has = r.has })
          by (inr r) = subst (Origin whole) (sym r.is) (record { past = past; access = access; stands = s; has = r.has })

  pub run_shown : IsShown start (effects start whole)
  run_shown = effects_have start whole (IsShown start) next tt
    where
      next : (past : List Entry) (p n : ℕ) (access : Access) (c : ℕ) (earlier : List Effect) (e : Effect)
          → Stands past (Issued p n access) whole → due start (transfer_of access) p n c earlier ≡ Some e → IsShown start earlier → IsShown start (e ∷ earlier)
      next past p n access c earlier e s d g = (by (due_is start (transfer_of access) p n c earlier e d), g)
        where
          by : IsRead start (transfer_of access) p n c earlier e ⊎ IsWrite (transfer_of access) p n c earlier e → e.wrote ≡ false → e.value ≡ held start e.place earlier
          by (inl r) h = subst (λ (u : Effect). u.value ≡ held start u.place earlier) (sym r.is) refl
          by (inr r) h = absurd (both_ways e.wrote h (ap (λ (u : Effect). u.wrote) r.is))

  -- a writing part writes its access's value, or what its cell was read as
  abbrev pub Writes : List Effect → Effect → Type 0
  Writes es e = e.wrote ≡ true → (past : List Entry) × (access : Access) × Stands past (Issued e.node e.number access) whole
      × (written (transfer_of access) e.node e.number e.cell es ≡ Some e.value)

  still_written : (o : Option Value) (p n c : ℕ) (e : Effect) (es : List Effect) (v : Value) → IsFresh e es → or_read o p n c es ≡ Some v → or_read o p n c (e ∷ es) ≡ Some v
  still_written (Some w) p n c e es v fresh h = h
  still_written None p n c e es v fresh h = still p n c false e es v fresh h

  pub run_writes : AtMostOnce (effects start whole) × Each (Writes (effects start whole)) (effects start whole)
  run_writes = effects_have start whole (λ es. AtMostOnce es × Each (Writes es) es) next (tt, tt)
    where
      next : (past : List Entry) (p n : ℕ) (access : Access) (c : ℕ) (earlier : List Effect) (e : Effect)
          → Stands past (Issued p n access) whole → due start (transfer_of access) p n c earlier ≡ Some e → AtMostOnce earlier × Each (Writes earlier) earlier → AtMostOnce (e ∷ earlier) × Each (Writes (e ∷ earlier)) (e ∷ earlier)
      next past p n access c earlier e s d g = let k = by (due_is start (transfer_of access) p n c earlier e d) in ((k.0, g.0), (k.1, each-map _ _ earlier (older k.0) g.1))
        where
          older : IsFresh e earlier → (x : Effect) → Writes earlier x → Writes (e ∷ earlier) x
          older fresh x w h = let u = w h in (u.0, u.1, u.2, still_written (transfer_of u.1).value x.node x.number x.cell e earlier x.value fresh u.3)

          by : IsRead start (transfer_of access) p n c earlier e ⊎ IsWrite (transfer_of access) p n c earlier e → IsFresh e earlier × Writes (e ∷ earlier) e
          by (inl r) = (subst (λ u. IsFresh u earlier) (sym r.is) r.fresh, λ h. absurd (both_ways e.wrote (ap (λ (u : Effect). u.wrote) r.is) h))
          by (inr r) =
              let fresh : IsFresh (write_of p n c r.place r.value) earlier = r.fresh in (
                subst (λ u. IsFresh u earlier) (sym r.is) fresh,
                subst (λ u. Writes (u ∷ earlier) u) (sym r.is) (λ h. (past, access, s, still_written (transfer_of access).value p n c (write_of p n c r.place r.value) earlier r.value fresh r.its)),
              )

  -- a copy's write comes after its read
  abbrev pub ReadFirst : List Effect → Type 0
  ReadFirst [] = Unit {0}
  ReadFirst (e ∷ es) = (e.wrote ≡ true → (past : List Entry) × (access : Access) × Stands past (Issued e.node e.number access) whole
      × (IsSome (part_place (transfer_of access) e.cell false) → IsSome (part_value e.node e.number e.cell false es))) × ReadFirst es

  pub reads_first : ReadFirst (effects start whole)
  reads_first = effects_have start whole ReadFirst next tt
    where
      next : (past : List Entry) (p n : ℕ) (access : Access) (c : ℕ) (earlier : List Effect) (e : Effect)
          → Stands past (Issued p n access) whole → due start (transfer_of access) p n c earlier ≡ Some e → ReadFirst earlier → ReadFirst (e ∷ earlier)
      next past p n access c earlier e s d g = by (due_is start (transfer_of access) p n c earlier e d)
        where
          by : IsRead start (transfer_of access) p n c earlier e ⊎ IsWrite (transfer_of access) p n c earlier e → ReadFirst (e ∷ earlier)
          by (inl r) = (λ h. absurd (both_ways e.wrote (ap (λ (u : Effect). u.wrote) r.is) h), g)
          by (inr r) = (
            subst (λ (e : Effect). e.wrote ≡ true → (past : List Entry) × (access : Access) × Stands past (Issued e.node e.number access) whole
                × (IsSome (part_place (transfer_of access) e.cell false) → IsSome (part_value e.node e.number e.cell false earlier))) (sym r.is) (λ h. (past, access, s, r.after)),
            g,
          )

-- ---- events

-- two effects of one part are one
pub same_effect : (es : List Effect) (e f : Effect) → AtMostOnce es → In e es → In f es → is_part e.node e.number e.cell e.wrote f ≡ true → e ≡ f
same_effect [] e f once i j h = absurd i
same_effect (x ∷ es) e f once (inl q) (inl r) h = q ∙ sym r
same_effect (x ∷ es) e f once (inl q) (inr j) h =
    let k = part_of e.node e.number e.cell e.wrote f h in
    let v = its_value f es once.1 j in
    absurd (not_some (part_value x.node x.number x.cell x.wrote es) once.0 (some_from _ f.value
    (subst (λ (u : Effect). part_value u.node u.number u.cell u.wrote es ≡ Some f.value) q
    (subst (λ u. part_value e.node e.number e.cell u es ≡ Some f.value) k.3 (subst (λ u. part_value e.node e.number u f.wrote es ≡ Some f.value) k.2 (subst (λ u. part_value e.node u f.cell f.wrote es ≡ Some f.value) k.1 (subst (λ u. part_value u f.number f.cell f.wrote es ≡ Some f.value) k.0 v)))))))
same_effect (x ∷ es) e f once (inr i) (inl r) h =
    let k = part_of e.node e.number e.cell e.wrote f h in
    let v = its_value e es once.1 i in
    absurd (not_some (part_value x.node x.number x.cell x.wrote es) once.0 (some_from _ e.value
    (subst (λ (u : Effect). part_value u.node u.number u.cell u.wrote es ≡ Some e.value) r
    (subst (λ u. part_value f.node f.number f.cell u es ≡ Some e.value) (sym k.3) (subst (λ u. part_value f.node f.number u e.wrote es ≡ Some e.value) (sym k.2) (subst (λ u. part_value f.node u e.cell e.wrote es ≡ Some e.value) (sym k.1) (subst (λ u. part_value u e.number e.cell e.wrote es ≡ Some e.value) (sym k.0) v)))))))
same_effect (x ∷ es) e f once (inr i) (inr j) h = same_effect es e f once.1 i j h

-- the effect under the number of its request
abbrev pub as_requested : List Entry → Effect → Effect
as_requested whole e = record { node = e.node; number = request_of e.node e.number whole; cell = e.cell; wrote = e.wrote; place = e.place; value = e.value }

-- what has only cell 0
pub only_cell : (access : Access) (c : ℕ) (wrote : Bool) (place : Place) → is_done_at_once access ≡ true → part_place (transfer_of access) c wrote ≡ Some place → c ≡ 0
only_cell access c wrote place h i = by (nat_lt c (transfer_of access).cells) refl i
  where
    one : (access : Access) → is_done_at_once access ≡ true → (transfer_of access).cells ≡ 1
    one (Read place track) h = refl
    one (Write place value track) h = refl
    one (Copy from to cells track) h = absurd cc

    by : (b : Bool) → nat_lt c (transfer_of access).cells ≡ b → (if b then cell_past c (side (transfer_of access) wrote) else None) ≡ Some place → c ≡ 0
    by true t j = let u : c < (transfer_of access).cells = ltb-true c (transfer_of access).cells t in let v = one access h in omega arith
    by false t j = absurd cc

module _ (start : Place → Value) (nodes : ℕ) (whole : List Entry) (w : Wired start nodes whole) where
  pub event_is : (e : Effect) (o : Origin whole e) → event_of whole e ≡ (if is_done_at_once o.access
      then Do e.node (requested e.node o.past) e.wrote e.place e.value
      else Part e.node (requested e.node o.past) e.cell e.wrote e.place e.value)
  event_is e o =
      let i = access_is start nodes e.node e.number o.access o.past whole w o.stands in
      rw (i.0, i.1) refl

  pub does_event : (e : Effect) → Origin whole e → does (event_of whole e) ≡ as_requested whole e ∷ []
  does_event e o =
      let i = access_is start nodes e.node e.number o.access o.past whole w o.stands in
      ap does (event_is e o) ∙ by (is_done_at_once o.access) refl ∙ ap (λ k. record { node = e.node; number = k; cell = e.cell; wrote = e.wrote; place = e.place; value = e.value } ∷ []) (sym i.1)
    where
      by : (b : Bool) → is_done_at_once o.access ≡ b → does (if b then Do e.node (requested e.node o.past) e.wrote e.place e.value else Part e.node (requested e.node o.past) e.cell e.wrote e.place e.value)
          ≡ record { node = e.node; number = requested e.node o.past; cell = e.cell; wrote = e.wrote; place = e.place; value = e.value } ∷ []
      by true h = ap (λ c. record { node = e.node; number = requested e.node o.past; cell = c; wrote = e.wrote; place = e.place; value = e.value } ∷ []) (sym (only_cell o.access e.cell e.wrote e.place h o.has))
      by false h = refl

  -- one number of a request is one number of an issue
  pub same_number : (e f : Effect) → Origin whole e → Origin whole f → e.node ≡ f.node → request_of e.node e.number whole ≡ request_of f.node f.number whole → e.number ≡ f.number
  same_number e f o q n k =
      let i = access_is start nodes e.node e.number o.access o.past whole w o.stands in
      let j = access_is start nodes f.node f.number q.access q.past whole w q.stands in
      let s = same_stand f.node o.past q.past (Issued e.node e.number o.access) (Issued f.node f.number q.access) (request_in o.access) (request_in q.access) whole o.stands q.stands
      (subst (λ x. request_by x (Issued e.node e.number o.access) ≡ Some (request_in o.access)) n (issued_is e.node e.number o.access)) (issued_is f.node f.number q.access)
      (ap (λ x. requested x o.past) (sym n) ∙ sym i.1 ∙ k ∙ j.1) in
      let g = s.1 in cc

  -- two effects that are one event are one
  pub one_event : (e f : Effect) → In e (effects start whole) → In f (effects start whole) → is_part e.node (request_of e.node e.number whole) e.cell e.wrote (as_requested whole f) ≡ true → e ≡ f
  one_event e f i j h =
      let k = part_of e.node (request_of e.node e.number whole) e.cell e.wrote (as_requested whole f) h in
      let o = each-in (Origin whole) (effects start whole) e (origins start whole) i in
      let q = each-in (Origin whole) (effects start whole) f (origins start whole) j in
      let n = same_number e f o q (sym k.0) (sym k.1) in
      same_effect (effects start whole) e f (each_part_once start whole) i j (subst (λ x. is_part x e.number e.cell e.wrote f ≡ true) k.0 (subst (λ x. is_part f.node x e.cell e.wrote f ≡ true) (sym n) (subst (λ x. is_part f.node f.number x e.wrote f ≡ true) k.2 (subst (λ x. is_part f.node f.number f.cell x f ≡ true) k.3 (part_self f)))))
