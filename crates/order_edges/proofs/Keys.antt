-- The last item with a key among the first turns, and the edges by keys.
use Rattle.std.proofs.Common.{◌≡◌, ◌⊎◌, ℕ, zero, suc, ◌+◌, ◌-◌, ◌<◌, ◌≤◌, List, [], ◌∷◌, length, Option, Some, None, Bool, true, false, ◌&&◌, refl, sym, ap, subst, ◌∙◌, arith, inl, inr, ⊎_elim}
use Rattle.std.specs.Prelude.{if◌then◌else◌}
use Rattle.std.specs.Ordering.{is_eq}
use Rattle.std.proofs.lemmas.Bool.{and_parts, and_from, cases_lt}
use Rattle.sc_meaning.specs.declared.event.SourceEvent.{SourceEvent}
use Rattle.least_order.specs.declared.edge.Edge.{Edge}
use Rattle.least_order.specs.Least.{leads}
use Rattle.order_edges.specs.declared.keyed.Pairing.{Pairing}
use Rattle.order_edges.specs.declared.keyed.Pairing.TheVariants.{LastWrite, NextWrite}
use Rattle.order_edges.specs.declared.keyed.Mark.{Mark}
use Rattle.order_edges.specs.Lines.{link, edges_upto}
use Rattle.order_edges.specs.Keyed.{Key, key_cmp, place_key, a_mark, marked, is_one_at, is_backwards, at_turn, link_to, link_if, mark_at, last_one, keyed_at, keyed_edges}
use Rattle.order_edges.proofs.Numbers.{if_true, if_false}
use Rattle.order_edges.proofs.Leading.{leads_upto, upto_leads, link_is, link_leads}
use Rattle.order_edges.proofs.Marks.{same_key, key_self, last_mark, next_mark}

-- a mark to which others are linked
pub record One (o : Option Mark) (key : Key) : Type 0 where
  pub mark : Mark
  pub is : o ≡ Some mark
  pub one : mark.is_one ≡ true
  pub key_is : mark.key ≡ key

one_is : (o : Option Mark) (key : Key) → is_one_at o key ≡ true → One o key
one_is None key h = absurd cc
one_is (Some m) key h = let p = and_parts m.is_one (is_eq (key_cmp m.key key)) h in record { mark = m; is = refl; one = p.0; key_is = same_key m.key key p.1 }

is_one : (o : Option Mark) (key : Key) → One o key → is_one_at o key ≡ true
is_one o key u = rw u.is (and_from _ _ u.one (subst (λ k. is_eq (key_cmp u.mark.key k) ≡ true) u.key_is (key_self u.mark.key)))

-- a mark that is linked to others
pub record Linked (o : Option Mark) (key : Key) : Type 0 where
  pub mark : Mark
  pub is : o ≡ Some mark
  pub has : mark.has_one ≡ true
  pub key_is : mark.key ≡ key

-- a write is linked to the last write before it, and is one for what follows
pub linked_write : (x : SourceEvent) (key : Key) → One (marked LastWrite x) key → Linked (marked LastWrite x) key
linked_write x key o =
    let m = last_mark x o.mark o.is in
    record {
      mark = a_mark (place_key m.cell.effect.place) m.cell.effect.wrote true;
      is = m.cell.last;
      has = refl;
      key_is = sym m.key_is ∙ o.key_is;
    }

pub write_again : (x : SourceEvent) (key : Key) → One (marked NextWrite x) key → One (marked LastWrite x) key
write_again x key o =
    let m = next_mark x o.mark o.is in
    record {
      mark = a_mark (place_key m.cell.effect.place) m.cell.effect.wrote true;
      is = m.cell.last;
      one = sym m.one_is ∙ o.one;
      key_is = sym m.key_is ∙ o.key_is;
    }

module _ (pairing : Pairing) (items : List SourceEvent) where
  abbrev Turn : ℕ → ℕ
  Turn t = at_turn pairing (length items) t

  -- a turn before these that has the key
  pub record Earlier (turns a : ℕ) (key : Key) : Type 0 where
    pub turn : ℕ
    pub before : turn < turns
    pub at : Turn turn ≡ a
    pub one : One (mark_at pairing items turn) key

  pub last_is : (t a : ℕ) (key : Key) → last_one pairing items t key ≡ Some a → Earlier t a key
  last_is zero a key h = absurd cc
  last_is (suc t) a key h = by (last_is t a key) (is_one_at (mark_at pairing items t) key) refl h
    where
      by : (last_one pairing items t key ≡ Some a → Earlier t a key) → (b : Bool) → is_one_at (mark_at pairing items t) key ≡ b → (if b then Some (Turn t) else last_one pairing items t key) ≡ Some a → Earlier (suc t) a key
      by old true e g = record { turn = t; before = omega arith; at = cc; one = one_is (mark_at pairing items t) key e }
      by old false e g = let r = old g in record { turn = r.turn; before = (let w = r.before in omega (arith, w)); at = r.at; one = r.one }

  pub last_there : (t s : ℕ) (key : Key) → s < t → One (mark_at pairing items s) key
      → (u : ℕ) × (s ≤ u) × (u < t) × One (mark_at pairing items u) key × (last_one pairing items t key ≡ Some (Turn u))
  last_there zero s key w o = absurd (omega (arith, w))
  last_there (suc t) s key w o = by (λ v. last_there t s key v o) (is_one_at (mark_at pairing items t) key) refl
    where
      by : (s < t → (u : ℕ) × (s ≤ u) × (u < t) × One (mark_at pairing items u) key × (last_one pairing items t key ≡ Some (Turn u))) → (b : Bool) → is_one_at (mark_at pairing items t) key ≡ b
          → (u : ℕ) × (s ≤ u) × (u < suc t) × One (mark_at pairing items u) key × ((if b then Some (Turn t) else last_one pairing items t key) ≡ Some (Turn u))
      by old true e = (t, omega (arith, w), omega arith, one_is (mark_at pairing items t) key e, refl)
      by old false e = ⊎_elim
          (λ v. let r = old v in (r.0, r.1, (let x = r.2 in omega (arith, x)), r.3, r.4))
          (λ v. let q : s ≡ t = omega (arith, w, v) in let z = is_one (mark_at pairing items t) key (subst (λ u. One (mark_at pairing items u) key) q o) in absurd cc)
          (cases_lt s t)

  -- ---- edges

  abbrev Ends : (one at a b : ℕ) → Type 0
  Ends one at a b = ((is_backwards pairing ≡ true) × (at ≡ a) × (one ≡ b)) ⊎ ((is_backwards pairing ≡ false) × (one ≡ a) × (at ≡ b))

  -- an edge by keys leads from the one to the other
  pub record Pair (a b : ℕ) : Type 0 where
    pub turn : ℕ
    pub within : turn < length items
    pub key : Key
    pub one : ℕ
    pub linked : Linked (mark_at pairing items turn) key
    pub earlier : Earlier turn one key
    pub ends : Ends one (Turn turn) a b

  some_same : (x y : ℕ) → Some x ≡ Some y → x ≡ y
  some_same x y h = cc

  ends_by : (o : Option ℕ) (at a b : ℕ) → leads (link_to pairing o at) a b ≡ true → (one : ℕ) × (o ≡ Some one) × Ends one at a b
  ends_by o at a b h = by (is_backwards pairing) refl h
    where
      by : (c : Bool) → is_backwards pairing ≡ c → leads (if c then link (Some at) o else link o (Some at)) a b ≡ true → (one : ℕ) × (o ≡ Some one) × Ends one at a b
      by true e g = let r = link_is (Some at) o a b g in (b, r.1, inl (e, some_same at a r.0, refl))
      by false e g = let r = link_is o (Some at) a b g in (a, r.0, inr (e, refl, some_same at b r.1))

  pub pair_is : (a b : ℕ) → leads (keyed_edges pairing items (length items)) a b ≡ true → Pair a b
  pair_is a b h = let r = leads_upto (keyed_at pairing items) (length items) a b h in by r.0 r.1 (mark_at pairing items r.0) refl r.2
    where
      has : (t : ℕ) → t < length items → (m : Mark) → mark_at pairing items t ≡ Some m → (c : Bool) → m.has_one ≡ c
          → leads (if c then link_to pairing (last_one pairing items t m.key) (Turn t) else []) a b ≡ true → Pair a b
      has t w m e false f g = absurd cc
      has t w m e true f g =
          let r = ends_by (last_one pairing items t m.key) (Turn t) a b g in
          record {
            turn = t;
            within = w;
            key = m.key;
            one = r.0;
            linked = record { mark = m; is = e; has = f; key_is = refl };
            earlier = last_is t r.0 m.key r.1;
            ends = r.2;
          }

      by : (t : ℕ) → t < length items → (o : Option Mark) → mark_at pairing items t ≡ o
          → leads (link_if pairing o (last_one pairing items t) (Turn t)) a b ≡ true → Pair a b
      by t w None e g = absurd cc
      by t w (Some m) e g = has t w m e m.has_one refl g

  pub is_pair : (t one : ℕ) (key : Key) → t < length items → Linked (mark_at pairing items t) key → last_one pairing items t key ≡ Some one
      → (a b : ℕ) → Ends one (Turn t) a b → leads (keyed_edges pairing items (length items)) a b ≡ true
  is_pair t one key w l e a b ends =
      upto_leads (keyed_at pairing items) (length items) t a b w
      (ap (λ o. leads (link_if pairing o (last_one pairing items t) (Turn t)) a b) l.is
      ∙ ap (λ c. leads (if c then link_to pairing (last_one pairing items t l.mark.key) (Turn t) else []) a b) l.has
      ∙ ap (λ k. leads (link_to pairing (last_one pairing items t k) (Turn t)) a b) l.key_is
      ∙ ap (λ o. leads (link_to pairing o (Turn t)) a b) e
      ∙ by ends)
    where
      by : Ends one (Turn t) a b → leads (link_to pairing (Some one) (Turn t)) a b ≡ true
      by (inl q) =
          ap (λ c. leads (if c then link (Some (Turn t)) (Some one) else link (Some one) (Some (Turn t))) a b) q.0
          ∙ link_leads (Some (Turn t)) (Some one) a b (ap Some q.1) (ap Some q.2)
      by (inr q) =
          ap (λ c. leads (if c then link (Some (Turn t)) (Some one) else link (Some one) (Some (Turn t))) a b) q.0
          ∙ link_leads (Some one) (Some (Turn t)) a b (ap Some q.1) (ap Some q.2)
