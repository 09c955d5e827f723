-- Lists that are linked, and how they stay so.
use Rattle.std.proofs.Common.{◌≡◌, ◌≢◌, ℕ, zero, suc, ◌<◌, false, cond, ◌==◌, List, [], ◌∷◌, ◌++◌, length, Option, Some, None, is_none, refl, sym, ap, ◌∙◌, subst, eq-eqb, arith, length-append}
use Rattle.std.proofs.lemmas.Bool.{ne_eqb, cond-true, cond-false}
use Rattle.std.proofs.lemmas.List.{append-nil}
use Rattle.std.specs.Prelude.{slice_get}
use Rattle.std.specs.Option.{option_map, option_or}
use Rattle.msg_pool.specs.declared.slot.Link.{Link}
use Rattle.msg_pool.specs.declared.chain.Chain.{Chain}
use Rattle.msg_pool.specs.Chains.{Links, first_or, last_or, neighbours, IsLinked, IsChain, IsFresh, AreDistinct, chain_with, chain_without, forward, next_of, next_in, previous_of, previous_in}

-- the links after the one of this key is changed, if a key is given
abbrev pub updated : (Link → Link) → Option ℕ → Links → Links
updated change None links key = links key
updated change (Some at) links key = cond (key == at) (option_map change (links key)) (links key)

abbrev pub to_next : Option ℕ → Link → Link
to_next next link = record link { next = next }

abbrev pub to_previous : Option ℕ → Link → Link
to_previous previous link = record link { previous = previous }

-- the key, if one is given, is another than this
abbrev pub IsOff : Option ℕ → ℕ → Type 0
IsOff None key = Unit {0}
IsOff (Some at) key = at ≢ key

-- the key, if one is given, is none of these
abbrev pub IsApart : Option ℕ → List ℕ → Type 0
IsApart None keys = Unit {0}
IsApart (Some at) keys = IsFresh at keys

-- the links of these keys are the same
abbrev pub Agree : Links → Links → List ℕ → Type 0
Agree new old [] = Unit {0}
Agree new old (key ∷ keys) = (new key ≡ old key) × Agree new old keys

pub updated_at : (change : Link → Link) (at : ℕ) (links : Links) → updated change (Some at) links at ≡ option_map change (links at)
updated_at change at links = cond-true (at == at) (option_map change (links at)) (links at) (eq-eqb at at refl)

pub updated_off : (change : Link → Link) (at : Option ℕ) (links : Links) (key : ℕ) → IsOff at key → updated change at links key ≡ links key
updated_off change None links key off = refl
updated_off change (Some at) links key off =
    cond-false (key == at) (option_map change (links key)) (links key) (ne_eqb key at (λ e. off (sym e)))

pub Agree-updated : (change : Link → Link) (at : Option ℕ) (links : Links) (keys : List ℕ) → IsApart at keys → Agree (updated change at links) links keys
Agree-updated change at links [] apart = tt
Agree-updated change None links (key ∷ keys) apart = (refl, Agree-updated change None links keys tt)
Agree-updated change (Some at) links (key ∷ keys) apart =
    (updated_off change (Some at) links key apart.0, Agree-updated change (Some at) links keys apart.1)

pub IsLinked-agree : (new old : Links) (before : Option ℕ) (keys : List ℕ) (behind : Option ℕ) → Agree new old keys → IsLinked old before keys behind → IsLinked new before keys behind
IsLinked-agree new old before [] behind same linked = tt
IsLinked-agree new old before (key ∷ keys) behind same linked =
    (same.0 ∙ linked.0, IsLinked-agree new old (Some key) keys behind same.1 linked.1)

pub first_or-append : (xs ys : List ℕ) (other : Option ℕ) → first_or (xs ++ ys) other ≡ first_or xs (first_or ys other)
first_or-append [] ys other = refl
first_or-append (x ∷ xs) ys other = refl

pub last_or-append : (other : Option ℕ) (xs ys : List ℕ) → last_or other (xs ++ ys) ≡ last_or (last_or other xs) ys
last_or-append other [] ys = refl
last_or-append other (x ∷ xs) ys = last_or-append (Some x) xs ys

pub IsLinked-left : (links : Links) (before : Option ℕ) (xs ys : List ℕ) (behind : Option ℕ) → IsLinked links before (xs ++ ys) behind → IsLinked links before xs (first_or ys behind)
IsLinked-left links before [] ys behind linked = tt
IsLinked-left links before (x ∷ xs) ys behind linked = (
  linked.0 ∙ ap (λ next. Some (neighbours before next)) (first_or-append xs ys behind),
  IsLinked-left links (Some x) xs ys behind linked.1,
)

pub IsLinked-right : (links : Links) (before : Option ℕ) (xs ys : List ℕ) (behind : Option ℕ) → IsLinked links before (xs ++ ys) behind → IsLinked links (last_or before xs) ys behind
IsLinked-right links before [] ys behind linked = linked
IsLinked-right links before (x ∷ xs) ys behind linked = IsLinked-right links (Some x) xs ys behind linked.1

pub IsLinked-append : (links : Links) (before : Option ℕ) (xs ys : List ℕ) (behind : Option ℕ) → IsLinked links before xs (first_or ys behind) → IsLinked links (last_or before xs) ys behind → IsLinked links before (xs ++ ys) behind
IsLinked-append links before [] ys behind left right = right
IsLinked-append links before (x ∷ xs) ys behind left right = (
  left.0 ∙ ap (λ next. Some (neighbours before next)) (sym (first_or-append xs ys behind)),
  IsLinked-append links (Some x) xs ys behind left.1 right,
)

last_off : (x : ℕ) (other : Option ℕ) (keys : List ℕ) → IsOff other x → IsFresh x keys → IsOff (last_or other keys) x
last_off x other [] off fresh = off
last_off x other (key ∷ keys) off fresh = last_off x (Some key) keys (λ e. fresh.0 (sym e)) fresh.1

-- another key stands behind the last one
pub IsLinked-set_last : (links : Links) (before : Option ℕ) (keys : List ℕ) (behind new : Option ℕ) → AreDistinct keys → IsLinked links before keys behind → IsLinked (updated (to_next new) (last_or None keys) links) before keys new
IsLinked-set_last links before [] behind new distinct linked = tt
IsLinked-set_last links before (x ∷ []) behind new distinct linked =
    (updated_at (to_next new) x links ∙ ap (option_map (to_next new)) linked.0, tt)
IsLinked-set_last links before (x ∷ y ∷ rest) behind new distinct linked = (
  updated_off (to_next new) (last_or (Some y) rest) links x (last_off x (Some y) rest (λ e. distinct.0.0 (sym e)) distinct.0.1) ∙ linked.0,
  IsLinked-set_last links (Some x) (y ∷ rest) behind new distinct.1 linked.1,
)

-- another key stands before the first one
pub IsLinked-set_first : (links : Links) (before new : Option ℕ) (keys : List ℕ) (behind : Option ℕ) → AreDistinct keys → IsLinked links before keys behind → IsLinked (updated (to_previous new) (first_or keys None) links) new keys behind
IsLinked-set_first links before new [] behind distinct linked = tt
IsLinked-set_first links before new (x ∷ rest) behind distinct linked = (
  updated_at (to_previous new) x links ∙ ap (option_map (to_previous new)) linked.0,
  IsLinked-agree _ links (Some x) rest behind (Agree-updated (to_previous new) (Some x) links rest distinct.0) linked.1,
)

pub IsFresh-left : (key : ℕ) (xs ys : List ℕ) → IsFresh key (xs ++ ys) → IsFresh key xs
IsFresh-left key [] ys fresh = tt
IsFresh-left key (x ∷ xs) ys fresh = (fresh.0, IsFresh-left key xs ys fresh.1)

pub IsFresh-right : (key : ℕ) (xs ys : List ℕ) → IsFresh key (xs ++ ys) → IsFresh key ys
IsFresh-right key [] ys fresh = fresh
IsFresh-right key (x ∷ xs) ys fresh = IsFresh-right key xs ys fresh.1

pub IsFresh-append : (key : ℕ) (xs ys : List ℕ) → IsFresh key xs → IsFresh key ys → IsFresh key (xs ++ ys)
IsFresh-append key [] ys left right = right
IsFresh-append key (x ∷ xs) ys left right = (left.0, IsFresh-append key xs ys left.1 right)

pub AreDistinct-right : (xs ys : List ℕ) → AreDistinct (xs ++ ys) → AreDistinct ys
AreDistinct-right [] ys distinct = distinct
AreDistinct-right (x ∷ xs) ys distinct = AreDistinct-right xs ys distinct.1

pub AreDistinct-left : (xs ys : List ℕ) → AreDistinct (xs ++ ys) → AreDistinct xs
AreDistinct-left [] ys distinct = tt
AreDistinct-left (x ∷ xs) ys distinct = (IsFresh-left x xs ys distinct.0, AreDistinct-left xs ys distinct.1)

-- a key behind these is none of them
pub fresh_before : (key : ℕ) (xs ys : List ℕ) → AreDistinct (xs ++ key ∷ ys) → IsFresh key xs
fresh_before key [] ys distinct = tt
fresh_before key (x ∷ xs) ys distinct =
    ((λ e. (IsFresh-right x xs (key ∷ ys) distinct.0).0 (sym e)), fresh_before key xs ys distinct.1)

pub AreDistinct-without : (key : ℕ) (xs ys : List ℕ) → AreDistinct (xs ++ key ∷ ys) → AreDistinct (xs ++ ys)
AreDistinct-without key [] ys distinct = distinct.1
AreDistinct-without key (x ∷ xs) ys distinct = (
  IsFresh-append x xs ys (IsFresh-left x xs (key ∷ ys) distinct.0) (IsFresh-right x xs (key ∷ ys) distinct.0).1,
  AreDistinct-without key xs ys distinct.1,
)

pub AreDistinct-with : (key : ℕ) (keys : List ℕ) → AreDistinct keys → IsFresh key keys → AreDistinct (keys ++ key ∷ [])
AreDistinct-with key [] distinct fresh = (tt, tt)
AreDistinct-with key (x ∷ xs) distinct fresh =
    (IsFresh-append x xs (key ∷ []) distinct.0 ((λ e. fresh.0 (sym e)), tt), AreDistinct-with key xs distinct.1 fresh.1)

last_apart : (other : Option ℕ) (xs ys : List ℕ) → AreDistinct (xs ++ ys) → IsApart other ys → IsApart (last_or other xs) ys
last_apart other [] ys distinct apart = apart
last_apart other (x ∷ xs) ys distinct apart = last_apart (Some x) xs ys distinct.1 (IsFresh-right x xs ys distinct.0)

first_apart : (xs ys : List ℕ) → AreDistinct (xs ++ ys) → IsApart (first_or ys None) xs
first_apart xs [] distinct = tt
first_apart xs (y ∷ ys) distinct = fresh_before y xs ys distinct

last_some : (x : ℕ) (xs : List ℕ) → is_none (last_or (Some x) xs) ≡ false
last_some x [] = refl
last_some x (y ∷ ys) = last_some y ys

-- the links after a key with these neighbours is taken out
abbrev pub bypassed : Link → Links → Links
bypassed link links = updated (to_previous link.previous) link.next (updated (to_next link.next) link.previous links)

linked_without : (links : Links) (xs : List ℕ) (key : ℕ) (ys : List ℕ) → AreDistinct (xs ++ key ∷ ys) → IsLinked links None (xs ++ key ∷ ys) None → IsLinked (bypassed (neighbours (last_or None xs) (first_or ys None)) links) None (xs ++ ys) None
linked_without links xs key ys distinct linked =
    let last = last_or None xs in
    let first = first_or ys None in
    let once : Links = updated (to_next first) last links in
    let twice : Links = updated (to_previous last) first once in
    let apart = AreDistinct-without key xs ys distinct in
    let left = IsLinked-set_last links None xs (Some key) first (AreDistinct-left xs ys apart) (IsLinked-left links None xs (key ∷ ys) None linked) in
    let behind = (IsLinked-right links None xs (key ∷ ys) None linked).1 in
    let right = IsLinked-agree once links (Some key) ys None (Agree-updated (to_next first) last links ys (last_apart None xs ys apart tt)) behind in
    IsLinked-append twice None xs ys None
    (IsLinked-agree twice once None xs first (Agree-updated (to_previous last) first once xs (first_apart xs ys apart)) left)
    (IsLinked-set_first once (Some key) last ys None (AreDistinct-right xs ys apart) right)

head_without : (head : Option ℕ) (xs : List ℕ) (key : ℕ) (ys : List ℕ) → head ≡ first_or (xs ++ key ∷ ys) None → cond (is_none (last_or None xs)) (first_or ys None) head ≡ first_or (xs ++ ys) None
head_without head [] key ys is = refl
head_without head (x ∷ xs) key ys is = cond-false _ _ head (last_some x xs) ∙ is

tail_without : (tail : Option ℕ) (xs : List ℕ) (key : ℕ) (ys : List ℕ) → tail ≡ last_or None (xs ++ key ∷ ys) → cond (is_none (first_or ys None)) (last_or None xs) tail ≡ last_or None (xs ++ ys)
tail_without tail xs key [] is = ap (last_or None) (sym (append-nil xs))
tail_without tail xs key (y ∷ ys) is =
    is ∙ last_or-append None xs (key ∷ y ∷ ys) ∙ sym (last_or-append None xs (y ∷ ys))

-- a key that the chain has is taken out
pub IsChain-without : (links : Links) (chain : Chain) (xs : List ℕ) (key : ℕ) (ys : List ℕ) (link : Link) → AreDistinct (xs ++ key ∷ ys) → IsChain links chain (xs ++ key ∷ ys) → links key ≡ Some link → IsChain (bypassed link links) (chain_without chain link) (xs ++ ys)
IsChain-without links chain xs key ys link distinct was is =
    let here : links key ≡ Some (neighbours (last_or None xs) (first_or ys None)) =
    (IsLinked-right links None xs (key ∷ ys) None was.linked).0 in
    let same : neighbours (last_or None xs) (first_or ys None) ≡ link = cc in
    let P : Link → Type 0 = λ found. IsChain (bypassed found links) (chain_without chain found) (xs ++ ys) in
    subst P same
    (record {
      linked = linked_without links xs key ys distinct was.linked;
      head = head_without chain.head xs key ys was.head;
      tail = tail_without chain.tail xs key ys was.tail;
      count = omega (arith, was.count, length-append xs (key ∷ ys), length-append xs ys);
    })

head_with : (head : Option ℕ) (keys : List ℕ) (key : ℕ) → head ≡ first_or keys None → option_or head (Some key) ≡ first_or (keys ++ key ∷ []) None
head_with head [] key is = ap (λ first. option_or first (Some key)) is
head_with head (x ∷ xs) key is = ap (λ first. option_or first (Some key)) is

linked_with : (links : Links) (keys : List ℕ) (key : ℕ) → AreDistinct keys → IsFresh key keys → IsLinked links None keys None → links key ≡ Some (neighbours (last_or None keys) None) → IsLinked (updated (to_next (Some key)) (last_or None keys) links) None (keys ++ key ∷ []) None
linked_with links keys key distinct fresh linked is =
    let last = last_or None keys in
    let new : Links = updated (to_next (Some key)) last links in
    IsLinked-append new None keys (key ∷ []) None
    (IsLinked-set_last links None keys None (Some key) distinct linked)
    (updated_off (to_next (Some key)) last links key (last_off key None keys tt fresh) ∙ is, tt)

-- a key is put behind the last one
pub IsChain-with : (links : Links) (chain : Chain) (keys : List ℕ) (key : ℕ) → AreDistinct keys → IsFresh key keys → IsChain links chain keys → links key ≡ Some (neighbours chain.tail None) → IsChain (updated (to_next (Some key)) chain.tail links) (chain_with chain key) (keys ++ key ∷ [])
IsChain-with links chain keys key distinct fresh was is =
    let P : Option ℕ → Type 0 = λ tail.
    links key ≡ Some (neighbours tail None) → IsLinked (updated (to_next (Some key)) tail links) None (keys ++ key ∷ []) None in
    record {
      linked = subst P (sym was.tail) (linked_with links keys key distinct fresh was.linked) is;
      head = head_with chain.head keys key was.head;
      tail = sym (last_or-append None keys (key ∷ []));
      count = omega (arith, was.count, length-append keys (key ∷ []));
    }

pub IsChain-agree : (new old : Links) (chain : Chain) (keys : List ℕ) → Agree new old keys → IsChain old chain keys → IsChain new chain keys
IsChain-agree new old chain keys same was =
    record {
      linked = IsLinked-agree new old None keys None same was.linked;
      head = was.head;
      tail = was.tail;
      count = was.count;
    }

-- the walk from the head gives the list
pub forward_is : (links : Links) (before : Option ℕ) (keys : List ℕ) → IsLinked links before keys None → forward links (first_or keys None) (length keys) ≡ keys
forward_is links before [] linked = refl
forward_is links before (key ∷ keys) linked =
    ap (λ at. key ∷ forward links at (length keys)) (ap next_of linked.0) ∙ ap (λ rest. key ∷ rest) (forward_is links (Some key) keys linked.1)

first_is : (keys : List ℕ) → first_or keys None ≡ slice_get keys 0
first_is [] = refl
first_is (key ∷ keys) = refl

-- behind each key of the list stands the next one
pub next_at : (links : Links) (before : Option ℕ) (keys : List ℕ) → IsLinked links before keys None → (i : ℕ) → next_in links (slice_get keys i) ≡ slice_get keys (suc i)
next_at links before [] linked i = refl
next_at links before (key ∷ keys) linked zero = ap next_of linked.0 ∙ first_is keys
next_at links before (key ∷ keys) linked (suc i) = next_at links (Some key) keys linked.1 i

-- before each key of the list but the first stands the one before it
pub previous_at : (links : Links) (before : Option ℕ) (keys : List ℕ) (behind : Option ℕ) → IsLinked links before keys behind → (i : ℕ) → suc i < length keys → previous_in links (slice_get keys (suc i)) ≡ slice_get keys i
previous_at links before [] behind linked i within = absurd (omega arith)
previous_at links before (key ∷ []) behind linked i within = absurd (omega arith)
previous_at links before (key ∷ other ∷ rest) behind linked zero within = ap previous_of linked.1.0
previous_at links before (key ∷ other ∷ rest) behind linked (suc i) within =
    previous_at links (Some key) (other ∷ rest) behind linked.1 i (omega arith)

pub last_is : (other : Option ℕ) (key : ℕ) (keys : List ℕ) → last_or other (key ∷ keys) ≡ slice_get (key ∷ keys) (length keys)
last_is other key [] = refl
last_is other key (next ∷ rest) = last_is (Some key) next rest
