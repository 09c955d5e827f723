-- The chains of all groups together: how they stay linked when a key is put behind, or taken out.
use Rattle.std.proofs.Common.{◌≡◌, ◌≢◌, ℕ, ◌<◌, cond, ◌==◌, List, [], ◌∷◌, ◌++◌, length, Option, Some, None, refl, sym, ap, ◌∙◌, subst, ⊎_elim, eqb-true, eq-eqb, arith, length-append}
use Rattle.std.proofs.lemmas.Bool.{ne_eqb, cases_eq, cases_lt, cond-true, cond-false, cond_both}
use Rattle.std.proofs.lemmas.List.{append-nil, get_or-set_same, get_or-set_other, get_or_past}
use Rattle.std.proofs.lemmas.List.Elements.{filter-append}
use Rattle.std.specs.Prelude.{slice_set}
use Rattle.msg_pool.specs.declared.slot.Link.{Link}
use Rattle.msg_pool.specs.declared.chain.Chain.{Chain}
use Rattle.msg_pool.specs.Chains.{Links, first_or, last_or, neighbours, IsLinked, IsChain, IsFresh, AreDistinct, chain_with, chain_without, chain_at, empty_chain, members, AreChains}
use Rattle.msg_pool.proofs.Segments.{updated, to_next, to_previous, IsApart, Agree, Agree-updated, bypassed, IsChain-with, IsChain-without, IsChain-agree, IsLinked-right}

-- the groups of these keys are the same
abbrev pub SameGroups : (ℕ → ℕ) → (ℕ → ℕ) → List ℕ → Type 0
SameGroups new old [] = Unit {0}
SameGroups new old (key ∷ keys) = (new key ≡ old key) × SameGroups new old keys

pub some_same : {a b : Link} → Some a ≡ Some b → a ≡ b
some_same e = cc

-- the key, if one is given, belongs to the group
abbrev pub IsIn : (ℕ → ℕ) → ℕ → Option ℕ → Type 0
IsIn group_of group None = Unit {0}
IsIn group_of group (Some key) = group_of key ≡ group

pub Agree-all : (new old : Links) → ((key : ℕ) → new key ≡ old key) → (keys : List ℕ) → Agree new old keys
Agree-all new old same [] = tt
Agree-all new old same (key ∷ keys) = (same key, Agree-all new old same keys)

pub Agree-fresh : (new old : Links) (key : ℕ) → ((other : ℕ) → other ≢ key → new other ≡ old other) → (keys : List ℕ) → IsFresh key keys → Agree new old keys
Agree-fresh new old key same [] fresh = tt
Agree-fresh new old key same (other ∷ keys) fresh =
    (same other (λ e. fresh.0 (sym e)), Agree-fresh new old key same keys fresh.1)

pub SameGroups-all : (new old : ℕ → ℕ) → ((key : ℕ) → new key ≡ old key) → (keys : List ℕ) → SameGroups new old keys
SameGroups-all new old same [] = tt
SameGroups-all new old same (key ∷ keys) = (same key, SameGroups-all new old same keys)

pub SameGroups-fresh : (new old : ℕ → ℕ) (key : ℕ) → ((other : ℕ) → other ≢ key → new other ≡ old other) → (keys : List ℕ) → IsFresh key keys → SameGroups new old keys
SameGroups-fresh new old key same [] fresh = tt
SameGroups-fresh new old key same (other ∷ keys) fresh =
    (same other (λ e. fresh.0 (sym e)), SameGroups-fresh new old key same keys fresh.1)

Agree-trans : (a b c : Links) (keys : List ℕ) → Agree a b keys → Agree b c keys → Agree a c keys
Agree-trans a b c [] first second = tt
Agree-trans a b c (key ∷ keys) first second = (first.0 ∙ second.0, Agree-trans a b c keys first.1 second.1)

Agree-bypassed : (link : Link) (links : Links) (keys : List ℕ) → IsApart link.next keys → IsApart link.previous keys → Agree (bypassed link links) links keys
Agree-bypassed link links keys next previous =
    let once : Links = updated (to_next link.next) link.previous links in
    Agree-trans (bypassed link links) once links keys
    (Agree-updated (to_previous link.previous) link.next once keys next)
    (Agree-updated (to_next link.next) link.previous links keys previous)

pub Agree-members : (new old : Links) (group_of : ℕ → ℕ) (group : ℕ) (keys : List ℕ) → Agree new old keys → Agree new old (members group_of group keys)
Agree-members new old group_of group [] same = tt
Agree-members new old group_of group (key ∷ keys) same =
    let rest = Agree-members new old group_of group keys same.1 in
    cond_both (group_of key == group) (key ∷ members group_of group keys) (members group_of group keys)
    (λ found. Agree new old found) (λ e. (same.0, rest)) (λ e. rest)

pub IsFresh-members : (x : ℕ) (group_of : ℕ → ℕ) (group : ℕ) (keys : List ℕ) → IsFresh x keys → IsFresh x (members group_of group keys)
IsFresh-members x group_of group [] fresh = tt
IsFresh-members x group_of group (key ∷ keys) fresh =
    let rest = IsFresh-members x group_of group keys fresh.1 in
    cond_both (group_of key == group) (key ∷ members group_of group keys) (members group_of group keys)
    (λ found. IsFresh x found) (λ e. (fresh.0, rest)) (λ e. rest)

pub AreDistinct-members : (group_of : ℕ → ℕ) (group : ℕ) (keys : List ℕ) → AreDistinct keys → AreDistinct (members group_of group keys)
AreDistinct-members group_of group [] distinct = tt
AreDistinct-members group_of group (key ∷ keys) distinct =
    let rest = AreDistinct-members group_of group keys distinct.1 in
    let fresh = IsFresh-members key group_of group keys distinct.0 in
    cond_both (group_of key == group) (key ∷ members group_of group keys) (members group_of group keys)
    (λ found. AreDistinct found) (λ e. (fresh, rest)) (λ e. rest)

pub members-same : (new old : ℕ → ℕ) (group : ℕ) (keys : List ℕ) → SameGroups new old keys → members new group keys ≡ members old group keys
members-same new old group [] same = refl
members-same new old group (key ∷ keys) same =
    ap (λ rest. cond (new key == group) (key ∷ rest) rest) (members-same new old group keys same.1)
    ∙ ap (λ mine. cond (mine == group) (key ∷ members old group keys) (members old group keys)) same.0

pub members-append : (group_of : ℕ → ℕ) (group : ℕ) (xs ys : List ℕ) → members group_of group (xs ++ ys) ≡ members group_of group xs ++ members group_of group ys
members-append group_of group xs ys = filter-append (λ key. group_of key == group) xs ys

members_mine : (group_of : ℕ → ℕ) (key : ℕ) (keys : List ℕ) → members group_of (group_of key) (key ∷ keys) ≡ key ∷ members group_of (group_of key) keys
members_mine group_of key keys = cond-true (group_of key == group_of key) _ _ (eq-eqb (group_of key) (group_of key) refl)

members_other : (group_of : ℕ → ℕ) (group key : ℕ) (keys : List ℕ) → group ≢ group_of key → members group_of group (key ∷ keys) ≡ members group_of group keys
members_other group_of group key keys differs = cond-false (group_of key == group) _ _ (ne_eqb (group_of key) group (λ e. differs (sym e)))

pub members_split : (group_of : ℕ → ℕ) (xs : List ℕ) (key : ℕ) (ys : List ℕ) → members group_of (group_of key) (xs ++ key ∷ ys) ≡ members group_of (group_of key) xs ++ key ∷ members group_of (group_of key) ys
members_split group_of xs key ys =
    members-append group_of (group_of key) xs (key ∷ ys) ∙ ap (λ found. members group_of (group_of key) xs ++ found) (members_mine group_of key ys)

last_in : (group_of : ℕ → ℕ) (group : ℕ) (other : Option ℕ) (keys : List ℕ) → IsIn group_of group other → IsIn group_of group (last_or other (members group_of group keys))
last_in group_of group other [] is = is
last_in group_of group other (key ∷ keys) is =
    cond_both (group_of key == group) (key ∷ members group_of group keys) (members group_of group keys)
    (λ found. IsIn group_of group (last_or other found))
    (λ e. last_in group_of group (Some key) keys (eqb-true (group_of key) group e))
    (λ e. last_in group_of group other keys is)

first_in : (group_of : ℕ → ℕ) (group : ℕ) (keys : List ℕ) → IsIn group_of group (first_or (members group_of group keys) None)
first_in group_of group [] = tt
first_in group_of group (key ∷ keys) =
    cond_both (group_of key == group) (key ∷ members group_of group keys) (members group_of group keys)
    (λ found. IsIn group_of group (first_or found None))
    (λ e. eqb-true (group_of key) group e)
    (λ e. first_in group_of group keys)

fresh_in : (group_of : ℕ → ℕ) (mine group at : ℕ) (keys : List ℕ) → group_of at ≡ mine → group ≢ mine → IsFresh at (members group_of group keys)
fresh_in group_of mine group at [] is differs = tt
fresh_in group_of mine group at (key ∷ keys) is differs =
    let rest = fresh_in group_of mine group at keys is differs in
    cond_both (group_of key == group) (key ∷ members group_of group keys) (members group_of group keys)
    (λ found. IsFresh at found)
    (λ e. ((λ same. differs (sym (eqb-true (group_of key) group e) ∙ ap group_of (sym same) ∙ is)), rest))
    (λ e. rest)

-- a key of one group is on no other group's list
apart_in : (group_of : ℕ → ℕ) (mine group : ℕ) (at : Option ℕ) (keys : List ℕ) → IsIn group_of mine at → group ≢ mine → IsApart at (members group_of group keys)
apart_in group_of mine group None keys is differs = tt
apart_in group_of mine group (Some at) keys is differs = fresh_in group_of mine group at keys is differs

IsChain-at : (links : Links) (chain other : Chain) (keys others : List ℕ) → other ≡ chain → others ≡ keys → IsChain links chain keys → IsChain links other others
IsChain-at links chain other keys others same_chain same_keys is =
    let P : Chain → Type 0 = λ found. IsChain links found others in
    subst P (sym same_chain) (let Q : List ℕ → Type 0 = λ found. IsChain links chain found in subst Q (sym same_keys) is)

pub AreChains-agree : (new old : Links) (groups group_of : ℕ → ℕ) (chains : List Chain) (keys : List ℕ) → Agree new old keys → SameGroups groups group_of keys → AreChains old group_of chains keys → AreChains new groups chains keys
AreChains-agree new old groups group_of chains keys same same_groups was group =
    IsChain-at new (chain_at chains group) (chain_at chains group) (members group_of group keys) (members groups group keys) refl
    (members-same groups group_of group keys same_groups)
    (IsChain-agree new old (chain_at chains group) (members group_of group keys) (Agree-members new old group_of group keys same) (was group))

-- a key is put behind the last one of its group: that group's chain
with_mine : (links : Links) (group_of : ℕ → ℕ) (chains : List Chain) (keys : List ℕ) (key : ℕ) → AreDistinct keys → IsFresh key keys → AreChains links group_of chains keys → group_of key < length chains → links key ≡ Some (neighbours (chain_at chains (group_of key)).tail None) → IsChain (updated (to_next (Some key)) (chain_at chains (group_of key)).tail links) (chain_at (slice_set chains (group_of key) (chain_with (chain_at chains (group_of key)) key)) (group_of key)) (members group_of (group_of key) (keys ++ key ∷ []))
with_mine links group_of chains keys key distinct fresh was within is =
    let mine = group_of key in
    let chain = chain_at chains mine in
    IsChain-at (updated (to_next (Some key)) chain.tail links) (chain_with chain key) _ (members group_of mine keys ++ key ∷ []) _
    (get_or-set_same chains mine (chain_with chain key) empty_chain within)
    (members-append group_of mine keys (key ∷ []) ∙ ap (λ found. members group_of mine keys ++ found) (members_mine group_of key []))
    (IsChain-with links chain (members group_of mine keys) key (AreDistinct-members group_of mine keys distinct)
    (IsFresh-members key group_of mine keys fresh) (was mine) is)

-- and every other chain
with_other : (links : Links) (group_of : ℕ → ℕ) (chains : List Chain) (keys : List ℕ) (key : ℕ) (group : ℕ) → group ≢ group_of key → AreChains links group_of chains keys → IsChain (updated (to_next (Some key)) (chain_at chains (group_of key)).tail links) (chain_at (slice_set chains (group_of key) (chain_with (chain_at chains (group_of key)) key)) group) (members group_of group (keys ++ key ∷ []))
with_other links group_of chains keys key group differs was =
    let mine = group_of key in
    let chain = chain_at chains mine in
    let tail_in : IsIn group_of mine chain.tail =
    let P : Option ℕ → Type 0 = λ at. IsIn group_of mine at in
    subst P (sym (was mine).tail) (last_in group_of mine None keys tt) in
    IsChain-at (updated (to_next (Some key)) chain.tail links) (chain_at chains group) _ (members group_of group keys) _
    (get_or-set_other chains mine group (chain_with chain key) empty_chain differs)
    (members-append group_of group keys (key ∷ []) ∙ ap (λ found. members group_of group keys ++ found) (members_other group_of group key [] differs) ∙ append-nil (members group_of group keys))
    (IsChain-agree _ links (chain_at chains group) (members group_of group keys)
    (Agree-updated (to_next (Some key)) chain.tail links (members group_of group keys) (apart_in group_of mine group chain.tail keys tail_in differs))
    (was group))

pub AreChains-with : (links : Links) (group_of : ℕ → ℕ) (chains : List Chain) (keys : List ℕ) (key : ℕ) → AreDistinct keys → IsFresh key keys → AreChains links group_of chains keys → group_of key < length chains → links key ≡ Some (neighbours (chain_at chains (group_of key)).tail None) → AreChains (updated (to_next (Some key)) (chain_at chains (group_of key)).tail links) group_of (slice_set chains (group_of key) (chain_with (chain_at chains (group_of key)) key)) (keys ++ key ∷ [])
AreChains-with links group_of chains keys key distinct fresh was within is group =
    let P : ℕ → Type 0 = λ found. IsChain (updated (to_next (Some key)) (chain_at chains (group_of key)).tail links) (chain_at (slice_set chains (group_of key) (chain_with (chain_at chains (group_of key)) key)) found) (members group_of found (keys ++ key ∷ [])) in
    ⊎_elim {C = P group}
    (λ same. subst P (sym same) (with_mine links group_of chains keys key distinct fresh was within is))
    (λ differs. with_other links group_of chains keys key group differs was)
    (cases_eq group (group_of key))

-- a key's group has a chain
pub group_within : (links : Links) (group_of : ℕ → ℕ) (chains : List Chain) (xs : List ℕ) (key : ℕ) (ys : List ℕ) → AreChains links group_of chains (xs ++ key ∷ ys) → group_of key < length chains
group_within links group_of chains xs key ys was =
    let mine = group_of key in
    let split : members group_of mine (xs ++ key ∷ ys) ≡ members group_of mine xs ++ key ∷ members group_of mine ys =
    members_split group_of xs key ys in
    let counted : (chain_at chains mine).count ≡ length (members group_of mine xs ++ key ∷ members group_of mine ys) =
    (was mine).count ∙ ap length split in
    ⊎_elim {C = mine < length chains}
    (λ within. within)
    (λ past.
    let none : (chain_at chains mine).count ≡ 0 = ap (λ (chain : Chain). chain.count) (get_or_past chains mine empty_chain past) in
    absurd (omega (arith, none, counted, length-append (members group_of mine xs) (key ∷ members group_of mine ys))))
    (cases_lt mine (length chains))

-- where a key's chain leads to on both sides of it
pub neighbours_of : (links : Links) (group_of : ℕ → ℕ) (chains : List Chain) (xs : List ℕ) (key : ℕ) (ys : List ℕ) → AreChains links group_of chains (xs ++ key ∷ ys) → links key ≡ Some (neighbours (last_or None (members group_of (group_of key) xs)) (first_or (members group_of (group_of key) ys) None))
neighbours_of links group_of chains xs key ys was =
    let mine = group_of key in
    let split : members group_of mine (xs ++ key ∷ ys) ≡ members group_of mine xs ++ key ∷ members group_of mine ys =
    members_split group_of xs key ys in
    let P : List ℕ → Type 0 = λ found. IsLinked links None found None in
    (IsLinked-right links None (members group_of mine xs) (key ∷ members group_of mine ys) None (subst P split (was mine).linked)).0

-- a key is taken out: its group's chain
without_mine : (links : Links) (group_of : ℕ → ℕ) (chains : List Chain) (xs : List ℕ) (key : ℕ) (ys : List ℕ) (link : Link) → AreDistinct (xs ++ key ∷ ys) → AreChains links group_of chains (xs ++ key ∷ ys) → links key ≡ Some link → IsChain (bypassed link links) (chain_at (slice_set chains (group_of key) (chain_without (chain_at chains (group_of key)) link)) (group_of key)) (members group_of (group_of key) (xs ++ ys))
without_mine links group_of chains xs key ys link distinct was is =
    let mine = group_of key in
    let chain = chain_at chains mine in
    let split : members group_of mine (xs ++ key ∷ ys) ≡ members group_of mine xs ++ key ∷ members group_of mine ys =
    members_split group_of xs key ys in
    let P : List ℕ → Type 0 = λ found. AreDistinct found in
    let Q : List ℕ → Type 0 = λ found. IsChain links chain found in
    IsChain-at (bypassed link links) (chain_without chain link) _ (members group_of mine xs ++ members group_of mine ys) _
    (get_or-set_same chains mine (chain_without chain link) empty_chain (group_within links group_of chains xs key ys was))
    (members-append group_of mine xs ys)
    (IsChain-without links chain (members group_of mine xs) key (members group_of mine ys) link
    (subst P split (AreDistinct-members group_of mine (xs ++ key ∷ ys) distinct)) (subst Q split (was mine)) is)

-- and every other chain
without_other : (links : Links) (group_of : ℕ → ℕ) (chains : List Chain) (xs : List ℕ) (key : ℕ) (ys : List ℕ) (link : Link) (group : ℕ) → group ≢ group_of key → AreChains links group_of chains (xs ++ key ∷ ys) → links key ≡ Some link → IsChain (bypassed link links) (chain_at (slice_set chains (group_of key) (chain_without (chain_at chains (group_of key)) link)) group) (members group_of group (xs ++ ys))
without_other links group_of chains xs key ys link group differs was is =
    let mine = group_of key in
    let found : neighbours (last_or None (members group_of mine xs)) (first_or (members group_of mine ys) None) ≡ link =
    some_same (sym (neighbours_of links group_of chains xs key ys was) ∙ is) in
    let keys : members group_of group (xs ++ ys) ≡ members group_of group (xs ++ key ∷ ys) =
    members-append group_of group xs ys ∙ ap (λ rest. members group_of group xs ++ rest) (sym (members_other group_of group key ys differs)) ∙ sym (members-append group_of group xs (key ∷ ys)) in
    let P : Option ℕ → Type 0 = λ at. IsApart at (members group_of group (xs ++ key ∷ ys)) in
    let next : IsApart link.next (members group_of group (xs ++ key ∷ ys)) =
    subst P (ap (λ (one : Link). one.next) found) (apart_in group_of mine group _ (xs ++ key ∷ ys) (first_in group_of mine ys) differs) in
    let previous : IsApart link.previous (members group_of group (xs ++ key ∷ ys)) =
    subst P (ap (λ (one : Link). one.previous) found) (apart_in group_of mine group _ (xs ++ key ∷ ys) (last_in group_of mine None xs tt) differs) in
    IsChain-at (bypassed link links) (chain_at chains group) _ (members group_of group (xs ++ key ∷ ys)) _
    (get_or-set_other chains mine group _ empty_chain differs) keys
    (IsChain-agree (bypassed link links) links (chain_at chains group) (members group_of group (xs ++ key ∷ ys))
    (Agree-bypassed link links (members group_of group (xs ++ key ∷ ys)) next previous) (was group))

pub AreChains-without : (links : Links) (group_of : ℕ → ℕ) (chains : List Chain) (xs : List ℕ) (key : ℕ) (ys : List ℕ) (link : Link) → AreDistinct (xs ++ key ∷ ys) → AreChains links group_of chains (xs ++ key ∷ ys) → links key ≡ Some link → AreChains (bypassed link links) group_of (slice_set chains (group_of key) (chain_without (chain_at chains (group_of key)) link)) (xs ++ ys)
AreChains-without links group_of chains xs key ys link distinct was is group =
    let P : ℕ → Type 0 = λ found. IsChain (bypassed link links) (chain_at (slice_set chains (group_of key) (chain_without (chain_at chains (group_of key)) link)) found) (members group_of found (xs ++ ys)) in
    ⊎_elim {C = P group}
    (λ same. subst P (sym same) (without_mine links group_of chains xs key ys link distinct was is))
    (λ differs. without_other links group_of chains xs key ys link group differs was is)
    (cases_eq group (group_of key))
