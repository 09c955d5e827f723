-- What lands at a sync of the source is what landed at the wait of the run.
use Rattle.std.proofs.Common.{◌≡◌, ◌⊎◌, ℕ, zero, suc, ◌+◌, ◌<◌, List, [], ◌∷◌, ◌++◌, map, filter, cond, Option, Some, None, Bool, true, false, ◌==◌, ◌&&◌, refl, sym, ap, ◌∙◌, subst, inl, inr, arith, eqb-true}
use Rattle.std.proofs.lemmas.List.{map-append}
use Rattle.std.specs.Prelude.{if◌then◌else◌, slice_get}
use Rattle.std.specs.Option.{option_map_or}
use Rattle.std.proofs.lemmas.Bool.{and_parts, not-true}
use Rattle.effect_order.specs.Lists.{Each}
use Rattle.sc_meaning.specs.declared.request.Request.{Request}
use Rattle.sc_meaning.specs.declared.request.Request.TheVariants as ask
use Rattle.sc_meaning.specs.declared.event.SourceEvent.{SourceEvent}
use Rattle.sc_meaning.specs.declared.event.SourceEvent.TheVariants.{Do, Issue, Effect, Sync, Arrive, Release, End as Over}
use Rattle.sc_meaning.specs.History.{barrier_of}
use Rattle.sc_meaning.specs.Test.{is_sync}
use Rattle.sc_meaning.specs.Parts.{is_get}
use Rattle.sc_meaning.specs.Past.{Processes, made, issued_since}
use Rattle.sc_isa.specs.declared.access.Access.{Access}
use Rattle.sc_isa.specs.declared.access.Access.TheVariants.{Read, Write, Copy}
use Rattle.sc_isa.specs.declared.access.Track.{Track}
use Rattle.sc_isa.specs.declared.access.Track.TheVariants.{Counter, Store, Covered}
use Rattle.sc_isa.specs.declared.journal.Entry.{Entry}
use Rattle.sc_isa.specs.declared.journal.Entry.TheVariants.{Issued, Delivered, Waited, Arrived, Passed, Finished}
use Rattle.fabric.specs.Effects.{awaited}
use Rattle.fabric.specs.Access.{is_read_on}
use Rattle.source_order.specs.Steps.{request_by, requested, own_requests, request_of}
use Rattle.sc_meaning.specs.OfAccess.{is_blocking, written_as, request_in, is_done_at_once}
use Rattle.source_order.proofs.Stands.{Stands, own_at}
use Rattle.source_order.proofs.Numbers.{eq_self, if_true, if_false, issued_is, access_is, both_self}
use Rattle.source_order.proofs.Distinct.{num, at_node}
use Rattle.source_order.proofs.Character.{IsAccess}
use Rattle.source_order.proofs.Matches.{Known, fits, Sane}
use Rattle.source_order.proofs.Taken.{It, E, Took, is_own, made_own, made_other, next_of, whose}
use Rattle.source_order.proofs.Over.{sane}

-- the numbers of gets among the first requests, since the last sync
abbrev pub with_request : Option Request → ℕ → List ℕ → List ℕ
with_request None k ns = ns
with_request (Some r) k ns = if is_sync r then [] else (if is_get r then ns ++ k ∷ [] else ns)

abbrev pub gets_upto : List Request → ℕ → List ℕ
gets_upto rs zero = []
gets_upto rs (suc k) = with_request (slice_get rs k) k (gets_upto rs k)

-- an access requests no sync
no_sync : (access : Access) → is_sync (request_in access) ≡ false
no_sync (Read place track) = by (is_blocking track)
  where
    by : (b : Bool) → is_sync (if b then ask.Read place 0 else ask.Get place 0) ≡ false
    by true = refl
    by false = refl
no_sync (Write place value track) = by track
  where
    by : (track : Track) → is_sync (written_as track (ask.Write place value 0) (ask.Put place value 0) (ask.Store place value 0)) ≡ false
    by Store = refl
    by Covered = refl
    by (Counter c) = on (c == 0)
      where
        on : (b : Bool) → is_sync (if b then ask.Put place value 0 else ask.Write place value 0) ≡ false
        on true = refl
        on false = refl
no_sync (Copy from to cells track) = refl

no_get_at_once : (access : Access) → is_done_at_once access ≡ true → is_read_on 0 access ≡ false
no_get_at_once (Read place (Counter c)) h = not-true (c == 0) h
no_get_at_once (Read place Store) h = refl
no_get_at_once (Read place Covered) h = refl
no_get_at_once (Write _ _ _) h = refl
no_get_at_once (Copy _ _ _ _) h = refl

barrier_quiet : (s : Bool) (k : ℕ) (ns : List ℕ) → with_request (Some (barrier_of s 0)) k ns ≡ ns
barrier_quiet true k ns = refl
barrier_quiet false k ns = refl

access_get : (access : Access) → Sane access → (k : ℕ) (ns : List ℕ) → with_request (Some (request_in access)) k ns ≡ (if is_read_on 0 access then ns ++ k ∷ [] else ns)
access_get access s k ns = rw (no_sync access, (fits access s).5) refl

pub filter_same : (f g : ℕ → Bool) (ns : List ℕ) → Each (λ n. f n ≡ g n) ns → filter f ns ≡ filter g ns
filter_same f g [] e = refl
filter_same f g (n ∷ ns) e = ap (λ b. cond b (n ∷ filter f ns) (filter f ns)) e.0 ∙ ap (λ u. cond (g n) (n ∷ u) u) (filter_same f g ns e.1)

filter_one : (f : ℕ → Bool) (ns : List ℕ) (k : ℕ) → filter f (ns ++ k ∷ []) ≡ (if f k then filter f ns ++ k ∷ [] else filter f ns)
filter_one f [] k = by (f k)
  where
    by : (b : Bool) → cond b (k ∷ []) [] ≡ (if b then k ∷ [] else [])
    by true = refl
    by false = refl
filter_one f (n ∷ ns) k = by (f n) (f k) (filter_one f ns k)
  where
    by : (a b : Bool) → filter f (ns ++ k ∷ []) ≡ (if b then filter f ns ++ k ∷ [] else filter f ns) → cond a (n ∷ filter f (ns ++ k ∷ [])) (filter f (ns ++ k ∷ [])) ≡ (if b then cond a (n ∷ filter f ns) (filter f ns) ++ k ∷ [] else cond a (n ∷ filter f ns) (filter f ns))
    by true true i = ap (λ u. n ∷ u) i
    by true false i = ap (λ u. n ∷ u) i
    by false true i = i
    by false false i = i

module _ (processes : Processes) (whole : List Entry) (known : Known processes whole) (p : ℕ) (within : p < processes.nodes) where
  abbrev pub Rs : List Request
  Rs = own_requests p whole

  -- in the run
  pub awaited_gets : (past : List Entry) → ((s : List Entry) (e : Entry) → Stands s e past → Stands s e whole)
      → map (λ n. request_of p n whole) (awaited p 0 past) ≡ gets_upto Rs (requested p past)
  awaited_gets [] among = refl
  awaited_gets (Issued q n access ∷ rest) among = by (q == p) refl (awaited_gets rest (λ s e i. among s e (inr i)))
    where
      by : (b : Bool) → (q == p) ≡ b → map (λ n. request_of p n whole) (awaited p 0 rest) ≡ gets_upto Rs (requested p rest)
          → map (λ n. request_of p n whole) (if b && is_read_on 0 access then awaited p 0 rest ++ n ∷ [] else awaited p 0 rest) ≡ gets_upto Rs (Rattle.source_order.specs.Steps.count_one (if b then Some (request_in access) else None) (requested p rest))
      by false t i = i
      by true t i =
          let st : Stands rest (Issued p n access) whole = subst (λ u. Stands rest (Issued u n access) whole) (eqb-true q p t) (among rest _ (inl (refl, refl))) in
          let at = own_at p rest (Issued p n access) whole (request_in access) st (issued_is p n access) in
          let sn = sane processes whole known p n rest access within st in
          let ro = (access_is processes.start processes.nodes p n access rest whole known.wired st).1 in
          let step : gets_upto Rs (suc (requested p rest)) ≡ (if is_read_on 0 access then gets_upto Rs (requested p rest) ++ requested p rest ∷ [] else gets_upto Rs (requested p rest)) =
          ap (λ o. with_request o (requested p rest) (gets_upto Rs (requested p rest))) at ∙ access_get access sn (requested p rest) (gets_upto Rs (requested p rest)) in
          let plus : requested p rest + 1 ≡ suc (requested p rest) = omega arith in
          get (is_read_on 0 access) ro i ∙ sym step ∙ ap (gets_upto Rs) (sym plus)
        where
          get : (b : Bool) → request_of p n whole ≡ requested p rest → map (λ n. request_of p n whole) (awaited p 0 rest) ≡ gets_upto Rs (requested p rest)
              → map (λ n. request_of p n whole) (if b then awaited p 0 rest ++ n ∷ [] else awaited p 0 rest) ≡ (if b then gets_upto Rs (requested p rest) ++ requested p rest ∷ [] else gets_upto Rs (requested p rest))
          get true r i = map-append (λ n. request_of p n whole) (awaited p 0 rest) (n ∷ []) ∙ ap (λ u. u ++ request_of p n whole ∷ []) i ∙ ap (λ u. gets_upto Rs (requested p rest) ++ u ∷ []) r
          get false r i = i
  awaited_gets (Delivered _ _ _ _ ∷ rest) among = awaited_gets rest (λ s e i. among s e (inr i))
  awaited_gets (Waited q c ∷ rest) among = by ((q == p) && (c == 0)) refl (awaited_gets rest (λ s e i. among s e (inr i)))
    where
      by : (b : Bool) → ((q == p) && (c == 0)) ≡ b → map (λ n. request_of p n whole) (awaited p 0 rest) ≡ gets_upto Rs (requested p rest)
          → map (λ n. request_of p n whole) (if b then [] else awaited p 0 rest) ≡ gets_upto Rs (Rattle.source_order.specs.Steps.count_one (if b then Some (ask.Sync 0) else None) (requested p rest))
      by false t i = i
      by true t i =
          let a = and_parts (q == p) (c == 0) t in
          let st = among rest (Waited q c) (inl (refl, refl)) in
          let at = own_at p rest (Waited q c) whole (ask.Sync 0) st (if_true ((q == p) && (c == 0)) _ _ t) in
          let plus : requested p rest + 1 ≡ suc (requested p rest) = omega arith in
          sym (ap (λ o. with_request o (requested p rest) (gets_upto Rs (requested p rest))) at) ∙ ap (gets_upto Rs) (sym plus)
  awaited_gets (Arrived q s ∷ rest) among = by (q == p) refl (awaited_gets rest (λ s e i. among s e (inr i)))
    where
      by : (b : Bool) → (q == p) ≡ b → map (λ n. request_of p n whole) (awaited p 0 rest) ≡ gets_upto Rs (requested p rest)
          → map (λ n. request_of p n whole) (awaited p 0 rest) ≡ gets_upto Rs (Rattle.source_order.specs.Steps.count_one (if b then Some (barrier_of s 0) else None) (requested p rest))
      by false t i = i
      by true t i =
          let st = among rest (Arrived q s) (inl (refl, refl)) in
          let at = own_at p rest (Arrived q s) whole (barrier_of s 0) st (if_true (q == p) _ _ t) in
          let plus : requested p rest + 1 ≡ suc (requested p rest) = omega arith in
          i ∙ sym (ap (λ o. with_request o (requested p rest) (gets_upto Rs (requested p rest))) at ∙ barrier_quiet s (requested p rest) (gets_upto Rs (requested p rest))) ∙ ap (gets_upto Rs) (sym plus)
  awaited_gets (Passed _ ∷ rest) among = awaited_gets rest (λ s e i. among s e (inr i))
  awaited_gets (Finished _ _ ∷ rest) among = awaited_gets rest (λ s e i. among s e (inr i))

  -- in the source
  abbrev pub Test : ℕ → Bool
  Test k = option_map_or is_get (slice_get Rs k) false

  pub since_gets : (past : List SourceEvent) → Took processes whole known past → filter Test (issued_since p past) ≡ gets_upto Rs (made p past)
  since_gets [] t = refl
  since_gets (x ∷ past) t = by x t (whose p x) (since_gets past t.3)
    where
      Goal : SourceEvent → Type 0
      Goal x = filter Test (issued_since p (x ∷ past)) ≡ gets_upto Rs (made p (x ∷ past))

      -- one more request
      one : (x : SourceEvent) → is_own x ≡ true → at_node x ≡ p → Took processes whole known (x ∷ past) → (r : Request) → slice_get Rs (num x) ≡ Some r → gets_upto Rs (made p (x ∷ past)) ≡ with_request (Some r) (num x) (gets_upto Rs (made p past))
      one x o e t r h =
          let n : num x ≡ made p past = (next_of processes past x o t.0).1.numbered ∙ ap (λ u. made u past) e in
          let m : made p (x ∷ past) ≡ suc (made p past) = (let y = made_own p x past o e in omega arith) in
          ap (gets_upto Rs) m ∙ ap (λ o. with_request o (made p past) (gets_upto Rs (made p past))) (ap (slice_get Rs) (sym n) ∙ h) ∙ ap (λ u. with_request (Some r) u (gets_upto Rs (made p past))) (sym n)

      asks : (k : ℕ) (once : Bool) → IsAccess whole p k once → (access : Access) × Sane access × (slice_get Rs k ≡ Some (request_in access)) × (is_done_at_once access ≡ once)
      asks k once a = (a.access, sane processes whole known p a.n a.past a.access within a.stands, subst (λ u. slice_get Rs u ≡ Some (request_in a.access)) a.numbered (own_at p a.past (Issued p a.n a.access) whole (request_in a.access) a.stands (issued_is p a.n a.access)), a.kind)

      IH : Type 0
      IH = filter Test (issued_since p past) ≡ gets_upto Rs (made p past)

      by : (x : SourceEvent) → Took processes whole known (x ∷ past) → ((is_own x ≡ true) × (at_node x ≡ p)) ⊎ (is_own x ≡ true → at_node x ≡ p → ⊥) → IH → Goal x
      by (Do q k w place value) t (inl o) i =
          let a = asks k true (subst (λ u. IsAccess whole u k true) o.1 t.2.0) in
          i ∙ sym (one (Do q k w place value) refl o.1 t (request_in a.0) a.2 ∙ access_get a.0 a.1 k (gets_upto Rs (made p past)) ∙ if_false (is_read_on 0 a.0) _ _ (no_get_at_once a.0 a.3))
      by (Issue q k) t (inl o) i =
          let a = asks k false (subst (λ u. IsAccess whole u k false) o.1 t.2) in
          let test : Test k ≡ is_read_on 0 a.0 = ap (λ o. option_map_or is_get o false) a.2 ∙ (fits a.0 a.1).5 in
          ap (filter Test) (if_true (q == p) _ _ (subst (λ u. (q == u) ≡ true) o.1 (eq_self q))) ∙ filter_one Test (issued_since p past) k
          ∙ ap (λ b. if b then filter Test (issued_since p past) ++ k ∷ [] else filter Test (issued_since p past)) test
          ∙ ap (λ u. if is_read_on 0 a.0 then u ++ k ∷ [] else u) i
          ∙ sym (one (Issue q k) refl o.1 t (request_in a.0) a.2 ∙ access_get a.0 a.1 k (gets_upto Rs (made p past)))
      by (Sync q k) t (inl o) i =
          let s : Stands t.2.0 (Waited p 0) whole = subst (λ u. Stands t.2.0 (Waited u 0) whole) o.1 t.2.1 in
          let n : requested p t.2.0 ≡ k = subst (λ u. requested u t.2.0 ≡ k) o.1 t.2.2 in
          let h : slice_get Rs k ≡ Some (ask.Sync 0) = subst (λ u. slice_get Rs u ≡ Some (ask.Sync 0)) n (own_at p t.2.0 (Waited p 0) whole (ask.Sync 0) s (if_true ((p == p) && (0 == 0)) _ _ (both_self p 0))) in
          ap (filter Test) (if_true (q == p) _ _ (subst (λ u. (q == u) ≡ true) o.1 (eq_self q))) ∙ sym (one (Sync q k) refl o.1 t (ask.Sync 0) h)
      by (Arrive q k s) t (inl o) i =
          let st : Stands t.2.0 (Arrived p s) whole = subst (λ u. Stands t.2.0 (Arrived u s) whole) o.1 t.2.1 in
          let n : requested p t.2.0 ≡ k = subst (λ u. requested u t.2.0 ≡ k) o.1 t.2.2 in
          let h : slice_get Rs k ≡ Some (barrier_of s 0) = subst (λ u. slice_get Rs u ≡ Some (barrier_of s 0)) n (own_at p t.2.0 (Arrived p s) whole (barrier_of s 0) st (if_true (p == p) _ _ (eq_self p))) in
          i ∙ sym (one (Arrive q k s) refl o.1 t (barrier_of s 0) h ∙ barrier_quiet s k (gets_upto Rs (made p past)))
      by (Effect _ _ _ _ _ _) t o i = i
      by (Release _) t o i = i
      by (Over _ _) t o i = i
      by (Do q k w place value) t (inr f) i = i ∙ ap (gets_upto Rs) (sym (made_other p (Do q k w place value) past f))
      by (Issue q k) t (inr f) i =
          ap (filter Test) (if_false (q == p) _ _ (Rattle.source_order.proofs.Taken.not_same q p (f refl))) ∙ i ∙ ap (gets_upto Rs) (sym (made_other p (Issue q k) past f))
      by (Sync q k) t (inr f) i =
          ap (filter Test) (if_false (q == p) _ _ (Rattle.source_order.proofs.Taken.not_same q p (f refl))) ∙ i ∙ ap (gets_upto Rs) (sym (made_other p (Sync q k) past f))
      by (Arrive q k s) t (inr f) i = i ∙ ap (gets_upto Rs) (sym (made_other p (Arrive q k s) past f))
