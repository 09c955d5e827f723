-- What code asks at a point is what the point asks: each access is on its site's track, and a barrier is met before it is left.
use Rattle.std.proofs.Common.{◌≡◌, inl, inr, ℕ, zero, suc, ◌+◌, ◌<◌, ◌==◌, List, [], ◌∷◌, ◌++◌, length, map, Option, Some, None, Bool, true, false, if◌then◌else◌, slice_get, refl, sym, ap, ◌∙◌, subst, arith}
use Rattle.std.specs.List.{All}
use Rattle.std.proofs.lemmas.Bool.Decides.{Decides-eqb}
use Rattle.std.proofs.lemmas.List.Elements.{All-head, All-tail}
use Rattle.resumption.specs.Resumption.{Asks, Makes, Says, Stops}
use Rattle.sc_base.specs.declared.value.CopyMode.{CopyMode}
use Rattle.sc_base.specs.declared.value.CopyMode.TheVariants.{Blocking, Split, OneWay}
use Rattle.sc_layout.specs.Layout.{Arrangement}
use Rattle.sc_isa.specs.declared.access.Access.{Access}
use Rattle.sc_isa.specs.declared.access.Access.TheVariants as access
use Rattle.sc_isa.specs.declared.code.Code.{Code}
use Rattle.sc_isa.specs.declared.op.Instr.{Instr}
use Rattle.sc_isa.specs.declared.op.Op.{Op}
use Rattle.sc_isa.specs.declared.op.Op.TheVariants as op
use Rattle.sc_isa.specs.State.{State, at_instr, landed}
use Rattle.sc_isa.specs.Moves.{Move, After, Comes, GoesOn, Ends, Sticks, Issues, Waits, Meets, Says as Tells}
use Rattle.sc_isa.specs.Run.{Issue, Wait, Arrive, Pass, Answer, Landed, Passed, Broken, UsedUp, fits_wait, landed_by, fits_pass}
use Rattle.sc_isa.specs.Sound.{Leads}
use Rattle.sc_isa.specs.Table.{step_of, does_op, does_instr, copy_track}
use Rattle.sc_core.specs.Core.{Function}
use Rattle.site_graph.specs.declared.plan.Plan.{Plan}
use Rattle.site_graph.specs.declared.point.Point.{Point}
use Rattle.site_graph.specs.declared.point.PointKind.{PointKind}
use Rattle.site_graph.specs.declared.point.PointKind.TheVariants as point
use Rattle.site_graph.specs.declared.site.Site.{Site}
use Rattle.site_graph.specs.declared.site.SiteKind.{SiteKind}
use Rattle.site_graph.specs.declared.site.SiteKind.TheVariants as site
use Rattle.site_graph.specs.Graph.{Graph, kind_at, site_at, IsAt, is_barrier}
use Rattle.site_graph.specs.Plans.{waits_at}
use Rattle.node_emit.specs.Kinds.{is_outside}
use Rattle.node_emit.specs.Runs.{goes_one_way}
use Rattle.node_emit.specs.Spelled.{Piece, Outside, Opens, Within, is_plain, IsAccessOp, IsRunFor, IsOutsidePiece}
use Rattle.node_emit.specs.Stands.{Stands, stands_at, flat}
use Rattle.node_emit.specs.Carries.{Follows}
use Rattle.node_emit.specs.Walks.{AccessFor, AccessAt, barrier_kind}
use Rattle.node_emit.specs.Pointed.{PointedAsking, Asked, Came, entered_at, marked, come_all, comes_to, asked_by, passed_by, points_from}
use Rattle.forgotten_marks.proofs.OpAsks.{AccessBy, WaitBy, MeetBy, MoveAsks, Asks_, op_asks}
use Rattle.emit_laws.proofs.Parts.{In}
use Rattle.emit_laws.proofs.Items.{Item, glue, runs, all_instrs, all_stands, all_pieces}
use Rattle.code_walks.proofs.Chains.{IsEntry, AreLong, OpsAre, ItemsAre, both_items, both_at}
use Rattle.code_walks.proofs.RunsIn.{AreRuns}
use Rattle.code_walks.proofs.Follow.{ats, IsLaid, AllEnter, On, step_on, place}

-- the point is that of the site, which is of this kind
pub record SiteAt (graph : Graph) (t number : ℕ) (kind : SiteKind) : Type 0 where
  pub what : Site
  pub is_site : site_at graph number ≡ Some what
  pub is_at : IsAt graph number t
  pub kind_is : what.kind ≡ kind

abbrev pub OpAt : Graph → Plan → (t : ℕ) → Op → Type 0
OpAt graph plan t (op.Read n) = SiteAt graph t n site.Read
OpAt graph plan t (op.Fill n x) = SiteAt graph t n site.Read
OpAt graph plan t (op.Write n) = SiteAt graph t n site.Write × (goes_one_way plan n ≡ false)
OpAt graph plan t (op.Store n) = SiteAt graph t n site.Write × (goes_one_way plan n ≡ true)
OpAt graph plan t (op.Get n x) = SiteAt graph t n site.Get
OpAt graph plan t (op.Put n) = SiteAt graph t n site.Put
OpAt graph plan t (op.Send n) = SiteAt graph t n site.Store
OpAt graph plan t (op.Copy n mode) = SiteAt graph t n (site.Copy mode)
OpAt graph plan t (op.Wait counter) = counter ≡ 0 → kind_at graph t ≡ point.Sync
OpAt graph plan t op.Barrier = kind_at graph t ≡ point.Barrier
OpAt graph plan t op.AllSync = kind_at graph t ≡ point.StoreSync
OpAt graph plan t _ = Unit {0}

abbrev pub IsMeet : Op → Type 0
IsMeet op.Barrier = Unit {0}
IsMeet op.AllSync = Unit {0}
IsMeet _ = ⊥

module _ (graph : Graph) (plan : Plan) (len : ℕ → ℕ) where
  -- the last instruction of a barrier meets the nodes
  abbrev pub PlaceAt : Option Stands → Op → Type 0
  PlaceAt None o = is_outside o ≡ true
  PlaceAt (Some s) o = OpAt graph plan s.point o × (is_barrier (kind_at graph s.point) ≡ true → s.number + 1 ≡ len s.point → IsMeet o)

  plain_at : (t : ℕ) (o : Op) → is_plain o ≡ true → OpAt graph plan t o
  plain_at t (op.Read n) e = absurd (cc)
  plain_at t (op.Fill n x) e = absurd (cc)
  plain_at t (op.Write n) e = absurd (cc)
  plain_at t (op.Store n) e = absurd (cc)
  plain_at t (op.Get n x) e = absurd (cc)
  plain_at t (op.Put n) e = absurd (cc)
  plain_at t (op.Send n) e = absurd (cc)
  plain_at t (op.Copy n mode) e = absurd (cc)
  plain_at t (op.Wait counter) e = absurd (cc)
  plain_at t op.Barrier e = absurd (cc)
  plain_at t op.AllSync e = absurd (cc)
  plain_at t o e = tt

  no_barrier : {X : Type 0} (t : ℕ) (k : PointKind) → kind_at graph t ≡ k → is_barrier k ≡ false → is_barrier (kind_at graph t) ≡ true → X
  no_barrier t k e f b = let g : is_barrier (kind_at graph t) ≡ is_barrier k = ap is_barrier e in absurd (cc)

  plain_ops : (t n : ℕ) (ops : List Op) → kind_at graph t ≡ point.Plain → All (λ o. is_plain o ≡ true) ops → OpsAre plan PlaceAt t n ops
  plain_ops t n [] k h = tt
  plain_ops t n (o ∷ ops) k h = (
    (plain_at t o (All-head (λ o. is_plain o ≡ true) o ops h), λ b e. no_barrier t point.Plain k refl b),
    plain_ops t (n + 1) ops k (All-tail (λ o. is_plain o ≡ true) o ops h),
  )

  access_op : (t number : ℕ) (p : Point) (kind : SiteKind) (fills : Option ℕ) (o : Op) → SiteAt graph t number kind → IsAccessOp plan p number kind fills o → OpAt graph plan t o
  access_op t number p site.Read None o s h = subst (OpAt graph plan t) (sym h) s
  access_op t number p site.Read (Some x) o s h = subst (OpAt graph plan t) (sym h) s
  access_op t number p site.Write fills o s (inl h) = subst (OpAt graph plan t) (sym h.0) (s, h.1)
  access_op t number p site.Write fills o s (inr h) = subst (OpAt graph plan t) (sym h.0) (s, h.1)
  access_op t number p site.Get fills o s h = subst (OpAt graph plan t) (sym h.2) s
  access_op t number p site.Put fills o s h = subst (OpAt graph plan t) (sym h) s
  access_op t number p site.Store fills o s h = subst (OpAt graph plan t) (sym h) s
  access_op t number p (site.Copy mode) fills o s h = subst (OpAt graph plan t) (sym h) s

  one_at : (t n : ℕ) (only o : Op) (more : List Op) → o ∷ more ≡ only ∷ [] → PlaceAt (Some (record { point = t; number = n })) only → OpsAre plan PlaceAt t n (o ∷ more)
  one_at t n only o more e h = subst (OpsAre plan PlaceAt t n) (sym e) (h, tt)

  ops_at : (t n : ℕ) (p : Point) (k : PointKind) (o : Op) (more : List Op) → kind_at graph t ≡ k → IsRunFor graph plan t p k (o ∷ more)
      → OpsAre plan PlaceAt t n (o ∷ more)
  ops_at t n p point.Start o more k h = absurd (cc)
  ops_at t n p point.Plain o more k h = plain_ops t n (o ∷ more) k h.plain
  ops_at t n p (point.Access number) o more k h =
      one_at t n h.only o more h.run_is (
        access_op t number p h.what.kind h.what.fills h.only (record { what = h.what; is_site = h.is_site; is_at = k; kind_is = refl }) h.is_its,
        λ b e. no_barrier t (point.Access number) k refl b,
      )
  ops_at t n p point.Sync o more k h = one_at t n (op.Wait 0) o more h ((λ e. k), λ b e. no_barrier t point.Sync k refl b)
  ops_at t n p point.Barrier o more k h = one_at t n op.Barrier o more h (k, λ b e. tt)
  ops_at t n p point.StoreSync o more k h = one_at t n op.AllSync o more h (k, λ b e. tt)
  ops_at t n p point.Call o more k h = one_at t n (op.Call h.0) o more h.1 (tt, λ b e. no_barrier t point.Call k refl b)
  ops_at t n p point.Return o more k h = one_at t n op.Ret o more h (tt, λ b e. no_barrier t point.Return k refl b)

  -- an empty run is that of no barrier
  pub empty_is_none : (t : ℕ) (p : Point) (k : PointKind) → kind_at graph t ≡ k → IsRunFor graph plan t p k [] → is_barrier (kind_at graph t) ≡ true → ⊥
  empty_is_none t p point.Start k h b = no_barrier t point.Start k refl b
  empty_is_none t p point.Plain k h b = no_barrier t point.Plain k refl b
  empty_is_none t p (point.Access number) k h b = no_barrier t (point.Access number) k refl b
  empty_is_none t p point.Sync k h b = no_barrier t point.Sync k refl b
  empty_is_none t p point.Barrier k h b = absurd (cc)
  empty_is_none t p point.StoreSync k h b = absurd (cc)
  empty_is_none t p point.Call k h b = no_barrier t point.Call k refl b
  empty_is_none t p point.Return k h b = no_barrier t point.Return k refl b

  module _ (rs : List (List Op)) (point_of : (t : ℕ) (run : List Op) → slice_get rs t ≡ Some run → (p : Point) × (kind_at graph t ≡ p.kind) × IsRunFor graph plan t p p.kind run)
      (positive : (t w : ℕ) → In w (waits_at plan t) → 0 < w) where
    -- the items stand as the points ask
    items_at : (is : List Item) → AreLong plan len is → AreRuns plan rs is → All IsOutsidePiece (all_pieces plan is) → ItemsAre plan PlaceAt is
    items_at [] l r o = tt
    items_at (glue x ∷ is) l r o =
        (All-head IsOutsidePiece (Outside x) (all_pieces plan is) o, items_at is l r (All-tail IsOutsidePiece (Outside x) (all_pieces plan is) o))
    items_at (runs t line x more ∷ is) l r o =
        let p = point_of t (x ∷ more) r.0 in (
          (λ n w lt i. let z = positive t w i in (λ e. absurd (omega (arith, z, e)), λ b e. absurd (let m = l.0 in omega (arith, lt, e, m)))),
          ops_at t (length (waits_at plan t)) p.0 p.0.kind x more p.1 p.2,
          items_at is l.1 r.1 (behind more (All-tail IsOutsidePiece (Opens t x) (map (Within t) more ++ all_pieces plan is) o)),
        )
      where
        behind : (more : List Op) → All IsOutsidePiece (map (Within t) more ++ all_pieces plan is) → All IsOutsidePiece (all_pieces plan is)
        behind [] h = h
        behind (y ∷ more) h = behind more (All-tail IsOutsidePiece (Within t y) (map (Within t) more ++ all_pieces plan is) h)

    pub placed_at : (is : List Item) → AreLong plan len is → AreRuns plan rs is → All IsOutsidePiece (all_pieces plan is) → (k : ℕ) (i : Instr)
        → slice_get (all_instrs plan is) k ≡ Some i → PlaceAt (flat (slice_get (all_stands plan is) k)) i.op
    placed_at is l r o k i e =
        both_at plan PlaceAt (all_instrs plan is) (all_stands plan is) (both_items plan PlaceAt is (items_at is l r o)) k i e

  -- ---- what is asked

  track_for : (number : ℕ) (mode : CopyMode) (from to : _) (cells : ℕ) → AccessFor plan number (site.Copy mode) (access.Copy from to cells (copy_track number mode))
  track_for number Blocking from to cells = refl
  track_for number Split from to cells = refl
  track_for number OneWay from to cells = refl

  on_site : (t number : ℕ) (kind : SiteKind) (a : Access) → SiteAt graph t number kind → AccessFor plan number kind a → AccessAt graph plan t a
  on_site t number kind a s h = record {
    number = number;
    is_at = s.is_at;
    what = s.what;
    is_site = s.is_site;
    tracked = subst (λ k. AccessFor plan number k a) (sym s.kind_is) h;
  }

  pub access_is : (t : ℕ) (o : Op) (a : Access) → OpAt graph plan t o → AccessBy o a → AccessAt graph plan t a
  access_is t (op.Read n) (access.Read place track) s h = on_site t n site.Read (access.Read place track) s h
  access_is t (op.Fill n x) (access.Read place track) s h = on_site t n site.Read (access.Read place track) s h
  access_is t (op.Write n) (access.Write place value track) s h = on_site t n site.Write (access.Write place value track) s.0 (inr (h, s.1))
  access_is t (op.Store n) (access.Write place value track) s h = on_site t n site.Write (access.Write place value track) s.0 (inl (h, s.1))
  access_is t (op.Get n x) (access.Read place track) s h = on_site t n site.Get (access.Read place track) s h
  access_is t (op.Put n) (access.Write place value track) s h = on_site t n site.Put (access.Write place value track) s h
  access_is t (op.Send n) (access.Write place value track) s h = on_site t n site.Store (access.Write place value track) s h
  access_is t (op.Copy n mode) (access.Copy from to cells track) s h =
      on_site t n (site.Copy mode) (access.Copy from to cells track) s (subst (λ k. AccessFor plan n (site.Copy mode) (access.Copy from to cells k)) (sym h) (track_for n mode from to cells))
  access_is t o a s h = absurd h

  wait_is : (t : ℕ) (o : Op) (counter : ℕ) → OpAt graph plan t o → WaitBy o counter → counter ≡ 0 → kind_at graph t ≡ point.Sync
  wait_is t (op.Wait c) counter s h e = s (sym h ∙ e)
  wait_is t o counter s h e = absurd h

  meet_is : (t : ℕ) (o : Op) (stores : Bool) → OpAt graph plan t o → MeetBy o stores → kind_at graph t ≡ barrier_kind stores
  meet_is t op.Barrier stores s h = s ∙ ap barrier_kind (sym h)
  meet_is t op.AllSync stores s h = s ∙ ap barrier_kind (sym h)
  meet_is t o stores s h = absurd h

  -- an instruction outside of the runs asks nothing
  outside_asks : {X : Type 0} (o : Op) (a : Access) → is_outside o ≡ true → AccessBy o a → X
  outside_asks (op.Read n) a e h = absurd (cc)
  outside_asks (op.Fill n x) a e h = absurd (cc)
  outside_asks (op.Write n) a e h = absurd (cc)
  outside_asks (op.Store n) a e h = absurd (cc)
  outside_asks (op.Get n x) a e h = absurd (cc)
  outside_asks (op.Put n) a e h = absurd (cc)
  outside_asks (op.Send n) a e h = absurd (cc)
  outside_asks (op.Copy n mode) a e h = absurd (cc)
  outside_asks o a e h = absurd h

  outside_waits : {X : Type 0} (o : Op) (counter : ℕ) → is_outside o ≡ true → WaitBy o counter → X
  outside_waits (op.Wait c) counter e h = absurd (cc)
  outside_waits o counter e h = absurd h

  outside_meets : {X : Type 0} (o : Op) (stores : Bool) → is_outside o ≡ true → MeetBy o stores → X
  outside_meets op.Barrier stores e h = absurd (cc)
  outside_meets op.AllSync stores e h = absurd (cc)
  outside_meets o stores e h = absurd h

  -- ---- the asks of a node, each at its point; met: its barrier was met

  unfoldable pub Kinds : (t : ℕ) → (met : Bool) → PointedAsking → Type 0
  Kinds t met (Makes (Came u) rest) = (is_barrier (kind_at graph t) ≡ true → met ≡ true) × Kinds u false rest
  Kinds t met (Makes (Asked (Issue a)) rest) = AccessAt graph plan t a × Kinds t met rest
  Kinds t met (Makes (Asked (Arrive stores)) rest) = (kind_at graph t ≡ barrier_kind stores) × Kinds t true rest
  Kinds t met (Asks (Asked (Wait counter)) fits go) =
      (counter ≡ 0 → kind_at graph t ≡ point.Sync) × ((answer : Answer) → fits answer ≡ true → Kinds t met (go answer))
  Kinds t met (Asks (Asked Pass) fits go) = (answer : Answer) → fits answer ≡ true → Kinds t met (go answer)
  Kinds t met (Says text rest) = Kinds t met rest
  Kinds t met (Stops halt) = Unit {0}
  Kinds t met _ = ⊥

  abbrev pub met_by : Move → Bool → Bool
  met_by (Meets stores s) met = true
  met_by _ met = met

  meets_by : (code : Code) (layout : Arrangement) (node : ℕ) (o : Op) (line : ℕ) (s : State) (met : Bool) → IsMeet o → met_by (does_op code layout node o line s) met ≡ true
  meets_by code layout node op.Barrier line s met h = refl
  meets_by code layout node op.AllSync line s met h = refl
  meets_by code layout node o line s met h = absurd h

  still_met : (move : Move) (met : Bool) → met ≡ true → met_by move met ≡ true
  still_met (Comes after) met e = e
  still_met (Issues a after) met e = e
  still_met (Waits counter s) met e = e
  still_met (Meets stores s) met e = refl
  still_met (Tells text s) met e = e

  module _ (t : ℕ) (met : Bool) (layout : Arrangement) (go : State → PointedAsking) where
    kinds_after : (after : After) → ((x : State) → Leads layout (Comes after) x → Kinds t met (go x)) → Kinds t met (comes_to go after)
    unfolding Kinds
    kinds_after (GoesOn s) next = next s refl
    kinds_after (Ends end) next = tt
    kinds_after Sticks next = tt

    kinds_move : (move : Move)
        → MoveAsks (AccessAt graph plan t) (λ counter. counter ≡ 0 → kind_at graph t ≡ point.Sync) (λ stores. kind_at graph t ≡ barrier_kind stores) move
        → ((x : State) → Leads layout move x → Kinds t (met_by move met) (go x)) → Kinds t met (asked_by layout go move)
    unfolding Kinds
    kinds_move (Comes after) h next = kinds_after after next
    kinds_move (Issues a after) h next = (h, kinds_after after next)
    kinds_move (Waits counter s) h next = (h, by_answer)
      where
        by_answer : (answer : Answer) → fits_wait layout counter s answer ≡ true → Kinds t met (go (landed_by counter s answer))
        by_answer (Landed values) e = next (landed counter values s) (record { values = values; fit = e; next_is = refl })
        by_answer Passed e = absurd (cc)
        by_answer Broken e = absurd (cc)
    kinds_move (Meets stores s) h next = (h, by_answer)
      where
        by_answer : (answer : Answer) → fits_pass answer ≡ true → Kinds t true (passed_by answer (go s))
        by_answer (Landed values) e = absurd (cc)
        by_answer Passed e = next s refl
        by_answer Broken e = tt
    kinds_move (Tells text s) h next = next s refl

-- ---- a node's states

module _ (graph : Graph) (code : Code) (functions : List Function) (plan : Plan) (len : ℕ → ℕ) (laid : IsLaid code functions plan len) where
  abbrev pub place_ : ℕ → Option Stands
  place_ pc = place code functions plan len laid pc

  -- before an instruction is reached: t is the point that was entered last
  pub record Before (t : ℕ) (met : Bool) (s : State) : Type 0 where
    pub inside : (st : Stands) → place_ s.frame.at ≡ Some st → (st.number ≡ 0 → ⊥) → st.point ≡ t
    pub left : IsEntry plan len (place_ s.frame.at) → is_barrier (kind_at graph t) ≡ true → met ≡ true
    pub returns : AllEnter code functions plan len laid (ats s.callers)

  -- and when it is done
  pub record At (t : ℕ) (met : Bool) (s : State) : Type 0 where
    pub inside : (st : Stands) → place_ s.frame.at ≡ Some st → st.point ≡ t
    pub outside : place_ s.frame.at ≡ None → is_barrier (kind_at graph t) ≡ true → met ≡ true
    pub returns : AllEnter code functions plan len laid (ats s.callers)

  module _ (stands_there : (pc : ℕ) (i : Instr) → slice_get code.instrs pc ≡ Some i → PlaceAt graph plan len (place_ pc) i.op) where
    stays : (t : ℕ) (st : Stands) (next : Option Stands) → st.point ≡ t → Follows len (Some st) next → (st' : Stands) → next ≡ Some st' → (st'.number ≡ 0 → ⊥) → st'.point ≡ t
    stays t st None e f st' is some = absurd (cc)
    stays t st (Some now) e (inl f) st' is some =
        let same : now ≡ st' = cc in absurd (some (sym (ap (λ (x : Stands). x.number) same) ∙ f.0))
    stays t st (Some now) e (inr f) st' is some =
        let same : now ≡ st' = cc in sym (ap (λ (x : Stands). x.point) same) ∙ f.0 ∙ e

    comes_from_none : (next : Option Stands) → Follows len None next → (st' : Stands) → next ≡ Some st' → (st'.number ≡ 0 → ⊥) → ⊥
    comes_from_none None f st' is some = cc
    comes_from_none (Some now) f st' is some = let same : now ≡ st' = cc in some (sym (ap (λ (x : Stands). x.number) same) ∙ f)

    is_last : (st : Stands) (next : Option Stands) → Follows len (Some st) next → IsEntry plan len next → st.number + 1 ≡ len st.point
    is_last st None f e = f
    is_last st (Some now) (inl f) e = f.1
    is_last st (Some now) (inr f) e = absurd (let g = f.1 in let h : now.number ≡ 0 = e in omega (arith, g, h))

    -- behind an instruction
    next_before : (t : ℕ) (met : Bool) (layout : Arrangement) (node : ℕ) (s x : State) (i : Instr) → slice_get code.instrs s.frame.at ≡ Some i → At t met s
        → On code functions plan len laid s.frame.at x.frame.at (ats x.callers)
        → Before t (met_by graph plan len (does_op code layout node i.op i.line (at_instr (s.frame.at + 1) s)) met) x
    next_before t met layout node s x i is a on = record {
      inside = λ st' e some. by_inside (place_ s.frame.at) refl on.follows st' e some;
      left = λ entry b. by_left (place_ s.frame.at) refl on.follows entry b;
      returns = on.return;
    }
      where
        by_inside : (o : Option Stands) → place_ s.frame.at ≡ o → Follows len o (place_ x.frame.at) → (st' : Stands) → place_ x.frame.at ≡ Some st' → (st'.number ≡ 0 → ⊥) → st'.point ≡ t
        by_inside None e f st' g some = absurd (comes_from_none (place_ x.frame.at) f st' g some)
        by_inside (Some st) e f st' g some = stays t st (place_ x.frame.at) (a.inside st e) f st' g some

        by_left : (o : Option Stands) → place_ s.frame.at ≡ o → Follows len o (place_ x.frame.at) → IsEntry plan len (place_ x.frame.at) → is_barrier (kind_at graph t) ≡ true
            → met_by graph plan len (does_op code layout node i.op i.line (at_instr (s.frame.at + 1) s)) met ≡ true
        by_left None e f entry b = still_met graph plan len (does_op code layout node i.op i.line (at_instr (s.frame.at + 1) s)) met (a.outside e b)
        by_left (Some st) e f entry b =
            let p : PlaceAt graph plan len (Some st) i.op = subst (λ o. PlaceAt graph plan len o i.op) e (stands_there s.frame.at i is) in
            let same = a.inside st e in
            meets_by graph plan len code layout node i.op i.line (at_instr (s.frame.at + 1) s) met
            (p.1 (ap (λ u. is_barrier (kind_at graph u)) same ∙ b) (is_last st (place_ x.frame.at) f entry))

    asks_more : (A A' : Access → Type 0) (W W' : ℕ → Type 0) (M M' : Bool → Type 0) → ((a : Access) → A a → A' a) → ((c : ℕ) → W c → W' c) → ((b : Bool) → M b → M' b)
        → (move : Move) → MoveAsks A W M move → MoveAsks A' W' M' move
    asks_more A A' W W' M M' f g k (Comes after) h = tt
    asks_more A A' W W' M M' f g k (Issues a after) h = f a h
    asks_more A A' W W' M M' f g k (Waits counter s) h = g counter h
    asks_more A A' W W' M M' f g k (Meets stores s) h = k stores h
    asks_more A A' W W' M M' f g k (Tells text s) h = tt

    -- what is asked at a place
    asks_there : (t : ℕ) (o : Op) (move : Move) (p : Option Stands) → PlaceAt graph plan len p o → ((st : Stands) → p ≡ Some st → st.point ≡ t) → Asks_ o move
        → MoveAsks (AccessAt graph plan t) (λ counter. counter ≡ 0 → kind_at graph t ≡ point.Sync) (λ stores. kind_at graph t ≡ barrier_kind stores) move
    asks_there t o move None h inside asks =
        asks_more (AccessBy o) _ (WaitBy o) _ (MeetBy o) _ (λ a k. outside_asks graph plan len o a h k) (λ c k. outside_waits graph plan len o c h k)
        (λ b k. outside_meets graph plan len o b h k) move asks
    asks_there t o move (Some st) h inside asks =
        let at_t : OpAt graph plan t o = subst (λ u. OpAt graph plan u o) (inside st refl) h.0 in
        asks_more (AccessBy o) _ (WaitBy o) _ (MeetBy o) _ (λ a k. access_is graph plan len t o a at_t k) (λ c k. wait_is graph plan len t o c at_t k)
        (λ b k. meet_is graph plan len t o b at_t k) move asks

    module _ (layout : Arrangement) (node : ℕ) (between : ℕ → ℕ → List ℕ) (empty_none : (now next : ℕ) → All (λ t. is_barrier (kind_at graph t) ≡ true → ⊥) (between now next)) where
      kinds_come : (ts : List ℕ) (now : ℕ) (met : Bool) (t : ℕ) (rest : PointedAsking) → (is_barrier (kind_at graph now) ≡ true → met ≡ true)
          → All (λ t. is_barrier (kind_at graph t) ≡ true → ⊥) ts → Kinds graph plan len t false rest → Kinds graph plan len now met (come_all (ts ++ t ∷ []) rest)
      unfolding Kinds
      kinds_come [] now met t rest left none h = (left, h)
      kinds_come (e ∷ ts) now met t rest left none h = (
        left,
        kinds_come ts e false t rest (λ b. absurd (All-head (λ t. is_barrier (kind_at graph t) ≡ true → ⊥) e ts none b))
            (All-tail (λ t. is_barrier (kind_at graph t) ≡ true → ⊥) e ts none) h,
      )

      kinds_marked : (o : Option Stands) (now : ℕ) (met : Bool) (s : State) (go : ℕ → PointedAsking) → place_ s.frame.at ≡ o → Before now met s
          → ((t : ℕ) (met : Bool) → At t met s → Kinds graph plan len t met (go t)) → Kinds graph plan len now met (marked between now (entered_at o) go)
      kinds_marked None now met s go e before next =
          next now met (record {
            inside = λ st f. absurd (cc);
            outside = λ f b. before.left (subst (IsEntry plan len) (sym e) tt) b;
            returns = before.returns;
          })
      kinds_marked (Some st) now met s go e before next = by_number (st.number == 0) (λ h. (Decides-eqb st.number 0).0 h) (λ h. (Decides-eqb st.number 0).1 h)
        where
          by_number : (b : Bool) → (b ≡ true → st.number ≡ 0) → (st.number ≡ 0 → b ≡ true)
              → Kinds graph plan len now met (marked between now (if b then Some st.point else None) go)
          by_number true zero_ _ =
              kinds_come (between now st.point) now met st.point (go st.point) (λ b. before.left (subst (IsEntry plan len) (sym e) (zero_ refl)) b) (empty_none now st.point)
              (next st.point false (record {
                inside = λ st' f. let same : st ≡ st' = cc in sym (ap (λ (x : Stands). x.point) same);
                outside = λ f b. absurd (cc);
                returns = before.returns;
              }))
          by_number false _ some =
              next now met (record {
                inside = λ st' f. before.inside st' f (λ z. let same : st ≡ st' = cc in let g = some (ap (λ (x : Stands). x.number) same ∙ z) in absurd (cc));
                outside = λ f b. absurd (cc);
                returns = before.returns;
              })

      module _ (pieces : List Piece) (same : (pc : ℕ) → stands_at plan pieces pc ≡ place_ pc) where
        kinds_step : (t : ℕ) (met : Bool) (s : State) (o : Option Instr) (go : State → PointedAsking) → slice_get code.instrs s.frame.at ≡ o → At t met s
            → ((x : State) (met : Bool) → Before t met x → Kinds graph plan len t met (go x))
            → Kinds graph plan len t met (asked_by layout go (does_instr code layout node o s))
        kinds_step t met s None go e a next = kinds_move graph plan len t met layout go (Comes Sticks) tt (λ x l. absurd l)
        kinds_step t met s (Some i) go e a next =
            let s' = at_instr (s.frame.at + 1) s in
            kinds_move graph plan len t met layout go (does_op code layout node i.op i.line s')
            (asks_there t i.op (does_op code layout node i.op i.line s') (place_ s.frame.at) (stands_there s.frame.at i e) a.inside (op_asks code layout node i.op i.line s'))
            (λ x l. next x (met_by graph plan len (does_op code layout node i.op i.line s') met)
            (next_before t met layout node s x i e a
            (step_on code functions plan len laid layout node s x a.returns (subst (λ o. Leads layout (does_instr code layout node o s) x) (sym e) l))))

        used_up : (now : ℕ) (met : Bool) → Kinds graph plan len now met (Stops UsedUp)
        unfolding Kinds
        used_up now met = tt

        pub kinds_from : (many now : ℕ) (met : Bool) (s : State) → Before now met s
            → Kinds graph plan len now met (points_from code layout plan pieces between node many now s)
        kinds_from zero now met s before = used_up now met
        kinds_from (suc many) now met s before =
            subst (λ o. Kinds graph plan len now met (marked between now (entered_at o) (λ t. asked_by layout (points_from code layout plan pieces between node many t) (step_of code layout node s))))
            (sym (same s.frame.at))
            (kinds_marked (place_ s.frame.at) now met s (λ t. asked_by layout (points_from code layout plan pieces between node many t) (step_of code layout node s)) refl before
            (λ t met a. kinds_step t met s (slice_get code.instrs s.frame.at) (points_from code layout plan pieces between node many t) refl a
            (λ x met b. kinds_from many t met x b)))
