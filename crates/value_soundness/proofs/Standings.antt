-- Where a node stands after a past: what it was answered, what it has made, and what it does next. Each own event leads
-- it on.
use Rattle.std.proofs.Common.{◌≡◌, ◌≢◌, ℕ, ◌+◌, ◌≤◌, ◌⊎◌, inl, inr, Option, Some, None, Bool, true, false, List, [], ◌∷◌, ◌++◌, length, slice_get, append_assoc, length-append, refl, sym, ap, ◌∙◌, subst, arith}
use Rattle.std.specs.List.{All}
use Rattle.std.proofs.lemmas.List.Elements.{All-cons, All-push, All-weaker}
use Rattle.resumption.specs.Resumption.{run_of}
use Rattle.sc_base.specs.declared.value.End.{End}
use Rattle.sc_base.specs.declared.value.End.TheVariants.{Waiting}
use Rattle.sc_base.specs.declared.value.Place.{Place}
use Rattle.sc_base.specs.declared.value.Value.{Value}
use Rattle.sc_layout.specs.Layout.{Arrangement}
use Rattle.sc_isa.specs.Fitting.{fits, fits_all}
use Rattle.effect_order.specs.Effect.{Effect}
use Rattle.sc_meaning.specs.declared.request.Request.{Request}
use Rattle.sc_meaning.specs.declared.request.Request.TheVariants.{Read, Write, Get, Put, Store, Copy, Sync, Barrier, AllStoreSync}
use Rattle.sc_meaning.specs.Asking.{fits_barrier, Answer, Shown, Landed, Passed, Broken, Halt, SourceDoing}
use Rattle.sc_meaning.specs.Parts.{is_issued}
use Rattle.value_soundness.specs.Lawful.{NamesOnly, AnswerNamesOnly}
use Rattle.value_soundness.proofs.Promises.{then_gets, is_asked, fits_request, Promises}
use Rattle.value_soundness.proofs.Answered.{Leads, leads_on, leads_events, gets_after, gets_after_all, answers}
use Rattle.value_soundness.proofs.Gets.{get_front, get_at, get_next, front_of, GetsAre, no_more, gets_kept, gets_push}
use Rattle.value_soundness.proofs.Effects.{IsOfRequest}

-- what a past says of a node
pub record View : Type 0 where
  pub given : List Answer
  pub made : ℕ
  pub ended : Option End
  pub arrivals : ℕ
  pub releases : ℕ
  pub issued : List ℕ

abbrev pub is_barrier : Request → Bool
is_barrier (Barrier line) = true
is_barrier (AllStoreSync line) = true
is_barrier _ = false

-- the node's last request is a barrier that is not answered
pub record AtBarrier (arrivals releases : ℕ) (events done : List Request) : Type 0 where
  pub before : List Request
  pub barrier : Request
  pub done_is : done ≡ before ++ barrier ∷ []
  pub is : is_barrier barrier ≡ true
  pub unanswered : length events ≤ length before
  pub behind : arrivals ≡ releases + 1

module _ (layout : Arrangement) (exposed : List ℕ) (node : ℕ) (start : SourceDoing) where
  pub record Stands (v : View) (effs : List Effect) : Type 0 where
    -- what was done up to the last answer
    pub events : List Request
    pub rest : SourceDoing
    pub leads : Leads Request Answer Halt start v.given events rest
    pub promises : Promises layout exposed (gets_after [] events) rest
    pub names : All (AnswerNamesOnly exposed) v.given
    -- what was made
    pub done : List Request
    pub later : List Request
    pub run_is : (run_of start v.given).events ≡ done ++ later
    pub made_is : v.made ≡ length done
    pub answered : length events ≤ length done
    pub gets : GetsAre done v.issued (gets_after [] done)
    pub parts : All (IsOfRequest layout exposed node done) effs
    pub kept : v.releases ≤ v.arrivals
    pub stays : v.ended ≡ None → (v.arrivals ≤ v.releases) ⊎ AtBarrier v.arrivals v.releases events done

  -- ---- an answer

  -- what is known of the node once the request is answered, up to which all is made
  record Next (v : View) (before : List Request) (request : Request) (answer : Answer) : Type 0 where
    pub rest : SourceDoing
    pub leads : Leads Request Answer Halt start (v.given ++ answer ∷ []) (before ++ request ∷ []) rest
    pub promises : Promises layout exposed (gets_after [] (before ++ request ∷ [])) rest
    pub names : All (AnswerNamesOnly exposed) (v.given ++ answer ∷ [])

  next : (v : View) (effs : List Effect) (s : Stands v effs) (before : List Request) (request : Request)
      (behind : List Request) (answer : Answer)
      → (run_of start v.given).events ≡ before ++ request ∷ behind → length s.events ≤ length before
      → is_asked request ≡ true → fits_request layout (gets_after [] before) request answer ≡ true
      → AnswerNamesOnly exposed answer → Next v before request answer
  next v effs s before request behind answer e l asks fit names =
      let whole : s.events ++ (run_of s.rest []).events ≡ before ++ request ∷ behind = sym (leads_events s.leads) ∙ e in
      let front = front_of s.events (run_of s.rest []).events before (request ∷ behind) whole l in
      let all : gets_after [] before ≡ gets_after (gets_after [] s.events) front.middle =
      ap (gets_after []) front.before_is ∙ gets_after_all [] s.events front.middle in
      let right : fits_request layout (gets_after (gets_after [] s.events) front.middle) request answer ≡ true =
      subst (λ (ps : List Place). fits_request layout ps request answer ≡ true) all fit in
      let a = answers layout exposed s.rest
      (gets_after [] s.events) front.middle request behind answer s.promises front.rest_is asks right names in
      let list : s.events ++ (front.middle ++ request ∷ []) ≡ before ++ request ∷ [] =
      sym (append_assoc s.events front.middle (request ∷ []))
      ∙ ap (λ (rs : List Request). rs ++ request ∷ []) (sym front.before_is) in
      record {
        rest = a.rest;
        leads = subst (λ (rs : List Request). Leads Request Answer Halt start (v.given ++ answer ∷ []) rs a.rest) list
            (leads_on s.leads (answer ∷ []) (front.middle ++ request ∷ []) a.rest a.leads);
        promises = subst (λ (ps : List Place). Promises layout exposed ps a.rest)
            (ap (λ (ps : List Place). then_gets ps request) (sym all) ∙ sym (gets_after_all [] before
            (request ∷ []))) a.promises;
        names = All-push (AnswerNamesOnly exposed) v.given answer s.names names;
      }

  -- ---- effects

  parts_kept : (done more : List Request) (effs : List Effect) → All (IsOfRequest layout exposed node done) effs
      → All (IsOfRequest layout exposed node (done ++ more)) effs
  parts_kept done more effs h =
      All-weaker (IsOfRequest layout exposed node done) (IsOfRequest layout exposed node (done ++ more))
      (λ e of own. let r = of own in (r.0, get_front done more e.number r.0 r.1, r.2)) effs h

  -- the effect of a request that is no issued one
  own_part : (done : List Request) (request : Request) (e : Effect) → e.number ≡ length done → is_issued request ≡ false
      → IsOfRequest layout exposed node (done ++ request ∷ []) e
  own_part done request e n plain own = (
    request,
    get_at done [] request e.number n,
    λ issued. absurd
        (let no : false ≡ true = sym plain ∙ issued in cc),
  )

  with_effects : (v : View) (effs now : List Effect) (s : Stands v effs)
      → All (IsOfRequest layout exposed node s.done) now → Stands v now
  with_effects v effs now s parts = record {
    events = s.events;
    rest = s.rest;
    leads = s.leads;
    promises = s.promises;
    names = s.names;
    done = s.done;
    later = s.later;
    run_is = s.run_is;
    made_is = s.made_is;
    answered = s.answered;
    gets = s.gets;
    parts = parts;
    kept = s.kept;
    stays = s.stays;
  }

  -- another node's effect
  pub stands_other : (v : View) (effs : List Effect) (e : Effect) → e.node ≢ node → Stands v effs → Stands v (e ∷ effs)
  stands_other v effs e apart s =
      with_effects v effs (e ∷ effs) s
      (All-cons (IsOfRequest layout exposed node s.done) e effs (λ own. absurd (apart own)) s.parts)

  -- the effect of a part
  pub stands_effect : (v : View) (effs : List Effect) (e : Effect) (s : Stands v effs)
      → IsOfRequest layout exposed node s.done e → Stands v (e ∷ effs)
  stands_effect v effs e s of =
      with_effects v effs (e ∷ effs) s (All-cons (IsOfRequest layout exposed node s.done) e effs of s.parts)

  -- ---- requests

  -- the node's next request
  record Following (v : View) (effs : List Effect) (s : Stands v effs) (request : Request) : Type 0 where
    pub tail : List Request
    pub run_is : (run_of start v.given).events ≡ s.done ++ request ∷ tail

  following : (v : View) (effs : List Effect) (s : Stands v effs) (request : Request)
      → slice_get (run_of start v.given).events v.made ≡ Some request → Following v effs s request
  following v effs s request e =
      let b = get_next s.done s.later v.made request s.made_is (subst (λ
      (rs : List Request). slice_get rs v.made ≡ Some request) s.run_is e) in
      record { tail = b.tail; run_is = s.run_is ∙ ap (λ (rs : List Request). s.done ++ rs) b.is }

  one_more : (done : List Request) (request : Request) (n : ℕ) → n ≡ length done → n + 1 ≡ length (done ++ request ∷ [])
  one_more done request n e = let l = length-append done (request ∷ []) in omega (arith, e, l)

  no_longer : (done : List Request) (request : Request) (n : ℕ) → n ≤ length done → n ≤ length (done ++ request ∷ [])
  no_longer done request n e = let l = length-append done (request ∷ []) in omega (arith, e, l)

  -- a request that is not answered is made
  make : (v : View) (effs now : List Effect) (s : Stands v effs) (request : Request) (issued : List ℕ)
      → slice_get (run_of start v.given).events v.made ≡ Some request → v.arrivals ≤ v.releases
      → GetsAre (s.done ++ request ∷ []) issued (gets_after [] (s.done ++ request ∷ []))
      → All (IsOfRequest layout exposed node (s.done ++ request ∷ [])) now
      → Stands (record v { made = v.made + 1; issued = issued }) now
  make v effs now s request issued at free gets parts =
      let f = following v effs s request at in record {
        events = s.events;
        rest = s.rest;
        leads = s.leads;
        promises = s.promises;
        names = s.names;
        done = s.done ++ request ∷ [];
        later = f.tail;
        run_is = f.run_is ∙ sym (append_assoc s.done (request ∷ []) f.tail);
        made_is = one_more s.done request v.made s.made_is;
        answered = no_longer s.done request (length s.events) s.answered;
        gets = gets;
        parts = parts;
        kept = s.kept;
        stays = λ running. inl free;
      }

  -- a request that gets nothing leaves the gets as they are
  gets_same : (done : List Request) (request : Request) (issued : List ℕ)
      → then_gets (gets_after [] done) request ≡ gets_after [] done
      → GetsAre done issued (gets_after [] done)
      → GetsAre (done ++ request ∷ []) issued (gets_after [] (done ++ request ∷ []))
  gets_same done request issued same h =
      subst (GetsAre (done ++ request ∷ []) issued) (sym (gets_after_all [] done (request ∷ []) ∙ same)) (gets_kept
      (request ∷ []) h)

  pub stands_write : (v : View) (effs : List Effect) (e : Effect) (s : Stands v effs) (place : Place)
      (value : Value) (line : ℕ)
      → slice_get (run_of start v.given).events v.made ≡ Some (Write place value line) → v.arrivals ≤ v.releases
      → e.number ≡ v.made → Stands (record v { made = v.made + 1 }) (e ∷ effs)
  stands_write v effs e s place value line at free n =
      let request = Write place value line in
      make v effs (e ∷ effs) s request v.issued at free (gets_same s.done request v.issued refl s.gets)
      (All-cons (IsOfRequest layout exposed node (s.done ++ request ∷ [])) e effs
      (own_part s.done request e (n ∙ s.made_is) refl) (parts_kept s.done (request ∷ []) effs s.parts))

  pub stands_issue : (v : View) (effs : List Effect) (s : Stands v effs) (request : Request) (number : ℕ)
      → slice_get (run_of start v.given).events v.made ≡ Some request → v.arrivals ≤ v.releases
      → is_issued request ≡ true
      → number ≡ v.made → Stands (record v { made = v.made + 1; issued = v.issued ++ number ∷ [] }) effs
  stands_issue v effs s request number at free issued n =
      make v effs effs s request (v.issued ++ number ∷ []) at free
      (subst (GetsAre (s.done ++ request ∷ []) (v.issued ++ number ∷ [])) (sym (gets_after_all [] s.done
      (request ∷ [])))
      (gets_push number request (gets_kept (request ∷ []) s.gets) (get_at s.done [] request number
      (n ∙ s.made_is)) issued))
      (parts_kept s.done (request ∷ []) effs s.parts)

  -- a request that is answered at once is made
  answer_now : (v : View) (effs now : List Effect) (s : Stands v effs) (request : Request) (answer : Answer)
      (issued : List ℕ)
      → slice_get (run_of start v.given).events v.made ≡ Some request → v.arrivals ≤ v.releases
      → is_asked request ≡ true
      → fits_request layout (gets_after [] s.done) request answer ≡ true → AnswerNamesOnly exposed answer
      → GetsAre (s.done ++ request ∷ []) issued (gets_after [] (s.done ++ request ∷ []))
      → All (IsOfRequest layout exposed node (s.done ++ request ∷ [])) now
      → Stands (record v { given = v.given ++ answer ∷ []; made = v.made + 1; issued = issued }) now
  answer_now v effs now s request answer issued at free asks fit names gets parts =
      let f = following v effs s request at in
      let n = next v effs s s.done request f.tail answer f.run_is s.answered asks fit names in record {
        events = s.done ++ request ∷ [];
        rest = n.rest;
        leads = n.leads;
        promises = n.promises;
        names = n.names;
        done = s.done ++ request ∷ [];
        later = (run_of n.rest []).events;
        run_is = leads_events n.leads;
        made_is = one_more s.done request v.made s.made_is;
        answered = omega arith;
        gets = gets;
        parts = parts;
        kept = s.kept;
        stays = λ running. inl free;
      }

  pub stands_read : (v : View) (effs : List Effect) (e : Effect) (s : Stands v effs) (place : Place) (line : ℕ)
      (value : Value)
      → slice_get (run_of start v.given).events v.made ≡ Some (Read place line) → v.arrivals ≤ v.releases
      → fits layout place value ≡ true → NamesOnly exposed value → e.number ≡ v.made
      → Stands (record v { given = v.given ++ Shown value ∷ []; made = v.made + 1 }) (e ∷ effs)
  stands_read v effs e s place line value at free fit names n =
      let request = Read place line in
      answer_now v effs (e ∷ effs) s request (Shown value) v.issued at free refl fit names
      (gets_same s.done request v.issued refl s.gets)
      (All-cons (IsOfRequest layout exposed node (s.done ++ request ∷ [])) e effs
      (own_part s.done request e (n ∙ s.made_is) refl) (parts_kept s.done (request ∷ []) effs s.parts))

  pub stands_sync : (v : View) (effs : List Effect) (s : Stands v effs) (line : ℕ) (values : List Value)
      → slice_get (run_of start v.given).events v.made ≡ Some (Sync line) → v.arrivals ≤ v.releases
      → fits_all layout (gets_after [] s.done) values ≡ true
      → All (NamesOnly exposed) values
      → Stands (record v { given = v.given ++ Landed values ∷ []; made = v.made + 1; issued = [] }) effs
  stands_sync v effs s line values at free fit names =
      let request = Sync line in
      answer_now v effs effs s request (Landed values) [] at free refl fit names
      (subst (GetsAre (s.done ++ request ∷ []) []) (sym (gets_after_all [] s.done (request ∷ []))) no_more)
      (parts_kept s.done (request ∷ []) effs s.parts)

  -- ---- barriers

  barrier_gets : (request : Request) (gets : List Place) → is_barrier request ≡ true → then_gets gets request ≡ gets
  barrier_gets (Barrier line) gets e = refl
  barrier_gets (AllStoreSync line) gets e = refl
  barrier_gets (Read place line) gets e = absurd (cc)
  barrier_gets (Write place value line) gets e = absurd (cc)
  barrier_gets (Get place line) gets e = absurd (cc)
  barrier_gets (Put place value line) gets e = absurd (cc)
  barrier_gets (Store place value line) gets e = absurd (cc)
  barrier_gets (Copy from to cells mode line) gets e = absurd (cc)
  barrier_gets (Sync line) gets e = absurd (cc)

  pub stands_arrive : (v : View) (effs : List Effect) (s : Stands v effs) (request : Request)
      → slice_get (run_of start v.given).events v.made ≡ Some request → is_barrier request ≡ true
      → v.arrivals ≤ v.releases
      → Stands (record v { made = v.made + 1; arrivals = v.arrivals + 1 }) effs
  stands_arrive v effs s request at is free =
      let f = following v effs s request at in
      let kept = s.kept in record {
        events = s.events;
        rest = s.rest;
        leads = s.leads;
        promises = s.promises;
        names = s.names;
        done = s.done ++ request ∷ [];
        later = f.tail;
        run_is = f.run_is ∙ sym (append_assoc s.done (request ∷ []) f.tail);
        made_is = one_more s.done request v.made s.made_is;
        answered = no_longer s.done request (length s.events) s.answered;
        gets = gets_same s.done request v.issued (barrier_gets request (gets_after [] s.done) is) s.gets;
        parts = parts_kept s.done (request ∷ []) effs s.parts;
        kept = omega (arith, kept);
        stays = λ running. inr (record {
          before = s.done;
          barrier = request;
          done_is = refl;
          is = is;
          unanswered = s.answered;
          behind = omega (arith, free, kept);
        });
      }

  barrier_asks : (request : Request) → is_barrier request ≡ true → is_asked request ≡ true
  barrier_asks (Barrier line) e = refl
  barrier_asks (AllStoreSync line) e = refl
  barrier_asks (Read place line) e = absurd (cc)
  barrier_asks (Write place value line) e = absurd (cc)
  barrier_asks (Get place line) e = absurd (cc)
  barrier_asks (Put place value line) e = absurd (cc)
  barrier_asks (Store place value line) e = absurd (cc)
  barrier_asks (Copy from to cells mode line) e = absurd (cc)
  barrier_asks (Sync line) e = absurd (cc)

  barrier_fits : (request : Request) (gets : List Place) (answer : Answer) → is_barrier request ≡ true
      → fits_barrier answer ≡ true → fits_request layout gets request answer ≡ true
  barrier_fits (Barrier line) gets answer e fit = fit
  barrier_fits (AllStoreSync line) gets answer e fit = fit
  barrier_fits (Read place line) gets answer e fit = absurd (cc)
  barrier_fits (Write place value line) gets answer e fit = absurd (cc)
  barrier_fits (Get place line) gets answer e fit = absurd (cc)
  barrier_fits (Put place value line) gets answer e fit = absurd (cc)
  barrier_fits (Store place value line) gets answer e fit = absurd (cc)
  barrier_fits (Copy from to cells mode line) gets answer e fit = absurd (cc)
  barrier_fits (Sync line) gets answer e fit = absurd (cc)

  -- the barrier is answered at which the node stands
  answer_barrier : (v : View) (effs : List Effect) (s : Stands v effs) (answer : Answer) (ended : Option End)
      (releases : ℕ)
      → AtBarrier v.arrivals v.releases s.events s.done → fits_barrier answer ≡ true
      → AnswerNamesOnly exposed answer → releases ≤ v.arrivals → (ended ≡ None → v.arrivals ≤ releases)
      → Stands (record v { given = v.given ++ answer ∷ []; ended = ended; releases = releases }) effs
  answer_barrier v effs s answer ended releases b fit names kept free =
      let whole : (run_of start v.given).events ≡ b.before ++ b.barrier ∷ s.later =
      s.run_is ∙ ap (λ (rs : List Request). rs ++ s.later) b.done_is ∙ append_assoc b.before (b.barrier ∷ []) s.later in
      let n = next v effs s b.before b.barrier s.later answer whole b.unanswered (barrier_asks b.barrier b.is)
      (barrier_fits b.barrier (gets_after [] b.before) answer b.is fit) names in record {
        events = b.before ++ b.barrier ∷ [];
        rest = n.rest;
        leads = n.leads;
        promises = n.promises;
        names = n.names;
        done = s.done;
        later = (run_of n.rest []).events;
        run_is = leads_events n.leads ∙ ap (λ (rs : List Request). rs ++ (run_of n.rest []).events) (sym b.done_is);
        made_is = s.made_is;
        answered = subst (λ (rs : List Request). length rs ≤ length s.done) b.done_is (omega arith);
        gets = s.gets;
        parts = s.parts;
        kept = kept;
        stays = λ running. inl (free running);
      }

  -- ---- releases and ends

  pub stands_release : (v : View) (effs : List Effect) (s : Stands v effs) → v.ended ≡ None
      → v.releases + 1 ≤ v.arrivals
      → Stands (record v { given = v.given ++ Passed ∷ []; releases = v.releases + 1 }) effs
  stands_release v effs s running arrived =
      elim (s.stays running) [
        | inl free ↦ absurd (let no : ⊥ = omega (arith, free, arrived) in no)
        | inr b ↦ answer_barrier v effs s Passed v.ended (v.releases + 1) b refl tt arrived
            (λ none. let at = b.behind in omega (arith, at))
      ]

  pub stands_waiting : (v : View) (effs : List Effect) (s : Stands v effs) → v.ended ≡ None
      → v.arrivals ≡ v.releases + 1
      → Stands (record v { given = v.given ++ Broken ∷ []; ended = Some Waiting }) effs
  stands_waiting v effs s running at =
      elim (s.stays running) [
        | inl free ↦ absurd (let no : ⊥ = omega (arith, free, at) in no)
        | inr b ↦ answer_barrier v effs s Broken (Some Waiting) v.releases b refl tt s.kept (λ none. absurd (cc))
      ]

  pub stands_end : (v : View) (effs : List Effect) (end : End) (s : Stands v effs)
      → Stands (record v { ended = Some end }) effs
  stands_end v effs end s = record {
    events = s.events;
    rest = s.rest;
    leads = s.leads;
    promises = s.promises;
    names = s.names;
    done = s.done;
    later = s.later;
    run_is = s.run_is;
    made_is = s.made_is;
    answered = s.answered;
    gets = s.gets;
    parts = s.parts;
    kept = s.kept;
    stays = λ none. absurd (cc);
  }
