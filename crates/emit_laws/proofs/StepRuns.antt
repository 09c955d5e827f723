-- The run of a step does what the step does.
use Rattle.std.proofs.Common.{◌≡◌, inl, ℕ, suc, ◌+◌, ◌≤◌, List, [], ◌∷◌, length, Option, Some, None, refl, sym, ap, ◌∙◌, subst}
use Rattle.resumption.specs.Resumption.{Asks}
use Rattle.sc_base.specs.declared.value.Value.{Value}
use Rattle.sc_isa.specs.Deeds.{Made, makes, faults, stuck, uses, sets, reads, writes, calls, Done, lets_go, ends, sticks, clears, prints, fills, gets, misses, puts, sends, copies, waits, meets}
use Rattle.sc_core.specs.declared.operation.Operation.{Operation}
use Rattle.sc_core.specs.declared.operation.Operation.TheVariants as does
use Rattle.sc_core.specs.declared.operation.Action.{Action}
use Rattle.sc_core.specs.declared.operation.Action.TheVariants as acts
use Rattle.sc_core.specs.Table.{made_of, done_of}
use Rattle.sc_meaning.specs.declared.request.Request.TheVariants as request
use Rattle.sc_meaning.specs.Asking.{PointedDoing, Requested, fits_read}
use Rattle.sc_meaning.specs.Memory.{has, slot, with_slot}
use Rattle.sc_meaning.specs.Steps.{Rest, Calls, used, shown_or_zero, perform, enact, mode_of}
use Rattle.sc_meaning.specs.Meaning.{pass, calls_by}
use Rattle.meaning_laws.specs.StepTable.{arguments_of, arguments_of_action, HasRow}
use Rattle.flow_form.specs.Exits.{fetched_by, behind}
use Rattle.flow_form.specs.Steps.{callee_of}
use Rattle.emit_laws.proofs.Parts.{In, Setup, named, touched, CallOf, FetchesBy, FillsBy, Touches, FlowStep, FlowAct, StepAt, ActAt}
use Rattle.emit_laws.proofs.Ghosts.{Thing, val, awaited, plain, slot_of, Token, Holder, World, memory_of, Worth, worths, things, onto, Stage, between, stepping, acting, limit, entered, Ready, token, flown, one_more, into, with_get, fetched, got, after_sync, Runs, enter, step_makes, step_faults, step_breaks, step_uses, step_sets, step_reads, step_writes, act_lets_go, act_ends, act_breaks, act_clears, act_fills, act_gets, act_misses, act_puts, act_sends, act_copies, act_syncs, act_meets, act_prints}
use Rattle.emit_laws.proofs.Cells.{slot_is, put_memory, get_memory, sync_memory, HeldAll, held_top, held_all, Comes, AllCome, all_may, Had, had}
use Rattle.emit_laws.proofs.DeedsMade.{MadeBy, made_table, DoneBy, done_table}

module _ (c : Setup) (value : ℕ → Value) where
  -- a call, where n frames more may stand
  abbrev pub CallsRun : ℕ → Type 0
  CallsRun n =
      (f count site line : ℕ) (xs : List Worth) (fns : List ℕ) (stack rest : List Thing) (frames : List Holder) (end bound : ℕ)
      (go : Value → Rest) (w : World)
      → n + length frames ≡ limit → Ready c count w.at stack xs rest → CallOf c (Some f) w.at → HasRow c.code (does.Call f count)
      → w.left ≤ bound → HeldAll c fns w.cells
      → ((v : Value) (w : World) → w.left ≤ bound → In w.at (c.returns f) → HeldAll c fns w.cells
      → Runs c value (between end) (plain v ∷ rest) frames w (go v (memory_of w) w.left))
      → Runs c value (stepping (does.Call f count) site line end) stack frames w (calls_by c.here n f (worths xs) line go (memory_of w) w.left)

  module _ (n : ℕ) (calls_run : CallsRun n) (fn : ℕ) (fns : List ℕ) (frames : List Holder) (room : n + length frames ≡ limit) where
    abbrev Calls_ : Calls
    Calls_ = calls_by c.here n

    abbrev pub At : Stage → List Thing → World → PointedDoing → Type 0
    At stage stack w d = Runs c value stage stack frames w d

    -- with a value on top the code goes on at `end` as the source does
    abbrev pub Then : (sites exits : List ℕ) → ℕ → List Thing → ℕ → (Value → Rest) → Type 0
    Then sites exits end rest bound go =
        (v : Value) (from : Option Token) (w : World) → w.left ≤ bound → In w.at exits → HeldAll c (fn ∷ fns) w.cells → Comes c sites from
        → At (between end) (val v from ∷ rest) w (go v (memory_of w) w.left)

    abbrev pub From : List ℕ → ℕ → List Thing → ℕ → Rest → Type 0
    From froms pc stack bound rest =
        (w : World) → w.left ≤ bound → In w.at froms → HeldAll c (fn ∷ fns) w.cells → At (between pc) stack w (rest (memory_of w) w.left)

    slot_run : (stage : Stage) (stack : List Thing) (line x : ℕ) (go : Value → PointedDoing) (w : World) (h : Had c w x)
        → At stage stack w (used line (slot_of h.cell) go) → At stage stack w (used line (slot (memory_of w) x) go)
    slot_run stage stack line x go w h r = subst (λ s. At stage stack w (used line s go)) (sym (slot_is w x h.cell h.local.is)) r

    at_own : (t : ℕ) (o : Option ℕ) → o ≡ None → In t (behind c.returns o t)
    at_own t o e = subst (λ o. In t (behind c.returns o t)) (sym e) (inl refl)

    op_runs : (o : Operation) (s line end : ℕ) (xs : List Worth) (stack rest : List Thing) (bound : ℕ) (go : Value → Rest) (w : World)
        → Ready c (arguments_of o) w.at stack xs rest → ((x : ℕ) → In x (named o) → Touches c fn w.at x) → FetchesBy c o w.at (suc s)
        → CallOf c (callee_of o) w.at → HasRow c.code o → w.left ≤ bound → HeldAll c (fn ∷ fns) w.cells
        → Then (fetched_by o s) (behind c.returns (callee_of o) w.at) end rest bound go
        → (m : Made) → made_of c.here.layout c.here.node o (worths xs) ≡ m → MadeBy o m
        → At (stepping o (suc s) line end) stack w (perform c.here.layout Calls_ m line go (memory_of w) w.left)
    op_runs o s line end xs stack rest bound go w ready touch fetch call row le held next (makes v) e by =
        step_makes xs v ready e (next v None w le (at_own w.at (callee_of o) by) held tt)
    op_runs o s line end xs stack rest bound go w ready touch fetch call row le held next (faults kind) e by = step_faults xs kind ready e
    op_runs o s line end xs stack rest bound go w ready touch fetch call row le held next stuck e by = step_breaks xs ready e
    op_runs o s line end xs stack rest bound go w ready touch fetch call row le held next (uses x) e by =
        let h = had c fn x fns w (touch x by.0) held in
        slot_run _ stack line x _ w h (step_uses xs x ready e h.cell h.local
        (λ v from is. next v None w le (at_own w.at (callee_of o) by.1) held tt))
    op_runs o s line end xs stack rest bound go w ready touch fetch call row le held next (sets x v) e by =
        let h = had c fn x fns w (touch x by.0) held in
        let w' : World = into c w x (plain v) in
        slot_run _ stack line x _ w h (step_sets xs x v ready e h.cell h.local (λ old from is.
        subst (λ m. At (between end) (plain v ∷ rest) w' (go v m w.left)) (put_memory c w x (plain v))
        (next v None w' le (at_own w.at (callee_of o) by.1) (held_top c fn fns w.cells x (plain v) tt held) tt)))
    op_runs o s line end xs stack rest bound go w ready touch fetch call row le held next (reads p) e by =
        step_reads xs p ready e (subst (λ o. FetchesBy c o w.at (suc s)) by fetch)
        (λ fit. next (value w.accesses) (Some (token c w (suc s) p)) (flown c w (suc s) p) le
        (subst (λ o. In w.at (behind c.returns (callee_of o) w.at)) (sym by) (inl refl)) held
        (subst (λ o. In (suc s) (fetched_by o s)) (sym by) (inl refl)))
    op_runs o s line end xs stack rest bound go w ready touch fetch call row le held next (writes p v) e by =
        step_writes xs p v ready e (next v None (one_more c w) le (at_own w.at (callee_of o) (ap callee_of by)) held tt)
    op_runs o s line end xs stack rest bound go w ready touch fetch call row le held next (calls f vs) e by =
        subst (λ o. At (stepping o (suc s) line end) stack w (calls_by c.here n f vs line go (memory_of w) w.left)) (sym by.1)
        (subst (λ vs. At (stepping (does.Call f by.0) (suc s) line end) stack w (calls_by c.here n f vs line go (memory_of w) w.left))
        (given_values by.0 (subst (λ o. made_of c.here.layout c.here.node o (worths xs) ≡ calls f vs) by.1 e))
        (calls_run f by.0 (suc s) line xs (fn ∷ fns) stack rest frames end bound go w room
        (subst (λ o. Ready c (arguments_of o) w.at stack xs rest) by.1 ready) (subst (λ o. CallOf c (callee_of o) w.at) by.1 call)
        (subst (λ o. HasRow c.code o) by.1 row) le held
        (λ v w' le' at_ held'. next v None w' le' (subst (λ o. In w'.at (behind c.returns (callee_of o) w.at)) (sym by.1) at_) held' tt)))
      where
        given_values : (count : ℕ) → made_of c.here.layout c.here.node (does.Call f count) (worths xs) ≡ calls f vs → worths xs ≡ vs
        given_values count e = cc

    pub step_runs : (o : Operation) (line t s : ℕ) (froms sites : List ℕ) (pc end count : ℕ) (xs : List Worth) (rest : List Thing) (bound : ℕ) (go : Value → Rest)
        → FlowStep c fn o t (suc s) froms sites → StepAt c o count t (suc s) pc line end → length xs ≡ count → AllCome c sites xs
        → Then (fetched_by o s) (behind c.returns (callee_of o) t) end rest bound go
        → From froms pc (onto (things xs) rest) bound
        (λ m left. pass t (perform c.here.layout Calls_ (made_of c.here.layout c.here.node o (worths xs)) line go m left))
    step_runs o line t s froms sites pc end count xs rest bound go flow code counted come next w le at_ held =
        enter t (flow.enter w.at at_) (record { counted = refl; at_site = code.at_site; row = code.row; run = code.run })
        (op_runs o s line end xs (onto (things xs) rest) rest bound go (entered c t w)
        (record { is = refl; count = counted ∙ code.counted; may = all_may c t xs sites flow.taken come }) flow.touches flow.fetches flow.called
        code.row le held next (made_of c.here.layout c.here.node o (worths xs)) refl (made_table c.here.layout c.here.node o (worths xs)))

    -- ---- steps without a value

    deed_runs : (a : Action) (site line end : ℕ) (xs : List Worth) (stack rest : List Thing) (bound : ℕ) (after : Rest) (w : World)
        → Ready c (arguments_of_action a) w.at stack xs rest → ((x : ℕ) → In x (touched a) → Touches c fn w.at x) → FillsBy c fn a w.at site
        → w.left ≤ bound → HeldAll c (fn ∷ fns) w.cells → From (w.at ∷ []) end rest bound after
        → (d : Done) → done_of c.here.layout c.here.program.texts a (worths xs) ≡ d → DoneBy a d
        → At (acting a site line end) stack w (enact c.here.layout (mode_of a) d line after (memory_of w) w.left)
    deed_runs a site line end xs stack rest bound after w ready touch fill le held next lets_go e by =
        act_lets_go xs ready e (next w le (inl refl) held)
    deed_runs a site line end xs stack rest bound after w ready touch fill le held next (ends kind) e by = act_ends xs kind ready e
    deed_runs a site line end xs stack rest bound after w ready touch fill le held next sticks e by = act_breaks xs ready e
    deed_runs a site line end xs stack rest bound after w ready touch fill le held next (clears x v) e by =
        let h = had c fn x fns w (touch x by) held in
        let w' : World = into c w x (plain v) in
        slot_run _ stack line x _ w h (act_clears xs x v ready e h.cell h.local (λ old from is.
        subst (λ m. At (between end) rest w' (after m w.left)) (put_memory c w x (plain v))
        (next w' le (inl refl) (held_top c fn fns w.cells x (plain v) tt held))))
    deed_runs a site line end xs stack rest bound after w ready touch fill le held next (prints text) e by =
        act_prints xs text ready e (next w le (inl refl) held)
    deed_runs a site line end xs stack rest bound after w ready touch fill le held next (fills x p) e by =
        let h = had c fn x fns w (touch x (subst (λ a. In x (touched a)) (sym by) (inl refl))) held in
        let filled : FillsBy c fn (acts.Fill x) w.at site = subst (λ a. FillsBy c fn a w.at site) by fill in
        let new : Thing = fetched c value w site p in
        let w' : World = into c (flown c w site p) x new in
        subst (λ s. At (acting a site line end) stack w (Asks (Requested (request.Read p line)) (fits_read c.here.layout p)
        (λ answer. used line s (λ old. after (with_slot (memory_of w) x (has (shown_or_zero answer))) w.left))))
        (sym (slot_is w x h.cell h.local.is))
        (act_fills (λ answer old. after (with_slot (memory_of w) x (has (shown_or_zero answer))) w.left) xs x p ready e filled.0 h.cell h.local
        (λ fit old from is.
        subst (λ m. At (between end) rest w' (after m w.left)) (put_memory c (flown c w site p) x new)
        (next w' le (inl refl) (held_top c fn fns w.cells x new filled.1 held))))
    deed_runs a site line end xs stack rest bound after w ready touch fill le held next (gets x p) e by =
        let h = had c fn x fns w (touch x by) held in
        let w' : World = with_get c w x p in
        slot_run _ stack line x _ w h (act_gets xs x p ready e h.cell h.local (λ old from is.
        subst (λ m. At (between end) rest w' (after m w.left)) (get_memory c w x p)
        (next w' le (inl refl) (held_top c fn fns w.cells x (awaited (length w.getting)) tt held))))
    deed_runs a site line end xs stack rest bound after w ready touch fill le held next (misses x kind) e by =
        let h = had c fn x fns w (touch x by) held in
        slot_run _ stack line x _ w h (act_misses xs x kind ready e h.cell h.local)
    deed_runs a site line end xs stack rest bound after w ready touch fill le held next (puts p v) e by =
        act_puts xs p v ready e (next (one_more c w) le (inl refl) held)
    deed_runs a site line end xs stack rest bound after w ready touch fill le held next (sends p v) e by =
        act_sends xs p v ready e (next (one_more c w) le (inl refl) held)
    deed_runs a site line end xs stack rest bound after w ready touch fill le held next (copies from to cells) e by =
        act_copies xs from to cells ready e (next (one_more c w) le (inl refl) held)
    deed_runs a site line end xs stack rest bound after w ready touch fill le held next (waits counter) e by =
        act_syncs xs ready (e ∙ ap waits by) (λ fit.
        subst (λ m. At (between end) rest (after_sync c value w) (after m w.left)) (sync_memory c value w)
        (next (after_sync c value w) le (inl refl) (held_all c (fn ∷ fns) w.getting (got c value w) w.cells held)))
    deed_runs a site line end xs stack rest bound after w ready touch fill le held next (meets stores) e by =
        act_meets xs stores ready e (next w le (inl refl) held)

    pub action_runs : (a : Action) (line t site : ℕ) (froms sites : List ℕ) (pc end count : ℕ) (xs : List Worth) (rest : List Thing) (bound : ℕ) (after : Rest)
        → FlowAct c fn a t site froms sites → ActAt c a count t site pc line end → length xs ≡ count → AllCome c sites xs
        → From (t ∷ []) end rest bound after
        → From froms pc (onto (things xs) rest) bound
        (λ m left. pass t (enact c.here.layout (mode_of a) (done_of c.here.layout c.here.program.texts a (worths xs)) line after m left))
    action_runs a line t site froms sites pc end count xs rest bound after flow code counted come next w le at_ held =
        enter t (flow.enter w.at at_) (record { counted = refl; at_site = code.at_site; run = code.run })
        (deed_runs a site line end xs (onto (things xs) rest) rest bound after (entered c t w)
        (record { is = refl; count = counted ∙ code.counted; may = all_may c t xs sites flow.taken come }) flow.touches flow.fills le held next
        (done_of c.here.layout c.here.program.texts a (worths xs)) refl (done_table c.here.layout c.here.program.texts a (worths xs)))
