-- The points of single steps: what kind each is, what it sets and accesses, and whom it calls.
use Rattle.std.specs.Prelude.{ℕ, suc, List, [], ◌++◌, ltb, Option, Some, None}
use Rattle.sc_core.specs.declared.operation.Operation.{Operation}
use Rattle.sc_core.specs.declared.operation.Operation.TheVariants as does
use Rattle.sc_core.specs.declared.operation.Action.{Action}
use Rattle.sc_core.specs.declared.operation.Action.TheVariants as acts
use Rattle.sc_core.specs.Core.{Arguments}
use Rattle.site_graph.specs.declared.point.PointKind.{PointKind}
use Rattle.site_graph.specs.declared.point.PointKind.TheVariants.{Plain, Access, Sync, Barrier, StoreSync, Call}
use Rattle.site_graph.specs.declared.site.Form.{Form}
use Rattle.site_graph.specs.declared.site.Site.{Site}
use Rattle.site_graph.specs.declared.site.SiteKind.{SiteKind}
use Rattle.site_graph.specs.declared.site.SiteKind.TheVariants.{Read, Write, Get, Put, Store, Copy}
use Rattle.site_graph.specs.Rising.{rising}
use Rattle.flow_form.specs.Within.{Within, Placed}
use Rattle.flow_form.specs.Written.{set_by, set_by_action}
use Rattle.flow_form.specs.Forms.{form_at}
use Rattle.flow_form.specs.Occurring.{mark}

-- ---- kinds; an access is that of this site

abbrev pub kind_of : Operation → (site : ℕ) → PointKind
kind_of does.Read site = Access site
kind_of does.Write site = Access site
kind_of (does.Call f n) site = Call
kind_of _ site = Plain

abbrev pub kind_of_action : Action → (site : ℕ) → PointKind
kind_of_action (acts.Fill x) site = Access site
kind_of_action (acts.Get x) site = Access site
kind_of_action acts.Put site = Access site
kind_of_action acts.Send site = Access site
kind_of_action (acts.Copy mode) site = Access site
kind_of_action acts.Sync site = Sync
kind_of_action acts.Barrier site = Barrier
kind_of_action acts.AllStoreSync site = StoreSync
kind_of_action _ site = Plain

abbrev pub callee_of : Operation → Option ℕ
callee_of (does.Call f n) = Some f
callee_of _ = None

-- ---- accesses, by the places among the arguments

abbrev pub site_with : SiteKind → (line : ℕ) → (reads writes : Option Form) →
    (fills : Option ℕ) → Option Site
site_with kind line reads writes fills =
    Some (record { kind = kind; line = line; reads = reads; writes = writes; fills = fills })

abbrev pub site_of : Within → Operation → Arguments → (line : ℕ) → Option Site
site_of w does.Read arguments line = site_with Read line (Some (form_at w arguments 0)) None None
site_of w does.Write arguments line = site_with Write line None (Some (form_at w arguments 0)) None
site_of w _ arguments line = None

abbrev pub site_of_action : Within → Action → Arguments → (line : ℕ) → Option Site
site_of_action w (acts.Fill x) arguments line = site_with Read line (Some (form_at w arguments 0)) None (Some x)
site_of_action w (acts.Get x) arguments line = site_with Get line (Some (form_at w arguments 0)) None None
site_of_action w acts.Put arguments line = site_with Put line None (Some (form_at w arguments 0)) None
site_of_action w acts.Send arguments line = site_with Store line None (Some (form_at w arguments 0)) None
site_of_action w (acts.Copy mode) arguments line =
    site_with (Copy mode) line (Some (form_at w arguments 1)) (Some (form_at w arguments 0)) None
site_of_action w _ arguments line = None

-- ---- points

-- A filling read and a get fetch from memory what the local becomes.
abbrev pub fetched_into : Action → List ℕ
fetched_into (acts.Fill x) = mark
fetched_into (acts.Get x) = mark
fetched_into _ = []

-- what no access is and calls nothing: a test, a turn, a return, or the first point of a function
abbrev pub bare : Within → PointKind → (t : ℕ) → (froms takes reads : List ℕ) → Placed
bare w kind t froms takes reads = record {
  at = t;
  froms = froms;
  callee = None;
  point = record { kind = kind; function = w.function; takes = takes; reads = rising ltb reads; writes = None };
  site = None;
}

-- the step of an operation at the point t, behind s sites; `reads` are the locals that occur, with the node mark
abbrev pub step_at : Within → Operation → Arguments → (line t s : ℕ) →
    (froms takes reads : List ℕ) → Placed
step_at w operation arguments line t s froms takes reads = record {
  at = t;
  froms = froms;
  callee = callee_of operation;
  point = record {
    kind = kind_of operation (suc s);
    function = w.function;
    takes = takes;
    reads = rising ltb reads;
    writes = set_by operation;
  };
  site = site_of w operation arguments line;
}

abbrev pub action_at : Within → Action → Arguments → (line t s : ℕ) →
    (froms takes reads : List ℕ) → Placed
action_at w action arguments line t s froms takes reads = record {
  at = t;
  froms = froms;
  callee = None;
  point = record {
    kind = kind_of_action action (suc s);
    function = w.function;
    takes = takes;
    reads = rising ltb (reads ++ fetched_into action);
    writes = set_by_action action;
  };
  site = site_of_action w action arguments line;
}
