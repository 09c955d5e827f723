-- Lists of a drawing that are led on, and calls.
use Rattle.std.proofs.Common.{◌≡◌, refl, sym, ap, ◌∙◌, ℕ, List, [], ◌∷◌, ◌++◌, append_assoc}
use Rattle.std.specs.Prelude.{reverse, slice_get, Option, Some, None}
use Rattle.std.specs.Option.{option_map, option_map_or}
use Rattle.std.proofs.lemmas.List.{append-nil, reverse-append}
use Rattle.flow_form.specs.declared.scan.Entry.{Entry}
use Rattle.flow_form.specs.FlowOf.{edge}
use Rattle.flow_draw.specs.Around.{edges_to}
use Rattle.flow_draw.specs.declared.drawing.Drawing.{Drawing}
use Rattle.flow_draw.specs.Drawings.{met_after}

-- with no way on, and with one more at the end
pub after-none : (d : Drawing) → met_after [] d ≡ d
unfolding met_after
after-none d = ap (λ fs. record d { froms = fs }) (append-nil d.froms)

pub after-last : (ways : List ℕ) (t : ℕ) (d : Drawing) → met_after (ways ++ t ∷ []) d ≡ met_after ways (record d { froms = d.froms ++ t ∷ [] })
unfolding met_after
after-last ways t d =
    ap (λ fs. record d { froms = fs }) (ap (λ zs. d.froms ++ zs) (reverse-append ways (t ∷ [])) ∙ sym (append_assoc d.froms (t ∷ []) (reverse ways)))

pub ruleset afters = (after-none, after-last)

-- ---- calls

to_first : (o : Option Entry) (from n : ℕ) → option_map (λ e. e.first) o ≡ Some n
    → option_map_or (λ e. edge from e.first ∷ []) o [] ≡ edge from n ∷ []
to_first None from n h = absurd cc
to_first (Some e) from n h = let s : e.first ≡ n = cc in ap (λ i. edge from i ∷ []) s

to_none : (o : Option Entry) (from : ℕ) → option_map (λ (e : Entry). e.first) o ≡ None
    → option_map_or (λ e. edge from e.first ∷ []) o [] ≡ []
to_none None from h = refl
to_none (Some e) from h = absurd cc

pub edges-first : (entries : List Entry) (from f n : ℕ) → option_map (λ e. e.first) (slice_get entries f) ≡ Some n
    → edges_to entries from (Some f) ≡ edge from n ∷ []
edges-first entries from f n h = to_first (slice_get entries f) from n h

pub edges-none : (entries : List Entry) (from f : ℕ) → option_map (λ (e : Entry). e.first) (slice_get entries f) ≡ None
    → edges_to entries from (Some f) ≡ []
edges-none entries from f h = to_none (slice_get entries f) from h

pub ruleset calls = (edges-first, edges-none, append-nil)
