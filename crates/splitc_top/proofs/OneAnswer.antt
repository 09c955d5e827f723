-- A source has one answer: it serves the command, or it is outside for one reason, which is the reason told.
use Rattle.std.proofs.Common.{◌≡◌, ◌≢◌, ℕ, ◌+◌, ◌<◌, ◌≤◌, List, [], ◌++◌, Option, Some, None, refl}
use Rattle.std.proofs.Common.{sym, ap, ◌∙◌, subst, arith, length, length-append, inl}
use Rattle.std.proofs.lemmas.List.{append-nil}
use Rattle.std.specs.Io.KnownBytes.{Consumes, IsAtEnd}
use Rattle.sc_io.specs.Streams.{Rose}
use Rattle.sc_base.specs.declared.limits.TheConstants.{LIMITS}
use Rattle.sc_core.specs.Core.{Program}
use Rattle.flow_form.specs.Accesses.{accesses_of}
use Rattle.node_emit.specs.Whole.{AreWithin}
use Rattle.splitc_compile.proofs.Answered.{compilable_not_refused, refused_once}
use Rattle.splitc_compile.specs.Compiled.{Parts}
use Rattle.splitc_top.specs.declared.words.Command.{Command}
use Rattle.splitc_top.specs.declared.reason.Reason.{Reason}
use Rattle.splitc_top.specs.declared.reason.Reason.TheVariants as reason
use Rattle.run_report.specs.declared.status.Status.{Status}
use Rattle.run_report.specs.declared.status.Status.TheVariants.{Refused}
use Rattle.splitc_top.specs.declared.words.Command.TheVariants.{Run, Explain, Compile, Delays}
use Rattle.splitc_top.specs.Words.{nodes_of}
use Rattle.splitc_top.specs.Reasons.{Serves, IsOutside, IsRefused, IsReadFor, Holds, status_of_reason}
use Rattle.run_texts.specs.Runs.{shown}
use Rattle.splitc_top.specs.Texts.{Writes, IsMadeFor, IsTextOf}
use Rattle.splitc_top.specs.Top.{IsReport, IsReported}
use Rattle.splitc_top.proofs.Statuses.{run_reports}

-- ---- of one command

module _ (bytes : List ℕ) where
  -- a source that serves a command is not outside
  pub not_outside : (command : Command) → Serves command bytes → (r : Reason) → IsOutside command bytes r → ⊥
  not_outside command s reason.Words h = h
  not_outside command s reason.TooLong h = let short = s.short in omega (arith, h, short)
  not_outside command s (reason.Refused r) h = compilable_not_refused bytes (nodes_of command) r s.compilable h.1
  not_outside command s reason.Read h = h
  not_outside command s reason.Memory h = h

  -- a source is outside for one reason
  pub one_reason : (command : Command) (r s : Reason) → IsOutside command bytes r → IsOutside command bytes s → r ≡ s
  one_reason command reason.Words s a b = absurd a
  one_reason command reason.Read s a b = absurd a
  one_reason command reason.Memory s a b = absurd a
  one_reason command r reason.Words a b = absurd b
  one_reason command r reason.Read a b = absurd b
  one_reason command r reason.Memory a b = absurd b
  one_reason command reason.TooLong reason.TooLong a b = refl
  one_reason command reason.TooLong (reason.Refused s) a b = absurd (omega (arith, a, b.0))
  one_reason command (reason.Refused r) reason.TooLong a b = absurd (omega (arith, b, a.0))
  one_reason command (reason.Refused r) (reason.Refused s) a b =
      ap reason.Refused (refused_once bytes (nodes_of command) r s a.1 b.1)

  pub outside_status : (command : Command) (r : Reason) → IsOutside command bytes r → status_of_reason r ≡ Refused
  outside_status command reason.Words h = absurd h
  outside_status command reason.TooLong h = refl
  outside_status command (reason.Refused r) h = refl
  outside_status command reason.Read h = absurd h
  outside_status command reason.Memory h = absurd h

-- ---- texts

-- a source that was compiled for a command serves it
made_serves : (command : Command) (given : List ℕ) (parts : Parts) → IsMadeFor command given parts → Serves command given
made_serves command given parts made = let are = made.compiled.are_parts in record {
  short = made.short;
  compilable = record {
    names = parts.names;
    typed = parts.typed;
    layout = parts.layout;
    accepted = made.compiled.accepted;
    few_sites = subst (λ (p : Program). accesses_of p ≤ LIMITS.sites) are.core_is are.few_sites;
    few_locals = subst AreWithin are.core_is are.few_locals;
  };
}

-- and so does one that has a text
text_serves : (command : Command) (made : Option Parts) (given text : List ℕ) (status : Status)
    → IsTextOf command made given text status → Serves command given
text_serves command made given text status t = made_serves command given t.parts t.made_for

writing_reports : (command : Command) (parts : Parts) (text : List ℕ) (status : Status)
    → Writes command parts text status → IsReport status
writing_reports (Run nodes seed budget memory) parts text status w =
    subst IsReport (sym w.status_is) (run_reports parts.layout.nodes (shown parts budget w.history).ends)
writing_reports (Explain nodes seed budget) parts text status w = inl w.1
writing_reports (Compile nodes) parts text status w = inl w.1
writing_reports (Delays nodes) parts text status w = inl w.1

-- the status of a text is one of a report
pub text_reports : (command : Command) (made : Option Parts) (given text : List ℕ) (status : Status)
    → IsTextOf command made given text status → IsReport status
text_reports command made given text status t = writing_reports command t.parts text status t.writes

-- the bytes that were taken begin those that were left, and are all of them at the end
taken_is : (bytes given : List ℕ) (after : Option (List ℕ)) → Consumes (Some bytes) after given
    → (rest : List ℕ) × (bytes ≡ given ++ rest) × (IsAtEnd after → rest ≡ [])
taken_is bytes given None p = absurd p
taken_is bytes given (Some rest) p = (rest, p, λ e. e)

all_given : (bytes given : List ℕ) (before after : Option (List ℕ)) → before ≡ Some bytes
    → Consumes before after given → IsAtEnd after → given ≡ bytes
all_given bytes given before after b taken ended =
    let t = taken_is bytes given after (subst (λ (o : Option (List ℕ)). Consumes o after given) b taken) in
    sym (t.1 ∙ ap (λ l. given ++ l) (t.2 ended) ∙ append-nil given)

one_command : (words : Option Command) (c d : Command) → words ≡ Some c → words ≡ Some d → c ≡ d
one_command words c d e f = let x : Some c ≡ Some d = sym e ∙ f in cc

module _ (command : Command) (bytes : List ℕ) (words : Option Command) (before after : Option (List ℕ))
    (named : words ≡ Some command) (left : before ≡ Some bytes) where
  outside_as : (r : Reason) (other : Command) (given : List ℕ) → words ≡ Some other → given ≡ bytes
      → IsOutside other given r → IsOutside command bytes r
  outside_as r other given w all h =
      subst (λ (l : List ℕ). IsOutside command l r) all
      (subst (λ (c : Command). IsOutside c given r) (one_command words other command w named) h)

  refused_outside : (r : Reason) → (IsReadFor r after → IsAtEnd after) → IsRefused words before after r
      → IsOutside command bytes r
  refused_outside r whole h =
      outside_as r h.named h.given h.words (all_given bytes h.given before after left h.taken (whole h.ended)) h.outside

  long_outside : IsRefused words before after reason.TooLong → LIMITS.source < length bytes
  long_outside h =
      let t = taken_is bytes h.given after (subst (λ (o : Option (List ℕ)). Consumes o after h.given) left h.taken) in
      let size : length bytes ≡ length h.given + length t.0 = ap (λ (l : List ℕ). length l) t.1 ∙ length-append
      h.given t.0 in
      omega (arith, h.outside, size)

  -- where the source does not fail and memory is not wanting, the source is outside for the reason told
  pub told_outside : (faults now : ℕ) → (Rose faults now → ⊥) → (r : Reason) → r ≢ reason.Memory
      → Holds words before after faults now r → IsOutside command bytes r
  told_outside faults now still reason.Words some h = let x : Some command ≡ None = sym named ∙ h in cc
  told_outside faults now still reason.TooLong some h = long_outside h
  told_outside faults now still (reason.Refused r) some h = refused_outside (reason.Refused r) (λ e. e) h
  told_outside faults now still reason.Read some h = absurd (still h.1)
  told_outside faults now still reason.Memory some h = absurd (some refl)

  -- a source that is outside is not reported
  pub outside_unreported : (made : Option Parts) (text : List ℕ) (status : Status) (r : Reason) → IsOutside command bytes r
      → IsReported words made before after text status → ⊥
  outside_unreported made text status r h told =
      let all = all_given bytes told.given before after left told.taken told.ended in
      not_outside bytes command
      (subst (λ (l : List ℕ). Serves command l) all
      (subst (λ (c : Command). Serves c told.given) (one_command words told.named command told.words named)
      (text_serves told.named made told.given text status told.text_of)))
      r h
