-- What the program answers, by what was written.
use Rattle.std.proofs.Common.{◌≡◌, ◌≢◌, ◌⊎◌, inl, inr, ⊎_elim, ℕ, ◌<◌, List, [], length, take, Option, Some}
use Rattle.std.proofs.Common.{None, refl, sym, ap, ◌∙◌, subst}
use Rattle.std.specs.Prelude.{IsSome}
use Rattle.std.proofs.lemmas.List.{append-nil}
use Rattle.sc_io.specs.Streams.{Gains}
use Rattle.splitc_top.specs.Reasons.{reason_line, status_of_reason}
use Rattle.splitc_compile.specs.Compiled.{Parts}
use Rattle.splitc_top.specs.Top.{Call, Failed, Gained, GainedPart, Tells, IsCause, IsAnswer, IsReport, IsMade}
use Rattle.splitc_top.specs.declared.words.Command.{Command}
use Rattle.splitc_top.specs.declared.reason.Reason.{Reason}
use Rattle.splitc_top.specs.declared.reason.Reason.TheVariants as reason
use Rattle.run_report.specs.declared.status.Status.{Status}
use Rattle.run_report.specs.declared.status.Status.TheVariants.{Words, Write, Memory}
use Rattle.splitc_top.proofs.OneAnswer.{not_outside, one_reason, outside_status, told_outside, outside_unreported, text_reports}
use Rattle.splitc_top.proofs.Statuses.{report_not_refused, reason_not_reported}
use Rattle.splitc_top.proofs.Statuses.{reason_not_write, write_not_reported, write_not_refused}

-- a sink that was left alone gained nothing
pub gains_none : (old new : Option (List ℕ)) → new ≡ old → Gains old new []
gains_none old None e = tt
gains_none None (Some n) e = cc
gains_none (Some o) (Some n) e = let x : n ≡ o = cc in x ∙ sym (append-nil o)

-- what was written, by the bytes that were handed in
pub gains_text : (old new : Option (List ℕ)) (bytes text : List ℕ) → bytes ≡ text → Gains old new bytes
    → Gains old new text
gains_text old new bytes text same all = subst (λ (t : List ℕ). Gains old new t) same all

pub gains_part : (old new : Option (List ℕ)) (bytes text : List ℕ) (n : ℕ) → bytes ≡ text → n < length bytes
    → Gains old new (take n bytes) → (k : ℕ) × (k < length text) × Gains old new (take k text)
gains_part old new bytes text n same below part =
    (n, subst (λ (t : List ℕ). n < length t) same below, subst (λ (t : List ℕ). Gains old new (take n t)) same part)

module _ (call : Call) where
  none_named : {A : Type 0} (text : List ℕ) (status : Status) → Tells call text status → call.command ≡ None → A
  none_named text status told none = let x : None ≡ Some told.named = sym none ∙ told.words in cc

  -- whatever was made is the code of the source
  abbrev pub Makes : Type 0
  Makes = (parts : Parts) → call.made ≡ Some parts → IsMade call.command call.source.before call.source.after parts

  pub report_answer : Makes → (text : List ℕ) (status : Status) → Tells call text status → Gained call.out text
      → Gained call.err [] → IsAnswer call status
  report_answer makes text status told out err =
      let reports : IsReport status = text_reports told.named call.made told.given text status told.text_of in
      record {
        made = makes;
        reported = λ h. (text, told, out, err);
        refused = λ h. absurd (report_not_refused status reports h);
        cut_short = λ h. absurd (write_not_reported (subst IsReport h reports));
        words_alone = λ still some none. none_named text status told none;
        served = λ command bytes named left s a b c d. reports;
        outside = λ command bytes r named left h a b c.
            absurd (outside_unreported command bytes call.command call.source.before call.source.after named left
            call.made text status r h told);
      }

  pub cut_answer : Makes → (text : List ℕ) (status : Status) → Tells call text status → Failed call.out
      → GainedPart call.out text → Gained call.err [] → IsAnswer call Write
  cut_answer makes text status told failed out err = record {
    made = makes;
    reported = λ h. absurd (write_not_reported h);
    refused = λ h. absurd (write_not_refused h);
    cut_short = λ h. inl (text, status, failed, told, out, err);
    words_alone = λ still some none. none_named text status told none;
    served = λ command bytes named left s a b c d. absurd (b failed);
    outside = λ command bytes r named left h a b c.
        absurd (outside_unreported command bytes call.command call.source.before call.source.after named left call.made
        text status r h told);
  }

  -- the reason is the one that was found, or want of memory for its line
  abbrev pub IsToldFor : Reason → Reason → Type 0
  IsToldFor found told = (told ≡ found) ⊎ (told ≡ reason.Memory)

  memory_cause : IsCause call reason.Memory
  memory_cause = record { holds = tt; unmade = λ h. absurd (h refl) }

  told_cause : (found told : Reason) → IsCause call found → IsToldFor found told → IsCause call told
  told_cause found told cause is =
      ⊎_elim (λ e. subst (IsCause call) (sym e) cause) (λ e. subst (IsCause call) (sym e) memory_cause) is

  words_reason : (r : Reason) → IsCause call r → call.command ≡ None → status_of_reason r ≢ Memory
      → status_of_reason r ≡ Words
  words_reason reason.Words h none some = refl
  words_reason reason.TooLong h none some = let x : None ≡ Some h.holds.named = sym none ∙ h.holds.words in cc
  words_reason (reason.Refused r) h none some = let x : None ≡ Some h.holds.named = sym none ∙ h.holds.words in cc
  words_reason reason.Read h none some =
      let x : IsSome {T = Command} None = subst (λ (o : Option Command). IsSome o) none h.holds.0 in cc
  words_reason reason.Memory h none some = absurd (some refl)

  refusal_answer : Makes → (found told : Reason) → IsCause call found → IsToldFor found told → Gained call.out []
      → Gained call.err (reason_line told) → IsAnswer call (status_of_reason told)
  refusal_answer makes found told cause is out err =
      let held = told_cause found told cause is in
      record {
        made = makes;
        reported = λ h. absurd (reason_not_reported told h);
        refused = λ h. (told, refl, held, out, err);
        cut_short = λ h. absurd (reason_not_write told h);
        words_alone = λ still some none. words_reason told held none some;
        served = λ command bytes named left s a b c some.
            absurd (not_outside bytes command s told
            (told_outside command bytes call.command call.source.before call.source.after named left
            call.source.faults call.source.faults_after a told (λ e. some (ap status_of_reason e)) held.holds));
        outside = λ command bytes r named left h a b some.
            let mine = told_outside command bytes call.command call.source.before call.source.after named left
            call.source.faults call.source.faults_after a told (λ e. some (ap status_of_reason e)) held.holds in (
              outside_status bytes command told mine,
              subst (λ r. Gained call.err (reason_line r))
                  (one_reason bytes command told r mine h) err,
            );
      }

  pub refusal_told : Makes → (found told : Reason) (status : Status) → IsCause call found → IsToldFor found told
      → status ≡ status_of_reason told → Gained call.out [] → Gained call.err (reason_line told) → IsAnswer call status
  refusal_told makes found told status cause is status_is out err =
      subst (λ (s : Status). IsAnswer call s) (sym status_is) (refusal_answer makes found told cause is out err)

  pub refusal_cut_answer : Makes → (found told : Reason) → IsCause call found → IsToldFor found told → Failed call.err
      → Gained call.out [] → GainedPart call.err (reason_line told) → IsAnswer call Write
  refusal_cut_answer makes found told cause is failed out err = record {
    made = makes;
    reported = λ h. absurd (write_not_reported h);
    refused = λ h. absurd (write_not_refused h);
    cut_short = λ h. inr (told, failed, told_cause found told cause is, out, err);
    words_alone = λ still some none. absurd (still failed);
    served = λ command bytes named left s a b c d. absurd (c failed);
    outside = λ command bytes r named left h a b c. absurd (b failed);
  }
