-- Which statuses come with a report, and which with the line of a reason.
use Rattle.std.proofs.Common.{◌≡◌, inl, inr, ⊎_elim, refl, ℕ, Option, Bool, true, false, if◌then◌else◌}
use Rattle.sc_base.specs.declared.value.End.{End}
use Rattle.run_report.specs.Status.{some_end, is_fault, is_cut, is_waiting, status_of}
use Rattle.splitc_top.specs.declared.reason.Reason.{Reason}
use Rattle.splitc_top.specs.declared.reason.Reason.TheVariants as reason
use Rattle.run_report.specs.declared.status.Status.{Status}
use Rattle.run_report.specs.declared.status.Status.TheVariants.{Ended, Fault, Waiting, Cut, Words, Refused, Read}
use Rattle.run_report.specs.declared.status.Status.TheVariants.{Write, Memory}
use Rattle.splitc_top.specs.Reasons.{status_of_reason}
use Rattle.splitc_top.specs.Top.{IsReport, IsRefusal}

some_reports : (fault cut waiting : Bool) →
    IsReport (if fault then Fault else if cut then Cut else if waiting then Waiting else Ended)
some_reports true cut waiting = inr (inl refl)
some_reports false true waiting = inr (inr (inr refl))
some_reports false false true = inr (inr (inl refl))
some_reports false false false = inl refl

-- the nodes' ends give the status of a report
pub run_reports : (nodes : ℕ) (ends : ℕ → Option End) → IsReport (status_of nodes ends)
run_reports nodes ends =
    some_reports (some_end is_fault ends 0 nodes) (some_end is_cut ends 0 nodes) (some_end is_waiting ends 0 nodes)

-- the status of a report is none of a refusal
pub report_not_refused : (s : Status) → IsReport s → IsRefusal s → ⊥
report_not_refused Ended r h = ⊎_elim (λ e. cc) (λ h. ⊎_elim (λ e. cc) (λ h. ⊎_elim (λ e. cc) (λ e. cc) h) h) h
report_not_refused Fault r h = ⊎_elim (λ e. cc) (λ h. ⊎_elim (λ e. cc) (λ h. ⊎_elim (λ e. cc) (λ e. cc) h) h) h
report_not_refused Waiting r h = ⊎_elim (λ e. cc) (λ h. ⊎_elim (λ e. cc) (λ h. ⊎_elim (λ e. cc) (λ e. cc) h) h) h
report_not_refused Cut r h = ⊎_elim (λ e. cc) (λ h. ⊎_elim (λ e. cc) (λ h. ⊎_elim (λ e. cc) (λ e. cc) h) h) h
report_not_refused Words h r = ⊎_elim (λ e. cc) (λ h. ⊎_elim (λ e. cc) (λ h. ⊎_elim (λ e. cc) (λ e. cc) h) h) h
report_not_refused Refused h r = ⊎_elim (λ e. cc) (λ h. ⊎_elim (λ e. cc) (λ h. ⊎_elim (λ e. cc) (λ e. cc) h) h) h
report_not_refused Read h r = ⊎_elim (λ e. cc) (λ h. ⊎_elim (λ e. cc) (λ h. ⊎_elim (λ e. cc) (λ e. cc) h) h) h
report_not_refused Write h r = ⊎_elim (λ e. cc) (λ h. ⊎_elim (λ e. cc) (λ h. ⊎_elim (λ e. cc) (λ e. cc) h) h) h
report_not_refused Memory h r = ⊎_elim (λ e. cc) (λ h. ⊎_elim (λ e. cc) (λ h. ⊎_elim (λ e. cc) (λ e. cc) h) h) h

-- a reason's status is none of a run
pub reason_not_reported : (r : Reason) → IsReport (status_of_reason r) → ⊥
reason_not_reported reason.Words h = ⊎_elim (λ e. cc) (λ h. ⊎_elim (λ e. cc) (λ h. ⊎_elim (λ e. cc) (λ e. cc) h) h) h
reason_not_reported reason.TooLong h = ⊎_elim (λ e. cc) (λ h. ⊎_elim (λ e. cc) (λ h. ⊎_elim (λ e. cc) (λ e. cc) h) h) h
reason_not_reported (reason.Refused r) h = ⊎_elim (λ e. cc)
    (λ h. ⊎_elim (λ e. cc) (λ h. ⊎_elim (λ e. cc) (λ e. cc) h) h) h
reason_not_reported reason.Read h = ⊎_elim (λ e. cc) (λ h. ⊎_elim (λ e. cc) (λ h. ⊎_elim (λ e. cc) (λ e. cc) h) h) h
reason_not_reported reason.Memory h = ⊎_elim (λ e. cc) (λ h. ⊎_elim (λ e. cc) (λ h. ⊎_elim (λ e. cc) (λ e. cc) h) h) h

pub reason_not_write : (r : Reason) → status_of_reason r ≡ Write → ⊥
reason_not_write reason.Words h = cc
reason_not_write reason.TooLong h = cc
reason_not_write (reason.Refused r) h = cc
reason_not_write reason.Read h = cc
reason_not_write reason.Memory h = cc

pub write_not_reported : IsReport Write → ⊥
write_not_reported h = ⊎_elim (λ e. cc) (λ h. ⊎_elim (λ e. cc) (λ h. ⊎_elim (λ e. cc) (λ e. cc) h) h) h

pub write_not_refused : IsRefusal Write → ⊥
write_not_refused h = ⊎_elim (λ e. cc) (λ h. ⊎_elim (λ e. cc) (λ h. ⊎_elim (λ e. cc) (λ e. cc) h) h) h
