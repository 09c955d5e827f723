-- What a source tells under an oracle is its run by the oracle's answers.
use Rattle.std.proofs.Common.{◌≡◌, ℕ, [], ◌∷◌, Bool, true, false, if◌then◌else◌, refl, sym, ap, ◌∙◌}
use Rattle.resumption.specs.Resumption.{Asks, Makes, Says, Stops, run_of, unanswered, after_event, after_text}
use Rattle.sc_meaning.specs.declared.request.Request.{Request}
use Rattle.sc_meaning.specs.declared.request.Request.TheVariants.{Sync}
use Rattle.sc_meaning.specs.Asking as source
use Rattle.sc_meaning.specs.Asking.{PointedDoing, Requested, Came, Finishes, Breaks, SourceDoing}
use Rattle.sc_meaning.specs.Meaning.{pointed}
use Rattle.sc_meaning.specs.OfAccess.{unlined}
use Rattle.node_emit.specs.Oracles.{Oracle, Story, Told, nothing_more, at_point, answer_by, told_after, told_at_first, tells, requests, at}
use Rattle.node_emit.specs.Forgotten.{answers_told}
use Rattle.forgotten_marks.specs.Played.{without_points, source_shows}
use Rattle.forgotten_marks.specs.Laws.{TellsAreRuns}
use Rattle.forgotten_marks.proofs.Well.{Well, gets_after, pointed_good}

pub point_hidden : (empty : ℕ → Bool) (t : ℕ) (story : Story) → without_points (at_point empty t story) ≡ without_points story
point_hidden empty t story = go (empty t)
  where
    go : (b : Bool) → without_points (if b then story else after_event (at t) story) ≡ without_points story
    go true = refl
    go false = refl

module _ (empty : ℕ → Bool) (oracle : Oracle) where
  fit_all : (b : Bool) (r : Request) (fits : source.Answer → Bool) (go : source.Answer → PointedDoing) (a : source.Answer) (t : Told) → fits a ≡ b
      → (b ≡ true → without_points (tells oracle empty (told_after t r) (go a)) ≡ source_shows (run_of (source.without_points (Sync 0) (go a)) (answers_told oracle (told_after t r) (go a))))
      → without_points (after_event (requests (unlined r)) (if b then tells oracle empty (told_after t r) (go a) else nothing_more))
      ≡ source_shows (run_of (source.without_points (Sync 0) (Asks (Requested r) fits go)) (if b then a ∷ answers_told oracle (told_after t r) (go a) else []))
  fit_all true r fits go a t e h =
      ap (after_event (unlined r)) (h refl)
      ∙ ap (λ b. source_shows (if b then after_event r (run_of (source.without_points (Sync 0) (go a)) (answers_told oracle (told_after t r) (go a))) else unanswered r)) (sym e)
  fit_all false r fits go a t e h = refl

  pub told_run : (n : ℕ) (d : PointedDoing) (t : Told) → Well n d
      → without_points (tells oracle empty t d) ≡ source_shows (run_of (source.without_points (Sync 0) d) (answers_told oracle t d))
  unfolding Well
  told_run n (Asks (Requested r) fits go) t w =
      let a = answer_by oracle t r in
      fit_all (fits a) r fits go a t refl (λ e. told_run (gets_after n r) (go a) (told_after t r) (w.1 a))
  told_run n (Asks (Came point) fits go) t w = absurd w
  told_run n (Makes (Requested r) rest) t w = ap (after_event (unlined r)) (told_run (gets_after n r) rest (told_after t r) w.1)
  told_run n (Makes (Came point) rest) t w = point_hidden empty point (tells oracle empty t rest) ∙ told_run n rest t w
  told_run n (Says text rest) t w = ap (after_text text) (told_run n rest t w)
  told_run n (Stops (Finishes end)) t w = refl
  told_run n (Stops Breaks) t w = refl

pub tells_are_runs : TellsAreRuns
tells_are_runs here budget empty oracle = told_run empty oracle 0 (pointed here budget) told_at_first (pointed_good here budget)
