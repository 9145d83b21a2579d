use Rattle.std.proofs.Common.{ℕ, ◌≡◌, refl, arith, codes}
use Rattle.batch_lines.specs.Words.{words_of}
use Rattle.replay_runs.proofs.WorkedLemmas.{uncounted, unnumbered, too_many, no_digits, uncaused}
use Rattle.replay_runs.proofs.worked.unsaid.Goals as goal

pub returns : goal.returns
returns c = (
  unnumbered (words_of (codes "rest 0000000007")) (too_many (codes "0000000007") refl),
  unnumbered (words_of (codes "rest +7")) (no_digits (codes "+7") refl),
  uncounted (words_of (codes "Rest 7")) (λ e. let f : ◌≡◌ {A = ℕ} 2 0 = e in omega arith),
  uncounted (words_of (codes "fly 1")) (λ e. let f : ◌≡◌ {A = ℕ} 2 0 = e in omega arith),
  uncounted (words_of (codes "rest")) (λ e. let f : ◌≡◌ {A = ℕ} 1 2 = e in omega arith),
  uncounted (words_of (codes "rest 0 1")) (λ e. let f : ◌≡◌ {A = ℕ} 3 2 = e in omega arith),
  uncounted (words_of (codes "send 0")) (λ e. let f : ◌≡◌ {A = ℕ} 2 3 = e in omega arith),
  uncounted (words_of (codes "send 0 1 2")) (λ e. let f : ◌≡◌ {A = ℕ} 4 3 = e in omega arith),
  uncounted (words_of (codes "halt 0")) (λ e. let f : ◌≡◌ {A = ℕ} 2 3 = e in omega arith),
  uncaused (words_of (codes "halt 0 quiet")) refl refl,
)
