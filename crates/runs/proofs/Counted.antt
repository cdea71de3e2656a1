-- A session counts the permutations that document 01 fixes for its place in the pattern, whatever its calls were.
-- Assumes nothing.
use mathlib.Core.Path.{◌≡◌, ap, ap₂, ◌∙◌}
use mathlib.Core.Bool.{true}
use mathlib.Core.List.{List}
use Prim.Native.Nat.{ℕ, ◌+◌, ◌-◌}
use lib.Dec.{eqb}
use lib.ListN.{length, get_or}
use Rattle.basics.specs.Lists.{zero_padded}
use Rattle.basics.specs.Numbers.{accepted}
use Rattle.basics.proofs.Sums.{sum_same}
use Rattle.basics.proofs.Zeros.{zeros_behind}
use Rattle.words.specs.Words.{length_of}
use Rattle.pattern.specs.Pattern.{merged_words}
use Rattle.pattern.specs.Opening.{Opening}
use Rattle.counters.specs.Permutations.{phase_permutations, permutations_at}
use Rattle.session.specs.Record.{opened, open_record}
use Rattle.session.specs.Calls.{start_record, start}
use Rattle.session.specs.declared.Session.{Session}
use Rattle.session.proofs.SoundRecord.{parts, none_done}
use Rattle.runs.specs.Calls.{Call, left_by}
use Rattle.runs.specs.Runs.{Run, started_of, permutations_of}
use Rattle.runs.proofs.Outcomes.{finish_ended}
use Rattle.runs.proofs.Opened.{start_record_law, sound_run}
use Rattle.runs.proofs.SamePattern.{same_left_by}

-- the count depends on the words at each place alone, so that unused words read as words past the end do
pub permutations_same : (vs ws : List ℕ) → ((k : ℕ) → get_or vs k 0 ≡ get_or ws k 0) → (phase done : ℕ)
    → permutations_at vs phase done ≡ permutations_at ws phase done
unfolding permutations_at
permutations_same vs ws h phase done =
    ap₂ (λ (a b : ℕ). a + b)
    (sum_same phase _ _ (λ k _. ap (λ (w : ℕ). phase_permutations w (length_of w)) (h k)))
    (ap (λ (w : ℕ). phase_permutations w done) (h phase))

module _ (field form : ℕ) (o : Opening) (e : (start field form o).number ≡ accepted) where
  pub start_words : (start field form o).session.words ≡ zero_padded 64 (merged_words o.words)
  unfolding start_record open_record
  start_words = ap (λ (r : Session). r.words) (start_record_law field form o e)

  pub start_field : (start field form o).session.field ≡ field
  unfolding start_record open_record
  start_field = ap (λ (r : Session). r.field) (start_record_law field form o e)

  pub start_form : (start field form o).session.form ≡ form
  unfolding start_record open_record
  start_form = ap (λ (r : Session). r.form) (start_record_law field form o e)

  pub start_count : (start field form o).session.count ≡ length (merged_words o.words)
  unfolding start_record open_record
  start_count = ap (λ (r : Session). r.count) (start_record_law field form o e)

  pub count_run : (cs : List Call)
      → let r = left_by (start field form o).session cs in
      eqb r.status opened ≡ true → r.permutations ≡ permutations_at (merged_words o.words) r.phase r.done
  count_run cs still =
      let r = left_by (start field form o).session cs in
      (parts r (sound_run field form o e cs still)).counted
      ∙ ap (λ (vs : List ℕ). permutations_at vs r.phase r.done) ((same_left_by _ cs still).words ∙ start_words)
      ∙ permutations_same _ _ (zeros_behind (merged_words o.words) (64 - length (merged_words o.words))) r.phase r.done

pub count_whole : (a : Run) → permutations_of a ≡ permutations_at (merged_words a.opening.words) (length (merged_words a.opening.words)) 0
count_whole a =
    let r = left_by (started_of a) a.before in
    let ends = finish_ended r a.ends in
    let place = ends.ended ∙ (same_left_by _ a.before ends.opens).count ∙ start_count a.field a.form a.opening a.opens in
    count_run a.field a.form a.opening a.opens a.before ends.opens
    ∙ ap₂ (permutations_at (merged_words a.opening.words)) place (none_done r (parts r ends.sounds) ends.ended)
