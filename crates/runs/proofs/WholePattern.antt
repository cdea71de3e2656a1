-- What a session that START opened has to do is its whole merged pattern.
-- Assumes nothing.
use mathlib.Core.Path.{◌≡◌, refl, ap, ◌∙◌}
use mathlib.Core.Bool.{Bool}
use mathlib.Core.List.{List, [], ◌∷◌, ◌++◌, map}
use Prim.Native.Nat.{ℕ, zero, suc, ◌-◌}
use lib.ListN.{length, replicate}
use Rattle.basics.specs.Numbers.{accepted}
use Rattle.words.specs.Words.{is_absorb, length_of, phase_of}
use Rattle.pattern.specs.Pattern.{phases, merged_words}
use Rattle.tag.proofs.ReadBack.{phases_read}
use Rattle.session.specs.Record.{open_record}
use Rattle.pattern.specs.Opening.{Opening}
use Rattle.session.specs.Calls.{start_record, start}
use Rattle.runs.proofs.Opened.{start_accepted, start_record_law}
use Rattle.runs.proofs.ElementKinds.{kinds, to_do}

-- unused words stand for no element
padded_kinds : (ws : List ℕ) (n : ℕ) → kinds (map phase_of (ws ++ replicate n 0)) ≡ kinds (map phase_of ws)
unfolding kinds phase_of length_of
padded_kinds [] zero = refl
padded_kinds [] (suc n) = padded_kinds [] n
padded_kinds (w ∷ ws) n = ap (λ (ks : List Bool). replicate (length_of w) (is_absorb w) ++ ks) (padded_kinds ws n)

pub whole_pattern : (field form : ℕ) (o : Opening) → (start field form o).number ≡ accepted → to_do (start field form o).session ≡ kinds (phases o.words)
unfolding to_do start_record open_record merged_words
whole_pattern field form o e =
    ap to_do (start_record_law field form o e)
    ∙ padded_kinds (merged_words o.words) (64 - length (merged_words o.words))
    ∙ ap kinds (phases_read o (start_accepted field form o e))
