-- The samples hold: the tests pass on the records that START gives, as they do on those with computed digests.
use Rattle.std.proofs.Common.{◌≡◌, refl, true, ◌∙◌}
use Rattle.std.specs.Prelude.{length}
use Rattle.basics.specs.Logic.{all}
use Rattle.sample_records.specs.SampleRecords.{started4, started5, started6, started7}
use Rattle.samples.specs.Samples.{b1, b2, b2_in_form2, b3, b4, b5, b6, b7, b8, b8_in_field2, b9, b9_in_field2, b10, words4, words5, words6, words7, samples_with, started, samples, computed}

-- Every test of every sample passes, and there are 33: two of B1, three of B2, three of it in form 2, three of B3, two each of B4 to B7, four of B8 and four in field 2, two of B9 and
-- three in field 2, and one of B10.
pub samples_hold : (length samples ≡ 33) × (all (λ sample. sample) samples ≡ true)
unfolding samples samples_with b1 b2 b2_in_form2 b3 b4 b5 b6 b7 b8 b8_in_field2 b9 b9_in_field2 b10 started words4 words5 words6 words7
samples_hold = (refl, (λ i. all (λ sample. sample) (samples_with (started4 i) (started5 i) (started6 i) (started7 i))) ∙ computed)
