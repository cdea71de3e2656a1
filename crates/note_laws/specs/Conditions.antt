-- The condition of number 20, for theorems.
use Rattle.std.specs.Prelude.{◌≡◌, true, ℕ, ◌+◌, length}
use Rattle.basics.specs.Lists.{total}
use Rattle.seal.specs.Seal.{Context, key_length, nonce_length, sound_lengths}

-- every length is right: 1 to 31 blocks, each of 1 to 16,777,216 elements, and every lent list and buffer as long as is needed, with the mark's places in the
-- text or in the buffer
pub record RightLengths (c : Context) (text textMark buffer bufferMark : ℕ) : Type 0 where
  pub of_blocks : sound_lengths c.lengths ≡ true
  pub of_key : length c.key ≡ key_length
  pub of_nonce : length c.nonce ≡ nonce_length
  pub of_text : text ≡ total c.lengths + textMark
  pub of_buffer : buffer ≡ total c.lengths + bufferMark
