-- Definitions that no public contract cites: what private functions of the crate take and give.
use Rattle.std.specs.Prelude.{◌≡◌, refl, true, List, [], ◌∷◌, ◌++◌, ℕ, length}
use Rattle.basics.specs.Numbers.{accepted}
use Rattle.pattern.specs.Opening.{opening}
use Rattle.session.specs.Calls.{start, absorb, squeeze}
use Rattle.session.specs.declared.Session.{Session}
use Rattle.seal.specs.Seal.{Context, key_length, nonce_length, mark_length, note_form, seal_words, started, after_block, after_blocks, cipher_blocks, plain_blocks, sound_lengths}

-- START and the ABSORB of key and nonce are accepted
pub record Starts (c : Context) : Type 0 where
  pub lengths : sound_lengths c.lengths ≡ true
  pub key : length c.key ≡ key_length
  pub nonce : length c.nonce ≡ nonce_length
  pub start : (start c.field note_form (opening (seal_words c.lengths) c.separator)).number ≡ accepted
  pub absorb : (absorb (started c) (c.key ++ c.nonce)).number ≡ accepted

-- both calls of a plain block are accepted
abbrev pub AcceptsBlock : Session → List ℕ → Type 0
AcceptsBlock r plain =
    ((squeeze r (length plain)).number ≡ accepted) × ((absorb (squeeze r (length plain)).session plain).number ≡ accepted)

-- and those of each of several
unfoldable pub AcceptsBlocks : Session → List (List ℕ) → Type 0
AcceptsBlocks r [] = Unit {0}
AcceptsBlocks r (plain ∷ blocks) = AcceptsBlock r plain × AcceptsBlocks (after_block r plain) blocks

-- and that of the mark
abbrev pub AcceptsMark : Session → Type 0
AcceptsMark r = (squeeze r mark_length).number ≡ accepted

-- ---- no block: nothing is given, and the session stays

pub cipher_none : (r : Session) → cipher_blocks r [] ≡ []
unfolding cipher_blocks
cipher_none r = refl

pub plain_none : (r : Session) → plain_blocks r [] ≡ []
unfolding plain_blocks
plain_none r = refl

pub after_none : (r : Session) → after_blocks r [] ≡ r
unfolding after_blocks
after_none r = refl

pub opened_none : (r : Session) → after_blocks r (plain_blocks r []) ≡ r
unfolding after_blocks plain_blocks
opened_none r = refl
