-- A digest of two blocks of unlike bytes, computed. It takes the checker some twenty seconds, so that it stands in a crate of its own.
use Rattle.std.specs.Prelude.{◌≡◌, refl, [], ◌∷◌}
use Rattle.basics.specs.Lists.{tabulate, sum}
use Rattle.keccak_tables.specs.Tables.{offsets, round_constants}
use Rattle.keccak.specs.Permutation as keccak
use Rattle.sha3.specs.Sponge as hash

-- SHA3-256 of the bytes 0 to 199, by Python's hashlib. Tag strings of 136 bytes and more have several blocks too.
pub digest_of_two_blocks : hash.sha3 (tabulate 200 (λ k. k))
    ≡ 0x5f ∷ 0x72 ∷ 0x8f ∷ 0x63 ∷ 0xbf ∷ 0x5e ∷ 0xe4 ∷ 0x8c ∷ 0x77 ∷ 0xf4 ∷ 0x53 ∷ 0xc0 ∷ 0x49 ∷ 0x03 ∷ 0x98 ∷ 0xfa
    ∷ 0x64 ∷ 0x5b ∷ 0x8d ∷ 0x4c ∷ 0x4e ∷ 0x56 ∷ 0xbe ∷ 0x9a ∷ 0x41 ∷ 0xcf ∷ 0xec ∷ 0x34 ∷ 0x4d ∷ 0x6c ∷ 0xa8 ∷ 0x99 ∷ []
unfolding tabulate sum hash.bytes hash.pad10*1 hash.padded hash.lane_at hash.add_block hash.absorb hash.byte_of hash.squeeze hash.sha3
    keccak.state keccak.rotate keccak.parity keccak.effect keccak.theta keccak.rho keccak.pi keccak.chi keccak.iota
    keccak.round keccak.rounds keccak.permutation offsets round_constants
digest_of_two_blocks = refl
