-- The tables of the permutation, proved in proofs/TablesByRule.antt to be what FIPS 202's rules give (TableRules.antt).
use Rattle.std.specs.Prelude.{List, [], ◌∷◌, ℕ}

-- 3.2.2, table 2: by how many places rho rotates each lane; the row y has the lanes x from 0 to 4
unfoldable pub offsets : List ℕ
offsets =
    0 ∷ 1 ∷ 190 ∷ 28 ∷ 91 ∷
    36 ∷ 300 ∷ 6 ∷ 55 ∷ 276 ∷
    3 ∷ 10 ∷ 171 ∷ 153 ∷ 231 ∷
    105 ∷ 45 ∷ 15 ∷ 21 ∷ 136 ∷
    210 ∷ 66 ∷ 253 ∷ 120 ∷ 78 ∷ []

-- 3.2.5: the round constant RC of each of the 24 rounds
unfoldable pub round_constants : List ℕ
round_constants =
    0x0000000000000001 ∷ 0x0000000000008082 ∷ 0x800000000000808a ∷ 0x8000000080008000 ∷
    0x000000000000808b ∷ 0x0000000080000001 ∷ 0x8000000080008081 ∷ 0x8000000000008009 ∷
    0x000000000000008a ∷ 0x0000000000000088 ∷ 0x0000000080008009 ∷ 0x000000008000000a ∷
    0x000000008000808b ∷ 0x800000000000008b ∷ 0x8000000000008089 ∷ 0x8000000000008003 ∷
    0x8000000000008002 ∷ 0x8000000000000080 ∷ 0x000000000000800a ∷ 0x800000008000000a ∷
    0x8000000080008081 ∷ 0x8000000000008080 ∷ 0x0000000080000001 ∷ 0x8000000080008008 ∷ []
