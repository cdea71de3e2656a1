-- The calls on the session of a note between START and FINISH, as a list. Theorems alone mention it.
use Rattle.std.specs.Prelude.{List, [], ◌∷◌, ◌++◌, ℕ, length}
use Rattle.runs.specs.Calls.{Call, ABSORB, SQUEEZE}
use Rattle.seal.specs.Seal.{Context, mark_length, blocks_of}

-- Algorithm 7: "C_1 <- SQUEEZE(L_1); ABSORB(L_1, D_1); .. C_b <- SQUEEZE(L_b); ABSORB(L_b, D_b); S <- SQUEEZE(1)", with a mark of 8
unfoldable pub block_calls : List (List ℕ) → List Call
block_calls [] = SQUEEZE mark_length ∷ []
block_calls (plain ∷ blocks) = SQUEEZE (length plain) ∷ ABSORB plain ∷ block_calls blocks

-- Algorithm 7: "ABSORB(k, K); ABSORB(m, N)" first, here "as one call of 16"
unfoldable pub note_calls : Context → List ℕ → List Call
note_calls c plain = ABSORB (c.key ++ c.nonce) ∷ block_calls (blocks_of c.lengths plain)
