-- Patterns (SAFE's IO patterns): merging, and sound lists of words. From document 01, "Tags" and "Session steps".
use Rattle.std.specs.Prelude.{Bool, true, not, List, [], ◌∷◌, map, ℕ, ◌+◌, leb, ltb, eqb, length, take, drop}
use Rattle.basics.specs.Logic.{when◌then◌else◌, ◌and◌, same, all}
use Rattle.words.specs.Words.{max_length, is_absorb, length_of, Phase, phase_of, word_of}

-- the longest pattern, in words
abbrev pub max_words : ℕ
max_words = 64

-- "Merging adds neighbouring lengths of one kind.": a call before a merged pattern
unfoldable pub join : Phase → List Phase → List Phase
join a [] = a ∷ []
join a (b ∷ bs) =
    when same a.absorbs b.absorbs then record { absorbs = a.absorbs; elements = a.elements + b.elements } ∷ bs
    else a ∷ b ∷ bs

-- a pattern, merged from its last call to its first
unfoldable pub merge : List Phase → List Phase
merge [] = []
merge (a ∷ rest) = join a (merge rest)

-- the merged pattern, as kinds and lengths: "A phase is one call of the merged pattern."
unfoldable pub phases : List ℕ → List Phase
phases ws = merge (map phase_of ws)

-- the merged words
unfoldable pub merged_words : List ℕ → List ℕ
merged_words ws = map word_of (phases ws)

-- "merged length above 2147483647", which no word can hold
unfoldable pub too_long : Phase → Bool
too_long a = ltb max_length a.elements

-- kinds alternate: the first is ABSORB where `first` is true, else SQUEEZE
unfoldable pub alternate : Bool → List ℕ → Bool
alternate first [] = true
alternate first (w ∷ ws) = same first (is_absorb w) and alternate (not first) ws

-- "alternate from ABSORB, have lengths of at least 1"; "record soundness and reading drop the even count and take 1 to 64 words" (document 02, P6)
unfoldable pub sound_words : List ℕ → Bool
sound_words ws =
    leb 1 (length ws)
    and leb (length ws) max_words
    and alternate true ws
    and all (λ w. leb 1 (length_of w)) ws

-- the same of the places of a record, of which so many are used: "and unused words are 0". The first test is that so many are there.
unfoldable pub sound_places : List ℕ → ℕ → Bool
sound_places places count =
    leb count (length places) and sound_words (take count places) and all (λ w. eqb w 0) (drop count places)
