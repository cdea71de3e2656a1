-- Cards as text, in ASCII. From document 01, "Cards".
use Rattle.std.specs.Prelude.{true, false, List, [], ◌∷◌, ◌++◌, ℕ, zero, suc, ◌+◌, ◌/◌, ◌%◌, ltb}
use Prim.Native.Char.{code}
use Prim.Native.String.{String}
use Rattle.basics.specs.Logic.{when◌then◌else◌}
use Rattle.words.specs.Words.{is_absorb, length_of}

-- a text's bytes
abbrev pub ascii : String → List ℕ
ascii text = elim text [ String.[] ↦ [] | String.◌∷◌ c (rest → bytes) ↦ code c ∷ bytes ]

-- what stands before and behind the separator, and behind the calls: "A card is as below"
abbrev pub head_text : List ℕ
head_text = ascii "(card (domain"

abbrev pub middle_text : List ℕ
middle_text = ascii ") (calls"

abbrev pub end_text : List ℕ
end_text = ascii "))"

-- a digit, "lower-case": 0 to 9 are the bytes 48 to 57, a to f the bytes 97 to 102
unfoldable pub hex_digit : ℕ → ℕ
hex_digit d = when ltb d 10 then d + 48 else d + 87

-- bytes "in lower-case hexadecimal pairs", the high digit first
unfoldable pub hex : List ℕ → List ℕ
hex [] = []
hex (b ∷ bs) = hex_digit (b / 16) ∷ hex_digit (b % 16) ∷ hex bs

-- "separator in lower-case hexadecimal pairs, (domain) if empty": what follows "(domain"
unfoldable pub separator_text : List ℕ → List ℕ
separator_text [] = []
separator_text (b ∷ bs) = ascii " " ++ hex (b ∷ bs)

-- "decimal", "no leading zero but 0 itself": the last digit, and before it the digits of n / 10 while these are left. The first argument
-- bounds how often; n is enough.
unfoldable pub decimal_up_to : ℕ → ℕ → List ℕ
decimal_up_to zero n = (n + 48) ∷ []
decimal_up_to (suc k) n = elim (ltb n 10) [ true ↦ (n + 48) ∷ [] | false ↦ decimal_up_to k (n / 10) ++ ((n % 10 + 48) ∷ []) ]

unfoldable pub decimal : ℕ → List ℕ
decimal n = decimal_up_to n n

-- a call: " (a 3)" for ABSORB of 3 elements, " (s 3)" for SQUEEZE
unfoldable pub call_text : ℕ → List ℕ
call_text w = ascii " (" ++ ((when is_absorb w then code "a" else code "s") ∷ (ascii " " ++ (decimal (length_of w) ++ ascii ")")))

-- "(calls) if none": what follows "(calls"
unfoldable pub calls_text : List ℕ → List ℕ
calls_text [] = []
calls_text (w ∷ ws) = call_text w ++ calls_text ws

-- "(card (domain 4142) (calls (a 3) (a 3) (s 3)))"
unfoldable pub card_text : List ℕ → List ℕ → List ℕ
card_text separator ws = head_text ++ separator_text separator ++ middle_text ++ calls_text ws ++ end_text
