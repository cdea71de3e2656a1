-- Cards. `card_of`, `answer`, `with_newline`, `fed`, `line_after`, `writes`, `answered_fed`, `answered_line`, `answered_text`, `start_fed`, `next_fed` and
-- `last_answer` are what the contracts of `card_reader`, `card` and `card_lines` cite; `output` is what document 01 has the card program print for a
-- whole input.
use Rattle.std.specs.Prelude.{◌≡◌, refl, List, [], ◌∷◌, ◌++◌, ◌≢◌, ℕ, suc, ◌≤◌, ◌<◌, ltb, eqb, length, take}
use Rattle.std.proofs.Common.{sym, ap, ap₂, ◌∙◌, ne_eqb, lit≤}
use Rattle.basics.specs.Logic.{when◌then◌else◌, ◌and◌, ◌or◌, same, all, any}
use Rattle.basics.specs.Digits.{digits}
use Rattle.basics.specs.Lists.{sum, Below, placed, joined}
use Rattle.basics.specs.Numbers.{accepted, not_card}
use Rattle.basics.specs.Refusals.{first_number}
use Rattle.basics.proofs.Cases.{if_false}
use Rattle.basics.proofs.Placed.{placed_front}
use Rattle.words.specs.Words.{is_absorb, length_of, phase_of, word_of}
use Rattle.pattern.specs.Pattern.{join, merge, phases, merged_words}
use Rattle.pattern.specs.Opening.{opening, word_rows, opening_rows, opening_number}
use Rattle.tag.specs.TagString.{word_bytes, tail_of, string_of, tag_string}
use Rattle.counters.specs.Permutations.{block_count, phase_permutations, permutations_at, full_permutations}
use Rattle.session.specs.Calls.{start}
use Rattle.runs.specs.Runs.{Run, tag_of, permutations_of}
use Rattle.runs.proofs.Opened.{start_accepted}
use Rattle.card_grammar.specs.Text.{ascii, hex_digit, hex, separator_text, decimal_up_to, decimal, call_text, calls_text, card_text}
use Rattle.card_grammar.specs.Grammar.{CardOf, card, none, NoCard}
use Rattle.card_grammar.specs.Card.{card_of}
use Rattle.card_grammar.proofs.Laws as grammar
use Rattle.card.specs.Answer.{ok_text, no_text, card_answer, answer, with_newline}
use Rattle.card.proofs.Laws.{answer_card, answer_none, answer_long}
use Rattle.card.proofs.CardAnswer.{accepted_answer}
use Rattle.card_lines.specs.Lines.{before, lines, answers, output}
use Rattle.card_lines.specs.Stream.{writes, takes, line_after, fed, last_answer}
use Rattle.card_lines.specs.Calls.{Held, leaves, writes_all, takes_all, leaves_all, held_of, answered_text, answered_line, answered_fed, start_fed, next_fed}
use Rattle.card_lines.specs.Calls.{kept_of, start_kept, next_kept, kept_after, piece_text, piece_kept, text_of_pieces}
use Rattle.card_lines.specs.declared.Fed.{Fed}
use Rattle.card_lines.proofs.Progress.{takes_some, takes_first, last_none, last_some}
use Rattle.card_lines.proofs.Callers.{answered_some, pieces_output}
use Rattle.card_lines.proofs.Cutting.{written_output, start_holds}
use Rattle.runs.proofs.Counted.{count_whole}
use Rattle.claims.specs.Fields.{fields_by_number, known_field_at_start}
use Rattle.claims.specs.Forms.{forms_by_number}

-- A line is read as a card exactly if it has at most 2,048 bytes and is the text of a separator and words, byte for byte; and as no card
-- exactly if it is not.
pub cards_are_their_text : (line separator ws : List ℕ)
    → (CardOf line separator ws → card_of line ≡ card separator ws) × (card_of line ≡ card separator ws → CardOf line separator ws)
cards_are_their_text line separator ws = (grammar.card_of_law line separator ws, grammar.of_card line separator ws)

pub other_lines_are_no_card : (line : List ℕ) → (NoCard line → card_of line ≡ none) × (card_of line ≡ none → NoCard line)
other_lines_are_no_card line = (grammar.none_of line, grammar.of_none line)

-- In other words: what is read as a card is that text and nothing else,
pub cards_are_text : (line separator ws : List ℕ) → card_of line ≡ card separator ws
    → (length line ≤ 2048) × Below 256 separator × Below 4294967296 ws × (line ≡ card_text separator ws)
cards_are_text line separator ws e = let c = grammar.of_card line separator ws e in (c.short, c.bytes, c.words, c.text)

-- and what is the text of no separator and words gets 14.
pub other_text_gets_14 : (line : List ℕ)
    → ((separator ws : List ℕ) → Below 256 separator → Below 4294967296 ws → line ≢ card_text separator ws) → answer line ≡ no_text 14
other_text_gets_14 line never = answer_none line (grammar.none_of line (record { never = λ s w c. never s w c.bytes c.words c.text }))

-- No two cards have the same text.
pub cards_are_unambiguous : (s w s' w' : List ℕ) → Below 256 s → Below 4294967296 w → Below 256 s' → Below 4294967296 w'
    → card_text s w ≡ card_text s' w' → (s ≡ s') × (w ≡ w')
cards_are_unambiguous = grammar.unambiguous

-- The answer to a card is by START's numbers; "14 before 1 to 6": what is no card gets 14, whatever else is wrong with it.
pub answer_to_card : (line separator ws : List ℕ) → CardOf line separator ws → answer line ≡ card_answer (opening ws separator)
answer_to_card line separator ws c = answer_card line separator ws (grammar.card_of_law line separator ws c)

pub answer_to_no_card : (line : List ℕ) → NoCard line → answer line ≡ no_text not_card
answer_to_no_card line n = answer_none line (grammar.none_of line n)

-- "at most 2,048 bytes before the newline": the text of a separator and words that has no more is read as their card,
pub cards_of_2048_bytes_are_read : (separator ws : List ℕ) → Below 256 separator → Below 4294967296 ws → length (card_text separator ws) ≤ 2048
    → card_of (card_text separator ws) ≡ card separator ws
cards_of_2048_bytes_are_read separator ws bytes words short =
    grammar.card_of_law (card_text separator ws) separator ws (record { short = short; bytes = bytes; words = words; text = refl })

-- and "a longer line gets 14".
pub answer_to_long_line : (line : List ℕ) → 2048 < length line → answer line ≡ no_text not_card
answer_to_long_line = answer_long

-- "Old cards mean field 1." (document 02), and they are "form 1": the number is the one that START gives in field 1 and form 1, and the tag string is
-- of form 1.
pub cards_mean_field_1 : (line separator ws : List ℕ) → CardOf line separator ws
    → let o = opening ws separator in
    let number = (start 1 1 o).number in
    answer line ≡ (when eqb number accepted then ok_text (tag_string 1 o) (full_permutations ws) else no_text number)
unfolding card_answer
cards_mean_field_1 line separator ws c =
    let o = opening ws separator in
    answer_to_card line separator ws c
    ∙ ap (λ (n : ℕ). when eqb n accepted then ok_text (tag_string 1 o) (full_permutations ws) else no_text n) (sym (known_field_at_start 1 1 o fields_by_number.0 forms_by_number.0))

-- "tag string .. permutations of a full session": what a card is answered with is the tag string and the count of every finished session of
-- its words and separator, in either field, of form 1.
pub answer_is_of_session : (a : Run) → a.form ≡ 1 → (line : List ℕ) → CardOf line a.opening.separator a.opening.words → answer line ≡ ok_text (tag_of a) (permutations_of a)
unfolding full_permutations
answer_is_of_session a f line c =
    answer_to_card line a.opening.separator a.opening.words c
    ∙ accepted_answer a.opening (start_accepted a.field a.form a.opening a.opens)
    ∙ ap₂ (λ (form count : ℕ). ok_text (tag_string form a.opening) count) (sym f) (sym (count_whole a))

-- The bytes that a call wrote are the first ones of the array that it was lent, as many as the number in its answer says. Of `card::answer` they
-- are the answer and a newline;
pub written_answer : (line buffer : List ℕ)
    → take (length (with_newline (answer line))) (placed buffer 0 (with_newline (answer line))) ≡ with_newline (answer line)
written_answer line buffer = placed_front buffer (with_newline (answer line))

-- of `feed` they are `writes`, and the bytes of the piece that it took are `takes`;
pub written_and_used : (line : List ℕ) (n : ℕ) (piece buffer : List ℕ)
    → (take (fed line n piece).written (placed buffer 0 (writes line n piece)) ≡ writes line n piece)
    × (take (fed line n piece).used piece ≡ takes piece)
unfolding fed
written_and_used line n piece buffer = (placed_front buffer (writes line n piece), sym (takes_first piece))

-- of `answer_lines` they are `answered_text`;
pub written_answers : (line : List ℕ) (last : Fed) (piece buffer : List ℕ)
    → take (answered_fed line last piece).written (placed buffer 0 (answered_text line last piece)) ≡ answered_text line last piece
unfolding answered_fed
written_answers line last piece buffer = placed_front buffer (answered_text line last piece)

-- of `end` they are `last_answer`,
pub written_at_end : (line : List ℕ) (n : ℕ) (buffer : List ℕ)
    → take (length (last_answer line n)) (placed buffer 0 (last_answer line n)) ≡ last_answer line n
written_at_end line n buffer = placed_front buffer (last_answer line n)

-- and it answers 0 exactly if no line is in progress.
pub nothing_at_end : (line : List ℕ) (n : ℕ) → (n ≡ 0 → length (last_answer line n) ≡ 0) × (length (last_answer line n) ≡ 0 → n ≡ 0)
nothing_at_end line n = (last_none line n, last_some line n)

-- "one bracketed form a line": each newline ends a line, an empty one too, and no other byte does; "the last newline may be missing".
pub lines_end_at_newlines :
    (lines [] ≡ [])
    × ((input : List ℕ) → lines (10 ∷ input) ≡ [] ∷ lines input)
    × ((b : ℕ) → b ≢ 10 → lines (b ∷ []) ≡ (b ∷ []) ∷ [])
    × ((b : ℕ) (input line : List ℕ) (others : List (List ℕ)) → b ≢ 10 → lines input ≡ line ∷ others → lines (b ∷ input) ≡ (b ∷ line) ∷ others)
unfolding lines before when◌then◌else◌
lines_end_at_newlines = (
  refl,
  λ input. refl,
  λ b n. if_false _ _ _ (ne_eqb b 10 n),
  λ b input line others n e. if_false _ _ _ (ne_eqb b 10 n) ∙ ap (before b) e,
)

-- However an input is cut: calls of `feed` in turn, each with any piece, and then `end`, write the output of what the calls took. `line` is the
-- 2,049 places for the line in progress, which may hold anything at the start.
pub output_however_cut : (line : List ℕ) (pieces : List (List ℕ)) → length line ≡ 2049
    → let start = held_of line start_fed in
    writes_all start pieces ++ last_answer (leaves_all start pieces).line (leaves_all start pieces).held ≡ output (takes_all pieces)
output_however_cut line pieces long = written_output pieces (held_of line start_fed) [] (start_holds line long)

-- Calls of `feed` in turn, by the definitions that its contract cites: each gets the places and the number that the one before left.
pub feed_after_feed : (h : Held) (piece : List ℕ) (pieces : List (List ℕ))
    → let next : Held = record { line = line_after h.line h.held piece; held = (fed h.line h.held piece).held } in
    (writes_all h [] ≡ []) × (takes_all [] ≡ []) × (leaves_all h [] ≡ h)
    × (writes_all h (piece ∷ pieces) ≡ writes h.line h.held piece ++ writes_all next pieces)
    × (takes_all (piece ∷ pieces) ≡ takes piece ++ takes_all pieces)
    × (leaves_all h (piece ∷ pieces) ≡ leaves_all next pieces)
unfolding writes_all takes_all leaves_all leaves
feed_after_feed h piece pieces = (refl, refl, refl, refl, refl, refl)

-- A caller of `answer_lines`: call after call on a piece,
pub call_after_call : (k : ℕ) (line : List ℕ) (last : Fed) (piece : List ℕ)
    → let next = kept_of (answered_line line last piece) (answered_fed line last piece) in
    (piece_text 0 (kept_of line last) piece ≡ []) × (piece_kept 0 (kept_of line last) piece ≡ kept_of line last)
    × (piece_text (suc k) (kept_of line last) piece
    ≡ (when ltb last.used (length piece) then answered_text line last piece ++ piece_text k next piece else []))
    × (piece_kept (suc k) (kept_of line last) piece ≡ (when ltb last.used (length piece) then piece_kept k next piece else kept_of line last))
unfolding piece_text piece_kept kept_after
call_after_call k line last piece = (refl, refl, refl, refl)

-- and piece after piece, with `next_piece` before each and `end` behind the last.
pub piece_after_piece : (line : List ℕ) (last : Fed) (piece : List ℕ) (pieces : List (List ℕ))
    → let next = kept_of line (next_fed last) in
    (text_of_pieces (kept_of line last) [] ≡ last_answer line last.held)
    × (text_of_pieces (kept_of line last) (piece ∷ pieces)
    ≡ piece_text (length piece) next piece ++ text_of_pieces (piece_kept (length piece) next piece) pieces)
unfolding text_of_pieces next_kept
piece_after_piece line last piece pieces = (refl, refl)

-- A call takes at least one byte, if there is one: of `feed`,
pub something_is_taken : (piece : List ℕ) → 0 < length piece → 0 < length (takes piece)
something_is_taken = takes_some

-- and of `answer_lines`.
pub something_is_answered : (line : List ℕ) (last : Fed) (piece : List ℕ)
    → last.used < length piece → last.used < (answered_fed line last piece).used
something_is_answered = answered_some

-- So a caller has all of its input answered, whatever the pieces, that begins with `start`, calls `next_piece` before each piece and `answer_lines`
-- until the piece is used up, and at the end calls `end`, each with what the last call gave;
pub output_of_pieces : (line : List ℕ) (pieces : List (List ℕ)) → length line ≡ 2049
    → text_of_pieces (start_kept line) pieces ≡ output (joined pieces)
output_of_pieces line pieces long = pieces_output pieces (start_kept line) [] (start_holds line long)

-- and two ways of cutting the same input into pieces give the same output.
pub two_ways_of_cutting : (line line' : List ℕ) (pieces pieces' : List (List ℕ)) → length line ≡ 2049 → length line' ≡ 2049
    → joined pieces ≡ joined pieces'
    → text_of_pieces (start_kept line) pieces ≡ text_of_pieces (start_kept line') pieces'
two_ways_of_cutting line line' pieces pieces' long long' e =
    pieces_output pieces (start_kept line) [] (start_holds line long)
    ∙ ap output e
    ∙ sym (pieces_output pieces' (start_kept line') [] (start_holds line' long'))

-- document 01's three lines
unfoldable pub line1 : List ℕ
line1 = ascii "(card (domain 4142) (calls (a 3) (a 3) (s 3)))"

unfoldable pub line2 : List ℕ
line2 = ascii "(card (domain) (calls (s 1)))"

unfoldable pub line3 : List ℕ
line3 = ascii "(card (domain) (calls (a 0)))"

card1 : CardOf line1 (0x41 ∷ 0x42 ∷ []) (0x80000003 ∷ 0x80000003 ∷ 3 ∷ [])
unfolding line1 all ◌and◌ hex_digit hex separator_text decimal_up_to decimal call_text calls_text card_text is_absorb length_of when◌then◌else◌
card1 = record { short = lit≤ tt; bytes = refl; words = refl; text = refl }

card2 : CardOf line2 [] (1 ∷ [])
unfolding line2 all ◌and◌ hex_digit hex separator_text decimal_up_to decimal call_text calls_text card_text is_absorb length_of when◌then◌else◌
card2 = record { short = lit≤ tt; bytes = refl; words = refl; text = refl }

card3 : CardOf line3 [] (0x80000000 ∷ [])
unfolding line3 all ◌and◌ hex_digit hex separator_text decimal_up_to decimal call_text calls_text card_text is_absorb length_of when◌then◌else◌
card3 = record { short = lit≤ tt; bytes = refl; words = refl; text = refl }

pub answer1 : answer line1 ≡ ascii "(ok 80000006000000034142 1)"
unfolding card_answer ok_text opening_number opening_rows word_rows first_number tag_string string_of tail_of word_bytes digits merged_words phases merge join phase_of word_of is_absorb length_of
    full_permutations permutations_at phase_permutations block_count sum hex_digit hex decimal_up_to decimal when◌then◌else◌ ◌or◌ same any
answer1 = answer_to_card _ _ _ card1 ∙ refl

pub answer2 : answer line2 ≡ ascii "(no 3)"
unfolding card_answer no_text opening_number opening_rows word_rows first_number is_absorb length_of decimal_up_to decimal when◌then◌else◌ ◌or◌ any
answer2 = answer_to_card _ _ _ card2 ∙ refl

pub answer3 : answer line3 ≡ ascii "(no 2)"
unfolding card_answer no_text opening_number opening_rows word_rows first_number is_absorb length_of decimal_up_to decimal when◌then◌else◌ ◌or◌ any
answer3 = answer_to_card _ _ _ card3 ∙ refl

pub three_lines : (a b c : List ℕ) → answer line1 ≡ a → answer line2 ≡ b → answer line3 ≡ c
    → answers (line1 ∷ line2 ∷ line3 ∷ []) ≡ with_newline a ++ (with_newline b ++ (with_newline c ++ []))
unfolding answers
three_lines a b c e f g =
    ap₂ (λ (x y : List ℕ). with_newline x ++ y) e
    (ap₂ (λ (x y : List ℕ). with_newline x ++ y) f (ap (λ (x : List ℕ). with_newline x ++ []) g))
