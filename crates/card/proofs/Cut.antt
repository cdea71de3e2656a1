-- Words cut to 65 and a separator cut to 257 bytes change no answer: START turns longer ones away, and by the same number.
-- Assumes nothing.
use mathlib.Core.Path.{◌≡◌, sym, ap, ◌∙◌}
use mathlib.Core.List.{List}
use mathlib.Core.Logic.{◌≢◌}
use Prim.Native.Nat.{ℕ, ◌<◌}
use native.Mathlib.Omega.{arith}
use borrow.Author.Tests.{lt-ltb, ltb-true, ltb-false}
use lib.Dec.{ltb}
use lib.ListN.{length, take}
use lib.Seq.{length-take-le, take_all}
use Rattle.basics.specs.Numbers.{accepted, word_count_out_of_range}
use Rattle.basics.specs.Refusals.{first_number}
use Rattle.basics.proofs.Cases.{cases, if_true}
use Rattle.pattern.specs.Pattern.{max_words}
use Rattle.pattern.specs.Opening.{opening, max_separator, word_rows, opening_rows, opening_number}
use Rattle.pattern.proofs.StartCheck.{passed_rows, over_64_words}
use Rattle.card.specs.Answer.{no_text, card_answer}
use Rattle.card.proofs.CardAnswer.{refused_answer}

-- more than 64 words, whatever they are
many_words : (ws separator : List ℕ) → max_words < length ws → card_answer (opening ws separator) ≡ no_text word_count_out_of_range
unfolding opening_number opening_rows word_rows first_number
many_words ws separator h =
    let e : opening_number (opening ws separator) ≡ word_count_out_of_range = if_true _ _ _ (over_64_words ws h) in
    refused_answer (opening ws separator) (λ z. omega (arith, e, z)) ∙ ap no_text e

-- more than 256 bytes, whatever they are
long_number : (ws s t : List ℕ) → max_separator < length s → max_separator < length t
    → opening_number (opening ws s) ≡ opening_number (opening ws t)
unfolding opening_number opening_rows
long_number ws s t h k = rw (lt-ltb max_separator (length s) h, lt-ltb max_separator (length t) k)

long_refused : (ws s : List ℕ) → max_separator < length s → opening_number (opening ws s) ≢ accepted
long_refused ws s h e = let short = (passed_rows (opening ws s) e).short in omega arith

long_separator : (ws s t : List ℕ) → max_separator < length s → max_separator < length t → card_answer (opening ws s) ≡ card_answer (opening ws t)
long_separator ws s t h k =
    refused_answer (opening ws s) (long_refused ws s h)
    ∙ ap no_text (long_number ws s t h k)
    ∙ sym (refused_answer (opening ws t) (long_refused ws t k))

cut_words_law : (ws separator : List ℕ) → card_answer (opening (take 65 ws) separator) ≡ card_answer (opening ws separator)
cut_words_law ws separator =
    cases (ltb max_words (length ws))
    (λ e.
    let h = ltb-true max_words (length ws) e in
    let long = length-take-le 65 ws h in
    many_words (take 65 ws) separator (omega arith) ∙ sym (many_words ws separator h))
    λ e. let h = ltb-false max_words (length ws) e in ap (λ (l : List ℕ). card_answer (opening l separator)) (take_all 65 ws (omega arith))

cut_separator : (ws separator : List ℕ) → card_answer (opening ws (take 257 separator)) ≡ card_answer (opening ws separator)
cut_separator ws separator =
    cases (ltb max_separator (length separator))
    (λ e.
    let h = ltb-true max_separator (length separator) e in
    let long = length-take-le 257 separator h in
    long_separator ws (take 257 separator) separator (omega arith) h)
    λ e. let h = ltb-false max_separator (length separator) e in ap (λ (s : List ℕ). card_answer (opening ws s)) (take_all 257 separator (omega arith))

pub cut_answer_law : (ws separator : List ℕ) → card_answer (opening (take 65 ws) (take 257 separator)) ≡ card_answer (opening ws separator)
cut_answer_law ws separator = cut_words_law ws (take 257 separator) ∙ cut_separator ws separator
