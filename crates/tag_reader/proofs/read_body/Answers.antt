-- `tag_reader::read_body` meets its contract.
-- Assumes nothing.
use mathlib.Core.Path.{refl, sym, ◌∙◌}
use Rattle.basics.specs.Answers.{number_of}
use Rattle.pattern.specs.Answers.{words_answer}
use lib.Seq.{length-take-le}
use Rattle.tag.proofs.Reading.{body_refused, body_accepted, number_6, number_13_short, number_13, number_0, length_part, cut_word, too_long_law, sound_test, answer}
use borrow.Author.Rules.{rules}
use Rattle.tag_reader.proofs.read_body.Goals as goal

pub returns-then-separator_length-gt-MAX_SEPARATOR : goal.returns-then-separator_length-gt-MAX_SEPARATOR
unfolding words_answer number_of
returns-then-separator_length-gt-MAX_SEPARATOR c =
    let args = c.args in
    sym (body_refused args.body.now args.separator_length _ refl (number_6 args.body.now args.separator_length (search rules)))

pub returns-then-body-separator_length : goal.returns-then-body-separator_length
unfolding words_answer number_of
returns-then-body-separator_length c =
    let args = c.args in
    sym
    (body_refused args.body.now args.separator_length _ refl
    (number_13_short args.body.now args.separator_length (search rules) (search rules)))

pub returns-then-length-ne0 : goal.returns-then-length-ne0
unfolding words_answer number_of
returns-then-length-ne0 c =
    sym
    (body_refused c.args.body.now c.args.separator_length _ refl
    (number_13 c.args.body.now c.args.separator_length c.if-separator_length-gt-MAX_SEPARATOR.false c.if-body-separator_length.false (cut_word c.args.body.now c.args.separator_length c.if-body-separator_length.false c.words_length-length.result c.words_length-length.ensures (search rules))))

pub returns-then-count-gt-MAX_WORDS : goal.returns-then-count-gt-MAX_WORDS
unfolding words_answer number_of
returns-then-count-gt-MAX_WORDS c =
    sym
    (body_refused c.args.body.now c.args.separator_length _ refl
    (number_13 c.args.body.now c.args.separator_length c.if-separator_length-gt-MAX_SEPARATOR.false c.if-body-separator_length.false (too_long_law c.args.body.now c.args.separator_length c.if-body-separator_length.false c.words_length-length.result c.words_length-length.ensures (search rules))))

pub slice_bounds-words_of-end : goal.slice_bounds-words_of-end
slice_bounds-words_of-end c =
    sym (length_part c.args.body.now c.args.separator_length c.if-body-separator_length.false c.words_length-length.result c.words_length-length.ensures)

pub words_of-list-requires : goal.words_of-list-requires
words_of-list-requires c =
    rw (length_part c.args.body.now c.args.separator_length c.if-body-separator_length.false c.words_length-length.result c.words_length-length.ensures) (search rules)

pub slice_bounds-is_sound-end : goal.slice_bounds-is_sound-end
slice_bounds-is_sound-end c = sym (length-take-le _ _ (search rules))

pub returns-then-is_sound : goal.returns-then-is_sound
unfolding words_answer
returns-then-is_sound c =
    let read = c.words_of-list in
    let tested =
    sound_test c.args.body.now c.args.separator_length c.if-body-separator_length.false c.words_length-length.result
    c.words_length-length.ensures c.if-length-ne0.false read.result _ read.ensures c.is_sound.ensures in
    answer c.args.body.now c.args.separator_length c.if-body-separator_length.false c.words_length-length.result c.words_length-length.ensures read.result read.ensures
    ∙ sym (body_accepted c.args.body.now c.args.separator_length (number_0 c.args.body.now c.args.separator_length c.if-separator_length-gt-MAX_SEPARATOR.false c.if-body-separator_length.false (tested ∙ c.if-is_sound.true)))

pub returns : goal.returns
unfolding words_answer number_of
returns c =
    let read = c.words_of-list in
    let tested =
    sound_test c.args.body.now c.args.separator_length c.if-body-separator_length.false c.words_length-length.result
    c.words_length-length.ensures c.if-length-ne0.false read.result _ read.ensures c.is_sound.ensures in
    sym (body_refused c.args.body.now c.args.separator_length _ refl (number_13 c.args.body.now c.args.separator_length c.if-separator_length-gt-MAX_SEPARATOR.false c.if-body-separator_length.false (tested ∙ c.if-is_sound.false)))
