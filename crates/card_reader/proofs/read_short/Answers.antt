-- `card_reader::read_short` meets its contract: `Held` holds after each byte, and behind the last it gives the card.
-- Assumes nothing.
use mathlib.Core.Path.{sym, ap}
use Rattle.card_reader.specs.Answers.{card_given}
use Rattle.card_reader.specs.Reading.{reading}
use Rattle.card_grammar.specs.declared.machine.Move.TheVariants.{To, Byte, Word}
use Rattle.card_reader.proofs.FirstItems.{kept_more}
use Rattle.card_reader.proofs.ReadLoop.{held_start, held_next, held_card, held_none}
use Rattle.card_reader.proofs.read_short.Goals.{in-To, in-Byte, in-Word}
use Rattle.card_reader.proofs.read_short.Goals as goal

pub loop-byte-init : goal.loop-byte-init
loop-byte-init c = rw (c.empty-separator.ensures.0, c.empty-separator.ensures.1, c.empty-words.ensures.0, c.empty-words.ensures.1) (held_start _)

pub loop-byte-preserved : goal.loop-byte-preserved
loop-byte-preserved c =
    let held = c.loop-byte.invariant in
    let within = c.loop-byte-test.true in
    elim c.match-step.branch [
      | in-To w ↦
          rw (w.separator-is, w.words-is, w.mode-is)
          (held_next held (To w.in-To.next) within (sym w.in-To.ensures) held.bytes_kept held.calls_kept)
      | in-Byte w ↦
          rw (w.separator-is, w.words-is, w.mode-is, w.keep.ensures.0, w.keep.ensures.1)
          (held_next held (Byte w.in-Byte.value) within (sym w.in-Byte.ensures)
          (kept_more w.in-Byte.value held.bytes_kept) held.calls_kept)
      | in-Word w ↦
          rw (w.separator-is, w.words-is, w.mode-is, w.keep-in-Word.ensures.0, w.keep-in-Word.ensures.1)
          (held_next held (Word w.in-Word.word) within (sym w.in-Word.ensures)
          held.bytes_kept (kept_more w.in-Word.word held.calls_kept))
    ]

pub returns-in_default : goal.returns-in_default
unfolding card_given
returns-in_default c =
    ap reading (sym (held_none c.loop-byte.invariant c.loop-byte-test.false c.requires c.in_default.not-End))

pub returns : goal.returns
unfolding card_given
returns c = held_card c.loop-byte.invariant c.loop-byte-test.false c.requires c.in-End.is
