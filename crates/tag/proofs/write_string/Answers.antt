-- `tag::write_string` meets its contract.
-- Assumes nothing.
use mathlib.Core.Path.{ap, ◌∙◌}
use mathlib.Core.List.{List}
use Prim.Native.Nat.{ℕ}
use Rattle.tag.specs.TagString.{string_of, string_written, string_buffer}
use Rattle.tag.specs.Forms.{form_number}
use Rattle.tag.specs.declared.Form.{Form}
use Rattle.tag.proofs.Named.{string_named}
use Rattle.tag.proofs.write_string.Goals as goal

pub returns : goal.returns
returns c =
    let args = c.args in
    let words = args.words.now in
    let separator = args.separator.now in
    let buffer = args.buffer.now in
    let string =
    ap (λ (f : Form). string_of (form_number f) words separator) c.unwrap_or-form.ensures
    ∙ string_named args.form c.try_from.result words separator c.try_from.ensures in (
      c.put_string.ensures.0 ∙ ap (λ (s : List ℕ). string_written s buffer) string,
      c.put_string.ensures.1 ∙ ap (λ (s : List ℕ). string_buffer s buffer) string,
    )
