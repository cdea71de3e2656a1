-- `tag_reader::read_separator` meets its contract.
-- Assumes nothing.
use mathlib.Core.Path.{◌≡◌, ap, ap₂, ◌∙◌}
use mathlib.Core.List.{List}
use Prim.Native.Nat.{ℕ, ◌+◌, ◌≤◌}
use native.Mathlib.Omega.{arith}
use lib.ListN.{length, take, drop}
use Rattle.tag.specs.TagString.{read_separator, separator_start}
use Rattle.tag_reader.specs.Parts.{PartsRead, parts_read}
use Rattle.tag_reader.specs.Answers.{parts_answer}
use Rattle.tag_reader.proofs.Place.{separator_inside, separator_there}
use Rattle.tag_reader.proofs.read_separator.Goals as goal

-- the parts by their definitions
starts : (p : PartsRead) (form : ℕ) (s : List ℕ) (n : ℕ) → p ≡ parts_read form s n → p.start ≡ separator_start form s n
unfolding parts_read
starts p form s n e = ap (λ (q : PartsRead). q.start) e

measures : (p : PartsRead) (form : ℕ) (s : List ℕ) (n : ℕ) → p ≡ parts_read form s n → p.length ≡ length (read_separator form s n)
unfolding parts_read
measures p form s n e = ap (λ (q : PartsRead). q.length) e

-- they lie in the string
inside : (p : PartsRead) (form : ℕ) (s : List ℕ) (n : ℕ) → p ≡ parts_read form s n → p.start + p.length ≤ length s
inside p form s n e = omega (arith, starts p form s n e, measures p form s n e, separator_inside form s n)

-- and are the separator
part : (p : PartsRead) (form : ℕ) (s : List ℕ) (n size : ℕ) → p ≡ parts_read form s n → size ≡ p.length
    → take size (drop p.start s) ≡ read_separator form s n
part p form s n size e is =
    ap₂ (λ (m k : ℕ). take m (drop k s)) (is ∙ measures p form s n e) (starts p form s n e) ∙ separator_there form s n

pub overflow_add-result : goal.overflow_add-result
unfolding parts_answer
overflow_add-result c = omega (arith, inside _ _ _ _ c.in-Ok.ensures)

pub slice_bounds-result-end : goal.slice_bounds-result-end
unfolding parts_answer
slice_bounds-result-end c = omega (arith, inside _ _ _ _ c.in-Ok.ensures)

pub returns-in-Ok : goal.returns-in-Ok
unfolding parts_answer
returns-in-Ok c =
    let args = c.args in
    let at = args.string.ref_ptr in
    (part _ args.form args.string.now args.separator_length _ c.in-Ok.ensures (omega arith), ap (λ (k : ℕ). (at.0, k + at.1)) (starts _ _ _ _ c.in-Ok.ensures))

pub returns-in-Err : goal.returns-in-Err
unfolding parts_answer
returns-in-Err c =
    let args = c.args in
    let at = args.string.ref_ptr in
    (part _ args.form args.string.now args.separator_length _ c.in-Err.ensures (omega arith), ap (λ (k : ℕ). (at.0, k + at.1)) (starts _ _ _ _ c.in-Err.ensures))
