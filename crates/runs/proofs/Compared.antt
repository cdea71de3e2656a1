-- The third demand, of every two finished sessions.
-- Assumes nothing.
use mathlib.Core.Path.{◌≡◌, sym, ap, ap₂, subst, ◌∙◌}
use mathlib.Core.Logic.{◌↔◌}
use mathlib.Core.List.{List, map}
use Prim.Native.Nat.{ℕ}
use native.Mathlib.Omega.{arith}
use lib.ListN.{length}
use Rattle.sha3.specs.Sponge.{sha3}
use Rattle.words.specs.Words.{Phase, word_of}
use Rattle.pattern.specs.Pattern.{merged_words}
use Rattle.tag.specs.TagString.{tag_string}
use Rattle.tag.specs.Elements.{tag_elements}
use Rattle.tag.proofs.ReadBack.{strings_tell}
use Rattle.session.specs.Record.{tag_state, open_record}
use Rattle.session.specs.Calls.{start_record}
use Rattle.session.specs.declared.Session.{Session}
use Rattle.runs.specs.Blocks.{blocks}
use Rattle.runs.specs.Lengths.{absorb_length, squeeze_length}
use Rattle.runs.specs.Runs.{Run, started_of, tag_of, pattern_of, absorbed_of, squeezed_of, blocks_of, permutations_of}
use Rattle.runs.proofs.Opened.{start_formed, start_accepted, start_record_law}
use Rattle.runs.proofs.ElementKinds.{to_do, to_absorb, absorb_length_law, kinds_length}
use Rattle.runs.proofs.WholePattern.{whole_pattern}
use Rattle.runs.proofs.Trace.{Trace, traced, decided, absorbed_length, trace_length}
use Rattle.runs.proofs.BlockLists.{blocks_tell}

-- a finished session has absorbed all that its pattern declares
pub all_absorbed : (a : Run) → length (absorbed_of a) ≡ absorb_length (pattern_of a)
all_absorbed a =
    absorbed_length (traced (started_of a) a.before a.ends)
    ∙ ap to_absorb (whole_pattern a.field a.form a.opening a.opens)
    ∙ absorb_length_law (pattern_of a)

-- and squeezed all
pub all_squeezed : (a : Run) → length (squeezed_of a) ≡ squeeze_length (pattern_of a)
all_squeezed a =
    let both = trace_length (traced (started_of a) a.before a.ends) in
    let whole = ap length (whole_pattern a.field a.form a.opening a.opens) ∙ kinds_length (pattern_of a) in
    omega (arith, all_absorbed a)

decided_by : {r s t u : Session} {xs vs ys zs : List ℕ} → r ≡ s → xs ≡ vs → Trace (to_do r) r xs ys t → Trace (to_do s) s vs zs u → (ys ≡ zs) × (t ≡ u)
decided_by e x p q = decided (rw (e, x) at p) q

module _
    (a b : Run)
    (f : a.field ≡ b.field)
    (g : a.form ≡ b.form)
    (h : a.form ≡ 1 → length a.opening.separator ≡ length b.opening.separator)
  where
    tags : (tag_of a ≡ tag_of b) ↔ ((pattern_of a ≡ pattern_of b) × (a.opening.separator ≡ b.opening.separator))
    tags =
        subst (λ (form : ℕ). (tag_of a ≡ tag_string form b.opening) ↔ ((pattern_of a ≡ pattern_of b) × (a.opening.separator ≡ b.opening.separator))) g
        (strings_tell a.form (start_formed a.field a.form a.opening a.opens) a.opening b.opening
        (start_accepted a.field a.form a.opening a.opens) (start_accepted b.field b.form b.opening b.opens) h)

    module _ (e : tag_of a ≡ tag_of b) where
      one_pattern : pattern_of a ≡ pattern_of b
      one_pattern = (tags.0 e).0

      one_opening : started_of a ≡ started_of b
      unfolding start_record merged_words
      one_opening =
          start_record_law a.field a.form a.opening a.opens
          ∙ (λ i. open_record (f i) (g i) (tag_state (tag_elements (sha3 (e i)))) (map word_of (one_pattern i)))
          ∙ sym (start_record_law b.field b.form b.opening b.opens)

      one_absorbed : blocks_of a ≡ blocks_of b → absorbed_of a ≡ absorbed_of b
      one_absorbed q =
          blocks_tell (pattern_of b) (absorbed_of a) (absorbed_of b) (all_absorbed a ∙ ap absorb_length one_pattern) (all_absorbed b)
          (sym (ap (λ (ps : List Phase). blocks ps (absorbed_of a)) one_pattern) ∙ q)

      one_squeezed : blocks_of a ≡ blocks_of b → (squeezed_of a ≡ squeezed_of b) × (permutations_of a ≡ permutations_of b)
      one_squeezed q =
          let d = decided_by one_opening (one_absorbed q) (traced (started_of a) a.before a.ends) (traced (started_of b) b.before b.ends) in
          (d.0, ap (λ (r : Session). r.permutations) d.1)

pub demand_3 : (a b : Run) → a.field ≡ b.field → a.form ≡ b.form
    → (a.form ≡ 1 → length a.opening.separator ≡ length b.opening.separator)
    → ((tag_of a ≡ tag_of b) ↔ ((pattern_of a ≡ pattern_of b) × (a.opening.separator ≡ b.opening.separator)))
    × (tag_of a ≡ tag_of b
    → ((blocks_of a ≡ blocks_of b) ↔ (absorbed_of a ≡ absorbed_of b))
    × (blocks_of a ≡ blocks_of b → (squeezed_of a ≡ squeezed_of b) × (permutations_of a ≡ permutations_of b)))
demand_3 a b f g h = (tags a b f g h, λ e. ((one_absorbed a b f g h e, λ q. ap₂ blocks (one_pattern a b f g h e) q), one_squeezed a b f g h e))
