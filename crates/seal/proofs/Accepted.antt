-- Every call of the session of a note is accepted.
-- Assumes nothing.
use mathlib.Core.Path.{◌≡◌, refl, sym, ap, subst, ◌∙◌}
use mathlib.Core.Bool.{true, false}
use mathlib.Core.List.{List, [], ◌∷◌, ◌++◌, zip_with}
use Prim.Native.Nat.{ℕ, ◌+◌, ◌-◌, ◌%◌, ◌≤◌, ◌<◌}
use native.Mathlib.Nat.{mod-lt}
use native.Mathlib.Omega.{arith}
use lib.ListN.{length, take, drop, length-append, length-drop, take-append-drop}
use lib.Seq.{length-take-le}
use Rattle.basics.specs.Logic.{◌or◌, all}
use Rattle.basics.specs.Lists.{joined, total}
use Rattle.basics.specs.Numbers.{accepted}
use Rattle.basics.proofs.Below.{below_nil, below_cons, below_take}
use Rattle.basics.proofs.Cases.{and_left, and_right, all_both, all_append}
use Rattle.field.specs.Field.{modulus, field_of, is_element}
use Rattle.field.specs.declared.Field.{Field}
use Rattle.field.proofs.Moduli.{positive}
use Rattle.words.specs.Words.{Phase}
use Rattle.words.proofs.WordKinds.{word_kind, word_length}
use Rattle.pattern.specs.Opening.{Opening, opening}
use Rattle.session.specs.Record.{field_in}
use Rattle.session.specs.Calls.{start, absorb, squeeze, finish}
use Rattle.session.specs.declared.Session.{Session}
use Rattle.runs.proofs.Opened.{accepted_start}
use Rattle.runs.proofs.Counted.{start_field}
use Rattle.tag.specs.TagString.{is_form}
use Rattle.seal.specs.Seal.{Context, note_form, absorb_word, squeeze_word, block_words, seal_words, started, keyed, keystream, after_block, after_blocks, plus, minus, cipher_blocks, plain_blocks, blocks_of}
use Rattle.seal.specs.Steps.{Starts, AcceptsBlocks}
use Rattle.seal.proofs.Lengths.{declarable, length_bounds}
use Rattle.seal.proofs.Blocks.{plus_length, minus_length}
use Rattle.seal.proofs.Pattern.{words_merged, words_accepted}
use Rattle.seal.proofs.Phases.{At, Absorbed, at_start, at_end, squeeze_phase, absorb_phase}
use Rattle.seal.proofs.Rows.{Passed}

-- blocks of these lengths, of elements
pub data Fit (f : Field) : List ℕ → List (List ℕ) → Type 0 where
  none : Fit f [] []
  more : {n : ℕ} {ns block : List ℕ} {blocks : List (List ℕ)} → length block ≡ n → all (is_element f) block ≡ true → Fit f ns blocks
      → Fit f (n ∷ ns) (block ∷ blocks)

module _ (f : Field) where
  -- a text of elements, in blocks
  pub text_fits : (ns text : List ℕ) → total ns ≤ length text → all (is_element f) text ≡ true → Fit f ns (blocks_of ns text)
  unfolding total blocks_of
  text_fits [] text h e = none
  text_fits (n ∷ ns) text h e =
      more (length-take-le n text (omega arith)) (below_take _ n text e)
      (text_fits ns (drop n text) (omega (arith, length-drop n text)) (below_drop n text e))
    where
      below_drop : (n : ℕ) (text : List ℕ) → all (is_element f) text ≡ true → all (is_element f) (drop n text) ≡ true
      below_drop n text e = (all_append (is_element f) (take n text) (drop n text) (rw (take-append-drop n text) e)).1

  -- how many elements they have
  pub fit_long : {ns : List ℕ} {blocks : List (List ℕ)} → Fit f ns blocks → length (joined blocks) ≡ total ns
  unfolding total joined
  fit_long none = refl
  fit_long (more {block = block} {blocks = blocks} size _ fit) = omega (arith, length-append block (joined blocks), size, fit_long fit)

  pub cipher_long : {ns : List ℕ} {blocks : List (List ℕ)} → Fit f ns blocks → (r : Session) → length (joined (cipher_blocks r blocks)) ≡ total ns
  unfolding total joined cipher_blocks
  cipher_long none r = refl
  cipher_long (more {block = block} {blocks = blocks} size _ fit) r =
      let cipher = plus (field_in r) block (keystream r block) in
      omega (arith, length-append cipher (joined (cipher_blocks (after_block r block) blocks)), plus_length r block (field_in r), size, cipher_long fit (after_block r block))

  -- a session that is to squeeze and absorb blocks of these lengths next, and then to squeeze the mark
  pub record Ready (ns : List ℕ) (r : Session) : Type 0 where
    pub at : At r (block_words ns)
    pub field : field_in r ≡ f

  -- a block: both calls are accepted, and the session is ready for those behind it
  pub record Block (ns : List ℕ) (r : Session) (block : List ℕ) : Type 0 where
    pub squeezes : (squeeze r (length block)).number ≡ accepted
    pub absorbs : (absorb (squeeze r (length block)).session block).number ≡ accepted
    pub next : Ready ns (after_block r block)

  pub block_accepted : (n : ℕ) (ns : List ℕ) (r : Session) (block : List ℕ) → declarable n ≡ true → Ready (n ∷ ns) r → length block ≡ n
      → all (is_element f) block ≡ true → Block ns r block
  unfolding block_words after_block
  block_accepted n ns r block d ready size elements =
      let fits : n < 2147483648 = omega (arith, (length_bounds n d).1) in
      let in-call : Phase = record { absorbs = true; elements = n } in
      let out-call : Phase = record { absorbs = false; elements = n } in
      let s = squeeze_phase r (squeeze_word n) (length block) (absorb_word n ∷ block_words ns) ready.at (word_kind out-call fits)
      (word_length out-call fits ∙ sym size) in
      let field : field_in (squeeze r (length block)).session ≡ f = ap field_of s.field ∙ ready.field in
      let a = absorb_phase (squeeze r (length block)).session (absorb_word n) block (block_words ns) s.at (word_kind in-call fits)
      (word_length in-call fits ∙ sym size) (rw field elements) in
      record { squeezes = s.number; absorbs = a.number; next = record { at = a.at; field = ap field_of a.field ∙ field } }

  -- all blocks
  pub blocks_accepted : (ns : List ℕ) → all declarable ns ≡ true → (r : Session) → Ready ns r → {blocks : List (List ℕ)} → Fit f ns blocks
      → AcceptsBlocks r blocks × Ready [] (after_blocks r blocks)
  unfolding AcceptsBlocks after_blocks all
  blocks_accepted [] d r ready none = (tt, ready)
  blocks_accepted (n ∷ ns) d r ready (more {block = block} size elements fit) =
      let b = block_accepted n ns r block (and_left _ _ d) ready size elements in
      let later = blocks_accepted ns (and_right _ _ d) (after_block r block) b.next fit in
      (((b.squeezes, b.absorbs), later.0), later.1)

  -- the mark, and then FINISH
  pub mark_accepted : (r : Session) → Ready [] r → ((squeeze r 8).number ≡ accepted) × ((finish (squeeze r 8).session).number ≡ accepted)
  unfolding block_words
  mark_accepted r ready =
      let call : Phase = record { absorbs = false; elements = 8 } in
      let s = squeeze_phase r (squeeze_word 8) 8 [] ready.at (word_kind call (omega arith)) (word_length call (omega arith)) in
      (s.number, at_end (squeeze r 8).session s.at)

  -- ---- opening: the plain blocks are blocks of elements, of the cipher blocks' lengths

  pub remainders : (g : ℕ → ℕ → ℕ) (xs ys : List ℕ) → all (is_element f) (zip_with (λ x y. g x y % modulus f) xs ys) ≡ true
  unfolding zip_with
  remainders g [] ys = below_nil (modulus f)
  remainders g (x ∷ xs) [] = below_nil (modulus f)
  remainders g (x ∷ xs) (y ∷ ys) = below_cons (modulus f) (g x y % modulus f) _ (mod-lt (g x y) (positive f)) (remainders g xs ys)

  pub plain_fits : (ns : List ℕ) → all declarable ns ≡ true → (r : Session) → Ready ns r → {blocks : List (List ℕ)} → Fit f ns blocks
      → Fit f ns (plain_blocks r blocks)
  unfolding plain_blocks minus all
  plain_fits [] d r ready none = none
  plain_fits (n ∷ ns) d r ready (more {block = cipher} size elements fit) =
      let plain = minus (field_in r) cipher (keystream r cipher) in
      let long : length plain ≡ n = minus_length r cipher (field_in r) ∙ size in
      let reduced : all (is_element f) plain ≡ true = rw ready.field (remainders (λ x y. x + (modulus f - y)) cipher (keystream r cipher)) in
      let b = block_accepted n ns r plain (and_left _ _ d) ready long reduced in
      more long reduced (plain_fits ns (and_right _ _ d) (after_block r plain) b.next fit)

-- ---- START, and key and nonce

module _ (c : Context) {text : List ℕ} {textMark buffer bufferMark : ℕ} (p : Passed c text textMark buffer bufferMark) where
  abbrev o : Opening
  o = opening (seal_words c.lengths) c.separator

  pub start_accepts : (start c.field note_form (opening (seal_words c.lengths) c.separator)).number ≡ accepted
  unfolding is_form ◌or◌
  start_accepts = accepted_start c.field note_form o p.known refl (words_accepted c.lengths p.lengths c.separator p.short)

  started_at : At (started c) (absorb_word 16 ∷ block_words c.lengths)
  unfolding started seal_words
  started_at = subst (At (started c)) (words_merged c.lengths p.lengths) (at_start c.field note_form o start_accepts)

  started_field : field_in (started c) ≡ field_of c.field
  unfolding started
  started_field = ap field_of (start_field c.field note_form o start_accepts)

  key_absorbed : Absorbed (started c) (c.key ++ c.nonce) (block_words c.lengths)
  key_absorbed =
      let call : Phase = record { absorbs = true; elements = 16 } in
      let long : length (c.key ++ c.nonce) ≡ 16 = omega (arith, length-append c.key c.nonce, p.key_long, p.nonce_long) in
      absorb_phase (started c) (absorb_word 16) (c.key ++ c.nonce) (block_words c.lengths) started_at (word_kind call (omega arith))
      (word_length call (omega arith) ∙ sym long)
      (rw started_field (all_both (is_element (field_of c.field)) c.key c.nonce p.key p.nonce))

  pub key_accepted : (absorb (started c) (c.key ++ c.nonce)).number ≡ accepted
  key_accepted = key_absorbed.number

  pub keyed_ready : Ready (field_of c.field) c.lengths (keyed c)
  unfolding keyed
  keyed_ready = record { at = key_absorbed.at; field = ap field_of key_absorbed.field ∙ started_field }

  pub starts : Starts c
  starts = record { lengths = p.sound; key = p.key_long; nonce = p.nonce_long; start = start_accepts; absorb = key_accepted }
