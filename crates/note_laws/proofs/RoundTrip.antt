-- Sealing and opening undo each other, block by block.
-- Assumes nothing.
use mathlib.Core.Path.{◌≡◌, refl, sym, ap, ap₂, ◌∙◌}
use mathlib.Core.Bool.{true}
use mathlib.Core.List.{List, [], ◌∷◌, ◌++◌, zip_with, append_assoc}
use Prim.Native.Nat.{ℕ, ◌+◌, ◌-◌, ◌%◌, ◌<◌}
use native.Mathlib.Nat.{suc_inj}
use native.Mathlib.Omega.{arith}
use lib.ListN.{length, take, drop}
use lib.Seq.{take_at, drop_at, take-add}
use Rattle.basics.specs.Logic.{all}
use Rattle.basics.specs.Lists.{Below, joined, total}
use Rattle.basics.specs.Numbers.{accepted}
use Rattle.basics.proofs.Below.{below_head, below_tail}
use Rattle.basics.proofs.Cases.{and_left, and_right, all_both}
use Rattle.field.specs.Field.{modulus, is_element}
use Rattle.field.specs.declared.Field.{Field}
use Rattle.field.specs.declared.Field.TheVariants.{BabyBear, KoalaBear}
use Rattle.session.specs.Record.{field_in, squeezed_all}
use Rattle.session.specs.Calls.{squeeze}
use Rattle.session.specs.declared.Session.{Session}
use Rattle.seal.specs.Seal.{keystream, after_block, plus, minus, cipher_blocks, plain_blocks, blocks_of}
use Rattle.seal.proofs.Lengths.{declarable}
use Rattle.seal.proofs.Calls.{squeezed_length, squeezed_elements_law}
use Rattle.seal.proofs.Blocks.{plus_length, minus_length}
use Rattle.seal.proofs.Accepted.{Fit, none, more, Ready, block_accepted, remainders}

-- ---- elements

minus_plus : (f : Field) (x y : ℕ) → x < modulus f → y < modulus f → ((x + y) % modulus f + (modulus f - y)) % modulus f ≡ x
minus_plus BabyBear x y hx hy = omega arith
minus_plus KoalaBear x y hx hy = omega arith

plus_minus : (f : Field) (x y : ℕ) → x < modulus f → y < modulus f → ((x + (modulus f - y)) % modulus f + y) % modulus f ≡ x
plus_minus BabyBear x y hx hy = omega arith
plus_minus KoalaBear x y hx hy = omega arith

-- ---- lists of them

module _ (f : Field) where
  minus_plus_list : (xs ys : List ℕ) → length xs ≡ length ys → Below (modulus f) xs → Below (modulus f) ys → minus f (plus f xs ys) ys ≡ xs
  unfolding minus plus zip_with
  minus_plus_list [] ys e hx hy = refl
  minus_plus_list (x ∷ xs) [] e hx hy = absurd (omega arith)
  minus_plus_list (x ∷ xs) (y ∷ ys) e hx hy =
      ap₂ (λ (a : ℕ) (l : List ℕ). a ∷ l) (minus_plus f x y (below_head _ x xs hx) (below_head _ y ys hy))
      (minus_plus_list xs ys (suc_inj e) (below_tail _ x xs hx) (below_tail _ y ys hy))

  plus_minus_list : (xs ys : List ℕ) → length xs ≡ length ys → Below (modulus f) xs → Below (modulus f) ys → plus f (minus f xs ys) ys ≡ xs
  unfolding minus plus zip_with
  plus_minus_list [] ys e hx hy = refl
  plus_minus_list (x ∷ xs) [] e hx hy = absurd (omega arith)
  plus_minus_list (x ∷ xs) (y ∷ ys) e hx hy =
      ap₂ (λ (a : ℕ) (l : List ℕ). a ∷ l) (plus_minus f x y (below_head _ x xs hx) (below_head _ y ys hy))
      (plus_minus_list xs ys (suc_inj e) (below_tail _ x xs hx) (below_tail _ y ys hy))

  -- ---- a block: the elements squeezed for it are those of its length alone

  module _ (r : Session) (block : List ℕ) (field : field_in r ≡ f) (elements : all (is_element f) block ≡ true) (squeezes : (squeeze r (length block)).number ≡ accepted) where
    stream_below : Below (modulus f) (keystream r block)
    stream_below = rw field at (squeezed_elements_law r (length block) squeezes)

    abbrev as_long : length block ≡ length (keystream r block)
    as_long = sym (squeezed_length (length block) r)

    opens_block : let cipher = plus (field_in r) block (keystream r block) in minus (field_in r) cipher (keystream r cipher) ≡ block
    opens_block =
        ap (minus (field_in r) (plus (field_in r) block (keystream r block))) (ap (squeezed_all r) (plus_length r block (field_in r)))
        ∙ rw field (minus_plus_list block (keystream r block) as_long elements stream_below)

    seals_block : let plain = minus (field_in r) block (keystream r block) in plus (field_in r) plain (keystream r plain) ≡ block
    seals_block =
        ap (plus (field_in r) (minus (field_in r) block (keystream r block))) (ap (squeezed_all r) (minus_length r block (field_in r)))
        ∙ rw field (plus_minus_list block (keystream r block) as_long elements stream_below)

  -- ---- all blocks

  pub opens_sealed : (ns : List ℕ) → all declarable ns ≡ true → (r : Session) → Ready f ns r → {blocks : List (List ℕ)} → Fit f ns blocks
      → plain_blocks r (cipher_blocks r blocks) ≡ blocks
  unfolding plain_blocks cipher_blocks all
  opens_sealed [] d r ready none = refl
  opens_sealed (n ∷ ns) d r ready (more {block = block} {blocks = blocks} size elements fit) =
      let b = block_accepted f n ns r block (and_left _ _ d) ready size elements in
      ap (λ (l : List ℕ). l ∷ plain_blocks (after_block r l) (cipher_blocks (after_block r block) blocks))
      (opens_block r block ready.field elements b.squeezes)
      ∙ ap (λ (ls : List (List ℕ)). block ∷ ls) (opens_sealed ns (and_right _ _ d) (after_block r block) b.next fit)

  pub seals_opened : (ns : List ℕ) → all declarable ns ≡ true → (r : Session) → Ready f ns r → {blocks : List (List ℕ)} → Fit f ns blocks
      → cipher_blocks r (plain_blocks r blocks) ≡ blocks
  unfolding plain_blocks cipher_blocks minus all
  seals_opened [] d r ready none = refl
  seals_opened (n ∷ ns) d r ready (more {block = block} {blocks = blocks} size elements fit) =
      let plain = minus (field_in r) block (keystream r block) in
      let long = minus_length r block (field_in r) in
      let reduced : all (is_element f) plain ≡ true = rw ready.field (remainders f (λ x y. x + (modulus f - y)) block (keystream r block)) in
      let b = block_accepted f n ns r plain (and_left _ _ d) ready (long ∙ size) reduced in
      ap₂ (λ (l : List ℕ) (ls : List (List ℕ)). l ∷ ls)
      (seals_block r block ready.field elements (sym (ap (λ (k : ℕ). (squeeze r k).number) long) ∙ b.squeezes))
      (seals_opened ns (and_right _ _ d) (after_block r plain) b.next fit)

  pub cipher_fits : (ns : List ℕ) → all declarable ns ≡ true → (r : Session) → Ready f ns r → {blocks : List (List ℕ)} → Fit f ns blocks
      → Fit f ns (cipher_blocks r blocks)
  unfolding cipher_blocks plus all
  cipher_fits [] d r ready none = none
  cipher_fits (n ∷ ns) d r ready (more {block = block} size elements fit) =
      let b = block_accepted f n ns r block (and_left _ _ d) ready size elements in
      let reduced : all (is_element f) (plus (field_in r) block (keystream r block)) ≡ true = rw ready.field (remainders f (λ x y. x + y) block (keystream r block)) in
      more (plus_length r block (field_in r) ∙ size) reduced
      (cipher_fits ns (and_right _ _ d) (after_block r block) b.next fit)

  -- ---- blocks laid side by side, and cut again

  pub blocks_again : {ns : List ℕ} {blocks : List (List ℕ)} → Fit f ns blocks → (rest : List ℕ) → blocks_of ns (joined blocks ++ rest) ≡ blocks
  unfolding blocks_of joined
  blocks_again none rest = refl
  blocks_again (more {n = n} {ns = ns} {block = block} {blocks = blocks} size _ fit) rest =
      let whole = append_assoc block (joined blocks) rest in
      ap₂ (λ (l : List ℕ) (ls : List (List ℕ)). l ∷ ls) (ap (take n) whole ∙ take_at block (joined blocks ++ rest) n size)
      (ap (λ (l : List ℕ). blocks_of ns (drop n l)) whole ∙ ap (blocks_of ns) (drop_at block (joined blocks ++ rest) n size) ∙ blocks_again fit rest)

  pub fit_elements : {ns : List ℕ} {blocks : List (List ℕ)} → Fit f ns blocks → all (is_element f) (joined blocks) ≡ true
  unfolding joined all
  fit_elements none = refl
  fit_elements (more {block = block} {blocks = blocks} _ elements fit) = all_both (is_element f) block (joined blocks) elements (fit_elements fit)

pub joined_again : (ns text : List ℕ) → joined (blocks_of ns text) ≡ take (total ns) text
unfolding blocks_of joined total
joined_again [] text = refl
joined_again (n ∷ ns) text = ap (λ (l : List ℕ). take n text ++ l) (joined_again ns (drop n text)) ∙ sym (take-add n (total ns) text)
