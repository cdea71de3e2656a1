-- A pass over a note, block by block, which writes each block's result in its place: sealing, and opening.
-- Assumes nothing.
use mathlib.Core.Path.{◌≡◌, refl, sym, ap, ap₂, subst, ◌∙◌}
use mathlib.Core.List.{List, [], ◌∷◌, ◌++◌, append_assoc, append-nil}
use Prim.Native.Nat.{ℕ, ◌+◌, ◌-◌, ◌≤◌, ◌<◌, zero-le}
use native.Mathlib.Numerals.{add-one}
use native.Mathlib.Omega.{arith}
use lib.ListN.{length, get_or, take, drop, length-append, length-drop, drop_of_length-le}
use lib.Seq.{drop-cons, drop-drop, length-take-le, take_all, take_at}
use Rattle.basics.specs.Lists.{joined, total}
use Rattle.session.specs.declared.Session.{Session}
use Rattle.seal.specs.Seal.{blocks_of}
use Rattle.seal.proofs.Lengths.{total_step, total_end}

-- how many places lie between a block's begin and its end
pub span : (at n : ℕ) → at + n - at ≡ n
span at n = omega arith

-- the blocks that are left behind the first i, from a place of the text on
abbrev pub rest : List ℕ → List ℕ → ℕ → ℕ → List (List ℕ)
rest lengths text i at = blocks_of (drop i lengths) (drop at text)

module _ (lengths text : List ℕ) (i at : ℕ) where
  pub next_block : i < length lengths → let n = get_or lengths i 0 in rest lengths text i at ≡ take n (drop at text) ∷ rest lengths text (i + 1) (at + n)
  unfolding blocks_of
  next_block h =
      let n = get_or lengths i 0 in
      ap (λ (ns : List ℕ). blocks_of ns (drop at text)) (drop-cons lengths i 0 h)
      ∙ ap₂ (λ (k : ℕ) (l : List ℕ). take n (drop at text) ∷ blocks_of (drop k lengths) l) (sym (add-one i)) (drop-drop n at text)

  no_block : length lengths ≤ i → rest lengths text i at ≡ []
  unfolding blocks_of
  no_block h = ap (λ (ns : List ℕ). blocks_of ns (drop at text)) (drop_of_length-le lengths h)

-- outs are the results of blocks, ends the record after them, and asks what is needed for them
module _ (outs : Session → List (List ℕ) → List (List ℕ)) (ends : Session → List (List ℕ) → Session) (asks : Session → List (List ℕ) → Type 0) where
  -- behind i blocks, at a place of text and buffer
  pub record Passing (lengths text : List ℕ) (r₀ : Session) (i at : ℕ) (r : Session) (out : List ℕ) : Type 0 where
    pub within : i ≤ length lengths
    pub sum : at + total (drop i lengths) ≡ total lengths
    pub long : length out ≡ total lengths
    pub written : take at out ++ joined (outs r (rest lengths text i at)) ≡ joined (outs r₀ (blocks_of lengths text))
    pub after : ends r (rest lengths text i at) ≡ ends r₀ (blocks_of lengths text)
    pub asked : asks r (rest lengths text i at)

  pub pass_begin_law : (lengths text : List ℕ) (r : Session) (out : List ℕ) → length out ≡ total lengths → asks r (blocks_of lengths text)
      → Passing lengths text r 0 0 r out
  pass_begin_law lengths text r out e a = record { within = zero-le; sum = omega arith; long = e; written = refl; after = refl; asked = a }

  module _ {lengths text out : List ℕ} {r₀ r : Session} {i at : ℕ} (p : Passing lengths text r₀ i at r out) where
    -- there is room for the block
    module _ (h : i < length lengths) where
      abbrev n : ℕ
      n = get_or lengths i 0

      pub pass_room : at + n ≤ total lengths
      pass_room = omega (arith, p.sum, total_step lengths i h)

      pub pass_asked : asks r (take n (drop at text) ∷ rest lengths text (i + 1) (at + n))
      pass_asked = subst (asks r) (next_block lengths text i at h) p.asked

      -- one block more
      pub pass_step_law : (block : List ℕ) (next : Session) → length block ≡ n
          → ((bs : List (List ℕ)) → outs r (take n (drop at text) ∷ bs) ≡ block ∷ outs next bs)
          → ((bs : List (List ℕ)) → ends r (take n (drop at text) ∷ bs) ≡ ends next bs)
          → asks next (rest lengths text (i + 1) (at + n))
          → Passing lengths text r₀ (i + 1) (at + n) next (take at out ++ (block ++ drop n (drop at out)))
      unfolding joined
      pass_step_law block next size wrote ended asked =
          let room = pass_room in
          let long = p.long in
          let front : length (take at out) ≡ at = length-take-le at out (omega arith) in
          let behind = drop n (drop at out) in
          let blocks = rest lengths text (i + 1) (at + n) in
          let left = next_block lengths text i at h in
          record {
            within = omega arith;
            sum = omega (arith, p.sum, total_step lengths i h);
            long = omega (
              arith,
              length-append (take at out) (block ++ behind),
              length-append block behind,
              length-drop n (drop at out),
              length-drop at out,
            );
            written = ap (λ (l : List ℕ). take (at + n) l ++ joined (outs next blocks)) (sym (append_assoc (take at out) block behind))
                ∙ ap (λ (l : List ℕ). l ++ joined (outs next blocks))
                (take_at (take at out ++ block) behind (at + n) (omega (arith, length-append (take at out) block)))
                ∙ append_assoc (take at out) block (joined (outs next blocks))
                ∙ ap (λ (bs : List (List ℕ)). take at out ++ joined bs) (sym (wrote blocks))
                ∙ ap (λ (bs : List (List ℕ)). take at out ++ joined (outs r bs)) (sym left)
                ∙ p.written;
            after = sym (ended blocks) ∙ ap (ends r) (sym left) ∙ p.after;
            asked = asked;
          }

    -- none is left
    module _ (h : length lengths ≤ i) where
      pub pass_end : outs r [] ≡ [] → out ≡ joined (outs r₀ (blocks_of lengths text))
      unfolding joined
      pass_end none =
          let long = p.long in
          sym (take_all at out (omega (arith, p.sum, total_end lengths i h)))
          ∙ sym (append-nil (take at out))
          ∙ ap (λ (bs : List (List ℕ)). take at out ++ joined bs) (sym none)
          ∙ ap (λ (bs : List (List ℕ)). take at out ++ joined (outs r bs)) (sym (no_block lengths text i at h))
          ∙ p.written

      pub pass_last : ends r [] ≡ r → r ≡ ends r₀ (blocks_of lengths text)
      pass_last none = sym none ∙ ap (ends r) (sym (no_block lengths text i at h)) ∙ p.after
