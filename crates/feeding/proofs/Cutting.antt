-- A file that is fed in lumps, cut anywhere: what bytes of the GSI block, of an unfinished block, to the end of a block, and of whole blocks do.
-- Assumes nothing.
use Prim.Native.Nat.{ℕ, zero, suc, ◌+◌, ◌*◌, ◌-◌, ◌≤◌, ◌<◌, min}
use native.Mathlib.Omega.{arith}
use mathlib.Core.Path.{◌≡◌, refl, sym, ap, ap₂, ◌∙◌}
use mathlib.Core.List.{List, [], ◌∷◌, ◌++◌, append-nil}
use lib.ListN.{length, take, drop, take-append-drop, length-append, length-drop, drop_of_length-le}
use lib.Seq.{append_snoc, length-take-le, take_at, drop_at, take_all}
use borrow.Author.Tests.{lt-ltb, le-ltb}
use Rattle.meaning.specs.declared.Format.{Format}
use Rattle.meaning.specs.Blocks.{gsi_size, block_size, blocks}
use Rattle.meaning.specs.Gsi.{most_blocks, format_of}
use Rattle.meaning.specs.Walk.{Outcome, step, steps, set_rule}
use Rattle.meaning.proofs.Logic.{by_le}
use Rattle.closed.specs.Body.{Body, lay_set}
use Rattle.feeding.specs.Feeding.{Check, with_gsi, with_part, with_walk, with_block, walked, with_bytes, with_byte, fed}

-- two lumps are as one
pub fed-append : (c : Check) (xs ys : List ℕ) → fed c (xs ++ ys) ≡ fed (fed c xs) ys
unfolding fed
fed-append c [] ys = refl
fed-append c (b ∷ xs) ys = fed-append (with_byte c b) xs ys

-- one byte more of the GSI block
pub byte-gsi : (c : Check) (b : ℕ) → length c.gsi < gsi_size → with_byte c b ≡ with_gsi c (c.gsi ++ (b ∷ []))
unfolding with_byte
byte-gsi c b h = rw (lt-ltb (length c.gsi) gsi_size h, with_byte)

-- bytes of the GSI block
pub fed-gsi : (c : Check) (xs : List ℕ) → length c.gsi + length xs ≤ gsi_size → fed c xs ≡ with_gsi c (c.gsi ++ xs)
unfolding fed
fed-gsi c [] h = sym (ap (with_gsi c) (append-nil c.gsi))
fed-gsi c (b ∷ xs) h =
    ap (λ (d : Check). fed d xs) (byte-gsi c b (omega arith))
    ∙ fed-gsi (with_gsi c (c.gsi ++ (b ∷ []))) xs (simp length-append (omega arith))
    ∙ ap (with_gsi c) (append_snoc c.gsi b xs)

-- one byte more of a block: it stays unfinished, or becomes whole
module _ (c : Check) (b : ℕ) (g : gsi_size ≤ length c.gsi) where
  byte-bytes : with_byte c b ≡ with_bytes c (c.part ++ (b ∷ []))
  unfolding with_byte
  byte-bytes = rw (le-ltb (length c.gsi) gsi_size g, with_byte)

  pub byte-part : suc (length c.part) < block_size → with_byte c b ≡ with_part c (c.part ++ (b ∷ []))
  unfolding with_bytes
  byte-part h =
      let l : length (c.part ++ (b ∷ [])) < block_size = simp length-append (omega arith) in
      byte-bytes ∙ rw (lt-ltb (length (c.part ++ (b ∷ []))) block_size l, with_bytes)

  pub byte-block : block_size ≤ suc (length c.part) → with_byte c b ≡ with_block c (c.part ++ (b ∷ []))
  unfolding with_bytes
  byte-block h =
      let l : block_size ≤ length (c.part ++ (b ∷ [])) = simp length-append (omega arith) in
      byte-bytes ∙ rw (le-ltb (length (c.part ++ (b ∷ []))) block_size l, with_bytes)

-- bytes of a block that stays unfinished
pub fed-part :
    (c : Check) (xs : List ℕ) → gsi_size ≤ length c.gsi → length c.part + length xs < block_size → fed c xs ≡ with_part c (c.part ++ xs)
unfolding fed
fed-part c [] g h = sym (ap (with_part c) (append-nil c.part))
fed-part c (b ∷ xs) g h =
    ap (λ (d : Check). fed d xs) (byte-part c b g (omega arith))
    ∙ fed-part (with_part c (c.part ++ (b ∷ []))) xs g (simp length-append (omega arith))
    ∙ ap (with_part c) (append_snoc c.part b xs)

-- bytes to the end of a block
pub fed-block :
    (c : Check) (xs : List ℕ) → gsi_size ≤ length c.gsi → length c.part < block_size → length c.part + length xs ≡ block_size
    → fed c xs ≡ with_block c (c.part ++ xs)
unfolding fed with_block
fed-block c [] g p h = absurd (omega arith)
fed-block c (b ∷ []) g p h = byte-block c b g (omega arith)
fed-block c (b ∷ d ∷ xs) g p h =
    ap (λ (e : Check). fed e (d ∷ xs)) (byte-part c b g (omega arith))
    ∙ fed-block (with_part c (c.part ++ (b ∷ []))) (d ∷ xs) g (simp length-append (omega arith)) (simp length-append (omega arith))
    ∙ ap (with_block c) (append_snoc c.part b (d ∷ xs))

-- a whole block is walked over, or stands behind all that TNB can count
module _ (c : Check) (b : List ℕ) where
  pub block-counted :
      c.count < most_blocks
      → with_block c b
      ≡ (let f = format_of c.mode c.gsi in with_walk c (suc c.count) (step f (set_rule f) (lay_set f) c.count c.outcome b))
  unfolding with_block
  block-counted h = rw (lt-ltb c.count most_blocks h, with_block)

  pub block-passed : most_blocks ≤ c.count → with_block c b ≡ with_walk c (suc most_blocks) c.outcome
  unfolding with_block
  block-passed h = rw (le-ltb c.count most_blocks h, with_block)

-- one whole block
pub one_block : (c : Check) (b : List ℕ) → c.count ≤ suc most_blocks → length b ≡ block_size → with_block c b ≡ walked c 1 b
unfolding steps blocks
one_block c b k e =
    by_le (suc c.count) most_blocks
    (λ h.
    let z : suc c.count ≡ min (c.count + 1) (suc most_blocks) = omega arith in
    let n : min 1 (most_blocks - c.count) ≡ 1 = omega arith in
    block-counted c b h ∙ ap₂ (with_walk c) z (rw (n, take_all block_size b (omega arith))))
    (λ h.
    let z : suc most_blocks ≡ min (c.count + 1) (suc most_blocks) = omega arith in
    let n : min 1 (most_blocks - c.count) ≡ 0 = omega arith in
    block-passed c b (omega arith) ∙ ap₂ (with_walk c) z (rw n))

-- of the blocks that TNB can count, the first is walked over, and then the others
steps_on :
    (f : Format) (place : ℕ) (o : Outcome Body) (n : ℕ) (b ys : List ℕ) → length b ≡ block_size
    → steps f (set_rule f) (lay_set f) (min (place + 1) (suc most_blocks))
    (steps f (set_rule f) (lay_set f) place o (blocks (min 1 (most_blocks - place)) b))
    (blocks (min n (most_blocks - min (place + 1) (suc most_blocks))) ys)
    ≡ steps f (set_rule f) (lay_set f) place o (blocks (min (suc n) (most_blocks - place)) (b ++ ys))
unfolding steps blocks
steps_on f place o n b ys e =
    by_le (suc place) most_blocks
    (λ h.
    let z : min (place + 1) (suc most_blocks) ≡ suc place = omega arith in
    let l : min 1 (most_blocks - place) ≡ 1 = omega arith in
    let m : min (suc n) (most_blocks - place) ≡ suc (min n (most_blocks - suc place)) = omega arith in
    rw (z, l, m, take_at b ys block_size e, drop_at b ys block_size e, take_all block_size b (omega arith)))
    (λ h.
    let k : min n (most_blocks - min (place + 1) (suc most_blocks)) ≡ 0 = omega arith in
    let l : min 1 (most_blocks - place) ≡ 0 = omega arith in
    let m : min (suc n) (most_blocks - place) ≡ 0 = omega arith in
    rw (k, l, m))

walked_on : (c : Check) (n : ℕ) (b ys : List ℕ) → length b ≡ block_size → walked (walked c 1 b) n ys ≡ walked c (suc n) (b ++ ys)
walked_on c n b ys e =
    let z : min (min (c.count + 1) (suc most_blocks) + n) (suc most_blocks) ≡ min (c.count + suc n) (suc most_blocks) = omega arith in
    ap₂ (with_walk c) z (steps_on (format_of c.mode c.gsi) c.count c.outcome n b ys e)

-- whole blocks, from the end of one on
pub fed-blocks :
    (c : Check) (n : ℕ) (xs : List ℕ) → gsi_size ≤ length c.gsi → c.part ≡ [] → c.count ≤ suc most_blocks → length xs ≡ block_size * n
    → fed c xs ≡ walked c n xs
unfolding fed steps blocks
fed-blocks c zero xs g p k e =
    let z : c.count ≡ min (c.count + 0) (suc most_blocks) = omega arith in
    let m : min 0 (most_blocks - c.count) ≡ 0 = omega arith in
    ap (fed c) (drop_of_length-le xs {i = 0} (omega arith)) ∙ ap (with_part c) p ∙ ap₂ (with_walk c) z (rw m)
fed-blocks c (suc n) xs g p k e =
    let b = take block_size xs in
    let l : length b ≡ block_size = length-take-le block_size xs (omega arith) in
    let q : length c.part ≡ 0 = ap length p in
    ap (fed c) (sym (take-append-drop block_size xs))
    ∙ fed-append c b (drop block_size xs)
    ∙ ap (λ (d : Check). fed d (drop block_size xs))
    (fed-block c b g (omega arith) (omega arith) ∙ ap (λ (a : List ℕ). with_block c (a ++ b)) p ∙ one_block c b k l)
    ∙ fed-blocks (walked c 1 b) n (drop block_size xs) g refl (omega arith) (simp length-drop (omega arith))
    ∙ walked_on c n b (drop block_size xs) l
    ∙ ap (walked c (suc n)) (take-append-drop block_size xs)
